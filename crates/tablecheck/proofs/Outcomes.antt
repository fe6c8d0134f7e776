-- The report from what is kept of all pairs; and the outcome of the check of tables: a refusal of the tables, a report that is too long, and one that is
-- written.
use Rattle.std.specs.Prelude.{Ok, Err}
use mathlib.Core.Path.{◌≡◌, refl, ap, ◌∙◌}
use mathlib.Core.List.{List, [], flat_map}
use mathlib.Core.Option.{none, some}
use Prim.Native.Nat.{ℕ, ◌+◌, ◌≤◌, ◌<◌}
use native.Mathlib.Omega.{arith}
use borrow.Author.Tests.{lt-ltb, le-ltb}
use lib.ListN.{length}
use Rattle.model.specs.Bytes.{Bytes}
use Rattle.model.specs.Compare.{Tables, Finding, findings, Result, result_of}
use Rattle.model.specs.Checks.{when, ◌then◌, check_tables, check_output}
use Rattle.model.specs.Calls.{full, answer, buffer_after}
use Rattle.model.specs.Answers.{refusal_of, comparison_result}
use Rattle.model.specs.Report.{finding_line, report}
use Rattle.model.specs.TextCheck.{reported_of, check_read, report_of}
use Rattle.model.specs.declared.Reason.{Reason}
use Rattle.model.specs.declared.Reason.TheVariants as reason
use Rattle.model.specs.declared.Comparison.{Comparison}
use Rattle.report.specs.Put.{Put}
use Rattle.reporting.specs.Lines.{report_from}
use Rattle.reporting.proofs.Parts.{report_length, report-size, report-from}
use Rattle.totals.specs.declared.Kept.{Kept}
use Rattle.totals.specs.Kept.{KeptOf}
use Rattle.tablecheck.specs.Outcomes.{measured_of, Gives}

-- ---- the report

-- the lines are no longer than the report
pub lines-short : (fs : List Finding) → length (flat_map finding_line fs) ≤ length (report fs)
lines-short fs = omega (arith, ap length (report-from fs), report_length (flat_map finding_line fs) (result_of fs))

module _ {fs : List Finding} {lines : List ℕ} {k : Kept} (p : KeptOf fs lines k) where
  -- the lines with the result that is kept make the report
  pub kept-report : report_from (flat_map finding_line fs) (comparison_result k.result) ≡ report fs
  kept-report = ap (report_from (flat_map finding_line fs)) p.result ∙ report-from fs

  -- and have its length
  pub kept_length : length (report_from [] (comparison_result k.result)) + k.bytes ≡ length (report fs)
  kept_length = omega (arith, p.bytes, report-size (flat_map finding_line fs) (comparison_result k.result), ap length kept-report)

-- ---- the outcome

module _ (t : Tables) (buffer : Bytes) where
  -- a refusal of the tables is that of the check, and the buffer is untouched
  pub outcome_refused : {r : Reason} → check_tables t ≡ some (refusal_of r) → Gives (check_read (length buffer) (full t)) buffer buffer (Err r)
  unfolding check_read ◌then◌ answer measured_of report_of buffer_after
  outcome_refused e = rw e (record { answers = refl; buffer = refl })

  module _ (taken : check_tables t ≡ none) where
    -- a report that is longer than the buffer is refused, and the buffer is untouched
    pub outcome_long : length buffer < length (report (findings t)) → Gives (check_read (length buffer) (full t)) buffer buffer (Err reason.LongOutput)
    unfolding check_read ◌then◌ check_output when answer measured_of report_of buffer_after
    outcome_long h = rw (taken, lt-ltb (length buffer) (length (report (findings t))) h) (record { answers = refl; buffer = refl })

    -- a report that fits is written, and its length and its whole verdict are given
    pub outcome_written : {after : Bytes} {n m : ℕ} (c : Comparison) → Put (report (findings t)) buffer after n → length (report (findings t)) ≤ length buffer
        → m ≡ length (report (findings t)) → comparison_result c ≡ result_of (findings t)
        → Gives (check_read (length buffer) (full t)) buffer after (Ok (record { length = m; verdict = c.verdict }))
    unfolding check_read ◌then◌ check_output when answer measured_of report_of reported_of buffer_after
    outcome_written c p h e same =
        rw (taken, le-ltb (length buffer) (length (report (findings t))) h, e)
        (record { answers = rw (ap (λ (r : Result). r.verdict) same) refl; buffer = p.stands })
