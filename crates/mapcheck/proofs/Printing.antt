-- What is printed for a text, from what the text check gives.
use mathlib.Core.Path.{◌≡◌, refl, sym, ap, subst, ◌∙◌}
use mathlib.Core.Logic.{◌⊎◌, inl, inr}
use mathlib.Core.List.{◌++◌}
use Prim.Native.Nat.{ℕ, ◌<◌}
use native.Mathlib.Omega.{arith}
use lib.ListN.{length, length-append}
use Rattle.model.specs.Limits.{max_text, report_room}
use Rattle.model.specs.Bytes.{Bytes}
use Rattle.model.specs.Compare.{Tables, findings, result_of}
use Rattle.model.specs.Refusals.{Refusal, NoneHolds}
use Rattle.model.specs.Calls.{Answer, refused, full, length_of, buffer_after}
use Rattle.model.specs.Report.{report, refusal_report}
use Rattle.model.specs.MapFile.{whole_text_conditions, file_conditions}
use Rattle.model.specs.FileRules.{KeepsRules}
use Rattle.model.specs.TextCheck.{Reported, reported_of, check_read, text_answer, report_conditions, report_of, text_gives, text_after, printed_of, printed}
use Rattle.model.specs.Demands.{Demand3}
use Rattle.report.specs.Put.{Put}
use Rattle.filerules.proofs.Refusals.{read_settled}
use Rattle.filerules.proofs.TextCheck.{text-demand, text-demand_only}

-- a report that was written is what is printed
report-printed : (a : Answer Reported) {before after : Bytes} {n : ℕ} → full n ≡ length_of (report_of a) → after ≡ buffer_after (report_of a) before
    → Put (printed_of a) before after n
unfolding length_of report_of buffer_after printed_of
report-printed (refused r) e b = let z : ◌≡◌ {A = ℕ} 0 1 = cc in absurd (omega arith)
report-printed (full c) {n} e b = let q : n ≡ length c.report = cc in record { count = q; stands = b }

-- on a refusal the buffer is untouched, and the refusal is what is printed
refused-before : (a : Answer Reported) {before after : Bytes} {r : Refusal} → refused r ≡ length_of (report_of a) → after ≡ buffer_after (report_of a) before
    → (after ≡ before) × (printed_of a ≡ refusal_report r)
unfolding length_of report_of buffer_after printed_of
refused-before (refused s) {r} e b = let q : s ≡ r = cc in (b, ap refusal_report q)
refused-before (full c) e b = let z : ◌≡◌ {A = ℕ} 0 1 = cc in absurd (omega arith)

module _ (text before : Bytes) {after : Bytes} (room : length before ≡ report_room) (stands : after ≡ text_after text before) where
  same_answer : text_answer (length before) text ≡ text_answer report_room text
  same_answer = ap (λ (n : ℕ). text_answer n text) room

  pub printed-report : {n : ℕ} → full n ≡ text_gives text before → Put (printed text) before after n
  unfolding printed text_gives text_after
  printed-report {n} e =
      subst (λ (a : Answer Reported). Put (printed_of a) before after n) same_answer (report-printed (text_answer (length before) text) e stands)

  module _ {r : Refusal} (e : refused r ≡ text_gives text before) where
    refused_parts : (after ≡ before) × (printed_of (text_answer (length before) text) ≡ refusal_report r)
    unfolding text_gives text_after
    refused_parts = refused-before (text_answer (length before) text) e stands

    pub printed_untouched : after ≡ before
    printed_untouched = refused_parts.0

    pub printed-refusal : printed text ≡ refusal_report r
    unfolding printed
    printed-refusal = sym (ap printed_of same_answer) ∙ refused_parts.1

-- ---- an input that is longer than the buffer

-- a text that is too long is refused, whatever its bytes
long-printed : (text : Bytes) → max_text < length text → printed text ≡ refusal_report (record { number = 12; table = 6; row = 0 })
unfolding printed printed_of text_answer check_read file_conditions whole_text_conditions
long-printed text long = rw (((read_settled text).refuses (record { number = 12; table = 6; row = 0 })).1 (inl (long, refl))) refl

-- so the bytes that fill the buffer, one more than a text may have, decide what is printed for the whole input
pub printed-cut : (text more : Bytes) → max_text < length text → printed (text ++ more) ≡ printed text
printed-cut text more long = long-printed (text ++ more) (omega (arith, length-append text more)) ∙ sym (long-printed text long)

-- ---- what is printed, and demand 3

-- what is printed for a text is a refusal; or the text keeps the file rules with some tables, these and their report meet no condition, what is
-- printed is their report, and demand 3 holds of the result that it states
pub printed_either : (text : Bytes)
    → ((r : Refusal) × (printed text ≡ refusal_report r))
    ⊎ ((t : Tables) × (KeepsRules text t × NoneHolds (report_conditions report_room t) × (printed text ≡ report (findings t)) × Demand3 t (result_of (findings t))))
unfolding printed printed_of reported_of
printed_either text = go (text_answer report_room text) refl
  where
    go : (a : Answer Reported) → text_answer report_room text ≡ a
        → ((r : Refusal) × (printed text ≡ refusal_report r))
        ⊎ ((t : Tables) × (KeepsRules text t × NoneHolds (report_conditions report_room t) × (printed text ≡ report (findings t)) × Demand3 t (result_of (findings t))))
    go (refused r) e = inl (r, ap printed_of e)
    go (full c) e =
        let w = text-demand_only report_room text c e in
        let demand = text-demand report_room text w.0 w.1.0 w.1.1 in
        inr (w.0, (w.1.0, w.1.1, ap printed_of demand.0, demand.1))
