-- The outcome of the check of tables: the length of the report with its whole verdict, or the refusal. Assumes nothing.
use Rattle.std.specs.Prelude.{Result, Ok, Err}
use Rattle.std.specs.Prelude.{◌≡◌, ℕ, length}
use Rattle.model.specs.Bytes.{Bytes}
use Rattle.model.specs.Calls.{Answer, refused, full, buffer_after}
use Rattle.model.specs.Answers.{refusal_of, verdict_number}
use Rattle.model.specs.TextCheck.{Reported, report_of}
use Rattle.tablecheck.specs.declared.Reported.{Reported as Given}
use Rattle.model.specs.declared.Reason.{Reason}

-- a report by its length, with the whole verdict that it states
pub record Measured : Type 0 where
  pub bytes : ℕ
  pub verdict : ℕ

-- an answer with the report's length in place of the report
unfoldable pub measured_of : Answer Reported → Answer Measured
measured_of (refused r) = refused r
measured_of (full c) = full (record { bytes = length c.report; verdict = c.verdict })

-- length and whole verdict, or refused
abbrev pub outcome_answer : Result Given Reason → Answer Measured
outcome_answer (Ok s) = full (record { bytes = s.length; verdict = verdict_number s.verdict })
outcome_answer (Err r) = refused (refusal_of r)

-- the outcome is that of the answer, and the report buffer holds what the answer leaves there
pub record Gives (a : Answer Reported) (before after : Bytes) (o : Result Given Reason) : Type 0 where
  pub answers : outcome_answer o ≡ measured_of a
  pub buffer : after ≡ buffer_after (report_of a) before
