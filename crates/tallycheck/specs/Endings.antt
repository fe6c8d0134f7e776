-- How a check ended, by its outcome. Assumes nothing.
use Rattle.std.specs.Prelude.{Result, Ok, Err}
use Rattle.std.specs.Prelude.{ℕ}
use Rattle.model.specs.Answers.{verdict_number}
use Rattle.tablecheck.specs.declared.Reported.{Reported as Given}
use Rattle.model.specs.declared.Reason.{Reason}

-- by its whole verdict, or refused
abbrev pub outcome_ending : Result Given Reason → ℕ
outcome_ending (Ok s) = verdict_number s.verdict
outcome_ending (Err r) = 3
