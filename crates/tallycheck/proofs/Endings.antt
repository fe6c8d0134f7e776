-- How the outcome of a check ended is how its answer ended.
use Rattle.std.specs.Prelude.{Result, Ok, Err}
use mathlib.Core.Path.{◌≡◌, refl, ap, ◌∙◌}
use Prim.Native.Nat.{ℕ}
use Rattle.model.specs.Bytes.{Bytes}
use Rattle.model.specs.Calls.{Answer, refused, full}
use Rattle.model.specs.TextCheck.{Reported}
use Rattle.model.specs.Tally.{ending_of}
use Rattle.tablecheck.specs.declared.Reported.{Reported as Given}
use Rattle.tablecheck.specs.Outcomes.{Measured, measured_of, outcome_answer, Gives}
use Rattle.tallycheck.specs.Endings.{outcome_ending}
use Rattle.model.specs.declared.Reason.{Reason}

-- the ending of an answer by the report's length
unfoldable measured_ending : Answer Measured → ℕ
measured_ending (refused r) = 3
measured_ending (full m) = m.verdict

ending_measured : (a : Answer Reported) → measured_ending (measured_of a) ≡ ending_of a
unfolding measured_ending measured_of ending_of
ending_measured (refused r) = refl
ending_measured (full c) = refl

ending_outcome : (o : Result Given Reason) → outcome_ending o ≡ measured_ending (outcome_answer o)
unfolding measured_ending
ending_outcome (Ok s) = refl
ending_outcome (Err r) = refl

-- the outcome of an answer ended as the answer did
pub gives_ending : {a : Answer Reported} {before after : Bytes} {o : Result Given Reason} → Gives a before after o → outcome_ending o ≡ ending_of a
gives_ending {a} {o} g = ending_outcome o ∙ ap measured_ending g.answers ∙ ending_measured a
