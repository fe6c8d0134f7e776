-- What the checks of a comparison leave. Assumes nothing.
use Rattle.std.specs.Prelude.{Ok, Result}
use Rattle.std.specs.Prelude.{◌≡◌, List, ℕ}
use Rattle.model.specs.Compare.{Tables}
use Rattle.model.specs.Checks.{check_tables}
use Rattle.model.specs.Calls.{answer}
use Rattle.model.specs.Answers.{checked_answer}
use Rattle.pathlimit.specs.Inputs.{Ready}
use Rattle.model.specs.declared.Reason.{Reason}

-- their answer and, where they take the tables, both graphs planned and the groups of leaf pairs linked for a comparison
pub record Prepared (t : Tables) (given : Result (Unit {0}) Reason) (specPlan implPlan links : List ℕ) : Type 0 where
  pub answers : checked_answer given ≡ answer (check_tables t) tt
  pub ready : given ≡ Ok tt → Ready t specPlan implPlan links
