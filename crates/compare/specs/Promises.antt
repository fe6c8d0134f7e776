-- What the comparison of two graphs promises. Assumes nothing.
use Rattle.std.specs.Prelude.{◌≡◌}
use Rattle.std.specs.Prelude as std
use Rattle.model.specs.Compare.{Tables, Result}
use Rattle.model.specs.Refusals.{NoneHolds, compare_conditions}
use Rattle.model.specs.Calls.{full, compare_answer}
use Rattle.model.specs.Answers.{compared_answer}
use Rattle.model.specs.Demands.{Demand3, PartialByWalks}
use Rattle.model.specs.declared.Comparison.{Comparison}
use Rattle.model.specs.declared.Reason.{Reason}

-- the answer is the one defined; and where no condition for a refusal holds, it is a full result of which demand 3 holds, and verdict 1
-- says of each pair, for each kind of walk and for both together, what it says by walks of single addresses
pub record ComparePromise (t : Tables) (r : std.Result Comparison Reason) : Type 0 where
  pub answer : compared_answer r ≡ compare_answer t
  pub demand : NoneHolds (compare_conditions t) → (res : Result) × (compared_answer r ≡ full res) × Demand3 t res
  pub partial : NoneHolds (compare_conditions t) → PartialByWalks t
