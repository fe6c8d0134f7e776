-- The check of a batch settles its conditions: 19, then those of list.
use mathlib.Core.List.{List}
use Prim.Native.Nat.{ℕ, ◌<◌}
use lib.Dec.{ltb}
use lib.IntN.{ℤ}
use lib.ListN.{length}
use Rattle.lists.proofs.Decisions.{decides_lt}
use Rattle.model.specs.declared.WalkKind.{WalkKind}
use Rattle.model.specs.Limits.{max_batch}
use Rattle.model.specs.Graph.{graph_of}
use Rattle.model.specs.Refusals.{refuse, single_conditions}
use Rattle.model.specs.Checks.{when, check_single}
use Rattle.batches.specs.Batch.{batch_numbers, batch_of, batch_conditions, check_batch, batch_answer}
use Rattle.model.proofs.Settled.{Settled, settled_next, settled_when, Exact, answer-exact}
use Rattle.model.proofs.SingleChecks.{single_settled}

-- the check settles the conditions
batch_settled : (ns es : List ℤ) (r l : ℤ) (xs : List ℤ) (output room : ℕ) → Settled (check_batch ns es r l xs output room) (batch_conditions ns es r l xs output room)
unfolding check_batch batch_conditions
batch_settled ns es r l xs output room =
    settled_next (when (ltb max_batch (length xs)) 19 7 0) (check_single ns es r l output room)
    (refuse 19 7 0 (max_batch < length xs)) (single_conditions ns es r l output room)
    (settled_when 19 7 0 (decides_lt max_batch (length xs)))
    (λ h. single_settled ns es r l output room)

-- batch refuses exactly with the refusal of the first condition that holds, and gives the rows exactly when none holds
pub batch-exact : (kind : WalkKind) (ns es : List ℤ) (r l : ℤ) (xs : List ℤ) (room : ℕ)
    → Exact (batch_answer kind ns es r l xs room) (batch_of kind (graph_of ns es) r l xs)
    (batch_conditions ns es r l xs (length (batch_numbers (batch_of kind (graph_of ns es) r l xs))) room)
unfolding batch_answer
batch-exact kind ns es r l xs room =
    let out = batch_of kind (graph_of ns es) r l xs in
    let size = length (batch_numbers out) in
    answer-exact out (check_batch ns es r l xs size room) (batch_conditions ns es r l xs size room) (batch_settled ns es r l xs size room)
