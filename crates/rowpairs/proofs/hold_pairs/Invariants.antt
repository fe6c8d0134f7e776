-- The invariant, whichever the kind and the root row: its pairs can be found, and what is found of the groups passed is held.
use mathlib.Core.Path.{◌≡◌}
use mathlib.Core.Bool.{true}
use mathlib.Core.List.{List}
use Prim.Native.Nat.{ℕ}
use lib.IntN.{ℤ}
use lib.ListN.{length}
use Rattle.model.specs.declared.WalkKind.{WalkKind}
use Rattle.model.specs.Compare.{Tables}
use Rattle.pairing.specs.Pairs.{tables_of}
use Rattle.pairs.specs.Found.{PairReady}
use Rattle.rowpairs.specs.RowPairs.{EqualBefore, HeldGroups}
use Rattle.rowpairs.proofs.hold_pairs.Given as goal

abbrev pub invariant-loop-group : goal.invariant-loop-group
invariant-loop-group l =
    let t : List ℤ → Tables = λ roots. tables_of l.spec_nodes l.spec_edges l.impl_nodes l.impl_edges roots l.leaf_pairs in
    ((kind : WalkKind) (roots : List ℤ) (i : ℕ) → PairReady kind (t roots) i l.spec_plan l.impl_plan l.links l.initial.spec_state l.initial.impl_state l.initial.spare
    → PairReady kind (t roots) i l.spec_plan l.impl_plan l.links l.spec_state l.impl_state l.spare
    × HeldGroups kind (t roots) i l.links l.asked l.held l.group
    × (l.asked ≡ true → EqualBefore kind (t roots) i l.links l.group → l.wanted ≡ true))
    × (length l.held ≡ length l.initial.held)
