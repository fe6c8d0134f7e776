-- The numbers of refusals.
use Prim.Native.Nat.{◌≤◌}
use native.Mathlib.Omega.{arith}
use Rattle.model.specs.Answers.{refusal_of}
use Rattle.model.specs.declared.Reason.{Reason}
use Rattle.model.specs.declared.Reason.TheVariants.{Shape, Node, Edge, FromBlock, Cycle, LongChain, NotRootOrLeaf, PairedBefore, NoPair, ManyPaths, LongOutput, Characters, Names, Values, NoCaller, At, SheetRange, OtherSize, LongBatch}
use Rattle.refusals.specs.Small.{last_number}

-- none is higher than the last
pub number-few : (r : Reason) → (refusal_of r).number ≤ last_number
number-few (Shape t) = omega arith
number-few (Node t r) = omega arith
number-few (Edge t r) = omega arith
number-few (FromBlock t r) = omega arith
number-few (Cycle t) = omega arith
number-few (LongChain t) = omega arith
number-few (NotRootOrLeaf t r) = omega arith
number-few (PairedBefore t r) = omega arith
number-few (NoPair t) = omega arith
number-few (ManyPaths t r) = omega arith
number-few LongOutput = omega arith
number-few (Characters l) = omega arith
number-few (Names l) = omega arith
number-few (Values l) = omega arith
number-few NoCaller = omega arith
number-few (At t r) = omega arith
number-few (SheetRange l) = omega arith
number-few (OtherSize l) = omega arith
number-few LongBatch = omega arith
