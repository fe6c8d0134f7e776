use mathlib.Core.Path.{◌≡◌, sym, subst}
use Prim.Native.Nat.{◌<◌}
use native.Mathlib.Omega.{arith}
use lib.ListN.{take}
use Rattle.depth.specs.Passes.{EndsWithin}
use Rattle.depth.proofs.Peeling.{round_marks, RoundSplit, peeling_fewer, peeling_start, peeling_within, peeling_ordered, peeling_long, peeling_cycle, peeling_next}
use Rattle.depth.proofs.peel.Goals.{After-split_rows-kept}
use Rattle.depth.proofs.peel.Goals as goal

-- what the passes of a round leave
module _ (c : After-split_rows-kept) where
  round-marks : c.stamp_starts.new.marks
      ≡ round_marks c.args.edges.now c.loop-left.rest c.loop-left.marks c.loop-left.left c.loop-left.round
  round-marks = c.stamp_starts.ensures

  round-rows : RoundSplit c.args.edges.now c.loop-left.rest c.loop-left.marks c.loop-left.order c.loop-left.left c.loop-left.round
      c.split_rows-kept.result c.split_rows-kept.new.rest c.split_rows-kept.new.order
  round-rows = rw round-marks at c.split_rows-kept.ensures

  round-some : 0 < c.loop-left.left
  round-some = c.loop-left-test.true

pub loop-left-init : goal.loop-left-init
loop-left-init c =
    peeling_start c.args.edges.now c.args.order.now c.requires.table c.requires

pub overflow_add-round : goal.overflow_add-round
overflow_add-round c = omega (arith, c.loop-left.invariant.bound)

pub stamp_starts-requires : goal.stamp_starts-requires
stamp_starts-requires c =
    (c.loop-left.invariant.long, peeling_within c.args.edges.now c.args.order.now c.requires.table c.loop-left.invariant)

pub overflow_sub-count : goal.overflow_sub-count
overflow_sub-count c = omega (arith, c.loop-left.invariant.bound)

pub split_rows-kept-requires : goal.split_rows-kept-requires
split_rows-kept-requires c =
    let within = peeling_within c.args.edges.now c.args.order.now c.requires.table c.loop-left.invariant in (
      c.loop-left.invariant.long,
      subst (λ n. EndsWithin c.args.edges.now n (take c.loop-left.left c.loop-left.rest)) (sym c.stamp_starts.auto.marks) within,
      omega (arith, c.loop-left.invariant.bound, c.requires.table.fits),
    )

pub returns-then-kept-left : goal.returns-then-kept-left
returns-then-kept-left c =
    peeling_cycle c.args.edges.now c.args.order.now c.requires.table c.loop-left.invariant (round-some (goal.at.returns-then-kept-left c).After-split_rows-kept) (round-rows (goal.at.returns-then-kept-left c).After-split_rows-kept) c.if-kept-left.true

pub loop-left-smaller : goal.loop-left-smaller
loop-left-smaller c =
    peeling_fewer c.args.edges.now c.args.order.now c.requires.table c.loop-left.invariant (round-some (goal.at.loop-left-smaller c).After-split_rows-kept) (round-rows (goal.at.loop-left-smaller c).After-split_rows-kept) c.if-kept-left.false

pub loop-left-preserved : goal.loop-left-preserved
loop-left-preserved c =
    let next = peeling_next c.args.edges.now c.args.order.now c.requires.table c.loop-left.invariant (round-some (goal.at.loop-left-preserved c).After-split_rows-kept) (round-rows (goal.at.loop-left-preserved c).After-split_rows-kept) c.if-kept-left.false in
    rw (round-marks (goal.at.loop-left-preserved c).After-split_rows-kept) next

pub returns-then-round-gt-MAX_CHAIN : goal.returns-then-round-gt-MAX_CHAIN
returns-then-round-gt-MAX_CHAIN c =
    peeling_long c.args.edges.now c.args.order.now c.requires.table c.loop-left.invariant (omega arith) (omega arith)

pub returns-else-round-gt-MAX_CHAIN : goal.returns-else-round-gt-MAX_CHAIN
returns-else-round-gt-MAX_CHAIN c =
    peeling_ordered c.args.edges.now c.args.order.now c.requires.table c.loop-left.invariant (omega arith) (omega arith)
