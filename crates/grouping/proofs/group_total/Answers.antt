use Prim.Native.Nat.{◌/◌, ◌<◌}
use native.Mathlib.Omega.{arith}
use lib.ListN.{length}
use Rattle.integers.proofs.Linear.{ints}
use Rattle.model.specs.Limits.{pair_width}
use Rattle.tables.specs.Tables.{pair_at}
use Rattle.depth.specs.Passes.{Within}
use Rattle.grouping.proofs.Passing.{next_later}
use Rattle.grouping.proofs.Totals.{sum_start, sum_within, count-stopped, sum_next, sum_end}
use Rattle.grouping.proofs.group_total.Goals.{After-impl_node, In-loop-bank}
use Rattle.grouping.proofs.group_total.Goals as goal

-- the row of a turn is there
there : (k : In-loop-bank) → k.loop-bank.bank < length k.args.pairs.now / pair_width
there k = omega (arith, k.loop-bank-test.true, k.requires.2)

-- its implementation leaf has a count
within : (k : In-loop-bank) → let a = k.args in Within (length a.counts.now) (pair_at a.pairs.now k.loop-bank.bank).impl
within k = sum_within k.requires.0 k.loop-bank.invariant (there k)

below : (k : After-impl_node) → k.impl_node.result < length k.args.counts.now
below k = omega (arith, ints, (within (goal.at.offset_bounds-counts-impl_node k).In-loop-bank).high, k.impl_node.ensures)

pub loop-bank-init : goal.loop-bank-init
loop-bank-init c = sum_start c.requires.1

pub impl_node-requires : goal.impl_node-requires
impl_node-requires c = (omega (arith, there c), (within c).low)

pub offset_bounds-counts-impl_node : goal.offset_bounds-counts-impl_node
offset_bounds-counts-impl_node c = omega (arith, below c)

pub bounds-counts-impl_node : goal.bounds-counts-impl_node
bounds-counts-impl_node c = below (goal.at.bounds-counts-impl_node c).After-impl_node

pub overflow_add-total : goal.overflow_add-total
overflow_add-total c =
    let k = c.requires.0 in
    omega (arith, c.loop-bank.invariant.small, k.rows, there (goal.at.overflow_add-total c).In-loop-bank, count-stopped k c.loop-bank.invariant (there (goal.at.overflow_add-total c).In-loop-bank) c.impl_node.ensures)

pub next_row-bank-requires : goal.next_row-bank-requires
next_row-bank-requires c =
    let k = c.requires.0 in
    omega (arith, k.rows, k.linked.room, there (goal.at.next_row-bank-requires c).In-loop-bank)

pub loop-bank-smaller : goal.loop-bank-smaller
loop-bank-smaller c =
    omega (arith, c.next_row-bank.ensures, there (goal.at.loop-bank-smaller c).In-loop-bank, next_later c.requires.0.linked c.loop-bank.bank (there (goal.at.loop-bank-smaller c).In-loop-bank))

pub loop-bank-preserved : goal.loop-bank-preserved
loop-bank-preserved c =
    rw c.next_row-bank.ensures (sum_next c.requires.0 c.loop-bank.invariant (there (goal.at.loop-bank-preserved c).In-loop-bank) c.impl_node.ensures)

pub returns : goal.returns
returns c = sum_end c.requires.0 c.loop-bank.invariant c.loop-bank-test.false
