use mathlib.Core.Path.{◌≡◌}
use Prim.Native.Nat.{suc, ◌+◌, ◌-◌, ◌/◌, ◌<◌}
use native.Mathlib.Omega.{arith}
use lib.IntN.{pos}
use lib.ListN.{length}
use Rattle.model.specs.Limits.{pair_width}
use Rattle.tables.specs.Tables.{pair_at}
use Rattle.grouping.specs.Links.{next_at}
use Rattle.grouping.proofs.Heads.{leaf-read, leaf-below}
use Rattle.grouping.proofs.Linking.{linking_at, link_next, link_end}
use Rattle.grouping.proofs.link_rows.Goals.{After-pair_node-leaf, In-loop-row}
use Rattle.grouping.proofs.link_rows.Goals as goal

-- what is read of the row of a turn is its specification leaf
turn-leaf : (k : After-pair_node-leaf)
    → pos k.pair_node-leaf.result ≡ (pair_at k.args.pairs.now (k.loop-row.row - 1)).spec
turn-leaf k = k.pair_node-leaf.ensures

-- there is such a row
turn-row : (k : In-loop-row) → k.loop-row.row - 1 < length k.args.pairs.now / pair_width
turn-row k = omega (arith, k.loop-row-test.true, k.loop-row.invariant.within)

-- its leaf has a head, and the row a link
turn_below : (k : After-pair_node-leaf)
    → let l = k.loop-row in
    (k.pair_node-leaf.result < length l.head) × (next_at + (l.row - 1) < length l.links)
turn_below k = (
  omega (
    arith,
    leaf-below k.args.pairs.now k.requires.within (k.loop-row.row - 1) k.pair_node-leaf.result (turn-row (goal.at.offset_bounds-head-leaf k).In-loop-row) (turn-leaf k),
    k.loop-row.invariant.size,
  ),
  omega (arith, turn-row (goal.at.offset_bounds-head-leaf k).In-loop-row, k.requires.few, k.loop-row.invariant.room),
)

pub pair_node-leaf-requires : goal.pair_node-leaf-requires
pair_node-leaf-requires c =
    leaf-read c.args.pairs.now c.requires.within (c.loop-row.row - 1) (turn-row c)

pub offset_bounds-head-leaf : goal.offset_bounds-head-leaf
offset_bounds-head-leaf c = omega (arith, turn_below c)

pub bounds-head-leaf : goal.bounds-head-leaf
bounds-head-leaf c = omega (arith, turn_below (goal.at.bounds-head-leaf c).After-pair_node-leaf)

pub overflow_add-links : goal.overflow_add-links
overflow_add-links c = omega (arith, turn_below (goal.at.overflow_add-links c).After-pair_node-leaf)

pub offset_bounds-links-row : goal.offset_bounds-links-row
offset_bounds-links-row c = omega (arith, turn_below (goal.at.offset_bounds-links-row c).After-pair_node-leaf)

pub bounds-links-row : goal.bounds-links-row
bounds-links-row c = omega (arith, turn_below (goal.at.bounds-links-row c).After-pair_node-leaf)

pub offset_bounds-head-leaf-in-loop-row : goal.offset_bounds-head-leaf-in-loop-row
offset_bounds-head-leaf-in-loop-row c = omega (arith, turn_below (goal.at.offset_bounds-head-leaf-in-loop-row c).After-pair_node-leaf)

pub bounds-head-leaf-in-loop-row : goal.bounds-head-leaf-in-loop-row
bounds-head-leaf-in-loop-row c = omega (arith, turn_below (goal.at.bounds-head-leaf-in-loop-row c).After-pair_node-leaf)

pub loop-row-preserved : goal.loop-row-preserved
loop-row-preserved c =
    let pairs = c.args.pairs.now in
    link_next pairs c.pair_node-leaf.result (turn_below (goal.at.loop-row-preserved c).After-pair_node-leaf).0 (turn_below (goal.at.loop-row-preserved c).After-pair_node-leaf).1 (turn-leaf (goal.at.loop-row-preserved c).After-pair_node-leaf)
    (linking_at pairs (suc (c.loop-row.row - 1)) (omega (arith, c.loop-row-test.true)) c.loop-row.invariant)

pub returns : goal.returns
returns c =
    let pairs = c.args.pairs.now in
    link_end pairs (linking_at pairs 0 (omega (arith, c.loop-row-test.false)) c.loop-row.invariant)
