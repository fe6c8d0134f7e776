use mathlib.Core.Path.{◌≡◌, ◌∙◌}
use Prim.Native.Nat.{◌<◌}
use native.Mathlib.Omega.{arith}
use lib.ListN.{length}
use Rattle.model.specs.Limits.{max_pairs}
use Rattle.grouping.specs.Links.{link_room}
use Rattle.grouping.proofs.Heads.{leaf-read, leaf-below}
use Rattle.grouping.proofs.Storing.{storing-long, store_few, store_start, store_lowest, store_over, store_end}
use Rattle.grouping.proofs.store_groups.Goals.{After-pair_node-v, In-loop-row, then-head-v, else-head-v}
use Rattle.grouping.proofs.store_groups.Goals as goal

-- the specification leaf of the row has a head
turn_below : (k : After-pair_node-v) → k.pair_node-v.result < length k.args.head.now
turn_below k =
    leaf-below k.args.pairs.now k.requires.within k.loop-row.row k.pair_node-v.result k.loop-row-test.true k.pair_node-v.ensures

-- no more groups are stored than rows are passed, and the links have room for all
turn-place : (k : In-loop-row)
    → let l = k.loop-row in
    (l.groups < max_pairs) × (length l.links ≡ link_room)
turn-place k = (
  omega (arith, store_few k.args.pairs.now k.loop-row.invariant, k.loop-row-test.true, k.requires.few),
  storing-long k.args.pairs.now k.loop-row.invariant ∙ k.requires.room,
)

pub loop-row-init : goal.loop-row-init
loop-row-init c = store_start c.args.pairs.now c.args.links.now

pub pair_node-v-requires : goal.pair_node-v-requires
pair_node-v-requires c =
    leaf-read c.args.pairs.now c.requires.within c.loop-row.row c.loop-row-test.true

pub offset_bounds-head-v : goal.offset_bounds-head-v
offset_bounds-head-v c = omega (arith, turn_below c)

pub bounds-head-v : goal.bounds-head-v
bounds-head-v c = omega (arith, turn_below (goal.at.bounds-head-v c).After-pair_node-v)

pub offset_bounds-links-groups : goal.offset_bounds-links-groups
offset_bounds-links-groups c = omega (arith, turn-place (goal.at.offset_bounds-links-groups c).In-loop-row)

pub bounds-links-groups : goal.bounds-links-groups
bounds-links-groups c = omega (arith, turn-place (goal.at.bounds-links-groups c).In-loop-row)

pub overflow_add-groups : goal.overflow_add-groups
overflow_add-groups c = omega (arith, turn-place (goal.at.overflow_add-groups c).In-loop-row)

pub loop-row-preserved : goal.loop-row-preserved
loop-row-preserved c =
    let pairs = c.args.pairs.now in
    let v = c.pair_node-v.result in
    let h = c.loop-row-test.true in
    elim c.if-head-v.branch [
      | then-head-v w ↦ rw (w.links-is, w.groups-is) (store_lowest pairs c.loop-row.invariant h c.requires.heads v c.pair_node-v.ensures w.if-head-v.true)
      | else-head-v w ↦ rw (w.links-is, w.groups-is) (store_over pairs c.loop-row.invariant h c.requires.heads v c.pair_node-v.ensures w.if-head-v.false)
    ]

pub returns : goal.returns
returns c = store_end c.args.pairs.now c.loop-row-test.false c.loop-row.invariant
