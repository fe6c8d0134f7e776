use mathlib.Core.Path.{◌≡◌, ap, ◌∙◌}
use Prim.Native.Nat.{ℕ, ◌<◌}
use native.Mathlib.Omega.{arith}
use lib.IntN.{pos}
use Rattle.integers.proofs.Linear.{ints}
use Rattle.lists.specs.Lists.{◌∈◌}
use Rattle.tables.specs.Tables.{edge_at}
use lib.ListN.{length, take, get_or}
use Rattle.depth.specs.Passes.{Within, enters_stamped}
use Rattle.depth.proofs.Stores.{take_member}
use Rattle.depth.proofs.Stamps.{enters_true, enters_false}
use Rattle.depth.proofs.Splits.{split_start, split_read, split_keep, split_move}
use Rattle.depth.proofs.split_rows.Goals.{After-edge_to, At-loop-i, then-marks-edge_to, else-marks-edge_to}
use Rattle.depth.proofs.split_rows.Goals as goal

-- the row that the turn reads, as it came: one of those to be passed
abbrev row : At-loop-i → ℕ
row l = get_or l.args.rest.now l.loop-i.i 0

module _ (l : At-loop-i) (h : l.loop-i.i < l.args.left) where
  row-passed : row l ∈ take l.args.left l.args.rest.now
  row-passed = take_member l.args.rest.now l.args.left l.loop-i.i 0 h l.requires.0

  row_same : get_or l.loop-i.rest l.loop-i.i 0 ≡ row l
  row_same =
      split_read (enters_stamped l.args.edges.now l.args.stamp l.args.marks.now) l.args.rest.now l.args.order.now l.args.at
      l.loop-i.i l.loop-i.invariant.1 (omega arith)

-- the node that it enters: a place among the marks
module _ (c : After-edge_to) where
  end : pos c.edge_to.result ≡ (edge_at c.args.edges.now (row (goal.at.offset_bounds-marks-edge_to c).At-loop-i)).to
  end = c.edge_to.ensures ∙ ap (λ e. (edge_at c.args.edges.now e).to) (row_same (goal.at.offset_bounds-marks-edge_to c).At-loop-i c.loop-i-test.true)

  place : c.edge_to.result < length c.args.marks.now
  place =
      let l = (goal.at.offset_bounds-marks-edge_to c).At-loop-i in
      let w : Within (length c.args.marks.now) (edge_at c.args.edges.now (row l)).to = c.requires.1.to (row l) (row-passed l c.loop-i-test.true) in
      omega (arith, ints, w.high, end)

pub loop-i-init : goal.loop-i-init
loop-i-init c = (omega arith, split_start _ _ _ _)

pub edge_to-requires : goal.edge_to-requires
edge_to-requires c =
    let l = (goal.at.edge_to-requires c).At-loop-i in
    let m = row-passed l c.loop-i-test.true in
    rw (row_same l c.loop-i-test.true) (c.requires.1.there (row l) m, (c.requires.1.to (row l) m).low)

pub offset_bounds-marks-edge_to : goal.offset_bounds-marks-edge_to
offset_bounds-marks-edge_to c = omega (arith, place c)

pub bounds-marks-edge_to : goal.bounds-marks-edge_to
bounds-marks-edge_to c = place (goal.at.bounds-marks-edge_to c).After-edge_to

pub loop-i-preserved : goal.loop-i-preserved
loop-i-preserved c =
    let l = (goal.at.loop-i-preserved c).At-loop-i in
    let to = end (goal.at.loop-i-preserved c).After-edge_to in
    let test = enters_stamped c.args.edges.now c.args.stamp c.args.marks.now in
    elim c.if-marks-edge_to.branch [
      | then-marks-edge_to w ↦
          let pass = enters_true c.args.edges.now c.args.stamp c.args.marks.now (row l) to w.if-marks-edge_to.true in
          let next = split_keep test c.args.rest.now c.args.order.now c.args.at c.loop-i.i c.loop-i.invariant.1 (omega arith) pass in
          rw (w.rest-is, w.order-is, w.kept-is, row_same l c.loop-i-test.true) (omega arith, next)
      | else-marks-edge_to w ↦
          let fail = enters_false c.args.edges.now c.args.stamp c.args.marks.now (row l) to w.if-marks-edge_to.false in
          let next = split_move test c.args.rest.now c.args.order.now c.args.at c.loop-i.i c.loop-i.invariant.1 (omega arith) fail in
          rw (w.rest-is, w.order-is, w.kept-is, row_same l c.loop-i-test.true) (omega arith, next)
    ]

pub returns : goal.returns
returns c =
    let all : c.loop-i.i ≡ c.args.left = omega arith in
    rw all at c.loop-i.invariant.1
