use mathlib.Core.Path.{◌≡◌}
use Prim.Native.Nat.{◌+◌, ◌≤◌}
use native.Mathlib.Omega.{arith}
use borrow.Author.Rules.{rules}
use lib.IntN.{pos}
use lib.ListN.{length, get_or}
use mir.Syntax.{w64}
use mir.Val.{SFits}
use mir.Facts.{to_z-of_z}
use Rattle.model.specs.Limits.{node_width, sheet_numbers}
use Rattle.sheettables.proofs.Passes.{NodesPut, nodes-start, nodes_put, nodes-room, nodes-over}
use Rattle.sheettables.proofs.put_nodes.Goals.{At-loop-range, Then-range-gt0, then-range-gt0, else-range-gt0}
use Rattle.sheettables.proofs.put_nodes.Goals as goal

-- the invariant, of the kind as a number
put : (l : At-loop-range) → let s = l.args in
    NodesPut s.ranges.now s.kind s.nodes.now s.at l.loop-range.nodes l.loop-range.next l.loop-range.range-index
put l = rw (to_z-of_z l.ranges.kind) at l.loop-range.invariant

-- the node of the next number has room
room : (k : Then-range-gt0) → k.loop-range.next + node_width ≤ length k.args.nodes.now
room k =
    let s = k.args in
    let fits : SFits w64 (get_or s.ranges.now k.loop-range.range-index (pos 0)) = search rules in
    omega (
      arith,
      nodes-room s.ranges.now s.kind s.nodes.now s.at (put (goal.at.Then-range-gt0 k).At-loop-range) (omega arith) (rw (to_z-of_z fits) at k.if-range-gt0.true),
      k.requires.1,
    )

pub loop-range-init : goal.loop-range-init
loop-range-init c = rw (to_z-of_z c.ranges.kind) (nodes-start c.args.ranges.now c.args.kind c.args.nodes.now c.args.at)

pub put_node-requires : goal.put_node-requires
put_node-requires c = omega (arith, room (goal.at.put_node-requires c).Then-range-gt0)

pub overflow_add-next : goal.overflow_add-next
overflow_add-next c = omega (arith, room (goal.at.overflow_add-next c).Then-range-gt0, c.well_formed)

pub loop-range-preserved : goal.loop-range-preserved
loop-range-preserved c =
    let s = c.args in
    let fits : SFits w64 (get_or s.ranges.now c.loop-range.range-index (pos 0)) = search rules in
    elim c.if-range-gt0.branch [
      | then-range-gt0 w ↦ rw (w.nodes-is, w.next-is, w.put_node.ensures, to_z-of_z fits, to_z-of_z c.ranges.kind)
          (nodes_put s.ranges.now s.kind s.nodes.now s.at (put (goal.at.loop-range-preserved c).At-loop-range) (omega arith) (rw (to_z-of_z fits) at w.if-range-gt0.true))
      | else-range-gt0 w ↦ rw (w.nodes-is, w.next-is, to_z-of_z c.ranges.kind)
          (nodes-over s.ranges.now s.kind s.nodes.now s.at (put (goal.at.loop-range-preserved c).At-loop-range) (omega arith) (rw (to_z-of_z fits) at w.if-range-gt0.false))
    ]

pub returns : goal.returns
returns c =
    let all : c.loop-range.range-index ≡ sheet_numbers = omega arith in
    let end = rw (all) at (put (goal.at.returns c).At-loop-range) in
    record { next = end.place; nodes = end.stands }
