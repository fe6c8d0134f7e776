use mathlib.Core.Path.{◌≡◌}
use native.Mathlib.Omega.{arith}
use borrow.Author.Rules.{rules}
use lib.IntN.{pos}
use lib.ListN.{get_or}
use mir.Syntax.{w64}
use mir.Val.{SFits}
use mir.Facts.{to_z-of_z}
use Rattle.model.specs.Limits.{sheet_numbers}
use Rattle.sheettables.proofs.Present.{present_length}
use Rattle.sheettables.proofs.Passes.{rowing_start, rowing_more, rowing_same}
use Rattle.sheettables.proofs.number_rows.Goals.{then-range-gt0, else-range-gt0}
use Rattle.sheettables.proofs.number_rows.Goals as goal

pub loop-v-init : goal.loop-v-init
loop-v-init c = rowing_start c.args.ranges.now c.args.first c.args.rows.now c.requires.1

pub overflow_add-row : goal.overflow_add-row
overflow_add-row c = omega (arith, c.loop-v.invariant.next, present_length c.args.ranges.now c.loop-v.v, c.requires.2)

pub loop-v-preserved : goal.loop-v-preserved
loop-v-preserved c =
    let s = c.args in
    let fits : SFits w64 (get_or s.ranges.now c.loop-v.v (pos 0)) = search rules in
    elim c.if-range-gt0.branch [
      | then-range-gt0 w ↦ rw w.row-is (rowing_more s.ranges.now s.first c.loop-v.invariant (omega arith) (rw (to_z-of_z fits) at w.if-range-gt0.true))
      | else-range-gt0 w ↦ rw w.row-is (rowing_same s.ranges.now s.first c.loop-v.invariant (omega arith) (rw (to_z-of_z fits) at w.if-range-gt0.false))
    ]

pub returns : goal.returns
returns c =
    let all : c.loop-v.v ≡ sheet_numbers = omega arith in
    record { each = λ u k. c.loop-v.invariant.each u (omega arith); behind = rw (all) at c.loop-v.invariant.next }
