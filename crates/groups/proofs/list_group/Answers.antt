use mathlib.Core.Path.{◌≡◌, refl, ◌∙◌}
use native.Mathlib.Omega.{arith}
use borrow.Author.Rules.{sfits_of}
use mir.Facts.{to_z-of_z}
use mir.Syntax.{w64}
use Rattle.tables.specs.Tables.{pair_at}
use Rattle.grouping.proofs.Passing.{next_later}
use Rattle.arrivals.proofs.Swept.{swept_free}
use Rattle.groups.proofs.Turns.{turn_start, row-leaf, turn_appendable, turn_next, turn_joinable, turn_answered}
use Rattle.groups.proofs.list_group.Goals.{After-leaf_bit-at}
use Rattle.groups.proofs.list_group.Goals as goal

-- where the bank of a turn begins, as the code has it
begins : (a : After-leaf_bit-at) → a.leaf_bit-at.result.0 ≡ (pair_at a.args.pairs.now a.loop-row.row).at
begins a = a.leaf_bit-at.ensures ∙ to_z-of_z (sfits_of {w = w64} a.pair_at.type_inv) ∙ a.pair_at.ensures

pub free_row-n-requires : goal.free_row-n-requires
free_row-n-requires c = swept_free c.requires.state

pub loop-row-init : goal.loop-row-init
loop-row-init c = (turn_start c.requires c.free_row-n.ensures, refl)

pub impl_node-leaf-requires : goal.impl_node-leaf-requires
impl_node-leaf-requires c =
    (omega (arith, c.loop-row-test.true), (row-leaf c.requires c.loop-row.invariant.0 c.loop-row-test.true).row.low)

pub pair_at-requires : goal.pair_at-requires
pair_at-requires c = omega (arith, c.loop-row-test.true, c.requires.there)

pub append_bank-n-requires : goal.append_bank-n-requires
append_bank-n-requires c =
    turn_appendable c.requires c.loop-row.invariant.0 c.loop-row-test.true c.impl_node-leaf.ensures
    (begins (goal.at.append_bank-n-requires c).After-leaf_bit-at)

pub next_row-row-requires : goal.next_row-row-requires
next_row-row-requires c =
    let o = c.requires in
    omega (arith, o.rows, o.linked.room, c.loop-row-test.true)

pub loop-row-smaller : goal.loop-row-smaller
loop-row-smaller c =
    omega (arith, c.next_row-row.ensures, c.loop-row-test.true, next_later c.requires.linked c.loop-row.row c.loop-row-test.true)

pub loop-row-preserved : goal.loop-row-preserved
loop-row-preserved c = (
  rw c.next_row-row.ensures (turn_next c.requires c.loop-row.invariant.0 c.loop-row-test.true c.impl_node-leaf.ensures (begins (goal.at.loop-row-preserved c).After-leaf_bit-at) c.append_bank-n.ensures),
  c.append_bank-n.auto.state ∙ c.loop-row.invariant.1,
)

pub join_banks-requires : goal.join_banks-requires
join_banks-requires c =
    turn_joinable c.requires c.loop-row.invariant.0 c.loop-row-test.false

pub shape_of-state : goal.shape_of-state
shape_of-state c =
    c.join_banks.auto.state ∙ c.loop-row.invariant.1

pub returns : goal.returns
returns c =
    turn_answered c.requires c.loop-row.invariant.0 c.loop-row-test.false c.join_banks.ensures
