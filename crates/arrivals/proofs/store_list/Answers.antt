-- The rows of the node's reference are gathered behind the used part of the arena, merged there, and stored; where the node is not its own owner, or has its
-- list already, nothing is done.
use mathlib.Core.Path.{◌≡◌, sym, ap, subst, ◌∙◌}
use mathlib.Core.Bool.{false}
use Prim.Native.Nat.{◌+◌, ◌*◌, ◌≤◌}
use native.Mathlib.Omega.{arith}
use borrow.Author.Rules.{sfits_of}
use lib.IntN.{pos}
use lib.ListN.{length}
use lib.Signed.{le_z}
use lib.Dec.{lit<}
use mir.Facts.{to_z-of_z, to_z-neg}
use mir.Syntax.{w64}
use mir.Val.{to_z}
use Rattle.arrivals.specs.State.{mark_width, is_listed, not_listed}
use Rattle.arrivals.specs.Moves.{ListMade}
use Rattle.integers.proofs.Linear.{ints}
use Rattle.arrivals.proofs.Agreeing.{rows_few}
use Rattle.arrivals.proofs.Storing.{unstored_same, ownable_makeable, stored_storable, storing-made}
use Rattle.arrivals.proofs.store_list.Goals.{Else-list_row, Start}
use Rattle.arrivals.proofs.store_list.Goals as goal

-- the mark of the node stands in the state
mark-there : (s : Start) → mark_width * s.args.v + mark_width ≤ length s.args.state.now
mark-there s = omega (arith, s.requires.sweeping.room, rows_few s.requires.sweeping.tables s.requires.row)

pub reference_at-reference-requires : goal.reference_at-reference-requires
reference_at-reference-requires c = (mark-there (goal.at.reference_at-reference-requires c).Start, c.requires.met)

pub list_row-requires : goal.list_row-requires
list_row-requires c = mark-there (goal.at.list_row-requires c).Start

-- the node has no list yet
unlisted : (c : Else-list_row) → is_listed c.args.state.now c.args.v ≡ false
unlisted c =
    let p = c.list_row in
    let none : p.result ≡ not_listed = sym (to_z-of_z (sfits_of {w = w64} p.type_inv)) ∙ ap (to_z w64) c.if-list_row.false ∙ to_z-neg w64 0 (lit< tt) in
    ap (le_z (pos 0)) (sym p.ensures ∙ none)

pub crowded-requires : goal.crowded-requires
crowded-requires c =
    let w = c.requires.sweeping in
    (w.room, rows_few w.tables c.requires.row, omega (arith, ints, w.free_number), w.free_high)

pub returns-then-reference-v : goal.returns-then-reference-v
returns-then-reference-v c = unstored_same c.requires

pub make_list-list-requires : goal.make_list-list-requires
make_list-list-requires c =
    ownable_makeable c.requires c.reference_at-reference.ensures (ap pos c.if-reference-v.false)

pub store_rows-requires : goal.store_rows-requires
store_rows-requires c =
    stored_storable c.requires c.reference_at-reference.ensures (ap pos c.if-reference-v.false) c.make_list-list.ensures

pub returns : goal.returns
returns c =
    subst (ListMade c.args.nodes.now c.args.edges.now c.args.plan.now c.args.v c.args.state.now)
    (sym (c.store_rows.ensures c.args.edges.now))
    (storing-made c.requires c.reference_at-reference.ensures (ap pos c.if-reference-v.false) c.make_list-list.ensures (unlisted (goal.at.returns c).Else-list_row))
