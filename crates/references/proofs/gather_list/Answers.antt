use mathlib.Core.Path.{subst}
use Prim.Native.Nat.{◌<◌}
use native.Mathlib.Omega.{arith}
use lib.IntN.{ℤ}
use Rattle.references.specs.References.{Parted}
use Rattle.references.proofs.Gathering.{gathering_length, gathering-within, gathering-before, gathering-room, gathering-next}
use Rattle.references.proofs.Searching.{gathering-from, gathering_upto}
use Rattle.references.proofs.gather_list.Goals.{In-loop-i}
use Rattle.references.proofs.gather_list.Goals as goal

pub reaching-span-requires : goal.reaching-span-requires
reaching-span-requires c = (c.requires.small, c.requires.root.0, c.requires.root.1)

pub rows_below-end-requires : goal.rows_below-end-requires
rows_below-end-requires c = let p = c.requires in (omega (arith, p.before, p.room), p.ascending)

pub rows_below-i-requires : goal.rows_below-i-requires
rows_below-i-requires c = let p = c.requires in (omega (arith, p.before, p.room), p.ascending)

pub loop-i-init : goal.loop-i-init
loop-i-init c =
    gathering-from c.requires (rw c.reaching-span.ensures.0 at c.rows_below-i.ensures)

-- the row that is read is one of the list
inside : (c : In-loop-i) → c.loop-i.i < c.args.count
inside c = omega (arith, c.loop-i-test.true, c.rows_below-end.ensures.within)

pub append_cut-m-requires : goal.append_cut-m-requires
append_cut-m-requires c =
    let p = c.requires in
    let g = c.loop-i.invariant in
    let h = inside (goal.at.append_cut-m-requires c).In-loop-i in
    (gathering-before p g h, gathering-room p g h, p.small, gathering-within p g h)

pub loop-i-preserved : goal.loop-i-preserved
loop-i-preserved c =
    gathering-next c.requires c.loop-i.invariant (inside (goal.at.loop-i-preserved c).In-loop-i) c.append_cut-m.ensures

pub shape_of-state : goal.shape_of-state
shape_of-state c = gathering_length c.requires c.loop-i.invariant

pub returns : goal.returns
returns c =
    let s = c.args in
    let end = c.rows_below-end.result in
    gathering_upto c.requires c.loop-i.invariant
    (subst (λ (d : ℤ). Parted s.state.now s.row s.count d end end) c.reaching-span.ensures.1 c.rows_below-end.ensures) (omega arith)
