use mathlib.Core.Path.{◌≡◌, ap, subst}
use Prim.Native.Nat.{◌+◌, ◌*◌, ◌/◌, ◌≤◌, ◌<◌}
use native.Mathlib.Omega.{arith}
use borrow.Author.Rules.{rules}
use lib.ListN.{length}
use mir.Syntax.{w64}
use mir.Val.{SFits}
use mir.Facts.{to_z-of_z}
use Rattle.integers.proofs.Range.{lt_z_true, lt_z_false}
use Rattle.sorting.specs.declared.Row.{Row}
use Rattle.sorting.specs.Rows.{row_width, row_at}
use Rattle.references.specs.References.{Parted}
use Rattle.references.proofs.Searching.{parted_start, parted_below, parted_above}
use Rattle.references.proofs.rows_below.Goals.{After-row_at-looked, In-loop-low}
use Rattle.references.proofs.rows_below.Goals as goal

pub loop-low-init : goal.loop-low-init
loop-low-init c = parted_start c.args.state.now c.args.row c.args.count c.args.d.0

-- the rows are there, and so is the one that is read
there : (c : In-loop-low)
    → let s = c.args in
    (row_width * (s.row + s.count) ≤ length s.state.now) × (c.loop-low.low < c.loop-low.high) × (c.loop-low.high ≤ s.count)
there c = (c.requires.0, c.loop-low-test.true, c.loop-low.invariant.within)

pub row_at-looked-requires : goal.row_at-looked-requires
row_at-looked-requires c = omega (arith, there c)

pub loop-low-smaller-then-looked-d : goal.loop-low-smaller-then-looked-d
loop-low-smaller-then-looked-d c = omega (arith, there (goal.at.loop-low-smaller-then-looked-d c).In-loop-low)

-- the displacement that is read
read : (c : After-row_at-looked)
    → let s = c.args in
    c.row_at-looked.result.first ≡ (row_at s.state.now (s.row + (c.loop-low.low + c.loop-low.high) / 2)).first
read c = ap (λ (r : Row). r.first) c.row_at-looked.ensures

pub loop-low-preserved-then-looked-d : goal.loop-low-preserved-then-looked-d
loop-low-preserved-then-looked-d c =
    let f : SFits w64 c.row_at-looked.result.first = search rules in
    let g : SFits w64 c.args.d.0 = search rules in
    parted_below c.args.state.now c.args.row c.args.count c.requires.1 c.loop-low.invariant (omega (arith, there (goal.at.loop-low-preserved-then-looked-d c).In-loop-low)) (omega (arith, there (goal.at.loop-low-preserved-then-looked-d c).In-loop-low))
    (rw (read (goal.at.loop-low-preserved-then-looked-d c).After-row_at-looked) at (lt_z_true c.row_at-looked.result.first c.args.d.0 (simp (to_z-of_z, f, g) at c.if-looked-d.true)))

pub loop-low-smaller : goal.loop-low-smaller
loop-low-smaller c = omega (arith, there (goal.at.loop-low-smaller c).In-loop-low)

pub loop-low-preserved : goal.loop-low-preserved
loop-low-preserved c =
    let f : SFits w64 c.row_at-looked.result.first = search rules in
    let g : SFits w64 c.args.d.0 = search rules in
    parted_above c.args.state.now c.args.row c.args.count c.requires.1 c.loop-low.invariant (omega (arith, there (goal.at.loop-low-preserved c).In-loop-low)) (omega (arith, there (goal.at.loop-low-preserved c).In-loop-low))
    (rw (read (goal.at.loop-low-preserved c).After-row_at-looked) at (lt_z_false c.row_at-looked.result.first c.args.d.0 (simp (to_z-of_z, f, g) at c.if-looked-d.false)))

pub returns : goal.returns
returns c =
    let s = c.args in
    let end : c.loop-low.high ≡ c.loop-low.low = omega (arith, c.loop-low-test.false, c.loop-low.invariant.order) in
    subst (Parted s.state.now s.row s.count s.d.0 c.loop-low.low) end c.loop-low.invariant
