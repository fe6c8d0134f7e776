use native.Mathlib.Omega.{arith}
use borrow.Author.Rules.{rules}
use lib.IntN.{pos}
use mir.Syntax.{w64}
use mir.Val.{SFits}
use Rattle.integers.proofs.Range.{bits-same}
use Rattle.listing.proofs.Appending.{append_one}
use Rattle.groups.proofs.Raising.{raised-same, raised-start, raised_length, raised_end, raised-fits, raised-within, raised-next}
use Rattle.groups.proofs.raise_rows.Goals as goal

pub returns-then-at-eq0 : goal.returns-then-at-eq0
returns-then-at-eq0 c =
    let f : SFits w64 c.args.at.0 = search rules in
    let g : SFits w64 (pos 0) = search rules in
    raised-same c.requires (bits-same f g c.if-at-eq0.true)

pub loop-i-init : goal.loop-i-init
loop-i-init c = raised-start c.requires

pub row_at-requires : goal.row_at-requires
row_at-requires c =
    raised-within c.requires c.loop-i.invariant c.loop-i-test.true

pub raised_row-requires : goal.raised_row-requires
raised_row-requires c =
    rw c.row_at.ensures (raised-fits c.requires c.loop-i.invariant c.loop-i-test.true)

pub put_row-requires : goal.put_row-requires
put_row-requires c =
    raised-within c.requires c.loop-i.invariant c.loop-i-test.true

pub loop-i-preserved : goal.loop-i-preserved
loop-i-preserved c =
    raised-next c.requires c.loop-i.invariant c.loop-i-test.true
    (rw (c.raised_row.ensures, c.row_at.ensures) at (append_one _ _ _ _ c.put_row.ensures))

pub shape_of-state : goal.shape_of-state
shape_of-state c = raised_length c.requires c.loop-i.invariant

pub returns : goal.returns
returns c = raised_end c.requires c.loop-i.invariant (omega arith)
