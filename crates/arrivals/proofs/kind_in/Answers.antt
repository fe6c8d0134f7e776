-- The number that was read is 0 or another.
use mathlib.Core.Path.{◌≡◌, refl}
use mathlib.Core.Bool.{true, false}
use borrow.Author.Rules.{rules}
use lib.Dec.{lit<}
use lib.IntN.{pos}
use lib.ListN.{get_or}
use mir.Syntax.{w64}
use mir.Val.{SFits}
use Rattle.integers.specs.Integers.{eq_z}
use Rattle.tables.proofs.Cells.{bits-same, bits-other}
use Rattle.arrivals.specs.State.{kind_at, kind_of}
use Rattle.arrivals.proofs.kind_in.Goals as goal

pub returns-then-state-eq0 : goal.returns-then-state-eq0
unfolding kind_of
returns-then-state-eq0 c =
    let fits : SFits w64 (get_or c.args.state.now kind_at (pos 0)) = search rules in
    let e : eq_z (get_or c.args.state.now kind_at (pos 0)) (pos 0) ≡ true = bits-same fits (lit< tt) c.if-state-eq0.true in
    rw e refl

pub returns-else-state-eq0 : goal.returns-else-state-eq0
unfolding kind_of
returns-else-state-eq0 c =
    let fits : SFits w64 (get_or c.args.state.now kind_at (pos 0)) = search rules in
    let e : eq_z (get_or c.args.state.now kind_at (pos 0)) (pos 0) ≡ false = bits-other fits (lit< tt) c.if-state-eq0.false in
    rw e refl
