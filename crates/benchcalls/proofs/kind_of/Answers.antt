-- The number is 0 or another.
use mathlib.Core.Path.{◌≡◌, refl}
use mathlib.Core.Bool.{true, false}
use lib.Dec.{lit<}
use lib.IntN.{pos}
use Rattle.integers.specs.Integers.{eq_z}
use Rattle.tables.proofs.Cells.{bits-same, bits-other}
use Rattle.arrivals.specs.State.{kind_of}
use Rattle.benchcalls.proofs.kind_of.Goals as goal

pub returns-then-number-eq0 : goal.returns-then-number-eq0
unfolding kind_of
returns-then-number-eq0 c =
    let e : eq_z c.args.number (pos 0) ≡ true = bits-same c.ranges.number (lit< tt) c.if-number-eq0.true in
    rw e refl

pub returns-else-number-eq0 : goal.returns-else-number-eq0
unfolding kind_of
returns-else-number-eq0 c =
    let e : eq_z c.args.number (pos 0) ≡ false = bits-other c.ranges.number (lit< tt) c.if-number-eq0.false in
    rw e refl
