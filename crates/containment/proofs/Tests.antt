-- The tests on two records, one after the other.
use mathlib.Core.Path.{◌≡◌, refl}
use mathlib.Core.Bool.{true, false, ◌&&◌}
use lib.Signed.{le_z}
use Rattle.integers.specs.Integers.{eq_z}
use Rattle.model.specs.Bitmapping.{Record}
use Rattle.model.specs.Verdicts.{contained}

-- a record of another displacement is not contained
pub contained_unlike : (r s : Record) → eq_z r.displacement s.displacement ≡ false → contained r s ≡ false
unfolding contained
contained_unlike r s e = rw e refl

-- one of the same displacement is where its root bits are
pub contained_like : (r s : Record) → eq_z r.displacement s.displacement ≡ true → contained r s ≡ (le_z s.first r.first && le_z r.last s.last)
unfolding contained
contained_like r s e = rw e refl
