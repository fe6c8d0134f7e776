-- The tests of touch, one after the other.
use mathlib.Core.Path.{◌≡◌, refl}
use mathlib.Core.Bool.{false, ◌&&◌}
use mathlib.Core.Logic.{◌≢◌}
use lib.IntN.{pos, ◌+ℤ◌}
use lib.Signed.{le_z}
use Rattle.integers.specs.Integers.{eq_z}
use Rattle.integers.proofs.Tests.{eq_z?, test_of, of_test, is_true, is_false}
use Rattle.model.specs.Bitmapping.{Record}
use Rattle.model.specs.Runs.{touch}

-- records of different displacements do not touch
pub touch_unlike : (r s : Record) → r.displacement ≢ s.displacement → touch r s ≡ false
unfolding touch
touch_unlike r s n = rw (is_false (eq_z r.displacement s.displacement) (λ t. n (test_of (eq_z? r.displacement s.displacement) t))) refl

-- those of one displacement touch where neither begins more than one bit above the other's end
pub touch_like : (r s : Record) → r.displacement ≡ s.displacement → touch r s ≡ (le_z s.first (r.last +ℤ pos 1) && le_z r.first (s.last +ℤ pos 1))
unfolding touch
touch_like r s e = rw (is_true (eq_z r.displacement s.displacement) (of_test (eq_z? r.displacement s.displacement) (λ n. n e))) refl
