-- The tests on two records, one after the other.
use mathlib.Core.Path.{◌≡◌, refl}
use mathlib.Core.Bool.{false}
use mathlib.Core.Logic.{◌≢◌}
use Rattle.integers.specs.Integers.{eq_z}
use Rattle.integers.proofs.Tests.{eq_z?, test_of, of_test, is_true, is_false}
use Rattle.model.specs.Bitmapping.{Record}
use Rattle.verdicts.specs.OnePass.{aligned}

-- records that begin at different bits do not begin alike
pub aligned_unlike : (r s : Record) → r.first ≢ s.first → aligned r s ≡ false
unfolding aligned
aligned_unlike r s n = rw (is_false (eq_z r.first s.first) (λ t. n (test_of (eq_z? r.first s.first) t))) refl

-- those that begin at one bit do where their displacement is one
pub aligned_like : (r s : Record) → r.first ≡ s.first → aligned r s ≡ eq_z r.displacement s.displacement
unfolding aligned
aligned_like r s e = rw (is_true (eq_z r.first s.first) (of_test (eq_z? r.first s.first) (λ n. n e))) refl
