-- The sign of an i64 and its distance from 0.
use mathlib.Core.Path.{◌≡◌}
use mathlib.Core.Bool.{true, false}
use lib.IntN.{ℤ, pos}
use lib.Signed.{lt_z, ◌≤ℤ◌, ◌<ℤ◌}
use mir.Syntax.{w64}
use mir.Val.{SFits, to_z, of_z}
use mir.Facts.{to_z-of_z}
use Rattle.integers.proofs.Range.{lt_z_true, lt_z_false}

-- what it says of an i64 that it was found below 0
pub negative-held : {v : ℤ} → SFits w64 v → lt_z (to_z w64 (of_z w64 v)) (pos 0) ≡ true → v <ℤ pos 0
negative-held {v} f e = lt_z_true v (pos 0) (rw (to_z-of_z f) at e)

-- and where it fails
pub other-held : {v : ℤ} → SFits w64 v → lt_z (to_z w64 (of_z w64 v)) (pos 0) ≡ false → pos 0 ≤ℤ v
other-held {v} f e = lt_z_false v (pos 0) (rw (to_z-of_z f) at e)
