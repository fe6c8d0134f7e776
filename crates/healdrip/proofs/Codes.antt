-- A refusal and a length as one signed number.
use mathlib.Core.Path.{◌≡◌, ap, ◌∙◌}
use Prim.Native.Nat.{ℕ, ◌+◌, ◌*◌, ◌/◌, ◌%◌, ◌<◌, ◌^◌}
use native.Mathlib.Omega.{arith}
use lib.IntN.{pos, neg_ℤ}
use mir.Syntax.{w64}
use mir.Val.{to_z}
use mir.Facts.{to_z_pos}
use Rattle.integers.proofs.Linear.{ints, neg}
use Rattle.model.specs.Bytes.{Bytes}
use Rattle.model.specs.Refusals.{Refusal}
use Rattle.model.specs.Calls.{refused, full}
use Rattle.model.specs.TextCheck.{coded, text_gives}
use Rattle.refusals.proofs.Texts.{gives_small}

-- a length is its own code
pub coded_length : (text buffer : Bytes) {n : ℕ} → n < 2 ^ 63 → full n ≡ text_gives text buffer → to_z w64 n ≡ coded (text_gives text buffer)
unfolding coded
coded_length text buffer low e = to_z_pos w64 low ∙ ap coded e

-- the parts of such a sum, found by division
parts : (number table row n : ℕ) → table < 8 → row < 10000000 → n ≡ number * 100000000 + table * 10000000 + row
    → (n / 100000000 ≡ number) × (n / 10000000 % 10 ≡ table) × (n % 10000000 ≡ row)
parts number table row n h i e = omega arith

-- number, table and row of a refusal of the text check are found in its code −n as the header's macros find them
pub code_parts : (text buffer : Bytes) {r : Refusal} (n : ℕ) → refused r ≡ text_gives text buffer → coded (text_gives text buffer) ≡ neg_ℤ (pos n)
    → (n / 100000000 ≡ r.number) × (n / 10000000 % 10 ≡ r.table) × (n % 10000000 ≡ r.row)
unfolding coded
code_parts text buffer {r} n told e =
    let small = gives_small text buffer told in
    let same = ap coded told ∙ e in
    let m = r.number * 100000000 + r.table * 10000000 + r.row in
    parts r.number r.table r.row n small.table small.row (omega (arith, ints, neg (pos n), neg (pos m), same))
