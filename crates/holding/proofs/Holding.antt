-- What is held of a group is there, and of the others what was held before.
use mathlib.Core.Path.{◌≡◌, ap, ◌∙◌}
use mathlib.Core.List.{List}
use mathlib.Core.Logic.{◌≢◌}
use Prim.Native.Nat.{ℕ, ◌+◌, ◌*◌, ◌≤◌}
use native.Mathlib.Omega.{arith}
use lib.IntN.{ℤ, pos, nat_abs}
use lib.ListN.{length, get_or, set, length-set}
use mir.Syntax.{w64}
use mir.Val.{SFits, to_z, of_z}
use mir.Facts.{to_z-of_z}
use lib.Seq.{get_or-set_same, get_or-set_other}
use Rattle.model.specs.Answers.{verdict_number}
use Rattle.totals.specs.declared.Found.{Found}
use Rattle.holding.specs.Held.{held_width, held_with, HeldAt}

-- a number at another place stays
elsewhere : (t : List ℤ) (group j : ℕ) (r : Found) → j ≢ held_width * group → j ≢ held_width * group + 1 → j ≢ held_width * group + 2 → j ≢ held_width * group + 3
    → get_or (held_with t group r) j (pos 0) ≡ get_or t j (pos 0)
elsewhere t group j r a b c d =
    let p = held_width * group in
    let u = set t p (pos (verdict_number r.verdict)) in
    let v = set u (p + 1) (pos r.lengths.spec) in
    let w = set v (p + 2) (pos r.lengths.implementation) in
    get_or-set_other w (p + 3) j r.address (pos 0) d
    ∙ get_or-set_other v (p + 2) j (pos r.lengths.implementation) (pos 0) c
    ∙ get_or-set_other u (p + 1) j (pos r.lengths.spec) (pos 0) b
    ∙ get_or-set_other t p j (pos (verdict_number r.verdict)) (pos 0) a

-- of another group what was held is held
pub held-other : (t : List ℤ) (group other : ℕ) (r : Found) {s : Found} → other ≢ group → HeldAt t other s → HeldAt (held_with t group r) other s
held-other t group other r n h =
    let at : (k : ℕ) → k ≤ 3 → get_or (held_with t group r) (held_width * other + k) (pos 0) ≡ get_or t (held_width * other + k) (pos 0) =
    λ k le. elsewhere t group (held_width * other + k) r (λ e. n (omega arith)) (λ e. n (omega arith)) (λ e. n (omega arith)) (λ e. n (omega arith)) in
    record {
      verdict = elsewhere t group (held_width * other) r (λ e. n (omega arith)) (λ e. n (omega arith)) (λ e. n (omega arith)) (λ e. n (omega arith)) ∙ h.verdict;
      spec = at 1 (omega arith) ∙ h.spec;
      impl = at 2 (omega arith) ∙ h.impl;
      address = at 3 (omega arith) ∙ h.address;
    }

-- what is held of a group is what was found of it
pub held-own : (t : List ℤ) (group : ℕ) (r : Found) → held_width * group + held_width ≤ length t → HeldAt (held_with t group r) group r
held-own t group r room =
    let p = held_width * group in
    let x = pos (verdict_number r.verdict) in
    let y = pos r.lengths.spec in
    let z = pos r.lengths.implementation in
    let u = set t p x in
    let v = set u (p + 1) y in
    let w = set v (p + 2) z in
    let lu = length-set t p x in
    let lv = length-set u (p + 1) y in
    let lw = length-set v (p + 2) z in
    record {
      verdict = get_or-set_other w (p + 3) p r.address (pos 0) (λ e. omega arith)
          ∙ get_or-set_other v (p + 2) p z (pos 0) (λ e. omega arith)
          ∙ get_or-set_other u (p + 1) p y (pos 0) (λ e. omega arith)
          ∙ get_or-set_same t p x (pos 0) (omega arith);
      spec = get_or-set_other w (p + 3) (p + 1) r.address (pos 0) (λ e. omega arith)
          ∙ get_or-set_other v (p + 2) (p + 1) z (pos 0) (λ e. omega arith)
          ∙ get_or-set_same u (p + 1) y (pos 0) (omega (arith, lu));
      impl = get_or-set_other w (p + 3) (p + 2) r.address (pos 0) (λ e. omega arith) ∙ get_or-set_same v (p + 2) z (pos 0) (omega (arith, lu, lv));
      address = get_or-set_same w (p + 3) r.address (pos 0) (omega (arith, lu, lv, lw));
    }

-- the list has the length that it had
pub held_length : (t : List ℤ) (group : ℕ) (r : Found) → length (held_with t group r) ≡ length t
held_length t group r = simp length-set

-- a number that is not negative, cast and taken back
pub cast_back : {z : ℤ} {n : ℕ} → SFits w64 z → z ≡ pos n → nat_abs (to_z w64 (of_z w64 z)) ≡ n
cast_back f q = ap nat_abs (to_z-of_z f ∙ q)

-- what is found, by its parts
pub found-same : {a b : Found} → a.verdict ≡ b.verdict → a.lengths.spec ≡ b.lengths.spec → a.lengths.implementation ≡ b.lengths.implementation
    → a.address ≡ b.address → a ≡ b
found-same v s m d = λ i. record { verdict = v i; lengths = record { spec = s i; implementation = m i }; address = d i }
