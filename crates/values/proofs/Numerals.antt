-- Digits: the number that they write, scanned from the front, and its size.
use mathlib.Core.Path.{◌≡◌, refl, sym, subst, ◌∙◌}
use mathlib.Core.Bool.{Bool, true, false, not, cond, ◌&&◌, ◌||◌}
use mathlib.Core.Logic.{◌≢◌, ◌⊎◌, inl, inr}
use mathlib.Core.List.{[], ◌∷◌}
use mathlib.Core.Option.{Option, none, some, map}
use Prim.Native.Nat.{ℕ, zero, suc, ◌+◌, ◌-◌, ◌*◌, ◌^◌, ◌≤◌, ◌<◌}
use native.Mathlib.Nat.{pow-suc, pow-le-pow_right, lt_of_lt_of_le, add-zero, zero-add}
use native.Mathlib.Numerals.{add-one}
use native.Mathlib.Omega.{arith}
use borrow.Author.Tests.{le-leb, lt-leb, leb-true, eq-eqb, ne_eqb}
use lib.Dec.{leb, eqb, lit<}
use lib.IntN.{pos, neg_ℤ, ◌-ℤ◌}
use lib.ListN.{length, take, drop, get_or, drop_of_length-le}
use lib.Pointwise.{pointwise}
use lib.Seq.{drop-cons}
use mir.Syntax.{w64}
use mir.Val.{SFits, to_z, of_z}
use mir.Facts.{to_z_pos}
use Rattle.integers.proofs.Negation.{negated_fits, negated}
use Rattle.lists.specs.Lists.{all, is_nil}
use Rattle.filerules.proofs.Options.{none-some}
use Rattle.model.specs.Limits.{max_digits}
use Rattle.model.specs.Bytes.{Bytes, dash}
use Rattle.model.specs.Reader.{is_digit, numeral, magnitude, negative, value_of}
use Rattle.values.specs.Given.{scanned}

-- ---- digits from place k on, behind digits that write v

module _ (s : Bytes) (k v : ℕ) where
  -- behind the last byte
  pub digits-none : length s ≤ k → scanned v (drop k s) ≡ some v
  unfolding scanned
  digits-none h = rw (drop_of_length-le s {i = k} h) refl

  module _ (h : k < length s) where
    -- a byte that is no digit
    pub digits_other : is_digit (get_or s k 0) ≡ false → scanned v (drop k s) ≡ none
    unfolding scanned
    digits_other e = rw (drop-cons s k 0 h, e) refl

    -- a digit
    pub digits_goes : 48 ≤ get_or s k 0 → get_or s k 0 ≤ 57 → scanned v (drop k s) ≡ scanned (v * 10 + (get_or s k 0 - 48)) (drop (k + 1) s)
    unfolding scanned is_digit
    digits_goes p q = rw (drop-cons s k 0 h, add-one k) (simp (le-leb 48 (get_or s k 0) p, le-leb (get_or s k 0) 57 q))

-- ---- sizes

-- one digit more
pub digit_more : (v n d : ℕ) → v < 10 ^ n → d ≤ 9 → v * 10 + d < 10 ^ (n + 1)
digit_more v n d h e = rw (add-one n, pow-suc 10 n) (omega arith)

-- a number of n digits is one of m digits, where m is not fewer
pub digits-small : (v n m : ℕ) → v < 10 ^ n → n ≤ m → v < 10 ^ m
digits-small v n m h k = lt_of_lt_of_le h (pow-le-pow_right {n = 10} (lit< tt) k)

-- digits behind a number of n digits
scanned-small : (v n : ℕ) (l : Bytes) (m : ℕ) → v < 10 ^ n → scanned v l ≡ some m → m < 10 ^ (n + length l)
unfolding scanned is_digit
scanned-small v n [] m h e = rw (add-zero n) (subst (λ (k : ℕ). k < 10 ^ n) (cc) h)
scanned-small v n (c ∷ l) m h e = go (leb 48 c) (leb c 57) refl e (scanned-small (v * 10 + (c - 48)) (n + 1) l m)
  where
    go : (a b : Bool) → leb c 57 ≡ b → cond (a && b) (scanned (v * 10 + (c - 48)) l) none ≡ some m
        → (v * 10 + (c - 48) < 10 ^ (n + 1) → scanned (v * 10 + (c - 48)) l ≡ some m → m < 10 ^ (n + 1 + length l)) → m < 10 ^ (n + suc (length l))
    go true true p q rec =
        let s : n + suc (length l) ≡ n + 1 + length l = omega arith in
        rw s (rec (digit_more v n (c - 48) h (omega (arith, leb-true c 57 p))) q)
    go true false p q rec = absurd (none-some q)
    go false b p q rec = absurd (none-some q)

-- ---- the magnitude of a field

-- digits all, and no other byte
scanned-numeral : (v : ℕ) (l : Bytes) → scanned v l ≡ cond (all is_digit l) (some (numeral v l)) none
unfolding scanned numeral all
scanned-numeral v [] = refl
scanned-numeral v (c ∷ l) = go (is_digit c) (scanned-numeral (v * 10 + (c - 48)) l)
  where
    go : (b : Bool) → scanned (v * 10 + (c - 48)) l ≡ cond (all is_digit l) (some (numeral (v * 10 + (c - 48)) l)) none
        → cond b (scanned (v * 10 + (c - 48)) l) none ≡ cond (b && all is_digit l) (some (numeral (v * 10 + (c - 48)) l)) none
    go true h = h
    go false h = refl

-- at most 18 bytes without a leading zero are scanned
magnitude_scan : (c : ℕ) (t : Bytes)
    → magnitude (c ∷ t) ≡ cond (leb (suc (length t)) max_digits && (not (eqb c 48) || is_nil t)) (scanned 0 (c ∷ t)) none
unfolding magnitude
magnitude_scan c t =
    rw (scanned-numeral 0 (c ∷ t))
    (go (all is_digit (c ∷ t)) (leb (suc (length t)) max_digits) (not (eqb c 48) || is_nil t) (some (numeral 0 (c ∷ t))))
  where
    go : (a b d : Bool) (x : Option ℕ) → cond (a && b && d) x none ≡ cond (b && d) (cond a x none) none
    go true true true x = refl
    go true true false x = refl
    go true false d x = refl
    go false true true x = refl
    go false true false x = refl
    go false false d x = refl

-- no digit
pub magnitude-empty : (f : Bytes) → length f ≡ 0 → magnitude f ≡ none
unfolding magnitude
magnitude-empty [] h = refl
magnitude-empty (c ∷ t) h = absurd (omega arith)

-- too many digits
pub magnitude-long : (f : Bytes) → max_digits < length f → magnitude f ≡ none
magnitude-long [] h = absurd (omega arith)
magnitude-long (c ∷ t) h = magnitude_scan c t ∙ simp (lt-leb (suc (length t)) max_digits h)

-- a leading zero
pub magnitude_zero : (f : Bytes) → get_or f 0 0 ≡ 48 → 1 < length f → magnitude f ≡ none
unfolding is_nil
magnitude_zero [] e h = absurd (omega arith)
magnitude_zero (c ∷ []) e h = absurd (omega arith)
magnitude_zero (c ∷ d ∷ t) e h = magnitude_scan c (d ∷ t) ∙ rw (eq-eqb c 48 e) (go (leb (suc (suc (length t))) max_digits))
  where
    go : (b : Bool) → cond (b && false) (scanned 0 (c ∷ d ∷ t)) none ≡ none
    go true = refl
    go false = refl

-- one byte, which may be a zero, or several that do not begin with one
pub magnitude-scanned : (f : Bytes) → 0 < length f → length f ≤ max_digits → (length f ≤ 1) ⊎ (get_or f 0 0 ≢ 48) → magnitude f ≡ scanned 0 f
unfolding is_nil
magnitude-scanned [] h k w = absurd (omega arith)
magnitude-scanned (c ∷ t) h k (inr n) = magnitude_scan c t ∙ simp (le-leb (suc (length t)) max_digits k, ne_eqb c 48 n)
magnitude-scanned (c ∷ []) h k (inl n) = magnitude_scan c [] ∙ go (eqb c 48)
  where
    go : (z : Bool) → cond (leb 1 max_digits && (not z || true)) (scanned 0 (c ∷ [])) none ≡ scanned 0 (c ∷ [])
    go true = refl
    go false = refl
magnitude-scanned (c ∷ d ∷ t) h k (inl n) = absurd (omega arith)

-- a magnitude is below 10^18
pub magnitude-small : (f : Bytes) (n : ℕ) → magnitude f ≡ some n → n < 10 ^ max_digits
unfolding magnitude
magnitude-small [] n e = absurd (none-some e)
magnitude-small (c ∷ t) n e =
    go (leb (suc (length t)) max_digits) refl (not (eqb c 48) || is_nil t) (sym (magnitude_scan c t) ∙ e)
  where
    go : (b : Bool) → leb (suc (length t)) max_digits ≡ b → (d : Bool) → cond (b && d) (scanned 0 (c ∷ t)) none ≡ some n → n < 10 ^ max_digits
    go true p true q =
        digits-small n (suc (length t)) max_digits (rw (zero-add (suc (length t))) at (scanned-small 0 0 (c ∷ t) n (lit< tt) q))
        (leb-true (suc (length t)) max_digits p)
    go true p false q = absurd (none-some q)
    go false p d q = absurd (none-some q)

-- ---- values

module _ (f : Bytes) {n : ℕ} (m : magnitude f ≡ some n) where
  low : n < 2 ^ 63
  low = omega (arith, magnitude-small f n m)

  -- a magnitude fits
  pub positive_fits : SFits w64 (pos n)
  positive_fits = record { sfits = low }

  -- and is its own value
  pub positive_value : some (to_z w64 n) ≡ map pos (magnitude f)
  positive_value = rw (m, to_z_pos w64 low)

  -- 0 less a magnitude fits
  pub negative_fits : SFits w64 (pos 0 -ℤ to_z w64 n)
  negative_fits = negated_fits low

  -- behind a minus nothing writes 0
  pub negative_zero : n < 1 → none ≡ negative (magnitude f)
  unfolding negative
  negative_zero h = let z : n ≡ 0 = omega arith in rw (m, z) refl

  -- any other magnitude is turned
  pub negative-value : 1 ≤ n → some (to_z w64 (of_z w64 (pos 0 -ℤ to_z w64 n))) ≡ negative (magnitude f)
  unfolding negative
  negative-value h = rw (negated low, m) (go n h)
    where
      go : (n : ℕ) → 1 ≤ n → some (neg_ℤ (pos n)) ≡ negative (some n)
      go zero h = absurd (omega arith)
      go (suc n) h = refl

-- no magnitude behind a minus, no value
pub negative-none : (f : Bytes) → magnitude f ≡ none → none ≡ negative (magnitude f)
unfolding negative
negative-none f m = rw m

-- ---- the value of a field

-- behind a minus
pub value-dash : (f : Bytes) → pointwise eqb (take 1 f) (dash ∷ []) ≡ true → negative (magnitude (drop 1 f)) ≡ value_of f
unfolding value_of
value-dash [] e = cc
value-dash (c ∷ t) e = go (eqb c dash) e
  where
    go : (b : Bool) → (b && true) ≡ true → negative (magnitude t) ≡ cond b (negative (magnitude t)) (map pos (magnitude (c ∷ t)))
    go true e = refl
    go false e = cc

-- without one
pub value_plain : (f : Bytes) → pointwise eqb (take 1 f) (dash ∷ []) ≡ false → map pos (magnitude f) ≡ value_of f
unfolding value_of magnitude
value_plain [] e = refl
value_plain (c ∷ t) e = go (eqb c dash) e
  where
    go : (b : Bool) → (b && true) ≡ false → map pos (magnitude (c ∷ t)) ≡ cond b (negative (magnitude t)) (map pos (magnitude (c ∷ t)))
    go true e = cc
    go false e = refl
