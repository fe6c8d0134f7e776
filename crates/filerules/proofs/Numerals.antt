-- Numbers in decimal: the value of a field is read back from what is shown, and a field that has a value is what shows it.
use mathlib.Core.Path.{◌≡◌, refl, sym, ap, ◌∙◌}
use mathlib.Core.Bool.{Bool, true, false, not, cond, ◌&&◌, ◌||◌}
use mathlib.Core.Logic.{◌≢◌, ◌⊎◌, inl, inr, ⊎_elim}
use mathlib.Core.List.Memᴰ
use mathlib.Core.List.{[], ◌∷◌, ◌++◌, append_assoc, append-nil}
use mathlib.Core.Option.{Option, none, some, map}
use Prim.Native.Nat.{ℕ, zero, suc, ◌+◌, ◌-◌, ◌*◌, ◌/◌, ◌%◌, ◌^◌, ◌<◌, ◌≤◌}
use native.Mathlib.Nat.{pow-suc, pow-le-pow_right, mul-le-mul_right, zero-add}
use native.Mathlib.Omega.{arith}
use lib.Dec.{leb, ltb, eqb}
use lib.IntN.{ℤ, pos, negsuc, nat_abs}
use lib.ListN.{length, length-append}
use Rattle.integers.proofs.Tests.{Test, passed, failed, ltb?, eq?}
use Rattle.lists.specs.Lists.{◌∈◌, all, is_nil}
use Rattle.lists.proofs.Decisions.{Decides, decides_nil, decides_not, decides_or, decides_and, decides_as, test_map, all?}
use Rattle.filerules.proofs.Options.{none-some, some_same, decides_leb, choice_in, choice_out}
use Rattle.model.specs.Limits.{max_digits}
use Rattle.model.specs.Bytes.{Bytes, dash, digits, shown}
use Rattle.model.specs.Reader.{is_digit, numeral, magnitude, negative, value_of}

-- ---- the digits of a number

-- the byte is a decimal digit
abbrev pub Digit : ℕ → Type 0
Digit c = (48 ≤ c) × (c ≤ 57)

-- the digits of n, at most k + 1 of them: one, or those of n / 10 and one more
data Digits (k n : ℕ) : Bytes → Type 0 where
  one : n < 10 → Digits k n ((48 + n) ∷ [])
  more : 10 ≤ n → Digits k n (digits k (n / 10) ++ ((48 + n % 10) ∷ []))

digits-by : (k n : ℕ) → Digits k n (digits (suc k) n)
unfolding digits
digits-by k n = go (ltb n 10) (ltb? n 10)
  where
    go : (b : Bool) → Test (n < 10) (10 ≤ n) b → Digits k n (elim b [ true ↦ (48 + n) ∷ [] | false ↦ digits k (n / 10) ++ ((48 + n % 10) ∷ []) ])
    go true (passed h) = one h
    go false (failed h) = more h

digits-short : (k n : ℕ) → n < 10 → digits (suc k) n ≡ (48 + n) ∷ []
digits-short k n h = go (digits (suc k) n) (digits-by k n)
  where
    go : (b : Bytes) → Digits k n b → b ≡ (48 + n) ∷ []
    go b (one l) = refl
    go b (more l) = absurd (omega arith)

digits_long : (k n : ℕ) → 10 ≤ n → digits (suc k) n ≡ digits k (n / 10) ++ ((48 + n % 10) ∷ [])
digits_long k n h = go (digits (suc k) n) (digits-by k n)
  where
    go : (b : Bytes) → Digits k n b → b ≡ digits k (n / 10) ++ ((48 + n % 10) ∷ [])
    go b (one l) = absurd (omega arith)
    go b (more l) = refl

-- the digits of a number are digits
pub digits_are : (k n c : ℕ) → c ∈ digits k n → Digit c
unfolding digits
digits_are zero n c m = absurd (Memᴰ.not-nil m)
digits_are (suc k) n c m = go (digits (suc k) n) (digits-by k n) m (digits_are k (n / 10) c)
  where
    last : c ∈ ((48 + n % 10) ∷ []) → Digit c
    last e = omega (arith, Memᴰ.eq_of_singleton e)

    go : (b : Bytes) → Digits k n b → c ∈ b → (c ∈ digits k (n / 10) → Digit c) → Digit c
    go b (one h) e rec = omega (arith, Memᴰ.eq_of_singleton e)
    go b (more h) e rec = ⊎_elim rec last (Memᴰ.append_cases (digits k (n / 10)) e)

-- a number below 10^(j + 1) has at most j + 1 digits
digits_length : (k j n : ℕ) → n < 10 ^ suc j → length (digits k n) ≤ suc j
unfolding digits
digits_length zero j n h = omega arith
digits_length (suc k) zero n h = rw (digits-short k n (omega arith)) (omega arith)
digits_length (suc k) (suc j) n h = go (digits (suc k) n) (digits-by k n) (digits_length k j (n / 10) (omega arith))
  where
    go : (b : Bytes) → Digits k n b → length (digits k (n / 10)) ≤ suc j → length b ≤ suc (suc j)
    go b (one l) rec = omega arith
    go b (more l) rec = omega (arith, length-append (digits k (n / 10)) ((48 + n % 10) ∷ []))

-- there is a first byte, and it is not the digit 0
abbrev Leading : Bytes → Type 0
Leading [] = ⊥
Leading (c ∷ t) = c ≢ 48

leading_append : (b d : Bytes) → Leading b → Leading (b ++ d)
leading_append [] d l = absurd l
leading_append (c ∷ t) d l = l

-- a number that is not 0 has no leading zero
digits_leading : (k n : ℕ) → 1 ≤ n → n < 10 ^ k → Leading (digits k n)
digits_leading zero n l h = absurd (omega arith)
digits_leading (suc k) n l h = go (digits (suc k) n) (digits-by k n) (λ m. digits_leading k (n / 10) (omega arith) (omega arith))
  where
    go : (b : Bytes) → Digits k n b → (10 ≤ n → Leading (digits k (n / 10))) → Leading b
    go b (one s) rec = omega arith
    go b (more s) rec = leading_append (digits k (n / 10)) ((48 + n % 10) ∷ []) (rec s)

-- a first byte that is not the digit 0, or the only one
abbrev Opens : Bytes → Type 0
Opens [] = ⊥
Opens (c ∷ t) = (c ≢ 48) ⊎ (t ≡ [])

leading_opens : (b : Bytes) → Leading b → Opens b
leading_opens [] l = l
leading_opens (c ∷ t) l = inl l

digits_opens : (k n : ℕ) → n < 10 ^ suc k → Opens (digits (suc k) n)
digits_opens k n h = go (digits (suc k) n) (digits-by k n)
  where
    go : (b : Bytes) → Digits k n b → Opens b
    go b (one s) = inr refl
    go b (more s) =
        let start = digits_leading k (n / 10) (omega arith) (omega arith) in
        leading_opens (digits k (n / 10) ++ ((48 + n % 10) ∷ [])) (leading_append (digits k (n / 10)) ((48 + n % 10) ∷ []) start)

-- ---- the number that digits write

numeral_append : (v : ℕ) (b d : Bytes) → numeral v (b ++ d) ≡ numeral (numeral v b) d
unfolding numeral
numeral_append v [] d = refl
numeral_append v (c ∷ t) d = numeral_append (v * 10 + (c - 48)) t d

-- the digits of n write n
numeral-digits : (k n : ℕ) → n < 10 ^ k → numeral 0 (digits k n) ≡ n
unfolding numeral digits
numeral-digits zero n h = omega arith
numeral-digits (suc k) n h = go (digits (suc k) n) (digits-by k n) (λ m. numeral-digits k (n / 10) (omega arith))
  where
    go : (b : Bytes) → Digits k n b → (10 ≤ n → numeral 0 (digits k (n / 10)) ≡ n / 10) → numeral 0 b ≡ n
    go b (one s) rec = omega arith
    go b (more s) rec = rw (numeral_append 0 (digits k (n / 10)) ((48 + n % 10) ∷ []), rec s) (omega arith)

-- digits behind a number that is not 0 are its digits and theirs
digits-numeral : (b : Bytes) (v k : ℕ) → 1 ≤ v → ((c : ℕ) → c ∈ b → Digit c) → digits (length b + k) (numeral v b) ≡ digits k v ++ b
unfolding numeral
digits-numeral [] v k l h = rw (append-nil, zero-add)
digits-numeral (c ∷ t) v k l h =
    let d = h c (Memᴰ.head refl) in
    let w = v * 10 + (c - 48) in
    let here : (w / 10 ≡ v) × (48 + w % 10 ≡ c) = omega arith in
    let rec = digits-numeral t w (suc k) (omega arith) (λ x m. h x (Memᴰ.tail m)) in
    let long : digits (suc k) w ≡ digits k v ++ (c ∷ []) = rw (digits_long k w (omega arith), here.0, here.1) in
    let e : suc (length t) + k ≡ length t + suc k = omega arith in
    rw (e, rec, long, append_assoc)

-- so many digits write less than that power of ten
numeral-below : (b : Bytes) (v : ℕ) → ((c : ℕ) → c ∈ b → Digit c) → numeral v b < suc v * 10 ^ length b
unfolding numeral
numeral-below [] v h = omega arith
numeral-below (c ∷ t) v h =
    let d = h c (Memᴰ.head refl) in
    let w = v * 10 + (c - 48) in
    let rec = numeral-below t w (λ x m. h x (Memᴰ.tail m)) in
    let most : suc w ≤ suc v * 10 = omega arith in
    rw (pow-suc) (omega (arith, mul-le-mul_right (10 ^ length t) most))

-- ---- magnitudes

-- is_digit decides whether a byte is a digit
pub is_digit? : (c : ℕ) → Decides (Digit c) (is_digit c)
unfolding is_digit
is_digit? c = decides_and (decides_leb 48 c) (decides_leb c 57)

-- what a magnitude is: digits, at most 18 of them, with no leading zero
record Magnitude (b : Bytes) : Type 0 where
  are : (c : ℕ) → c ∈ b → Digit c
  short : length b ≤ max_digits
  opens : Opens b

magnitude? : (c : ℕ) (t : Bytes) → Decides (Magnitude (c ∷ t)) (all is_digit (c ∷ t) && leb (length (c ∷ t)) max_digits && (not (eqb c 48) || is_nil t))
magnitude? c t =
    decides_as (join, part)
    (decides_and (decides_and digits? (decides_leb (length (c ∷ t)) max_digits)) (decides_or (decides_not (eq? c 48)) (decides_nil t)))
  where
    Digitals : Type 0
    Digitals = (x : ℕ) → x ∈ (c ∷ t) → Digit x

    digits? : Decides Digitals (all is_digit (c ∷ t))
    digits? = test_map (λ h. h) (λ w h. w.2 (h w.0 w.1)) (all? is_digit? (c ∷ t))

    join : (Digitals × (length (c ∷ t) ≤ max_digits)) × Opens (c ∷ t) → Magnitude (c ∷ t)
    join p = record { are = p.0.0; short = p.0.1; opens = p.1 }

    part : Magnitude (c ∷ t) → (Digitals × (length (c ∷ t) ≤ max_digits)) × Opens (c ∷ t)
    part m = ((m.are, m.short), m.opens)

magnitude_in : (b : Bytes) → Magnitude b → magnitude b ≡ some (numeral 0 b)
unfolding magnitude
magnitude_in [] m = absurd m.opens
magnitude_in (c ∷ t) m = choice_in none (magnitude? c t) m

magnitude_out : (b : Bytes) (n : ℕ) → magnitude b ≡ some n → Magnitude b × (numeral 0 b ≡ n)
unfolding magnitude
magnitude_out [] n e = absurd (none-some e)
magnitude_out (c ∷ t) n e = let w = choice_out (magnitude? c t) e in (w.0, some_same w.1)

-- a number below 10^18 is the magnitude of its digits
magnitude-digits : (n : ℕ) → n < 10 ^ max_digits → magnitude (digits 20 n) ≡ some n
magnitude-digits n h =
    magnitude_in (digits 20 n) (record { are = digits_are 20 n; short = digits_length 20 17 n h; opens = digits_opens 19 n (omega arith) })
    ∙ ap some (numeral-digits 20 n (omega arith))

digits-single : (c : ℕ) → Digit c → digits 20 (numeral 0 (c ∷ [])) ≡ c ∷ []
unfolding numeral
digits-single c d =
    let e : 48 + (0 * 10 + (c - 48)) ≡ c = omega arith in
    rw (digits-short 19 (0 * 10 + (c - 48)) (omega arith), e)

digits-several : (c : ℕ) (t : Bytes) → c ≢ 48 → Magnitude (c ∷ t) → digits 20 (numeral 0 (c ∷ t)) ≡ c ∷ t
unfolding numeral
digits-several c t o m =
    let d = m.are c (Memᴰ.head refl) in
    let s = m.short in
    let v = 0 * 10 + (c - 48) in
    let k = 19 - length t in
    let e : 48 + v ≡ c = omega arith in
    let f : length t + suc k ≡ 20 = omega arith in
    let rec = digits-numeral t v (suc k) (omega arith) (λ x n. m.are x (Memᴰ.tail n)) in
    let start : digits (suc k) v ≡ c ∷ [] = rw (digits-short k v (omega arith), e) in
    rw (f, start) at rec

digits-written : (b : Bytes) → Magnitude b → Opens b → digits 20 (numeral 0 b) ≡ b
digits-written [] m o = absurd o
digits-written (c ∷ t) m (inl o) = digits-several c t o m
digits-written (c ∷ t) m (inr o) = rw o (digits-single c (m.are c (Memᴰ.head refl)))

-- a magnitude is written by its digits, and is below 10^18
digits-magnitude : (b : Bytes) (n : ℕ) → magnitude b ≡ some n → (b ≡ digits 20 n) × (n < 10 ^ max_digits)
digits-magnitude b n e =
    let w = magnitude_out b n e in
    let most : 10 ^ length b ≤ 10 ^ max_digits = pow-le-pow_right (omega arith) w.0.short in
    let below : numeral 0 b < 10 ^ max_digits = omega (arith, numeral-below b 0 w.0.are) in
    rw (← w.1) (sym (digits-written b w.0 w.0.opens), below)

-- ---- values

-- digits do not begin with a minus
value-digits : (n : ℕ) (b : Bytes) → ((c : ℕ) → c ∈ b → Digit c) → magnitude b ≡ some n → value_of b ≡ some (pos n)
unfolding value_of
value-digits n [] h e = absurd (magnitude_out [] n e).0.opens
value-digits n (c ∷ t) h e = go (eqb c dash) (eq? c dash) (h c (Memᴰ.head refl))
  where
    go : (b : Bool) → Test (c ≡ dash) (c ≢ dash) b → Digit c → cond b (negative (magnitude t)) (map pos (magnitude (c ∷ t))) ≡ some (pos n)
    go true (passed q) d = absurd (omega arith)
    go false (failed q) d = rw e

-- a value of at most 18 digits is read from what shows it
pub value-shown : (v : ℤ) → nat_abs v < 10 ^ max_digits → value_of (shown v) ≡ some v
unfolding shown value_of negative
value-shown (pos n) h = value-digits n (digits 20 n) (digits_are 20 n) (magnitude-digits n h)
value-shown (negsuc n) h = rw (magnitude-digits (suc n) h)

negative_out : (m : Option ℕ) (v : ℤ) → negative m ≡ some v → (n : ℕ) × (m ≡ some (suc n)) × (negsuc n ≡ v)
unfolding negative
negative_out none v e = absurd (none-some e)
negative_out (some zero) v e = absurd (none-some e)
negative_out (some (suc n)) v e = (n, refl, some_same e)

positive_out : (m : Option ℕ) (v : ℤ) → map pos m ≡ some v → (n : ℕ) × (m ≡ some n) × (pos n ≡ v)
positive_out none v e = absurd (none-some e)
positive_out (some n) v e = (n, refl, some_same e)

-- a field that has a value is what shows it, and the value has at most 18 digits
pub shown-value : (b : Bytes) (v : ℤ) → value_of b ≡ some v → (b ≡ shown v) × (nat_abs v < 10 ^ max_digits)
unfolding value_of shown
shown-value [] v e = absurd (none-some e)
shown-value (c ∷ t) v e = go (eqb c dash) (eq? c dash) e
  where
    go : (b : Bool) → Test (c ≡ dash) (c ≢ dash) b → cond b (negative (magnitude t)) (map pos (magnitude (c ∷ t))) ≡ some v
        → (c ∷ t ≡ shown v) × (nat_abs v < 10 ^ max_digits)
    go true (passed q) e =
        let w = negative_out (magnitude t) v e in
        let d = digits-magnitude t (suc w.0) w.1 in
        rw (← w.2) (rw q (ap {B = Bytes} (λ r. dash ∷ r) d.0), d.1)
    go false (failed q) e =
        let w = positive_out (magnitude (c ∷ t)) v e in
        rw (← w.2) (digits-magnitude (c ∷ t) w.0 w.1)

-- what shows a value is digits, behind a minus or not
pub shown_are : (v : ℤ) (c : ℕ) → c ∈ shown v → (c ≡ dash) ⊎ Digit c
unfolding shown
shown_are (pos n) c m = inr (digits_are 20 n c m)
shown_are (negsuc n) c m = ⊎_elim inl (λ k. inr (digits_are 20 (suc n) c k)) (Memᴰ.cases_cons m)
