-- Numbers copied into a lent buffer: all of them, or none where they do not fit.
use Rattle.std.specs.Prelude.{Err, Ok}
use mathlib.Core.Path.{◌≡◌, refl, sym, ap, ◌∙◌}
use mathlib.Core.List.{List, [], ◌∷◌, ◌++◌, map}
use Prim.Native.Nat.{ℕ, zero, suc, ◌+◌, ◌*◌, ◌≤◌, ◌<◌}
use native.Mathlib.Numerals.{add-one}
use native.Mathlib.Omega.{arith}
use borrow.Author.Tests.{lt-ltb, le-ltb}
use lib.IntN.{ℤ, pos}
use lib.ListN.{length, get_or, take, drop, set, length-take, length-map}
use lib.Seq.{drop-cons, set_at, append_snoc, ext_get_or, get_or-take, length-take-le}
use Rattle.model.specs.Checks.{when, check_output}
use Rattle.model.specs.Calls.{answer, buffer_after, numbers_of}
use Rattle.model.specs.declared.Reason.TheVariants.{LongOutput}
use Rattle.reach.specs.Counting.{values_of}
use Rattle.reach.proofs.Values.{values_length, values-at}
use Rattle.normalisation.proofs.Normalising.{numbers_length}
use Rattle.model.specs.Limits.{record_width}
use Rattle.listing.specs.Listing.{bit_record}
use Rattle.bitmapping.specs.Copying.{spaced, Copied}

-- ---- one by one

module _ (f : ℕ → ℤ) (n : ℕ) (old : List ℤ) where
  -- one number more
  pub values-more : n < length old → set (values_of f n ++ drop n old) n (f n) ≡ values_of f (n + 1) ++ drop (n + 1) old
  unfolding values_of
  values-more h =
      rw (add-one n) (ap (λ t. set (values_of f n ++ t) n (f n)) (drop-cons old n (pos 0) h)
      ∙ set_at (values_of f n) (get_or old n (pos 0)) (drop (suc n) old) (f n) n (values_length f n)
      ∙ sym (append_snoc (values_of f n) (f n) (drop (suc n) old)))

  -- ---- all, or none

  module _ (count : ℕ) where
    -- numbers that do not fit are refused, and none is copied
    pub copied_none : length old < n → Copied (values_of f n) count old (Err LongOutput) old
    unfolding answer check_output when buffer_after
    copied_none h = record { answers = rw (values_length f n, lt-ltb (length old) n h) refl; buffer = rw (values_length f n, lt-ltb (length old) n h) refl }

    -- numbers that fit are all copied
    pub copied_all : n ≤ length old → {new : List ℤ} → new ≡ values_of f n ++ drop n old → Copied (values_of f n) count old (Ok count) new
    unfolding answer check_output when buffer_after
    copied_all h copied =
        record { answers = rw (values_length f n, le-ltb (length old) n h) refl; buffer = rw (values_length f n, le-ltb (length old) n h, values_length f n) copied }

-- ---- which numbers

-- a list whose front is a list of n numbers has as many
front-room : (from : List ℤ) {numbers : List ℤ} (n : ℕ) → length numbers ≡ n → take n from ≡ numbers → n ≤ length from
front-room from n e q = omega (arith, length-take n from, ap length q)

-- each number of the front
pub spaced-front : (from : List ℤ) (n : ℕ) → n ≤ length from → spaced from 0 1 n ≡ take n from
spaced-front from n h =
    let f : ℕ → ℤ = λ k. get_or from (0 + 1 * k) (pos 0) in
    ext_get_or (pos 0) (values_of f n) (take n from) (values_length f n ∙ sym (length-take-le n from h))
    (λ i k.
    let j : i < n = omega (arith, k, values_length f n) in
    let at : 0 + 1 * i ≡ i = omega arith in
    values-at f (pos 0) n i j ∙ rw (at, get_or-take n from i (pos 0) j) refl)

bits_at : (bits : List ℤ) (i : ℕ) → get_or (numbers_of (map bit_record bits)) (2 + record_width * i) (pos 0) ≡ get_or bits i (pos 0)
unfolding numbers_of
bits_at [] i = refl
bits_at (b ∷ bits) zero = refl
bits_at (b ∷ bits) (suc i) = let next : 2 + record_width * suc i ≡ suc (suc (suc (2 + record_width * i))) = omega arith in rw next (bits_at bits i)

-- records of n bits have three numbers a bit
pub bits-room : (from bits : List ℤ) (n : ℕ) → length bits ≡ n → take (record_width * n) from ≡ numbers_of (map bit_record bits) → record_width * n ≤ length from
bits-room from bits n e q = front-room from (record_width * n) (numbers_length (map bit_record bits) ∙ ap (λ m. record_width * m) (length-map bits bit_record ∙ e)) q

-- the third number of each row, where the rows are records of bits
pub spaced-bits : (from bits : List ℤ) (n : ℕ) → length bits ≡ n → take (record_width * n) from ≡ numbers_of (map bit_record bits) → spaced from 2 record_width n ≡ bits
spaced-bits from bits n e front =
    let f : ℕ → ℤ = λ k. get_or from (2 + record_width * k) (pos 0) in
    ext_get_or (pos 0) (values_of f n) bits (values_length f n ∙ sym e)
    (λ i k.
    let j : i < n = omega (arith, k, values_length f n) in
    values-at f (pos 0) n i j ∙ sym (get_or-take (record_width * n) from (2 + record_width * i) (pos 0) (omega arith)) ∙ ap (λ (l : List ℤ). get_or l (2 + record_width * i) (pos 0)) front ∙ bits_at bits i)
