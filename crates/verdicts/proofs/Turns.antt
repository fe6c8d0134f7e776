-- One turn of each loop: what the lists from record i on give, told by record i and the lists from record i + 1 on.
use mathlib.Core.Path.{◌≡◌, refl, sym, ap, ◌∙◌}
use mathlib.Core.Bool.{Bool, true, false}
use mathlib.Core.Logic.{◌≢◌}
use mathlib.Core.List.{List, [], ◌∷◌, ◌++◌}
use Prim.Native.Nat.{ℕ, ◌+◌, ◌≤◌, ◌<◌}
use lib.Dec.{ltb}
use lib.ListN.{length}
use lib.IntN.{ℤ}
use Rattle.integers.proofs.Tests.{Test, passed, failed, ltb?, is_false, T_true}
use Rattle.model.specs.Bitmapping.{Record}
use Rattle.model.specs.Verdicts.{same_record, same_list}
use Rattle.model.proofs.Verdicts.{same-list}
use Rattle.normalisation.specs.Records.{record_at, records_of, records_from}
use Rattle.verdicts.specs.OnePass.{aligned, ends, candidates, heads_aligned, starts, lower, lowest_from}
use Rattle.normalisation.proofs.Records.{records_of_length, records_from-more, records_from-none}

-- ---- the same lists

-- lists of different lengths are not the same
pub same-sizes : (a b : List ℤ) (m n : ℕ) → m ≢ n → same_list (records_of a m) (records_of b n) ≡ false
same-sizes a b m n h =
    is_false (same_list (records_of a m) (records_of b n))
    (λ t. h (sym (records_of_length a m) ∙ ap length ((same-list (records_of a m) (records_of b n)).0 t) ∙ records_of_length b n))

module _ (a b : List ℤ) (n i : ℕ) where
  -- records i that are the same leave it to the rest
  pub same_more : i < n → same_record (record_at a i) (record_at b i) ≡ true
      → same_list (records_from a i n) (records_from b i n) ≡ same_list (records_from a (i + 1) n) (records_from b (i + 1) n)
  unfolding same_list
  same_more h e = rw (records_from-more a i n h, records_from-more b i n h, e) refl

  -- others decide
  pub same-other : i < n → same_record (record_at a i) (record_at b i) ≡ false → same_list (records_from a i n) (records_from b i n) ≡ false
  unfolding same_list
  same-other h e = rw (records_from-more a i n h, records_from-more b i n h, e) refl

  -- behind the last records nothing differs
  pub same_none : n ≤ i → same_list (records_from a i n) (records_from b i n) ≡ true
  unfolding same_list
  same_none h = rw (records_from-none a i n h, records_from-none b i n h) refl

-- ---- the lowest candidate

-- the lowest of two lists, one after the other
lowest_from_append : (a : ℤ) (l m : List ℤ) → lowest_from a (l ++ m) ≡ lowest_from (lowest_from a l) m
unfolding lowest_from
lowest_from_append a [] m = refl
lowest_from_append a (b ∷ l) m = lowest_from_append (lower a b) l m

-- where the heads do not begin alike, the candidates are where the lists begin
candidates-last : (l m : List Record) → heads_aligned l m ≡ false → candidates l m ≡ starts l ++ starts m
unfolding candidates heads_aligned starts
candidates-last [] [] e = refl
candidates-last [] (s ∷ m) e = refl
candidates-last (r ∷ l) [] e = refl
candidates-last (r ∷ l) (s ∷ m) e = rw e refl

module _ (a b : List ℤ) (m n i : ℕ) where
  -- records i that begin alike are there
  pub heads-there : heads_aligned (records_from a i m) (records_from b i n) ≡ true → (i < m) × (i < n)
  unfolding heads_aligned
  heads-there e = go (ltb i m) (ltb i n) (ltb? i m) (ltb? i n)
    where
      go : (s t : Bool) → Test (i < m) (m ≤ i) s → Test (i < n) (n ≤ i) t → (i < m) × (i < n)
      go true true (passed p) (passed q) = (p, q)
      go false t (failed p) q = absurd (T_true false (rw (records_from-none a i m p) at e))
      go true false (passed p) (failed q) = absurd (T_true false (rw (records_from-more a i m p, records_from-none b i n q) at e))

  -- where they begin alike, where they end apart comes first
  pub lowest-more : (least : ℤ) → heads_aligned (records_from a i m) (records_from b i n) ≡ true
      → lowest_from least (candidates (records_from a i m) (records_from b i n))
      ≡ lowest_from (lowest_from least (ends (record_at a i) (record_at b i))) (candidates (records_from a (i + 1) m) (records_from b (i + 1) n))
  unfolding candidates heads_aligned
  lowest-more least e =
      let (p, q) = heads-there e in
      let f : aligned (record_at a i) (record_at b i) ≡ true = rw (records_from-more a i m p, records_from-more b i n q) at e in
      rw (records_from-more a i m p, records_from-more b i n q, f)
      (lowest_from_append least (ends (record_at a i) (record_at b i)) (candidates (records_from a (i + 1) m) (records_from b (i + 1) n)))

  -- where they do not, it ends with where the lists go on
  pub lowest-last : (least : ℤ) → heads_aligned (records_from a i m) (records_from b i n) ≡ false
      → lowest_from least (candidates (records_from a i m) (records_from b i n))
      ≡ lowest_from (lowest_from least (starts (records_from a i m))) (starts (records_from b i n))
  lowest-last least e =
      ap (lowest_from least) (candidates-last (records_from a i m) (records_from b i n) e)
      ∙ lowest_from_append least (starts (records_from a i m)) (starts (records_from b i n))
