-- The record of counts after one check: one count of the caller's row has one more, unless it stays; the 63 others are what they were.
use mathlib.Core.Path.{◌≡◌, refl, ap, ◌∙◌}
use mathlib.Core.Bool.{Bool, true, false, cond}
use mathlib.Core.List.{List}
use mathlib.Core.Logic.{◌≢◌}
use mathlib.Core.Option.{Option, none, some}
use Prim.Native.Nat.{ℕ, suc, ◌+◌, ◌*◌, ◌<◌, ◌≤◌, min}
use native.Mathlib.Omega.{arith}
use lib.Dec.{ltb}
use lib.IntN.{pos}
use lib.ListN.{length, get_or, set, length-set}
use lib.Seq.{get_or-set_same, get_or-set_other}
use Rattle.integers.proofs.Tests.{Test, passed, failed, ltb?}
use Rattle.model.specs.Limits.{callers, count_kinds, count_ceiling}
use Rattle.model.specs.Tally.{Check, Caller, caller_of, ending, count_place, count_at, one_more, one_more_for, counts_after}
use Rattle.model.proofs.Tally.{caller-some, caller-none}
use Rattle.tallylaws.proofs.Answers.{ending-kind}

-- ---- a count with n more, up to the ceiling; one at the ceiling or above it stays

abbrev pub raised : ℕ → ℕ → ℕ
raised start n = cond (ltb start count_ceiling) (min (start + n) count_ceiling) start

pub raised-low : (s n : ℕ) → s ≤ count_ceiling → raised s n ≡ min (s + n) count_ceiling
raised-low s n low = go (ltb s count_ceiling) (ltb? s count_ceiling)
  where
    go : (b : Bool) → Test (s < count_ceiling) (count_ceiling ≤ s) b → cond b (min (s + n) count_ceiling) s ≡ min (s + n) count_ceiling
    go true t = refl
    go false (failed k) = omega (arith, k, low)

pub raised-high : (s n : ℕ) → count_ceiling ≤ s → raised s n ≡ s
raised-high s n high = go (ltb s count_ceiling) (ltb? s count_ceiling)
  where
    go : (b : Bool) → Test (s < count_ceiling) (count_ceiling ≤ s) b → cond b (min (s + n) count_ceiling) s ≡ s
    go true (passed k) = absurd (omega (arith, k, high))
    go false t = refl

pub raised-none : (s : ℕ) → raised s 0 ≡ s
raised-none s = go (ltb s count_ceiling) (ltb? s count_ceiling)
  where
    go : (b : Bool) → Test (s < count_ceiling) (count_ceiling ≤ s) b → cond b (min (s + 0) count_ceiling) s ≡ s
    go true (passed k) = omega (arith, k)
    go false t = refl

-- one more and then n more are suc n more
pub raised-more : (s n : ℕ) → raised (raised s 1) n ≡ raised s (suc n)
raised-more s n = go (ltb s count_ceiling) (ltb? s count_ceiling)
  where
    go : (b : Bool) → Test (s < count_ceiling) (count_ceiling ≤ s) b
        → raised (cond b (min (s + 1) count_ceiling) s) n ≡ cond b (min (s + suc n) count_ceiling) s
    go true (passed k) = raised-low (min (s + 1) count_ceiling) n (omega arith) ∙ omega (arith, k)
    go false (failed k) = raised-high s n k

-- ---- a place of the record

one_same : (i : ℕ) (counts : List ℕ) → i < length counts → get_or (one_more i counts) i 0 ≡ raised (get_or counts i 0) 1
unfolding one_more
one_same i counts h = go (ltb (get_or counts i 0) count_ceiling) (ltb? (get_or counts i 0) count_ceiling)
  where
    go : (b : Bool) → Test (get_or counts i 0 < count_ceiling) (count_ceiling ≤ get_or counts i 0) b
        → get_or (cond b (set counts i (suc (get_or counts i 0))) counts) i 0 ≡ cond b (min (get_or counts i 0 + 1) count_ceiling) (get_or counts i 0)
    go true (passed k) = get_or-set_same counts i (suc (get_or counts i 0)) 0 h ∙ omega (arith, k)
    go false t = refl

one_other : (i j : ℕ) (counts : List ℕ) → j ≢ i → get_or (one_more i counts) j 0 ≡ get_or counts j 0
unfolding one_more
one_other i j counts n = go (ltb (get_or counts i 0) count_ceiling)
  where
    go : (b : Bool) → get_or (cond b (set counts i (suc (get_or counts i 0))) counts) j 0 ≡ get_or counts j 0
    go true = get_or-set_other counts i j (suc (get_or counts i 0)) 0 n
    go false = refl

one_length : (i : ℕ) (counts : List ℕ) → length (one_more i counts) ≡ length counts
unfolding one_more
one_length i counts = go (ltb (get_or counts i 0) count_ceiling)
  where
    go : (b : Bool) → length (cond b (set counts i (suc (get_or counts i 0))) counts) ≡ length counts
    go true = length-set counts i (suc (get_or counts i 0))
    go false = refl

-- ---- a check

-- the record keeps its number of counts
pub after_length : (c : Check) (counts : List ℕ) → length (counts_after c counts) ≡ length counts
unfolding counts_after
after_length c counts = go (caller_of c.caller)
  where
    go : (o : Option ℕ) → length (one_more_for o (ending c) counts) ≡ length counts
    go none = refl
    go (some k) = one_length (count_place k (ending c)) counts

-- a check whose number lies outside 0..15 moves nothing
pub after_outside : (c : Check) (counts : List ℕ) → (Caller c.caller → ⊥) → counts_after c counts ≡ counts
unfolding counts_after
after_outside c counts outside = rw ((caller-none c.caller).1 outside)

module _ (c : Check) (counts : List ℕ) (k v : ℕ) (kind : v < count_kinds) where
  -- no row moves but the caller's
  pub after_other-row : c.caller ≢ pos k → count_at k v (counts_after c counts) ≡ count_at k v counts
  unfolding counts_after
  after_other-row n = go (caller_of c.caller) refl
    where
      go : (o : Option ℕ) → caller_of c.caller ≡ o → count_at k v (one_more_for o (ending c) counts) ≡ count_at k v counts
      go none e = refl
      go (some j) e =
          one_other (count_place j (ending c)) (count_place k v) counts
          (λ same. n (((caller-some c.caller j).0 e).0 ∙ ap pos (omega (arith, same, kind, ending-kind c))))

  -- and in it no count but that of the ending
  pub after_other-ending : ending c ≢ v → count_at k v (counts_after c counts) ≡ count_at k v counts
  unfolding counts_after
  after_other-ending n = go (caller_of c.caller) refl
    where
      go : (o : Option ℕ) → caller_of c.caller ≡ o → count_at k v (one_more_for o (ending c) counts) ≡ count_at k v counts
      go none e = refl
      go (some j) e =
          one_other (count_place j (ending c)) (count_place k v) counts (λ same. n (omega (arith, same, kind, ending-kind c)))

  module _ (few : k < callers) (size : length counts ≡ count_kinds * callers) (own : c.caller ≡ pos k) (so : ending c ≡ v) where
    pub after_raised : count_at k v (counts_after c counts) ≡ raised (count_at k v counts) 1
    unfolding counts_after
    after_raised = rw ((caller-some c.caller k).1 (own, few), so) (one_same (count_place k v) counts (omega (arith, size)))

    -- that one has one more, below the ceiling
    pub after_own : count_at k v counts < count_ceiling → count_at k v (counts_after c counts) ≡ suc (count_at k v counts)
    after_own low = after_raised ∙ raised-low (count_at k v counts) 1 (omega (arith, low)) ∙ omega (arith, low)

    -- and stays at the ceiling and above it
    pub after_ceiling : count_ceiling ≤ count_at k v counts → count_at k v (counts_after c counts) ≡ count_at k v counts
    after_ceiling high = after_raised ∙ raised-high (count_at k v counts) 1 high
