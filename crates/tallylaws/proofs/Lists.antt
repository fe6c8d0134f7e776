-- After any list of checks from a fresh tally, each count is the number of that caller's checks of the list that ended so, at most 2^63 − 1. The number is
-- counted in the list. By induction on the list: a check adds one to the count and one to the number, or nothing to either.
use mathlib.Core.Path.{◌≡◌, refl, sym, ap, ◌∙◌}
use mathlib.Core.Bool.{Bool, true, false, cond}
use mathlib.Core.List.{List, [], ◌∷◌, map}
use mathlib.Core.Logic.{◌≢◌, ◌↔◌}
use Prim.Native.Nat.{ℕ, suc, ◌+◌, ◌*◌, ◌<◌, ◌≤◌, min}
use native.Mathlib.Omega.{arith}
use lib.Dec.{eqb}
use lib.IntN.{pos}
use lib.ListN.{length, length-map, length-replicate, get_or-replicate}
use Rattle.integers.specs.Integers.{eq_z}
use Rattle.integers.proofs.Tests.{Test, passed, failed, eq?, eq_z?, eq_z→eq, eq_z_refl}
use Rattle.lists.specs.Lists.{◌∈◌, keep}
use Rattle.lists.proofs.Membership.{keep_in, keep_out, map_out}
use Rattle.model.specs.Limits.{callers, count_kinds, count_ceiling}
use Rattle.model.specs.Compare.{count}
use Rattle.model.specs.Tally.{Check, ending, count_place, count_at, counts_after, fresh_tally, counts_after_all, checks_of, ended}
use Rattle.model.proofs.Folds.{counts_four}
use Rattle.tallylaws.proofs.Answers.{ending-kind}
use Rattle.tallylaws.proofs.Counts.{raised, raised-low, raised-high, raised-none, raised-more, after_length, after_other-row, after_other-ending, after_raised}

-- ---- the number, counted in the list

-- the checks that are caller k's are those of the list with this number
pub checks-of : (k : ℕ) (cs : List Check) (c : Check) → c ∈ checks_of k cs ↔ ((c ∈ cs) × (c.caller ≡ pos k))
unfolding checks_of
checks-of k cs c = (
  λ m. let w = keep_out (λ (d : Check). eq_z d.caller (pos k)) cs m in (w.0, eq_z→eq c.caller (pos k) w.1),
  λ w. keep_in (λ (d : Check). eq_z d.caller (pos k)) (rw w.1 (eq_z_refl (pos k))) w.0,
)

-- the four numbers of a caller together are as many as the caller's checks: each ended in one way
pub ended-total : (k : ℕ) (cs : List Check) → ended k 0 cs + ended k 1 cs + ended k 2 cs + ended k 3 cs ≡ length (checks_of k cs)
unfolding ended
ended-total k cs =
    counts_four (map ending (checks_of k cs)) (λ v m. let w = map_out ending (checks_of k cs) m in rw w.2 (omega (arith, ending-kind w.0)))
    ∙ length-map (checks_of k cs) ending

-- the number in a list of no check, and with one check more
ended-none : (k v : ℕ) → ended k v [] ≡ 0
unfolding ended checks_of keep count
ended-none k v = refl

ended-first : (k v : ℕ) (c : Check) (cs : List Check)
    → ended k v (c ∷ cs) ≡ cond (eq_z c.caller (pos k)) (cond (eqb (ending c) v) (suc (ended k v cs)) (ended k v cs)) (ended k v cs)
unfolding ended checks_of keep count
ended-first k v c cs = go (eq_z c.caller (pos k))
  where
    go : (b : Bool)
        → count v (map ending (cond b (c ∷ checks_of k cs) (checks_of k cs))) ≡ cond b (cond (eqb (ending c) v) (suc (ended k v cs)) (ended k v cs)) (ended k v cs)
    go true = refl
    go false = refl

-- ---- the record

-- the record keeps its number of counts
pub tally_length : (cs : List Check) (counts : List ℕ) → length (counts_after_all cs counts) ≡ length counts
unfolding counts_after_all
tally_length [] counts = refl
tally_length (c ∷ cs) counts = tally_length cs (counts_after c counts) ∙ after_length c counts

-- from a fresh tally it has 64
pub tally-size : (cs : List Check) → length (counts_after_all cs fresh_tally) ≡ 64
tally-size cs = tally_length cs fresh_tally ∙ length-replicate {A = ℕ} 64 0

module _ (k v : ℕ) (few : k < callers) (kind : v < count_kinds) where
  -- a check of the caller that ended so adds one; any other leaves the count
  after_counted : (c : Check) (counts : List ℕ) → length counts ≡ count_kinds * callers
      → count_at k v (counts_after c counts) ≡ cond (eq_z c.caller (pos k)) (cond (eqb (ending c) v) (raised (count_at k v counts) 1) (count_at k v counts)) (count_at k v counts)
  after_counted c counts size = go (eq_z c.caller (pos k)) (eqb (ending c) v) (eq_z? c.caller (pos k)) (eq? (ending c) v)
    where
      go : (a b : Bool) → Test (c.caller ≡ pos k) (c.caller ≢ pos k) a → Test (ending c ≡ v) (ending c ≢ v) b
          → count_at k v (counts_after c counts) ≡ cond a (cond b (raised (count_at k v counts) 1) (count_at k v counts)) (count_at k v counts)
      go true true (passed own) (passed so) = after_raised c counts k v kind few size own so
      go true false (passed own) (failed n) = after_other-ending c counts k v kind n
      go false b (failed n) t = after_other-row c counts k v kind n

  -- after any list of checks each count has as many more as the caller's checks that ended so
  tally-raised : (cs : List Check) (counts : List ℕ) → length counts ≡ count_kinds * callers
      → count_at k v (counts_after_all cs counts) ≡ raised (count_at k v counts) (ended k v cs)
  unfolding counts_after_all
  tally-raised [] counts size = sym (ap (raised (count_at k v counts)) (ended-none k v) ∙ raised-none (count_at k v counts))
  tally-raised (c ∷ cs) counts size =
      tally-raised cs (counts_after c counts) (after_length c counts ∙ size)
      ∙ ap (λ (s : ℕ). raised s (ended k v cs)) (after_counted c counts size)
      ∙ more (eq_z c.caller (pos k)) (eqb (ending c) v)
      ∙ ap (raised start) (sym (ended-first k v c cs))
    where
      start : ℕ
      start = count_at k v counts

      more : (a b : Bool) → raised (cond a (cond b (raised start 1) start) start) (ended k v cs)
          ≡ raised start (cond a (cond b (suc (ended k v cs)) (ended k v cs)) (ended k v cs))
      more true true = raised-more start (ended k v cs)
      more true false = refl
      more false b = refl

-- from any record of 64 counts, a count up to the ceiling has as many more as the caller's checks of the list that ended so, at most 2^63 − 1
pub tally_adds : (cs : List Check) (counts : List ℕ) (k v : ℕ) → length counts ≡ count_kinds * callers → k < callers → v < count_kinds
    → count_at k v counts ≤ count_ceiling → count_at k v (counts_after_all cs counts) ≡ min (count_at k v counts + ended k v cs) count_ceiling
tally_adds cs counts k v size few kind low = tally-raised k v few kind cs counts size ∙ raised-low (count_at k v counts) (ended k v cs) low

-- and a count at the ceiling or above it stays
pub tally_stays : (cs : List Check) (counts : List ℕ) (k v : ℕ) → length counts ≡ count_kinds * callers → k < callers → v < count_kinds
    → count_ceiling ≤ count_at k v counts → count_at k v (counts_after_all cs counts) ≡ count_at k v counts
tally_stays cs counts k v size few kind high = tally-raised k v few kind cs counts size ∙ raised-high (count_at k v counts) (ended k v cs) high

-- for every list of checks from a fresh tally, each count is the number of that caller's checks that ended so, at most 2^63 − 1
pub tally-counts : (cs : List Check) (k v : ℕ) → k < callers → v < count_kinds
    → count_at k v (counts_after_all cs fresh_tally) ≡ min (ended k v cs) count_ceiling
tally-counts cs k v few kind =
    let none : count_at k v fresh_tally ≡ 0 = get_or-replicate (count_kinds * callers) (count_place k v) 0 0 (omega arith) in
    tally_adds cs fresh_tally k v (length-replicate {A = ℕ} (count_kinds * callers) 0) few kind (omega (arith, none)) ∙ omega (arith, none)
