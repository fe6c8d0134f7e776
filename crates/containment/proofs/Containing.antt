-- One pass over two lists that are sorted by displacement says whether each record of the one is contained in one record of the other. Membership does
-- not depend on order, so it says so of the lists as they stood before they were sorted.
use mathlib.Core.Path.{◌≡◌, refl, sym, subst}
use mathlib.Core.Bool.{Bool, true, false, cond}
use mathlib.Core.List.Memᴰ
use mathlib.Core.List.{List, [], ◌∷◌}
use mathlib.Core.Logic.{◌⊎◌, inl, inr, ◌↔◌}
use native.Mathlib.Omega.{arith}
use lib.Dec.{T}
use lib.IntN.{pos}
use lib.Signed.{◌≤ℤ◌}
use Rattle.integers.proofs.Linear.{ints, sum}
use Rattle.integers.proofs.Tests.{passed, failed}
use Rattle.lists.specs.Lists.{◌∈◌}
use Rattle.lists.proofs.Decisions.{Decides, decides_as}
use Rattle.model.specs.Bitmapping.{Record}
use Rattle.model.specs.Runs.{touch}
use Rattle.model.specs.Verdicts.{Contained, contained, all_contained}
use Rattle.model.proofs.Records.{touch_is}
use Rattle.model.proofs.Verdicts.{contained?, each?}
use Rattle.normalisation.specs.Merging.{sorted_by_displacement}
use Rattle.normalisation.specs.Records.{IsNormal}
use Rattle.normalisation.proofs.Sorted.{Pairwise, more, Follows, by-displacement_members, by-displacement_follows}
use Rattle.containment.specs.Containing.{contains_all}

-- each record of m is contained in one record of l
abbrev Each : List Record → List Record → Type 0
Each l m = (r : Record) → r ∈ m → (s : Record) × (s ∈ l) × Contained r s

-- no record of the list is empty
abbrev Full : List Record → Type 0
Full l = (r : Record) → r ∈ l → r.first ≤ℤ r.last

-- records of the list that touch are the same
abbrev Apart : List Record → Type 0
Apart l = (r s : Record) → r ∈ l → s ∈ l → T (touch r s) → r ≡ s

-- Let s stand before s', and r before r'. Where s' contains r and s does not, s contains r' neither: all would be of one displacement, and s' would
-- begin at or below r, r at or below r', and r' in s. So s' would begin in s, and touch it.
left_behind : {s s' r r' : Record} → Follows s s' → (T (touch s s') → s ≡ s') → Follows r r' → r.first ≤ℤ r.last → r'.first ≤ℤ r'.last
    → Contained r s' → (Contained r s → ⊥) → Contained r' s → ⊥
left_behind {s} {s'} {r} {r'} before apart after full full' c n d =
    let same : s.displacement ≡ s'.displacement = omega (arith, ints, before.displacement, after.displacement, c.displacement, d.displacement) in
    let later : r.first ≤ℤ r'.first = after.first (omega (arith, ints, c.displacement, d.displacement, same)) in
    let touching : T (touch s s') = (touch_is s s').1 (record {
      same = same;
      reaches = omega (arith, ints, c.root_low, later, full', d.root_high, sum s.last (pos 1));
      reached = omega (arith, ints, before.first same, c.root_low, full, c.root_high, sum s'.last (pos 1));
    }) in
    n (subst (Contained r) (sym (apart touching)) c)

module _ {s r : Record} {l m : List Record} where
  -- a record that the first contains is done with
  each-inside : Contained r s → Each (s ∷ l) m ↔ Each (s ∷ l) (r ∷ m)
  each-inside c = (λ each q k. go each q (Memᴰ.cases_cons k), λ each q k. each q (Memᴰ.tail k))
    where
      go : Each (s ∷ l) m → (q : Record) → (q ≡ r) ⊎ (q ∈ m) → (p : Record) × (p ∈ (s ∷ l)) × Contained q p
      go each q (inl e) = (s, Memᴰ.head refl, subst (λ (z : Record). Contained z s) (sym e) c)
      go each q (inr k) = each q k

  -- a first that does not contain it can be left out: either way the answer is the same
  each-past : ((p : Record) → p ∈ l → Follows s p × (T (touch s p) → s ≡ p)) → ((q : Record) → q ∈ m → Follows r q × (q.first ≤ℤ q.last))
      → r.first ≤ℤ r.last → (Contained r s → ⊥) → Each l (r ∷ m) ↔ Each (s ∷ l) (r ∷ m)
  each-past before after full n = (λ each q k. let (p, i, c) = each q k in (p, Memᴰ.tail i, c), λ each q k. later each q k (each q k))
    where
      -- the record that contains r is not the first
      other : (p : Record) → Contained r p → (p ≡ s) ⊎ (p ∈ l) → p ∈ l
      other p c (inl e) = absurd (n (subst (Contained r) e c))
      other p c (inr i) = i

      of-first : (each : Each (s ∷ l) (r ∷ m)) → (p : Record) × (p ∈ l) × Contained r p
      of-first each = let (p, i, c) = each r (Memᴰ.head refl) in (p, other p c (Memᴰ.cases_cons i), c)

      behind : Each (s ∷ l) (r ∷ m) → (q p : Record) → Contained q p → (q ≡ r) ⊎ (q ∈ m) → (p ≡ s) ⊎ (p ∈ l) → (t : Record) × (t ∈ l) × Contained q t
      behind each q p c k (inr i) = (p, i, c)
      behind each q p c (inl e) (inl f) = absurd (n (subst (Contained r) f (subst (λ (z : Record). Contained z p) e c)))
      behind each q p c (inr k) (inl f) =
          let (t, i, d) = of-first each in
          absurd (left_behind (before t i).0 (before t i).1 (after q k).0 full (after q k).1 d n (subst (Contained q) f c))

      later : Each (s ∷ l) (r ∷ m) → (q : Record) → q ∈ (r ∷ m) → (p : Record) × (p ∈ (s ∷ l)) × Contained q p → (t : Record) × (t ∈ l) × Contained q t
      later each q k (p, i, c) = behind each q p c (Memᴰ.cases_cons k) (Memᴰ.cases_cons i)

-- nothing is contained in a record of no list
each_none : {r : Record} {m : List Record} → Each [] (r ∷ m) → ⊥
each_none {r} each = Memᴰ.not-nil (each r (Memᴰ.head refl)).1

-- the pass decides whether each record is contained
contains_all? : (l m : List Record) → Pairwise Follows l → Pairwise Follows m → Apart l → Full m → Decides (Each l m) (contains_all l m)
unfolding contains_all
contains_all? [] [] p q a f = passed (λ r k. absurd (Memᴰ.not-nil k))
contains_all? (s ∷ l) [] p q a f = passed (λ r k. absurd (Memᴰ.not-nil k))
contains_all? [] (r ∷ m) p q a f = failed each_none
contains_all? (s ∷ l) (r ∷ m) (more b p) (more c q) a f =
    go (contained r s) (contained? r s)
    (contains_all? (s ∷ l) m (more b p) q a (λ z k. f z (Memᴰ.tail k)))
    (contains_all? l (r ∷ m) p (more c q) (λ y z i k. a y z (Memᴰ.tail i) (Memᴰ.tail k)) f)
  where
    go : (t : Bool) → Decides (Contained r s) t → Decides (Each (s ∷ l) m) (contains_all (s ∷ l) m) → Decides (Each l (r ∷ m)) (contains_all l (r ∷ m))
        → Decides (Each (s ∷ l) (r ∷ m)) (cond t (contains_all (s ∷ l) m) (contains_all l (r ∷ m)))
    go true (passed k) inside past = decides_as (each-inside k) inside
    go false (failed n) inside past =
        decides_as (each-past (λ z i. (b z i, a s z (Memᴰ.head refl) (Memᴰ.tail i))) (λ z k. (c z k, f z (Memᴰ.tail k))) (f r (Memᴰ.head refl)) n) past

-- sorting keeps which records are there
each-sorted : (l m : List Record) → Each (sorted_by_displacement l) (sorted_by_displacement m) ↔ Each l m
each-sorted l m = (
  λ each r k. let (s, i, c) = each r ((by-displacement_members m).1 k) in (s, (by-displacement_members l).0 i, c),
  λ each r k. let (s, i, c) = each r ((by-displacement_members m).0 k) in (s, (by-displacement_members l).1 i, c),
)

-- two tests that decide the same are the same
decided : {P : Type 0} {s t : Bool} → Decides P s → Decides P t → s ≡ t
decided (passed p) (passed q) = refl
decided (passed p) (failed n) = absurd (n p)
decided (failed n) (passed p) = absurd (n p)
decided (failed n) (failed m) = refl

-- one pass over two normal lists, sorted by displacement, says whether each record is contained
pub contains_all-contained : {l m : List Record} → IsNormal l → IsNormal m → contains_all (sorted_by_displacement l) (sorted_by_displacement m) ≡ all_contained l m
contains_all-contained {l} {m} p q =
    decided
    (decides_as (each-sorted l m)
    (contains_all? (sorted_by_displacement l) (sorted_by_displacement m) (by-displacement_follows l) (by-displacement_follows m)
    (λ r s i k. p.apart r s ((by-displacement_members l).0 i) ((by-displacement_members l).0 k))
    (λ r k. q.full r ((by-displacement_members m).0 k))))
    (each? l m)
