-- The tests that the verdict is computed by decide what the comparing rules ask, and the rules give any two lists exactly one verdict, the computed one.
use mathlib.Core.Path.{◌≡◌, refl, sym, subst}
use mathlib.Core.Bool.{Bool, true, false, not, cond, ◌&&◌}
use mathlib.Core.Logic.{◌≢◌, ◌↔◌}
use mathlib.Core.List.{List, [], ◌∷◌}
use Prim.Native.Nat.{ℕ, ◌≤◌}
use native.Mathlib.Omega.{arith}
use lib.Dec.{T}
use Rattle.integers.proofs.Linear.{ints, diff}
use Rattle.integers.proofs.Tests.{Test, passed, failed, eq_z?}
use Rattle.lists.specs.Lists.{◌∈◌, is_nil}
use Rattle.model.specs.Bitmapping.{Record}
use Rattle.model.specs.Verdicts.{Contained, Partly, Rules, equal, partial, different, same_record, same_list, contained, all_contained, verdict}
use Rattle.model.proofs.Records.{record_path, Within}
use Rattle.lists.proofs.Decisions.{Decides, test_map, not?, decides_iff, decides_as, decides_and, decides_le, decides_nil, all?, any?}

-- ---- the tests

-- same_record decides whether two records are equal
pub same_record? : (r s : Record) → Test (r ≡ s) (r ≢ s) (same_record r s)
unfolding same_record
same_record? r s =
    decides_as
    (λ p. record_path p.0.0 p.0.1 p.1, λ e. ((cc, cc), cc))
    (decides_and (decides_and (eq_z? r.first s.first) (eq_z? r.last s.last)) (eq_z? r.displacement s.displacement))

-- same_list decides whether two lists are equal
pub same_list? : (l m : List Record) → Test (l ≡ m) (l ≢ m) (same_list l m)
unfolding same_list
same_list? [] [] = passed refl
same_list? [] (s ∷ t) = failed (λ e. let z : ◌≡◌ {A = ℕ} 0 1 = cc in omega arith)
same_list? (r ∷ q) [] = failed (λ e. let z : ◌≡◌ {A = ℕ} 0 1 = cc in omega arith)
same_list? (r ∷ q) (s ∷ t) = decides_as (λ p. (λ i. p.0 i ∷ p.1 i), λ e. (cc, cc)) (decides_and (same_record? r s) (same_list? q t))

-- same_list passes exactly on equal lists
pub same-list : (l m : List Record) → T (same_list l m) ↔ (l ≡ m)
same-list l m = decides_iff (same_list? l m)

-- one record is contained in the other where it lies within it: with equal displacements the leaf bits are contained where the root bits are
pub contained-is : (r s : Record) → Contained r s ↔ Within r s
contained-is r s = (
  λ c. record { same = c.displacement; first = c.root_low; last = c.root_high },
  λ w. record {
    root_low = w.first;
    root_high = w.last;
    leaf_low = omega (arith, ints, w.same, w.first, diff r.first r.displacement, diff s.first s.displacement);
    leaf_high = omega (arith, ints, w.same, w.last, diff r.last r.displacement, diff s.last s.displacement);
    displacement = w.same;
  },
)

-- contained decides whether one record is contained in the other
pub contained? : (r s : Record) → Test (Contained r s) (Contained r s → ⊥) (contained r s)
unfolding contained
contained? r s =
    decides_as (
      λ p. (contained-is r s).1 (record { same = p.0.0; first = p.0.1; last = p.1 }),
      λ c. ((c.displacement, c.root_low), c.root_high),
    )
    (decides_and (decides_and (eq_z? r.displacement s.displacement) (decides_le s.first r.first)) (decides_le r.last s.last))

-- the test of each implementation record decides whether each is contained in one specification record
pub each? : (spec impl : List Record) → Decides ((r : Record) → r ∈ impl → (s : Record) × (s ∈ spec) × Contained r s) (all_contained spec impl)
unfolding all_contained
each? spec impl =
    test_map (λ h. h) (λ w h. let c = h w.0 w.1 in w.2 c.0 c.1 c.2) (all? (λ r. any? (contained? r) spec) impl)

-- for unequal lists, the second test of the verdict decides whether they are partly equal
partly? : (spec impl : List Record) → spec ≢ impl → Decides (Partly spec impl) (not (is_nil impl) && all_contained spec impl)
partly? spec impl n =
    decides_as (λ p. record { unequal = n; some = p.0; each = p.1 }, λ p. (p.some, p.each))
    (decides_and (test_map (λ h. h) (λ e k. k e) (not? (decides_nil impl))) (each? spec impl))

-- ---- the verdict

-- the computed verdict is one that the rules give
pub verdict-rules : (spec impl : List Record) → Rules spec impl (verdict spec impl)
unfolding verdict
verdict-rules spec impl = first (same_list spec impl) (same_list? spec impl)
  where
    contains : Bool
    contains = not (is_nil impl) && all_contained spec impl

    second : (b : Bool) → spec ≢ impl → Decides (Partly spec impl) b → Rules spec impl (cond b 1 2)
    second true n (passed p) = partial p
    second false n (failed q) = different n q

    first : (a : Bool) → Decides (spec ≡ impl) a → Rules spec impl (cond a 0 (cond contains 1 2))
    first true (passed e) = equal e
    first false (failed n) = second contains n (partly? spec impl n)

-- two verdicts that the rules give are the same
rules-same : {spec impl : List Record} {v w : ℕ} → Rules spec impl v → Rules spec impl w → v ≡ w
rules-same (equal e) (equal f) = refl
rules-same (equal e) (partial p) = absurd (p.unequal e)
rules-same (equal e) (different n q) = absurd (n e)
rules-same (partial p) (equal e) = absurd (p.unequal e)
rules-same (partial p) (partial q) = refl
rules-same (partial p) (different n q) = absurd (q p)
rules-same (different n q) (equal e) = absurd (n e)
rules-same (different n q) (partial p) = absurd (q p)
rules-same (different n q) (different n' q') = refl

-- the rules give no verdict but the computed one
pub rules_unique : {spec impl : List Record} {v : ℕ} → Rules spec impl v → v ≡ verdict spec impl
rules_unique {spec} {impl} h = rules-same h (verdict-rules spec impl)

-- the computed verdict is v exactly where the rules give v
pub verdict-is : (spec impl : List Record) (v : ℕ) → (verdict spec impl ≡ v) ↔ Rules spec impl v
verdict-is spec impl v = (λ e. subst (Rules spec impl) e (verdict-rules spec impl), λ h. sym (rules_unique h))

-- the verdict is 0 exactly on equal lists
pub verdict-equal : (spec impl : List Record) → (verdict spec impl ≡ 0) ↔ (spec ≡ impl)
verdict-equal spec impl = (λ e. out ((verdict-is spec impl 0).0 e), λ e. (verdict-is spec impl 0).1 (equal e))
  where
    out : Rules spec impl 0 → spec ≡ impl
    out (equal e) = e

-- the verdict is 1 exactly on partly equal lists
pub verdict-partial : (spec impl : List Record) → (verdict spec impl ≡ 1) ↔ Partly spec impl
verdict-partial spec impl = (λ e. out ((verdict-is spec impl 1).0 e), λ p. (verdict-is spec impl 1).1 (partial p))
  where
    out : Rules spec impl 1 → Partly spec impl
    out (partial p) = p

-- the verdict is 2 exactly on lists that are neither equal nor partly equal
pub verdict-different : (spec impl : List Record) → (verdict spec impl ≡ 2) ↔ ((spec ≢ impl) × (Partly spec impl → ⊥))
verdict-different spec impl = (λ e. out ((verdict-is spec impl 2).0 e), λ p. (verdict-is spec impl 2).1 (different p.0 p.1))
  where
    out : Rules spec impl 2 → (spec ≢ impl) × (Partly spec impl → ⊥)
    out (different n q) = (n, q)

-- the verdict is 0, 1 or 2
pub verdict-range : (spec impl : List Record) → verdict spec impl ≤ 2
verdict-range spec impl = out (verdict-rules spec impl)
  where
    out : {v : ℕ} → Rules spec impl v → v ≤ 2
    out (equal e) = omega arith
    out (partial p) = omega arith
    out (different n q) = omega arith
