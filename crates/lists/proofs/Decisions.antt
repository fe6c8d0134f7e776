-- What a test made of tests says: denied, joined, or made on each element of a list.
use mathlib.Core.Path.{◌≡◌, refl}
use mathlib.Core.Bool.{Bool, true, false, not, ◌&&◌, ◌||◌}
use mathlib.Core.Logic.{◌⊎◌, inl, inr, ⊎_elim, ◌↔◌}
use mathlib.Core.List.{List, [], ◌∷◌}
use Prim.Native.Nat.{ℕ, ◌<◌}
use native.Mathlib.Omega.{arith}
use lib.Dec.{T, T_not, not_T, ltb}
use lib.IntN.{ℤ}
use lib.Signed.{le_z, ◌≤ℤ◌}
use Rattle.integers.proofs.Linear.{ints}
use Rattle.integers.proofs.Tests.{Test, passed, failed, le?, ltb?, test?, test_of, of_test}
use Rattle.lists.specs.Lists.{◌∈◌, any, all, is_nil}
use Rattle.lists.proofs.Membership.{any_in, any_out, all_out, all_fails}

-- what follows from what a test says, it says too
pub test_map : {P Q P' Q' : Type 0} {t : Bool} → (P → P') → (Q → Q') → Test P Q t → Test P' Q' t
test_map f g (passed p) = passed (f p)
test_map f g (failed q) = failed (g q)

-- the test denied
pub not? : {P Q : Type 0} {t : Bool} → Test P Q t → Test Q P (not t)
not? (passed p) = failed p
not? (failed q) = passed q

-- both tests
pub and? : {P Q P' Q' : Type 0} {a b : Bool} → Test P Q a → Test P' Q' b → Test (P × P') (Q ⊎ Q') (a && b)
and? (passed p) (passed p') = passed (p, p')
and? (passed p) (failed q') = failed (inr q')
and? (failed q) t = failed (inl q)

-- one of two tests
pub or? : {P Q P' Q' : Type 0} {a b : Bool} → Test P Q a → Test P' Q' b → Test (P ⊎ P') (Q × Q') (a || b)
or? (passed p) t = passed (inl p)
or? (failed q) (passed p') = passed (inr p')
or? (failed q) (failed q') = failed (q, q')

-- ---- tests that decide: where one fails, what it asks does not hold

-- a test decides P: it says P where it passes, and that P does not hold where it fails
abbrev pub Decides : Type 0 → Bool → Type 0
Decides P = Test P (P → ⊥)

-- such a test passes exactly where P holds
pub decides_iff : {P : Type 0} {t : Bool} → Decides P t → T t ↔ P
decides_iff d = (test_of d, λ p. of_test d (λ n. n p))

-- a test that decides P decides all that is equivalent to P
pub decides_as : {P P' : Type 0} {t : Bool} → P ↔ P' → Decides P t → Decides P' t
decides_as e d = test_map e.0 (λ n p. n (e.1 p)) d

-- tests that decide two statements decide both together
pub decides_and : {P P' : Type 0} {a b : Bool} → Decides P a → Decides P' b → Decides (P × P') (a && b)
decides_and d e = test_map (λ p. p) none (and? d e)
  where
    none : {P P' : Type 0} → (P → ⊥) ⊎ (P' → ⊥) → P × P' → ⊥
    none (inl n) p = n p.0
    none (inr n) p = n p.1

-- le_z decides the order
pub decides_le : (a b : ℤ) → Decides (a ≤ℤ b) (le_z a b)
decides_le a b = test_map (λ h. h) (λ h k. omega (arith, ints)) (le? a b)

-- what a test says where it passes holds if what it says where it fails does not
pub test_stable : {P Q : Type 0} {a : Bool} → Test P Q a → (Q → ⊥) → P
test_stable t n = test_of t (of_test t n)

-- a test that decides P decides, denied, that P does not hold
pub decides_not : {P : Type 0} {a : Bool} → Decides P a → Decides (P → ⊥) (not a)
decides_not d = test_map (λ n. n) (λ p n. n p) (not? d)

-- tests that decide two statements decide whether one of them holds
pub decides_or : {P Q : Type 0} {a b : Bool} → Decides P a → Decides Q b → Decides (P ⊎ Q) (a || b)
decides_or d e = test_map (λ c. c) (λ n c. ⊎_elim n.0 n.1 c) (or? d e)

-- or associates
pub or_regroup : {P Q : Type 0} (a b c : Bool) → Test P Q (a || (b || c)) → Test P Q (a || b || c)
or_regroup true b c t = t
or_regroup false b c t = t

-- ltb decides the order of two numbers
pub decides_lt : (m n : ℕ) → Decides (m < n) (ltb m n)
decides_lt m n = test_map (λ h. h) (λ h k. omega arith) (ltb? m n)

-- is_nil decides whether a list is empty
pub decides_nil : {A : Type 0} (l : List A) → Decides (l ≡ []) (is_nil l)
unfolding is_nil
decides_nil [] = passed refl
decides_nil (x ∷ l) = failed (λ e. let z : ◌≡◌ {A = ℕ} 0 1 = cc in omega arith)

-- ---- tests on each element of a list

module _ {A : Type 0} {P Q : A → Type 0} {f : A → Bool} (t : (x : A) → Test (P x) (Q x) (f x)) where
  -- every element passes, or one fails
  pub all? : (l : List A) → Test ((x : A) → x ∈ l → P x) ((x : A) × (x ∈ l) × Q x) (all f l)
  all? l = test_map (λ h x m. test_of (t x) (all_out f h m)) (λ h. let w = all_fails f l h in (w.0, w.1, test_of (not? (t w.0)) w.2)) (test? (all f l))

  -- some element passes, or all fail
  pub any? : (l : List A) → Test ((x : A) × (x ∈ l) × P x) ((x : A) → x ∈ l → Q x) (any f l)
  any? l =
      test_map (λ h. let w = any_out f l h in (w.0, w.1, test_of (t w.0) w.2))
      (λ h x m. test_of (not? (t x)) (not_T (f x) (λ p. T_not (any f l) h (any_in f m p)))) (test? (any f l))
