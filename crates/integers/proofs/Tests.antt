-- A Boolean test and what it says, for proofs by cases on the test.
use mathlib.Core.Path.{◌≡◌, refl, sym, ap, subst}
use mathlib.Core.Bool.{Bool, true, false, not, cond, ◌&&◌, ◌||◌}
use mathlib.Core.Logic.{◌≢◌, ◌⊎◌, inl, inr, ◌↔◌}
use Prim.Native.Nat.{ℕ, ◌≤◌, ◌<◌}
use native.Mathlib.Omega.{arith}
use lib.Dec.{T, eqb, leb, ltb, eqb→eq, eqb_refl, leb→le, ltb→lt, lt→ltb, nleb→lt, nltb→le}
use lib.IntN.{ℤ, pos, negsuc}
use lib.Signed.{le_z, lt_z, ◌≤ℤ◌, ◌<ℤ◌, le_z_yes, lt_z_yes, lt_z_no}
use Rattle.integers.specs.Integers.{eq_z, min_z, max_z}
use Rattle.integers.proofs.Linear.{ints}

-- a test whose outcome is known: P where it passes, Q where it fails
pub data Test (P Q : Type 0) : Bool → Type 0 where
  passed : P → Test P Q true
  failed : Q → Test P Q false

le_test : (a b : ℤ) (t : Bool) → le_z a b ≡ t → Test (a ≤ℤ b) (b <ℤ a) t
le_test a b true e = passed (le_z_yes (subst T (sym e) tt))
le_test (pos m) (pos n) false e = failed (lt_z_yes (lt→ltb n m (nleb→lt m n (subst (λ (t : Bool). T (not t)) (sym e) tt))))
le_test (pos m) (negsuc n) false e = failed (lt_z_yes tt)
le_test (negsuc m) (pos n) false e = absurd (subst (λ (t : Bool). T (not t)) (sym e) tt)
le_test (negsuc m) (negsuc n) false e = failed (lt_z_yes (lt→ltb m n (nleb→lt n m (subst (λ (t : Bool). T (not t)) (sym e) tt))))

pub le? : (a b : ℤ) → Test (a ≤ℤ b) (b <ℤ a) (le_z a b)
le? a b = le_test a b (le_z a b) refl

lt_test : (a b : ℤ) (t : Bool) → lt_z a b ≡ t → Test (a <ℤ b) (b ≤ℤ a) t
lt_test a b true e = passed (lt_z_yes (subst T (sym e) tt))
lt_test a b false e = failed (lt_z_no (subst (λ (t : Bool). T (not t)) (sym e) tt))

pub lt? : (a b : ℤ) → Test (a <ℤ b) (b ≤ℤ a) (lt_z a b)
lt? a b = lt_test a b (lt_z a b) refl

pub eq_z→eq : (a b : ℤ) → T (eq_z a b) → a ≡ b
eq_z→eq (pos m) (pos n) t = ap pos (eqb→eq m n t)
eq_z→eq (pos m) (negsuc n) t = absurd t
eq_z→eq (negsuc m) (pos n) t = absurd t
eq_z→eq (negsuc m) (negsuc n) t = ap negsuc (eqb→eq m n t)

pub eq_z_refl : (a : ℤ) → T (eq_z a a)
eq_z_refl (pos n) = eqb_refl n
eq_z_refl (negsuc n) = eqb_refl n

eq_z_test : (a b : ℤ) (t : Bool) → eq_z a b ≡ t → Test (a ≡ b) (a ≢ b) t
eq_z_test a b true e = passed (eq_z→eq a b (subst T (sym e) tt))
eq_z_test a b false e = failed (λ p. subst T e (subst (λ (c : ℤ). T (eq_z a c)) p (eq_z_refl a)))

pub eq_z? : (a b : ℤ) → Test (a ≡ b) (a ≢ b) (eq_z a b)
eq_z? a b = eq_z_test a b (eq_z a b) refl

eq_test : (m n : ℕ) (t : Bool) → eqb m n ≡ t → Test (m ≡ n) (m ≢ n) t
eq_test m n true e = passed (eqb→eq m n (subst T (sym e) tt))
eq_test m n false e = failed (λ p. subst T e (subst (λ (k : ℕ). T (eqb m k)) p (eqb_refl m)))

pub eq? : (m n : ℕ) → Test (m ≡ n) (m ≢ n) (eqb m n)
eq? m n = eq_test m n (eqb m n) refl

ltb_test : (m n : ℕ) (t : Bool) → ltb m n ≡ t → Test (m < n) (n ≤ m) t
ltb_test m n true e = passed (ltb→lt m n (subst T (sym e) tt))
ltb_test m n false e = failed (nltb→le m n (subst (λ (t : Bool). T (not t)) (sym e) tt))

pub ltb? : (m n : ℕ) → Test (m < n) (n ≤ m) (ltb m n)
ltb? m n = ltb_test m n (ltb m n) refl

leb_test : (m n : ℕ) (t : Bool) → leb m n ≡ t → Test (m ≤ n) (n < m) t
leb_test m n true e = passed (leb→le m n (subst T (sym e) tt))
leb_test m n false e = failed (nleb→lt m n (subst (λ (t : Bool). T (not t)) (sym e) tt))

pub leb? : (m n : ℕ) → Test (m ≤ n) (n < m) (leb m n)
leb? m n = leb_test m n (leb m n) refl

pub test? : (t : Bool) → Test (T t) (T (not t)) t
test? true = passed tt
test? false = failed tt

-- a test that passes exactly where P holds
pub test_of : {P Q : Type 0} {t : Bool} → Test P Q t → T t → P
test_of (passed p) h = p
test_of (failed q) h = absurd h

pub of_test : {P Q : Type 0} {t : Bool} → Test P Q t → (Q → ⊥) → T t
of_test (passed p) h = tt
of_test (failed q) h = absurd (h q)

-- ---- tests joined

pub and_in : (a b : Bool) → T a → T b → T (a && b)
and_in true b p q = q
and_in false b p q = p

pub and_out : (a b : Bool) → T (a && b) → T a × T b
and_out true b t = (tt, t)
and_out false b t = absurd t

pub or_left : (a b : Bool) → T a → T (a || b)
or_left true b t = tt
or_left false b t = absurd t

pub or_right : (a b : Bool) → T b → T (a || b)
or_right true b t = tt
or_right false b t = t

pub or_out : (a b : Bool) → T (a || b) → T a ⊎ T b
or_out true b t = inl tt
or_out false b t = inr t

pub nand_out : (a b : Bool) → T (not (a && b)) → T (not a) ⊎ T (not b)
nand_out true b t = inr t
nand_out false b t = inl tt

pub nor_out : (a b : Bool) → T (not (a || b)) → T (not a) × T (not b)
nor_out true b t = absurd t
nor_out false b t = (tt, t)

pub is_true : (b : Bool) → T b → b ≡ true
is_true true t = refl
is_true false t = absurd t

pub is_false : (b : Bool) → (T b → ⊥) → b ≡ false
is_false true f = absurd (f tt)
is_false false f = refl

pub T_true : (b : Bool) → b ≡ true → T b
T_true true e = tt
T_true false e = let z : T false = subst T (sym e) tt in absurd z

-- ---- the lower and the higher of two

pub min_le : (a b c : ℤ) → c ≤ℤ min_z a b ↔ ((c ≤ℤ a) × (c ≤ℤ b))
min_le a b c = go (le_z a b) (le? a b)
  where
    go : (t : Bool) → Test (a ≤ℤ b) (b <ℤ a) t → c ≤ℤ cond t a b ↔ ((c ≤ℤ a) × (c ≤ℤ b))
    go true (passed h) = (λ k. omega (arith, ints), λ k. k.0)
    go false (failed h) = (λ k. omega (arith, ints), λ k. k.1)

pub max_le : (a b c : ℤ) → max_z a b ≤ℤ c ↔ ((a ≤ℤ c) × (b ≤ℤ c))
max_le a b c = go (le_z a b) (le? a b)
  where
    go : (t : Bool) → Test (a ≤ℤ b) (b <ℤ a) t → cond t b a ≤ℤ c ↔ ((a ≤ℤ c) × (b ≤ℤ c))
    go true (passed h) = (λ k. omega (arith, ints), λ k. k.1)
    go false (failed h) = (λ k. omega (arith, ints), λ k. k.0)

-- the lower of two is one of them, and no higher than either
pub min_is : (a b : ℤ) → (min_z a b ≤ℤ a) × (min_z a b ≤ℤ b) × ((min_z a b ≡ a) ⊎ (min_z a b ≡ b))
min_is a b = go (le_z a b) (le? a b)
  where
    go : (t : Bool) → Test (a ≤ℤ b) (b <ℤ a) t → (cond t a b ≤ℤ a) × (cond t a b ≤ℤ b) × ((cond t a b ≡ a) ⊎ (cond t a b ≡ b))
    go true (passed h) = (omega (arith, ints), h, inl refl)
    go false (failed h) = (omega (arith, ints), omega (arith, ints), inr refl)

-- the higher of two is one of them, and no lower than either
pub max_is : (a b : ℤ) → (a ≤ℤ max_z a b) × (b ≤ℤ max_z a b) × ((max_z a b ≡ a) ⊎ (max_z a b ≡ b))
max_is a b = go (le_z a b) (le? a b)
  where
    go : (t : Bool) → Test (a ≤ℤ b) (b <ℤ a) t → (a ≤ℤ cond t b a) × (b ≤ℤ cond t b a) × ((cond t b a ≡ a) ⊎ (cond t b a ≡ b))
    go true (passed h) = (h, omega (arith, ints), inr refl)
    go false (failed h) = (omega (arith, ints), omega (arith, ints), inl refl)
