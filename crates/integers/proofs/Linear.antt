-- Linear arithmetic on ℤ by omega: a number z is plus z − minus z, and one of the two is 0.
-- `omega (arith, ints, sum a b, diff c d)` proves and uses facts on ℤ, with a law for each sum and difference that occurs.
use mathlib.Core.Path.{◌≡◌, refl, sym, ap, subst}
use mathlib.Core.Bool.{Bool, true, false, not, cond}
use mathlib.Core.Logic.{◌⊎◌, inl, inr}
use Prim.Native.Nat.{ℕ, zero, suc, ◌+◌, ◌-◌, ◌≤◌, ◌<◌}
use native.Mathlib.Omega.{arith}
use lib.IntN.{ℤ, pos, negsuc, neg_ℤ, sub_ℕ, ◌+ℤ◌, ◌-ℤ◌}
use lib.Signed.{◌≤ℤ◌, ◌<ℤ◌, le_z_yes, lt_z_yes}
use lib.Dec.{T, ltb, leb→le, le→leb, ltb→lt, lt→ltb, nltb→le}

-- the number, where it is not negative, else 0
abbrev pub plus : ℤ → ℕ
plus (pos n) = n
plus (negsuc n) = 0

-- how far the number is below 0
abbrev pub minus : ℤ → ℕ
minus (pos n) = 0
minus (negsuc n) = suc n

pub le_in : {a b : ℤ} → a ≤ℤ b → plus a + minus b ≤ plus b + minus a
le_in {a = pos m} {b = pos n} h = let k : m ≤ n = leb→le m n h.le in omega arith
le_in {a = pos m} {b = negsuc n} h = absurd h.le
le_in {a = negsuc m} {b = pos n} h = omega arith
le_in {a = negsuc m} {b = negsuc n} h = let k : n ≤ m = leb→le n m h.le in omega arith

pub le_out : {a b : ℤ} → plus a + minus b ≤ plus b + minus a → a ≤ℤ b
le_out {a = pos m} {b = pos n} h = le_z_yes (le→leb m n (omega arith))
le_out {a = pos m} {b = negsuc n} h = absurd (omega arith)
le_out {a = negsuc m} {b = pos n} h = le_z_yes tt
le_out {a = negsuc m} {b = negsuc n} h = le_z_yes (le→leb n m (omega arith))

pub lt_in : {a b : ℤ} → a <ℤ b → plus a + minus b < plus b + minus a
lt_in {a = pos m} {b = pos n} h = let k : m < n = ltb→lt m n h.lt in omega arith
lt_in {a = pos m} {b = negsuc n} h = absurd h.lt
lt_in {a = negsuc m} {b = pos n} h = omega arith
lt_in {a = negsuc m} {b = negsuc n} h = let k : n < m = ltb→lt n m h.lt in omega arith

pub lt_out : {a b : ℤ} → plus a + minus b < plus b + minus a → a <ℤ b
lt_out {a = pos m} {b = pos n} h = lt_z_yes (lt→ltb m n (omega arith))
lt_out {a = pos m} {b = negsuc n} h = absurd (omega arith)
lt_out {a = negsuc m} {b = pos n} h = lt_z_yes tt
lt_out {a = negsuc m} {b = negsuc n} h = lt_z_yes (lt→ltb n m (omega arith))

pub eq_in : {a b : ℤ} → a ≡ b → plus a + minus b ≡ plus b + minus a
eq_in {a} {b} e = let p : plus a ≡ plus b = ap plus e in let q : minus a ≡ minus b = ap minus e in omega arith

pub eq_out : {a b : ℤ} → plus a + minus b ≡ plus b + minus a → a ≡ b
eq_out {a = pos m} {b = pos n} h = ap pos (omega arith)
eq_out {a = pos m} {b = negsuc n} h = absurd (omega arith)
eq_out {a = negsuc m} {b = pos n} h = absurd (omega arith)
eq_out {a = negsuc m} {b = negsuc n} h = ap negsuc (omega arith)

-- sub_ℕ a b is a − b
sub_parts : (a b : ℕ) → plus (sub_ℕ a b) + b ≡ a + minus (sub_ℕ a b)
sub_parts a b = go (ltb a b) refl
  where
    go : (t : Bool) → ltb a b ≡ t → plus (cond (ltb a b) (negsuc (b - suc a)) (pos (a - b))) + b ≡ a + minus (cond (ltb a b) (negsuc (b - suc a)) (pos (a - b)))
    go true e = rw e (let h : a < b = ltb→lt a b (subst T (sym e) tt) in omega arith)
    go false e = rw e (let h : b ≤ a = nltb→le a b (subst (λ (t : Bool). T (not t)) (sym e) tt) in omega arith)

-- a sum, on the parts
pub sum : (a b : ℤ) → plus (a +ℤ b) + (minus a + minus b) ≡ plus a + plus b + minus (a +ℤ b)
sum (pos m) (pos n) = omega arith
sum (pos m) (negsuc n) = omega (arith, sub_parts m (suc n))
sum (negsuc m) (pos n) = omega (arith, sub_parts n (suc m))
sum (negsuc m) (negsuc n) = omega arith

-- a number with its sign turned
pub neg : (a : ℤ) → (plus (neg_ℤ a) ≡ minus a) × (minus (neg_ℤ a) ≡ plus a)
neg (pos zero) = (refl, refl)
neg (pos (suc n)) = (refl, refl)
neg (negsuc n) = (refl, refl)

-- a difference, on the parts
pub diff : (a b : ℤ) → plus (a -ℤ b) + (minus a + plus b) ≡ plus a + minus b + minus (a -ℤ b)
diff a b = omega (arith, sum a (neg_ℤ b), neg b)

-- one of the two parts is 0
pub one_sided : (a : ℤ) → (plus a ≡ 0) ⊎ (minus a ≡ 0)
one_sided (pos n) = inr refl
one_sided (negsuc n) = inl refl

-- what omega needs to read and to prove orders and equations on ℤ
pub ruleset ints = (le_in, le_out, lt_in, lt_out, eq_in, eq_out)
