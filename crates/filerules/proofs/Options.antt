-- Optional results: what a choice by a test gives, and when an element before the rest is there.
use mathlib.Core.Path.{◌≡◌, refl, sym}
use mathlib.Core.Bool.{Bool, cond}
use mathlib.Core.List.{List, ◌∷◌}
use mathlib.Core.Option.{Option, none, some}
use Prim.Native.Nat.{ℕ, ◌≤◌}
use native.Mathlib.Omega.{arith}
use lib.Dec.{leb}
use Rattle.integers.proofs.Tests.{passed, failed, leb?}
use Rattle.lists.proofs.Decisions.{Decides, test_map}
use Rattle.model.specs.Reader.{cons_option}

-- nothing is something
pub none-some : {A : Type 0} {x : A} → none ≡ some x → ⊥
none-some e = let z : ◌≡◌ {A = ℕ} 0 1 = cc in omega arith

-- what is there is one thing
pub some_same : {A : Type 0} {x y : A} → some x ≡ some y → x ≡ y
some_same e = cc

-- leb decides the order of two numbers
pub decides_leb : (m n : ℕ) → Decides (m ≤ n) (leb m n)
decides_leb m n = test_map (λ h. h) (λ h k. omega arith) (leb? m n)

module _ {A : Type 0} {P : Type 0} where
  -- a choice where what the test decides holds
  pub choice_in : {b : Bool} {x : A} (y : A) → Decides P b → P → cond b x y ≡ x
  choice_in y (passed p) h = refl
  choice_in y (failed n) h = absurd (n h)

  -- a choice that is there: what the test decides holds
  pub choice_out : {b : Bool} {x : Option A} {y : A} → Decides P b → cond b x none ≡ some y → P × (x ≡ some y)
  choice_out (passed p) e = (p, e)
  choice_out (failed n) e = absurd (none-some e)

module _ {A : Type 0} where
  -- an element and the rest that are there
  pub record Both (a : Option A) (b : Option (List A)) (r : List A) : Type 0 where
    pub first : A
    pub others : List A
    pub there : a ≡ some first
    pub rest : b ≡ some others
    pub joined : r ≡ first ∷ others

  -- an element before the rest is there only where both are
  pub cons_out : (a : Option A) (b : Option (List A)) (r : List A) → cons_option a b ≡ some r → Both a b r
  unfolding cons_option
  cons_out none b r e = absurd (none-some e)
  cons_out (some x) none r e = absurd (none-some e)
  cons_out (some x) (some xs) r e = record { first = x; others = xs; there = refl; rest = refl; joined = sym (some_same e) }

  -- and there it is
  pub cons_in : {x : A} {xs : List A} {a : Option A} {b : Option (List A)} → a ≡ some x → b ≡ some xs → cons_option a b ≡ some (x ∷ xs)
  unfolding cons_option
  cons_in p q = rw (p, q)
