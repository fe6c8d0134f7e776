-- A check settles a list of conditions: it gives the refusal of the first that holds, or none where none holds.
-- These laws build such checks from their parts, and turn one into what a call answers.
use mathlib.Core.Path.{◌≡◌, refl, sym, ap, subst, ◌∙◌}
use mathlib.Core.Bool.{Bool}
use mathlib.Core.Logic.Iff
use mathlib.Core.Logic.{inl, inr, ◌↔◌}
use mathlib.Core.List.Memᴰ
use mathlib.Core.List.{List, [], ◌∷◌, flat_map}
use mathlib.Core.Option.{Option, none, some}
use Prim.Native.Nat.{ℕ}
use native.Mathlib.Omega.{arith}
use Rattle.integers.proofs.Tests.{Test, passed, failed}
use Rattle.lists.specs.Lists.{◌∈◌}
use Rattle.model.specs.Refusals.{Refusal, Condition, NoneHolds, FirstHolds, refuse, ◌next◌}
use Rattle.model.specs.Checks.{when, ◌then◌, first_refusal}
use Rattle.model.specs.Calls.{Answer, refused, full, answer}
use Rattle.model.proofs.Checks.{answer-some, answer-none}

-- the check settles the conditions: it gives the refusal of the first that holds, or none where none holds
abbrev pub Settled : Option Refusal → List Condition → Type 0
Settled none cs = NoneHolds cs
Settled (some r) cs = FirstHolds r cs

-- ---- no condition holds

none_join : (cs ds : List Condition) → NoneHolds cs → NoneHolds ds → NoneHolds (cs next ds)
none_join [] ds p q = q
none_join (c ∷ cs) ds p q = (p.0, none_join cs ds p.1 q)

none_split : (cs ds : List Condition) → NoneHolds (cs next ds) → NoneHolds cs × NoneHolds ds
none_split [] ds p = (tt, p)
none_split (c ∷ cs) ds p = let w = none_split cs ds p.1 in ((p.0, w.0), w.1)

-- none of two lists of conditions holds exactly when none of either does
pub none-next : (cs ds : List Condition) → NoneHolds (cs next ds) ↔ (NoneHolds cs × NoneHolds ds)
none-next cs ds = (none_split cs ds, λ p. none_join cs ds p.0 p.1)

module _ {A : Type 0} (cs : A → List Condition) where
  none_gather : (xs : List A) → ((x : A) → x ∈ xs → NoneHolds (cs x)) → NoneHolds (flat_map cs xs)
  unfolding flat_map
  none_gather [] h = tt
  none_gather (x ∷ xs) h =
      none_join (cs x) (flat_map cs xs) (h x (Memᴰ.head refl)) (none_gather xs (λ y m. h y (Memᴰ.tail m)))

  none_each : (xs : List A) → NoneHolds (flat_map cs xs) → (x : A) → x ∈ xs → NoneHolds (cs x)
  unfolding flat_map
  none_each [] p x m = absurd (Memᴰ.not-nil m)
  none_each (y ∷ ys) p x (Memᴰ.head e) = subst (λ (z : A). NoneHolds (cs z)) (sym e) (none_split (cs y) (flat_map cs ys) p).0
  none_each (y ∷ ys) p x (Memᴰ.tail m) = none_each ys (none_split (cs y) (flat_map cs ys) p).1 x m

  -- none of the conditions of all rows holds exactly when none of any row does
  pub none_flat_map : (xs : List A) → NoneHolds (flat_map cs xs) ↔ ((x : A) → x ∈ xs → NoneHolds (cs x))
  none_flat_map xs = (none_each xs, none_gather xs)

-- ---- the first condition that holds

-- only one refusal is given for the first condition that holds
pub first_unique : {r s : Refusal} (cs : List Condition) → FirstHolds r cs → FirstHolds s cs → r ≡ s
first_unique [] p q = absurd p
first_unique (c ∷ cs) (inl p) (inl q) = p.1 ∙ sym q.1
first_unique (c ∷ cs) (inl p) (inr q) = absurd (q.0 p.0)
first_unique (c ∷ cs) (inr p) (inl q) = absurd (p.0 q.0)
first_unique (c ∷ cs) (inr p) (inr q) = first_unique cs p.1 q.1

-- where some condition is the first that holds, it is not so that none holds
pub first_not_none : (r : Refusal) (cs : List Condition) → FirstHolds r cs → NoneHolds cs → ⊥
first_not_none r [] p q = p
first_not_none r (c ∷ cs) (inl p) q = q.0 p.0
first_not_none r (c ∷ cs) (inr p) q = first_not_none r cs p.1 q.1

-- the first of some conditions is the first of them and any that follow
first-before : (r : Refusal) (cs ds : List Condition) → FirstHolds r cs → FirstHolds r (cs next ds)
first-before r [] ds p = absurd p
first-before r (c ∷ cs) ds (inl p) = inl p
first-before r (c ∷ cs) ds (inr p) = inr (p.0, first-before r cs ds p.1)

-- conditions that do not hold may stand before the first
first_after : (r : Refusal) (cs ds : List Condition) → NoneHolds cs → FirstHolds r ds → FirstHolds r (cs next ds)
first_after r [] ds p q = q
first_after r (c ∷ cs) ds p q = inr (p.0, first_after r cs ds p.1 q)

-- ---- checks from their parts

settled_after : (b : Option Refusal) (cs ds : List Condition) → NoneHolds cs → Settled b ds → Settled b (cs next ds)
settled_after none cs ds p q = none_join cs ds p q
settled_after (some r) cs ds p q = first_after r cs ds p q

-- two checks, one after the other, settle the conditions of the one and then of the other. The second may count on the first's not holding
pub settled_next : (a b : Option Refusal) (cs ds : List Condition) → Settled a cs → (NoneHolds cs → Settled b ds) → Settled (a then b) (cs next ds)
unfolding ◌then◌
settled_next none b cs ds p q = settled_after b cs ds p (q p)
settled_next (some r) b cs ds p q = first-before r cs ds p

-- a test of a proposition settles the one condition that it holds
pub settled_when : {P : Type 0} {b : Bool} (n t r : ℕ) → Test P (P → ⊥) b → Settled (when b n t r) (refuse n t r P)
unfolding when
settled_when n t r (passed p) = inl (p, refl)
settled_when n t r (failed q) = (q, tt)

-- checks of rows, row by row, settle the conditions of all rows
pub settled_each : {A : Type 0} (f : A → Option Refusal) (cs : A → List Condition) (xs : List A) → ((x : A) → x ∈ xs → Settled (f x) (cs x))
    → Settled (first_refusal f xs) (flat_map cs xs)
unfolding first_refusal flat_map
settled_each f cs [] h = tt
settled_each f cs (x ∷ xs) h =
    settled_next (f x) (first_refusal f xs) (cs x) (flat_map cs xs) (h x (Memᴰ.head refl)) (λ p. settled_each f cs xs (λ y m. h y (Memᴰ.tail m)))

-- ---- what the check gives

-- a check that settles gives a refusal exactly when the first condition that holds has it
pub settled_some : (c : Option Refusal) {r : Refusal} (cs : List Condition) → Settled c cs → (c ≡ some r) ↔ FirstHolds r cs
settled_some none {r} cs h = (λ e. absurd (let z : ◌≡◌ {A = ℕ} 0 1 = cc in omega arith), λ p. absurd (first_not_none r cs p h))
settled_some (some s) {r} cs h = (λ e. let q : s ≡ r = cc in subst (λ (t : Refusal). FirstHolds t cs) q h, λ p. ap some (first_unique cs h p))

-- a check that settles gives none exactly when no condition holds
pub settled_none : (c : Option Refusal) (cs : List Condition) → Settled c cs → (c ≡ none) ↔ NoneHolds cs
settled_none none cs h = (λ e. h, λ p. refl)
settled_none (some s) cs h = (λ e. absurd (let z : ◌≡◌ {A = ℕ} 0 1 = cc in omega arith), λ p. absurd (first_not_none s cs h p))

-- an answer against the conditions of its call: it refuses exactly with the refusal of the first that holds, and gives its full result
-- exactly when none holds
pub record Exact {A : Type 0} (given : Answer A) (result : A) (cs : List Condition) : Type 0 where
  pub refuses : (r : Refusal) → (given ≡ refused r) ↔ FirstHolds r cs
  pub gives : (given ≡ full result) ↔ NoneHolds cs

-- ---- one condition in front of a call's

module _ {A P : Type 0} (n t r : ℕ) where
  -- where it holds, its refusal is the answer
  pub exact-first : (x : A) (cs : List Condition) → P → Exact (refused (record { number = n; table = t; row = r })) x (refuse n t r P next cs)
  exact-first x cs p = record {
    refuses = λ s. (
      λ e. inl (p, let q : s ≡ record { number = n; table = t; row = r } = cc in q),
      λ first. elim first [ inl w ↦ ap refused (sym w.1) | inr w ↦ absurd (w.0 p) ],
    );
    gives = (λ e. absurd (let z : ◌≡◌ {A = ℕ} 0 1 = cc in omega arith), λ unmet. absurd (unmet.0 p));
  }

  -- where it does not hold, the others decide
  pub exact_after : {given : Answer A} {x : A} {cs : List Condition} → (P → ⊥) → Exact given x cs → Exact given x (refuse n t r P next cs)
  exact_after q exact = record {
    refuses = λ s. (
      λ e. inr (q, (exact.refuses s).0 e),
      λ first. elim first [ inl w ↦ absurd (q w.0) | inr w ↦ (exact.refuses s).1 w.1 ],
    );
    gives = (λ e. (q, exact.gives.0 e), λ unmet. exact.gives.1 unmet.1);
  }

-- ---- what a call answers

module _ {A : Type 0} (a : A) where
  -- a call whose check settles refuses exactly with the refusal of the first condition that holds
  pub answer-refused : (c : Option Refusal) {r : Refusal} (cs : List Condition) → Settled c cs → (answer c a ≡ refused r) ↔ FirstHolds r cs
  answer-refused c cs h = Iff.trans (answer-some a c) (settled_some c cs h)

  -- a call whose check settles gives its full result exactly when no condition holds
  pub answer-full : (c : Option Refusal) (cs : List Condition) → Settled c cs → (answer c a ≡ full a) ↔ NoneHolds cs
  answer-full c cs h = Iff.trans (answer-none a c) (settled_none c cs h)

  -- a call whose check settles its conditions answers exactly
  pub answer-exact : (c : Option Refusal) (cs : List Condition) → Settled c cs → Exact (answer c a) a cs
  answer-exact c cs h = record { refuses = λ r. answer-refused c cs h; gives = answer-full c cs h }
