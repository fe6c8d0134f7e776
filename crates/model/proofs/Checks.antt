-- The first refusal: of two checks, and of a list of rows by checks that agree or that refuse none, of images, and of lists one after the other.
-- And what a call answers by its check.
use mathlib.Core.Path.{◌≡◌, refl, sym, ap, ◌∙◌}
use mathlib.Core.List.Memᴰ
use mathlib.Core.List.{List, [], ◌∷◌, ◌++◌, map, flat_map}
use mathlib.Core.Logic.{◌↔◌}
use mathlib.Core.Option.{Option, none, some}
use Prim.Native.Nat.{ℕ}
use native.Mathlib.Omega.{arith}
use Rattle.lists.specs.Lists.{◌∈◌}
use Rattle.model.specs.Refusals.{Refusal}
use Rattle.model.specs.Checks.{◌then◌, first_refusal}
use Rattle.model.specs.Calls.{refused, full, answer}

-- ---- one check after the other

-- the first refusal of three, grouped either way
pub then_assoc : (a b c : Option Refusal) → (a then b) then c ≡ a then (b then c)
unfolding ◌then◌
then_assoc none b c = refl
then_assoc (some r) b c = refl

-- no refusal of two checks is none of either
pub then-none : (a b : Option Refusal) → (a then b) ≡ none → (a ≡ none) × (b ≡ none)
unfolding ◌then◌
then-none none b e = (refl, e)
then-none (some r) b e = let z : ◌≡◌ {A = ℕ} 0 1 = cc in absurd (omega arith)

-- second checks that agree where the first gives no refusal
pub then_same : (a : Option Refusal) {b c : Option Refusal} → (a ≡ none → b ≡ c) → (a then b) ≡ (a then c)
unfolding ◌then◌
then_same none h = h refl
then_same (some r) h = refl

-- ---- the rows of a list

module _ {A : Type 0} where
  -- checks that agree on the rows
  pub first_agree : (f h : A → Option Refusal) (l : List A) → ((x : A) → x ∈ l → f x ≡ h x) → first_refusal f l ≡ first_refusal h l
  unfolding first_refusal
  first_agree f h [] e = refl
  first_agree f h (x ∷ l) e =
      ap (λ c. c then first_refusal f l) (e x (Memᴰ.head refl)) ∙ ap (λ c. h x then c) (first_agree f h l (λ y m. e y (Memᴰ.tail m)))

  -- a check that refuses no row
  pub first-none : (f : A → Option Refusal) (l : List A) → ((x : A) → x ∈ l → f x ≡ none) → first_refusal f l ≡ none
  unfolding first_refusal ◌then◌
  first-none f [] e = refl
  first-none f (x ∷ l) e = rw (e x (Memᴰ.head refl)) (first-none f l (λ y m. e y (Memᴰ.tail m)))

  -- where no row is refused, each is not
  pub first-each : (f : A → Option Refusal) (l : List A) → first_refusal f l ≡ none → (x : A) → x ∈ l → f x ≡ none
  unfolding first_refusal
  first-each f [] e x m = absurd (Memᴰ.not-nil m)
  first-each f (y ∷ l) e x (Memᴰ.head q) = ap f q ∙ (then-none (f y) (first_refusal f l) e).0
  first-each f (y ∷ l) e x (Memᴰ.tail m) = first-each f l (then-none (f y) (first_refusal f l) e).1 x m

  -- two lists, one after the other
  pub first_append : (f : A → Option Refusal) (k l : List A) → first_refusal f (k ++ l) ≡ first_refusal f k then first_refusal f l
  unfolding first_refusal ◌then◌
  first_append f [] l = refl
  first_append f (x ∷ k) l = ap (λ c. f x then c) (first_append f k l) ∙ sym (then_assoc (f x) (first_refusal f k) (first_refusal f l))

module _ {A B : Type 0} (f : B → Option Refusal) where
  -- images
  pub first_map : (h : A → B) (l : List A) → first_refusal f (map h l) ≡ first_refusal (λ x. f (h x)) l
  unfolding first_refusal
  first_map h [] = refl
  first_map h (x ∷ l) = ap (λ c. f (h x) then c) (first_map h l)

  -- many lists of images, one after the other
  pub first_flat_map : {C : Type 0} (h : C → A → B) (rows : List C) (l : List A)
      → first_refusal f (flat_map (λ r. map (h r) l) rows) ≡ first_refusal (λ r. first_refusal (λ x. f (h r x)) l) rows
  unfolding first_refusal flat_map
  first_flat_map h [] l = refl
  first_flat_map h (r ∷ rows) l =
      first_append f (map (h r) l) (flat_map (λ q. map (h q) l) rows)
      ∙ ap (λ c. c then first_refusal f (flat_map (λ q. map (h q) l) rows)) (first_map (h r) l)
      ∙ ap (λ c. first_refusal (λ x. f (h r x)) l then c) (first_flat_map h rows l)

-- ---- what a call answers

module _ {A : Type 0} (a : A) where
  -- it refuses exactly as its check does
  pub answer-some : (c : Option Refusal) {r : Refusal} → (answer c a ≡ refused r) ↔ (c ≡ some r)
  unfolding answer
  answer-some none = (λ e. cc, λ e. cc)
  answer-some (some s) = (λ e. cc, λ e. cc)

  -- it gives its full result exactly where its check gives no refusal
  pub answer-none : (c : Option Refusal) → (answer c a ≡ full a) ↔ (c ≡ none)
  unfolding answer
  answer-none none = (λ e. refl, λ e. refl)
  answer-none (some s) = (λ e. cc, λ e. cc)

  -- it gives no other full result
  pub answer_only : (c : Option Refusal) {x : A} → answer c a ≡ full x → a ≡ x
  unfolding answer
  answer_only none e = cc
  answer_only (some r) e = cc
