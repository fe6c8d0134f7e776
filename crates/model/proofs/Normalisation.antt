-- Normalisation keeps the bits that the records have and makes the list of them; the list of a set is normal already.
use mathlib.Core.Path.{◌≡◌, refl, sym, ap, ◌∙◌, subst}
use mathlib.Core.Bool.{Bool, true, false, not, cond}
use mathlib.Core.List.Memᴰ
use mathlib.Core.List.{List, [], ◌∷◌}
use mathlib.Core.Logic.{◌⊎◌, inl, inr, ⊎_elim, ◌↔◌}
use Prim.Native.Nat.{suc, ◌≤◌}
use native.Mathlib.Omega.{arith}
use lib.Dec.{T_not, not_T}
use lib.IntN.{ℤ, pos, ◌+ℤ◌, ◌-ℤ◌}
use lib.ListN.{length}
use lib.Signed.{◌≤ℤ◌}
use Rattle.integers.proofs.Linear.{ints, sum, diff}
use Rattle.integers.proofs.Tests.{Test, passed, failed}
use Rattle.lists.proofs.Kept.{keep_length}
use Rattle.lists.specs.Lists.{◌∈◌, keep}
use Rattle.lists.proofs.Membership.{keep_in, keep_out}
use Rattle.model.specs.Bitmapping.{Record, Has, Before, Ordered, none, more, IsListOf}
use Rattle.model.specs.Runs.{touch, hull, joined, before, place, add, normal}
use Rattle.model.proofs.Records.{Within, within_refl, within_trans, within_has, Touch, touch_is, touch?, touch_sym, touch-within, Near, touch_near, touch-aligned, hull_left, hull_right, Meets, hull_meets, touch_meets, meets_touch, before_trans, Aligned, before?}
use Rattle.model.proofs.Uniqueness.{list_of_same, list-touch, list_near, near_maximal, list_unique}

-- some record of the list has root bit x with leaf bit y
abbrev pub Held : List Record → ℤ → ℤ → Type 0
Held l x y = (s : Record) × (s ∈ l) × Has s x y

-- ---- a record joined with those that it touches

-- one record more to join with makes it no smaller
joined-more : (r t : Record) (l : List Record) {s : Record} → Within s (joined r l) → Within s (joined r (t ∷ l))
unfolding joined
joined-more r t l {s} w = go (touch r t)
  where
    go : (b : Bool) → Within s (cond b (hull (joined r l) t) (joined r l))
    go true = within_trans w (hull_left (joined r l) t)
    go false = w

-- r lies within r joined
pub joined_self : (r : Record) (l : List Record) → Within r (joined r l)
unfolding joined
joined_self r [] = within_refl r
joined_self r (t ∷ l) = joined-more r t l (joined_self r l)

-- a record that is not empty does not become so
pub joined-full : (r : Record) (l : List Record) → r.first ≤ℤ r.last → (joined r l).first ≤ℤ (joined r l).last
joined-full r l n = omega (arith, ints, joined_self r l)

-- each record that r touches lies within r joined
pub joined_touched : {r s : Record} {l : List Record} → s ∈ l → Touch r s → Within s (joined r l)
unfolding joined
joined_touched {r} {s} (Memᴰ.head {x = t} {xs = l} e) p = go (touch r t) (touch? r t)
  where
    go : (b : Bool) → Test (Touch r t) (Touch r t → ⊥) b → Within s (cond b (hull (joined r l) t) (joined r l))
    go true (passed h) = subst (λ (z : Record). Within z (hull (joined r l) t)) (sym e) (hull_right (touch-within (joined_self r l) h))
    go false (failed h) = absurd (h (subst (Touch r) e p))
joined_touched {r} (Memᴰ.tail {x = t} {xs = l} m) p = joined-more r t l (joined_touched m p)

-- what meets r joined meets r, or a record that r touches
pub joined_meets : (r : Record) (l : List Record) {low high : ℤ} → low ≤ℤ high → Meets (joined r l) low high
    → Meets r low high ⊎ ((s : Record) × (s ∈ l) × Touch r s × Meets s low high)
unfolding joined
joined_meets r [] n m = inl m
joined_meets r (t ∷ l) {low} {high} n m = go (touch r t) (touch? r t) m (joined_meets r l n)
  where
    From : List Record → Type 0
    From l = Meets r low high ⊎ ((s : Record) × (s ∈ l) × Touch r s × Meets s low high)

    later : From l → From (t ∷ l)
    later (inl k) = inl k
    later (inr (s, p, q, k)) = inr (s, Memᴰ.tail p, q, k)

    split : Touch r t → Meets (joined r l) low high ⊎ Meets t low high → (Meets (joined r l) low high → From l) → From (t ∷ l)
    split h (inl k) rec = later (rec k)
    split h (inr k) rec = inr (t, Memᴰ.head refl, h, k)

    go : (b : Bool) → Test (Touch r t) (Touch r t → ⊥) b → Meets (cond b (hull (joined r l) t) (joined r l)) low high
        → (Meets (joined r l) low high → From l) → From (t ∷ l)
    go true (passed h) m rec = split h (hull_meets (touch-within (joined_self r l) h) n m) rec
    go false (failed h) m rec = later (rec m)

-- what r joined has, r has or a record of the list has
pub joined_has : (r : Record) (l : List Record) {x y : ℤ} → Has (joined r l) x y → Has r x y ⊎ Held l x y
joined_has r l {x} {y} h = go (joined_meets r l (omega (arith, ints)) (record { first = h.above; last = h.below }))
  where
    displaced : x -ℤ y ≡ r.displacement
    displaced = h.apart ∙ sym (joined_self r l).same

    go : Meets r x x ⊎ ((s : Record) × (s ∈ l) × Touch r s × Meets s x x) → Has r x y ⊎ Held l x y
    go (inl m) = inl (record { above = m.first; below = m.last; apart = displaced })
    go (inr (s, p, t, m)) = inr (s, p, record { above = m.first; below = m.last; apart = displaced ∙ t.same })

-- what r joined touches, r touches or a record that r touches
pub joined-touch : (r : Record) (l : List Record) {s : Record} → s.first ≤ℤ s.last → Touch (joined r l) s
    → Touch r s ⊎ ((t : Record) × (t ∈ l) × Touch r t × Touch t s)
joined-touch r l {s} n h = go (joined_meets r l (omega (arith, ints, diff s.first (pos 1), sum s.last (pos 1))) (touch_meets h))
  where
    displaced : r.displacement ≡ s.displacement
    displaced = (joined_self r l).same ∙ h.same

    go : Meets r (s.first -ℤ pos 1) (s.last +ℤ pos 1) ⊎ ((t : Record) × (t ∈ l) × Touch r t × Meets t (s.first -ℤ pos 1) (s.last +ℤ pos 1))
        → Touch r s ⊎ ((t : Record) × (t ∈ l) × Touch r t × Touch t s)
    go (inl m) = inl (meets_touch displaced m)
    go (inr (t, p, k, m)) = inr (t, p, k, meets_touch (sym k.same ∙ displaced) m)

-- r joined with a list of a set touches no record of the list that r does not touch
pub joined-apart : {S : ℤ → ℤ → Type 0} {l : List Record} → IsListOf S l → {r s : Record} → s ∈ l → Touch (joined r l) s → Touch r s
joined-apart {l} L {r} {s} p h = go (joined-touch r l (L.full s p) h)
  where
    go : Touch r s ⊎ ((t : Record) × (t ∈ l) × Touch r t × Touch t s) → Touch r s
    go (inl k) = k
    go (inr (t, q, k, j)) = subst (Touch r) (list-touch L L q p j) k

-- ---- a record in its place

-- r and the records of the list are there
pub place_in : {r s : Record} (l : List Record) → (s ≡ r) ⊎ (s ∈ l) → s ∈ place r l
unfolding place
place_in [] (inl e) = Memᴰ.head e
place_in [] (inr m) = Memᴰ.tail m
place_in {r} {s} (t ∷ l) h = go (before r t) h (place_in l)
  where
    go : (b : Bool) → (s ≡ r) ⊎ (s ∈ (t ∷ l)) → ((s ≡ r) ⊎ (s ∈ l) → s ∈ place r l) → s ∈ cond b (r ∷ t ∷ l) (t ∷ place r l)
    go true (inl e) rec = Memᴰ.head e
    go true (inr m) rec = Memᴰ.tail m
    go false (inl e) rec = Memᴰ.tail (rec (inl e))
    go false (inr (Memᴰ.head e)) rec = Memᴰ.head e
    go false (inr (Memᴰ.tail m)) rec = Memᴰ.tail (rec (inr m))

-- and no others are
pub place_out : {r s : Record} (l : List Record) → s ∈ place r l → (s ≡ r) ⊎ (s ∈ l)
unfolding place
place_out [] m = Memᴰ.cases_cons m
place_out {r} {s} (t ∷ l) m = go (before r t) m (place_out l)
  where
    later : (s ≡ r) ⊎ (s ∈ l) → (s ≡ r) ⊎ (s ∈ (t ∷ l))
    later (inl e) = inl e
    later (inr m) = inr (Memᴰ.tail m)

    go : (b : Bool) → s ∈ cond b (r ∷ t ∷ l) (t ∷ place r l) → (s ∈ place r l → (s ≡ r) ⊎ (s ∈ l)) → (s ≡ r) ⊎ (s ∈ (t ∷ l))
    go true m rec = Memᴰ.cases_cons m
    go false (Memᴰ.head e) rec = inr (Memᴰ.head e)
    go false (Memᴰ.tail m) rec = later (rec m)

-- order is kept, if no record of the list begins as r does
pub place-ordered : {r : Record} {l : List Record} → Ordered l → ((s : Record) → s ∈ l → Aligned r s → ⊥) → Ordered (place r l)
unfolding place
place-ordered none n = more (λ s m. absurd (Memᴰ.not-nil m)) none
place-ordered {r} (more {r = t} {l = l} b o) n = go (before r t) (before? r t) (place-ordered o (λ s m. n s (Memᴰ.tail m)))
  where
    both : {a c : Record} → Before a c → ((s : Record) → s ∈ l → Before a s) → (s : Record) → (s ≡ c) ⊎ (s ∈ l) → Before a s
    both {a} h k s (inl e) = subst (Before a) (sym e) h
    both h k s (inr m) = k s m

    go : (c : Bool) → Test (Before r t) ((Aligned r t → ⊥) → Before t r) c → Ordered (place r l) → Ordered (cond c (r ∷ t ∷ l) (t ∷ place r l))
    go true (passed h) rest = more (λ s m. both h (λ x k. before_trans h (b x k)) s (Memᴰ.cases_cons m)) (more b o)
    go false (failed h) rest = more (λ s m. both (h (n t (Memᴰ.head refl))) b s (place_out l m)) rest

-- what is kept of an ordered list is ordered
pub keep-ordered : (f : Record → Bool) {l : List Record} → Ordered l → Ordered (keep f l)
unfolding keep
keep-ordered f none = none
keep-ordered f (more {r = r} {l = l} b o) = go (f r) (keep-ordered f o)
  where
    go : (c : Bool) → Ordered (keep f l) → Ordered (cond c (r ∷ keep f l) (keep f l))
    go true rest = more (λ s m. b s (keep_out f l m).0) rest
    go false rest = rest

-- ---- a record added to a list

-- only r joined and the records that r does not touch are there
pub add_out : {r s : Record} (l : List Record) → s ∈ add r l → (s ≡ joined r l) ⊎ ((s ∈ l) × (Touch r s → ⊥))
unfolding add
add_out {r} {s} l m = go (place_out (keep (λ t. not (touch r t)) l) m)
  where
    go : (s ≡ joined r l) ⊎ (s ∈ keep (λ t. not (touch r t)) l) → (s ≡ joined r l) ⊎ ((s ∈ l) × (Touch r s → ⊥))
    go (inl e) = inl e
    go (inr k) = let h = keep_out (λ t. not (touch r t)) l k in inr (h.0, λ t. T_not (touch r s) h.1 ((touch_is r s).1 t))

-- and all of them are
pub add_in : {r s : Record} (l : List Record) → (s ≡ joined r l) ⊎ ((s ∈ l) × (Touch r s → ⊥)) → s ∈ add r l
unfolding add
add_in {r} {s} l (inl e) = place_in (keep (λ t. not (touch r t)) l) (inl e)
add_in {r} {s} l (inr h) =
    place_in (keep (λ t. not (touch r t)) l) (inr (keep_in (λ t. not (touch r t)) (not_T (touch r s) (λ t. h.1 ((touch_is r s).0 t))) h.0))

-- what holds of r joined and of each record that r does not touch holds of all
add-all : {P : Record → Type 0} {r : Record} {l : List Record} → P (joined r l) → ((s : Record) → s ∈ l → (Touch r s → ⊥) → P s)
    → (s : Record) → s ∈ add r l → P s
add-all {P} {r} {l} j k s m = go (add_out l m)
  where
    go : (s ≡ joined r l) ⊎ ((s ∈ l) × (Touch r s → ⊥)) → P s
    go (inl e) = subst P (sym e) j
    go (inr h) = k s h.0 h.1

-- what is had after adding r, r had or the list had
pub add_has : (r : Record) (l : List Record) (x y : ℤ) → Held (add r l) x y ↔ (Has r x y ⊎ Held l x y)
add_has r l x y = (λ (s, m, h). add-all {P = λ s. Has s x y → Has r x y ⊎ Held l x y} (joined_has r l) (λ s p n h. inr (s, p, h)) s m h, into)
  where
    self : Has (joined r l) x y → Held (add r l) x y
    self h = (joined r l, add_in l (inl refl), h)

    other : (s : Record) → s ∈ l → Has s x y → (b : Bool) → Test (Touch r s) (Touch r s → ⊥) b → Held (add r l) x y
    other s p h true (passed t) = self (within_has (joined_touched p t) h)
    other s p h false (failed n) = (s, add_in l (inr (p, n)), h)

    into : Has r x y ⊎ Held l x y → Held (add r l) x y
    into (inl h) = self (within_has (joined_self r l) h)
    into (inr (s, p, h)) = other s p h (touch r s) (touch? r s)

-- adding to the list of a set
module _ {S : ℤ → ℤ → Type 0} {l : List Record} (L : IsListOf S l) (r : Record) (n : r.first ≤ℤ r.last) where
  -- no record is empty
  add-full : (s : Record) → s ∈ add r l → s.first ≤ℤ s.last
  add-full = add-all (joined-full r l n) (λ s p k. L.full s p)

  -- the records are in order
  add-ordered : Ordered (add r l)
  unfolding add
  add-ordered = place-ordered (keep-ordered (λ s. not (touch r s)) L.ordered) unlike
    where
      unlike : (s : Record) → s ∈ keep (λ s. not (touch r s)) l → Aligned (joined r l) s → ⊥
      unlike s m a =
          let (p, h) = keep_out (λ s. not (touch r s)) l m in
          T_not (touch r s) h ((touch_is r s).1 (joined-apart L p (touch-aligned (joined-full r l n) (L.full s p) a)))

  -- of the bits in a record and next to it, those in the set or in r are its own
  add_near : (s : Record) → s ∈ add r l → (x y : ℤ) → Near s x y → Has r x y ⊎ S x y → Has s x y
  add_near = add-all own kept
    where
      own : (x y : ℤ) → Near (joined r l) x y → Has r x y ⊎ S x y → Has (joined r l) x y
      own x y b (inl h) = within_has (joined_self r l) h
      own x y b (inr k) = let (s, p, h) = L.complete x y k in within_has (joined_touched p (joined-apart L p (touch_near b h))) h

      kept : (s : Record) → s ∈ l → (Touch r s → ⊥) → (x y : ℤ) → Near s x y → Has r x y ⊎ S x y → Has s x y
      kept s p t x y b (inl h) = absurd (t (touch_sym (touch_near b h)))
      kept s p t x y b (inr k) = list_near L p b k

  -- the list of the set and the record
  pub add-list : IsListOf (λ x y. Has r x y ⊎ S x y) (add r l)
  add-list =
      record {
        full = add-full;
        sound = λ s m x y h. ⊎_elim inl (λ (t, p, k). inr (L.sound t p x y k)) ((add_has r l x y).0 (s, m, h));
        complete = λ x y h. (add_has r l x y).1 (⊎_elim inl (λ k. inr (L.complete x y k)) h);
        maximal = λ s m. near_maximal (add-full s m) (add_near s m);
        ordered = add-ordered;
      }

-- ---- normalisation

-- the bits of a list: those of its first record and those of the rest
held_cons : {r : Record} {l : List Record} {x y : ℤ} → Held (r ∷ l) x y ↔ (Has r x y ⊎ Held l x y)
held_cons {r} {l} {x} {y} = (λ (s, m, h). out s h (Memᴰ.cases_cons m), into)
  where
    out : (s : Record) → Has s x y → (s ≡ r) ⊎ (s ∈ l) → Has r x y ⊎ Held l x y
    out s h (inl e) = inl (subst (λ (z : Record). Has z x y) e h)
    out s h (inr m) = inr (s, m, h)

    into : Has r x y ⊎ Held l x y → Held (r ∷ l) x y
    into (inl h) = (r, Memᴰ.head refl, h)
    into (inr (s, m, h)) = (s, Memᴰ.tail m, h)

-- some record of a normalised list has a bit exactly when some record of the list has it
pub normal_has : (l : List Record) (x y : ℤ) → ((s : Record) × (s ∈ normal l) × Has s x y) ↔ ((s : Record) × (s ∈ l) × Has s x y)
unfolding normal
normal_has [] x y = (λ h. h, λ h. h)
normal_has (r ∷ l) x y =
    let rest = normal_has l x y in (
      λ h. held_cons.1 (⊎_elim inl (λ k. inr (rest.0 k)) ((add_has r (normal l) x y).0 h)),
      λ h. (add_has r (normal l) x y).1 (⊎_elim inl (λ k. inr (rest.1 k)) (held_cons.0 h)),
    )

-- normalisation makes the list of what the records have
pub normal-list : (l : List Record) → ((s : Record) → s ∈ l → s.first ≤ℤ s.last) → IsListOf (λ x y. (s : Record) × (s ∈ l) × Has s x y) (normal l)
unfolding normal
normal-list [] n =
    record {
      full = λ s m. absurd (Memᴰ.not-nil m);
      sound = λ s m. absurd (Memᴰ.not-nil m);
      complete = λ x y h. h;
      maximal = λ s m. absurd (Memᴰ.not-nil m);
      ordered = none;
    }
normal-list (r ∷ l) n =
    list_of_same (λ x y. (held_cons.1, held_cons.0)) (add-list (normal-list l (λ s m. n s (Memᴰ.tail m))) r (n r (Memᴰ.head refl)))

-- the list of a set is what records that have just the set's bits become when normalised
pub normal_unique : {S : ℤ → ℤ → Type 0} {l m : List Record} → ((s : Record) → s ∈ l → s.first ≤ℤ s.last)
    → ((x y : ℤ) → Held l x y ↔ S x y) → IsListOf S m → normal l ≡ m
normal_unique {l} n e M = list_unique (list_of_same e (normal-list l n)) M

-- the list of a set is normal
pub normal_fixed : {S : ℤ → ℤ → Type 0} {l : List Record} → IsListOf S l → normal l ≡ l
normal_fixed L = normal_unique L.full (λ x y. (λ (s, m, h). L.sound s m x y h, L.complete x y)) L

-- ---- lengths

place_length : (r : Record) (l : List Record) → length (place r l) ≡ suc (length l)
unfolding place
place_length r [] = refl
place_length r (s ∷ l) = go (before r s) (place_length r l)
  where
    go : (b : Bool) → length (place r l) ≡ suc (length l) → length (cond b (r ∷ s ∷ l) (s ∷ place r l)) ≡ suc (suc (length l))
    go true e = refl
    go false e = ap suc e

add_length : (r : Record) (l : List Record) → (1 ≤ length (add r l)) × (length (add r l) ≤ suc (length l))
unfolding add
add_length r l = let rest = keep (λ s. not (touch r s)) l in omega (arith, place_length (joined r l) rest, keep_length (λ s. not (touch r s)) l)

-- normalisation makes no list longer
pub normal_length : (l : List Record) → length (normal l) ≤ length l
unfolding normal
normal_length [] = omega arith
normal_length (r ∷ l) = omega (arith, add_length r (normal l), normal_length l)
