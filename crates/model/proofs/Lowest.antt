-- The test at one address says whether the leaf bits of the two lists differ there, and the lowest address is the least at which they do.
-- The lists are any: no order, no maximal runs, and a record may be empty.
use mathlib.Core.Path.{◌≡◌, refl, sym, ap, ◌∙◌, subst}
use mathlib.Core.Bool.{Bool, true, false, not, ◌&&◌, ◌||◌}
use mathlib.Core.Logic.{◌⊎◌, inl, inr, ◌↔◌}
use mathlib.Core.List.Memᴰ
use mathlib.Core.List.{List, [], ◌∷◌, ◌++◌}
use native.Mathlib.Omega.{arith}
use lib.Dec.{T, T_not, not_T}
use lib.IntN.{ℤ, pos, negsuc, ◌+ℤ◌, ◌-ℤ◌}
use lib.Signed.{le_z, ◌≤ℤ◌, ◌<ℤ◌}
use Rattle.integers.specs.Integers.{eq_z, min_z, max_z}
use Rattle.integers.proofs.Linear.{ints, sum}
use Rattle.integers.proofs.Tests.{Test, passed, failed, le?, eq_z?, test?, test_of, of_test, min_is, max_is, max_le}
use Rattle.lists.specs.Lists.{◌∈◌, keep, any}
use Rattle.lists.proofs.Membership.{keep_in, keep_out, keep_nil}
use Rattle.model.specs.Bitmapping.{Record, Has}
use Rattle.model.specs.Verdicts.{has_bit, bits_within, differs_at, changes, least, least_of, lowest}
use Rattle.model.proofs.Records.{displacement_of, has_at}
use Rattle.lists.proofs.Decisions.{Decides, test_map, not?, and?, or?, decides_as, decides_and, decides_le, all?, any?}

-- some record of the list has root bit x with leaf bit y
abbrev pub HasSome : List Record → ℤ → ℤ → Type 0
HasSome l x y = (s : Record) × (s ∈ l) × Has s x y

-- leaf bit y is had with root bit x by one list and not by the other
abbrev pub DifferOn : List Record → List Record → ℤ → ℤ → Type 0
DifferOn l m x y = (HasSome l x y × (HasSome m x y → ⊥)) ⊎ ((HasSome l x y → ⊥) × HasSome m x y)

-- some leaf bit is had with root bit x by one list and not by the other
abbrev pub DifferAt : List Record → List Record → ℤ → Type 0
DifferAt l m x = (y : ℤ) × DifferOn l m x y

-- ---- the test at one address

-- has_bit decides whether the root bit is one of the record's, and so has the leaf bit that stands the displacement below it
pub has_bit? : (x : ℤ) (r : Record) → Decides (Has r x (x -ℤ r.displacement)) (has_bit x r)
unfolding has_bit
has_bit? x r = decides_as (λ p. has_at r x p.0 p.1, λ h. (h.above, h.below)) (decides_and (decides_le r.first x) (decides_le x r.last))

-- the test on the records of m decides whether one has x with the leaf bit d below it
has_some? : (x d : ℤ) (m : List Record) → Decides (HasSome m x (x -ℤ d)) (any (λ s. has_bit x s && eq_z d s.displacement) m)
has_some? x d m = test_map (λ h. h) (λ n w. n w.0 w.1 w.2) (any? one m)
  where
    one : (s : Record) → Decides (Has s x (x -ℤ d)) (has_bit x s && eq_z d s.displacement)
    one s =
        decides_as (
          λ p. record { above = p.0.above; below = p.0.below; apart = displacement_of x d ∙ p.1 },
          λ h. (has_at s x h.above h.below, sym (displacement_of x d) ∙ h.apart),
        )
        (decides_and (has_bit? x s) (eq_z? d s.displacement))

-- a leaf bit that a record has with x stands the displacement below x
has_leaf : {r : Record} {x y : ℤ} → Has r x y → x -ℤ r.displacement ≡ y
has_leaf {r} {x} {y} h = ap (λ (d : ℤ). x -ℤ d) (sym h.apart) ∙ displacement_of x y

-- the test on one record of l: all that it has with x some record of m has, or not
within? : (x : ℤ) (m : List Record) (r : Record)
    → Test ((y : ℤ) → Has r x y → HasSome m x y) ((y : ℤ) × Has r x y × (HasSome m x y → ⊥))
    (not (has_bit x r) || any (λ s. has_bit x s && eq_z r.displacement s.displacement) m)
within? x m r = test_map every (λ q. (x -ℤ r.displacement, q.0, q.1)) (or? (not? (has_bit? x r)) (has_some? x r.displacement m))
  where
    every : (Has r x (x -ℤ r.displacement) → ⊥) ⊎ HasSome m x (x -ℤ r.displacement) → (y : ℤ) → Has r x y → HasSome m x y
    every (inl n) y h = absurd (n (has_at r x h.above h.below))
    every (inr w) y h = subst (λ (z : ℤ). HasSome m x z) (has_leaf h) w

-- every leaf bit that x has by l it has by m, or some not
pub bits_within? : (x : ℤ) (l m : List Record)
    → Test ((y : ℤ) → HasSome l x y → HasSome m x y) ((y : ℤ) × HasSome l x y × (HasSome m x y → ⊥)) (bits_within x l m)
unfolding bits_within
bits_within? x l m =
    test_map (λ h y w. h w.0 w.1 y w.2) (λ w. (w.2.0, (w.0, w.1, w.2.1), w.2.2)) (all? (within? x m) l)

-- the lists differ at x, or agree on every leaf bit
pub differs_at? : (l m : List Record) (x : ℤ) → Test (DifferAt l m x) ((y : ℤ) → HasSome l x y ↔ HasSome m x y) (differs_at l m x)
unfolding differs_at
differs_at? l m x = test_map differ (λ p y. (p.0 y, p.1 y)) (not? (and? (bits_within? x l m) (bits_within? x m l)))
  where
    differ : ((y : ℤ) × HasSome l x y × (HasSome m x y → ⊥)) ⊎ ((y : ℤ) × HasSome m x y × (HasSome l x y → ⊥)) → DifferAt l m x
    differ (inl w) = (w.0, inl (w.1, w.2))
    differ (inr w) = (w.0, inr (w.2, w.1))

-- lists that differ at x do not agree there
differ_agree : {l m : List Record} {x : ℤ} → DifferAt l m x → ((y : ℤ) → HasSome l x y ↔ HasSome m x y) → ⊥
differ_agree {l} {m} {x} w e = go w.1
  where
    go : DifferOn l m x w.0 → ⊥
    go (inl h) = h.1 ((e w.0).0 h.0)
    go (inr h) = h.0 ((e w.0).1 h.1)

-- the test passes exactly where some leaf bit is had by one list alone
pub differs_at_lem : (l m : List Record) (x : ℤ) → T (differs_at l m x) ↔ DifferAt l m x
differs_at_lem l m x = (test_of (differs_at? l m x), λ w. of_test (differs_at? l m x) (differ_agree w))

-- the test fails exactly where both lists have the same leaf bits
pub agree_at : (l m : List Record) (x : ℤ) → T (not (differs_at l m x)) ↔ ((y : ℤ) → HasSome l x y ↔ HasSome m x y)
agree_at l m x = (test_of (not? (differs_at? l m x)), λ e. of_test (not? (differs_at? l m x)) (λ w. differ_agree w e))

-- ---- the least of a list, and the last at or below an address

-- what holds of the head and of every further number holds of every number
each_cons : (P : ℤ → Type 0) {a : ℤ} {l : List ℤ} → P a → ((d : ℤ) → d ∈ l → P d) → (d : ℤ) → d ∈ (a ∷ l) → P d
each_cons P p h d (Memᴰ.head e) = subst P (sym e) p
each_cons P p h d (Memᴰ.tail m) = h d m

-- a number of a list whose head is one of a and b is a number of the list with both
one_of_two : {a b e c : ℤ} {l : List ℤ} → (e ≡ a) ⊎ (e ≡ b) → c ∈ (e ∷ l) → c ∈ (a ∷ b ∷ l)
one_of_two (inl p) (Memᴰ.head q) = Memᴰ.head (q ∙ p)
one_of_two (inr p) (Memᴰ.head q) = Memᴰ.tail (Memᴰ.head (q ∙ p))
one_of_two o (Memᴰ.tail m) = Memᴰ.tail (Memᴰ.tail m)

-- c is the least number of the list
record Least (l : List ℤ) (c : ℤ) : Type 0 where
  place : c ∈ l
  low : (b : ℤ) → b ∈ l → c ≤ℤ b

-- least gives the least
least-is : (a : ℤ) (l : List ℤ) → Least (a ∷ l) (least a l)
unfolding least
least-is a [] = record { place = Memᴰ.head refl; low = each_cons (λ d. a ≤ℤ d) (omega (arith, ints)) (λ d m. absurd (Memᴰ.not-nil m)) }
least-is a (b ∷ l) =
    let r = least-is (min_z a b) l in
    let k : least (min_z a b) l ≤ℤ min_z a b = r.low (min_z a b) (Memᴰ.head refl) in
    let P : ℤ → Type 0 = λ d. least (min_z a b) l ≤ℤ d in
    record {
      place = one_of_two (min_is a b).2 r.place;
      low = each_cons P (omega (arith, ints, (min_is a b).0)) (each_cons P (omega (arith, ints, (min_is a b).1)) (λ d m. r.low d (Memᴰ.tail m)));
    }

-- so does least_of, on a list that has a number
least_of-is : {b : ℤ} (l : List ℤ) → b ∈ l → Least l (least_of l)
unfolding least_of
least_of-is [] m = absurd (Memᴰ.not-nil m)
least_of-is (a ∷ l) m = least-is a l

-- c is the last number of the list at or below x
record Last (x : ℤ) (l : List ℤ) (c : ℤ) : Type 0 where
  place : c ∈ l
  upto : c ≤ℤ x
  high : (b : ℤ) → b ∈ l → b ≤ℤ x → b ≤ℤ c

-- the last of a list whose head is one of a and b is the last of the list with both, where it is no lower than either
last_both : {x a b e c : ℤ} {l : List ℤ} → (e ≡ a) ⊎ (e ≡ b) → (a ≤ℤ x → a ≤ℤ c) → (b ≤ℤ x → b ≤ℤ c) → Last x (e ∷ l) c → Last x (a ∷ b ∷ l) c
last_both {x} {c} o p q r =
    let P : ℤ → Type 0 = λ d. d ≤ℤ x → d ≤ℤ c in
    record { place = one_of_two o r.place; upto = r.upto; high = each_cons P p (each_cons P q (λ d m. r.high d (Memᴰ.tail m))) }

-- where the head of a list is at or below x, some number is the last such
last-from : (x a : ℤ) (l : List ℤ) → a ≤ℤ x → (c : ℤ) × Last x (a ∷ l) c
last-from x a [] h =
    let high : (b : ℤ) → b ∈ (a ∷ []) → b ≤ℤ x → b ≤ℤ a = each_cons (λ d. d ≤ℤ x → d ≤ℤ a) (λ k. omega (arith, ints)) (λ d m. absurd (Memᴰ.not-nil m)) in
    (a, record { place = Memᴰ.head refl; upto = h; high = high })
last-from x a (b ∷ l) h = go (le_z b x) (le? b x) (last-from x a l h) (last-from x (max_z a b) l)
  where
    go : (t : Bool) → Test (b ≤ℤ x) (x <ℤ b) t → (c : ℤ) × Last x (a ∷ l) c → (max_z a b ≤ℤ x → (c : ℤ) × Last x (max_z a b ∷ l) c)
        → (c : ℤ) × Last x (a ∷ b ∷ l) c
    go true (passed k) without rest =
        let u = (max_le a b x).1 (h, k) in
        let w = rest u in
        let i : max_z a b ≤ℤ w.0 = w.1.high (max_z a b) (Memᴰ.head refl) u in
        (w.0, last_both (max_is a b).2 (λ j. omega (arith, ints, (max_is a b).0)) (λ j. omega (arith, ints, (max_is a b).1)) w.1)
    go false (failed k) w rest = (w.0, last_both (inl refl) (w.1.high a (Memᴰ.head refl)) (λ j. absurd (omega (arith, ints))) w.1)

-- where some number of a list is at or below x, one is the last such
last-is : {x a : ℤ} {l : List ℤ} → a ∈ l → a ≤ℤ x → (c : ℤ) × Last x l c
last-is {x} {a} {l} m h =
    let r = last-from x a l h in
    (r.0, record { place = back r.1.place; upto = r.1.upto; high = λ b k. r.1.high b (Memᴰ.tail k) })
  where
    back : {c : ℤ} → c ∈ (a ∷ l) → c ∈ l
    back (Memᴰ.head e) = subst (λ (z : ℤ). z ∈ l) (sym e) m
    back (Memᴰ.tail k) = k

-- ---- a difference shows already where the bits last changed

-- Let c be the last change at or below x. No record begins or ends from there to x, so a record of either list has c exactly where it has x,
-- with the leaf bit as far from it. A leaf bit that one list alone has with x stands for one that it alone has with c: the lists differ at c.

-- the places where records of either list begin, and past their ends
abbrev places : List Record → List Record → List ℤ
places l m = changes l ++ changes m

-- a record begins at a change
change_first : {s : Record} {l : List Record} → s ∈ l → s.first ∈ changes l
unfolding changes
change_first (Memᴰ.head e) = Memᴰ.head (ap (λ (z : Record). z.first) e)
change_first (Memᴰ.tail m) = Memᴰ.tail (Memᴰ.tail (change_first m))

-- and past its end is one
change_end : {s : Record} {l : List Record} → s ∈ l → (s.last +ℤ pos 1) ∈ changes l
unfolding changes
change_end (Memᴰ.head e) = Memᴰ.tail (Memᴰ.head (ap (λ (z : Record). z.last +ℤ pos 1) e))
change_end (Memᴰ.tail m) = Memᴰ.tail (Memᴰ.tail (change_end m))

-- no change of l lies above c and at or below x: by l, x has a leaf bit exactly where c has the one as far from it
module _ {x c : ℤ} {l : List Record} (upto : c ≤ℤ x) (high : (b : ℤ) → b ∈ changes l → b ≤ℤ x → b ≤ℤ c) where
  has_back : {y : ℤ} → HasSome l x y → HasSome l c (c -ℤ (x -ℤ y))
  has_back {y} w =
      let h = w.2 in
      let above = high w.0.first (change_first w.1) h.above in
      (w.0, w.1, record { above = above; below = omega (arith, ints, upto); apart = displacement_of c (x -ℤ y) ∙ h.apart })

  has_forth : {y : ℤ} → HasSome l c (c -ℤ (x -ℤ y)) → HasSome l x y
  has_forth {y} w = go w.0 w.1 w.2 (le_z x w.0.last) (le? x w.0.last)
    where
      go : (s : Record) → s ∈ l → Has s c (c -ℤ (x -ℤ y)) → (t : Bool) → Test (x ≤ℤ s.last) (s.last <ℤ x) t → HasSome l x y
      go s m h true (passed k) = (s, m, record { above = omega (arith, ints, upto); below = k; apart = sym (displacement_of c (x -ℤ y)) ∙ h.apart })
      go s m h false (failed k) =
          let e : (s.last +ℤ pos 1) ≤ℤ c = high (s.last +ℤ pos 1) (change_end m) (omega (arith, ints, sum s.last (pos 1))) in
          absurd (omega (arith, ints, sum s.last (pos 1)))

-- lists that differ at x differ at the last change at or below x
differ_back : {l m : List Record} {x c : ℤ} → Last x (places l m) c → DifferAt l m x → DifferAt l m c
differ_back {l} {m} {x} {c} r w = (c -ℤ (x -ℤ w.0), go w.1)
  where
    high_left : (b : ℤ) → b ∈ changes l → b ≤ℤ x → b ≤ℤ c
    high_left b k = r.high b (Memᴰ.append_left (changes m) k)

    high_right : (b : ℤ) → b ∈ changes m → b ≤ℤ x → b ≤ℤ c
    high_right b k = r.high b (Memᴰ.append_right (changes l) k)

    go : DifferOn l m x w.0 → DifferOn l m c (c -ℤ (x -ℤ w.0))
    go (inl h) = inl (has_back r.upto high_left h.0, λ k. h.1 (has_forth r.upto high_right k))
    go (inr h) = inr (λ k. h.0 (has_forth r.upto high_left k), has_back r.upto high_right h.1)

-- where the lists differ at x, a record begins at or below x
differ_begins : {l m : List Record} {x : ℤ} → DifferAt l m x → (a : ℤ) × (a ∈ places l m) × (a ≤ℤ x)
differ_begins {l} {m} {x} w = go w.1
  where
    go : DifferOn l m x w.0 → (a : ℤ) × (a ∈ places l m) × (a ≤ℤ x)
    go (inl h) = (h.0.0.first, Memᴰ.append_left (changes m) (change_first h.0.1), h.0.2.above)
    go (inr h) = (h.1.0.first, Memᴰ.append_right (changes l) (change_first h.1.1), h.1.2.above)

-- ---- the lowest address

-- where the lists differ at x, they differ at a change at or below x
differ_change : (l m : List Record) (x : ℤ) → T (differs_at l m x) → (c : ℤ) × (c ≤ℤ x) × (c ∈ keep (differs_at l m) (places l m))
differ_change l m x t =
    let w = (differs_at_lem l m x).0 t in
    let b = differ_begins w in
    let r = last-is b.1 b.2 in
    (r.0, r.1.upto, keep_in (differs_at l m) ((differs_at_lem l m r.0).1 (differ_back r.1 w)) r.1.place)

-- where the lists differ at all, the lowest address is the least of the changes at which they differ
lowest-is : (l m : List Record) (x : ℤ) → T (differs_at l m x) → Least (keep (differs_at l m) (places l m)) (lowest l m)
unfolding lowest
lowest-is l m x t = least_of-is (keep (differs_at l m) (places l m)) (differ_change l m x t).2

-- where the lists differ anywhere, they differ at the lowest address
pub lowest-differs : (l m : List Record) (x : ℤ) → T (differs_at l m x) → T (differs_at l m (lowest l m))
lowest-differs l m x t = (keep_out (differs_at l m) (places l m) (lowest-is l m x t).place).1

-- the lowest address is no higher than any at which the lists differ
pub lowest-least : (l m : List Record) (x : ℤ) → T (differs_at l m x) → lowest l m ≤ℤ x
lowest-least l m x t =
    let c = differ_change l m x t in
    let h : lowest l m ≤ℤ c.0 = (lowest-is l m x t).low c.0 c.2 in
    omega (arith, ints, c.1)

-- below the lowest address both lists have the same leaf bits
pub lowest-agrees : (l m : List Record) (x : ℤ) → x <ℤ lowest l m → (y : ℤ) → HasSome l x y ↔ HasSome m x y
lowest-agrees l m x h =
    (agree_at l m x).0 (not_T (differs_at l m x) (λ t. let k : lowest l m ≤ℤ x = lowest-least l m x t in omega (arith, ints)))

-- the lists differ at the lowest address, or nowhere
pub lowest? : (l m : List Record) → Test (DifferAt l m (lowest l m)) ((x y : ℤ) → HasSome l x y ↔ HasSome m x y) (differs_at l m (lowest l m))
lowest? l m = test_map (differs_at_lem l m (lowest l m)).0 (λ n x. (agree_at l m x).0 (nowhere n x)) (test? (differs_at l m (lowest l m)))
  where
    nowhere : T (not (differs_at l m (lowest l m))) → (x : ℤ) → T (not (differs_at l m x))
    nowhere n x = not_T (differs_at l m x) (λ t. T_not (differs_at l m (lowest l m)) n (lowest-differs l m x t))

-- the lowest address is −1 where the lists differ nowhere
pub lowest-nowhere : (l m : List Record) → ((x : ℤ) → T (not (differs_at l m x))) → lowest l m ≡ negsuc 0
unfolding lowest least_of
lowest-nowhere l m h = ap least_of (keep_nil (differs_at l m) (places l m) (λ x k. h x))

-- so it is of a list and itself
pub lowest-same : (l : List Record) → lowest l l ≡ negsuc 0
lowest-same l = lowest-nowhere l l (λ x. (agree_at l l x).1 (λ y. (λ w. w, λ w. w)))
