-- The walk call: the addresses computed at a leaf are those that walks arrive with, and its numbers are exactly the leaf bits that the
-- address reaches, ascending, each once.
use mathlib.Core.Path.{◌≡◌, refl, sym, ◌∙◌, subst}
use mathlib.Core.Bool.{Bool, true, false, cond}
use mathlib.Core.List.Memᴰ
use mathlib.Core.List.{List, [], ◌∷◌, map, flat_map}
use mathlib.Core.Logic.{◌≢◌, ◌↔◌, ◌⊎◌, inl, inr, ⊎_elim}
use Prim.Native.Nat.{ℕ, zero, suc, ◌≤◌}
use native.Mathlib.Omega.{arith}
use lib.IntN.{ℤ, ◌-ℤ◌}
use lib.ListN.{length}
use lib.Signed.{le_z, lt_z, ◌≤ℤ◌, ◌<ℤ◌}
use Rattle.integers.specs.Integers.{eq_z}
use Rattle.integers.proofs.Linear.{ints}
use Rattle.integers.proofs.Tests.{Test, passed, failed, le?, lt?, eq_z?}
use Rattle.lists.specs.Lists.{◌∈◌}
use Rattle.lists.proofs.Membership.{map_in, map_out, flat_map_in, flat_map_out, cond_out, cond_true, cond_false}
use Rattle.model.specs.declared.WalkKind.{WalkKind}
use Rattle.model.specs.Limits.{max_chain}
use Rattle.model.specs.Rows.{Node, Edge}
use Rattle.model.specs.Graph.{Graph, node, first_bit, bit_offset}
use Rattle.model.specs.Walk.{StandsOn, Walk, stand, step, Reached}
use Rattle.model.specs.Paths.{Way, stay, over}
use Rattle.model.specs.Runs.{leaving, last_open}
use Rattle.model.specs.Calls.{stands_on, arrivals, among, ascending, leaf_bits}
use Rattle.lists.proofs.Decisions.{decides_as, decides_and, decides_le}
use Rattle.model.proofs.Paths.{Fit, leaving_in, leaving_out}
use Rattle.model.proofs.Steps.{stands_between}
use Rattle.model.proofs.Walks.{Along, halt, pass, walk_route, walk-short}

-- ---- where a walk may stand

-- the test of a bit address against a node passes exactly where a walk may stand on it
pub stands_on? : {kind : WalkKind} (n : Node) (a : ℤ) → Test (StandsOn kind n a) (StandsOn kind n a → ⊥) (stands_on kind n a)
unfolding stands_on
stands_on? {kind} n a =
    let stands = stands_between kind n a in
    decides_as (λ h. stands.1 (record { above = h.0; below = h.1 }), λ h. let i = stands.0 h in (i.above, i.below))
    (decides_and (decides_le (first_bit n) a) (decides_le a (last_open kind n)))

-- ---- arrivals

-- what is computed over at most k more edges past an edge
abbrev beyond : WalkKind → ℕ → Graph → ℤ → ℤ → Edge → List ℤ
beyond kind k g l a e = arrivals kind k g e.to l (a -ℤ bit_offset g e)

-- what is computed at node v with address a: a itself at the leaf, elsewhere what is computed past its edges, and nothing where no walk may stand
module _ (g : Graph) (v l a : ℤ) where
  arriving_out : {kind : WalkKind} {b : ℤ} (onward : List ℤ) → b ∈ cond (stands_on kind (node g v) a) (cond (eq_z v l) (a ∷ []) onward) []
      → StandsOn kind (node g v) a × (((v ≡ l) × (b ≡ a)) ⊎ (b ∈ onward))
  arriving_out {kind} onward m =
      ⊎_elim (λ c. (c.0, ⊎_elim (λ d. inl (d.0, Memᴰ.eq_of_singleton d.1)) (λ d. inr d.1) (cond_out (eq_z v l) (eq_z? v l) c.1)))
      (λ c. absurd (Memᴰ.not-nil c.1))
      (cond_out (stands_on kind (node g v) a) (stands_on? (node g v) a) m)

  arriving_in : {kind : WalkKind} {b : ℤ} {alive : List ℤ} → StandsOn kind (node g v) a → b ∈ alive → b ∈ cond (stands_on kind (node g v) a) alive []
  arriving_in {kind} h m = cond_true [] (stands_on kind (node g v) a) (stands_on? (node g v) a) (λ n. n h) m

  arriving_walk : {kind : WalkKind} {b : ℤ} → StandsOn kind (node g v) a → (v ≡ l) × (b ≡ a) → Walk kind g v a l b
  arriving_walk {kind} {b} h c = subst (λ (w : ℤ). Walk kind g v a w b) c.0 (subst (λ (z : ℤ). Walk kind g v a v z) (sym c.1) (stand h))

  arriving_step : {kind : WalkKind} {b : ℤ} (onward : Edge → List ℤ) → StandsOn kind (node g v) a → ((e : Edge) → b ∈ onward e → Walk kind g e.to (a -ℤ bit_offset g e) l b)
      → b ∈ flat_map onward (leaving g v) → Walk kind g v a l b
  arriving_step onward h walks m =
      let w = flat_map_out onward (leaving g v) m in
      let e = leaving_out g v w.1 in
      step w.0 e.0 e.1 h (walks w.0 w.2)

-- a walk arrives with every address that is computed
pub arrivals-sound : {kind : WalkKind} (k : ℕ) {g : Graph} {v l a b : ℤ} → b ∈ arrivals kind k g v l a → Walk kind g v a l b
unfolding arrivals
arrivals-sound zero {g} {v} {l} {a} m =
    let c = arriving_out g v l a [] m in ⊎_elim (arriving_walk g v l a c.0) (λ n. absurd (Memᴰ.not-nil n)) c.1
arrivals-sound {kind} (suc k) {g} {v} {l} {a} m =
    let c = arriving_out g v l a (flat_map (beyond kind k g l a) (leaving g v)) m in
    ⊎_elim (arriving_walk g v l a c.0) (arriving_step g v l a (beyond kind k g l a) c.0 (λ e n. arrivals-sound k n)) c.1

-- at the leaf the address itself is computed
arrivals_here : {kind : WalkKind} (k : ℕ) (g : Graph) (l a : ℤ) → StandsOn kind (node g l) a → a ∈ arrivals kind k g l l a
unfolding arrivals
arrivals_here zero g l a h = arriving_in g l l a h (cond_true [] (eq_z l l) (eq_z? l l) (λ n. n refl) (Memᴰ.head refl))
arrivals_here {kind} (suc k) g l a h =
    arriving_in g l l a h
    (cond_true (flat_map (beyond kind k g l a) (leaving g l)) (eq_z l l) (eq_z? l l) (λ n. n refl) (Memᴰ.head refl))

-- every address with which a walk over at most k edges arrives at a node that no edge leaves is computed
pub arrivals-within : {kind : WalkKind} {g : Graph} (k : ℕ) {v l a b : ℤ} {p : List Edge} → ((e : Edge) → e ∈ g.edges → e.from ≢ l)
    → Way g v p l → Along kind g v p a b → length p ≤ k → b ∈ arrivals kind k g v l a
unfolding arrivals
arrivals-within {g} k {l} {a} ends stay (halt h) le = arrivals_here k g l a h
arrivals-within zero ends (over e m q w) t le = absurd (omega arith)
arrivals-within {kind} {g} (suc k) {v} {l} {a} ends (over e m q w) (pass d h t) le =
    arriving_in g v l a h
    (cond_false (a ∷ []) (eq_z v l) (eq_z? v l) (λ z. ends e m (q ∙ z))
    (flat_map_in (beyond kind k g l a) (leaving_in g m q) (arrivals-within k ends w t (omega arith))))

-- every address with which a walk arrives is computed
pub arrivals-complete : {kind : WalkKind} {g : Graph} {v l a b : ℤ} → Fit g l → Walk kind g v a l b → b ∈ arrivals kind max_chain g v l a
arrivals-complete f x = let t = walk_route x in arrivals-within max_chain f.ends t.way t.along (walk-short f.short x)

-- ---- ascending lists

-- each number is below all that come after it
pub data Ascending : List ℤ → Type 0 where
  nil : Ascending []
  cons : {x : ℤ} {l : List ℤ} → ((y : ℤ) → y ∈ l → x <ℤ y) → Ascending l → Ascending (x ∷ l)

-- with a number put in its place a list has that number and those it had
pub among_members : (a : ℤ) (l : List ℤ) {y : ℤ} → (y ∈ among a l) ↔ ((y ≡ a) ⊎ (y ∈ l))
unfolding among
among_members a [] = (λ m. inl (Memᴰ.eq_of_singleton m), ⊎_elim (λ q. Memᴰ.head q) (λ m. absurd (Memᴰ.not-nil m)))
among_members a (b ∷ t) {y} = go (eq_z a b) (lt_z a b) (eq_z? a b) (among_members a t)
  where
    go : (same before : Bool) → Test (a ≡ b) (a ≢ b) same → (y ∈ among a t) ↔ ((y ≡ a) ⊎ (y ∈ t))
        → (y ∈ cond same (b ∷ t) (cond before (a ∷ b ∷ t) (b ∷ among a t))) ↔ ((y ≡ a) ⊎ (y ∈ (b ∷ t)))
    go true before (passed e) rec = (inr, ⊎_elim (λ q. Memᴰ.head (q ∙ e)) (λ m. m))
    go false true (failed e) rec = (Memᴰ.cases_cons, ⊎_elim (λ q. Memᴰ.head q) (λ m. Memᴰ.tail m))
    go false false (failed e) rec = (
      λ m. ⊎_elim (λ q. inr (Memᴰ.head q)) (λ k. ⊎_elim inl (λ j. inr (Memᴰ.tail j)) (rec.0 k)) (Memᴰ.cases_cons m),
      ⊎_elim (λ q. Memᴰ.tail (rec.1 (inl q)))
          (λ m. ⊎_elim (λ q. Memᴰ.head q) (λ j. Memᴰ.tail (rec.1 (inr j))) (Memᴰ.cases_cons m)),
    )

below_strictly : {a b : ℤ} → b ≤ℤ a → a ≢ b → b <ℤ a
below_strictly {a} {b} h n = go (le_z a b) (le? a b)
  where
    go : (t : Bool) → Test (a ≤ℤ b) (b <ℤ a) t → b <ℤ a
    go true (passed k) = absurd (n (omega (arith, ints)))
    go false (failed k) = k

-- an ascending list with a number put in its place is ascending
pub among-ordered : (a : ℤ) {l : List ℤ} → Ascending l → Ascending (among a l)
unfolding among
among-ordered a nil = cons (λ y m. absurd (Memᴰ.not-nil m)) nil
among-ordered a (cons {x = b} {l = t} low c) = go (eq_z a b) (lt_z a b) (eq_z? a b) (lt? a b) (among-ordered a c)
  where
    go : (same before : Bool) → Test (a ≡ b) (a ≢ b) same → Test (a <ℤ b) (b ≤ℤ a) before → Ascending (among a t)
        → Ascending (cond same (b ∷ t) (cond before (a ∷ b ∷ t) (b ∷ among a t)))
    go true before (passed e) z rec = cons low c
    go false true (failed e) (passed h) rec =
        cons {x = a} (λ y m. ⊎_elim (λ (q : y ≡ b). omega (arith, ints)) (λ (k : y ∈ t). omega (arith, ints, low y k)) (Memᴰ.cases_cons m)) (cons low c)
    go false false (failed e) (failed h) rec =
        let less = below_strictly h e in
        cons {x = b} (λ y m. ⊎_elim (λ (q : y ≡ a). omega (arith, ints)) (low y) ((among_members a t).0 m)) rec

-- the numbers of a list in ascending order are its numbers, and no others
pub ascending_members : (l : List ℤ) {y : ℤ} → (y ∈ ascending l) ↔ (y ∈ l)
unfolding ascending
ascending_members [] = (λ m. m, λ m. m)
ascending_members (a ∷ t) {y} =
    let rec = ascending_members t {y = y} in
    let put = among_members a (ascending t) {y = y} in (
      λ m. ⊎_elim (λ q. Memᴰ.head q) (λ k. Memᴰ.tail (rec.0 k)) (put.0 m),
      λ m. put.1 (⊎_elim inl (λ k. inr (rec.1 k)) (Memᴰ.cases_cons m)),
    )

-- they are ascending
pub ascending-ordered : (l : List ℤ) → Ascending (ascending l)
unfolding ascending
ascending-ordered [] = nil
ascending-ordered (a ∷ t) = among-ordered a (ascending-ordered t)

-- two numbers are equal where each stands in the list that begins with the other and has only higher ones after it
first-same : {x z : ℤ} {l m : List ℤ} → ((y : ℤ) → y ∈ l → x <ℤ y) → ((y : ℤ) → y ∈ m → z <ℤ y) → x ∈ (z ∷ m) → z ∈ (x ∷ l) → x ≡ z
first-same {x} {z} low high i j =
    ⊎_elim (λ q. q)
    (λ n. ⊎_elim (λ q. sym q) (λ k. let a = high x n in let b = low z k in absurd (omega (arith, ints))) (Memᴰ.cases_cons j))
    (Memᴰ.cases_cons i)

-- what comes after the first number of one list comes after the same first number of another that has all its numbers
rest_in : {x y z : ℤ} {l m : List ℤ} → x ≡ z → ((u : ℤ) → u ∈ l → x <ℤ u) → (y ∈ (x ∷ l) → y ∈ (z ∷ m)) → y ∈ l → y ∈ m
rest_in {x} {y} e low f i =
    let above = low y i in ⊎_elim (λ q. absurd (omega (arith, ints))) (λ j. j) (Memᴰ.cases_cons (f (Memᴰ.tail i)))

-- two ascending lists with the same numbers are equal: their first numbers are, and so are the rests, which have the same numbers
pub ascending_unique : {l m : List ℤ} → Ascending l → Ascending m → ((y : ℤ) → (y ∈ l) ↔ (y ∈ m)) → l ≡ m
ascending_unique nil nil same = refl
ascending_unique nil (cons {x = z} high d) same = absurd (Memᴰ.not-nil ((same z).1 (Memᴰ.head refl)))
ascending_unique (cons {x = x} low c) nil same = absurd (Memᴰ.not-nil ((same x).0 (Memᴰ.head refl)))
ascending_unique (cons {x = x} low c) (cons {x = z} high d) same =
    let first = first-same low high ((same x).0 (Memᴰ.head refl)) ((same z).1 (Memᴰ.head refl)) in
    let rest = ascending_unique c d (λ y. (rest_in first low (same y).0, rest_in (sym first) high (same y).1)) in
    cc

-- ---- the answer

-- the numbers of the walk call are exactly the leaf bits that the address reaches
pub leaf_bits-reached : {kind : WalkKind} {g : Graph} {r l x y : ℤ} → Fit g l → (y ∈ leaf_bits kind g r l x) ↔ Reached kind g r l x y
unfolding leaf_bits
leaf_bits-reached {kind} {g} {r} {l} {x} {y} f = (sound, complete)
  where
    bit : ℤ → ℤ
    bit b = b -ℤ first_bit (node g l)

    found : List ℤ
    found = arrivals kind max_chain g r l x

    sound : y ∈ ascending (map bit found) → Reached kind g r l x y
    sound m =
        let w = map_out bit found ((ascending_members (map bit found)).0 m) in
        record { arrival = w.0; walk = arrivals-sound max_chain w.1; leaf_bit = w.2 }

    complete : Reached kind g r l x y → y ∈ ascending (map bit found)
    complete h = (ascending_members (map bit found)).1 (Memᴰ.cast h.leaf_bit (map_in bit (arrivals-complete f h.walk)))

-- and they are ascending, so each stands there once
pub leaf_bits-ascending : (kind : WalkKind) (g : Graph) (r l x : ℤ) → Ascending (leaf_bits kind g r l x)
unfolding leaf_bits
leaf_bits-ascending kind g r l x = ascending-ordered (map (λ b. b -ℤ first_bit (node g l)) (arrivals kind max_chain g r l x))
