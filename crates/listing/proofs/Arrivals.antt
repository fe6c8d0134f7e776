-- The rows of arrivals, node by node: none where no walk may stand, at the leaf one row, elsewhere the rows of the edges that leave the node; and
-- there are no more than paths.
use mathlib.Core.Path.{◌≡◌, refl, ap}
use mathlib.Core.Bool.{Bool, true, false, cond}
use mathlib.Core.List.{List, [], ◌∷◌, map, flat_map}
use mathlib.Core.Logic.{◌≢◌}
use Prim.Native.Nat.{ℕ, zero, suc, ◌-◌, ◌≤◌}
use native.Mathlib.Omega.{arith}
use lib.IntN.{ℤ, ◌-ℤ◌}
use lib.ListN.{length, length-append, length-map}
use Rattle.integers.specs.Integers.{eq_z}
use Rattle.model.specs.Limits.{max_chain}
use Rattle.model.specs.declared.WalkKind.{WalkKind}
use Rattle.model.specs.Rows.{Edge}
use Rattle.model.specs.Graph.{Graph, node, first_bit, bit_offset}
use Rattle.model.specs.Runs.{leaving, paths_within}
use Rattle.model.specs.Calls.{stands_on, arrivals, ascending, leaf_bits}
use Rattle.model.proofs.Paths.{Fit, onward}
use Rattle.reach.specs.Counting.{path_count}
use Rattle.reach.proofs.Reaching.{within_none}
use Rattle.listing.specs.Listing.{arrival_row, arrival_rows, arrivals_over}
use Rattle.listing.proofs.Runs.{eq_z-same, eq_z-other, map_flat_map}

-- ---- no more than paths

flat_map_length : {A B C : Type 0} (f : A → List B) (h : A → List C) → ((x : A) → length (f x) ≤ length (h x)) → (l : List A)
    → length (flat_map f l) ≤ length (flat_map h l)
unfolding flat_map
flat_map_length f h each [] = omega arith
flat_map_length f h each (x ∷ l) =
    omega (arith, length-append (f x) (flat_map f l), length-append (h x) (flat_map h l), each x, flat_map_length f h each l)

-- where no walk may stand there is no arrival; else no more at the leaf, and no more elsewhere
arriving_length : {A B : Type 0} (b : A) (c : B) (xs : List A) (ys : List B) → length xs ≤ length ys → (stands same : Bool)
    → length (cond stands (cond same (b ∷ []) xs) []) ≤ length (cond same (c ∷ []) ys)
arriving_length b c xs ys h false same = omega arith
arriving_length b c xs ys h true true = omega arith
arriving_length b c xs ys h true false = h

-- there are no more arrivals than paths
pub arrivals-within-paths : (kind : WalkKind) (k : ℕ) (g : Graph) (v l a : ℤ) → length (arrivals kind k g v l a) ≤ length (paths_within k g v l)
unfolding arrivals paths_within
arrivals-within-paths kind zero g v l a = arriving_length a [] [] [] (omega arith) (stands_on kind (node g v) a) (eq_z v l)
arrivals-within-paths kind (suc k) g v l a =
    let beyond : Edge → List ℤ = λ e. arrivals kind k g e.to l (a -ℤ bit_offset g e) in
    arriving_length a [] (flat_map beyond (leaving g v)) (flat_map (onward k g l) (leaving g v))
    (flat_map_length beyond (onward k g l)
    (λ e. omega (arith, arrivals-within-paths kind k g e.to l (a -ℤ bit_offset g e), length-map (paths_within k g e.to l) (λ p. e ∷ p)))
    (leaving g v))
    (stands_on kind (node g v) a) (eq_z v l)

-- nor more rows
pub arrival_rows-within-paths : (kind : WalkKind) (k : ℕ) (g : Graph) (v l a : ℤ) → length (arrival_rows kind k g v l a) ≤ length (paths_within k g v l)
unfolding arrival_rows
arrival_rows-within-paths kind k g v l a = omega (arith, arrivals-within-paths kind k g v l a, length-map (arrivals kind k g v l a) (arrival_row (node g l)))

-- ---- node by node

rows_none : {A B : Type 0} (f : A → B) (l : List A) → length l ≤ 0 → map f l ≡ []
rows_none f [] h = refl
rows_none f (x ∷ l) h = absurd (omega arith)

-- from a node with no path to the leaf there is no row
arrivals_dead : (kind : WalkKind) {g : Graph} {l : ℤ} → Fit g l → (k : ℕ) (v a : ℤ) → path_count g v l ≡ 0 → arrival_rows kind k g v l a ≡ []
unfolding arrival_rows
arrivals_dead kind {g} {l} f k v a z =
    rows_none (arrival_row (node g l)) (arrivals kind k g v l a) (omega (arith, arrivals-within-paths kind k g v l a, ap length (within_none k v f z)))

-- an edge that enters a node with no path to the leaf gives no row
pub arrivals-over_dead : (kind : WalkKind) {g : Graph} {l : ℤ} → Fit g l → (k : ℕ) (a : ℤ) (e : Edge) → path_count g e.to l ≡ 0 → arrivals_over kind k g l a e ≡ []
arrivals-over_dead kind {g} f k a e z = arrivals_dead kind f k e.to (a -ℤ bit_offset g e) z

module _ (kind : WalkKind) (g : Graph) (v l a : ℤ) where
  -- where no walk may stand there is no arrival
  arrivals-none : (k : ℕ) → stands_on kind (node g v) a ≡ false → arrivals kind k g v l a ≡ []
  unfolding arrivals
  arrivals-none zero e = rw e refl
  arrivals-none (suc k) e = rw e refl

  -- so no leaf bit is reached
  pub leaf_bits-none : stands_on kind (node g v) a ≡ false → leaf_bits kind g v l a ≡ []
  unfolding leaf_bits ascending
  leaf_bits-none e = ap (λ (s : List ℤ). ascending (map (λ b. b -ℤ first_bit (node g l)) s)) (arrivals-none max_chain e)

  -- where no walk may stand there is none
  pub arrivals-outside : (k : ℕ) → stands_on kind (node g v) a ≡ false → arrival_rows kind k g v l a ≡ []
  unfolding arrival_rows arrivals
  arrivals-outside zero e = rw e refl
  arrivals-outside (suc k) e = rw e refl

  -- at the leaf there is one
  pub arrivals-leaf : (k : ℕ) → stands_on kind (node g v) a ≡ true → v ≡ l → arrival_rows kind k g v l a ≡ arrival_row (node g l) a ∷ []
  unfolding arrival_rows arrivals
  arrivals-leaf zero e h = rw (e, eq_z-same h) refl
  arrivals-leaf (suc k) e h = rw (e, eq_z-same h) refl

  -- elsewhere there is none over no edge
  pub arrivals_end : (k : ℕ) → stands_on kind (node g v) a ≡ true → v ≢ l → k ≡ 0 → arrival_rows kind k g v l a ≡ []
  unfolding arrival_rows arrivals
  arrivals_end zero e n z = rw (e, eq_z-other n) refl
  arrivals_end (suc k) e n z = absurd (omega arith)

  -- and over some edge there are those of the edges
  pub arrivals_onward : (k : ℕ) → stands_on kind (node g v) a ≡ true → v ≢ l → k ≢ 0 → arrival_rows kind k g v l a ≡ flat_map (arrivals_over kind (k - 1) g l a) (leaving g v)
  unfolding arrival_rows arrivals
  arrivals_onward zero e n z = absurd (z refl)
  arrivals_onward (suc k) e n z =
      let d : suc k - 1 ≡ k = omega arith in
      rw (d, e, eq_z-other n) (map_flat_map (arrival_row (node g l)) (λ d. arrivals kind k g d.to l (a -ℤ bit_offset g d)) (leaving g v))
