-- The rows of runs, node by node: at the leaf one row, elsewhere the rows of the edges that leave the node; and there are no more than paths.
use mathlib.Core.Path.{◌≡◌, refl, ap, ◌∙◌, fun_ext}
use mathlib.Core.Bool.{Bool, true, false, not, cond}
use mathlib.Core.List.{List, [], ◌∷◌, ◌++◌, map, map-append, flat_map}
use mathlib.Core.Logic.{◌≢◌}
use mathlib.Core.Option.{none, some}
use Prim.Native.Nat.{ℕ, zero, suc, ◌-◌, ◌≤◌}
use native.Mathlib.Omega.{arith}
use lib.Dec.{T, T_not}
use lib.IntN.{ℤ}
use lib.ListN.{length, length-map}
use Rattle.integers.specs.Integers.{eq_z}
use Rattle.integers.proofs.Tests.{eq_z?, is_true, is_false, of_test, test_of}
use Rattle.lists.specs.Lists.{keep}
use Rattle.lists.proofs.Kept.{keep_length}
use Rattle.model.specs.declared.WalkKind.{WalkKind}
use Rattle.model.specs.Rows.{Edge}
use Rattle.model.specs.Graph.{Graph, node}
use Rattle.model.specs.Runs.{Run, empty, across, along, leaving, paths_within}
use Rattle.model.proofs.Paths.{Fit}
use Rattle.model.proofs.Walks.{runs_from, runs-stay, runs-step}
use Rattle.sorting.specs.declared.Row.{Row}
use Rattle.reach.specs.Counting.{path_count}
use Rattle.reach.proofs.Reaching.{within_none}
use Rattle.runs.specs.Clipping.{living}
use Rattle.runs.proofs.Runs.{living-none, living-some}
use Rattle.listing.specs.Listing.{run_row, run_rows, runs_over}

-- the test of two numbers that are the same
pub eq_z-same : {a b : ℤ} → a ≡ b → eq_z a b ≡ true
eq_z-same {a} {b} e = is_true (eq_z a b) (of_test (eq_z? a b) (λ n. n e))

-- and of two that are not
pub eq_z-other : {a b : ℤ} → a ≢ b → eq_z a b ≡ false
eq_z-other {a} {b} n = is_false (eq_z a b) (λ t. n (test_of (eq_z? a b) t))

-- the images of many lists, one after the other
pub map_flat_map : {A B C : Type 0} (h : B → C) (f : A → List B) (l : List A) → map h (flat_map f l) ≡ flat_map (λ x. map h (f x)) l
unfolding flat_map
map_flat_map h f [] = refl
map_flat_map h f (x ∷ l) = map-append h (f x) (flat_map f l) ∙ ap (λ t. map h (f x) ++ t) (map_flat_map h f l)

module _ (kind : WalkKind) (g : Graph) (v l : ℤ) (r : Run) (t : T (not (empty r))) where
  choose : (b : Bool) (onward : List Run) → map (run_row (node g l)) (cond b (r ∷ []) onward) ≡ cond b (run_row (node g l) r ∷ []) (map (run_row (node g l)) onward)
  choose true onward = refl
  choose false onward = refl

  -- over no edge: the row of the run itself, at the leaf
  rows_stay : run_rows kind zero g v l r ≡ cond (eq_z v l) (run_row (node g l) r ∷ []) []
  unfolding run_rows runs_from
  rows_stay = ap (map (run_row (node g l))) (runs-stay kind g v l r t) ∙ choose (eq_z v l) []

  -- over at most one more edge: that row at the leaf, elsewhere what the edges give
  rows_step : (k : ℕ) → run_rows kind (suc k) g v l r ≡ cond (eq_z v l) (run_row (node g l) r ∷ []) (flat_map (runs_over kind k g l r) (leaving g v))
  unfolding run_rows runs_from
  rows_step k =
      ap (map (run_row (node g l))) (runs-step kind k g v l r t)
      ∙ choose (eq_z v l) (flat_map entered (leaving g v))
      ∙ ap (λ s. cond (eq_z v l) (run_row (node g l) r ∷ []) s)
      (map_flat_map (run_row (node g l)) entered (leaving g v)
      ∙ ap (λ (f : Edge → List Row). flat_map f (leaving g v)) (fun_ext λ e. each (empty (across kind g e r)) (runs_from kind k g e.to l (across kind g e r))))
    where
      entered : Edge → List Run
      entered e = cond (empty (across kind g e r)) [] (runs_from kind k g e.to l (across kind g e r))

      each : (b : Bool) (s : List Run) → map (run_row (node g l)) (cond b [] s) ≡ cond b [] (map (run_row (node g l)) s)
      each true s = refl
      each false s = refl

  -- at the leaf there is one row
  pub rows-leaf : (k : ℕ) → v ≡ l → run_rows kind k g v l r ≡ run_row (node g l) r ∷ []
  rows-leaf zero e = rows_stay ∙ ap (λ b. cond b (run_row (node g l) r ∷ []) []) (eq_z-same e)
  rows-leaf (suc k) e = rows_step k ∙ ap (λ b. cond b (run_row (node g l) r ∷ []) (flat_map (runs_over kind k g l r) (leaving g v))) (eq_z-same e)

  -- elsewhere there is none over no edge
  pub rows_end : (k : ℕ) → v ≢ l → k ≡ 0 → run_rows kind k g v l r ≡ []
  rows_end zero n e = rows_stay ∙ ap (λ b. cond b (run_row (node g l) r ∷ []) []) (eq_z-other n)
  rows_end (suc k) n e = absurd (omega arith)

  -- and over some edge there are those of the edges
  pub rows_onward : (k : ℕ) → v ≢ l → k ≢ 0 → run_rows kind k g v l r ≡ flat_map (runs_over kind (k - 1) g l r) (leaving g v)
  rows_onward zero n e = absurd (e refl)
  rows_onward (suc k) n e =
      let d : suc k - 1 ≡ k = omega arith in
      rw d (rows_step k ∙ ap (λ b. cond b (run_row (node g l) r ∷ []) (flat_map (runs_over kind k g l r) (leaving g v))) (eq_z-other n))

-- an edge that some bit of the run crosses gives the rows from the node entered, with what is left of the run
pub over_left : (kind : WalkKind) (k : ℕ) (g : Graph) (l : ℤ) (r : Run) (e : Edge) {s : Run} {to : ℤ} → some s ≡ living (across kind g e r) → to ≡ e.to
    → run_rows kind k g to l s ≡ runs_over kind k g l r e
over_left kind k g l r e {s} {to} p q =
    let w = living-some (across kind g e r) s p in
    rw (q, w.0, is_false (empty (across kind g e r)) (T_not (empty (across kind g e r)) w.1)) refl

-- one that no bit crosses gives no row
pub over_nothing : (kind : WalkKind) (k : ℕ) (g : Graph) (l : ℤ) (r : Run) (e : Edge) → none ≡ living (across kind g e r) → [] ≡ runs_over kind k g l r e
over_nothing kind k g l r e p = rw (is_true (empty (across kind g e r)) (living-none (across kind g e r) p)) refl

-- an edge that enters a node with no path to the leaf gives no row
pub over_dead : (kind : WalkKind) {g : Graph} {l : ℤ} → Fit g l → (k : ℕ) (r : Run) (e : Edge) → path_count g e.to l ≡ 0 → runs_over kind k g l r e ≡ []
unfolding run_rows keep
over_dead kind {g} {l} f k r e z = rw (within_none k e.to f z) (go (empty (across kind g e r)))
  where
    go : (b : Bool) → cond {A = List Row} b [] [] ≡ []
    go true = refl
    go false = refl

-- there are no more rows than paths
pub run_rows-within-paths : (kind : WalkKind) (k : ℕ) (g : Graph) (v l : ℤ) (r : Run) → length (run_rows kind k g v l r) ≤ length (paths_within k g v l)
unfolding run_rows
run_rows-within-paths kind k g v l r =
    let all = map (λ p. along kind g p r) (paths_within k g v l) in
    omega (
      arith,
      keep_length (λ s. not (empty s)) all,
      length-map (paths_within k g v l) (λ p. along kind g p r),
      length-map (keep (λ s. not (empty s)) all) (run_row (node g l)),
    )
