-- The refusals of tables are small: a row is looked at only once the shape of its table is good.
use mathlib.Core.Path.{◌≡◌, refl}
use mathlib.Core.Bool.{Bool, true, false, not, ◌||◌}
use mathlib.Core.Logic.{◌≢◌}
use mathlib.Core.List.Memᴰ
use mathlib.Core.List.{List, [], ◌∷◌}
use mathlib.Core.Option.{Option, none, some}
use Prim.Native.Nat.{ℕ, suc, ◌+◌, ◌*◌, ◌%◌, ◌≤◌, ◌<◌}
use native.Mathlib.Omega.{arith}
use lib.Dec.{eqb, ltb}
use lib.IntN.{ℤ, pos}
use lib.ListN.{length}
use Rattle.lists.specs.Lists.{◌∈◌, is_nil}
use Rattle.model.specs.Limits.{node_width, edge_width, pair_width, max_nodes, max_edges, max_pairs, last_at, root_stride}
use Rattle.model.specs.Rows.{Pair, node_rows, edge_rows, pair_rows}
use Rattle.model.specs.Graph.{graph_of}
use Rattle.model.specs.Compare.{Tables, spec_graph, impl_graph, root_rows, leaf_rows, groups, visits}
use Rattle.model.specs.Refusals.{Refusal}
use Rattle.model.specs.Checks.{when, ◌then◌, first_refusal, check_shape, check_node, check_edge, cyclic, deep, check_graph, is_root, is_leaf, same_root, same_impl, check_pair, check_visit, check_pairing, check_tables}
use Rattle.model.proofs.Visits.{visits_in}
use Rattle.model.proofs.GroupRows.{group-leaf}
use Rattle.model.proofs.Taken.{shape_taken}
use Rattle.tables.proofs.Rows.{node-own, edge_own, pair_own}
use Rattle.refusals.specs.Small.{last_of_sheet, last_of_text, SmallRefusal, SmallCheck}

-- ---- one check after the other

-- the number of a small refusal
abbrev pub SmallNumber : ℕ → ℕ → Type 0
SmallNumber last n = (1 ≤ n) × (n ≤ last) × (n ≢ 15)

pub when-small : (b : Bool) {n t r : ℕ} → SmallNumber last_of_text n → t < 8 → r < 10000000 → SmallCheck last_of_text (when b n t r)
unfolding when
when-small true h i j = record { least = h.0; number = h.1; no_caller = h.2; table = i; row = j }
when-small false h i j = tt

pub then-small : (a b : Option Refusal) → SmallCheck last_of_text a → (a ≡ none → SmallCheck last_of_text b) → SmallCheck last_of_text (a then b)
unfolding ◌then◌
then-small none b s f = f refl
then-small (some r) b s f = s

first_small : {A : Type 0} (check : A → Option Refusal) (l : List A) → ((x : A) → x ∈ l → SmallCheck last_of_text (check x)) → SmallCheck last_of_text (first_refusal check l)
unfolding first_refusal
first_small check [] f = tt
first_small check (x ∷ l) f =
    then-small (check x) (first_refusal check l) (f x (Memᴰ.head refl)) (λ e. first_small check l (λ y m. f y (Memᴰ.tail m)))

-- a refusal of the text check is small among all
pub small_wide : {r : Refusal} → SmallRefusal last_of_text r → SmallRefusal last_of_sheet r
small_wide s = record { least = s.least; number = omega (arith, s.number); no_caller = s.no_caller; table = s.table; row = s.row }

-- ---- rows

shape_small : (t width most : ℕ) (xs : List ℤ) → t < 8 → SmallCheck last_of_text (check_shape t width most xs)
unfolding check_shape
shape_small t width most xs h = when-small (not (eqb (length xs % width) 0) || ltb (width * most) (length xs)) (omega arith) h (omega arith)

-- ---- one graph

-- the refusals of a graph are small
graph-small : (t : ℕ) (ns es : List ℤ) → t < 7 → SmallCheck last_of_text (check_graph t ns es)
unfolding check_graph check_node check_edge
graph-small t ns es h =
    then-small (check_shape t node_width max_nodes ns) _ (shape_small t node_width max_nodes ns (omega arith)) (λ d.
    then-small (check_shape (suc t) edge_width max_edges es) _ (shape_small (suc t) edge_width max_edges es (omega arith)) (λ e.
    then-small (first_refusal (check_node t) (node_rows ns)) _
    (first_small (check_node t) (node_rows ns) (λ n m.
    when-small _ (omega arith) (omega arith) (omega (arith, (node-own ns m).0, (shape_taken t node_width max_nodes ns d).few))))
    (λ _. then-small (first_refusal (check_edge (suc t) (graph_of ns es)) (edge_rows es)) _
    (first_small (check_edge (suc t) (graph_of ns es)) (edge_rows es) (λ n m.
    let row : n.row < 10000000 = omega (arith, (edge_own es m).0, (shape_taken (suc t) edge_width max_edges es e).few) in
    then-small (when _ 3 (suc t) n.row) _ (when-small _ (omega arith) (omega arith) row) (λ _. when-small _ (omega arith) (omega arith) row)))
    (λ _. then-small (when (cyclic (graph_of ns es)) 5 t 0) _ (when-small (cyclic (graph_of ns es)) (omega arith) (omega arith) (omega arith))
    (λ _. when-small (deep (graph_of ns es)) (omega arith) (omega arith) (omega arith))))))

-- ---- the pairing

-- the refusals of pair rows are small
pairs_small : (t : ℕ) (spec impl : ℤ → Bool) (most : ℤ) (same : Pair → Pair → Bool) (ps : List ℤ) → t < 8 → length ps ≤ pair_width * max_pairs
    → SmallCheck last_of_text (first_refusal (check_pair t spec impl most same (pair_rows ps)) (pair_rows ps))
unfolding check_pair
pairs_small t spec impl most same ps h few =
    first_small (check_pair t spec impl most same (pair_rows ps)) (pair_rows ps) (λ p m.
    let row : p.row < 10000000 = omega (arith, (pair_own ps m).0) in
    then-small (when _ 7 t p.row) _ (when-small _ (omega arith) (omega arith) row) (λ _.
    then-small (when _ 16 t p.row) _ (when-small _ (omega arith) (omega arith) row) (λ _. when-small _ (omega arith) (omega arith) row)))

-- so are those of visits
visits-refused : (t : Tables) → length t.root_pairs ≤ pair_width * max_pairs → length t.leaf_pairs ≤ pair_width * max_pairs
    → SmallCheck last_of_text (first_refusal (check_visit t) (visits (root_rows t) (groups t)))
unfolding check_visit
visits-refused t h j =
    first_small (check_visit t) (visits (root_rows t) (groups t)) (λ v m.
    let w = (visits_in (root_rows t) (groups t)).0 m in
    let root = (pair_own t.root_pairs w.0).0 in
    let leaf = (pair_own t.leaf_pairs (group-leaf t w.1)).0 in
    let place : v.root.row * root_stride + v.leaf.row < 10000000 = omega arith in
    then-small (when _ 10 1 _) _ (when-small _ (omega arith) (omega arith) place) (λ _. when-small _ (omega arith) (omega arith) place))

pairing_small : (t : Tables) → SmallCheck last_of_text (check_pairing t)
unfolding check_pairing
pairing_small t =
    then-small (check_shape 4 pair_width max_pairs t.root_pairs) _ (shape_small 4 pair_width max_pairs t.root_pairs (omega arith)) (λ d.
    then-small (check_shape 5 pair_width max_pairs t.leaf_pairs) _ (shape_small 5 pair_width max_pairs t.leaf_pairs (omega arith)) (λ e.
    let roots = (shape_taken 4 pair_width max_pairs t.root_pairs d).few in
    let leaves = (shape_taken 5 pair_width max_pairs t.leaf_pairs e).few in
    then-small (when (is_nil (root_rows t)) 9 4 0) _ (when-small (is_nil (root_rows t)) (omega arith) (omega arith) (omega arith)) (λ _.
    then-small (when (is_nil (leaf_rows t)) 9 5 0) _ (when-small (is_nil (leaf_rows t)) (omega arith) (omega arith) (omega arith)) (λ _.
    then-small (first_refusal (check_pair 4 (is_root (spec_graph t)) (is_root (impl_graph t)) (pos 0) same_root (root_rows t)) (root_rows t)) _
    (pairs_small 4 (is_root (spec_graph t)) (is_root (impl_graph t)) (pos 0) same_root t.root_pairs (omega arith) roots) (λ _.
    then-small (first_refusal (check_pair 5 (is_leaf (spec_graph t)) (is_leaf (impl_graph t)) last_at same_impl (leaf_rows t)) (leaf_rows t)) _
    (pairs_small 5 (is_leaf (spec_graph t)) (is_leaf (impl_graph t)) last_at same_impl t.leaf_pairs (omega arith) leaves) (λ _.
    visits-refused t roots leaves))))))

-- ---- all six tables

-- the refusals of tables are small
pub tables-small : (t : Tables) → SmallCheck last_of_text (check_tables t)
unfolding check_tables
tables-small t =
    then-small (check_graph 0 t.spec_nodes t.spec_edges) _ (graph-small 0 t.spec_nodes t.spec_edges (omega arith)) (λ _.
    then-small (check_graph 2 t.impl_nodes t.impl_edges) _ (graph-small 2 t.impl_nodes t.impl_edges (omega arith)) (λ _. pairing_small t))
