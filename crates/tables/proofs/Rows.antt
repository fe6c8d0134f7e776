-- The rows of a flat table are those that the code reads at their places: row by row, by number, and as members.
use mathlib.Core.Path.{◌≡◌, refl, sym, ap, subst, ◌∙◌}
use mathlib.Core.List.Memᴰ
use mathlib.Core.List.{List, [], ◌∷◌}
use Prim.Native.Nat.{ℕ, zero, suc, ◌+◌, ◌*◌, ◌/◌, ◌≤◌, ◌<◌}
use native.Mathlib.Nat.{mul-zero, mul-le-mul_left}
use native.Mathlib.Omega.{arith}
use lib.IntN.{ℤ, pos}
use lib.ListN.{length, get_or, drop, length-drop}
use lib.Seq.{drop-cons}
use Rattle.lists.specs.Lists.{◌∈◌}
use Rattle.model.specs.Limits.{node_width, edge_width, pair_width}
use Rattle.model.specs.Rows.{Node, Edge, Pair, nodes_from, edges_from, pairs_from, node_rows, edge_rows, pair_rows}
use Rattle.model.specs.Graph.{graph_of, node, no_node}
use Rattle.tables.specs.Tables.{node_at, edge_at, pair_at}

-- ---- lists

-- the number at a place, and the rest after it
drop_next : (l : List ℤ) (n m : ℕ) → m ≡ suc n → n < length l → drop n l ≡ get_or l n (pos 0) ∷ drop m l
drop_next l n m e h = drop-cons l n (pos 0) h ∙ ap (λ k. get_or l n (pos 0) ∷ drop k l) (sym e)

module _ {A : Type 0} where
  -- what stands at a place within a list is a member
  pub get_d_in : (l : List A) (i : ℕ) (d : A) → i < length l → get_or l i d ∈ l
  get_d_in [] i d h = absurd (omega arith)
  get_d_in (x ∷ l) zero d h = Memᴰ.head refl
  get_d_in (x ∷ l) (suc i) d h = Memᴰ.tail (get_d_in l i d (omega arith))

  -- a member stands at a place within the list
  pub get_d_out : (d : A) {x : A} {l : List A} → x ∈ l → (i : ℕ) × (i < length l) × (x ≡ get_or l i d)
  get_d_out d (Memᴰ.head e) = (0, omega arith, e)
  get_d_out d (Memᴰ.tail m) = let w = get_d_out d m in (suc w.0, omega (arith, w.1), w.2)

-- ---- rows of any width: rows_from i gives the rows of a list, the first of them row i, and row_at l i is row i of l

module _ {R : Type 0} (rows_from : ℕ → List ℤ → List R) (row_at : List ℤ → ℕ → R) (width : ℕ)
    (rest : (l : List ℤ) (i : ℕ) → width * i + width ≤ length l → rows_from i (drop (width * i) l) ≡ row_at l i ∷ rows_from (suc i) (drop (width * suc i) l))
    (none : (l : List ℤ) (i : ℕ) → length l < width * i + width → rows_from i (drop (width * i) l) ≡ [])
  where
    rows_at : (l : List ℤ) (d : R) (v i : ℕ) → width * (i + v) + width ≤ length l → get_or (rows_from i (drop (width * i) l)) v d ≡ row_at l (i + v)
    rows_at l d zero i h =
        let e : i ≡ i + 0 = omega arith in
        rw (rest l i (omega (arith, ap (λ k. width * k) e))) (ap (row_at l) e)
    rows_at l d (suc v) i h =
        let e : suc i + v ≡ i + suc v = omega arith in
        rw (rest l i (omega (arith, mul-le-mul_left {m = i} {n = i + suc v} width (omega arith))))
        (rows_at l d v (suc i) (omega (arith, ap (λ k. width * k) e)) ∙ ap (row_at l) e)

    -- the rows from row 0 on are all rows
    rows_all : (l : List ℤ) → rows_from 0 l ≡ rows_from 0 (drop (width * 0) l)
    rows_all l = rw (mul-zero width)

    -- row v, at any default
    row-at : (l : List ℤ) (d : R) (v : ℕ) → width * v + width ≤ length l → get_or (rows_from 0 l) v d ≡ row_at l v
    row-at l d v h =
        let e : 0 + v ≡ v = omega arith in
        ap (λ rows. get_or rows v d) (rows_all l) ∙ rows_at l d v 0 (omega (arith, ap (λ k. width * k) e)) ∙ ap (row_at l) e

    module _ (l : List ℤ) (n : ℕ) (low : width * n ≤ length l) (high : length l < width * n + width) where
      rows-count : (k i : ℕ) → i + k ≡ n → length (rows_from i (drop (width * i) l)) ≡ k
      rows-count zero i e = ap length (none l i (omega (arith, ap (λ k. width * k) e)))
      rows-count (suc k) i e =
          rw (rest l i (omega (arith, mul-le-mul_left {m = suc i} {n = n} width (omega arith)))) (ap suc (rows-count k (suc i) (omega arith)))

      -- a table of n rows and less than a row more has n rows
      row_count : length (rows_from 0 l) ≡ n
      row_count = ap length (rows_all l) ∙ rows-count n 0 (omega arith)

      row-there : (v : ℕ) → v < n → width * v + width ≤ length l
      row-there v h = omega (arith, mul-le-mul_left {m = suc v} {n = n} width h)

      -- each of its rows is a member
      row_in : (v : ℕ) → v < n → row_at l v ∈ rows_from 0 l
      row_in v h =
          subst (λ x. x ∈ rows_from 0 l) (row-at l (row_at l v) v (row-there v h)) (get_d_in (rows_from 0 l) v (row_at l v) (omega (arith, row_count)))

      -- each member is one of its rows
      row_out : {x : R} → x ∈ rows_from 0 l → (v : ℕ) × (v < n) × (x ≡ row_at l v)
      row_out {x} m =
          let w = get_d_out x m in
          let h : w.0 < n = omega (arith, w.1, row_count) in
          (w.0, h, w.2 ∙ row-at l x w.0 (row-there w.0 h))

-- ---- node rows

-- the node rows from row i on, where it is there
pub nodes-rest : (ns : List ℤ) (i : ℕ) → node_width * i + node_width ≤ length ns
    → nodes_from i (drop (node_width * i) ns) ≡ node_at ns i ∷ nodes_from (suc i) (drop (node_width * suc i) ns)
unfolding nodes_from
nodes-rest ns i h =
    rw (
      drop_next ns (node_width * i) (node_width * i + 1) (omega arith) (omega arith),
      drop_next ns (node_width * i + 1) (node_width * i + 2) (omega arith) (omega arith),
      drop_next ns (node_width * i + 2) (node_width * i + 3) (omega arith) (omega arith),
      drop_next ns (node_width * i + 3) (node_width * i + 4) (omega arith) (omega arith),
      drop_next ns (node_width * i + 4) (node_width * suc i) (omega arith) (omega arith),
    )

-- fewer than five numbers are no row
nodes-short : (i : ℕ) (l : List ℤ) → length l < node_width → nodes_from i l ≡ []
unfolding nodes_from
nodes-short i [] h = refl
nodes-short i (k ∷ []) h = refl
nodes-short i (k ∷ b ∷ []) h = refl
nodes-short i (k ∷ b ∷ r ∷ []) h = refl
nodes-short i (k ∷ b ∷ r ∷ u ∷ []) h = refl
nodes-short i (k ∷ b ∷ r ∷ u ∷ a ∷ l) h = absurd (omega arith)

-- the node rows from row i on, where it is not there
pub nodes_end : (ns : List ℤ) (i : ℕ) → length ns < node_width * i + node_width → nodes_from i (drop (node_width * i) ns) ≡ []
nodes_end ns i h = nodes-short i (drop (node_width * i) ns) (omega (arith, length-drop (node_width * i) ns))

-- the number of node rows
pub nodes_length : (ns : List ℤ) → length (node_rows ns) ≡ length ns / node_width
nodes_length ns = row_count nodes_from node_at node_width nodes-rest nodes_end ns (length ns / node_width) (omega arith) (omega arith)

-- the number of nodes of the graph
pub graph-nodes_length : (ns es : List ℤ) → length (graph_of ns es).nodes ≡ length ns / node_width
unfolding graph_of
graph-nodes_length ns es = nodes_length ns

-- node row v is the row that stands at its place
pub nodes-at : (ns : List ℤ) (v : ℕ) → node_width * v + node_width ≤ length ns → get_or (node_rows ns) v no_node ≡ node_at ns v
nodes-at ns v h = row-at nodes_from node_at node_width nodes-rest nodes_end ns no_node v h

-- node v of the graph is the row that stands at its place
pub node_at_lem : (ns es : List ℤ) (v : ℕ) → node_width * v + node_width ≤ length ns → node (graph_of ns es) (pos v) ≡ node_at ns v
unfolding node graph_of
node_at_lem ns es v h = nodes-at ns v h

-- each node row is a member
pub node_member : (ns : List ℤ) (v : ℕ) → v < length ns / node_width → node_at ns v ∈ node_rows ns
node_member ns v h = row_in nodes_from node_at node_width nodes-rest nodes_end ns (length ns / node_width) (omega arith) (omega arith) v h

-- each member is the node row at its own place
pub node-own : (ns : List ℤ) {n : Node} → n ∈ node_rows ns → (n.row < length ns / node_width) × (n ≡ node_at ns n.row)
node-own ns {n} m =
    let w = row_out nodes_from node_at node_width nodes-rest nodes_end ns (length ns / node_width) (omega arith) (omega arith) m in
    let e : n.row ≡ w.0 = ap (λ x. x.row) w.2 in
    (omega (arith, w.1), w.2 ∙ ap (node_at ns) (sym e))

-- ---- edge rows

-- the edge rows from row i on, where it is there
pub edges-rest : (es : List ℤ) (i : ℕ) → edge_width * i + edge_width ≤ length es
    → edges_from i (drop (edge_width * i) es) ≡ edge_at es i ∷ edges_from (suc i) (drop (edge_width * suc i) es)
unfolding edges_from
edges-rest es i h =
    rw (
      drop_next es (edge_width * i) (edge_width * i + 1) (omega arith) (omega arith),
      drop_next es (edge_width * i + 1) (edge_width * i + 2) (omega arith) (omega arith),
      drop_next es (edge_width * i + 2) (edge_width * suc i) (omega arith) (omega arith),
    )

-- fewer than three numbers are no row
edges-short : (i : ℕ) (l : List ℤ) → length l < edge_width → edges_from i l ≡ []
unfolding edges_from
edges-short i [] h = refl
edges-short i (f ∷ []) h = refl
edges-short i (f ∷ t ∷ []) h = refl
edges-short i (f ∷ t ∷ o ∷ l) h = absurd (omega arith)

-- the edge rows from row i on, where it is not there
pub edges_end : (es : List ℤ) (i : ℕ) → length es < edge_width * i + edge_width → edges_from i (drop (edge_width * i) es) ≡ []
edges_end es i h = edges-short i (drop (edge_width * i) es) (omega (arith, length-drop (edge_width * i) es))

-- the number of edge rows
pub edges_length : (es : List ℤ) → length (edge_rows es) ≡ length es / edge_width
edges_length es = row_count edges_from edge_at edge_width edges-rest edges_end es (length es / edge_width) (omega arith) (omega arith)

-- edge row e is the row that stands at its place
pub edges_at : (es : List ℤ) (e : ℕ) (d : Edge) → edge_width * e + edge_width ≤ length es → get_or (edge_rows es) e d ≡ edge_at es e
edges_at es e d h = row-at edges_from edge_at edge_width edges-rest edges_end es d e h

-- each edge row is a member
pub edge_member : (es : List ℤ) (e : ℕ) → e < length es / edge_width → edge_at es e ∈ edge_rows es
edge_member es e h = row_in edges_from edge_at edge_width edges-rest edges_end es (length es / edge_width) (omega arith) (omega arith) e h

-- each member is the edge row at its own place
pub edge_own : (es : List ℤ) {e : Edge} → e ∈ edge_rows es → (e.row < length es / edge_width) × (e ≡ edge_at es e.row)
edge_own es {e} m =
    let w = row_out edges_from edge_at edge_width edges-rest edges_end es (length es / edge_width) (omega arith) (omega arith) m in
    let p : e.row ≡ w.0 = ap (λ x. x.row) w.2 in
    (omega (arith, w.1), w.2 ∙ ap (edge_at es) (sym p))

-- ---- pair rows

-- the pair rows from row i on, where it is there
pub pairs-rest : (ps : List ℤ) (i : ℕ) → pair_width * i + pair_width ≤ length ps
    → pairs_from i (drop (pair_width * i) ps) ≡ pair_at ps i ∷ pairs_from (suc i) (drop (pair_width * suc i) ps)
unfolding pairs_from
pairs-rest ps i h =
    rw (
      drop_next ps (pair_width * i) (pair_width * i + 1) (omega arith) (omega arith),
      drop_next ps (pair_width * i + 1) (pair_width * i + 2) (omega arith) (omega arith),
      drop_next ps (pair_width * i + 2) (pair_width * suc i) (omega arith) (omega arith),
    )

-- fewer numbers than a pair row has are no row
pairs-short : (i : ℕ) (l : List ℤ) → length l < pair_width → pairs_from i l ≡ []
unfolding pairs_from
pairs-short i [] h = refl
pairs-short i (s ∷ []) h = refl
pairs-short i (s ∷ m ∷ []) h = refl
pairs-short i (s ∷ m ∷ a ∷ l) h = absurd (omega arith)

-- the pair rows from row i on, where it is not there
pub pairs_end : (ps : List ℤ) (i : ℕ) → length ps < pair_width * i + pair_width → pairs_from i (drop (pair_width * i) ps) ≡ []
pairs_end ps i h = pairs-short i (drop (pair_width * i) ps) (omega (arith, length-drop (pair_width * i) ps))

-- the number of pair rows
pub pairs_length : (ps : List ℤ) → length (pair_rows ps) ≡ length ps / pair_width
pairs_length ps = row_count pairs_from pair_at pair_width pairs-rest pairs_end ps (length ps / pair_width) (omega arith) (omega arith)

-- each pair row is a member
pub pair_member : (ps : List ℤ) (k : ℕ) → k < length ps / pair_width → pair_at ps k ∈ pair_rows ps
pair_member ps k h = row_in pairs_from pair_at pair_width pairs-rest pairs_end ps (length ps / pair_width) (omega arith) (omega arith) k h

-- each member is the pair row at its own place
pub pair_own : (ps : List ℤ) {p : Pair} → p ∈ pair_rows ps → (p.row < length ps / pair_width) × (p ≡ pair_at ps p.row)
pair_own ps {p} m =
    let w = row_out pairs_from pair_at pair_width pairs-rest pairs_end ps (length ps / pair_width) (omega arith) (omega arith) m in
    let e : p.row ≡ w.0 = ap (λ x. x.row) w.2 in
    (omega (arith, w.1), w.2 ∙ ap (pair_at ps) (sym e))
