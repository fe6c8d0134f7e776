-- A loop along the links of a node goes over exactly the edges that leave it and can still reach the leaf, and what these edges give is what all
-- edges that leave the node give: one turn, the start and the end, for whatever rows an edge gives.
use mathlib.Core.Path.{◌≡◌, sym, ap, subst, ◌∙◌}
use mathlib.Core.Bool.{Bool}
use mathlib.Core.List.{List, [], ◌∷◌, ◌++◌, append_assoc, append-nil, flat_map}
use Prim.Native.Nat.{ℕ, suc, ◌+◌, ◌*◌, ◌/◌, ◌≤◌, ◌<◌}
use native.Mathlib.Omega.{arith}
use lib.IntN.{ℤ, pos}
use lib.ListN.{length, get_or, drop, length-append, length-map}
use Rattle.integers.proofs.Linear.{ints}
use Rattle.lists.specs.Lists.{◌∈◌, keep}
use Rattle.model.specs.Rows.{Edge, node_rows, edge_rows}
use Rattle.model.specs.Graph.{graph_of, NodeRow}
use Rattle.model.specs.Runs.{leaving}
use Rattle.tables.specs.Tables.{edge_at}
use Rattle.tables.proofs.Rows.{nodes_length, edges_length, edges_at}
use Rattle.extents.proofs.Rows.{to_row}
use Rattle.model.specs.Limits.{node_width, edge_width}
use Rattle.sorting.specs.Rows.{row_width}
use Rattle.sorting.specs.declared.Row.{Row}
use Rattle.reach.specs.Counting.{path_count, counts_over}
use Rattle.reach.specs.Links.{first_row, matters, heads_of, nexts_of}
use Rattle.reach.proofs.Values.{values_length}
use Rattle.reach.proofs.FirstRow.{first_row-from, first_row-none, first_row-keep}
use Rattle.reach.proofs.Reaching.{leaving-matters, head_at_lem, next-at}
use Rattle.listing.specs.Listing.{LinkedTo, Appended}
use Rattle.listing.proofs.Appending.{append_none, append_append, append_length}

module _ {ns es : List ℤ} {leaf : ℕ} {head next : List ℕ} (k : LinkedTo ns es leaf head next) where
  -- a link for each node
  heads_length : length ns / node_width ≤ length head
  unfolding graph_of heads_of
  heads_length =
      let counts = counts_over (graph_of ns es) (pos leaf) k.counts in
      let count = length (node_rows ns) in
      omega (
        arith,
        ap length k.links.heads,
        length-append (heads_of counts (edge_rows es) count) (drop count k.old_head),
        values_length (λ v. first_row (matters counts (pos v)) 0 (edge_rows es)) count,
        nodes_length ns,
      )

  -- a node row has its link
  pub head_there : {v : ℕ} → NodeRow (graph_of ns es) (pos v) → v < length head
  unfolding graph_of
  head_there row = omega (arith, ints, row.high, heads_length, nodes_length ns)

  -- the node that an edge enters is a node row, as the code has it
  pub entered_row : (e : ℕ) → e < length es / edge_width → {to : ℕ} → pos to ≡ (edge_at es e).to → NodeRow (graph_of ns es) (pos to)
  entered_row e h p = subst (NodeRow (graph_of ns es)) (sym p) (to_row k.tables e (omega arith))

  -- a link for each edge
  pub nexts_length : length es / edge_width ≤ length next
  unfolding graph_of nexts_of
  nexts_length =
      let counts = counts_over (graph_of ns es) (pos leaf) k.counts in
      omega (
        arith,
        ap length k.links.nexts,
        length-append (nexts_of counts (edge_rows es)) (drop (length (edge_rows es)) k.old_next),
        length-map (edge_rows es) (λ e. first_row (matters counts e.from) (suc e.row) (edge_rows es)),
        edges_length es,
      )

  -- the edges that leave v and can still reach the leaf
  abbrev live : ℕ → Edge → Bool
  live v = matters (counts_over (graph_of ns es) (pos leaf) k.counts) (pos v)

-- the state between two turns at edge e, where edge d gives the rows f d: m rows stand in `new`, those of the edges before row `from` behind the
-- n rows that stood in `old`, and the rows of all edges that leave v are these and those of the live edges from there on
pub record Passing (ns es : List ℤ) (head next : List ℕ) (leaf v : ℕ) (f : Edge → List Row) (old : List ℤ) (n : ℕ) (new : List ℤ) (m e : ℕ)
    : Type 0 where
  pub links : LinkedTo ns es leaf head next
  pub done : List Row
  pub from : ℕ
  pub at : e ≡ first_row (live links v) from (edge_rows es)
  pub rest : done ++ flat_map f (keep (live links v) (drop from (edge_rows es))) ≡ flat_map f (leaving (graph_of ns es) (pos v))
  pub written : Appended done old new n m

-- before the first turn, where an edge that can't reach the leaf gives no row
pub passing_start : {ns es : List ℤ} {head next : List ℕ} {leaf v : ℕ} (f : Edge → List Row) (old : List ℤ) (n : ℕ) → LinkedTo ns es leaf head next
    → NodeRow (graph_of ns es) (pos v) → ((e : Edge) → e ∈ edge_rows es → path_count (graph_of ns es) e.to (pos leaf) ≡ 0 → f e ≡ [])
    → Passing ns es head next leaf v f old n old n (get_or head v 0)
unfolding graph_of
passing_start {ns} {es} {leaf} {v} f old n k row none =
    record {
      links = k;
      done = [];
      from = 0;
      at = head_at_lem k.links v (omega (arith, ints, row.high));
      rest = sym (leaving-matters (graph_of ns es) (pos leaf) k.counts k.tables.graph (pos v) f none);
      written = append_none old n;
    }

module _ {ns es : List ℤ} {head next : List ℕ} {leaf v : ℕ} {f : Edge → List Row} {old : List ℤ} {n : ℕ} {new : List ℤ} {m e : ℕ}
    (s : Passing ns es head next leaf v f old n new m e)
  where
    -- behind the last turn the rows of all edges that leave v are written
    pub passing_end : length es / edge_width ≤ e → Appended (flat_map f (leaving (graph_of ns es) (pos v))) old new n m
    unfolding flat_map
    passing_end h =
        let ok = live s.links v in
        let none = first_row-none ok s.from (edge_rows es) (omega (arith, s.at, edges_length es)) in
        let all : s.done ≡ flat_map f (leaving (graph_of ns es) (pos v)) = sym (append-nil s.done) ∙ ap (λ l. s.done ++ flat_map f l) (sym none) ∙ s.rest in
        rw (← all) s.written

    module _ (h : e < length es / edge_width) where
      -- the rows so far, those of the edge, and those of the edges behind it
      turn_rest : (s.done ++ f (edge_at es e)) ++ flat_map f (keep (live s.links v) (drop (suc e) (edge_rows es))) ≡ flat_map f (leaving (graph_of ns es) (pos v))
      unfolding flat_map
      turn_rest =
          let ok = live s.links v in
          let edges = edge_rows es in
          let here = first_row ok s.from edges in
          let first : get_or edges here (edge_at es e) ≡ edge_at es e = ap (λ i. get_or edges i (edge_at es e)) (sym s.at) ∙ edges_at es e (edge_at es e) (omega arith) in
          let behind : keep ok (drop (suc here) edges) ≡ keep ok (drop (suc e) edges) = ap (λ i. keep ok (drop (suc i) edges)) (sym s.at) in
          let kept : keep ok (drop s.from edges) ≡ edge_at es e ∷ keep ok (drop (suc e) edges) =
          first_row-keep ok (edge_at es e) s.from edges (omega (arith, s.at, edges_length es)) ∙ cc (first, behind) in
          append_assoc s.done (f (edge_at es e)) (flat_map f (keep ok (drop (suc e) edges))) ∙ ap (λ l. s.done ++ flat_map f l) (sym kept) ∙ s.rest

      -- they are no more than all
      turn_size : length (s.done ++ f (edge_at es e)) ≤ length (flat_map f (leaving (graph_of ns es) (pos v)))
      turn_size =
          let behind = flat_map f (keep (live s.links v) (drop (suc e) (edge_rows es))) in
          omega (arith, length-append (s.done ++ f (edge_at es e)) behind, ap length turn_rest)

      -- the link of the edge names the next live edge
      link_next : get_or next e 0 ≡ first_row (live s.links v) (suc e) (edge_rows es)
      link_next =
          ap (λ i. get_or next i 0) s.at
          ∙ next-at ns es s.links.links (pos v) s.from (omega (arith, s.at, edges_length es))
          ∙ ap (λ i. first_row (live s.links v) (suc i) (edge_rows es)) (sym s.at)

      -- it leads on
      pub turn_onward : e < get_or next e 0
      turn_onward = omega (arith, link_next, first_row-from (live s.links v) (suc e) (edge_rows es) (omega (arith, edges_length es)))

      module _ (room : row_width * (n + length (flat_map f (leaving (graph_of ns es) (pos v)))) ≤ length old) where
        -- there is room for the rows of the edge
        pub turn_room : row_width * (m + length (f (edge_at es e))) ≤ length new
        turn_room =
            let size = length-append s.done (f (edge_at es e)) in
            let same = append_length (omega (arith, room, turn_size, size)) s.written in
            omega (arith, room, turn_size, size, same, s.written.count)

        -- once they are written, the turn at the edge that the link names can begin
        pub turn_next : {new' : List ℤ} {m' : ℕ} → Appended (f (edge_at es e)) new new' m m' → Passing ns es head next leaf v f old n new' m' (get_or next e 0)
        turn_next a =
            record {
              links = s.links;
              done = s.done ++ f (edge_at es e);
              from = suc e;
              at = link_next;
              rest = turn_rest;
              written = append_append (omega (arith, room, turn_size)) s.written a;
            }
