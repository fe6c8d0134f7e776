-- From a root to a leaf: the edges can be linked, there is room for a row a path, and the rows written give the answer once they are normalised.
use mathlib.Core.Path.{◌≡◌, sym, ap, ◌∙◌, subst}
use mathlib.Core.Bool.{false}
use mathlib.Core.List.{List, [], map, map-map}
use Prim.Native.Nat.{ℕ, ◌+◌, ◌*◌, ◌≤◌}
use native.Mathlib.Omega.{arith}
use lib.IntN.{ℤ, pos, ◌-ℤ◌}
use lib.ListN.{length, drop, replicate, length-append, length-replicate}
use Rattle.model.specs.declared.WalkKind.{WalkKind}
use Rattle.model.specs.Limits.{max_nodes, max_edges, max_chain, max_paths}
use Rattle.model.specs.Rows.{node_rows}
use Rattle.model.specs.Graph.{Graph, graph_of, node, first_bit}
use Rattle.model.specs.Runs.{is_open, whole, paths_within, paths, runs, record_of, normal, list_of}
use Rattle.model.specs.Calls.{arrivals, leaf_bits}
use Rattle.model.proofs.Walks.{runs_from, runs-empty}
use Rattle.tables.proofs.Rows.{nodes_length, edges_length}
use Rattle.extents.proofs.Bounds.{whole-closed}
use Rattle.sorting.specs.Rows.{row_width}
use Rattle.sorting.specs.declared.Row.{Row}
use Rattle.normalisation.specs.Merging.{of_displacement, displaced_of, AllSmallLast}
use Rattle.reach.specs.Counting.{path_count, stopped, counts_of, counts_over}
use Rattle.reach.specs.Links.{Linked, Linkable}
use Rattle.reach.proofs.Values.{values_length}
use Rattle.listing.specs.Listing.{LinkedTo, Ready, Appended, run_row, run_rows, bit_record, arrival_row, arrival_rows}
use Rattle.listing.proofs.Appending.{append_length, append_rows}
use Rattle.listing.proofs.Runs.{run_rows-within-paths}
use Rattle.listing.proofs.Arrivals.{arrival_rows-within-paths}
use Rattle.listing.proofs.Bits.{bits_small, bits-normal}
use Rattle.listing.proofs.Small.{runs-small}

-- rows behind none whose records are those of runs
records-listed : (kind : WalkKind) (ns es : List ℤ) (r l : ℤ) {old new : List ℤ} {n : ℕ} → Appended (run_rows kind max_chain (graph_of ns es) r l (whole kind (node (graph_of ns es) r))) old new 0 n
    → displaced_of new n ≡ map (record_of (node (graph_of ns es) l)) (runs kind (graph_of ns es) r l)
unfolding run_rows runs paths
records-listed kind ns es r l a = ap (map of_displacement) (append_rows a) ∙ map-map of_displacement (run_row (node (graph_of ns es) l)) (runs kind (graph_of ns es) r l)

-- or those of leaf bits
arrivals-listed : (kind : WalkKind) (g : Graph) (r l x : ℤ) {old new : List ℤ} {n : ℕ} → Appended (arrival_rows kind max_chain g r l x) old new 0 n
    → displaced_of new n ≡ map bit_record (map (λ b. b -ℤ first_bit (node g l)) (arrivals kind max_chain g r l x))
unfolding arrival_rows
arrivals-listed kind g r l x a =
    let bit : ℤ → ℤ = λ b. b -ℤ first_bit (node g l) in
    ap (map of_displacement) (append_rows a) ∙ map-map of_displacement (arrival_row (node g l)) (arrivals kind max_chain g r l x) ∙ sym (map-map bit_record bit (arrivals kind max_chain g r l x))

-- the bitmapping list of a root that is closed to the kind is empty: no walk may stand there, so that every run is empty
pub closed_none : (kind : WalkKind) (g : Graph) (r l : ℤ) → false ≡ is_open kind (node g r) → list_of kind g r l ≡ []
unfolding list_of runs paths runs_from normal
closed_none kind g r l e =
    let all = whole kind (node g r) in
    ap (λ s. normal (map (record_of (node g l)) s)) (runs-empty kind max_chain g r l all (whole-closed kind (node g r) e))

module _ {ns es : List ℤ} {root leaf : ℕ} {counts : List ℕ} {work : List ℤ} (p : Ready ns es root leaf counts work) where
  -- the edges can be linked
  pub pair_linkable : Linkable ns es counts (replicate max_nodes 0) (replicate max_edges 0)
  unfolding counts_over counts_of graph_of
  pair_linkable =
      let g = graph_of ns es in
      let n = length (node_rows ns) in
      let all = values_length (λ v. stopped (path_count g (pos v) (pos leaf))) n in
      record {
        tables = p.tables;
        counted = omega (arith, ap length p.counted, length-append (counts_of g (pos leaf) n) (drop n p.old_counts), all);
        node_room = omega (arith, p.tables.nodes.few, nodes_length ns, length-replicate {A = ℕ} max_nodes 0);
        edge_room = omega (arith, p.tables.edges.few, edges_length es, length-replicate {A = ℕ} max_edges 0);
      }

  -- and are then linked for this leaf
  pub pair_linked : {old_head old_next head next : List ℕ} → Linked counts (graph_of ns es) old_head old_next head next → LinkedTo ns es leaf head next
  pair_linked {old_head} {old_next} {head} {next} k =
      record {
        tables = p.tables;
        block = p.block;
        counts = p.old_counts;
        old_head = old_head;
        old_next = old_next;
        links = subst (λ (c : List ℕ). Linked c (graph_of ns es) old_head old_next head next) p.counted k;
      }

  -- rows that are no more than paths
  module _ (rows : List Row) (few : length rows ≤ length (paths_within max_chain (graph_of ns es) (pos root) (pos leaf))) where
    -- there is room for them
    rows-room : row_width * (0 + length rows) ≤ length work
    unfolding paths
    rows-room = omega (arith, few, p.few, p.room)

    -- also once they are written
    rows_written : {new : List ℤ} {n : ℕ} → Appended rows work new 0 n → (row_width * n ≤ length new) × (row_width * n ≤ row_width * max_paths)
    unfolding paths
    rows_written a = (omega (arith, rows-room, a.count, append_length rows-room a), omega (arith, few, p.few, a.count))

  -- there is room for the rows of the runs
  pub runs-room : (kind : WalkKind) → row_width * (0 + length (run_rows kind max_chain (graph_of ns es) (pos root) (pos leaf) (whole kind (node (graph_of ns es) (pos root))))) ≤ length work
  runs-room kind =
      let g = graph_of ns es in
      let all = whole kind (node g (pos root)) in
      rows-room (run_rows kind max_chain g (pos root) (pos leaf) all) (run_rows-within-paths kind max_chain g (pos root) (pos leaf) all)

  -- and for those of the arrivals
  pub arrivals-room : (kind : WalkKind) (x : ℤ) → row_width * (0 + length (arrival_rows kind max_chain (graph_of ns es) (pos root) (pos leaf) x)) ≤ length work
  arrivals-room kind x =
      let g = graph_of ns es in
      rows-room (arrival_rows kind max_chain g (pos root) (pos leaf) x) (arrival_rows-within-paths kind max_chain g (pos root) (pos leaf) x)

  module _ {new : List ℤ} {n : ℕ} where
    module _ (kind : WalkKind) (a : Appended (run_rows kind max_chain (graph_of ns es) (pos root) (pos leaf) (whole kind (node (graph_of ns es) (pos root)))) work new 0 n) where
      -- the rows of the runs can be normalised
      pub runs_normalisable : (row_width * n ≤ length new) × (row_width * n ≤ row_width * max_paths) × AllSmallLast (displaced_of new n)
      runs_normalisable =
          let g = graph_of ns es in
          let all = whole kind (node g (pos root)) in
          let room = rows_written (run_rows kind max_chain g (pos root) (pos leaf) all) (run_rows-within-paths kind max_chain g (pos root) (pos leaf) all) a in
          (room.0, room.1, subst AllSmallLast (sym (records-listed kind ns es (pos root) (pos leaf) a)) (runs-small kind (pos leaf) p.tables.graph p.row))

      -- and give the bitmapping list
      pub runs-normal : normal (displaced_of new n) ≡ list_of kind (graph_of ns es) (pos root) (pos leaf)
      unfolding list_of
      runs-normal = ap normal (records-listed kind ns es (pos root) (pos leaf) a)

    module _ (kind : WalkKind) (x : ℤ) (a : Appended (arrival_rows kind max_chain (graph_of ns es) (pos root) (pos leaf) x) work new 0 n) where
      -- so can those of the arrivals
      pub arrivals_normalisable : (row_width * n ≤ length new) × (row_width * n ≤ row_width * max_paths) × AllSmallLast (displaced_of new n)
      arrivals_normalisable =
          let g = graph_of ns es in
          let room = rows_written (arrival_rows kind max_chain g (pos root) (pos leaf) x) (arrival_rows-within-paths kind max_chain g (pos root) (pos leaf) x) a in
          (room.0, room.1, rw (arrivals-listed kind g (pos root) (pos leaf) x a) (bits_small (map (λ b. b -ℤ first_bit (node g (pos leaf))) (arrivals kind max_chain g (pos root) (pos leaf) x))))

      -- and give the leaf bits
      pub arrivals-normal : normal (displaced_of new n) ≡ map bit_record (leaf_bits kind (graph_of ns es) (pos root) (pos leaf) x)
      unfolding leaf_bits
      arrivals-normal =
          let g = graph_of ns es in
          ap normal (arrivals-listed kind g (pos root) (pos leaf) x a) ∙ bits-normal (map (λ b. b -ℤ first_bit (node g (pos leaf))) (arrivals kind max_chain g (pos root) (pos leaf) x))
