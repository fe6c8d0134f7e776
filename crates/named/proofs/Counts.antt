-- The counts of the paths to a named leaf: what they say of the named root.
use mathlib.Core.Path.{◌≡◌, ap, ◌∙◌}
use mathlib.Core.List.{List}
use Prim.Native.Nat.{ℕ, ◌<◌}
use native.Mathlib.Omega.{arith}
use lib.IntN.{ℤ, pos}
use lib.ListN.{length, get_or}
use Rattle.integers.proofs.Linear.{ints}
use Rattle.model.specs.Rows.{node_rows}
use Rattle.model.specs.Graph.{graph_of, NodeRow}
use Rattle.model.specs.Runs.{paths}
use Rattle.tables.proofs.Rows.{graph-nodes_length, nodes_length}
use Rattle.reach.specs.Counting.{path_count, stopped, counts_over}
use Rattle.reach.proofs.Reaching.{count_at_lem}

module _ (ns es : List ℤ) {r : ℤ} (root : ℕ) (same : pos root ≡ r) (there : NodeRow (graph_of ns es) r) where
  -- the root is an index of the nodes
  pub root_below : root < length (node_rows ns)
  root_below = omega (arith, ints, there.high, graph-nodes_length ns es, nodes_length ns)

  -- the count of the root is the number of paths, stopped
  pub root-count : (l : ℤ) (old : List ℕ) {counts : List ℕ} → counts ≡ counts_over (graph_of ns es) l old
      → get_or counts root 0 ≡ stopped (length (paths (graph_of ns es) r l))
  unfolding path_count
  root-count l old e =
      let g = graph_of ns es in
      ap (λ c. get_or c root 0) e
      ∙ count_at_lem g l old root (omega (arith, root_below, graph-nodes_length ns es, nodes_length ns))
      ∙ ap (λ v. stopped (path_count g v l)) same
