-- The nodes that an edge of taken tables leaves and enters: both are rows of the node table.
use mathlib.Core.Path.{◌≡◌, subst}
use mathlib.Core.List.{List}
use Prim.Native.Nat.{ℕ, ◌+◌, ◌*◌, ◌/◌, ◌≤◌, ◌<◌}
use native.Mathlib.Omega.{arith}
use lib.IntN.{ℤ, pos}
use lib.Signed.{◌≤ℤ◌, ◌<ℤ◌}
use lib.ListN.{length}
use Rattle.integers.proofs.Linear.{ints}
use Rattle.lists.specs.Lists.{◌∈◌}
use Rattle.model.specs.Limits.{node_width, edge_width}
use Rattle.model.specs.Rows.{edge_rows}
use Rattle.model.specs.Graph.{graph_of, NodeRow}
use Rattle.model.specs.Taken.{TakenTables}
use Rattle.tables.specs.Tables.{edge_at}
use Rattle.tables.proofs.Rows.{nodes_length, edge_member}

-- a row of the graph's node table
pub row_below : (ns es : List ℤ) {v : ℤ} → NodeRow (graph_of ns es) v → v <ℤ pos (length ns / node_width)
unfolding graph_of
row_below ns es {v} r = subst (λ (k : ℕ). v <ℤ pos k) (nodes_length ns) r.high

-- what the code asks of an edge: its numbers stand in the table, and both ends are node rows
pub record Ends (ns es : List ℤ) (e : ℕ) : Type 0 where
  pub room : edge_width * e + edge_width ≤ length es
  pub member : edge_at es e ∈ edge_rows es
  pub from_low : pos 0 ≤ℤ (edge_at es e).from
  pub from_high : (edge_at es e).from <ℤ pos (length ns / node_width)
  pub to_low : pos 0 ≤ℤ (edge_at es e).to
  pub to_high : (edge_at es e).to <ℤ pos (length ns / node_width)

-- each edge of taken tables
pub edge_ends : (ns es : List ℤ) → TakenTables ns es → (e : ℕ) → e < length es / edge_width → Ends ns es e
unfolding graph_of
edge_ends ns es k e h =
    let m = edge_member es e h in
    let ends = k.graph.ends (edge_at es e) m in
    record {
      room = omega arith;
      member = m;
      from_low = ends.0.low;
      from_high = row_below ns es ends.0;
      to_low = ends.1.low;
      to_high = row_below ns es ends.1;
    }

-- the node that it leaves, as an index
pub from-below : {ns es : List ℤ} {e : ℕ} → Ends ns es e → (v : ℕ) → pos v ≡ (edge_at es e).from → v < length ns / node_width
from-below k v q = omega (arith, ints, k.from_high)

-- the node that it enters, as an index
pub to_below : {ns es : List ℤ} {e : ℕ} → Ends ns es e → (v : ℕ) → pos v ≡ (edge_at es e).to → v < length ns / node_width
to_below k v q = omega (arith, ints, k.to_high)
