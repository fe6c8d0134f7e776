-- The rows of flat tables, as the code reads them, and their checks. Assumes nothing.
use Rattle.std.specs.Prelude.{◌≡◌, List, ℕ, suc, ◌+◌, ◌*◌, ◌<◌, ℤ, pos, get_or, Result, Ok, Err}
use Rattle.std.proofs.Math.Option.{Option}
use Rattle.model.specs.Limits.{node_width, edge_width, pair_width, max_nodes, max_edges}
use Rattle.model.specs.Rows.{Node, Edge, Pair, node_rows, edge_rows}
use Rattle.model.specs.Graph.{graph_of}
use Rattle.model.specs.Refusals.{Refusal}
use Rattle.model.specs.Checks.{◌then◌, first_refusal, check_shape, check_node, check_edge}
use Rattle.model.specs.declared.Reason.{Reason}
use Rattle.tables.specs.declared.NodeRow.{NodeRow}
use Rattle.tables.specs.declared.EdgeRow.{EdgeRow}

-- row v of a node table
abbrev pub node_at : List ℤ → ℕ → Node
node_at ns v =
    record { row = v; kind = get_or ns (node_width * v) (pos 0); base = get_or ns (node_width * v + 1) (pos 0); range = get_or ns (node_width * v + 2) (pos 0); unit = get_or ns (node_width * v + 3) (pos 0); access = get_or ns (node_width * v + 4) (pos 0) }

-- row e of an edge table
abbrev pub edge_at : List ℤ → ℕ → Edge
edge_at es e =
    record { row = e; from = get_or es (edge_width * e) (pos 0); to = get_or es (edge_width * e + 1) (pos 0); offset = get_or es (edge_width * e + 2) (pos 0) }

-- row k of a pair table
abbrev pub pair_at : List ℤ → ℕ → Pair
pair_at ps k =
    record { row = k; spec = get_or ps (pair_width * k) (pos 0); impl = get_or ps (pair_width * k + 1) (pos 0); at = get_or ps (pair_width * k + 2) (pos 0) }

-- what was read of a node row, as row v
abbrev pub node_of : ℕ → NodeRow → Node
node_of v n = record { row = v; kind = n.kind; base = n.base.0; range = n.range.0; unit = n.unit; access = n.access }

-- what was read of an edge row, as row e
abbrev pub edge_of : ℕ → EdgeRow → Edge
edge_of e r = record { row = e; from = r.from; to = r.to; offset = r.offset.0 }

-- the answer of so many checks one after the other, each of which may give such answers: where it takes, so does each, and where it refuses, so does the first that does
-- not take
pub record FirstRefused (gives : ℕ → Result (Unit {0}) Reason → Type 0) (count : ℕ) (given : Result (Unit {0}) Reason) : Type 0 where
  pub taken : given ≡ Ok tt → (v : ℕ) → v < count → gives v (Ok tt)
  pub refused : (r : Reason) → given ≡ Err r → (v : ℕ) × (v < count) × ((w : ℕ) → w < v → gives w (Ok tt)) × gives v (Err r)

-- refusals 1 to 4 of a graph in their order. Its node table is t and its edge table t + 1
unfoldable pub check_rows : ℕ → List ℤ → List ℤ → Option Refusal
check_rows t ns es =
    check_shape t node_width max_nodes ns
    then check_shape (suc t) edge_width max_edges es
    then first_refusal (check_node t) (node_rows ns)
    then first_refusal (check_edge (suc t) (graph_of ns es)) (edge_rows es)
