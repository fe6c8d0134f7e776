-- What the checks of a named root and leaf ask and leave. Assumes nothing.
use Rattle.std.specs.Prelude as std
use Rattle.std.specs.Prelude.{Ok, Result, ◌≡◌, cond, List, map, ℕ, ◌≤◌, ℤ, length, take}
use Rattle.std.proofs.Math.Option.{Option}
use Rattle.model.specs.Rows.{node_rows, edge_rows}
use Rattle.model.specs.Graph.{Graph, graph_of, node}
use Rattle.model.specs.Refusals.{Refusal}
use Rattle.model.specs.Checks.{is_row}
use Rattle.model.specs.Calls.{answer}
use Rattle.model.specs.Answers.{checked_answer}
use Rattle.model.specs.Taken.{TakenTables}
use Rattle.depth.specs.Order.{edge_order}
use Rattle.reach.specs.Counting.{counts_over}
use Rattle.model.specs.declared.Reason.{Reason}

-- the kind of node v, or none where v is no node row
unfoldable pub kind_of : Graph → ℤ → std.Option ℤ
kind_of g v = cond (is_row g v) (std.Some (node g v).kind) std.None

-- what the checks of a named root and leaf start from: tables whose graph is taken, their edge rows in backward order in front of `order`, and
-- room for a count for each node
pub record Nameable (ns es : List ℤ) (order counts : List ℕ) : Type 0 where
  pub tables : TakenTables ns es
  pub backward : take (length (edge_rows es)) order ≡ map (λ e. e.row) (edge_order (edge_rows es))
  pub room : length (node_rows ns) ≤ length counts

-- what a check of the graph with a leaf leaves: its answer and, where it takes them, the counts of the paths to the leaf
pub record Counted (check : Option Refusal) (ns es : List ℤ) (leaf : ℤ) (old : List ℕ) (given : Result (Unit {0}) Reason) (new : List ℕ) : Type 0 where
  pub answers : checked_answer given ≡ answer check tt
  pub counted : given ≡ Ok tt → new ≡ counts_over (graph_of ns es) leaf old
