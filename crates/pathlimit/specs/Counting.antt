-- How many paths lead from a root down the edges of a plan, counted up to one past the limit. Assumes nothing.
use Rattle.std.specs.Prelude.{◌≡◌, List, ℕ, ◌≤◌, ◌<◌, ℤ, pos, length, get_or}
use Rattle.model.specs.Rows.{node_rows}
use Rattle.model.specs.Graph.{graph_of}
use Rattle.model.specs.Paths.{Root}
use Rattle.model.specs.Taken.{TakenTables}
use Rattle.reach.specs.Counting.{path_count, stopped}
use Rattle.entering.specs.Entering.{Covered}
use Rattle.forward.specs.Forward.{planned_of, Planned}

-- what a count of the paths from a root starts from: tables whose graph is taken, a plan of it, a root, and room
pub record Countable (ns es : List ℤ) (plan : List ℕ) (root : ℕ) (counts : List ℕ) : Type 0 where
  pub tables : TakenTables ns es
  pub planned : Planned ns es plan
  pub top : Root (graph_of ns es) (pos root)
  pub room : length (node_rows ns) ≤ length counts

-- the stopped count of the paths from the root stands at each node whose entering edges the plan has
pub record Counted (ns es : List ℤ) (plan : List ℕ) (root : ℕ) (counts : List ℕ) : Type 0 where
  pub each : (v : ℕ) → v < length (node_rows ns) → Covered es (planned_of es plan) (pos v)
      → get_or counts v 0 ≡ stopped (path_count (graph_of ns es) (pos root) (pos v))
