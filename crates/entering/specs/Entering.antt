-- The edges that enter a node. Assumes nothing.
use Rattle.std.specs.Prelude.{◌≡◌, Bool, List, ℤ}
use Rattle.integers.specs.Integers.{eq_z}
use Rattle.lists.specs.Lists.{◌∈◌, keep}
use Rattle.model.specs.Rows.{Edge, edge_rows}
use Rattle.model.specs.Graph.{Graph}

-- the edge enters v
unfoldable pub enters : ℤ → Edge → Bool
enters v e = eq_z e.to v

-- the edges that enter v
unfoldable pub entering : Graph → ℤ → List Edge
entering g v = keep (enters v) g.edges

-- every edge of the table that enters v is among these
abbrev pub Covered : List ℤ → List Edge → ℤ → Type 0
Covered es done v = (f : Edge) → f ∈ edge_rows es → f.to ≡ v → f ∈ done
