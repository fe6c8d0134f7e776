-- Invariant: the classes after the edges from e on are those after all edges.
use mathlib.Core.Path.{◌≡◌}
use Prim.Native.Nat.{◌*◌}
use lib.ListN.{drop}
use Rattle.model.specs.Limits.{edge_width}
use Rattle.model.specs.Rows.{edges_from, edge_rows}
use Rattle.paircheck.specs.Classes.{entered_by}
use Rattle.paircheck.proofs.enter_edges.Given as goal

abbrev pub invariant-loop-e : goal.invariant-loop-e
invariant-loop-e l = entered_by (edge_rows l.edges) l.initial.class ≡ entered_by (edges_from l.e (drop (edge_width * l.e) l.edges)) l.class
