-- Invariant: some edge enters v exactly where one of the rows from e on does.
use mathlib.Core.Path.{◌≡◌}
use Prim.Native.Nat.{◌*◌}
use lib.ListN.{drop}
use Rattle.integers.specs.Integers.{eq_z}
use Rattle.lists.specs.Lists.{any}
use Rattle.model.specs.Limits.{edge_width}
use Rattle.model.specs.Rows.{Edge, edges_from, edge_rows}
use Rattle.named.proofs.entered.Given as goal

abbrev pub invariant-loop-e : goal.invariant-loop-e
invariant-loop-e l =
    any (λ (d : Edge). eq_z d.to l.v) (edge_rows l.edges) ≡ any (λ (d : Edge). eq_z d.to l.v) (edges_from l.e (drop (edge_width * l.e) l.edges))
