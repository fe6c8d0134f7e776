-- The run is that of all bits of the node.
use mathlib.Core.Path.{◌≡◌, refl}
use lib.IntN.{ℤ, pos}
use Rattle.model.specs.Graph.{Graph, graph_of, node}
use Rattle.model.specs.Runs.{Run}
use Rattle.extents.specs.Extents.{bits_of}
use Rattle.references.specs.References.{Reference, own}
use Rattle.references.proofs.own_reference.Goals as goal

-- the reference with such a run
own-run : (g : Graph) (v : ℤ) {r : Run} → r ≡ bits_of (node g v) → ◌≡◌ {A = Reference} (record { owner = v; run = r }) (own g v)
own-run g v e = rw e refl

pub returns : goal.returns
returns c es = let a = c.args in own-run (graph_of a.nodes.now es) (pos a.v) (c.whole.ensures es)
