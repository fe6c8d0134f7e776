-- What the rows of checked tables have: a root row pairs roots, a leaf row leaves, and both are few.
use Prim.Native.Nat.{ℕ, ◌/◌, ◌<◌}
use native.Mathlib.Omega.{arith}
use lib.ListN.{length}
use Rattle.model.specs.Limits.{pair_width, max_pairs}
use Rattle.model.specs.Paths.{Root}
use Rattle.model.specs.Compare.{Tables, spec_graph, impl_graph}
use Rattle.tables.specs.Tables.{pair_at}
use Rattle.tables.proofs.Rows.{pair_member}
use Rattle.pathlimit.specs.Inputs.{Inputs}

module _ {t : Tables} (k : Inputs t) (i : ℕ) where
  module _ (h : i < length t.root_pairs / pair_width) where
    -- the nodes of a root row are roots
    pub row-roots : Root (spec_graph t) (pair_at t.root_pairs i).spec × Root (impl_graph t) (pair_at t.root_pairs i).impl
    row-roots = k.roots (pair_at t.root_pairs i) (pair_member t.root_pairs i (omega arith))

    -- root rows are few
    pub root-row-below : i < max_pairs
    root-row-below = omega (arith, k.root_shape.few)

  module _ (h : i < length t.leaf_pairs / pair_width) where
    -- leaf rows are few
    pub leaf-row-below : i < max_pairs
    leaf-row-below = omega (arith, k.leaf_shape.few)
