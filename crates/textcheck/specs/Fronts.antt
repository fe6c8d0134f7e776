-- Tables at the front of slices. Assumes nothing.
use Rattle.std.specs.Prelude.{◌≤◌, length}
use Rattle.model.specs.Compare.{Tables}
use Rattle.mapfile.specs.declared.Sizes.{Sizes}

-- each slice has as many numbers as its size
pub record WithinSizes (t : Tables) (z : Sizes) : Type 0 where
  pub spec_nodes : z.spec_nodes ≤ length t.spec_nodes
  pub spec_edges : z.spec_edges ≤ length t.spec_edges
  pub impl_nodes : z.impl_nodes ≤ length t.impl_nodes
  pub impl_edges : z.impl_edges ≤ length t.impl_edges
  pub root_pairs : z.root_pairs ≤ length t.root_pairs
  pub leaf_pairs : z.leaf_pairs ≤ length t.leaf_pairs
