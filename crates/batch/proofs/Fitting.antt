-- The records of a bitmapping list of a taken graph have leaf bits that are numbers of 64 bits.
use Prim.Native.Nat.{◌^◌}
use native.Mathlib.Omega.{arith}
use lib.IntN.{ℤ, pos, ◌-ℤ◌}
use lib.Signed.{◌≤ℤ◌}
use Rattle.integers.proofs.Linear.{ints, diff, neg}
use Rattle.lists.specs.Lists.{◌∈◌}
use Rattle.model.specs.declared.WalkKind.{WalkKind}
use Rattle.model.specs.Limits.{last_address}
use Rattle.model.specs.Graph.{Graph, NodeRow, node, first_bit}
use Rattle.model.specs.Walk.{Reached}
use Rattle.model.specs.Paths.{Leaf}
use Rattle.model.specs.Bitmapping.{Record}
use Rattle.model.specs.Runs.{list_of}
use Rattle.model.specs.Taken.{Taken}
use Rattle.model.proofs.Records.{has_at}
use Rattle.model.proofs.Taken.{taken-fit, taken-address}
use Rattle.model.proofs.Walks.{walk_end, reached-address}
use Rattle.model.proofs.ListLaw.{list_of_reached}
use Rattle.tables.proofs.Limits.{first-address}
use Rattle.batchrows.specs.LeafBits.{LeafBitsFit}

module _ (kind : WalkKind) {g : Graph} {r l : ℤ} (k : Taken g) (root : NodeRow g r) (leaf : Leaf g l) where
  -- a root bit and a leaf bit that it reaches are bit addresses
  reached-small : {x y : ℤ} → Reached kind g r l x y → (pos 0 ≤ℤ x) × (x ≤ℤ last_address) × (pos 0 ≤ℤ y) × (y ≤ℤ last_address)
  reached-small {x} {y} h =
      let at = taken-address k root (reached-address h) in
      let s = walk_end h.walk in
      let end = taken-address k leaf.row s in
      let first = first-address (k.good l leaf.row) in
      let apart = diff h.arrival (first_bit (node g l)) in
      (at.0, at.1, omega (arith, ints, h.leaf_bit, apart, s.above), omega (arith, ints, h.leaf_bit, apart, end.1, first.0))

  -- so a root bit less the displacement of a record that has it is a number of 64 bits
  pub list-fit : (s : Record) → s ∈ list_of kind g r l → LeafBitsFit s
  list-fit s m x above below =
      let h = reached-small ((list_of_reached {kind = kind} {r = r} (taken-fit k leaf)).sound s m x (x -ℤ s.displacement) (has_at s x above below)) in
      let apart = diff x s.displacement in
      record {
        low = h.0;
        high = omega (arith, ints, h.1);
        offset_low = omega (arith, ints, apart, h.0, h.3, neg (pos (2 ^ 62)));
        offset_high = omega (arith, ints, apart, h.1, h.2);
      }
