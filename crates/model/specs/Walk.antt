-- The walk of one bit address, edge by edge, and the reached set, for each kind of walk. No runs and no lists. Assumes nothing.
use Rattle.std.specs.Prelude.{◌≡◌, ◌≢◌, ℤ, ◌-ℤ◌, ◌≤ℤ◌}
use Rattle.lists.specs.Lists.{◌∈◌}
use Rattle.model.specs.declared.WalkKind.{WalkKind}
use Rattle.model.specs.declared.WalkKind.TheVariants.{Reading, Writing}
use Rattle.model.specs.Rows.{Node, Edge}
use Rattle.model.specs.Graph.{Graph, node, read_only, write_only, first_bit, last_bit, bit_offset}

-- a node with this access is open to walks of this kind, else closed to them: a reading walk may not stand on one that is write only, a writing walk not on one that is read only
-- (document 02, item 7; 000, 5.3.2 no. 5)
abbrev pub Open : WalkKind → ℤ → Type 0
Open Reading access = access ≢ write_only
Open Writing access = access ≢ read_only

-- a walk may stand on the node with bit address a: the node is open to it, and a lies between the first and the last bit, both included; else it is clipped there
-- (000, 2.15 and 2.16)
pub record StandsOn (kind : WalkKind) (n : Node) (a : ℤ) : Type 0 where
  pub access : Open kind n.access
  pub above : first_bit n ≤ℤ a
  pub below : a ≤ℤ last_bit n

-- Walk kind g v a w b: by a walk of this kind bit address a at node v becomes b at node w. A walk goes over an edge of the node that it stands on, and a becomes
-- a − bit offset (000, 2.3 to 2.5, from root to leaf)
pub data Walk (kind : WalkKind) (g : Graph) : ℤ → ℤ → ℤ → ℤ → Type 0 where
  stand : {v a : ℤ} → StandsOn kind (node g v) a → Walk kind g v a v a
  step : {v a w b : ℤ} (e : Edge) → e ∈ g.edges → e.from ≡ v → StandsOn kind (node g v) a → Walk kind g e.to (a -ℤ bit_offset g e) w b → Walk kind g v a w b

-- Reached kind g r l x y: some walk of this kind joins root bit x to leaf bit y. Root bit = a at the root, as it is; leaf bit = a at the leaf − first bit
-- of the leaf (000, 2.25 and 2.26). The reached set of r and l holds all such (x, y)
pub record Reached (kind : WalkKind) (g : Graph) (r l x y : ℤ) : Type 0 where
  pub arrival : ℤ
  pub walk : Walk kind g r x l arrival
  pub leaf_bit : y ≡ arrival -ℤ first_bit (node g l)
