-- What is read of rows of nodes, and what is asked of rows and addresses, so that every sum is one of 64 bits. Assumes nothing.
use Rattle.std.specs.Prelude.{◌≡◌, List, ℕ, ◌+◌, ◌*◌, ◌≤◌, ℤ, pos, ◌≤ℤ◌, ◌<ℤ◌, length}
use Rattle.model.specs.declared.WalkKind.{WalkKind}
use Rattle.model.specs.Limits.{node_width, address_room}
use Rattle.model.specs.Rows.{Node}
use Rattle.model.specs.Graph.{first_bit, last_bit}
use Rattle.model.specs.Refusals.{BadNode}
use Rattle.model.specs.Runs.{Run, last_open}
use Rattle.tables.specs.Tables.{node_at}

-- a bit address below 2^62
pub record SmallAddress (a : ℤ) : Type 0 where
  pub low : pos 0 ≤ℤ a
  pub high : a <ℤ pos address_room

-- low and high are the first and the last bit of the node
pub record ExtentOf (n : Node) (low high : ℤ) : Type 0 where
  pub first : low ≡ first_bit n
  pub last : high ≡ last_bit n

-- low and high are the first and the last bit of the node on which a walk of this kind may stand
pub record OpenExtent (kind : WalkKind) (n : Node) (low high : ℤ) : Type 0 where
  pub first : low ≡ first_bit n
  pub last : high ≡ last_open kind n

-- all bits of a node, whichever walks may stand on it
unfoldable pub bits_of : Node → Run
bits_of n = record { root = first_bit n; low = first_bit n; high = last_bit n }

-- row v of a node table is there, and keeps the limits
pub record GoodRow (ns : List ℤ) (v : ℕ) : Type 0 where
  pub there : node_width * v + node_width ≤ length ns
  pub good : BadNode (node_at ns v) → ⊥
