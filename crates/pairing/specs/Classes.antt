-- The classes of the nodes of a graph, as a pair row asks them: root, leaf, or neither. Assumes nothing.
use Rattle.std.specs.Prelude.{Bool, false, ◌&&◌, List, ℕ, eqb, ltb, ℤ, pos, negsuc, length, get_or}

-- neither root nor leaf
abbrev pub other : ℕ
other = 0

-- a root
abbrev pub root : ℕ
root = 1

-- a leaf
abbrev pub leaf : ℕ
leaf = 2

-- v is a node with this class
unfoldable pub has_class : List ℕ → ℕ → ℤ → Bool
has_class class wanted (pos v) = ltb v (length class) && eqb (get_or class v other) wanted
has_class class wanted (negsuc v) = false
