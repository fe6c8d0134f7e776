-- What each pass of a round over an edge table asks and leaves. Edges stand in the buffers by the numbers of their rows. Assumes nothing.
use Rattle.std.specs.Prelude.{◌≡◌, Bool, not, List, [], ◌∷◌, ◌++◌, map, ℕ, zero, suc, ◌+◌, ◌*◌, ◌/◌, ◌≤◌, eqb, ℤ, pos, nat_abs, ◌≤ℤ◌, ◌<ℤ◌, length, get_or, set, take, drop}
use Rattle.std.proofs.lemmas.List.Edits.{sets}
use Rattle.lists.specs.Lists.{◌∈◌, keep}
use Rattle.model.specs.Limits.{edge_width, max_nodes, max_edges}
use Rattle.model.specs.Rows.{Edge, edge_rows}
use Rattle.tables.specs.Tables.{edge_at}
use Rattle.depth.specs.declared.Chained.{Chained}
use Rattle.depth.specs.Order.{edge_order, chains_of}

-- the numbers 0 .. n − 1
unfoldable pub up_to : ℕ → List ℕ
up_to zero = []
up_to (suc n) = up_to n ++ (n ∷ [])

-- v is one of so many nodes
pub record Within (nodes : ℕ) (v : ℤ) : Type 0 where
  pub low : pos 0 ≤ℤ v
  pub high : v <ℤ pos nodes

-- edge rows of a table whose ends are among so many nodes
pub record EndsWithin (es : List ℤ) (nodes : ℕ) (rows : List ℕ) : Type 0 where
  pub there : (e : ℕ) → e ∈ rows → edge_width * e + edge_width ≤ length es
  pub from : (e : ℕ) → e ∈ rows → Within nodes (edge_at es e).from
  pub to : (e : ℕ) → e ∈ rows → Within nodes (edge_at es e).to

-- the marks once every node that one of these edge rows leaves is stamped
unfoldable pub stamped : List ℤ → ℕ → List ℕ → List ℕ → List ℕ
stamped es stamp [] marks = marks
stamped es stamp (e ∷ rows) marks = stamped es stamp rows (set marks (nat_abs (edge_at es e).from) stamp)

-- the edge row enters a stamped node
unfoldable pub enters_stamped : List ℤ → ℕ → List ℕ → ℕ → Bool
enters_stamped es stamp marks e = eqb (get_or marks (nat_abs (edge_at es e).to) 0) stamp

-- after a split of the first rows of `rest` by a test: those that pass stand at its front, the others in `order` from a place on
pub record SplitInto (test : ℕ → Bool) (left : ℕ) (rest order : List ℕ) (at kept : ℕ) (rest' order' : List ℕ) : Type 0 where
  pub count : kept ≡ length (keep test (take left rest))
  pub front : rest' ≡ sets rest 0 (keep test (take left rest))
  pub behind : order' ≡ sets order at (keep (λ e. not (test e)) (take left rest))

-- the buffer with the rows of the edges in order, and past them what it held
unfoldable pub order_of : List ℤ → List ℕ → List ℕ
order_of es buffer = let rows = map (λ e. e.row) (edge_order (edge_rows es)) in rows ++ drop (length rows) buffer

-- an edge table that can be ordered into a buffer with room for so many numbers
pub record Orderable (es : List ℤ) (room : ℕ) : Type 0 where
  pub few : length es ≤ edge_width * max_edges
  pub fits : length es ≤ edge_width * room
  pub ends : (e : Edge) → e ∈ edge_rows es → Within max_nodes e.from × Within max_nodes e.to

-- the buffers with which the rounds begin: all rows at the front of `rest`, no mark stamped
pub record Unpeeled (es : List ℤ) (rest marks : List ℕ) (room : ℕ) : Type 0 where
  pub table : Orderable es room
  pub rows : take (length es / edge_width) rest ≡ up_to (length es / edge_width)
  pub long : length es / edge_width ≤ length rest
  pub nodes : length marks ≡ max_nodes
  pub blank : (v : ℕ) → get_or marks v 0 ≡ 0

-- what ordering the edges gives: what stands in the way of it, and the buffer
pub record OrderedInto (es : List ℤ) (buffer : List ℕ) (found : Chained) (buffer' : List ℕ) : Type 0 where
  pub chains : found ≡ chains_of (edge_rows es)
  pub order : buffer' ≡ order_of es buffer
