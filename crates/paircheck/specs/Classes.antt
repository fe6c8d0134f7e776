-- The class of a node, and how one pass over the nodes and one over the edges find it. Assumes nothing.
use Rattle.std.specs.Prelude.{cond, List, [], ◌∷◌, ◌++◌, map, ℕ, ◌+◌, ◌*◌, ◌≤◌, eqb, ℤ, pos, negsuc, ◌≤ℤ◌, ◌<ℤ◌, length, get_or, set, drop}
use Rattle.integers.specs.Integers.{eq_z}
use Rattle.model.specs.Limits.{edge_width}
use Rattle.model.specs.Rows.{Edge, node_rows}
use Rattle.model.specs.Graph.{Graph, block}
use Rattle.model.specs.Taken.{TakenTables}
use Rattle.model.specs.Checks.{is_root, is_leaf}
use Rattle.tables.specs.Tables.{edge_at}
use Rattle.pairing.specs.Classes.{other, root, leaf}

-- the class of node v
unfoldable pub class_of : Graph → ℤ → ℕ
class_of g v = cond (is_root g v) root (cond (is_leaf g v) leaf other)

-- the classes of all nodes
unfoldable pub classes_of : Graph → List ℕ
classes_of g = map (λ n. class_of g (pos n.row)) g.nodes

-- a buffer that held `old`, with the classes of all nodes in front
unfoldable pub classes_over : Graph → List ℕ → List ℕ
classes_over g old = classes_of g ++ drop (length g.nodes) old

-- what classification starts from: tables whose graph is taken, and room for a class for each node
pub record Classifiable (ns es : List ℤ) (class : List ℕ) : Type 0 where
  pub tables : TakenTables ns es
  pub room : length (node_rows ns) ≤ length class

-- ---- the pass over the nodes

-- the class of a node of this kind that no edge enters
unfoldable pub kind_class : ℤ → ℕ
kind_class kind = cond (eq_z kind block) leaf root

-- a buffer that held `old`, with the classes by kind in front
unfoldable pub kinds_over : List ℤ → List ℕ → List ℕ
kinds_over ns old = map (λ n. kind_class n.kind) (node_rows ns) ++ drop (length (node_rows ns)) old

-- ---- the pass over the edges

-- the class of a node that an edge enters, which had this class
unfoldable pub entered_class : ℕ → ℕ
entered_class class = cond (eqb class root) other class

-- the classes after an edge that enters v
unfoldable pub entered_at : List ℕ → ℤ → List ℕ
entered_at class (pos v) = set class v (entered_class (get_or class v other))
entered_at class (negsuc v) = class

-- the classes after the edges of a list
unfoldable pub entered_by : List Edge → List ℕ → List ℕ
entered_by [] class = class
entered_by (e ∷ es) class = entered_by es (entered_at class e.to)

-- every edge enters a node that has a class
abbrev pub EntersWithin : List ℤ → List ℕ → Type 0
EntersWithin es class = (e : ℕ) → edge_width * e + edge_width ≤ length es → (pos 0 ≤ℤ (edge_at es e).to) × ((edge_at es e).to <ℤ pos (length class))
