-- What the walk of one bit address and the listing of runs write: rows behind rows, along the links of the edges that can still reach the leaf.
-- Assumes nothing.
use Rattle.std.specs.Prelude as std
use Rattle.std.specs.Prelude.{◌≡◌, not, cond, List, [], ◌∷◌, ◌++◌, map, ℕ, ◌+◌, ◌-◌, ◌*◌, ◌≤◌, ℤ, pos, ◌-ℤ◌, length, take, drop}
use mathlib.Core.List.{flat_map}
use Rattle.lists.specs.Lists.{keep}
use Rattle.model.specs.declared.WalkKind.{WalkKind}
use Rattle.model.specs.Limits.{max_paths}
use Rattle.model.specs.Rows.{Node, Edge}
use Rattle.model.specs.Graph.{Graph, graph_of, NodeRow, node, first_bit, bit_offset}
use Rattle.model.specs.Paths.{Leaf}
use Rattle.model.specs.Bitmapping.{Record}
use Rattle.model.specs.Runs.{Run, empty, across, along, leaving, paths_within, paths, record_of}
use Rattle.model.specs.Taken.{Taken, TakenTables}
use Rattle.model.specs.Calls.{arrivals}
use Rattle.sorting.specs.declared.Row.{Row}
use Rattle.sorting.specs.Rows.{row_width, numbers_of}
use Rattle.normalisation.specs.Merging.{by_displacement}
use Rattle.reach.specs.Counting.{path_count, counts_over}
use Rattle.reach.specs.Links.{Linked}

-- ---- links

-- taken tables, a leaf of theirs, and the links of the edges that can still reach it in front of `head` and `next`
pub record LinkedTo (ns es : List ℤ) (leaf : ℕ) (head next : List ℕ) : Type 0 where
  pub tables : TakenTables ns es
  pub block : Leaf (graph_of ns es) (pos leaf)
  -- what the slices held before counting and linking
  pub counts : List ℕ
  pub old_head : List ℕ
  pub old_next : List ℕ
  pub links : Linked (counts_over (graph_of ns es) (pos leaf) counts) (graph_of ns es) old_head old_next head next

-- what listing or walking from a root to a leaf starts from: taken tables, the counts of the paths to the leaf, at most 1,024 paths from the root,
-- and room for a row a path
pub record Ready (ns es : List ℤ) (root leaf : ℕ) (counts : List ℕ) (work : List ℤ) : Type 0 where
  pub tables : TakenTables ns es
  pub row : NodeRow (graph_of ns es) (pos root)
  pub block : Leaf (graph_of ns es) (pos leaf)
  -- what the slice held before counting
  pub old_counts : List ℕ
  pub counted : counts ≡ counts_over (graph_of ns es) (pos leaf) old_counts
  pub few : length (paths (graph_of ns es) (pos root) (pos leaf)) ≤ max_paths
  pub room : row_width * max_paths ≤ length work

-- ---- rows

-- rows written behind the first n rows of a flat list: r rows stand there then, and behind them what stood there before
pub record Appended (rows : List Row) (old new : List ℤ) (n r : ℕ) : Type 0 where
  pub count : r ≡ n + length rows
  pub numbers : new ≡ take (row_width * n) old ++ (numbers_of rows ++ drop (row_width * (n + length rows)) old)

-- the row of a run at the leaf: its record, by displacement
abbrev pub run_row : Node → Run → Row
run_row leaf r = by_displacement (record_of leaf r)

-- the rows of the runs along all paths over at most k edges from v to the leaf l, from run r at v, for walks of this kind, but for the empty ones
unfoldable pub run_rows : WalkKind → ℕ → Graph → ℤ → ℤ → Run → List Row
run_rows kind k g v l r = map (run_row (node g l)) (keep (λ s. not (empty s)) (map (λ p. along kind g p r) (paths_within k g v l)))

-- what an edge gives for walks of this kind: nothing where no bit of the run enters, else the rows from the node entered
abbrev pub runs_over : WalkKind → ℕ → Graph → ℤ → Run → Edge → List Row
runs_over kind k g l r e = cond (empty (across kind g e r)) [] (run_rows kind k g e.to l (across kind g e r))

-- the record of bit 0 alone, with a displacement: a list of such records is a list of distinct numbers, ascending
abbrev pub bit_record : ℤ → Record
bit_record b = record { first = pos 0; last = pos 0; displacement = b }

-- the row of a bit address at the leaf: the record of its leaf bit
abbrev pub arrival_row : Node → ℤ → Row
arrival_row leaf a = by_displacement (bit_record (a -ℤ first_bit leaf))

-- the rows of the bit addresses at the leaf l that a at node v becomes by walks of this kind, over at most k edges
unfoldable pub arrival_rows : WalkKind → ℕ → Graph → ℤ → ℤ → ℤ → List Row
arrival_rows kind k g v l a = map (arrival_row (node g l)) (arrivals kind k g v l a)

-- what an edge gives for walks of this kind: the rows from the node entered
abbrev pub arrivals_over : WalkKind → ℕ → Graph → ℤ → ℤ → Edge → List Row
arrivals_over kind k g l a e = arrival_rows kind k g e.to l (a -ℤ bit_offset g e)

-- ---- walkers

module _ {X : Type 0} (MayStand : WalkKind → Node → X → Type 0) (rows : WalkKind → ℕ → Graph → ℤ → ℤ → X → List Row) (rows_over : WalkKind → ℕ → Graph → ℤ → X → Edge → List Row) where
  -- over an edge a walker ends, and the edge gives no row; or it becomes one that may stand on the node entered, and the edge gives the rows from there
  abbrev pub Crossed : WalkKind → Graph → Edge → X → std.Option X → Type 0
  Crossed kind g e x std.None = (k : ℕ) (l : ℤ) → rows_over kind k g l x e ≡ []
  Crossed kind g e x (std.Some y) = MayStand kind (node g e.to) y × ((k : ℕ) (l : ℤ) → rows kind k g e.to l y ≡ rows_over kind k g l x e)

-- what stands on a node is small; at the leaf it gives its row, elsewhere none over no edge, and over some edge the rows of the edges that leave the node; an edge
-- that enters a node with no path to the leaf gives no row
pub record WalkerLaws {X : Type 0} (IsSmall : X → Type 0) (MayStand : WalkKind → Node → X → Type 0) (row_of : Node → X → Row)
    (rows : WalkKind → ℕ → Graph → ℤ → ℤ → X → List Row) (rows_over : WalkKind → ℕ → Graph → ℤ → X → Edge → List Row)
    : Type 0 where
  pub small : (kind : WalkKind) (n : Node) (x : X) → MayStand kind n x → IsSmall x
  pub at_leaf : (kind : WalkKind) (k : ℕ) (g : Graph) (v l : ℤ) (x : X) → MayStand kind (node g v) x → v ≡ l → rows kind k g v l x ≡ row_of (node g l) x ∷ []
  pub at_end : (kind : WalkKind) (k : ℕ) (g : Graph) (v l : ℤ) (x : X) → MayStand kind (node g v) x → (v ≡ l → ⊥) → k ≡ 0 → rows kind k g v l x ≡ []
  pub onward : (kind : WalkKind) (k : ℕ) (g : Graph) (v l : ℤ) (x : X) → MayStand kind (node g v) x → (v ≡ l → ⊥) → (k ≡ 0 → ⊥)
      → rows kind k g v l x ≡ flat_map (rows_over kind (k - 1) g l x) (leaving g v)
  pub dead : (kind : WalkKind) (k : ℕ) (g : Graph) (l : ℤ) (x : X) (e : Edge) → Taken g → Leaf g l → path_count g e.to l ≡ 0 → rows_over kind k g l x e ≡ []
