-- What a sweep from a root leaves, edge by edge, and the rows of a leaf. Assumes nothing.
use Rattle.std.specs.Prelude.{◌≡◌, true, false, List, map, ◌↔◌, ℕ, ◌+◌, ◌-◌, ◌*◌, ◌≤◌, ◌<◌, ℤ, pos, ◌+ℤ◌, ◌≤ℤ◌, length, get_or, take}
use Rattle.lists.specs.Lists.{◌∈◌}
use Rattle.model.specs.declared.WalkKind.{WalkKind}
use Rattle.model.specs.Limits.{max_chain, max_paths}
use Rattle.model.specs.Rows.{Edge, node_rows}
use Rattle.model.specs.Graph.{Graph, graph_of, node, first_bit, last_bit, bit_offset}
use Rattle.model.specs.Walk.{Open, StandsOn, Walk, Reached}
use Rattle.model.specs.Paths.{Root, Leaf, Way}
use Rattle.model.specs.Bitmapping.{Record, Has}
use Rattle.model.specs.Runs.{normal}
use Rattle.model.specs.Taken.{TakenTables}
use Rattle.reach.specs.Counting.{path_count}
use Rattle.sorting.specs.declared.Row.{Row}
use Rattle.sorting.specs.Rows.{row_width, Ascending}
use Rattle.normalisation.specs.Merging.{AllSmallLast, by_displacement, of_displacement, sorted_by_displacement}
use Rattle.listing.specs.Listing.{Appended}
use Rattle.entering.specs.Entering.{Covered}
use Rattle.forward.specs.Forward.{planned_count, planned_of, Planned}
use Rattle.references.specs.References.{Reference, own, Brings, InOwner, records_at}
use Rattle.arrivals.specs.declared.ListRows.{ListRows}
use Rattle.arrivals.specs.State.{state_room, free_at, arena_row, arena_rows, is_met, reference_at, is_listed, list_row, count_of, free_row, root_in, kind_in, mark_number, Agree}

-- some record of the list has x with y
abbrev pub HasSome : List Record → ℤ → ℤ → Type 0
HasSome l x y = (s : Record) × (s ∈ l) × Has s x y

-- the first i edges of a plan
abbrev pub done_of : List ℤ → List ℕ → ℕ → List Edge
done_of es plan i = take i (planned_of es plan)

-- by a walk of this kind root bit x has come to v, with bit address b, over one of these edges
pub record Came (kind : WalkKind) (g : Graph) (r : ℤ) (done : List Edge) (v x b : ℤ) : Type 0 where
  pub stands : StandsOn kind (node g v) b
  pub over : Edge
  pub among : over ∈ done
  pub enters : over.to ≡ v
  pub walk : Walk kind g r x over.from (b +ℤ bit_offset g over)

-- the list stored for v lies in the used part of the arena, has exactly what arrives at v, no empty record, and no more records than paths lead to v, and is
-- sorted by displacement
pub record Listed (kind : WalkKind) (g : Graph) (r : ℤ) (s : List ℤ) (v : ℕ) : Type 0 where
  pub counted : pos (count_of s v) ≡ mark_number s v 5
  pub behind : arena_row ≤ list_row s v
  pub within : list_row s v + count_of s v ≤ free_row s
  pub exact : (x b : ℤ) → HasSome (records_at s (list_row s v) (count_of s v)) x b ↔ Walk kind g r x (pos v) b
  pub full : (q : Record) → q ∈ records_at s (list_row s v) (count_of s v) → q.first ≤ℤ q.last
  pub few : count_of s v ≤ path_count g r (pos v)
  pub ascending : Ascending (map by_displacement (records_at s (list_row s v) (count_of s v)))

-- the mark of v once these edges are passed: where nothing is marked nothing has come; else v is open to the walks, the owner is marked and leads to v, the
-- reference brings exactly what has come, or is all that arrives at v where v is its own owner, its bit addresses are some of v's, and a list stored for v is the
-- list of what arrives
pub record RightMark (kind : WalkKind) (g : Graph) (r : ℤ) (done : List Edge) (s : List ℤ) (v : ℕ) : Type 0 where
  pub unmet : is_met s v ≡ false → (x b : ℤ) → Came kind g r done (pos v) x b → ⊥
  pub access : is_met s v ≡ true → Open kind (node g (pos v)).access
  pub in_owner : is_met s v ≡ true → InOwner g (reference_at s v)
  pub inside : is_met s v ≡ true → (first_bit (node g (pos v)) ≤ℤ (reference_at s v).run.low) × ((reference_at s v).run.high ≤ℤ last_bit (node g (pos v)))
  pub owner : is_met s v ≡ true → (k : ℕ) → pos k ≡ (reference_at s v).owner → is_met s k ≡ true
  pub way : is_met s v ≡ true → (p : List Edge) × Way g (reference_at s v).owner p (pos v)
  pub itself : is_met s v ≡ true → (reference_at s v).owner ≡ pos v → reference_at s v ≡ own g (pos v)
  pub other : is_met s v ≡ true → ((reference_at s v).owner ≡ pos v → ⊥) → (x b : ℤ) → Came kind g r done (pos v) x b ↔ Brings kind g r (reference_at s v) x b
  pub listed : is_met s v ≡ true → is_listed s v ≡ true → Listed kind g r s v

-- the root is open to the walks
abbrev pub OpenRoot : List ℤ → List ℤ → List ℤ → Type 0
OpenRoot ns es s = Open (kind_in s) (node (graph_of ns es) (root_in s)).access

-- taken tables and their plan; and the state once the first i edges of the plan are passed: the root, where it is open to the walks, is marked, is its own owner and
-- has a list, no more than 1,024 paths lead from it to a node that the plan's edges enter, and every node has its mark
pub record Sweeping (ns es : List ℤ) (plan : List ℕ) (i : ℕ) (s : List ℤ) : Type 0 where
  pub tables : TakenTables ns es
  pub planned : Planned ns es plan
  pub room : length s ≡ state_room
  pub free_number : pos (free_row s) ≡ get_or s free_at (pos 0)
  pub free_low : arena_row ≤ free_row s
  pub free_high : free_row s ≤ arena_row + arena_rows
  pub root : Root (graph_of ns es) (root_in s)
  pub root_met : OpenRoot ns es s → (r : ℕ) → pos r ≡ root_in s → is_met s r ≡ true
  pub root_own : OpenRoot ns es s → (r : ℕ) → pos r ≡ root_in s → (reference_at s r).owner ≡ pos r
  pub root_listed : OpenRoot ns es s → (r : ℕ) → pos r ≡ root_in s → is_listed s r ≡ true
  pub few : (e : Edge) → e ∈ planned_of es plan → path_count (graph_of ns es) (root_in s) e.to ≤ max_paths
  pub marks : (v : ℕ) → v < length (node_rows ns) → RightMark (kind_in s) (graph_of ns es) (root_in s) (done_of es plan i) s v

-- ---- gathering the rows of a reference

-- what gathering starts from: some edges of the plan passed, among them all edges that enter the owner, which is marked; no way from the root to the owner
-- longer than `left`; and behind the used part of the arena, from row n on, room for a row a path
pub record Gatherable (ns es : List ℤ) (plan : List ℕ) (f : Reference) (left : ℕ) (s : List ℤ) (n : ℕ) : Type 0 where
  pub passed : ℕ
  pub sweeping : Sweeping ns es plan passed s
  pub in_owner : InOwner (graph_of ns es) f
  pub met : (k : ℕ) → pos k ≡ f.owner → is_met s k ≡ true
  pub covered : Covered es (done_of es plan passed) f.owner
  pub deep : (p : List Edge) → Way (graph_of ns es) (root_in s) p f.owner → length p ≤ left
  pub behind : free_row s ≤ n
  pub room : row_width * (n + path_count (graph_of ns es) (root_in s) f.owner) ≤ length s

-- rows behind the first n: their records have exactly what the reference brings, none is empty, and they are no more than paths lead to the owner
pub record Gathered (kind : WalkKind) (g : Graph) (r : ℤ) (f : Reference) (old new : List ℤ) (n m : ℕ) : Type 0 where
  pub rows : List Row
  pub appended : Appended rows old new n m
  pub exact : (x b : ℤ) → HasSome (map of_displacement rows) x b ↔ Brings kind g r f x b
  pub full : (q : Record) → q ∈ map of_displacement rows → q.first ≤ℤ q.last
  pub few : length rows ≤ path_count g r f.owner

-- ---- rows made a list

-- rows n to m of a state: no record of them is empty, their bits lie below 2^62, and there is room to sort them
pub record Normalisable (s spare : List ℤ) (n m : ℕ) : Type 0 where
  pub order : n ≤ m
  pub within : row_width * m ≤ length s
  pub spare_room : row_width * (m - n) ≤ length spare
  pub small : AllSmallLast (records_at s n (m - n))

-- from row n on stands the list of the records of rows n to m, sorted by displacement, and in front of it what stood there
pub record Normalised (old new : List ℤ) (n m : ℕ) (p : ListRows) : Type 0 where
  pub at : p.row ≡ n
  pub agrees : Agree n old new
  pub count : p.count ≡ length (normal (records_at old n (m - n)))
  pub records : records_at new p.row p.count ≡ sorted_by_displacement (normal (records_at old n (m - n)))

-- what the list of a reference is made from: its rows can be gathered behind the used part of the arena, there are at most 1,024, and room to sort them
pub record Makeable (ns es : List ℤ) (plan : List ℕ) (f : Reference) (s spare : List ℤ) : Type 0 where
  pub gatherable : Gatherable ns es plan f max_chain s (free_row s)
  pub few : path_count (graph_of ns es) (root_in s) f.owner ≤ max_paths
  pub spare_room : row_width * max_paths ≤ length spare

-- behind the used part of the arena stands the normal list, as rows by displacement, sorted, of records that have exactly what the reference brings, none
-- empty, and no more than paths lead to the owner
pub record Made (kind : WalkKind) (g : Graph) (r : ℤ) (f : Reference) (old new : List ℤ) (p : ListRows) : Type 0 where
  pub at : p.row ≡ free_row old
  pub agrees : Agree p.row old new
  pub made : List Record
  pub exact : (x b : ℤ) → HasSome made x b ↔ Brings kind g r f x b
  pub full : (q : Record) → q ∈ made → q.first ≤ℤ q.last
  pub few : length made ≤ path_count g r f.owner
  pub count : p.count ≡ length (normal made)
  pub records : records_at new p.row p.count ≡ sorted_by_displacement (normal made)

-- ---- the sweep

-- what a sweep starts from: taken tables and their plan, a root of the graph, at most 1,024 paths from it to each node that the plan's edges enter, and room
pub record Sweepable (ns es : List ℤ) (plan : List ℕ) (root : ℕ) (s spare : List ℤ) : Type 0 where
  pub tables : TakenTables ns es
  pub planned : Planned ns es plan
  pub start : Root (graph_of ns es) (pos root)
  pub few : (e : Edge) → e ∈ planned_of es plan → path_count (graph_of ns es) (pos root) e.to ≤ max_paths
  pub room : length s ≡ state_room
  pub spare_room : row_width * max_paths ≤ length spare

-- the state after the sweep from a root, for walks of this kind
pub record Swept (kind : WalkKind) (ns es : List ℤ) (plan : List ℕ) (root : ℕ) (s : List ℤ) : Type 0 where
  pub from : root_in s ≡ pos root
  pub by : kind_in s ≡ kind
  pub state : Sweeping ns es plan (planned_count plan) s

-- ---- the rows of a leaf

-- what the rows of a leaf are appended to: a state swept from a root, a leaf all of whose entering edges the plan has, and behind the free row, from row n on,
-- room for a row a path
pub record Appendable (ns es : List ℤ) (plan : List ℕ) (leaf : ℕ) (s : List ℤ) (n : ℕ) : Type 0 where
  pub kind : WalkKind
  pub root : ℕ
  pub state : Swept kind ns es plan root s
  pub block : Leaf (graph_of ns es) (pos leaf)
  pub covered : Covered es (planned_of es plan) (pos leaf)
  pub behind : free_row s ≤ n
  pub room : row_width * (n + path_count (graph_of ns es) (pos root) (pos leaf)) ≤ length s

-- rows behind the first n: their records have exactly what is reached at the leaf, none is empty, and they are no more than paths lead to it
pub record LeafAppended (kind : WalkKind) (g : Graph) (r leaf : ℤ) (old new : List ℤ) (n m : ℕ) : Type 0 where
  pub rows : List Row
  pub appended : Appended rows old new n m
  pub exact : (x y : ℤ) → HasSome (map of_displacement rows) x y ↔ Reached kind g r leaf x y
  pub full : (q : Record) → q ∈ map of_displacement rows → q.first ≤ℤ q.last
  pub few : length rows ≤ path_count g r leaf
