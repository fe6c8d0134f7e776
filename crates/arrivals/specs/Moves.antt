-- What the steps of a sweep ask and leave. Assumes nothing.
use Rattle.std.specs.Prelude.{◌≡◌, Bool, true, false, cond, List, [], ◌∷◌, ◌++◌, ℕ, ◌+◌, ◌*◌, ◌≤◌, ◌<◌, ◌^◌, ltb, ℤ, pos, nat_abs, length, set, take, drop}
use Rattle.std.proofs.Math.Option.{Option, none}
use Rattle.model.specs.declared.WalkKind.{WalkKind}
use Rattle.model.specs.Limits.{edge_width, max_nodes, max_paths}
use Rattle.model.specs.Rows.{Edge, node_rows}
use Rattle.model.specs.Graph.{Graph, graph_of, bit_offset}
use Rattle.model.specs.Taken.{TakenTables}
use Rattle.tables.specs.Tables.{edge_at}
use Rattle.reach.specs.Counting.{path_count}
use Rattle.runs.specs.Clipping.{SmallRun}
use Rattle.extents.specs.Extents.{GoodRow}
use Rattle.sorting.specs.Rows.{row_width, numbers_of}
use Rattle.entering.specs.Entering.{Covered}
use Rattle.forward.specs.Forward.{planned_count}
use Rattle.references.specs.References.{Reference, through, unless_none, same_reference}
use Rattle.arrivals.specs.State.{mark_width, free_at, root_at, kind_at, arena_row, arena_rows, state_room, set_mark, marked, is_met, reference_at, root_in, kind_number, kind_in, not_listed, no_room}
use Rattle.arrivals.specs.Sweep.{done_of, Sweeping}

-- ---- over an edge

-- an edge row of taken tables and a reference whose run is small, as is that of the reference of the node that the edge leaves, where something has arrived
pub record Crossable (ns es : List ℤ) (e : ℕ) (f : Reference) (s : List ℤ) : Type 0 where
  pub tables : TakenTables ns es
  pub there : edge_width * e + edge_width ≤ length es
  pub small : SmallRun f.run
  pub marks : mark_width * max_nodes ≤ length s
  pub source : (u : ℕ) → pos u ≡ (edge_at es e).from → is_met s u ≡ true → SmallRun (reference_at s u).run

-- what comes over an edge of what f takes of the node entered: nothing where nothing has arrived at the node left
abbrev pub crossing : Graph → Edge → Reference → List ℤ → Option Reference
crossing g e f s = cond (is_met s (nat_abs e.from)) (unless_none (through (bit_offset g e) f (reference_at s (nat_abs e.from)))) none

-- ---- marks

-- the state once reference f has come to node v, where `all` is the reference to all that arrives at v: taken where v had none or the same, else v is its own
-- owner, not listed yet, with a list of so many rows at most, if its mark tells true
abbrev pub meeting : List ℤ → ℕ → Reference → Reference → ℤ → List ℤ
meeting s v all f rows =
    cond (is_met s v) (cond (same_reference (reference_at s v) f) s (set_mark s v (marked all not_listed rows))) (set_mark s v (marked f not_listed rows))

-- k rows from row `used` on may become the list of node v: the number of the row behind them is one of 64 bits
pub record Storable (ns : List ℤ) (v used k : ℕ) (s : List ℤ) : Type 0 where
  pub good : GoodRow ns v
  pub row : v < max_nodes
  pub room : length s ≡ state_room
  pub few : used + k < 2 ^ 62

-- the state with k rows from row `used` on as the list of v, where they fit; else v has no list
abbrev pub storing : Reference → ℕ → ℕ → ℕ → List ℤ → List ℤ
storing all v used k s =
    cond (ltb (arena_row + arena_rows) (used + k)) (set_mark s v (marked all no_room (pos 0)))
    (set (set_mark s v (marked all (pos used) (pos k))) free_at (pos (used + k)))

-- a marked node all of whose entering edges are passed, with at most 1,024 paths to it, and room for a list
pub record Ownable (ns es : List ℤ) (plan : List ℕ) (v : ℕ) (s spare : List ℤ) : Type 0 where
  pub passed : ℕ
  pub sweeping : Sweeping ns es plan passed s
  pub row : v < length (node_rows ns)
  pub met : is_met s v ≡ true
  pub covered : Covered es (done_of es plan passed) (pos v)
  pub few : path_count (graph_of ns es) (root_in s) (pos v) ≤ max_paths
  pub spare_room : row_width * max_paths ≤ length spare

-- v may have been given a list: it is marked with the same reference, the root and the kind of walk are the same, and the state is swept over as many edges
pub record ListMade (ns es : List ℤ) (plan : List ℕ) (v : ℕ) (old new : List ℤ) : Type 0 where
  pub met : is_met new v ≡ true
  pub reference : reference_at new v ≡ reference_at old v
  pub root : root_in new ≡ root_in old
  pub kind : kind_in new ≡ kind_in old
  pub sweeping : (i : ℕ) → Sweeping ns es plan i old → Sweeping ns es plan i new

-- the next edge of the plan is there, and room for a list
pub record Passable (ns es : List ℤ) (plan : List ℕ) (i : ℕ) (s spare : List ℤ) : Type 0 where
  pub sweeping : Sweeping ns es plan i s
  pub there : i < planned_count plan
  pub spare_room : row_width * max_paths ≤ length spare

-- nothing has arrived at any of the first n nodes
abbrev pub Blank : ℕ → List ℤ → Type 0
Blank n s = (v : ℕ) → v < n → is_met s v ≡ false

-- the state with the root marked, where it is open to the walks: all its bits, whose list is the first row of the arena
abbrev pub root_marked : Bool → Reference → ℕ → List ℤ → List ℤ
root_marked met all root s = cond met (set_mark s root (marked all (pos arena_row) (pos 1))) s

-- the state in which a sweep begins: the root is marked where it is open to the walks, the first row of the arena is a record of all its bits, and the root and the
-- kind of walk are stored
abbrev pub begun : WalkKind → Bool → Reference → ℕ → List ℤ → List ℤ
begun kind met all root s =
    let t = root_marked met all root s in
    set (set (set (take (row_width * arena_row) t ++ (numbers_of (record { first = pos 0; second = all.run.low; third = all.run.high } ∷ []) ++ drop (row_width * arena_row + row_width) t))
    free_at (pos (arena_row + 1))) root_at (pos root)) kind_at (kind_number kind)
