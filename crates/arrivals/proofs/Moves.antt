-- The steps of a sweep, case by case.
use mathlib.Core.Path.{◌≡◌, refl, sym, ap, subst, ◌∙◌}
use mathlib.Core.Bool.{Bool, true, false}
use mathlib.Core.List.{List, [], ◌∷◌}
use mathlib.Core.Option.{none}
use Prim.Native.Nat.{ℕ, ◌+◌, ◌*◌, ◌≤◌, ◌<◌}
use native.Mathlib.Omega.{arith}
use borrow.Author.Tests.{lt-ltb, le-ltb}
use lib.IntN.{ℤ, pos, nat_abs}
use lib.ListN.{length, set}
use Rattle.model.specs.declared.WalkKind.{WalkKind}
use Rattle.model.specs.Graph.{Graph, NodeRow, graph_of, bit_offset}
use Rattle.tables.specs.Tables.{edge_at}
use Rattle.listing.specs.Listing.{Appended}
use Rattle.extents.specs.Extents.{GoodRow}
use Rattle.extents.proofs.Rows.{node-good, edge_in}
use Rattle.references.specs.declared.Reference.{Reference as Held}
use Rattle.references.specs.References.{Reference, reference_of, own, through, unless_none, same_reference}
use Rattle.arrivals.specs.State.{mark_width, arena_row, arena_rows, free_at, root_at, kind_at, kind_number, set_mark, marked, is_met, reference_at, not_listed, no_room}
use Rattle.arrivals.specs.Moves.{Crossable, crossing, meeting, storing, root_marked, begun}

-- the owner of all that arrives at v is v
pub own-owner : {r : Held} (g : Graph) {v : ℕ} → reference_of r ≡ own g (pos v) → r.owner ≡ v
own-owner g e = ap (λ (f : Reference). nat_abs f.owner) e

-- ---- over an edge

module _ {ns es : List ℤ} {e : ℕ} {f : Reference} {s : List ℤ} (x : Crossable ns es e f s) where
  -- the node that the edge leaves is a node row
  pub from_row_lem : NodeRow (graph_of ns es) (edge_at es e).from
  from_row_lem = (x.tables.graph.ends (edge_at es e) (edge_in ns es e x.there)).0

  module _ {u : ℕ} (from : pos u ≡ (edge_at es e).from) where
    -- it has a mark in the state
    pub from-marked : mark_width * u + mark_width ≤ length s
    from-marked =
        let good : GoodRow ns u = node-good x.tables (subst (NodeRow (graph_of ns es)) (sym from) from_row_lem) in
        omega (arith, good.there, x.tables.nodes.few, x.marks)

    -- where nothing has arrived there, nothing comes over the edge
    pub crossing-none : is_met s u ≡ false → crossing (graph_of ns es) (edge_at es e) f s ≡ none
    crossing-none n = rw (← from, n)

    -- else what f takes of what has arrived
    pub crossing-some : {o : ℤ} → o ≡ bit_offset (graph_of ns es) (edge_at es e) → is_met s u ≡ true
        → crossing (graph_of ns es) (edge_at es e) f s ≡ unless_none (through o f (reference_at s u))
    crossing-some p y = rw (p, ← from, y)

-- ---- a reference met

module _ (s : List ℤ) (v : ℕ) (all f : Reference) (rows : ℤ) where
  -- at a node where nothing had arrived it is stored
  pub meeting-first : is_met s v ≡ false → meeting s v all f rows ≡ set_mark s v (marked f not_listed rows)
  meeting-first n = rw n

  -- the same again changes nothing
  pub meeting-same : is_met s v ≡ true → same_reference (reference_at s v) f ≡ true → meeting s v all f rows ≡ s
  meeting-same y e = rw (y, e)

  -- of another one the node is its own owner
  pub meeting-other : is_met s v ≡ true → same_reference (reference_at s v) f ≡ false → meeting s v all f rows ≡ set_mark s v (marked all not_listed rows)
  meeting-other y n = rw (y, n)

-- ---- rows stored

module _ (all : Reference) (v used k : ℕ) (s : List ℤ) where
  -- rows that do not fit are not stored
  pub storing-full : arena_row + arena_rows < used + k → storing all v used k s ≡ set_mark s v (marked all no_room (pos 0))
  storing-full h = rw (lt-ltb (arena_row + arena_rows) (used + k) h)

  -- rows that fit are
  pub storing-done : used + k ≤ arena_row + arena_rows
      → storing all v used k s ≡ set (set_mark s v (marked all (pos used) (pos k))) free_at (pos (used + k))
  storing-done h = rw (le-ltb (arena_row + arena_rows) (used + k) h)

  -- as they are stored number by number
  pub rows_stored : {t : List ℤ} {held : Reference} {row count behind : ℤ} → t ≡ set_mark s v (marked held row count) → held ≡ all → row ≡ pos used
      → count ≡ pos k → behind ≡ pos (used + k) → used + k ≤ arena_row + arena_rows → set t free_at behind ≡ storing all v used k s
  rows_stored m a p c b h = cc (storing-done h)

-- ---- the root

module _ {met : Bool} (all : Reference) (root : ℕ) (s : List ℤ) where
  -- one that is closed to the walks is not marked
  pub root-closed : met ≡ false → s ≡ root_marked met all root s
  root-closed e = rw e refl

  -- one that is open is, with all its bits
  pub root_open : {t : List ℤ} {held : Reference} {row : ℤ} → met ≡ true → t ≡ set_mark s root (marked held row (pos 1)) → held ≡ all → row ≡ pos arena_row
      → t ≡ root_marked met all root s
  root_open {row = row} e m a p = rw e (m ∙ ap (λ (f : Reference). set_mark s root (marked f row (pos 1))) a ∙ ap (λ (z : ℤ). set_mark s root (marked all z (pos 1))) p)

-- its mark, its row, and the three numbers behind the marks are the state in which a sweep begins
pub root-stored : (kind : WalkKind) (met : Bool) (all : Reference) (root : ℕ) (s : List ℤ) {t u : List ℤ} {low high used last number : ℤ} {r : ℕ}
    → t ≡ root_marked met all root s → low ≡ all.run.low → high ≡ all.run.high
    → Appended (record { first = pos 0; second = low; third = high } ∷ []) t u arena_row r → used ≡ pos (arena_row + 1) → last ≡ pos root → number ≡ kind_number kind
    → set (set (set u free_at used) root_at last) kind_at number ≡ begun kind met all root s
root-stored kind met all root s m f e b n l k = let numbers = b.numbers in cc
