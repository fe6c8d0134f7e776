-- References: what arrives at a node from a root, as a part of what arrives at another node. Assumes nothing.
use Rattle.std.specs.Prelude as std
use Rattle.std.specs.Prelude.{Bool, cond, ◌&&◌, ℕ, ◌+◌, ◌*◌, ◌≤◌, ◌<◌, ℤ, pos, ◌+ℤ◌, ◌-ℤ◌, ◌≤ℤ◌, ◌<ℤ◌, length, drop}
use mathlib.Core.List.{List, [], ◌∷◌, map, flat_map}
use Rattle.std.proofs.Math.Option.{Option, none, some}
use Rattle.integers.specs.Integers.{eq_z}
use Rattle.lists.specs.Lists.{◌∈◌}
use Rattle.model.specs.declared.WalkKind.{WalkKind}
use Rattle.model.specs.Limits.{address_room}
use Rattle.model.specs.Graph.{Graph, NodeRow, node, first_bit, last_bit}
use Rattle.model.specs.Walk.{Walk}
use Rattle.model.specs.Bitmapping.{Record}
use Rattle.model.specs.Runs.{Run, InRun, Joins, empty, shift, clip}
use Rattle.sorting.specs.declared.Row.{Row}
use Rattle.sorting.specs.Rows.{row_width, row_at, Ascending}
use Rattle.normalisation.specs.Merging.{by_displacement, displaced_of}
use Rattle.runs.specs.Clipping.{run_of, ExactlyOrNone, SmallRun}
use Rattle.extents.specs.Extents.{SmallAddress, bits_of}
use Rattle.references.specs.declared.Reference.{Reference as Held}
use Rattle.runs.specs.declared.Run.{Run as HeldRun}

-- a run from the owner in place of the root: what it has as root bits are bit addresses of the owner
pub record Reference : Type 0 where
  pub owner : ℤ
  pub run : Run

-- a reference as the code holds it
abbrev pub reference_of : Held → Reference
reference_of f = record { owner = pos f.owner; run = run_of f.run }

-- all that arrives at v, by walks of either kind: the bits of v are taken without regard to which walks may stand on it
abbrev pub own : Graph → ℤ → Reference
own g v = record { owner = v; run = bits_of (node g v) }

-- by the reference, root bit x arrives with bit address b: by a walk of this kind it becomes a bit address of the owner, which the run joins to b
pub record Brings (kind : WalkKind) (g : Graph) (r : ℤ) (f : Reference) (x b : ℤ) : Type 0 where
  pub at : ℤ
  pub walk : Walk kind g r x f.owner at
  pub joins : Joins f.run at b

-- the bit address of the owner that the highest bit of a run stands for
abbrev pub last_root : Run → ℤ
last_root r = r.root +ℤ (r.high -ℤ r.low)

-- ---- moved and cut: shift, then clip

-- the step over an edge with bit offset o into the part of the node entered that f refers to, from u, a reference to what arrives at the node left: shift, then clip at
-- the first and the last bit of the node entered that f takes; what is left is shifted to the bit addresses that f has for them
abbrev pub through : ℤ → Reference → Reference → Reference
through o f u = record { owner = u.owner; run = shift (f.run.root -ℤ f.run.low) (clip f.run.root (last_root f.run) (shift o u.run)) }

-- what a reference has of a record of its owner, both as runs: shifted to the bit addresses that the reference has for them, then clipped at its ends
unfoldable pub narrowed : Run → Run → Run
narrowed part r = clip part.low part.high (shift (part.root -ℤ part.low) r)

-- bit by bit: the bits that the reference's run joins to bits of the record's, each with the root bit that the record joins to those; or nothing
abbrev pub NarrowedBy : Run → Run → std.Option HeldRun → Type 0
NarrowedBy part r = ExactlyOrNone (λ b. (y : ℤ) × InRun r y × Joins part y b) (λ x b. (y : ℤ) × Joins r x y × Joins part y b)

-- every bit address less o
abbrev pub shifted : ℤ → Reference → Reference
shifted o f = record { owner = f.owner; run = shift o f.run }

-- the reference has no bit address
abbrev pub is_none : Reference → Bool
is_none f = empty f.run

-- a reference, or none where it has no bit address
abbrev pub unless_none : Reference → Option Reference
unless_none f = cond (is_none f) none (some f)

-- what the code says is brought
abbrev pub brought_of : std.Option Held → Option Reference
brought_of (std.Some f) = some (reference_of f)
brought_of std.None = none

-- the owner is a node row, the run has bits, all below 2^62, and they stand for bit addresses of the owner
pub record InOwner (g : Graph) (f : Reference) : Type 0 where
  pub row : NodeRow g f.owner
  pub small : SmallRun f.run
  pub above : first_bit (node g f.owner) ≤ℤ f.run.root
  pub below : last_root f.run ≤ℤ last_bit (node g f.owner)

-- two references are the same
abbrev pub same_reference : Reference → Reference → Bool
same_reference a b =
    eq_z a.owner b.owner && (eq_z a.run.root b.run.root && (eq_z a.run.low b.run.low && eq_z a.run.high b.run.high))

-- ---- records by a reference

-- a record of a node as a run: its root bits, and the bit addresses of the node that they reach
abbrev pub record_run : Record → Run
record_run s = record { root = s.first; low = s.first -ℤ s.displacement; high = s.last -ℤ s.displacement }

-- a run as a record of the node
abbrev pub run_record : Run → Record
run_record r = record { first = r.root; last = r.root +ℤ (r.high -ℤ r.low); displacement = r.root -ℤ r.low }

-- what the reference takes of a record of the owner
abbrev pub cut_run : Reference → Record → Run
cut_run f s = narrowed f.run (record_run s)

-- the row of what the reference takes of a record of the owner, or nothing where that has no bit
unfoldable pub cut_row : Reference → Record → List Row
cut_row f s = cond (empty (cut_run f s)) [] (by_displacement (run_record (cut_run f s)) ∷ [])

-- the rows of all records of the owner's list
unfoldable pub cut_rows : Reference → List Record → List Row
cut_rows f l = flat_map (cut_row f) l

-- a record whose root bits and whose bit addresses at the node lie in 0 .. 2^62 − 1
pub record SmallRecord (s : Record) : Type 0 where
  pub full : s.first ≤ℤ s.last
  pub low : pos 0 ≤ℤ s.first
  pub high : s.last <ℤ pos address_room
  pub above : pos 0 ≤ℤ (s.first -ℤ s.displacement)
  pub below : (s.last -ℤ s.displacement) <ℤ pos address_room

-- n records from row p of a flat list on, rows by displacement
abbrev pub records_at : List ℤ → ℕ → ℕ → List Record
records_at t p n = displaced_of (drop (row_width * p) t) n

-- of `count` rows from row `row` on: those in front of `low` have displacements below d, those from `high` on have not
pub record Parted (t : List ℤ) (row count : ℕ) (d : ℤ) (low high : ℕ) : Type 0 where
  pub order : low ≤ high
  pub within : high ≤ count
  pub below : (i : ℕ) → i < low → (row_at t (row + i)).first <ℤ d
  pub above : (i : ℕ) → high ≤ i → i < count → d ≤ℤ (row_at t (row + i)).first

-- root bits from `first` on walk to no bit address of the reference at the owner by a displacement below this one
abbrev pub least_of : Reference → ℤ → ℤ
least_of f first = first -ℤ last_root f.run

-- root bits up to `last` walk to no bit address of the reference at the owner by this displacement or a higher one
abbrev pub past_of : Reference → ℤ → ℤ
past_of f last = last -ℤ (f.run.root -ℤ pos 1)

-- what gathering by a list starts from: rows from `row` on that stand before row n, sorted by displacement, each with root bits from first to last and bit
-- addresses below 2^62, and room for as many rows behind n
pub record Cuttable (f : Reference) (first last : ℤ) (t : List ℤ) (row count n : ℕ) : Type 0 where
  pub small : SmallRun f.run
  pub root : SmallAddress first × SmallAddress last
  pub before : row + count ≤ n
  pub room : row_width * (n + count) ≤ length t
  pub ascending : Ascending (map by_displacement (records_at t row count))
  pub inside : (q : Record) → q ∈ records_at t row count → (first ≤ℤ q.first) × (q.last ≤ℤ last)
  pub within : (q : Record) → q ∈ records_at t row count → SmallRecord q
