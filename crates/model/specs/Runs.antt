-- The bitmapping list, computed: shift and clip, the run of a path, the runs of all paths, and normalisation. Assumes nothing.
use Rattle.std.specs.Prelude.{◌≡◌, Bool, not, cond, ◌&&◌, ◌||◌, ℕ, zero, suc, ℤ, pos, ◌+ℤ◌, ◌-ℤ◌, ◌≤ℤ◌}
use mathlib.Core.List.{List, [], ◌∷◌, map, flat_map}
use Rattle.std.specs.Int.Signed.{le_z, lt_z}
use Rattle.integers.specs.Integers.{eq_z, min_z, max_z}
use Rattle.lists.specs.Lists.{keep}
use Rattle.model.specs.declared.WalkKind.{WalkKind}
use Rattle.model.specs.declared.WalkKind.TheVariants.{Reading, Writing}
use Rattle.model.specs.Limits.{max_chain}
use Rattle.model.specs.Rows.{Node, Edge}
use Rattle.model.specs.Graph.{Graph, node, read_only, write_only, first_bit, last_bit, bit_offset}
use Rattle.model.specs.Bitmapping.{Record}

-- ---- runs (000, 2.19)

-- the bit addresses low .. high at some node; `root` is the root bit that has walked to low, root + 1 to low + 1, and so on
pub record Run : Type 0 where
  pub root : ℤ
  pub low : ℤ
  pub high : ℤ

-- the run has bit address b
pub record InRun (r : Run) (b : ℤ) : Type 0 where
  pub above : r.low ≤ℤ b
  pub below : b ≤ℤ r.high

-- the run joins root bit x to bit address b: b is as far above the low end as x is above the root bit that walked there
pub record Joins (r : Run) (x b : ℤ) : Type 0 where
  pub inside : InRun r b
  pub level : x -ℤ r.root ≡ b -ℤ r.low

-- bit address b lies from `first` to `last`
pub record Between (first last b : ℤ) : Type 0 where
  pub above : first ≤ℤ b
  pub below : b ≤ℤ last

-- the run has no bit
unfoldable pub empty : Run → Bool
empty r = lt_z r.high r.low

-- ---- the bits of a node for a kind of walk

-- the node is open to walks of this kind
unfoldable pub is_open : WalkKind → Node → Bool
is_open Reading n = not (eq_z n.access write_only)
is_open Writing n = not (eq_z n.access read_only)

-- the last bit on which a walk of this kind may stand; the bit before the first where the node is closed: then there is none
unfoldable pub last_open : WalkKind → Node → ℤ
last_open kind n = cond (is_open kind n) (last_bit n) (first_bit n -ℤ pos 1)

-- all bits of a root on which a walk of this kind may stand
unfoldable pub whole : WalkKind → Node → Run
whole kind n = record { root = first_bit n; low = first_bit n; high = last_open kind n }

-- ---- the step over an edge: bits are clipped after they are shifted (000, 2.5.1)

-- shift: every bit less the bit offset (000, 2.3 to 2.5; there from leaf to root, with the offset added)
unfoldable pub shift : ℤ → Run → Run
shift o r = record { root = r.root; low = r.low -ℤ o; high = r.high -ℤ o }

-- clip: those bits that lie from `first` to `last`, from the higher of the low ends to the lower of the high ends. Bits are cut at the low end where `first` lies
-- above it (000, 2.15) and at the high end where `last` lies below it (2.16; there both of the last edge of a path); the root bit rises with the low end
unfoldable pub clip : ℤ → ℤ → Run → Run
clip first last r = record { root = r.root +ℤ (max_z first r.low -ℤ r.low); low = max_z first r.low; high = min_z last r.high }

-- over an edge: shift by the bit offset, then clip at the node entered, by the first and the last bit on which the walk may stand (000, 2.17 and 2.18)
unfoldable pub across : WalkKind → Graph → Edge → Run → Run
across kind g e r = clip (first_bit (node g e.to)) (last_open kind (node g e.to)) (shift (bit_offset g e) r)

-- the run of a path: over its edges, one after the other
unfoldable pub along : WalkKind → Graph → List Edge → Run → Run
along kind g [] r = r
along kind g (e ∷ p) r = along kind g p (across kind g e r)

-- ---- paths (000, Algorithm 3)

-- the edges that leave v
unfoldable pub leaving : Graph → ℤ → List Edge
leaving g v = keep (λ e. eq_z e.from v) g.edges

-- the paths from v to the leaf l over at most k edges. They end at l: no edge leaves a block
unfoldable pub paths_within : ℕ → Graph → ℤ → ℤ → List (List Edge)
paths_within zero g v l = cond (eq_z v l) ([] ∷ []) []
paths_within (suc k) g v l =
    let onward = flat_map (λ e. map (λ p. e ∷ p) (paths_within k g e.to l)) (leaving g v) in cond (eq_z v l) ([] ∷ []) onward

-- the paths from a root to a leaf
unfoldable pub paths : Graph → ℤ → ℤ → List (List Edge)
paths g r l = paths_within max_chain g r l

-- ---- the runs of all paths

-- the runs of all paths from a root to a leaf, but for the empty ones
unfoldable pub runs : WalkKind → Graph → ℤ → ℤ → List Run
runs kind g r l = keep (λ s. not (empty s)) (map (λ p. along kind g p (whole kind (node g r))) (paths g r l))

-- ---- records

-- the record of a run at a leaf: leaf bits count from the leaf's first bit
unfoldable pub record_of : Node → Run → Record
record_of leaf r =
    record { first = r.root; last = r.root +ℤ (r.high -ℤ r.low); displacement = r.root -ℤ (r.low -ℤ first_bit leaf) }

-- two records of one displacement touch or overlap: no bit lies between them
unfoldable pub touch : Record → Record → Bool
touch r s = eq_z r.displacement s.displacement && le_z s.first (r.last +ℤ pos 1) && le_z r.first (s.last +ℤ pos 1)

-- one record for two that touch
unfoldable pub hull : Record → Record → Record
hull r s = record { first = min_z r.first s.first; last = max_z r.last s.last; displacement = r.displacement }

-- r joined with every record of the list that it touches
unfoldable pub joined : Record → List Record → Record
joined r [] = r
joined r (s ∷ t) = cond (touch r s) (hull (joined r t) s) (joined r t)

-- r stands before s: by first, then displacement
unfoldable pub before : Record → Record → Bool
before r s = lt_z r.first s.first || (eq_z r.first s.first && lt_z r.displacement s.displacement)

-- r in its place in an ordered list
unfoldable pub place : Record → List Record → List Record
place r [] = r ∷ []
place r (s ∷ t) = cond (before r s) (r ∷ s ∷ t) (s ∷ place r t)

-- an ordered list of records that do not touch, with r joined in
unfoldable pub add : Record → List Record → List Record
add r l = place (joined r l) (keep (λ s. not (touch r s)) l)

-- normalisation: runs of one displacement that touch or overlap are one record, in order (000, Algorithm 4)
unfoldable pub normal : List Record → List Record
normal [] = []
normal (r ∷ t) = add r (normal t)

-- the bitmapping list of root r and leaf l, for walks of this kind
unfoldable pub list_of : WalkKind → Graph → ℤ → ℤ → List Record
list_of kind g r l = normal (map (record_of (node g l)) (runs kind g r l))
