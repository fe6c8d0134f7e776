-- Shift, clip and a step over an edge: which bits a run has after them, and which root bit it joins to each.
use mathlib.Core.Path.{◌≡◌}
use mathlib.Core.Bool.{Bool, not, cond}
use mathlib.Core.List.{List, [], ◌∷◌}
use mathlib.Core.Logic.{◌↔◌}
use native.Mathlib.Omega.{arith}
use lib.Dec.{T, T_not, not_T}
use lib.IntN.{ℤ, pos, ◌+ℤ◌, ◌-ℤ◌}
use lib.Signed.{◌≤ℤ◌, ◌<ℤ◌, lt_z_yes, lt_z_no}
use Rattle.integers.specs.Integers.{max_z}
use Rattle.integers.proofs.Linear.{ints, sum, diff}
use Rattle.lists.proofs.Decisions.{Decides, decides_not}
use Rattle.integers.proofs.Tests.{passed, failed, eq_z?, lt?, of_test, min_le, max_le, min_is, max_is}
use Rattle.model.specs.declared.WalkKind.{WalkKind}
use Rattle.model.specs.declared.WalkKind.TheVariants.{Reading, Writing}
use Rattle.model.specs.Rows.{Node, Edge}
use Rattle.model.specs.Graph.{Graph, node, read_only, write_only, first_bit, last_bit, bit_offset}
use Rattle.model.specs.Walk.{Open, StandsOn}
use Rattle.model.specs.Bitmapping.{Has}
use Rattle.model.specs.Runs.{Run, InRun, Joins, Between, empty, is_open, last_open, whole, shift, clip, across, along, record_of}

-- ---- shift

-- the shifted run has exactly the run's bits less the offset
pub shift-bits : (o : ℤ) (r : Run) (b : ℤ) → InRun (shift o r) b ↔ InRun r (b +ℤ o)
unfolding shift
shift-bits o r b =
    let low = diff r.low o in
    let high = diff r.high o in
    let at = sum b o in
    (λ h. omega (arith, ints), λ h. omega (arith, ints))

-- and joins the same root bits to them
pub shift-joins : (o : ℤ) (r : Run) (x b : ℤ) → Joins (shift o r) x b ↔ Joins r x (b +ℤ o)
unfolding shift
shift-joins o r x b =
    let end = diff r.low o in
    let at = sum b o in
    let there = diff b (r.low -ℤ o) in
    let here = diff (b +ℤ o) r.low in (
      λ j. record { inside = (shift-bits o r b).0 j.inside; level = omega (arith, ints) },
      λ j. record { inside = (shift-bits o r b).1 j.inside; level = omega (arith, ints) },
    )

-- ---- clip

-- the clipped run has exactly those bits that lie from `first` to `last`
pub clip-bits : (first last : ℤ) (r : Run) (b : ℤ) → InRun (clip first last r) b ↔ (InRun r b × Between first last b)
unfolding clip
clip-bits first last r b = (
  λ h. let lo = (max_le first r.low b).0 h.above in let hi = (min_le last r.high b).0 h.below in
      (record { above = lo.1; below = hi.1 }, record { above = lo.0; below = hi.0 }),
  λ h. record { above = (max_le first r.low b).1 (h.1.above, h.0.above); below = (min_le last r.high b).1 (h.1.below, h.0.below) },
)

-- and joins the same root bits to them
pub clip-joins : (first last : ℤ) (r : Run) (x b : ℤ) → Joins (clip first last r) x b ↔ (Joins r x b × Between first last b)
unfolding clip
clip-joins first last r x b =
    let low = max_z first r.low in
    let root = r.root +ℤ (low -ℤ r.low) in
    let cut = diff low r.low in
    let start = sum r.root (low -ℤ r.low) in
    let x-before = diff x r.root in
    let x-after = diff x root in
    let b-before = diff b r.low in
    let b-after = diff b low in (
      λ j. let h = (clip-bits first last r b).0 j.inside in
          (record { inside = h.0; level = omega (arith, ints) }, h.1),
      λ j. record { inside = (clip-bits first last r b).1 (j.0.inside, j.1); level = omega (arith, ints) },
    )

-- clipping first at bounds that are moved by the offset, and then shifting, leaves the same bits, each with its root bit: that shift comes first is kept by the
-- form of the step alone
pub clip-first-joins : (first last o : ℤ) (r : Run) (x b : ℤ)
    → Joins (shift o (clip (first +ℤ o) (last +ℤ o) r)) x b ↔ Joins (clip first last (shift o r)) x b
clip-first-joins first last o r x b =
    let moved = shift-joins o (clip (first +ℤ o) (last +ℤ o) r) x b in
    let cut = clip-joins (first +ℤ o) (last +ℤ o) r x (b +ℤ o) in
    let after = clip-joins first last (shift o r) x b in
    let there = shift-joins o r x b in
    let low = sum first o in
    let high = sum last o in
    let at = sum b o in (
      λ j. let k = cut.0 (moved.0 j) in after.1 (there.1 k.0, record { above = omega (arith, ints, k.1.above); below = omega (arith, ints, k.1.below) }),
      λ j. let k = after.0 j in moved.1 (cut.1 (there.0 k.0, record { above = omega (arith, ints, k.1.above); below = omega (arith, ints, k.1.below) })),
    )

-- ---- empty runs, and the run of a root

-- an empty run has no bit
pub empty-none : (r : Run) (b : ℤ) → T (empty r) → InRun r b → ⊥
unfolding empty
empty-none r b t h = let k : r.high <ℤ r.low = lt_z_yes t in omega (arith, ints)

-- a run that is not empty has its low end
pub empty_not : (r : Run) → T (not (empty r)) → r.low ≤ℤ r.high
unfolding empty
empty_not r t = lt_z_no t

-- a run whose ends have crossed is empty
pub empty_in : (r : Run) → r.high <ℤ r.low → T (empty r)
unfolding empty
empty_in r h = of_test (lt? r.high r.low) (λ k. omega (arith, ints))

-- an empty run stays empty, shifted
pub shift-empty : (o : ℤ) (r : Run) → T (empty r) → T (empty (shift o r))
unfolding shift empty
shift-empty o r t =
    let k : r.high <ℤ r.low = lt_z_yes t in
    empty_in (shift o r) (omega (arith, ints, diff r.low o, diff r.high o))

-- a run that is empty once it is shifted was so before
empty-before : (o : ℤ) (r : Run) → T (empty (shift o r)) → T (empty r)
unfolding shift empty
empty-before o r t =
    let k : (r.high -ℤ o) <ℤ (r.low -ℤ o) = lt_z_yes t in
    empty_in r (omega (arith, ints, diff r.low o, diff r.high o))

-- so one that has a bit keeps one, and had one before
pub full-shift : (o : ℤ) (r : Run) → T (not (empty r)) → T (not (empty (shift o r)))
full-shift o r t = not_T (empty (shift o r)) (λ e. T_not (empty r) t (empty-before o r e))

pub shift-full : (o : ℤ) (r : Run) → T (not (empty (shift o r))) → T (not (empty r))
shift-full o r t = not_T (empty r) (λ e. T_not (empty (shift o r)) t (shift-empty o r e))

-- and clipped
pub clip-empty : (first last : ℤ) (r : Run) → T (empty r) → T (empty (clip first last r))
unfolding clip empty
clip-empty first last r t =
    let k : r.high <ℤ r.low = lt_z_yes t in
    empty_in (clip first last r) (omega (arith, ints, (max_is first r.low).1, (min_is last r.high).1))

-- ---- the bits on which a walk may stand

-- a node is open to walks of a kind exactly where the test passes
pub open? : (kind : WalkKind) (n : Node) → Decides (Open kind n.access) (is_open kind n)
unfolding is_open
open? Reading n = decides_not (eq_z? n.access write_only)
open? Writing n = decides_not (eq_z? n.access read_only)

-- a walk may stand exactly on the bits from the first to the last that is open to it
pub stands_between : (kind : WalkKind) (n : Node) (a : ℤ) → StandsOn kind n a ↔ Between (first_bit n) (last_open kind n) a
unfolding last_open
stands_between kind n a = go (is_open kind n) (open? kind n)
  where
    go : (b : Bool) → Decides (Open kind n.access) b → StandsOn kind n a ↔ Between (first_bit n) (cond b (last_bit n) (first_bit n -ℤ pos 1)) a
    go b (passed o) = (λ h. record { above = h.above; below = h.below }, λ h. record { access = o; above = h.above; below = h.below })
    go b (failed n') = (λ h. absurd (n' h.access), λ h. absurd (omega (arith, ints, diff (first_bit n) (pos 1), h.above, h.below)))

-- the run of a root joins each of its bits to itself
pub whole-joins : {kind : WalkKind} (n : Node) (x b : ℤ) → Joins (whole kind n) x b ↔ ((x ≡ b) × StandsOn kind n b)
unfolding whole
whole-joins {kind} n x b =
    let over = diff x (first_bit n) in
    let under = diff b (first_bit n) in
    let stands = stands_between kind n b in (
      λ j. (omega (arith, ints), stands.1 (record { above = j.inside.above; below = j.inside.below })),
      λ h. let i = stands.0 h.1 in record { inside = record { above = i.above; below = i.below }; level = omega (arith, ints) },
    )

-- ---- over an edge

-- the run over an edge has exactly those bits that a walk may enter the node with, from a bit of the run
pub across-bits : {kind : WalkKind} (g : Graph) (e : Edge) (r : Run) (b : ℤ)
    → InRun (across kind g e r) b ↔ (InRun r (b +ℤ bit_offset g e) × StandsOn kind (node g e.to) b)
unfolding across
across-bits {kind} g e r b =
    let n = node g e.to in
    let o = bit_offset g e in
    let bits = clip-bits (first_bit n) (last_open kind n) (shift o r) b in
    let stands = stands_between kind n b in (
      λ i. let h = bits.0 i in ((shift-bits o r b).0 h.0, stands.1 h.1),
      λ h. bits.1 ((shift-bits o r b).1 h.0, stands.0 h.1),
    )

-- the run over an edge joins those root bits that the run joined to an address which the walk may take over the edge
pub across-joins : {kind : WalkKind} (g : Graph) (e : Edge) (r : Run) (x b : ℤ)
    → Joins (across kind g e r) x b ↔ (Joins r x (b +ℤ bit_offset g e) × StandsOn kind (node g e.to) b)
unfolding across
across-joins {kind} g e r x b =
    let n = node g e.to in
    let o = bit_offset g e in
    let joins = clip-joins (first_bit n) (last_open kind n) (shift o r) x b in
    let stands = stands_between kind n b in (
      λ j. let h = joins.0 j in ((shift-joins o r x b).0 h.0, stands.1 h.1),
      λ h. joins.1 ((shift-joins o r x b).1 h.0, stands.0 h.1),
    )

-- an empty run stays empty over an edge
pub across-empty : (kind : WalkKind) (g : Graph) (e : Edge) (r : Run) → T (empty r) → T (empty (across kind g e r))
unfolding across
across-empty kind g e r t =
    let n = node g e.to in
    let o = bit_offset g e in
    clip-empty (first_bit n) (last_open kind n) (shift o r) (shift-empty o r t)

-- and so along a path
pub along-empty : (kind : WalkKind) (g : Graph) (p : List Edge) (r : Run) → T (empty r) → T (empty (along kind g p r))
unfolding along
along-empty kind g [] r t = t
along-empty kind g (e ∷ p) r t = along-empty kind g p (across kind g e r) (across-empty kind g e r t)

-- ---- at the leaf

-- the record of a run has root bit x with leaf bit y exactly where the run joins x to the address of y
pub record_joins : (leaf : Node) (r : Run) (x y : ℤ) → Has (record_of leaf r) x y ↔ Joins r x (y +ℤ first_bit leaf)
unfolding record_of
record_joins leaf r x y =
    let f = first_bit leaf in
    let address = sum y f in
    let low = diff r.low f in
    let displacement = diff r.root (r.low -ℤ f) in
    let apart = diff x y in
    let over = diff x r.root in
    let under = diff (y +ℤ f) r.low in
    let size = diff r.high r.low in
    let last = sum r.root (r.high -ℤ r.low) in
    (λ h. omega (arith, ints), λ j. omega (arith, ints))
