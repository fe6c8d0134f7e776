-- Shift and clip of small runs compute with numbers of 64 bits, leave exactly the bits that they should, and a small run or nothing.
use Rattle.std.specs.Prelude.{None, Option, Some}
use Rattle.std.proofs.Common.{Ordering, Less, Equal, Greater, is_lt, int_cmp}
use Rattle.std.specs.Ordering.{MatchOrdering}
use Rattle.std.specs.Cmp.{int_ranks}
use mathlib.Core.Path.{◌≡◌, sym, ap, ◌∙◌}
use mathlib.Core.Bool.{Bool, true, false, true≢false, not, cond}
use mathlib.Core.Logic.{◌↔◌}
use mathlib.Core.Option.{none, some}
use Prim.Native.Nat.{ℕ, ◌^◌}
use native.Mathlib.Omega.{arith}
use lib.Dec.{T}
use lib.IntN.{ℤ, pos, ◌+ℤ◌, ◌-ℤ◌}
use lib.Signed.{◌≤ℤ◌, ◌<ℤ◌}
use Rattle.integers.specs.Integers.{min_z, max_z}
use Rattle.integers.proofs.Linear.{ints, sum, diff, neg}
use Rattle.integers.proofs.Tests.{is_true, is_false, min_is, max_is}
use Rattle.model.specs.Runs.{Run, InRun, Joins, empty, shift, clip}
use Rattle.model.proofs.Steps.{empty-none, empty_not, empty_in, shift-bits, shift-joins, clip-bits, clip-joins}
use Rattle.runs.specs.declared.Run.{Run as Held}
use Rattle.runs.specs.Clipping.{run_of, living, living_of, ExactlyOrNone, Shifted, ClippedTo, SmallRun, SmallOffset, Clippable, SmallExtent}

-- ---- the order of bit addresses

-- a bit address that is tested to be lower than another is lower
pub lower_true : (a b : ℤ) → is_lt (int_cmp a b) ≡ true → a <ℤ b
lower_true a b e = go (int_cmp a b) (int_ranks a b) e
  where
    go : (o : Ordering) → MatchOrdering o (a <ℤ b) (a ≡ b) (b <ℤ a) → is_lt o ≡ true → a <ℤ b
    go Less h e = h
    go Equal h e = absurd (true≢false (sym e))
    go Greater h e = absurd (true≢false (sym e))

-- one that is tested not to be lower is as high or higher
pub lower_false : (a b : ℤ) → is_lt (int_cmp a b) ≡ false → b ≤ℤ a
lower_false a b e = go (int_cmp a b) (int_ranks a b) e
  where
    go : (o : Ordering) → MatchOrdering o (a <ℤ b) (a ≡ b) (b <ℤ a) → is_lt o ≡ false → b ≤ℤ a
    go Less h e = absurd (true≢false e)
    go Equal h e = omega (arith, ints, h)
    go Greater h e = omega (arith, ints, h)

-- ---- what is left of a run

-- of a run whose ends have crossed nothing is left
pub living-empty : (r : Run) → r.high <ℤ r.low → none ≡ living r
unfolding living
living-empty r h = rw (is_true (empty r) (empty_in r h))

-- a run that has bits is left
pub living-full : (r : Run) → r.low ≤ℤ r.high → some r ≡ living r
unfolding living
living-full r h = rw (is_false (empty r) (λ t. empty-none r r.low t (record { above = omega (arith, ints); below = h })))

-- where nothing is left, the run is empty
pub living-none : (r : Run) → none ≡ living r → T (empty r)
unfolding living
living-none r e = go (empty r) e
  where
    go : (t : Bool) → none ≡ cond t none (some r) → T t
    go true e = tt
    go false e = let z : ◌≡◌ {A = ℕ} 0 1 = cc in absurd (omega arith)

-- what is left is the run, and it is not empty
pub living-some : (r s : Run) → some s ≡ living r → (s ≡ r) × T (not (empty r))
unfolding living
living-some r s e = go (empty r) e
  where
    go : (t : Bool) → some s ≡ cond t none (some r) → (s ≡ r) × T (not t)
    go true e = let z : ◌≡◌ {A = ℕ} 0 1 = cc in absurd (omega arith)
    go false e = (cc, tt)

-- the same of what the code says is left
pub left_living : (r : Run) {c : Option Held} {h : Held} → c ≡ Some h → living_of c ≡ living r → some (run_of h) ≡ living r
left_living r e p = ap living_of (sym e) ∙ p

pub nothing_living : (r : Run) {c : Option Held} → c ≡ None → living_of c ≡ living r → none ≡ living r
nothing_living r e p = ap living_of (sym e) ∙ p

-- what is left of a run with certain bits, each with certain root bits, has exactly those, or there are none
pub left_exact : {Bit : ℤ → Type 0} {Root : ℤ → ℤ → Type 0} (r : Run) (c : Option Held) → ((b : ℤ) → InRun r b ↔ Bit b) → ((x b : ℤ) → Joins r x b ↔ Root x b)
    → living_of c ≡ living r → ExactlyOrNone Bit Root c
left_exact r (Some s) bits roots e =
    let w = living-some r (run_of s) e in
    (rw w.0 (record { bits = bits; roots = roots }), (r.low, (bits r.low).0 (record { above = omega (arith, ints); below = empty_not r w.1 })))
left_exact r None bits roots e = λ b h. empty-none r b (living-none r e) ((bits b).1 h)

-- ---- shift

-- a small run that is shifted by a small offset can be clipped
pub shift_clippable : {r : Run} {o : ℤ} → SmallRun r → SmallOffset o → Clippable (shift o r)
unfolding shift
shift_clippable {r} {o} s k =
    let low = diff r.low o in
    let high = diff r.high o in
    record {
      root = s.root;
      low = omega (arith, ints, s.low, k.high, neg (pos (2 ^ 62)));
      last = omega (
        arith,
        ints,
        s.last,
        diff r.high r.low,
        diff (r.high -ℤ o) (r.low -ℤ o),
        sum r.root (r.high -ℤ r.low),
        sum r.root ((r.high -ℤ o) -ℤ (r.low -ℤ o)),
      );
    }

-- the shifted run, by its ends
pub shift-ends : (o : ℤ) (r : Run) {low high : ℤ} → low ≡ r.low -ℤ o → high ≡ r.high -ℤ o → record { root = r.root; low = low; high = high } ≡ shift o r
unfolding shift
shift-ends o r p q = cc

-- the shifted run has exactly the run's bits less the offset, each with its root bit
pub shift-exact : (o : ℤ) (r : Run) {s : Run} → s ≡ shift o r → Shifted o r s
shift-exact o r e = rw e (record { bits = shift-bits o r; roots = shift-joins o r })

-- a run shifted by an offset that was read
pub shift-read : (o p : ℤ) (r s : Run) → s ≡ shift o r → o ≡ p → s ≡ shift p r
shift-read o p r s e q = e ∙ ap (λ (z : ℤ). shift z r) q

-- the last root bit stays
pub shift-last : (o : ℤ) (r : Run) → (shift o r).root +ℤ ((shift o r).high -ℤ (shift o r).low) ≡ r.root +ℤ (r.high -ℤ r.low)
unfolding shift
shift-last o r =
    let low = diff r.low o in
    let high = diff r.high o in
    let before = diff r.high r.low in
    let after = diff (r.high -ℤ o) (r.low -ℤ o) in
    omega (arith, ints, sum r.root (r.high -ℤ r.low), sum r.root ((r.high -ℤ o) -ℤ (r.low -ℤ o)))

-- ---- clip

-- the clipped run, by its ends
pub clip-ends : (first last : ℤ) (r : Run) {low high cut root : ℤ} → low ≡ max_z first r.low → high ≡ min_z last r.high → cut ≡ low -ℤ r.low
    → root ≡ r.root +ℤ cut → record { root = root; low = low; high = high } ≡ clip first last r
unfolding clip
clip-ends first last r a b c d = cc

-- what is left has exactly the bits that lie there, each with its root bit
pub clip-exact : (first last : ℤ) (r : Run) (c : Option Held) → living_of c ≡ living (clip first last r) → ClippedTo first last r c
clip-exact first last r c = left_exact (clip first last r) c (clip-bits first last r) (clip-joins first last r)

-- a run clipped at a first and a last bit that were read
pub clip-read : {first last low high : ℤ} {s r : Run} → first ≡ low → last ≡ high → s ≡ r → clip first last s ≡ clip low high r
clip-read f l p = cc

-- what is left of a run that can be clipped is small
pub clip-small : (first last : ℤ) {r : Run} → Clippable r → SmallExtent first last → T (not (empty (clip first last r))) → SmallRun (clip first last r)
unfolding clip
clip-small first last {r} fits extent t =
    let low = max_z first r.low in
    let high = min_z last r.high in
    let full : low ≤ℤ high = empty_not (clip first last r) t in
    let up = max_is first r.low in
    let down = min_is last r.high in
    let cut = diff low r.low in
    let size = diff r.high r.low in
    let size-after = diff high low in
    let end = sum r.root (r.high -ℤ r.low) in
    let root = sum r.root (low -ℤ r.low) in
    let end_after = sum (r.root +ℤ (low -ℤ r.low)) (high -ℤ low) in
    record {
      root = omega (arith, ints, fits.root, up.1);
      low = omega (arith, ints, extent.low, up.0);
      full = full;
      high = omega (arith, ints, extent.high, down.0);
      last = omega (arith, ints, fits.last, down.1);
    }

-- the ends of a clipped run lie from `first` to `last`
pub clip-inside : (first last : ℤ) (r : Run) → (first ≤ℤ (clip first last r).low) × ((clip first last r).high ≤ℤ last)
unfolding clip
clip-inside first last r = ((max_is first r.low).0, (min_is last r.high).0)

-- its root bits are some of those of the run
pub clip-roots : (first last : ℤ) (r : Run)
    → (r.root ≤ℤ (clip first last r).root)
    × (((clip first last r).root +ℤ ((clip first last r).high -ℤ (clip first last r).low)) ≤ℤ (r.root +ℤ (r.high -ℤ r.low)))
unfolding clip
clip-roots first last r =
    let low = max_z first r.low in
    let high = min_z last r.high in
    let up = max_is first r.low in
    let down = min_is last r.high in
    let cut = diff low r.low in
    let size = diff r.high r.low in
    let size-after = diff high low in
    let end = sum r.root (r.high -ℤ r.low) in
    let root = sum r.root (low -ℤ r.low) in
    let end_after = sum (r.root +ℤ (low -ℤ r.low)) (high -ℤ low) in
    (omega (arith, ints, up.1), omega (arith, ints, down.1))
