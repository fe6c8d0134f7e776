-- Small runs: their records are computed with numbers of 64 bits, and every run that a small run becomes along a path of a taken graph is small.
use mathlib.Core.Path.{◌≡◌, refl, sym, subst}
use mathlib.Core.Bool.{Bool, true, false, not}
use mathlib.Core.List.{List, ◌∷◌, map}
use Prim.Native.Nat.{◌^◌}
use native.Mathlib.Omega.{arith}
use lib.Dec.{T, not_T, T_not}
use lib.IntN.{ℤ, pos, ◌+ℤ◌, ◌-ℤ◌}
use lib.Signed.{◌<ℤ◌}
use Rattle.integers.proofs.Linear.{ints, sum, diff, neg}
use Rattle.lists.proofs.Membership.{map_out}
use Rattle.model.specs.declared.WalkKind.{WalkKind}
use Rattle.model.specs.Rows.{Node, Edge}
use Rattle.model.specs.Graph.{Graph, NodeRow, node, first_bit}
use Rattle.model.specs.Refusals.{BadNode}
use Rattle.model.specs.Paths.{Way, stay, over}
use Rattle.model.specs.Quantities.{Addable, Movable}
use Rattle.model.specs.Runs.{Run, empty, is_open, whole, across, along, runs, record_of}
use Rattle.model.specs.Taken.{Taken}
use Rattle.model.proofs.Steps.{along-empty, empty-none}
use Rattle.model.proofs.Paths.{paths-sound}
use Rattle.model.proofs.Walks.{runs_out}
use Rattle.normalisation.specs.Merging.{SmallLast, AllSmallLast}
use Rattle.tables.proofs.Limits.{first-address}
use Rattle.runs.specs.Clipping.{SmallRun}
use Rattle.extents.specs.Extents.{SmallAddress}
use Rattle.extents.proofs.Bounds.{bits_small, whole_open, whole-closed, across-small}
use Rattle.listing.specs.Listing.{run_row}

-- ---- the row of a run

module _ {r : Run} (s : SmallRun r) where
  -- it has a bit
  pub small-some : T (not (empty r))
  small-some = not_T (empty r) (λ t. empty-none r r.low t (record { above = omega (arith, ints); below = s.full }))

  -- its low end is a small address
  pub low_small : SmallAddress r.low
  low_small = record { low = s.low; high = omega (arith, ints, s.full, s.high) }

  -- its root bit lies below 2^62
  root-small : r.root <ℤ pos (2 ^ 62)
  root-small = omega (arith, ints, s.full, s.last, diff r.high r.low, sum r.root (r.high -ℤ r.low))

  -- the root bit less the leaf bit of the low end
  pub displacement_movable : (n : Node) → (BadNode n → ⊥) → {bit : ℤ} → bit ≡ r.low -ℤ first_bit n → Movable r.root bit
  displacement_movable n good e =
      let first = first-address good in
      let apart = diff r.low (first_bit n) in
      let low = low_small in
      record {
        low = s.root;
        high = root-small;
        offset_low = omega (arith, ints, e, apart, low.low, first.1, neg (pos (2 ^ 62)));
        offset_high = omega (arith, ints, e, apart, low.high, first.0);
      }

  -- the high end less the low end
  pub size_movable : Movable r.high r.low
  size_movable =
      let low = low_small in
      record {
        low = omega (arith, ints, s.low, s.full);
        high = s.high;
        offset_low = omega (arith, ints, low.low, neg (pos (2 ^ 62)));
        offset_high = omega (arith, ints, low.high);
      }

  -- the root bit and the size
  pub last_addable : {size : ℤ} → size ≡ r.high -ℤ r.low → Addable r.root size
  last_addable {size} e =
      let apart = diff r.high r.low in
      let last = sum r.root size in
      let before = sum r.root (r.high -ℤ r.low) in
      record {
        low = omega (arith, ints, e, s.root, s.full, neg (pos (2 ^ 62)));
        high = omega (arith, ints, e, s.last);
      }

  -- its record is small
  record_small : (n : Node) → SmallLast (record_of n r)
  unfolding record_of
  record_small n =
      record { full = omega (arith, ints, s.full, diff r.high r.low, sum r.root (r.high -ℤ r.low)); high = s.last }

-- the row by its numbers
pub row-numbers : (n : Node) (r : Run) {bit displacement size last : ℤ} → bit ≡ r.low -ℤ first_bit n → displacement ≡ r.root -ℤ bit
    → size ≡ r.high -ℤ r.low → last ≡ r.root +ℤ size
    → record { first = displacement; second = r.root; third = last } ≡ run_row n r
unfolding record_of
row-numbers n r a b c d = cc

-- ---- runs along paths

-- a small run of which bits are left along a way is small at its end: bits were left at each edge, since from an empty run none come
along-small : (kind : WalkKind) {g : Graph} {v w : ℤ} {p : List Edge} {r : Run} → Taken g → Way g v p w → SmallRun r → T (not (empty (along kind g p r)))
    → SmallRun (along kind g p r)
unfolding along
along-small kind taken stay s t = s
along-small kind {g} {p = d ∷ p} {r} taken (over e m q y) s t =
    let entered = not_T (empty (across kind g e r)) (λ h. T_not (empty (along kind g p (across kind g e r))) t (along-empty kind g p (across kind g e r) h)) in
    along-small kind taken y (across-small taken m kind s entered) t

-- the bits of a root on which a walk may stand are a small run where there are any
whole-small : (kind : WalkKind) (n : Node) → (BadNode n → ⊥) → T (not (empty (whole kind n))) → SmallRun (whole kind n)
whole-small kind n good t = go (is_open kind n) refl
  where
    go : (b : Bool) → b ≡ is_open kind n → SmallRun (whole kind n)
    go true e = subst SmallRun (whole_open kind n e) (bits_small n good)
    go false e = absurd (T_not (empty (whole kind n)) t (whole-closed kind n e))

-- the records of all runs of a root of a taken graph are small
pub runs-small : (kind : WalkKind) {g : Graph} {r : ℤ} (l : ℤ) → Taken g → NodeRow g r → AllSmallLast (map (record_of (node g l)) (runs kind g r l))
runs-small kind {g} {r} l taken row s m =
    let u = map_out (record_of (node g l)) (runs kind g r l) m in
    let p = runs_out kind g r l u.1 in
    let some = subst (λ (x : Run). T (not (empty x))) p.2 p.3 in
    let all = whole kind (node g r) in
    let start = not_T (empty all) (λ h. T_not (empty (along kind g p.0 all)) some (along-empty kind g p.0 all h)) in
    let small = along-small kind taken (paths-sound p.1) (whole-small kind (node g r) (taken.good r row) start) some in
    subst SmallLast (sym u.2) (record_small (subst SmallRun (sym p.2) small) (node g l))
