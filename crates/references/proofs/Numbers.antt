-- The numbers that records, their runs and the displacements that reach are computed with fit in 64 bits.
use mathlib.Core.Path.{◌≡◌}
use Prim.Native.Nat.{◌^◌}
use native.Mathlib.Omega.{arith}
use lib.IntN.{ℤ, pos, ◌+ℤ◌, ◌-ℤ◌}
use Rattle.integers.proofs.Linear.{ints, sum, diff, neg}
use Rattle.model.specs.Bitmapping.{Record}
use Rattle.model.specs.Runs.{Run}
use Rattle.model.specs.Quantities.{Movable}
use Rattle.runs.specs.Clipping.{SmallRun}
use Rattle.extents.specs.Extents.{SmallAddress}
use Rattle.references.specs.References.{SmallRecord}

-- ---- a small run

module _ {r : Run} (small : SmallRun r) where
  -- the low end can be taken from the root bit
  pub root_movable : Movable r.root r.low
  root_movable =
      let size = diff r.high r.low in
      let end = sum r.root (r.high -ℤ r.low) in
      record {
        low = small.root;
        high = omega (arith, ints, small.full, small.last);
        offset_low = omega (arith, ints, small.low, neg (pos (2 ^ 62)));
        offset_high = omega (arith, ints, small.full, small.high);
      }

  -- the last root bit can be taken from a bit address, as can the bit before the first
  pub last_movable : {a end : ℤ} → SmallAddress a → end ≡ r.root +ℤ (r.high -ℤ r.low) → Movable a end
  last_movable k e =
      let apart = diff r.high r.low in
      let last = sum r.root (r.high -ℤ r.low) in
      record {
        low = k.low;
        high = k.high;
        offset_low = omega (arith, ints, e, small.root, small.full, neg (pos (2 ^ 62)));
        offset_high = omega (arith, ints, e, small.last);
      }

  pub root_previous : Movable r.root (pos 1)
  root_previous =
      record {
        low = root_movable.low;
        high = root_movable.high;
        offset_low = omega (arith, ints, neg (pos (2 ^ 62)));
        offset_high = omega (arith, ints);
      }

  pub previous_movable : {a before : ℤ} → SmallAddress a → before ≡ r.root -ℤ pos 1 → Movable a before
  previous_movable k e =
      let less = diff r.root (pos 1) in
      record {
        low = k.low;
        high = k.high;
        offset_low = omega (arith, ints, e, small.root, neg (pos (2 ^ 62)));
        offset_high = omega (arith, ints, e, root_movable.high);
      }

-- ---- a small record

module _ {s : Record} (within : SmallRecord s) where
  -- the bit addresses at the node of the ends of a record can be computed
  pub first_movable : Movable s.first s.displacement
  first_movable =
      let first = diff s.first s.displacement in
      let last = diff s.last s.displacement in
      record {
        low = within.low;
        high = omega (arith, ints, within.full, within.high);
        offset_low = omega (arith, ints, within, neg (pos (2 ^ 62)));
        offset_high = omega (arith, ints, within);
      }

  pub end_movable : Movable s.last s.displacement
  end_movable =
      record {
        low = omega (arith, ints, within.full, within.low);
        high = within.high;
        offset_low = first_movable.offset_low;
        offset_high = first_movable.offset_high;
      }
