-- A field that is not the first has a space before its number, which goes into what remains of the buffer.
use mathlib.Core.Path.{◌≡◌, ap}
use mathlib.Core.List.{◌∷◌}
use Prim.Native.Nat.{◌+◌, ◌≤◌}
use native.Mathlib.Omega.{arith}
use lib.ListN.{length, set, length-set}
use mir.Facts.{to_z-of_z}
use Rattle.model.specs.Bytes.{blank, shown}
use Rattle.report.specs.Put.{field_at}
use Rattle.report.proofs.Lines.{field_first, field_later}
use Rattle.report.proofs.Tail.{tail_length, put_behind, put_length}
use Rattle.report.proofs.put_field.Goals.{Else-place-eq0, Then-place-eq0}
use Rattle.report.proofs.put_field.Goals as goal

first-line : (c : Then-place-eq0) → field_at c.args.place c.args.v ≡ shown c.args.v
first-line c = let s = c.args in field_first s.place s.v c.if-place-eq0.true

module _ (c : Else-place-eq0) where
  line : field_at c.args.place c.args.v ≡ blank ∷ shown c.args.v
  line = let s = c.args in field_later s.place s.v c.if-place-eq0.false

  room : 1 + length (shown c.args.v) ≤ length c.args.out.now
  room = omega (arith, ap length line, c.requires)

pub put_number-requires : goal.put_number-requires
put_number-requires c = rw (to_z-of_z c.ranges.v) (omega (arith, ap length (first-line (goal.at.put_number-requires c).Then-place-eq0)))

pub returns-then-place-eq0 : goal.returns-then-place-eq0
returns-then-place-eq0 c =
    rw (first-line (goal.at.returns-then-place-eq0 c).Then-place-eq0) (rw (to_z-of_z c.ranges.v) at c.put_number.ensures)

pub bounds-out-0 : goal.bounds-out-0
bounds-out-0 c = omega (arith, room c)

pub slice_bounds-put_number-count : goal.slice_bounds-put_number-count
slice_bounds-put_number-count c = rw length-set (omega (arith, room c))

pub slice_bounds-put_number-start : goal.slice_bounds-put_number-start
slice_bounds-put_number-start c = rw length-set (omega (arith, room c))

pub put_number-requires-2 : goal.put_number-requires-2
put_number-requires-2 c =
    rw (to_z-of_z c.ranges.v, tail_length (set c.args.out.now 0 blank) 1, length-set) (omega (arith, room (goal.at.put_number-requires-2 c).Else-place-eq0))

pub overflow_add-result : goal.overflow_add-result
overflow_add-result c =
    omega (arith, rw (to_z-of_z c.ranges.v) at c.put_number-2.ensures.count, room (goal.at.overflow_add-result c).Else-place-eq0)

pub returns : goal.returns
returns c =
    rw (line (goal.at.returns c).Else-place-eq0) (put_behind blank (omega (arith, room (goal.at.returns c).Else-place-eq0)) (rw (to_z-of_z c.ranges.v) at c.put_number-2.ensures))

pub shape_of-out : goal.shape_of-out
shape_of-out c = put_length (returns c) c.requires
