-- A negative number has a minus before its digits, which go into what remains of the buffer.
use mathlib.Core.Path.{◌≡◌, sym, ap}
use mathlib.Core.List.{◌∷◌}
use Prim.Native.Nat.{◌+◌, ◌≤◌}
use native.Mathlib.Omega.{arith}
use lib.IntN.{nat_abs}
use lib.ListN.{length, set, length-set}
use mir.Facts.{to_z-of_z}
use Rattle.model.specs.Bytes.{dash, digits, shown}
use Rattle.report.proofs.Digits.{shown-negative, shown-other}
use Rattle.report.proofs.Distance.{negative-held, other-held}
use Rattle.report.proofs.Tail.{tail_length, put_behind, put_length}
use Rattle.report.proofs.put_number.Goals.{After-magnitude-m, Else-v-lt0, Then-v-lt0}
use Rattle.report.proofs.put_number.Goals as goal

distance : (c : After-magnitude-m) → nat_abs c.args.v ≡ c.magnitude-m.result
distance c = sym (rw (to_z-of_z c.ranges.v) at c.magnitude-m.ensures)

module _ (c : Then-v-lt0) where
  line : shown c.args.v ≡ dash ∷ digits 20 c.magnitude-m.result
  line =
      rw (distance (goal.at.bounds-out-0 c).After-magnitude-m) at (shown-negative c.args.v (negative-held c.ranges.v c.if-v-lt0.true))

  room : 1 + length (digits 20 c.magnitude-m.result) ≤ length c.args.out.now
  room = omega (arith, ap length line, c.requires)

other-line : (c : Else-v-lt0) → shown c.args.v ≡ digits 20 c.magnitude-m.result
other-line c =
    rw (distance (goal.at.Else-v-lt0 c).After-magnitude-m) at (shown-other c.args.v (other-held c.ranges.v c.if-v-lt0.false))

pub bounds-out-0 : goal.bounds-out-0
bounds-out-0 c = omega (arith, room c)

pub slice_bounds-put_digits-count : goal.slice_bounds-put_digits-count
slice_bounds-put_digits-count c = rw length-set (omega (arith, room c))

pub slice_bounds-put_digits-start : goal.slice_bounds-put_digits-start
slice_bounds-put_digits-start c = rw length-set (omega (arith, room c))

pub put_digits-requires : goal.put_digits-requires
put_digits-requires c =
    let out = c.args.out.now in
    rw (tail_length (set out 0 dash) 1, length-set) (omega (arith, room (goal.at.put_digits-requires c).Then-v-lt0))

pub overflow_add-result : goal.overflow_add-result
overflow_add-result c =
    omega (arith, c.put_digits.ensures.count, room (goal.at.overflow_add-result c).Then-v-lt0)

pub returns-then-v-lt0 : goal.returns-then-v-lt0
returns-then-v-lt0 c =
    rw (line (goal.at.returns-then-v-lt0 c).Then-v-lt0) (put_behind dash (omega (arith, room (goal.at.returns-then-v-lt0 c).Then-v-lt0)) c.put_digits.ensures)

pub shape_of-out-then-v-lt0 : goal.shape_of-out-then-v-lt0
shape_of-out-then-v-lt0 c = put_length (returns-then-v-lt0 c) c.requires

pub put_digits-requires-2 : goal.put_digits-requires-2
put_digits-requires-2 c = omega (arith, ap length (other-line (goal.at.put_digits-requires-2 c).Else-v-lt0))

pub returns : goal.returns
returns c = rw (other-line (goal.at.returns c).Else-v-lt0) c.put_digits-2.ensures
