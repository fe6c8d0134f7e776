-- The names go to the front of the buffer and the three numbers into what remains of it.
use mathlib.Core.Path.{◌≡◌, refl}
use mathlib.Core.List.{List, [], ◌∷◌}
use Prim.Native.Nat.{ℕ, ◌+◌, ◌^◌, ◌≤◌, ◌<◌}
use native.Mathlib.Omega.{arith}
use lib.IntN.{ℤ, pos}
use lib.ListN.{length}
use mir.Syntax.{w64}
use mir.Val.{to_z}
use mir.Facts.{to_z-of_z}
use Rattle.integers.proofs.Range.{fits64}
use Rattle.model.specs.Bytes.{bytes}
use Rattle.model.specs.Report.{line_of}
use Rattle.report.proofs.Lines.{refusal_parts, refusal-within}
use Rattle.report.proofs.Tail.{tail_length, put_tail}
use Rattle.report.proofs.put_refusal.Goals.{Start}
use Rattle.report.proofs.put_refusal.Goals as goal

-- a number below 2^32, as the code has it in an i64
cast : (n : ℕ) → n < 2 ^ 32 → to_z w64 n ≡ pos n
cast n h = to_z-of_z {w = w64} {z = pos n} (fits64 (omega arith))

module _ (c : Start) where
  abbrev numbers : List ℤ
  numbers = to_z w64 c.args.number ∷ to_z w64 c.args.table ∷ to_z w64 c.args.row ∷ []

  abbrev shown-numbers : List ℤ
  shown-numbers = pos c.args.number ∷ pos c.args.table ∷ pos c.args.row ∷ []

  casts : numbers ≡ shown-numbers
  casts = rw (cast c.args.number c.requires.1, cast c.args.table c.requires.2, cast c.args.row c.requires.3) refl

  room : length (bytes "refusal table row\n") + length (line_of shown-numbers) ≤ length c.args.out.now
  room = omega (arith, refusal-within c.args.number c.args.table c.args.row c.requires.1 c.requires.2 c.requires.3, c.requires.0)

pub put_refusal_heading-at-requires : goal.put_refusal_heading-at-requires
put_refusal_heading-at-requires c = omega (arith, room (goal.at.put_refusal_heading-at-requires c).Start)

pub slice_bounds-put_numbers-count : goal.slice_bounds-put_numbers-count
slice_bounds-put_numbers-count c =
    omega (arith, room (goal.at.slice_bounds-put_numbers-count c).Start, c.put_refusal_heading-at.ensures.count, c.put_refusal_heading-at.auto.out)

pub slice_bounds-put_numbers-start : goal.slice_bounds-put_numbers-start
slice_bounds-put_numbers-start c =
    omega (arith, room (goal.at.slice_bounds-put_numbers-start c).Start, c.put_refusal_heading-at.ensures.count, c.put_refusal_heading-at.auto.out)

pub put_numbers-requires : goal.put_numbers-requires
put_numbers-requires c =
    rw (casts (goal.at.put_numbers-requires c).Start, tail_length c.put_refusal_heading-at.new.out c.put_refusal_heading-at.result)
    (omega (arith, room (goal.at.put_numbers-requires c).Start, c.put_refusal_heading-at.ensures.count, c.put_refusal_heading-at.auto.out))

pub overflow_add-result : goal.overflow_add-result
overflow_add-result c =
    omega (arith, room (goal.at.overflow_add-result c).Start, c.put_refusal_heading-at.ensures.count, rw (casts (goal.at.overflow_add-result c).Start) at c.put_numbers.ensures.count)

pub returns : goal.returns
returns c =
    rw (refusal_parts c.args.number c.args.table c.args.row) (put_tail c.put_refusal_heading-at.ensures (rw (casts (goal.at.returns c).Start) at c.put_numbers.ensures))
