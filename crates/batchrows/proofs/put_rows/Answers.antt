use mathlib.Core.Path.{◌≡◌, sym, ap, ◌∙◌}
use mathlib.Core.Bool.{Bool, true, false}
use mathlib.Core.List.{[], ◌∷◌}
use Prim.Native.Nat.{◌+◌, ◌*◌, ◌≤◌}
use native.Mathlib.Omega.{arith}
use borrow.Author.Rules.{rules}
use lib.IntN.{pos}
use lib.ListN.{length, get_or, length-append}
use mir.Syntax.{w64}
use mir.Val.{SFits}
use mir.Facts.{to_z-of_z}
use Rattle.model.specs.Limits.{batch_width}
use Rattle.model.specs.Verdicts.{has_bit}
use Rattle.batches.specs.Batch.{batch_numbers}
use Rattle.batches.specs.Buffers.{rows_over}
use Rattle.verdicts.specs.Records.{as_record}
use Rattle.batches.proofs.Rows.{row_of, has_bit_true}
use Rattle.batches.proofs.Turns.{rows_to, rows_none, rows_all, rows-to-few, rows_hit, rows_miss, rows_hit_few, over-more}
use Rattle.batchrows.proofs.put_rows.Goals.{After-has_bit, After-put_row-arg-1, then-has_bit, else-has_bit}
use Rattle.batchrows.proofs.put_rows.Goals as goal

pub loop-place-init : goal.loop-place-init
unfolding batch_numbers
loop-place-init c = let none = rows_none (as_record c.args.s) c.args.addresses.now in (sym (ap length none), sym (ap (λ ts. rows_over ts c.args.out.now) none))

-- the record has the address at this place where the test says so
hit : (c : After-has_bit) → (b : Bool) → c.has_bit.result ≡ b → has_bit (get_or c.args.addresses.now c.loop-place.place (pos 0)) (as_record c.args.s) ≡ b
hit c b e =
    let f : SFits w64 (get_or c.args.addresses.now c.loop-place.place (pos 0)) = search rules in
    sym (rw (to_z-of_z f) at c.has_bit.ensures) ∙ e

-- one row more than those before has room
room : (c : After-put_row-arg-1) → batch_width * c.loop-place.rows + batch_width ≤ length c.args.out.now
room c =
    let here = c.loop-place-test.true in
    omega (arith, c.loop-place.invariant.0, rows_hit_few (as_record c.args.s) c.args.addresses.now here (hit (goal.at.After-put_row-arg-1 c).After-has_bit true c.if-has_bit.true), c.requires.2)

pub leaf_bit-requires : goal.leaf_bit-requires
leaf_bit-requires c =
    let x = get_or c.args.addresses.now c.loop-place.place (pos 0) in
    let f : SFits w64 x = search rules in
    let has = has_bit_true x (as_record c.args.s) (hit (goal.at.leaf_bit-requires c).After-has_bit true c.if-has_bit.true) in
    rw (to_z-of_z f) (c.requires.0 x has.above has.below)

pub put_row-requires : goal.put_row-requires
put_row-requires c =
    let few = rows-to-few (as_record c.args.s) c.args.addresses.now {i = c.loop-place.place} (omega arith) in
    (omega (arith, room (goal.at.put_row-requires c).After-put_row-arg-1), omega (arith, few, c.loop-place.invariant.0, c.requires.1))

pub overflow_add-rows : goal.overflow_add-rows
overflow_add-rows c = omega (arith, room (goal.at.overflow_add-rows c).After-put_row-arg-1)

pub loop-place-preserved : goal.loop-place-preserved
loop-place-preserved c =
    let s = as_record c.args.s in
    let xs = c.args.addresses.now in
    let here = c.loop-place-test.true in
    let x = get_or xs c.loop-place.place (pos 0) in
    let row = row_of s c.loop-place.place x in
    let f : SFits w64 x = search rules in
    elim c.if-has_bit.branch [
      | then-has_bit w ↦
          let old = c.args.out.now in
          let before = rows_to s xs c.loop-place.place in
          let has = hit (goal.at.loop-place-preserved c).After-has_bit true w.if-has_bit.true in
          let one = rows_hit s xs here has in
          let bit : w.leaf_bit.result.0 ≡ row.bit = rw (to_z-of_z f) at w.leaf_bit.ensures in
          let wide : batch_width * c.loop-place.rows + batch_width ≤ length old = omega (arith, c.loop-place.invariant.0, rows_hit_few s xs here has, c.requires.2) in
          let more = over-more before row old c.loop-place.rows c.loop-place.invariant.0 wide in (
            w.rows-is ∙ omega (arith, c.loop-place.invariant.0, ap length one, length-append before (row ∷ [])),
            w.out-is ∙ w.put_row.ensures ∙ rw (c.loop-place.invariant.1, bit) (more ∙ sym (ap (λ ts. rows_over ts old) one)),
          )
      | else-has_bit w ↦
          let none = rows_miss s xs here (hit (goal.at.loop-place-preserved c).After-has_bit false w.if-has_bit.false) in
          (w.rows-is ∙ c.loop-place.invariant.0 ∙ sym (ap length none), w.out-is ∙ c.loop-place.invariant.1 ∙ sym (ap (λ ts. rows_over ts c.args.out.now) none))
    ]

pub returns : goal.returns
returns c =
    c.loop-place.invariant.1 ∙ ap (λ ts. rows_over ts c.args.out.now) (rows_all (as_record c.args.s) c.args.addresses.now c.loop-place-test.false)
