-- There is a row for each address that the record has.
use mathlib.Core.Path.{◌≡◌, sym, ap, ◌∙◌}
use mathlib.Core.Bool.{Bool, true, false}
use mathlib.Core.List.{[], ◌∷◌}
use native.Mathlib.Omega.{arith}
use borrow.Author.Rules.{rules}
use lib.IntN.{pos}
use lib.ListN.{length, get_or, length-append}
use mir.Syntax.{w64}
use mir.Val.{SFits}
use mir.Facts.{to_z-of_z}
use Rattle.model.specs.Verdicts.{has_bit}
use Rattle.verdicts.specs.Records.{as_record}
use Rattle.batches.proofs.Rows.{row_of}
use Rattle.batches.proofs.Turns.{rows_to, rows_none, rows_all, rows-to-few, rows_hit, rows_miss}
use Rattle.batchrows.proofs.count_rows.Goals.{After-has_bit, then-has_bit, else-has_bit}
use Rattle.batchrows.proofs.count_rows.Goals as goal

pub loop-address-init : goal.loop-address-init
loop-address-init c = sym (ap length (rows_none (as_record c.args.s) c.args.addresses.now))

-- the record has the address at this place where the test says so
hit : (c : After-has_bit) → (b : Bool) → c.has_bit.result ≡ b → has_bit (get_or c.args.addresses.now c.loop-address.address-index (pos 0)) (as_record c.args.s) ≡ b
hit c b e =
    let f : SFits w64 (get_or c.args.addresses.now c.loop-address.address-index (pos 0)) = search rules in
    sym (rw (to_z-of_z f) at c.has_bit.ensures) ∙ e

pub overflow_add-rows : goal.overflow_add-rows
overflow_add-rows c =
    omega (arith, rows-to-few (as_record c.args.s) c.args.addresses.now {i = c.loop-address.address-index} (omega arith), c.loop-address.invariant)

pub loop-address-preserved : goal.loop-address-preserved
loop-address-preserved c =
    let s = as_record c.args.s in
    let xs = c.args.addresses.now in
    let here = c.loop-address-test.true in
    let i = c.loop-address.address-index in
    let row = row_of s i (get_or xs i (pos 0)) in
    elim c.if-has_bit.branch [
      | then-has_bit w ↦
          let one = rows_hit s xs here (hit (goal.at.loop-address-preserved c).After-has_bit true w.if-has_bit.true) in
          w.rows-is ∙ omega (arith, c.loop-address.invariant, ap length one, length-append (rows_to s xs i) (row ∷ []))
      | else-has_bit w ↦
          let none = rows_miss s xs here (hit (goal.at.loop-address-preserved c).After-has_bit false w.if-has_bit.false) in
          w.rows-is ∙ c.loop-address.invariant ∙ sym (ap length none)
    ]

pub returns : goal.returns
returns c = c.loop-address.invariant ∙ ap length (rows_all (as_record c.args.s) c.args.addresses.now c.loop-address-test.false)
