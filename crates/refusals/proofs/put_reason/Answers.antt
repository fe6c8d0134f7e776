-- The numbers that are written are those of the reason, and small.
use mathlib.Core.Path.{sym, subst}
use native.Mathlib.Omega.{arith}
use Rattle.refusals.specs.Small.{refusal_numbers, last_of_sheet, SmallRefusal}
use Rattle.refusals.proofs.put_reason.Goals.{After-from-number}
use Rattle.refusals.proofs.put_reason.Goals as goal

small : (n : After-from-number) → SmallRefusal last_of_sheet (refusal_numbers n.from-number.result)
small n = subst (SmallRefusal last_of_sheet) (sym n.from-number.ensures) n.requires.1

pub put_refusal-requires : goal.put_refusal-requires
put_refusal-requires c =
    let s = small (goal.at.put_refusal-requires c).After-from-number in
    (c.requires.0, omega (arith, s.number), omega (arith, s.table), omega (arith, s.row))

pub returns : goal.returns
returns c = rw c.from-number.ensures at c.put_refusal.ensures
