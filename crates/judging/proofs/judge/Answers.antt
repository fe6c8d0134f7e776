-- The verdict is that of the rows, and the address is looked for by it.
use mathlib.Core.Path.{◌∙◌}
use mir.Syntax.{w64}
use mir.Val.{SFits}
use mir.Facts.{to_z-of_z}
use borrow.Author.Rules.{rules}
use Rattle.judging.proofs.judge.Goals as goal

pub returns : goal.returns
returns c l m p q e f =
    let fits : SFits w64 c.lowest_of_rows.result = search rules in
    record { verdict = c.verdict_of_rows-verdict.ensures l m p q e f; address = λ a. to_z-of_z fits ∙ c.lowest_of_rows.ensures l m p q e f a (c.verdict_of_rows-verdict.ensures l m p q e f) }
