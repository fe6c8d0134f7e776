-- Each case of the answer that the reader of sheets promises has its number.
use Rattle.std.specs.Prelude.{Result}
use mathlib.Core.Path.{◌≡◌, sym, ap, ◌∙◌}
use borrow.Author.Rules.{rules}
use mir.Syntax.{w64}
use mir.Val.{SFits}
use mir.Facts.{to_z-of_z}
use Rattle.model.specs.Refusals as model
use Rattle.model.specs.Calls.{refused}
use Rattle.model.specs.TextCheck.{coded}
use Rattle.model.specs.Answers.{refusal_of, sheet_read_answer}
use Rattle.model.specs.SheetCall.{sheet_gives}
use Rattle.model.specs.declared.SheetSizes.{SheetSizes}
use Rattle.model.specs.declared.Reason.{Reason}
use Rattle.refusals.proofs.Sheets.{sheet_small}
use Rattle.benchcalls.specs.Summary.{tables}
use Rattle.benchcalls.proofs.benchcalls_read_sheet.Goals.{In-Err}
use Rattle.benchcalls.proofs.benchcalls_read_sheet.Goals as goal

-- the refusal that was given
told : (c : In-Err) → refused (refusal_of c.in-Err.reason) ≡ sheet_gives c.args.text.now c.args.nodes.now c.args.edges.now
told c = ap sheet_read_answer (sym c.in-Err.is) ∙ c.read_sheet.ensures.answer

pub negative_code-requires : goal.negative_code-requires
negative_code-requires c =
    rw c.from.ensures (sheet_small c.args.text.now c.args.nodes.now c.args.edges.now (told (goal.at.negative_code-requires c).In-Err))

pub returns-in-Ok-clause-returned : goal.returns-in-Ok-clause-returned
unfolding tables
returns-in-Ok-clause-returned c =
    let fits : SFits w64 c.lengths_of.result = search rules in
    to_z-of_z fits ∙ c.lengths_of.ensures ∙ ap (λ (x : Result SheetSizes Reason). tables (sheet_read_answer x)) (sym c.in-Ok.is) ∙ ap tables c.read_sheet.ensures.answer

pub returns-in-Err-clause-returned : goal.returns-in-Err-clause-returned
unfolding tables
returns-in-Err-clause-returned c =
    let fits : SFits w64 c.negative_code.result = search rules in
    to_z-of_z fits ∙ c.negative_code.ensures ∙ ap (λ (x : model.Refusal). coded (refused x)) c.from.ensures
    ∙ ap tables (told (goal.at.returns-in-Err-clause-returned c).In-Err)
