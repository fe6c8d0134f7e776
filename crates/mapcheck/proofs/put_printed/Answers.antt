-- The report stands in the buffer, or the refusal is put there, which the text check left untouched.
use Rattle.std.proofs.Common.{◌≡◌, sym, ap, ◌∙◌}
use native.Mathlib.Omega.{arith}
use Rattle.model.specs.Calls.{refused}
use Rattle.model.specs.Answers.{written_answer, refusal_of}
use Rattle.model.specs.TextCheck.{text_gives}
use Rattle.refusals.proofs.Checks.{small_wide}
use Rattle.refusals.proofs.Texts.{gives_small}
use Rattle.mapcheck.proofs.Printing.{printed-report, printed_untouched, printed-refusal}
use Rattle.mapcheck.proofs.put_printed.Goals as goal
use Rattle.mapcheck.proofs.put_printed.Goals.{In-Err}

-- the refusal that was given
told : (c : In-Err) → refused (refusal_of c.in-Err.reason) ≡ text_gives c.args.text.now c.args.out.now
told c = ap written_answer (sym c.in-Err.is) ∙ c.text_check.ensures.answer

pub put_reason-requires : goal.put_reason-requires
put_reason-requires c = (omega (arith, c.text_check.auto.report, c.requires), small_wide (gives_small c.args.text.now c.args.out.now (told (goal.at.put_reason-requires c).In-Err)))

pub returns-in-Ok : goal.returns-in-Ok
returns-in-Ok c =
    printed-report c.args.text.now c.args.out.now c.requires c.text_check.ensures.buffer (ap written_answer (sym c.in-Ok.is) ∙ c.text_check.ensures.answer)

pub returns-in-Err : goal.returns-in-Err
returns-in-Err c =
    let t = told (goal.at.returns-in-Err c).In-Err in
    rw (printed-refusal c.args.text.now c.args.out.now c.requires c.text_check.ensures.buffer t)
    (rw (printed_untouched c.args.text.now c.args.out.now c.requires c.text_check.ensures.buffer t) at c.put_reason.ensures)
