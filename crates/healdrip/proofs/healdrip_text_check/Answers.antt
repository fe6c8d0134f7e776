-- The length, which is below 2^63 since the report fits its buffer, or the code of the refusal.
use Rattle.std.proofs.Common.{◌≡◌, sym, ap, ◌∙◌, ◌<◌, ◌^◌}
use native.Mathlib.Omega.{arith}
use Rattle.integers.proofs.Range.{fits64}
use Rattle.model.specs.Calls.{refused, full}
use Rattle.model.specs.Answers.{refusal_of, written_answer}
use Rattle.model.specs.TextCheck.{coded, text_gives}
use Rattle.textcheck.proofs.Promises.{text_promise}
use Rattle.refusals.proofs.Checks.{small_wide}
use Rattle.refusals.proofs.Texts.{gives_small, gives_held}
use Rattle.healdrip.proofs.Codes.{coded_length}
use Rattle.healdrip.proofs.healdrip_text_check.Goals as goal
use Rattle.healdrip.proofs.healdrip_text_check.Goals.{In-Ok, In-Err}

-- a report's length
counted : (c : In-Ok) → full c.in-Ok.n ≡ text_gives c.args.text.now c.args.report.now
counted c = ap written_answer (sym c.in-Ok.is) ∙ c.text_check.ensures.answer

low : (c : In-Ok) → c.in-Ok.n < 2 ^ 63
low c = omega (arith, gives_held c.args.text.now c.args.report.now (counted c), c.well_formed)

-- a refusal
told : (c : In-Err) → refused (refusal_of c.in-Err.reason) ≡ text_gives c.args.text.now c.args.report.now
told c = ap written_answer (sym c.in-Err.is) ∙ c.text_check.ensures.answer

pub overflow_cast-result : goal.overflow_cast-result
overflow_cast-result c = fits64 (omega (arith, low (goal.at.overflow_cast-result c).In-Ok))

pub negative_code-requires : goal.negative_code-requires
negative_code-requires c =
    rw c.from.ensures (small_wide (gives_small c.args.text.now c.args.report.now (told (goal.at.negative_code-requires c).In-Err)))

pub returns-in-Ok : goal.returns-in-Ok
returns-in-Ok c =
    let i = (goal.at.returns-in-Ok c).In-Ok in
    text_promise coded c.args.text.now c.args.report.now (coded_length c.args.text.now c.args.report.now (low i) (counted i)) c.text_check.ensures.buffer
