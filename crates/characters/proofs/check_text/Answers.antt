-- Each way out is the outcome of the tests on it.
use mathlib.Core.Path.{sym, ap, ◌∙◌}
use Prim.Native.Nat.{ℕ}
use Rattle.std.proofs.lemmas.Result.{err_from_is_err_and}
use Rattle.model.specs.Calls.{refused}
use Rattle.model.specs.Answers.{numbered}
use Rattle.characters.proofs.Text.{text-long, text-bytes, text-broken, text-taken}
use Rattle.characters.proofs.check_text.Goals as goal

pub returns-then-text-gt-MAX_TEXT : goal.returns-then-text-gt-MAX_TEXT
returns-then-text-gt-MAX_TEXT c = text-long c.args.text.now c.if-text-gt-MAX_TEXT.true

pub returns-in_err-line : goal.returns-in_err-line
returns-in_err-line c =
    let p = err_from_is_err_and c.from_residual.result c.from_residual.ensures.1 in
    rw (p.1, p.2) (text-bytes c.args.text.now c.if-text-gt-MAX_TEXT.false c.in_err-line.ensures)

pub returns-then-is_broken_off : goal.returns-then-is_broken_off
returns-then-is_broken_off c =
    let w = c.in_ok-line.ensures in
    ap (λ (n : ℕ). refused (numbered 12 6 n)) w.1
    ∙ text-broken c.args.text.now c.if-text-gt-MAX_TEXT.false w.0 (sym c.is_broken_off.ensures ∙ c.if-is_broken_off.true)

pub returns : goal.returns
returns c =
    text-taken c.args.text.now c.if-text-gt-MAX_TEXT.false c.in_ok-line.ensures.0 (sym c.is_broken_off.ensures ∙ c.if-is_broken_off.false)
