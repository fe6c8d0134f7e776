-- The outcome of the check without the verdict.
use mathlib.Core.Path.{◌∙◌}
use Rattle.textcheck.specs.Promises.{as_it_is}
use Rattle.textcheck.proofs.Answers.{given_length, given_buffer}
use Rattle.textcheck.proofs.Promises.{text_promise}
use Rattle.textcheck.proofs.text_check.Goals as goal

pub returns : goal.returns
returns c = let text = c.args.text.now in
    text_promise as_it_is text c.args.report.now (c.written_of.ensures ∙ given_length text c.check_map.ensures) (given_buffer text c.check_map.ensures)
