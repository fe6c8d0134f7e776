-- Each return is the law of the test that decides there.
use mathlib.Core.Path.{◌≡◌, sym, ap, ◌∙◌}
use mir.Syntax.{w64}
use mir.Val.{of_z}
use borrow.Author.Rules.{rules}
use Rattle.verdicts.specs.Records.{as_record}
use Rattle.integers.proofs.Range.{bits-same, bits_test}
use Rattle.verdicts.proofs.Tests.{aligned_unlike, aligned_like}
use Rattle.verdicts.proofs.begin_alike.Goals as goal

pub returns-else-r-s : goal.returns-else-r-s
returns-else-r-s c =
    rw (aligned_unlike (as_record c.args.r) (as_record c.args.s) (λ e. c.if-r-s.false (ap (of_z w64) e))) (search rules)

pub returns-then-r-s : goal.returns-then-r-s
returns-then-r-s c =
    let same : c.args.r.first ≡ c.args.s.first = bits-same (search rules) (search rules) c.if-r-s.true in
    bits_test c.args.r.displacement c.args.s.displacement (search rules) (search rules) ∙ sym (aligned_like (as_record c.args.r) (as_record c.args.s) same)
