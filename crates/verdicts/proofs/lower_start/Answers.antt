-- The list from record i on begins with record i, or not at all.
use mathlib.Core.Path.{refl, ap, ◌∙◌}
use mir.Syntax.{w64}
use mir.Val.{SFits}
use mir.Facts.{to_z-of_z}
use borrow.Author.Rules.{rules}
use Rattle.model.specs.Bitmapping.{Record}
use Rattle.verdicts.specs.OnePass.{starts, lower, lowest_from}
use Rattle.normalisation.proofs.Records.{records_from-more, records_from-none}
use Rattle.verdicts.proofs.lower_start.Goals as goal

pub returns-then-i-n : goal.returns-then-i-n
unfolding starts lowest_from
returns-then-i-n c =
    let f : SFits w64 c.record_at.result.first = search rules in
    rw (records_from-more c.args.t.now c.args.i c.args.n c.if-i-n.true)
    (c.lower.ensures ∙ ap (lower c.args.least.0) (to_z-of_z f ∙ ap (λ (r : Record). r.first) c.record_at.ensures))

pub returns-else-i-n : goal.returns-else-i-n
unfolding starts lowest_from
returns-else-i-n c =
    rw (records_from-none c.args.t.now c.args.i c.args.n c.if-i-n.false) refl
