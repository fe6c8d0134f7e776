-- Where it is not asked for, nothing is said of the address. Where the verdict is 0 the lists are the same, and differ nowhere. Else each call leaves a list of small records, normalised, and they are
-- the lists whose rows were there.
use mathlib.Core.Path.{◌≡◌, sym, ap, ap₂, ◌∙◌}
use mathlib.Core.Bool.{true≢false}
use native.Mathlib.Omega.{arith}
use mir.Syntax.{w64}
use mir.Val.{SFits}
use mir.Facts.{to_z-of_z}
use borrow.Author.Rules.{rules}
use Rattle.model.specs.Verdicts.{verdict, lowest}
use Rattle.model.specs.Answers.{verdict_number}
use Rattle.model.proofs.Verdicts.{verdict-equal}
use Rattle.model.proofs.Lowest.{lowest-same}
use Rattle.judging.proofs.Judging.{rows-small, rows-list, rows_back}
use denote.Enum.Bare.{same_true}
use Rattle.model.specs.declared.Verdict.TheVariants.{Equal}
use Rattle.model.specs.contracts.Verdict.{the_type}
use Rattle.judging.proofs.lowest_of_rows.Goals as goal

pub returns-then-not-asked : goal.returns-then-not-asked
returns-then-not-asked c l m p q e f a n = absurd (true≢false (sym a ∙ c.if-not-asked.true))

pub returns-then-eq : goal.returns-then-eq
returns-then-eq c l m p q e f a n =
    let is : c.args.given ≡ Equal = same_true the_type (search rules) _ _ (sym c.eq.ensures ∙ c.if-eq.true) in
    let zero : verdict l m ≡ 0 = sym n ∙ ap verdict_number is in
    sym (ap (lowest l) (sym ((verdict-equal l m).0 zero)) ∙ lowest-same l)

pub normalise-s-requires : goal.normalise-s-requires
normalise-s-requires c = let p = c.requires in (p.0.within, p.2, rows-small p.0)

pub normalise-i-requires : goal.normalise-i-requires
normalise-i-requires c =
    let p = c.requires in
    (p.1.within, omega (arith, c.normalise-s.auto.spare, p.3), rows-small p.1)

pub lowest_of-requires : goal.lowest_of-requires
lowest_of-requires c =
    let p = c.requires in (
      rows-list p.0 _ c.normalise-s.new.work c.normalise-s.ensures.value c.normalise-s.ensures.work_after c.normalise-s.ensures.work_len_unchanged.0,
      rows-list p.1 _ c.normalise-i.new.work c.normalise-i.ensures.value c.normalise-i.ensures.work_after c.normalise-i.ensures.work_len_unchanged.0,
    )

pub returns : goal.returns
returns c l m p q e f a u =
    let s = c.requires in
    let fits : SFits w64 c.lowest_of.result = search rules in
    to_z-of_z fits ∙ c.lowest_of.ensures
    ∙ ap₂ lowest (rows_back s.0 _ c.normalise-s.new.work c.normalise-s.ensures.value c.normalise-s.ensures.work_after p e)
    (rows_back s.1 _ c.normalise-i.new.work c.normalise-i.ensures.value c.normalise-i.ensures.work_after q f)
