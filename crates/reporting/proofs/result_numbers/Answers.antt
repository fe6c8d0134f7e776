-- The verdict's number and the counts, which are at most 1,000,000, fit an i64.
use mathlib.Core.Path.{refl}
use native.Mathlib.Omega.{arith}
use borrow.Author.Rules.{rules}
use mir.Syntax.{w64}
use mir.Val.{SFits}
use mir.Facts.{to_z-of_z, to_z_pos}
use Rattle.integers.proofs.Range.{fits64}
use Rattle.model.specs.Answers.{verdict_number}
use Rattle.reporting.proofs.Lines.{verdict-small}
use Rattle.reporting.proofs.result_numbers.Goals.{Start}
use Rattle.reporting.proofs.result_numbers.Goals as goal

address-fits : (s : Start) → SFits w64 s.args.res.address
address-fits s = search rules

pub overflow_cast-result : goal.overflow_cast-result
overflow_cast-result c = fits64 (omega (arith, c.verdict_number.ensures.0, verdict-small c.args.res.verdict))

pub returns : goal.returns
returns c =
    let r = c.args.res in
    let root : SFits w64 r.root = search rules in
    let leaf : SFits w64 r.leaf = search rules in
    rw (
      c.verdict_number.ensures.0,
      to_z_pos w64 {n = verdict_number r.verdict} (omega (arith, verdict-small r.verdict)),
      to_z_pos w64 {n = r.equal} (omega (arith, c.requires.equal)),
      to_z_pos w64 {n = r.partial} (omega (arith, c.requires.partial)),
      to_z_pos w64 {n = r.different} (omega (arith, c.requires.different)),
      to_z-of_z root,
      to_z-of_z leaf,
      to_z-of_z (address-fits (goal.at.returns c).Start),
    )
    refl
