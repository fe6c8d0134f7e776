use mathlib.Core.Path.{◌≡◌, refl, sym, ap, ap₂, ◌∙◌}
use Prim.Native.Nat.{◌+◌, ◌<◌}
use native.Mathlib.Omega.{arith}
use borrow.Author.Rules.{rules}
use lib.IntN.{ℤ}
use mir.Syntax.{w64}
use mir.Val.{SFits}
use mir.Facts.{to_z-of_z}
use Rattle.normalisation.specs.Records.{records_from}
use Rattle.verdicts.specs.OnePass.{ends, candidates, heads_aligned, starts, lowest_from}
use Rattle.normalisation.proofs.Records.{records_from-start}
use Rattle.verdicts.proofs.Records.{small_at}
use Rattle.verdicts.proofs.Turns.{heads-there, lowest-more, lowest-last}
use Rattle.verdicts.proofs.OnePass.{lowest_one_pass}
use Rattle.verdicts.proofs.lowest_of.Goals.{After-alike_at, In-loop-least}
use Rattle.verdicts.proofs.lowest_of.Goals as goal

-- what the test on records i says
test : (c : After-alike_at) → c.alike_at.result ≡ heads_aligned (records_from c.args.spec.now c.loop-least.i c.args.ns) (records_from c.args.imp.now c.loop-least.i c.args.ni)
test c = c.alike_at.ensures

-- records i are there where they begin alike
there : (c : In-loop-least) → (c.loop-least.i < c.args.ns) × (c.loop-least.i < c.args.ni)
there c =
    heads-there c.args.spec.now c.args.imp.now c.args.ns c.args.ni c.loop-least.i (sym (test (goal.at.record_at-requires c).After-alike_at) ∙ c.loop-least-test.true)

pub loop-least-init : goal.loop-least-init
loop-least-init c =
    rw (records_from-start c.args.spec.now c.args.ns, records_from-start c.args.imp.now c.args.ni) refl

pub alike_at-requires : goal.alike_at-requires
alike_at-requires c = (c.requires.0.list.within, c.requires.1.list.within)

pub record_at-requires : goal.record_at-requires
record_at-requires c = omega (arith, there c, c.requires)

pub record_at-requires-in-loop-least : goal.record_at-requires-in-loop-least
record_at-requires-in-loop-least c = omega (arith, there (goal.at.record_at-requires-in-loop-least c).In-loop-least, c.requires)

pub lower_end-least-requires : goal.lower_end-least-requires
lower_end-least-requires c =
    let (p, q) = there (goal.at.lower_end-least-requires c).In-loop-least in
    (rw c.record_at.ensures (small_at c.requires.0 c.loop-least.i p), rw c.record_at-in-loop-least.ensures (small_at c.requires.1 c.loop-least.i q))

pub overflow_add-i : goal.overflow_add-i
overflow_add-i c = omega (arith, there (goal.at.overflow_add-i c).In-loop-least)

pub loop-least-smaller : goal.loop-least-smaller
loop-least-smaller c = omega (arith, there (goal.at.loop-least-smaller c).In-loop-least)

pub loop-least-preserved : goal.loop-least-preserved
loop-least-preserved c =
    let rest = candidates (records_from c.args.spec.now (c.loop-least.i + 1) c.args.ns) (records_from c.args.imp.now (c.loop-least.i + 1) c.args.ni) in
    let ended = c.lower_end-least.ensures ∙ ap (lowest_from c.loop-least.least.0) (ap₂ ends c.record_at.ensures c.record_at-in-loop-least.ensures) in
    c.loop-least.invariant
    ∙ lowest-more c.args.spec.now c.args.imp.now c.args.ns c.args.ni c.loop-least.i c.loop-least.least.0 (sym (test (goal.at.loop-least-preserved c).After-alike_at) ∙ c.loop-least-test.true)
    ∙ ap (λ (z : ℤ). lowest_from z rest) (sym ended)

pub lower_start-least-requires : goal.lower_start-least-requires
lower_start-least-requires c = c.requires.0.list.within

pub lower_start-least-requires-2 : goal.lower_start-least-requires-2
lower_start-least-requires-2 c = c.requires.1.list.within

pub returns : goal.returns
returns c =
    let f : SFits w64 c.lower_start-least-2.result.0 = search rules in
    let rest = starts (records_from c.args.imp.now c.loop-least.i c.args.ni) in
    let last =
    lowest-last c.args.spec.now c.args.imp.now c.args.ns c.args.ni c.loop-least.i c.loop-least.least.0 (sym (test (goal.at.returns c).After-alike_at) ∙ c.loop-least-test.false) in
    rw (to_z-of_z f, ← lowest_one_pass c.requires.0.list.normal c.requires.1.list.normal c.requires.0.small c.requires.1.small)
    (c.lower_start-least-2.ensures ∙ ap (λ (z : ℤ). lowest_from z rest) c.lower_start-least.ensures
    ∙ sym (c.loop-least.invariant ∙ last))
