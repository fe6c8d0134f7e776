-- What is packed is small enough for one number.
use native.Mathlib.Omega.{arith}
use Rattle.model.specs.Answers.{verdict_number}
use Rattle.reporting.proofs.Lines.{number-line, verdict-small}
use Rattle.reporting.proofs.line_number.Goals as goal

pub overflow_add-judged : goal.overflow_add-judged
overflow_add-judged c = omega (arith, c.verdict_number.ensures.0, verdict-small c.args.verdict)

pub with_lengths-read-requires : goal.with_lengths-read-requires
with_lengths-read-requires c =
    let v = c.verdict_number in
    let s = c.requires in
    (s.1, omega (arith, v.ensures.0, verdict-small c.args.verdict, s.0.root, s.0.leaf))

pub with_lengths-requires : goal.with_lengths-requires
with_lengths-requires c =
    let v = c.verdict_number in
    let s = c.requires in
    (s.2, omega (arith, c.with_lengths-read.ensures, v.ensures.0, verdict-small c.args.verdict, s.0.root, s.0.leaf, s.1.spec, s.1.impl))

pub returns : goal.returns
returns c =
    let v = c.verdict_number in
    let s = c.requires in
    rw (c.with_lengths.ensures, c.with_lengths-read.ensures, v.ensures.0)
    (number-line c.args.root_row c.args.leaf_row (verdict_number c.args.verdict) c.args.reading.spec c.args.reading.implementation c.args.writing.spec c.args.writing.implementation
    s.0.leaf (verdict-small c.args.verdict) (omega (arith, s.1.spec)) (omega (arith, s.1.impl)) (omega (arith, s.2.spec)) (omega (arith, s.2.impl)))
