use mathlib.Core.Path.{sym, ◌∙◌}
use Prim.Native.Nat.{◌<◌}
use native.Mathlib.Omega.{arith}
use lib.ListN.{length}
use mir.Syntax.{w64}
use mir.Val.{to_z, of_z}
use mir.Facts.{to_z-of_z}
use Rattle.std.proofs.lemmas.Result.{err_from_is_err_and}
use Rattle.pairing.proofs.Marks.{passed_start, passed_end, passed-refused, spec_classed, impl_classed, nodes-marked, passed_stops, passed-next}
use Rattle.pairing.proofs.check_unmarked.Goals.{After-impl_node-implementation}
use Rattle.pairing.proofs.check_unmarked.Goals as goal

pub loop-k-init : goal.loop-k-init
loop-k-init c =
    let a = c.args in
    passed_start a.pairs.now a.table a.wanted (to_z w64 (of_z w64 a.most)) a.spec_once a.spec_class.now a.impl_class.now c.requires.0 c.requires.1

pub returns-then-not-both_have_class : goal.returns-then-not-both_have_class
returns-then-not-both_have_class c =
    rw (to_z-of_z c.ranges.most)
    at (passed-refused c.loop-k.invariant (omega (arith, c.loop-k-test.true)) (sym c.both_have_class.ensures ∙ c.if-not-both_have_class.true))

pub spec_node-spec-requires : goal.spec_node-spec-requires
spec_node-spec-requires c =
    let good = sym c.both_have_class.ensures ∙ c.if-not-both_have_class.false in
    (omega (arith, c.loop-k-test.true), (spec_classed c.loop-k.invariant (omega (arith, c.loop-k-test.true)) good).0)

pub impl_node-implementation-requires : goal.impl_node-implementation-requires
impl_node-implementation-requires c =
    let good = sym c.both_have_class.ensures ∙ c.if-not-both_have_class.false in
    (omega (arith, c.loop-k-test.true), (impl_classed c.loop-k.invariant (omega (arith, c.loop-k-test.true)) good).0)

-- both nodes of the row of a turn have a mark
row-marked : (c : After-impl_node-implementation) → (c.spec_node-spec.result < length c.loop-k.spec_marks) × (c.impl_node-implementation.result < length c.loop-k.impl_marks)
row-marked c =
    let good = sym c.both_have_class.ensures ∙ c.if-not-both_have_class.false in
    nodes-marked c.loop-k.invariant (omega (arith, c.loop-k-test.true)) good c.spec_node-spec.result c.impl_node-implementation.result c.spec_node-spec.ensures
    c.impl_node-implementation.ensures

pub bounds-spec_marks-spec : goal.bounds-spec_marks-spec
bounds-spec_marks-spec c = (row-marked (goal.at.bounds-spec_marks-spec c).After-impl_node-implementation).0

pub bounds-impl_marks-implementation : goal.bounds-impl_marks-implementation
bounds-impl_marks-implementation c = (row-marked (goal.at.bounds-impl_marks-implementation c).After-impl_node-implementation).1

pub bounds-spec_marks-spec-in-loop-k : goal.bounds-spec_marks-spec-in-loop-k
bounds-spec_marks-spec-in-loop-k c = (row-marked (goal.at.bounds-spec_marks-spec-in-loop-k c).After-impl_node-implementation).0

pub bounds-impl_marks-implementation-in-loop-k : goal.bounds-impl_marks-implementation-in-loop-k
bounds-impl_marks-implementation-in-loop-k c = (row-marked (goal.at.bounds-impl_marks-implementation-in-loop-k c).After-impl_node-implementation).1

pub returns-in_err-check_row : goal.returns-in_err-check_row
returns-in_err-check_row c =
    let good = sym c.both_have_class.ensures ∙ c.if-not-both_have_class.false in
    let p = err_from_is_err_and c.from_residual.result c.from_residual.ensures.1 in
    let e = passed_stops c.loop-k.invariant (omega (arith, c.loop-k-test.true)) good c.spec_node-spec.result c.impl_node-implementation.result c.spec_node-spec.ensures
    c.impl_node-implementation.ensures c.in_err-check_row.ensures in
    rw (p.1, p.2) (rw (to_z-of_z c.ranges.most) at e)

pub loop-k-preserved : goal.loop-k-preserved
loop-k-preserved c =
    let good = sym c.both_have_class.ensures ∙ c.if-not-both_have_class.false in
    passed-next c.loop-k.invariant (omega (arith, c.loop-k-test.true)) good c.spec_node-spec.result c.impl_node-implementation.result c.spec_node-spec.ensures
    c.impl_node-implementation.ensures c.in_ok-check_row.ensures

pub returns : goal.returns
returns c =
    rw (to_z-of_z c.ranges.most) at (passed_end c.loop-k.invariant (omega (arith, c.loop-k-test.false)))
