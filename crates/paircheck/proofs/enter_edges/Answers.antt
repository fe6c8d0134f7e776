use mathlib.Core.Path.{refl, sym, ◌∙◌}
use Prim.Native.Nat.{◌<◌, ◌+◌, ◌*◌, ◌≤◌}
use native.Mathlib.Numerals.{add-one}
use native.Mathlib.Omega.{arith}
use lib.ListN.{length}
use Rattle.integers.proofs.Linear.{ints}
use Rattle.model.specs.Limits.{edge_width}
use Rattle.paircheck.proofs.Classes.{entered_next, entered_end}
use Rattle.paircheck.proofs.enter_edges.Goals.{After-edge_to-to}
use Rattle.paircheck.proofs.enter_edges.Goals as goal

pub loop-e-init : goal.loop-e-init
loop-e-init c = refl

pub edge_to-to-requires : goal.edge_to-to-requires
edge_to-to-requires c =
    let there : edge_width * c.loop-e.e + edge_width ≤ length c.args.edges.now = omega (arith, c.loop-e-test.true) in
    (there, (c.requires c.loop-e.e there).0)

-- the node that the edge of a turn enters has a class
to_below : (c : After-edge_to-to) → c.edge_to-to.result < length c.loop-e.class
to_below c =
    let h = (c.requires c.loop-e.e (omega (arith, c.loop-e-test.true))).1 in
    omega (arith, ints, h, c.edge_to-to.ensures)

pub bounds-class-to : goal.bounds-class-to
bounds-class-to c = to_below (goal.at.bounds-class-to c).After-edge_to-to

pub loop-e-preserved : goal.loop-e-preserved
loop-e-preserved c =
    rw add-one
    (c.loop-e.invariant
    ∙ entered_next c.args.edges.now c.loop-e.class c.loop-e.e c.edge_to-to.result c.entered_class.result (omega (arith, c.loop-e-test.true))
    c.edge_to-to.ensures c.entered_class.ensures)

pub returns : goal.returns
returns c =
    sym (c.loop-e.invariant ∙ entered_end c.args.edges.now c.loop-e.class c.loop-e.e (omega (arith, c.loop-e-test.false)))
