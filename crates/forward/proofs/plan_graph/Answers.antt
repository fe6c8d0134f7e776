-- What the passes leave is put together.
use mathlib.Core.Path.{◌∙◌}
use mathlib.Core.Bool.{Bool, false}
use native.Mathlib.Omega.{arith}
use lib.ListN.{length, length-replicate}
use Rattle.model.specs.Limits.{max_nodes}
use Rattle.forward.specs.Passes.{BackwardRows}
use Rattle.forward.proofs.Plan.{leading_marks, plan_markable, plan_passable, plan-planned, plan_leading}
use Rattle.forward.proofs.plan_graph.Goals.{After-mark_leading}
use Rattle.forward.proofs.plan_graph.Goals as goal

-- there is a mark for each node behind the second pass too
marks-passable : (k : After-mark_leading)
    → BackwardRows k.args.edges.now k.args.order.now (length k.mark_leading.new.marks)
marks-passable k =
    plan_passable k.requires (length k.mark_leading.new.marks)
    (omega (arith, k.mark_leading.auto.marks, k.mark_leaves.auto.marks, length-replicate {A = Bool} max_nodes false))

pub mark_leaves-requires : goal.mark_leaves-requires
mark_leaves-requires c = plan_markable c.requires

pub mark_leading-requires : goal.mark_leading-requires
mark_leading-requires c =
    plan_passable c.requires (length c.mark_leaves.new.marks) (omega (arith, c.mark_leaves.auto.marks, length-replicate {A = Bool} max_nodes false))

pub store_leading-requires : goal.store_leading-requires
store_leading-requires c =
    record { backward_rows = marks-passable (goal.at.store_leading-requires c).After-mark_leading; plan_len = c.link_entering.auto.plan ∙ c.requires.room }

pub returns : goal.returns
returns c =
    let ns = c.args.nodes.now in
    let marks =
    leading_marks c.requires.rows c.mark_leaves.ensures (c.mark_leading.ensures ns) in
    let linked = c.link_entering.new.plan in
    let room = c.link_entering.auto.plan ∙ c.requires.room in record { planned = plan-planned linked c.requires.tables (marks-passable (goal.at.returns c).After-mark_leading) marks room c.store_leading.ensures c.link_entering.ensures; leading_to = plan_leading linked c.requires.tables (marks-passable (goal.at.returns c).After-mark_leading) marks room c.store_leading.ensures }
