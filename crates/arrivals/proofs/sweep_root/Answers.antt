use mathlib.Core.Path.{◌≡◌, refl, sym, ap, subst, ◌∙◌}
use mathlib.Core.Bool.{Bool}
use mathlib.Core.List.{List}
use Prim.Native.Nat.{ℕ}
use native.Mathlib.Omega.{arith}
use lib.IntN.{ℤ, pos}
use lib.ListN.{length}
use Rattle.model.specs.Rows.{node_rows}
use Rattle.model.specs.Graph.{graph_of, node}
use Rattle.model.specs.Runs.{is_open}
use Rattle.tables.proofs.Rows.{nodes_length}
use Rattle.extents.proofs.Rows.{node-good}
use Rattle.forward.specs.Forward.{planned_count}
use Rattle.arrivals.specs.State.{state_room, kind_in}
use Rattle.arrivals.specs.Sweep.{Sweeping}
use Rattle.arrivals.specs.Moves.{Blank}
use Rattle.arrivals.proofs.Agreeing.{row-few}
use Rattle.arrivals.proofs.Passing.{start-root, start-kind, sweeping-start}
use Rattle.arrivals.proofs.sweep_root.Goals.{After-clear_marks, Start}
use Rattle.arrivals.proofs.sweep_root.Goals as goal

pub clear_marks-requires : goal.clear_marks-requires
clear_marks-requires c = omega (arith, c.requires.room, c.requires.tables.nodes.few)

pub start_root-requires : goal.start_root-requires
start_root-requires c =
    let row = c.requires.start.row in
    (node-good c.requires.tables row, row-few c.requires.tables row, c.clear_marks.auto.state ∙ c.requires.room)

pub planned_count-i-end-requires : goal.planned_count-i-end-requires
planned_count-i-end-requires c = c.requires.planned.room

-- the state without a mark
abbrev cleared : After-clear_marks → List ℤ
cleared m = m.clear_marks.new.state

cleared-room : (m : After-clear_marks) → length (cleared m) ≡ state_room
cleared-room m = m.clear_marks.auto.state ∙ m.requires.room

cleared-blank : (m : After-clear_marks) → Blank (length (node_rows m.args.nodes.now)) (cleared m)
cleared-blank m = subst (λ (n : ℕ). Blank n (cleared m)) (sym (nodes_length m.args.nodes.now)) m.clear_marks.ensures

-- whether the root is marked
abbrev met : Start → Bool
met s = is_open s.args.kind (node (graph_of s.args.nodes.now s.args.edges.now) (pos s.args.root))

pub loop-i-init : goal.loop-i-init
loop-i-init c =
    rw (c.start_root.ensures c.args.edges.now) (
      sweeping-start c.requires c.args.kind (cleared (goal.at.loop-i-init c).After-clear_marks) (cleared-room (goal.at.loop-i-init c).After-clear_marks) (cleared-blank (goal.at.loop-i-init c).After-clear_marks),
      start-root c.requires c.args.kind (cleared (goal.at.loop-i-init c).After-clear_marks) (cleared-room (goal.at.loop-i-init c).After-clear_marks) (cleared-blank (goal.at.loop-i-init c).After-clear_marks) (met (goal.at.loop-i-init c).Start),
      refl,
    )

pub pass_edge-requires : goal.pass_edge-requires
pass_edge-requires c =
    record {
      sweeping = c.loop-i.invariant.0;
      there = omega (arith, c.planned_count-i-end.ensures);
      spare_room = omega (arith, c.requires.spare_room);
    }

pub loop-i-preserved : goal.loop-i-preserved
loop-i-preserved c = (
  c.pass_edge.ensures.0,
  c.pass_edge.ensures.1 ∙ c.loop-i.invariant.1,
  c.pass_edge.ensures.2 ∙ c.loop-i.invariant.2,
)

pub returns : goal.returns
returns c =
    let all : c.loop-i.i ≡ planned_count c.args.plan.now = omega (arith, c.planned_count-i-end.ensures) in
    record {
      from = c.loop-i.invariant.1;
      by = c.loop-i.invariant.2 ∙ ap kind_in (c.start_root.ensures c.args.edges.now) ∙ start-kind c.requires c.args.kind (cleared (goal.at.returns c).After-clear_marks) (cleared-room (goal.at.returns c).After-clear_marks) (cleared-blank (goal.at.returns c).After-clear_marks) (met (goal.at.returns c).Start);
      state = subst (λ (n : ℕ). Sweeping c.args.nodes.now c.args.edges.now c.args.plan.now n c.loop-i.state) all c.loop-i.invariant.0;
    }
