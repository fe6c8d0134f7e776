-- The shifted run can be clipped, because both runs and the bit offset are small, and what is left can be shifted again. What is returned stands first: a wrong bound or
-- offset is refused there.
use mathlib.Core.Path.{◌≡◌, refl, sym, ap, subst, ◌∙◌}
use Rattle.model.specs.Graph.{graph_of, bit_offset}
use Rattle.model.specs.Runs.{clip}
use Rattle.tables.specs.Tables.{edge_at}
use Rattle.runs.specs.Clipping.{run_of, living, Clippable, SmallRun, SmallOffset, SmallExtent}
use Rattle.runs.proofs.Runs.{living-some, shift-read, shift_clippable, clip-read, clip-small}
use Rattle.extents.proofs.Rows.{edge_small}
use Rattle.references.specs.References.{reference_of}
use Rattle.references.proofs.Bringing.{part_offset, cut, through_nothing, through_left}
use Rattle.references.proofs.Numbers.{root_movable}
use Rattle.references.proofs.step_into.Goals.{After-last_root, After-offset_of}
use Rattle.references.proofs.step_into.Goals as goal

-- what is clipped, as the definition has it
clipped : (c : After-last_root)
    → let a = c.args in
    living (clip a.f.run.root.0 c.last_root.result.0 (run_of c.shift-shifted.result))
    ≡ living (cut (bit_offset (graph_of a.nodes.now a.edges.now) (edge_at a.edges.now a.e)) (reference_of a.f) (reference_of a.u))
clipped c =
    ap living (clip-read refl c.last_root.ensures (shift-read _ _ (run_of c.args.u.run) _ c.shift-shifted.ensures.result_value c.offset_of.ensures))

pub returns : goal.returns
returns c =
    let a = c.args in
    through_left (bit_offset (graph_of a.nodes.now a.edges.now) (edge_at a.edges.now a.e)) (reference_of a.f) (reference_of a.u)
    (c.in_ok-run.ensures.result_value ∙ clipped (goal.at.returns c).After-last_root)
    (shift-read _ _ _ _ c.shift.ensures.result_value c.less-offset.ensures)

pub returns-in_err-run : goal.returns-in_err-run
returns-in_err-run c =
    let a = c.args in
    rw c.from_residual.ensures
    (through_nothing (bit_offset (graph_of a.nodes.now a.edges.now) (edge_at a.edges.now a.e)) (reference_of a.f) (reference_of a.u)
    (c.in_err-run.ensures.result_value ∙ clipped (goal.at.returns-in_err-run c).After-last_root))

pub last_root-requires : goal.last_root-requires
last_root-requires c = c.requires.2

pub less-offset-requires : goal.less-offset-requires
less-offset-requires c = root_movable c.requires.2

pub offset_of-requires : goal.offset_of-requires
offset_of-requires c = (c.requires.0, c.requires.1)

offset-small : (c : After-offset_of) → SmallOffset c.offset_of.result.0
offset-small c = edge_small c.requires.0 c.args.e c.requires.1 c.offset_of.ensures

pub shift-shifted-requires : goal.shift-shifted-requires
shift-shifted-requires c = (c.requires.3, offset-small c)

clippable : (c : After-last_root) → Clippable (run_of c.shift-shifted.result)
clippable c = subst Clippable (sym c.shift-shifted.ensures.result_value) (shift_clippable c.requires.3 (offset-small (goal.at.clip-requires c).After-offset_of))

extent : (c : After-last_root) → SmallExtent c.args.f.run.root.0 c.last_root.result.0
extent c = let small = c.requires.2 in record { low = small.root; high = rw c.last_root.ensures small.last }

pub clip-requires : goal.clip-requires
clip-requires c = (clippable c, extent c)

pub shift-requires : goal.shift-requires
shift-requires c =
    let first = c.args.f.run.root.0 in
    let end = c.last_root.result.0 in
    let h = (goal.at.shift-requires c).After-last_root in
    let w = living-some (clip first end (run_of c.shift-shifted.result)) _ c.in_ok-run.ensures.result_value in (
      subst SmallRun (sym w.0) (clip-small first end (clippable h) (extent h) w.1),
      subst SmallOffset (sym c.less-offset.ensures) (part_offset c.requires.2),
    )
