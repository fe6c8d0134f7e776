use mathlib.Core.Path.{◌∙◌}
use Prim.Native.Nat.{◌/◌, ◌<◌}
use native.Mathlib.Omega.{arith}
use lib.ListN.{length}
use Rattle.model.specs.Limits.{pair_width}
use Rattle.model.specs.Compare.{Tables}
use Rattle.pairing.specs.Pairs.{tables_of}
use Rattle.pairs.specs.Found.{Rooms}
use Rattle.survey.proofs.Passing.{findings-few, row_room_lem, row-passed, rows-passed, rows_start, surveyed}
use Rattle.survey.proofs.found_of_all.Goals.{At-loop-row, In-loop-row, Start}
use Rattle.survey.proofs.found_of_all.Goals as goal

abbrev tables : Start → Tables
tables s =
    let a = s.args in
    tables_of a.spec_nodes.now a.spec_edges.now a.impl_nodes.now a.impl_edges.now a.root_pairs.now a.leaf_pairs.now

-- the root row of a turn is there
there : (c : In-loop-row) → c.loop-row.row < length c.args.root_pairs.now / pair_width
there c = omega (arith, c.loop-row-test.true)

-- the work areas have their room at each turn
rooms : (l : At-loop-row) → Rooms l.loop-row.spec_state l.loop-row.impl_state l.loop-row.spare
rooms l = let r = l.requires.1 in let k = l.loop-row.auto in record { spec = k.spec_state ∙ r.spec; impl = k.impl_state ∙ r.impl; list = k.spare ∙ r.list }

pub loop-row-init : goal.loop-row-init
loop-row-init c = rows_start (tables (goal.at.loop-row-init c).Start) c.no_pair-kept.ensures

pub returns-then-room-kept : goal.returns-then-room-kept
returns-then-room-kept c =
    surveyed c.requires.0.plans.inputs c.loop-row.invariant (λ h. absurd (omega (arith, c.if-room-kept.true)))

pub row_found-kept-requires : goal.row_found-kept-requires
row_found-kept-requires c =
    let i = c.loop-row.invariant in (
      record { ready = c.requires.0; rooms = rooms (goal.at.row_found-kept-requires c).At-loop-row; room = omega (arith, c.requires.3, c.loop-row.auto.written); row = there (goal.at.row_found-kept-requires c).In-loop-row },
      omega (arith, c.requires.2, c.loop-row.auto.read),
      c.requires.4,
      row_room_lem (tables (goal.at.row_found-kept-requires c).Start) c.loop-row.row i (there (goal.at.row_found-kept-requires c).In-loop-row) (findings-few c.requires.0.plans.inputs),
    )

pub loop-row-preserved : goal.loop-row-preserved
loop-row-preserved c =
    row-passed (tables (goal.at.loop-row-preserved c).Start) c.loop-row.row c.loop-row.invariant (there (goal.at.loop-row-preserved c).In-loop-row) c.row_found-kept.ensures

pub returns : goal.returns
returns c =
    surveyed c.requires.0.plans.inputs c.loop-row.invariant (λ h. rows-passed (tables (goal.at.returns c).Start) c.loop-row.row c.loop-row.invariant c.loop-row-test.false)
