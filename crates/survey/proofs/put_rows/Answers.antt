use mathlib.Core.Path.{◌∙◌}
use mathlib.Core.List.{[]}
use Prim.Native.Nat.{◌+◌, ◌/◌, ◌≤◌, ◌<◌}
use native.Mathlib.Omega.{arith}
use lib.ListN.{length, take}
use Rattle.model.specs.Limits.{pair_width, max_pairs}
use Rattle.model.specs.Compare.{Tables}
use Rattle.report.proofs.Tail.{tail_length}
use Rattle.reporting.specs.Lines.{lines_of}
use Rattle.pairing.specs.Pairs.{tables_of}
use Rattle.pairs.specs.Found.{Rooms}
use Rattle.totals.specs.Kept.{KeptOf}
use Rattle.rootrows.specs.RootRow.{row_findings}
use Rattle.survey.proofs.Passing.{groups-few}
use Rattle.survey.proofs.Putting.{putting_start, putting_end, row-held, row_fits, putting_on}
use Rattle.survey.proofs.put_rows.Goals.{After-row_found-kept, At-loop-row, In-loop-row, Start}
use Rattle.survey.proofs.put_rows.Goals as goal

abbrev tables : Start → Tables
tables s =
    let a = s.args in
    tables_of a.spec_nodes.now a.spec_edges.now a.impl_nodes.now a.impl_edges.now a.root_pairs.now a.leaf_pairs.now

-- the root row of a turn is there
there : (c : In-loop-row) → c.loop-row.row < length c.args.root_pairs.now / pair_width
there c = omega (arith, c.loop-row-test.true)

-- the work areas have their room at each turn
rooms : (l : At-loop-row) → Rooms l.loop-row.spec_state l.loop-row.impl_state l.loop-row.spare
rooms l = let r = l.requires.1 in let k = l.loop-row.auto in record { spec = k.spec_state ∙ r.spec; impl = k.impl_state ∙ r.impl; list = k.spare ∙ r.list }

-- its findings are kept
kept : (f : After-row_found-kept) → KeptOf (row_findings (tables (goal.at.After-row_found-kept f).Start) f.loop-row.row) f.row_found-kept.new.lines f.row_found-kept.result
kept f = f.row_found-kept.ensures [] (f.no_pair.ensures _)

-- there is room for their lines in the table
enough : (f : After-row_found-kept) → max_pairs ≤ length f.row_found-kept.new.lines
enough f =
    omega (arith, f.row_found-kept.auto.lines, f.loop-row.auto.lines, f.requires.5)

-- and in the buffer, which keeps its length
fits : (f : After-row_found-kept) → f.loop-row.at + length (lines_of (take f.row_found-kept.result.count f.row_found-kept.new.lines))
    ≤ length f.args.out.now
fits f =
    row_fits (tables (goal.at.After-row_found-kept f).Start) f.loop-row.row f.loop-row.invariant f.requires.0.plans.inputs (there (goal.at.After-row_found-kept f).In-loop-row) (kept f) (enough f) f.requires.6

pub loop-row-init : goal.loop-row-init
loop-row-init c = putting_start (tables (goal.at.loop-row-init c).Start) c.args.out.now

pub row_found-kept-requires : goal.row_found-kept-requires
row_found-kept-requires c = (
  record { ready = c.requires.0; rooms = rooms (goal.at.row_found-kept-requires c).At-loop-row; room = omega (arith, c.requires.3, c.loop-row.auto.written); row = there (goal.at.row_found-kept-requires c).In-loop-row },
  omega (arith, c.requires.2, c.loop-row.auto.read),
  c.requires.4,
  record { fs = []; kept = c.no_pair.ensures _; few = omega (arith, groups-few c.requires.0.plans.inputs) },
)

pub slice_bounds-put_lines-count : goal.slice_bounds-put_lines-count
slice_bounds-put_lines-count c = omega (arith, fits (goal.at.slice_bounds-put_lines-count c).After-row_found-kept, c.loop-row.auto.out)

pub slice_bounds-put_lines-start : goal.slice_bounds-put_lines-start
slice_bounds-put_lines-start c = omega (arith, fits (goal.at.slice_bounds-put_lines-start c).After-row_found-kept, c.loop-row.auto.out)

pub put_lines-at-requires : goal.put_lines-at-requires
put_lines-at-requires c = (
  row-held (tables (goal.at.put_lines-at-requires c).Start) c.loop-row.row c.loop-row.invariant c.requires.0.plans.inputs (there (goal.at.put_lines-at-requires c).In-loop-row) (kept (goal.at.put_lines-at-requires c).After-row_found-kept) (enough (goal.at.put_lines-at-requires c).After-row_found-kept),
  rw (tail_length c.loop-row.out c.loop-row.at) (omega (arith, fits (goal.at.put_lines-at-requires c).After-row_found-kept, c.loop-row.auto.out)),
)

pub overflow_add-at : goal.overflow_add-at
overflow_add-at c =
    omega (arith, c.put_lines-at.ensures.count, fits (goal.at.overflow_add-at c).After-row_found-kept)

pub loop-row-preserved : goal.loop-row-preserved
loop-row-preserved c =
    putting_on (tables (goal.at.loop-row-preserved c).Start) c.loop-row.row c.loop-row.invariant c.requires.0.plans.inputs (there (goal.at.loop-row-preserved c).In-loop-row) (kept (goal.at.loop-row-preserved c).After-row_found-kept) (enough (goal.at.loop-row-preserved c).After-row_found-kept) c.put_lines-at.ensures

pub returns : goal.returns
returns c =
    putting_end (tables (goal.at.returns c).Start) c.loop-row.row c.loop-row.invariant c.loop-row-test.false
