use mathlib.Core.Path.{sym, ap, ◌∙◌}
use native.Mathlib.Numerals.{add-one}
use native.Mathlib.Omega.{arith}
use Rattle.std.proofs.lemmas.Result.{err_from_is_err_and}
use Rattle.model.specs.Rows.{pair_rows}
use Rattle.model.specs.Compare.{Tables}
use Rattle.model.specs.Calls.{answer}
use Rattle.tables.proofs.Checks.{checked, left_none, left_on, left_stops}
use Rattle.pairing.specs.Pairs.{tables_of}
use Rattle.tables.proofs.Rows.{pairs-rest, pairs_end}
use Rattle.pathlimit.specs.Checks.{check_row}
use Rattle.pathlimit.proofs.Rows.{paths-rows}
use Rattle.pathlimit.proofs.Unplanned.{unplanned_taken}
use Rattle.pathlimit.proofs.check_paths.Goals.{Start}
use Rattle.pathlimit.proofs.check_paths.Goals as goal

-- the tables
abbrev tables : Start → Tables
tables s =
    let a = s.args in
    tables_of a.spec_nodes.now a.spec_edges.now a.impl_nodes.now a.impl_edges.now a.root_pairs.now a.leaf_pairs.now

pub returns-then-planned_count-eq0 : goal.returns-then-planned_count-eq0
unfolding answer
returns-then-planned_count-eq0 c =
    ap checked (sym (unplanned_taken c.requires.0 (omega (arith, c.if-planned_count-eq0.true, c.planned_count.ensures, c.planned_count-2.ensures))))

pub returns-in_err-check_row : goal.returns-in_err-check_row
returns-in_err-check_row c =
    let t = tables (goal.at.returns-in_err-check_row c).Start in
    let p = err_from_is_err_and c.from_residual.result c.from_residual.ensures.1 in
    rw (p.1, p.2)
    (left_stops (check_row t) (pair_rows c.args.root_pairs.now) c.loop-root_row.invariant
    (pairs-rest c.args.root_pairs.now c.loop-root_row.root_row (omega (arith, c.loop-root_row-test.true))) c.in_err-check_row.ensures
    ∙ ap checked (sym (paths-rows t)))

pub loop-root_row-preserved : goal.loop-root_row-preserved
loop-root_row-preserved c =
    rw add-one
    (left_on _ _ c.loop-root_row.invariant (pairs-rest c.args.root_pairs.now c.loop-root_row.root_row (omega (arith, c.loop-root_row-test.true)))
    c.in_ok-check_row.ensures)

pub returns : goal.returns
returns c =
    left_none _ _ c.loop-root_row.invariant (pairs_end c.args.root_pairs.now c.loop-root_row.root_row (omega (arith, c.loop-root_row-test.false)))
    ∙ ap checked (sym (paths-rows (tables (goal.at.returns c).Start)))
