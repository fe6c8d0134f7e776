-- The tables are refused, or all pairs are surveyed; then the report is too long, by its lines alone or with the rest, or it is written.
use mathlib.Core.Path.{◌≡◌, ap, ◌∙◌}
use mathlib.Core.Option.{none}
use Prim.Native.Nat.{ℕ}
use native.Mathlib.Omega.{arith}
use borrow.Author.Rules.{rules}
use lib.ListN.{length, length-replicate}
use Rattle.model.specs.Compare.{Tables, findings}
use Rattle.model.specs.Checks.{check_tables}
use Rattle.model.specs.Answers.{comparison_result}
use Rattle.pairing.specs.Pairs.{tables_of}
use Rattle.forward.specs.Forward.{plan_room}
use Rattle.std.proofs.lemmas.Result.{err_from_is_err_and}
use Rattle.prepare.proofs.Checks.{prepared_none, prepared_some}
use Rattle.reporting.specs.Lines.{SmallResult}
use Rattle.reporting.proofs.Parts.{fixed_short}
use Rattle.totals.specs.Kept.{KeptOf}
use Rattle.totals.proofs.Keeping.{kept_small}
use Rattle.survey.proofs.Passing.{findings-few}
use Rattle.tablecheck.proofs.Outcomes.{lines-short, kept-report, kept_length, outcome_refused, outcome_long, outcome_written}
use Rattle.tablecheck.proofs.check_tables.Goals.{Else-kept-room, In_ok-prepare, Start}
use Rattle.tablecheck.proofs.check_tables.Goals as goal

-- the tables
abbrev tables : Start → Tables
tables s =
    let a = s.args in
    tables_of a.spec_nodes.now a.spec_edges.now a.impl_nodes.now a.impl_edges.now a.root_pairs.now a.leaf_pairs.now

-- the tables are taken
taken : (k : In_ok-prepare) → check_tables (tables (goal.at.In_ok-prepare k).Start) ≡ none
taken k = prepared_none k.prepare.ensures k.in_ok-prepare.was

-- what is kept of all pairs, where their lines fit
kept : (e : Else-kept-room)
    → KeptOf (findings (tables (goal.at.Else-kept-room e).Start)) e.survey-kept.new.lines e.survey-kept.result
kept e = e.survey-kept.ensures.within (omega (arith, e.if-kept-room.false))

-- their full result is small
small : (e : Else-kept-room) → SmallResult (comparison_result e.survey-kept.result.result)
small e =
    kept_small (kept e) (findings-few (e.prepare.ensures.ready e.in_ok-prepare.was).plans.inputs)

pub returns-in_err-prepare : goal.returns-in_err-prepare
returns-in_err-prepare c =
    let p = err_from_is_err_and c.from_residual.result c.from_residual.ensures.1 in
    rw (p.1, p.2) (outcome_refused (tables (goal.at.returns-in_err-prepare c).Start) c.args.report.now (prepared_some c.prepare.ensures c.in_err-prepare.was))

pub survey-kept-requires : goal.survey-kept-requires
survey-kept-requires c = c.prepare.ensures.ready c.in_ok-prepare.was

pub returns-then-kept-room : goal.returns-then-kept-room
returns-then-kept-room c =
    let t = tables (goal.at.returns-then-kept-room c).Start in
    outcome_long t c.args.report.now (taken (goal.at.returns-then-kept-room c).In_ok-prepare) (omega (arith, c.survey-kept.ensures.past c.if-kept-room.true, lines-short (findings t)))

pub fixed_length-requires : goal.fixed_length-requires
fixed_length-requires c = small (goal.at.fixed_length-requires c).Else-kept-room

pub overflow_add-length : goal.overflow_add-length
overflow_add-length c =
    omega (arith, c.fixed_length.ensures, fixed_short (comparison_result c.survey-kept.result.result), c.survey-kept.ensures.fits)

pub returns-then-length-room : goal.returns-then-length-room
returns-then-length-room c =
    outcome_long (tables (goal.at.returns-then-length-room c).Start) c.args.report.now (taken (goal.at.returns-then-length-room c).In_ok-prepare) (omega (arith, c.fixed_length.ensures, kept_length (kept (goal.at.returns-then-length-room c).Else-kept-room), c.if-length-room.true))

pub slice_bounds-put_report-end-2 : goal.slice_bounds-put_report-end-2
slice_bounds-put_report-end-2 c =
    let room = c.prepare.auto.spec_plan ∙ length-replicate {A = ℕ} plan_room 0 in
    search (rules, room)

pub slice_bounds-put_report-end-3 : goal.slice_bounds-put_report-end-3
slice_bounds-put_report-end-3 c =
    let room = c.prepare.auto.impl_plan ∙ length-replicate {A = ℕ} plan_room 0 in
    search (rules, room)

pub put_report-requires : goal.put_report-requires
put_report-requires c = (
  record {
    ready = c.prepare.ensures.ready c.in_ok-prepare.was;
    held = (kept (goal.at.put_report-requires c).Else-kept-room).held;
    room = omega (arith, c.survey-kept.auto.lines, length-replicate {A = ℕ} 4681 0);
  },
  small (goal.at.put_report-requires c).Else-kept-room,
  omega (arith, ap length (kept-report (kept (goal.at.put_report-requires c).Else-kept-room)), kept_length (kept (goal.at.put_report-requires c).Else-kept-room), c.fixed_length.ensures, c.if-length-room.false),
)

pub returns : goal.returns
returns c =
    let t = tables (goal.at.returns c).Start in
    let whole = kept_length (kept (goal.at.returns c).Else-kept-room) in
    outcome_written t c.args.report.now (taken (goal.at.returns c).In_ok-prepare) c.survey-kept.result.result
    (rw (kept-report (kept (goal.at.returns c).Else-kept-room)) at c.put_report.ensures)
    (omega (arith, whole, c.fixed_length.ensures, c.if-length-room.false)) (omega (arith, whole, c.fixed_length.ensures)) (kept (goal.at.returns c).Else-kept-room).result
