-- Where something is left of the record's run, its row is appended; where nothing is, none is.
use mathlib.Core.Path.{◌≡◌, sym, ap, subst, ◌∙◌}
use mathlib.Core.Option.{some}
use Rattle.sorting.specs.declared.Row.{Row}
use Rattle.sorting.specs.Rows.{row_at}
use Rattle.normalisation.specs.Merging.{by_displacement, of_displacement}
use Rattle.listing.proofs.Appending.{append_none}
use Rattle.runs.specs.Clipping.{run_of, living, SmallRun}
use Rattle.runs.proofs.Runs.{living-none, living-some, left_living, nothing_living}
use Rattle.references.specs.References.{reference_of, narrowed, record_run, run_record, cut_run, SmallRecord}
use Rattle.references.proofs.Bringing.{narrowed-small}
use Rattle.references.proofs.Cutting.{record_run-small, cut-none, cut_left}
use Rattle.references.proofs.append_cut.Goals.{After-append_row-arg-1, After-narrowed, After-record_run}
use Rattle.references.proofs.append_cut.Goals as goal

pub record_run-requires : goal.record_run-requires
record_run-requires c = subst (λ (r : Row). SmallRecord (of_displacement r)) (sym c.row_at.ensures) c.requires.3

-- the run of the record in the row
read : (c : After-record_run) → let a = c.args in run_of c.record_run.result ≡ record_run (of_displacement (row_at a.state.now a.p))
read c = c.record_run.ensures ∙ ap (λ (r : Row). record_run (of_displacement r)) c.row_at.ensures

pub narrowed-requires : goal.narrowed-requires
narrowed-requires c = (c.requires.2, subst SmallRun (sym (read c)) (record_run-small c.requires.3))

-- what is left, as the definition has it
cut : (c : After-narrowed) → let a = c.args in
    living (narrowed (run_of a.f.run) (run_of c.record_run.result)) ≡ living (cut_run (reference_of a.f) (of_displacement (row_at a.state.now a.p)))
cut c = ap (λ r. living (narrowed (run_of c.args.f.run) r)) (read (goal.at.After-narrowed c).After-record_run)

-- where something is left
left : (c : After-append_row-arg-1) → let a = c.args in
    some (run_of c.in-Some.run') ≡ living (cut_run (reference_of a.f) (of_displacement (row_at a.state.now a.p)))
left c =
    let a = c.args in
    left_living (cut_run (reference_of a.f) (of_displacement (row_at a.state.now a.p))) c.in-Some.is (c.narrowed.ensures.result_value ∙ cut (goal.at.run_record-requires c).After-narrowed)

pub run_record-requires : goal.run_record-requires
run_record-requires c =
    let r = cut_run (reference_of c.args.f) (of_displacement (row_at c.args.state.now c.args.p)) in
    let w = living-some r _ (left c) in
    subst SmallRun (sym w.0) (narrowed-small c.requires.2 (record_run-small c.requires.3) w.1)

pub returns-in-Some : goal.returns-in-Some
returns-in-Some c =
    let f = reference_of c.args.f in
    let q = of_displacement (row_at c.args.state.now c.args.p) in
    let w = living-some (cut_run f q) _ (left (goal.at.returns-in-Some c).After-append_row-arg-1) in
    let row = c.run_record.ensures ∙ ap (λ z. by_displacement (run_record z)) w.0 in
    rw (cut_left f q w.1, ← row) c.append_row.ensures

pub returns-in-None : goal.returns-in-None
returns-in-None c =
    let f = reference_of c.args.f in
    let q = of_displacement (row_at c.args.state.now c.args.p) in
    let nothing = nothing_living (cut_run f q) c.in-None.is (c.narrowed.ensures.result_value ∙ cut (goal.at.returns-in-None c).After-narrowed) in
    rw (cut-none f q (living-none (cut_run f q) nothing)) (append_none c.args.state.now c.args.n)
