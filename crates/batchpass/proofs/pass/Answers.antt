-- All records are passed from the first on, and the count of rows says whether they fit.
use mathlib.Core.Path.{sym, ◌∙◌}
use Prim.Native.Nat.{◌*◌}
use native.Mathlib.Omega.{arith}
use borrow.Author.Tests.{leb-true, leb-false}
use Rattle.model.specs.Limits.{batch_width}
use Rattle.batches.specs.Batch.{counts_result}
use Rattle.normalisation.specs.Records.{records_of}
use Rattle.normalisation.proofs.Records.{records_of_length, records_from-start}
use Rattle.batches.proofs.Rows.{batch-few}
use Rattle.batchpass.specs.Passing.{PassedBehind}
use Rattle.batchpass.proofs.Passing.{passed_length, passed-counts, passed-refused}
use Rattle.batchpass.proofs.pass.Goals.{After-pass_from-counts}
use Rattle.batchpass.proofs.pass.Goals as goal

-- the records are passed
passed : (a : After-pass_from-counts) → PassedBehind (records_of a.args.list.now a.args.n) a.args.addresses.now 0 a.args.out.now (counts_result a.pass_from-counts.result) a.pass_from-counts.new.out
passed a = rw (records_from-start a.args.list.now a.args.n) at a.pass_from-counts.ensures

pub fit-requires : goal.fit-requires
fit-requires c =
    let records = records_of c.args.list.now c.args.n in
    omega (arith, (passed (goal.at.fit-requires c).After-pass_from-counts).rows, batch-few records c.args.addresses.now c.requires.batch, records_of_length c.args.list.now c.args.n, c.requires.few)

pub returns-then-fit : goal.returns-then-fit
returns-then-fit c =
    let fits = leb-true (batch_width * c.pass_from-counts.result.rows) _ (sym c.fit.ensures ∙ c.if-fit.true) in
    passed-counts (passed (goal.at.returns-then-fit c).After-pass_from-counts) (omega (arith, fits, passed_length (passed (goal.at.returns-then-fit c).After-pass_from-counts)))

pub returns-else-fit : goal.returns-else-fit
returns-else-fit c =
    let short = leb-false (batch_width * c.pass_from-counts.result.rows) _ (sym c.fit.ensures ∙ c.if-fit.false) in
    passed-refused (passed (goal.at.returns-else-fit c).After-pass_from-counts) (omega (arith, short, passed_length (passed (goal.at.returns-else-fit c).After-pass_from-counts)))
