-- The batch is too long, what is asked for is refused, or the list is made and passed.
use Rattle.std.specs.Prelude.{Ok}
use Rattle.std.proofs.lemmas.Result.{err_from_is_err_and}
use mathlib.Core.Path.{◌≡◌, sym}
use native.Mathlib.Omega.{arith}
use mir.Facts.{to_z-of_z}
use Rattle.model.specs.Graph.{graph_of}
use Rattle.model.specs.Runs.{list_of}
use Rattle.normalisation.specs.Records.{records_of}
use Rattle.normalisation.proofs.Records.{records_of-front}
use Rattle.asked.specs.Asking.{ListedAsked}
use Rattle.asked.proofs.Answers.{asked-tables, asked-root, asked-leaf}
use Rattle.asked.proofs.Listed.{refused-listed, given_asked, given_count, given_numbers, given_room, list-few}
use Rattle.batch.proofs.Fitting.{list-fit}
use Rattle.batch.proofs.Promises.{batch-long, batch-refused, batch-passed}
use Rattle.batch.proofs.batch.Goals.{In_ok-records}
use Rattle.batch.proofs.batch.Goals as goal

pub returns-then-addresses-gt-MAX_BATCH : goal.returns-then-addresses-gt-MAX_BATCH
returns-then-addresses-gt-MAX_BATCH c = batch-long _ _ _ _ _ _ _ (omega (arith, c.if-addresses-gt-MAX_BATCH.true))

-- what listing gives
listed : (c : In_ok-records) → let a = c.args in ListedAsked a.kind a.nodes.now a.edges.now a.root a.leaf (Ok c.in_ok-records.records) c.list_asked.new.work
listed c = simp (to_z-of_z, c.ranges.root, c.ranges.leaf) at c.in_ok-records.ensures

records-same : (v : In_ok-records) → let s = v.args in
    records_of v.list_asked.new.work v.in_ok-records.records ≡ list_of s.kind (graph_of s.nodes.now s.edges.now) s.root s.leaf
records-same v = let p = listed v in records_of-front _ _ (sym (given_count _ _ _ _ _ p)) (given_numbers _ _ _ _ _ p)

-- ---- the outcomes

pub pass-requires : goal.pass-requires
pass-requires c =
    let p = listed (goal.at.pass-requires c).In_ok-records in
    let taken = given_asked _ _ _ _ _ p in
    record {
      within = given_room _ _ _ _ _ p;
      few = omega (arith, given_count _ _ _ _ _ p, list-few c.args.kind _ _ _ _ taken);
      batch = omega (arith, c.if-addresses-gt-MAX_BATCH.false);
      fit = rw (records-same (goal.at.pass-requires c).In_ok-records) (list-fit _ (asked-tables _ _ _ _ taken).graph (asked-root _ _ _ _ taken).row (asked-leaf _ _ _ _ taken));
    }

pub returns-in_err-records : goal.returns-in_err-records
returns-in_err-records c =
    let p = err_from_is_err_and c.from_residual.result c.from_residual.ensures.1 in
    let told = simp (to_z-of_z, c.ranges.root, c.ranges.leaf) at c.in_err-records.ensures in
    rw (p.1, p.2) (batch-refused _ _ _ _ _ _ _ c.in_err-records.field-0.0 (omega (arith, c.if-addresses-gt-MAX_BATCH.false)) (refused-listed _ _ _ _ _ told))

pub returns : goal.returns
returns c =
    let here = (goal.at.returns c).In_ok-records in
    batch-passed _ _ _ _ _ _ _ (omega (arith, c.if-addresses-gt-MAX_BATCH.false)) (given_asked _ _ _ _ _ (listed here)) (rw (records-same here) at c.pass.ensures)
