-- At the end of the list no row is added; else the rows of a record stand before those of the rest.
use mathlib.Core.Path.{sym, ap, subst, ◌∙◌}
use mathlib.Core.List.{◌∷◌}
use Prim.Native.Nat.{ℕ, ◌+◌, ◌*◌, ◌≤◌}
use native.Mathlib.Omega.{arith}
use borrow.Author.Tests.{leb-true, leb-false}
use lib.ListN.{length}
use Rattle.model.specs.Limits.{max_batch, batch_width}
use Rattle.model.specs.Bitmapping.{Record}
use Rattle.batches.specs.Batch.{rows_in, counts_result}
use Rattle.normalisation.specs.Records.{records_from}
use Rattle.normalisation.proofs.Records.{records_from_length, records_from-more, records_from-none, record_at_in}
use Rattle.sorting.proofs.Halves.{part_length}
use Rattle.verdicts.specs.Records.{as_record}
use Rattle.batches.proofs.Rows.{rows_few, batch-few}
use Rattle.batchrows.specs.LeafBits.{LeafBitsFit}
use Rattle.batchpass.specs.Passing.{PassedBehind}
use Rattle.batchpass.proofs.Passing.{passed_none, passed_length, passed-written, passed-short}
use Rattle.batchpass.proofs.+pass_from.Goals.{After-count_rows, After-pass_from-rest, then-fit, else-fit}
use Rattle.batchpass.proofs.+pass_from.Goals as goal

pub returns-then-n-i : goal.returns-then-n-i
returns-then-n-i t c = rw (records_from-none c.args.list.now c.args.i c.args.n c.if-n-i.true) (passed_none c.args.addresses.now c.args.before c.args.out.now)

-- no more rows are counted than the limit of a batch for each record
few-rows : (t : ℕ) (c : After-count_rows t) → c.args.before + c.count_rows.result ≤ max_batch * (c.args.i + 1)
few-rows t c =
    omega (arith, c.count_rows.ensures, rows_few (as_record c.record_at-s.result) 0 c.args.addresses.now, c.requires.0.batch, c.requires.2)

pub overflow_add-rows : goal.overflow_add-rows
overflow_add-rows t c = omega (arith, few-rows t (goal.at.overflow_add-rows t c).After-count_rows, c.requires.0.few, c.if-n-i.false)

pub pass_from-rest-requires : goal.pass_from-rest-requires
pass_from-rest-requires t c =
    (omega (arith, c.decreases, c.if-n-i.false), (c.requires.0, omega (arith, c.if-n-i.false), few-rows t (goal.at.pass_from-rest-requires t c).After-count_rows))

-- the rest is passed
rest-passed : (t : ℕ) (c : After-pass_from-rest t) →
    PassedBehind (records_from c.args.list.now (c.args.i + 1) c.args.n) c.args.addresses.now (c.args.before + length (rows_in (as_record c.record_at-s.result) 0 c.args.addresses.now))
    c.args.out.now (counts_result c.pass_from-rest.result) c.pass_from-rest.new.out
rest-passed t c = rw c.count_rows.ensures at c.pass_from-rest.ensures

-- nor up to the end of the list
pub fit-requires : goal.fit-requires
fit-requires t c =
    let rest = records_from c.args.list.now (c.args.i + 1) c.args.n in
    omega (
      arith,
      c.pass_from-rest.ensures.rows,
      few-rows t (goal.at.fit-requires t c).After-count_rows,
      batch-few rest c.args.addresses.now c.requires.0.batch,
      records_from_length c.args.list.now (c.args.i + 1) c.args.n,
      c.requires.0.few,
      c.if-n-i.false,
    )

-- the rows fit, and so do those before and those of the record
pub put_rows-requires : goal.put_rows-requires
put_rows-requires t c =
    let passed = rest-passed t (goal.at.put_rows-requires t c).After-pass_from-rest in
    let kept = passed_length passed in
    let room = leb-true (batch_width * c.pass_from-rest.result.rows) _ (sym c.fit.ensures ∙ c.if-fit.true) in (
      subst LeafBitsFit (sym c.record_at-s.ensures) (c.requires.0.fit _ (record_at_in c.args.list.now c.args.i c.args.n c.if-n-i.false)),
      c.requires.0.batch,
      omega (arith, room, kept, passed.rows, part_length (batch_width * c.args.before) c.pass_from-rest.new.out),
    )

pub overflow_add-result : goal.overflow_add-result
overflow_add-result t c =
    omega (arith, c.pass_from-rest.ensures.records, records_from_length c.args.list.now (c.args.i + 1) c.args.n, c.requires.0.few)

-- with the record that is read the pass went through one more
pub returns : goal.returns
returns t c =
    let read = as_record c.record_at-s.result in
    let rest = records_from c.args.list.now (c.args.i + 1) c.args.n in
    let list = records_from-more c.args.list.now c.args.i c.args.n c.if-n-i.false ∙ ap (λ (r : Record). r ∷ rest) (sym c.record_at-s.ensures) in
    let passed = rest-passed t (goal.at.returns t c).After-pass_from-rest in
    let kept = passed_length passed in
    elim c.if-fit.branch [
      | then-fit w ↦
          let room = leb-true (batch_width * c.pass_from-rest.result.rows) _ (sym c.fit.ensures ∙ w.if-fit.true) in
          let fits : batch_width * c.pass_from-rest.result.rows ≤ length c.args.out.now = omega (arith, room, kept) in
          rw (list, w.out-is) (passed-written read c.args.before passed fits w.put_rows.ensures)
      | else-fit w ↦
          let short = leb-false (batch_width * c.pass_from-rest.result.rows) _ (sym c.fit.ensures ∙ w.if-fit.false) in
          rw (list, w.out-is) (passed-short read c.args.before passed (omega (arith, short, kept)))
    ]
