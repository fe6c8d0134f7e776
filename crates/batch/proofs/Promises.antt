-- What batch promises, in each of its outcomes: the batch is too long, what it is asked for is refused, or the list is passed.
use Rattle.std.specs.Prelude.{Err, Result}
use mathlib.Core.Path.{◌≡◌, refl, sym, ap, ◌∙◌}
use mathlib.Core.Bool.{Bool, true, false}
use mathlib.Core.List.{List, ◌++◌}
use mathlib.Core.Option.{Option, none, some}
use Prim.Native.Nat.{ℕ, ◌≤◌, ◌<◌}
use native.Mathlib.Omega.{arith}
use borrow.Author.Tests.{lt-ltb, le-ltb}
use lib.Dec.{ltb}
use lib.IntN.{ℤ}
use lib.ListN.{length, drop}
use Rattle.integers.proofs.Tests.{Test, passed, failed, ltb?}
use Rattle.model.specs.declared.WalkKind.{WalkKind}
use Rattle.model.specs.Limits.{max_batch}
use Rattle.model.specs.Graph.{graph_of}
use Rattle.model.specs.Runs.{list_of}
use Rattle.model.specs.Refusals.{Refusal}
use Rattle.model.specs.Checks.{when, ◌then◌, check_single}
use Rattle.model.specs.Calls.{Answer, refused, full, answer, buffer_after}
use Rattle.batches.specs.Batch.{BatchRow, BatchCounts, batch_numbers, batch_of, check_batch, batch_answer, counts_of, batch_numbers_of, batch_gives, batch_after, batched_answer}
use Rattle.model.specs.Answers.{numbered, refusal_of}
use Rattle.model.specs.declared.Reason.{Reason}
use Rattle.model.specs.declared.Reason.TheVariants.{LongBatch}
use Rattle.model.proofs.Paths.{Fit}
use Rattle.model.proofs.Taken.{taken-fit}
use Rattle.model.proofs.ListLaw.{list_of_reached}
use Rattle.tables.proofs.Checks.{checked}
use Rattle.asked.specs.Asking.{check_asked}
use Rattle.asked.proofs.Answers.{asked-tables, asked-leaf, single-refused, single_passes, single_given}
use Rattle.batches.proofs.Walks.{batch-reached, batch-once, batch-walk, batch-walk_length}
use Rattle.batchpass.specs.Passing.{Passed}
use Rattle.batch.specs.Promises.{BatchStands, BatchPromise}
use Rattle.model.specs.declared.BatchCounts as code

-- the counts of an answer, and its numbers
answer-counts : (n : ℕ) (c : Option Refusal) (ts : List BatchRow) → counts_of n (answer c ts) ≡ answer c (record { rows = length ts; records = n })
unfolding answer counts_of
answer-counts n none ts = refl
answer-counts n (some q) ts = refl

answer-numbers : (c : Option Refusal) (ts : List BatchRow) → batch_numbers_of (answer c ts) ≡ answer c (batch_numbers ts)
unfolding answer batch_numbers_of
answer-numbers none ts = refl
answer-numbers (some q) ts = refl

module _ (kind : WalkKind) (ns es : List ℤ) (r l : ℤ) (xs : List ℤ) where
  -- the rows of the call
  abbrev rows : List BatchRow
  rows = batch_of kind (graph_of ns es) r l xs

  abbrev size : ℕ
  size = length (batch_numbers rows)

  -- ---- the answer

  -- the batch is too long
  answer-long : (room : ℕ) → max_batch < length xs → batch_answer kind ns es r l xs room ≡ refused (numbered 19 7 0)
  unfolding batch_answer check_batch when ◌then◌ answer
  answer-long room h = rw (lt-ltb max_batch (length xs) h) refl

  -- it is not: the rest is as for list
  answer-short : (room : ℕ) → length xs ≤ max_batch → batch_answer kind ns es r l xs room ≡ answer (check_single ns es r l size room) rows
  unfolding batch_answer check_batch when ◌then◌
  answer-short room h = rw (le-ltb max_batch (length xs) h) refl

  -- where rows are given, what is asked for is taken, and they are the rows of the call
  answer_given : (room : ℕ) {ts : List BatchRow} → batch_answer kind ns es r l xs room ≡ full ts → (full tt ≡ checked (check_asked ns es r l)) × (rows ≡ ts)
  answer_given room {ts} e = go (ltb max_batch (length xs)) (ltb? max_batch (length xs))
    where
      go : (t : Bool) → Test (max_batch < length xs) (length xs ≤ max_batch) t → (full tt ≡ checked (check_asked ns es r l)) × (rows ≡ ts)
      go true (passed h) = let long = answer-long room h in let z : ◌≡◌ {A = ℕ} 0 1 = cc in absurd (omega arith)
      go false (failed h) = single_given rows ns es r l size room (sym (answer-short room h) ∙ e)

  -- ---- what stands in the buffer

  -- the rows of a call that is taken
  rows-stand : full tt ≡ checked (check_asked ns es r l) → {counts : BatchCounts} {old new : List ℤ} → counts.records ≡ length (list_of kind (graph_of ns es) r l)
      → counts.rows ≡ length rows → new ≡ batch_numbers rows ++ drop (length (batch_numbers rows)) old → BatchStands kind (graph_of ns es) r l xs counts old new
  unfolding batch_of
  rows-stand taken records count stands =
      let fit : Fit (graph_of ns es) l = taken-fit (asked-tables ns es r l taken).graph (asked-leaf ns es r l taken) in
      record {
        list = list_of kind (graph_of ns es) r l;
        reached = list_of_reached fit;
        records = records;
        rows = rows;
        order = refl;
        count = count;
        stands = stands;
        precisely = batch-reached kind r l fit xs;
        once = batch-once kind r l fit xs;
        walks = λ p h. (batch-walk kind r l fit xs p h, batch-walk_length kind r l fit xs p h);
      }

  module _ (old : List ℤ) where
    -- what the answer and the buffer are fixes what stands there
    batch_promise : (given : Result code.BatchCounts Reason) (new : List ℤ) → batched_answer given ≡ batch_gives kind ns es r l xs old → new ≡ batch_after kind ns es r l xs old
        → BatchPromise kind ns es r l xs old given new
    unfolding batch_gives batch_after counts_of batch_numbers_of buffer_after
    batch_promise given new a b =
        record { answer = a; buffer = b; stands = λ counts e. go counts (batch_answer kind ns es r l xs (length old)) refl (sym a ∙ e) b }
      where
        go : (counts : BatchCounts) (x : Answer (List BatchRow)) → batch_answer kind ns es r l xs (length old) ≡ x
            → counts_of (length (list_of kind (graph_of ns es) r l)) x ≡ full counts → new ≡ buffer_after (batch_numbers_of x) old
            → BatchStands kind (graph_of ns es) r l xs counts old new
        go counts (refused q) h k c = let z : ◌≡◌ {A = ℕ} 0 1 = cc in absurd (omega arith)
        go counts (full ts) h k c =
            let (taken, same) = answer_given (length old) h in
            let told : record { rows = length ts; records = length (list_of kind (graph_of ns es) r l) } ≡ counts = cc in
            rows-stand taken (sym (ap (λ (n : BatchCounts). n.records) told)) (sym (ap (λ (n : BatchCounts). n.rows) told) ∙ sym (ap length same)) (rw same c)

    -- ---- the outcomes

    -- the batch is too long
    pub batch-long : max_batch < length xs → BatchPromise kind ns es r l xs old (Err LongBatch) old
    unfolding batch_gives batch_after counts_of batch_numbers_of buffer_after
    batch-long h =
        let long = answer-long (length old) h in
        batch_promise (Err LongBatch) old (sym (ap (counts_of (length (list_of kind (graph_of ns es) r l))) long)) (sym (ap (λ a. buffer_after (batch_numbers_of a) old) long))

    -- what it is asked for is refused
    pub batch-refused : (reason : Reason) → length xs ≤ max_batch → refused (refusal_of reason) ≡ checked (check_asked ns es r l)
        → BatchPromise kind ns es r l xs old (Err reason) old
    unfolding batch_gives batch_after counts_of batch_numbers_of buffer_after
    batch-refused reason h e =
        let stops = answer-short (length old) h ∙ single-refused rows ns es r l size (length old) e in
        batch_promise (Err reason) old (sym (ap (counts_of (length (list_of kind (graph_of ns es) r l))) stops)) (sym (ap (λ a. buffer_after (batch_numbers_of a) old) stops))

    -- the list is passed
    pub batch-passed : {given : Result code.BatchCounts Reason} {new : List ℤ} → length xs ≤ max_batch → full tt ≡ checked (check_asked ns es r l)
        → Passed (list_of kind (graph_of ns es) r l) xs old given new → BatchPromise kind ns es r l xs old given new
    unfolding batch_gives batch_after batch_of
    batch-passed {given} h taken p =
        let passes = answer-short (length old) h ∙ single_passes rows ns es r l size (length old) taken in
        batch_promise given _ (rw (passes, answer-counts) p.answers) (rw (passes, answer-numbers) p.buffer)
