-- The pass record by record, from the end of the list: at the end there is no row more, and each record adds its rows in front of those behind it.
use Rattle.std.specs.Prelude.{Err, Ok}
use mathlib.Core.Path.{◌≡◌, refl, sym, ap, ◌∙◌}
use mathlib.Core.Bool.{Bool, true, false}
use mathlib.Core.List.{List, [], ◌∷◌, ◌++◌, flat_map}
use Prim.Native.Nat.{ℕ, ◌+◌, ◌-◌, ◌*◌, ◌≤◌, ◌<◌}
use native.Mathlib.Omega.{arith}
use borrow.Author.Tests.{lt-ltb, le-ltb}
use lib.Dec.{ltb}
use lib.IntN.{ℤ}
use lib.ListN.{length, take, drop, length-append, take-append-drop}
use Rattle.integers.proofs.Tests.{Test, passed, failed, ltb?}
use Rattle.model.specs.Limits.{batch_width}
use Rattle.model.specs.Bitmapping.{Record}
use Rattle.model.specs.Checks.{when, check_output}
use Rattle.model.specs.Calls.{full, answer, buffer_after}
use Rattle.batches.specs.Batch.{BatchRow, BatchCounts, rows_in, batch_rows, batch_numbers, counts_result}
use Rattle.model.specs.declared.BatchCounts as code
use Rattle.model.specs.declared.Reason.TheVariants.{LongOutput}
use Rattle.batches.proofs.Rows.{batch_numbers_length}
use Rattle.batches.proofs.Behind.{behind_length, behind_more}
use Rattle.batchpass.specs.Passing.{PassedBehind, Passed}

-- ---- what a pass leaves

-- the buffer keeps its length
pub passed_length : {records : List Record} {xs : List ℤ} {before : ℕ} {old new : List ℤ} {given : BatchCounts} → PassedBehind records xs before old given new
    → length new ≡ length old
passed_length {records} {xs} {before} {old} {new} p = go (ltb (length old) all) (ltb? (length old) all)
  where
    all : ℕ
    all = batch_width * (before + length (batch_rows records xs))

    go : (t : Bool) → Test (length old < all) (all ≤ length old) t → length new ≡ length old
    go true (passed h) = ap length (p.short h)
    go false (failed h) = ap length (p.fits h) ∙ behind_length before (batch_rows records xs) old h

-- ---- at the end of the list

-- there is no record, and no row more
pub passed_none : (xs : List ℤ) (before : ℕ) (old : List ℤ) → PassedBehind [] xs before old (record { rows = before; records = 0 }) old
unfolding batch_rows flat_map batch_numbers
passed_none xs before old =
    record {
      rows = omega arith;
      records = refl;
      fits = λ h. sym (ap (λ (k : ℕ). take (batch_width * before) old ++ drop (batch_width * k) old) none ∙ take-append-drop (batch_width * before) old);
      short = λ h. refl;
    }
  where
    none : before + 0 ≡ before
    none = omega arith

-- ---- a record more

-- its rows stand before those of the records behind it
rows_cons : (s : Record) (rest : List Record) (xs : List ℤ) → batch_rows (s ∷ rest) xs ≡ rows_in s 0 xs ++ batch_rows rest xs
unfolding batch_rows flat_map
rows_cons s rest xs = refl

module _ (s : Record) {rest : List Record} {xs : List ℤ} (before : ℕ) {old : List ℤ} {given : BatchCounts} {mid : List ℤ}
    (p : PassedBehind rest xs (before + length (rows_in s 0 xs)) old given mid)
  where
    -- what is counted for the rest is what is counted from this record on
    more_rows : given.rows ≡ before + length (batch_rows (s ∷ rest) xs)
    more_rows = p.rows ∙ omega (arith, ap length (rows_cons s rest xs), length-append (rows_in s 0 xs) (batch_rows rest xs))

    -- all rows fit, and those of the record are written to the front of what remains behind the rows before them
    pub passed-written : {tail : List ℤ} → batch_width * given.rows ≤ length old
        → tail ≡ batch_numbers (rows_in s 0 xs) ++ drop (batch_width * length (rows_in s 0 xs)) (take (length mid - batch_width * before) (drop (batch_width * before) mid))
        → PassedBehind (s ∷ rest) xs before old (record { rows = given.rows; records = given.records + 1 })
        (take (batch_width * before) mid ++ (tail ++ drop (length mid - batch_width * before) (drop (batch_width * before) mid)))
    passed-written h e =
        let room : batch_width * (before + length (rows_in s 0 xs ++ batch_rows rest xs)) ≤ length old = omega (arith, more_rows, ap length (rows_cons s rest xs)) in
        let fits = p.fits (omega (arith, p.rows)) in
        record {
          rows = more_rows;
          records = omega (arith, p.records);
          fits = λ _. rw (rows_cons s rest xs) (behind_more before (rows_in s 0 xs) (batch_rows rest xs) old room fits e);
          short = λ k. absurd (omega (arith, more_rows, k));
        }

    -- they do not fit, and nothing is written
    pub passed-short : length old < batch_width * given.rows
        → PassedBehind (s ∷ rest) xs before old (record { rows = given.rows; records = given.records + 1 }) mid
    passed-short h =
        record { rows = more_rows; records = omega (arith, p.records); fits = λ k. absurd (omega (arith, more_rows, k)); short = λ _. p.short (omega (arith, p.rows)) }

-- ---- all records

module _ {records : List Record} {xs old new : List ℤ} {counts : code.BatchCounts} (p : PassedBehind records xs 0 old (counts_result counts) new) where
  abbrev rows : List BatchRow
  rows = batch_rows records xs

  counted : length rows ≡ counts.rows
  counted = omega (arith, p.rows)

  same-counts : counts_result counts ≡ record { rows = length rows; records = length records }
  same-counts = λ i. record { rows = sym counted i; records = p.records i }

  -- the rows fit
  pub passed-counts : batch_width * counts.rows ≤ length old → Passed records xs old (Ok counts) new
  unfolding answer check_output when buffer_after
  passed-counts h =
      let few = le-ltb (length old) (length (batch_numbers rows)) (omega (arith, batch_numbers_length rows, counted)) in
      let all : batch_width * (0 + length rows) ≡ length (batch_numbers rows) = omega (arith, batch_numbers_length rows) in
      record { answers = rw few (ap full same-counts); buffer = rw few (p.fits (omega (arith, counted)) ∙ ap (λ (k : ℕ). batch_numbers rows ++ drop k old) all) }

  -- they do not
  pub passed-refused : length old < batch_width * counts.rows → Passed records xs old (Err LongOutput) new
  unfolding answer check_output when buffer_after
  passed-refused h =
      let many = lt-ltb (length old) (length (batch_numbers rows)) (omega (arith, batch_numbers_length rows, counted)) in
      record { answers = rw many refl; buffer = rw many (p.short (omega (arith, counted))) }
