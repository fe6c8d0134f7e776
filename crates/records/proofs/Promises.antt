-- What list_records promises, from what list leaves in the work buffer.
use Rattle.std.specs.Prelude.{Err, Ok, Result}
use mathlib.Core.Path.{◌≡◌, refl, sym, ap, ◌∙◌}
use mathlib.Core.Bool.{Bool, true, false, cond}
use mathlib.Core.List.{List, ◌++◌, map-append, append_assoc}
use mathlib.Core.Option.{Option, none, some}
use Prim.Native.Nat.{min, ℕ, ◌*◌, ◌≤◌, ◌<◌}
use native.Mathlib.Omega.{arith}
use lib.Dec.{ltb}
use lib.IntN.{ℤ}
use lib.ListN.{length, take, drop, length-map}
use lib.Seq.{length-take-le}
use Rattle.integers.proofs.Tests.{Test, passed, failed, ltb?}
use Rattle.model.specs.declared.WalkKind.{WalkKind}
use Rattle.model.specs.Limits.{record_width, max_paths}
use Rattle.model.specs.Graph.{graph_of}
use Rattle.model.specs.Bitmapping.{Record}
use Rattle.model.specs.Runs.{list_of}
use Rattle.model.specs.Refusals.{Refusal}
use Rattle.model.specs.Calls.{Answer, refused, full, answer, length_of, buffer_after, numbers_of, list_answer, numbers_answer, list_gives, list_after}
use Rattle.model.specs.Calls.{records_gives, records_after}
use Rattle.model.specs.Answers.{written_answer}
use Rattle.tables.proofs.Checks.{checked}
use Rattle.asked.specs.Asking.{check_asked}
use Rattle.asked.proofs.Listed.{list-few}
use Rattle.asked.proofs.Answers.{single-refused, single-long, single-full, single_given}
use Rattle.normalisation.proofs.Normalising.{numbers_length}
use Rattle.bitmapping.proofs.Promises.{list_given}
use Rattle.records.specs.declared.Record.{Record as Stored}
use Rattle.sorting.specs.Rows.{rows_of}
use Rattle.records.specs.Promises.{stored_record, stored_records, lent_numbers, work_after, RecordsStand, RecordsPromise}
use Rattle.records.specs.Putting.{records_in, count_of, Listed}
use Rattle.records.proofs.Putting.{records_in-numbers, stored_records_drop}
use Rattle.model.specs.declared.Reason.{Reason}

-- ---- the numbers that are lent

-- for few records, three numbers each
pub lent-few : {room : ℕ} → room < max_paths → lent_numbers room ≡ record_width * room
unfolding lent_numbers
lent-few {room} h = go (ltb room max_paths) (ltb? room max_paths)
  where
    go : (t : Bool) → Test (room < max_paths) (max_paths ≤ room) t → record_width * cond t room max_paths ≡ record_width * room
    go true (passed k) = refl
    go false (failed k) = absurd (omega arith)

-- for many, those of the longest list
pub lent-many : {room : ℕ} → max_paths ≤ room → lent_numbers room ≡ record_width * max_paths
unfolding lent_numbers
lent-many {room} h = go (ltb room max_paths) (ltb? room max_paths)
  where
    go : (t : Bool) → Test (room < max_paths) (max_paths ≤ room) t → record_width * cond t room max_paths ≡ record_width * max_paths
    go true (passed k) = absurd (omega arith)
    go false (failed k) = refl

-- what is lent is no more than the longest list needs, and no more than three numbers a record
pub lent-within : (room : ℕ) → (lent_numbers room ≤ record_width * max_paths) × (lent_numbers room ≤ record_width * room)
lent-within room = go (ltb room max_paths) (ltb? room max_paths)
  where
    go : (t : Bool) → Test (room < max_paths) (max_paths ≤ room) t → (lent_numbers room ≤ record_width * max_paths) × (lent_numbers room ≤ record_width * room)
    go true (passed k) = (omega (arith, lent-few k), omega (arith, lent-few k))
    go false (failed k) = (omega (arith, lent-many k), omega (arith, lent-many k))

-- that is three for each record, of which there are at most so many
pub lent-min : (room : ℕ) → record_width * min room max_paths ≡ lent_numbers room
lent-min room = go (ltb room max_paths) (ltb? room max_paths)
  where
    go : (t : Bool) → Test (room < max_paths) (max_paths ≤ room) t → record_width * min room max_paths ≡ lent_numbers room
    go true (passed k) = omega (arith, lent-few k)
    go false (failed k) = let many = lent-many k in omega (arith, many)

-- ---- the answer

module _ (kind : WalkKind) (ns es : List ℤ) (r l : ℤ) where
  -- where list gives records, they are no more than a list can have, and their numbers fit
  pub given_fit : (room : ℕ) (records : List Record) → list_answer kind ns es r l room ≡ full records → (length records ≤ max_paths) × (record_width * length records ≤ room)
  unfolding list_answer
  given_fit room records e = (omega (arith, ap length given.1, list-few kind ns es r l given.0), fit (ltb room size) (ltb? room size))
    where
      all : List Record
      all = list_of kind (graph_of ns es) r l

      size : ℕ
      size = length (numbers_of all)

      given : (full tt ≡ checked (check_asked ns es r l)) × (all ≡ records)
      given = single_given all ns es r l size room e

      fit : (t : Bool) → Test (room < size) (size ≤ room) t → record_width * length records ≤ room
      fit true (passed k) =
          let long = single-long all ns es r l size room given.0 k in
          let z : ◌≡◌ {A = ℕ} 0 1 = cc in absurd (omega arith)
      fit false (failed k) = omega (arith, ap length given.1, numbers_length all)

  -- more room than the longest list needs changes nothing
  pub answer-lent : (room : ℕ) → list_answer kind ns es r l (record_width * room) ≡ list_answer kind ns es r l (lent_numbers room)
  unfolding list_answer answer
  answer-lent room = go (ltb room max_paths) (ltb? room max_paths)
    where
      all : List Record
      all = list_of kind (graph_of ns es) r l

      size : ℕ
      size = length (numbers_of all)

      many : max_paths ≤ room → (c : Option Refusal) → checked c ≡ checked (check_asked ns es r l) → list_answer kind ns es r l (record_width * room) ≡ list_answer kind ns es r l (record_width * max_paths)
      many k none e =
          let few = list-few kind ns es r l e in
          single-full all ns es r l size (record_width * room) e (omega (arith, numbers_length all))
          ∙ sym (single-full all ns es r l size (record_width * max_paths) e (omega (arith, numbers_length all)))
      many k (some x) e = single-refused all ns es r l size (record_width * room) e ∙ sym (single-refused all ns es r l size (record_width * max_paths) e)

      go : (t : Bool) → Test (room < max_paths) (max_paths ≤ room) t → list_answer kind ns es r l (record_width * room) ≡ list_answer kind ns es r l (lent_numbers room)
      go true (passed k) = ap (list_answer kind ns es r l) (sym (lent-few k))
      go false (failed k) = many k (check_asked ns es r l) refl ∙ ap (list_answer kind ns es r l) (sym (lent-many k))

-- ---- how many records are written

-- a refusal tells of none
count-refused : (given : Result ℕ Reason) {x : Refusal} → written_answer given ≡ refused x → count_of given ≡ 0
count-refused (Ok n) e = let z : ◌≡◌ {A = ℕ} 0 1 = cc in absurd (omega arith)
count-refused (Err reason) e = refl

-- a count tells of as many
count-full : (given : Result ℕ Reason) {n : ℕ} → written_answer given ≡ full n → count_of given ≡ n
count-full (Ok n) e = cc
count-full (Err reason) e = let z : ◌≡◌ {A = ℕ} 0 1 = cc in absurd (omega arith)

module _ (kind : WalkKind) (ns es : List ℤ) (r l : ℤ) (room : ℕ) where
  -- no more than a list can have, and than there is room for
  count-fit : (given : Result ℕ Reason) → written_answer given ≡ length_of (list_answer kind ns es r l (record_width * room)) → (count_of given ≤ max_paths) × (count_of given ≤ room)
  unfolding length_of
  count-fit given e = go (list_answer kind ns es r l (record_width * room)) refl
    where
      go : (x : Answer (List Record)) → list_answer kind ns es r l (record_width * room) ≡ x → (count_of given ≤ max_paths) × (count_of given ≤ room)
      go (refused q) h = let none = count-refused given (e ∙ ap length_of h) in (omega arith, omega arith)
      go (full records) h =
          let some = count-full given (e ∙ ap length_of h) in
          let fit = given_fit kind ns es r l (record_width * room) records h in
          (omega (arith, fit.0), omega (arith, fit.1))

  -- list was lent the front of the work buffer
  pub front-listed : (work worked : List ℤ) (given : Result ℕ Reason) → length work ≡ record_width * max_paths
      → written_answer given ≡ list_gives kind ns es r l (take (lent_numbers room) work)
      → worked ≡ list_after kind ns es r l (take (lent_numbers room) work) ++ drop (lent_numbers room) work → Listed kind ns es r l room work given worked
  unfolding work_after list_gives
  front-listed work worked given h a b =
      let size = length-take-le (lent_numbers room) work (omega (arith, (lent-within room).0)) in
      let answer = a ∙ ap (λ n. length_of (list_answer kind ns es r l n)) size ∙ ap length_of (sym (answer-lent kind ns es r l room)) in
      let fit = count-fit given answer in
      record { answer = answer; numbers = b; whole = h; few = fit.0; fit = fit.1 }

-- ---- what the slice of structs then holds

module _ (kind : WalkKind) (ns es : List ℤ) (r l : ℤ) (old : List Stored) (work : List ℤ) {given : Result ℕ Reason} {worked : List ℤ}
    (p : Listed kind ns es r l (length old) work given worked)
  where
    -- the answer of list, as the promise has it
    abbrev listed : Answer (List Record)
    listed = list_answer kind ns es r l (record_width * length old)

    -- the slice with the records that the answer tells of
    abbrev pub put : List Stored
    put = records_in worked (count_of given) ++ drop (count_of given) old

    -- a refusal leaves it as it was
    slice_kept : {x : Refusal} → listed ≡ refused x → stored_records put ≡ stored_records old
    unfolding length_of rows_of
    slice_kept e = ap (λ n. stored_records (records_in worked n ++ drop n old)) (count-refused given (p.answer ∙ ap length_of e))

    -- the numbers of the records stand in front of the work buffer
    numbers-front : (records : List Record) → listed ≡ full records → (rest : List ℤ) × (worked ≡ numbers_of records ++ rest)
    unfolding work_after list_after buffer_after numbers_answer
    numbers-front records e =
        let k = lent_numbers (length old) in
        let size = length-take-le k work (omega (arith, p.whole, (lent-within (length old)).0)) in
        let same : list_answer kind ns es r l (length (take k work)) ≡ full records = ap (list_answer kind ns es r l) size ∙ sym (answer-lent kind ns es r l (length old)) ∙ e in
        let behind = drop (length (numbers_of records)) (take k work) in (
          behind ++ drop k work,
          p.numbers ∙ ap (λ a. buffer_after (numbers_answer a) (take k work) ++ drop k work) same ∙ append_assoc (numbers_of records) behind (drop k work),
        )

    -- else the records stand in front
    slice_written : (records : List Record) → listed ≡ full records → stored_records put ≡ records ++ drop (length records) (stored_records old)
    unfolding length_of stored_records
    slice_written records e =
        let n = length records in
        let front = numbers-front records e in
        ap (λ m. stored_records (records_in worked m ++ drop m old)) (count-full given (p.answer ∙ ap length_of e))
        ∙ map-append stored_record (records_in worked n) (drop n old)
        ∙ ap (λ t. stored_records (records_in t n) ++ stored_records (drop n old)) front.1
        ∙ ap (λ t. t ++ stored_records (drop n old)) (records_in-numbers records front.0)
        ∙ ap (λ t. records ++ t) (stored_records_drop n old)

    -- the room of a slice of structs is that of its records
    slice_listed : list_answer kind ns es r l (record_width * length (stored_records old)) ≡ listed
    unfolding stored_records
    slice_listed = ap (λ n. list_answer kind ns es r l (record_width * n)) (length-map old stored_record)

    pub records_promise : RecordsPromise kind ns es r l old work given put worked
    unfolding records_gives records_after length_of buffer_after
    records_promise =
        record {
          answer = p.answer ∙ sym (ap length_of slice_listed);
          buffer = after listed refl ∙ sym (ap (λ a. buffer_after a (stored_records old)) slice_listed);
          numbers = p.numbers;
          reached = λ n e. stands n listed refl (sym p.answer ∙ e);
        }
      where
        after : (x : Answer (List Record)) → listed ≡ x → stored_records put ≡ buffer_after listed (stored_records old)
        after (refused q) e = slice_kept e ∙ sym (ap (λ a. buffer_after a (stored_records old)) e)
        after (full records) e = slice_written records e ∙ sym (ap (λ a. buffer_after a (stored_records old)) e)

        stands : (n : ℕ) (x : Answer (List Record)) → listed ≡ x → length_of listed ≡ full n → RecordsStand kind (graph_of ns es) r l n (stored_records old) (stored_records put)
        stands n (refused q) e k = let z : ◌≡◌ {A = ℕ} 0 1 = cc (ap length_of e) in absurd (omega arith)
        stands n (full records) e k =
            let count : length records ≡ n = cc (ap length_of e) in
            record {
              records = records;
              count = count;
              stands = slice_written records e ∙ ap (λ m. records ++ drop m (stored_records old)) count;
              reached = list_given kind ns es r l (record_width * length old) records e;
            }
