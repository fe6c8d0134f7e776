-- Records written to the front of a slice of structs, one after the other.
use mathlib.Core.Path.{◌≡◌, refl, sym, ap, ◌∙◌}
use mathlib.Core.List.{List, [], ◌∷◌, ◌++◌, map, map-append, append_assoc}
use Prim.Native.Nat.{ℕ, zero, suc, ◌*◌, ◌≤◌, ◌<◌}
use native.Mathlib.Numerals.{add-one}
use native.Mathlib.Omega.{arith}
use lib.IntN.{ℤ}
use lib.ListN.{length, set, drop, length-append, length-drop, length-map}
use lib.Seq.{drop-cons, set_at}
use Rattle.model.specs.Bitmapping.{Record}
use Rattle.model.specs.Calls as calls
use Rattle.sorting.specs.Rows.{row_width, rows_of}
use Rattle.sorting.proofs.Tables.{rows_of_length, rows_of_add, row_at_drop}
use Rattle.records.specs.declared.Record.{Record as Stored}
use Rattle.records.specs.Promises.{stored_records}
use Rattle.records.specs.Putting.{row_stored, record_at, records_in}

-- n records are read
pub records_in_length : (numbers : List ℤ) (n : ℕ) → length (records_in numbers n) ≡ n
records_in_length numbers n = length-map (rows_of numbers n) row_stored ∙ rows_of_length numbers n

-- one record more is the next one behind
pub records_in-more : (numbers : List ℤ) (n : ℕ) → records_in numbers (suc n) ≡ records_in numbers n ++ (record_at numbers n ∷ [])
unfolding rows_of
records_in-more numbers n =
    ap (records_in numbers) (sym (add-one n)) ∙ ap (map row_stored) (rows_of_add numbers n 1)
    ∙ map-append row_stored (rows_of numbers n) (rows_of (drop (row_width * n) numbers) 1)
    ∙ ap (λ row. records_in numbers n ++ (row_stored row ∷ [])) (row_at_drop numbers n)

-- before any record is stored, the slice is as it was
pub put_none : (numbers : List ℤ) (old : List Stored) → old ≡ records_in numbers 0 ++ drop 0 old
unfolding rows_of
put_none numbers old = refl

-- the next record is stored behind those in front
pub put_more : (numbers : List ℤ) (old : List Stored) (n : ℕ) → n < length old
    → set (records_in numbers n ++ drop n old) n (record_at numbers n) ≡ records_in numbers (suc n) ++ drop (suc n) old
put_more numbers old n h =
    let v = record_at numbers n in
    ap (λ rest. set (records_in numbers n ++ rest) n v) (drop-cons old n v h)
    ∙ set_at (records_in numbers n) _ (drop (suc n) old) v n (records_in_length numbers n)
    ∙ sym (append_assoc (records_in numbers n) (v ∷ []) (drop (suc n) old))
    ∙ sym (ap (λ front. front ++ drop (suc n) old) (records_in-more numbers n))

-- records in front keep the length
pub put_length : (numbers : List ℤ) (old : List Stored) (n : ℕ) → n ≤ length old → length (records_in numbers n ++ drop n old) ≡ length old
put_length numbers old n h = simp (length-append, length-drop) (omega (arith, records_in_length numbers n))

-- the records whose numbers stand in front are read
pub records_in-numbers : (records : List Record) (rest : List ℤ) → stored_records (records_in (calls.numbers_of records ++ rest) (length records)) ≡ records
unfolding rows_of calls.numbers_of stored_records
records_in-numbers [] rest = refl
records_in-numbers (s ∷ records) rest = ap (λ (l : List Record). s ∷ l) (records_in-numbers records rest)

-- the records that a slice stores past its front
pub stored_records_drop : (n : ℕ) (old : List Stored) → stored_records (drop n old) ≡ drop n (stored_records old)
unfolding stored_records
stored_records_drop zero old = refl
stored_records_drop (suc n) [] = refl
stored_records_drop (suc n) (s ∷ old) = stored_records_drop n old
