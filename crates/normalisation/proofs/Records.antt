-- Records read from a flat list: those that were written are read, and the reading goes on record by record.
use mathlib.Core.Path.{◌≡◌, refl, sym, ap, ◌∙◌}
use mathlib.Core.List.Memᴰ
use mathlib.Core.List.{List, [], ◌∷◌, ◌++◌, map, append-nil}
use Prim.Native.Nat.{ℕ, ◌+◌, ◌-◌, ◌*◌, ◌≤◌, ◌<◌}
use native.Mathlib.Omega.{arith}
use lib.ListN.{length, take, drop, length-map}
use lib.IntN.{ℤ}
use Rattle.lists.specs.Lists.{◌∈◌}
use Rattle.lists.proofs.Membership.{map_in}
use Rattle.sorting.specs.declared.Row.{Row}
use Rattle.sorting.specs.Rows.{row_width, row_at, rows_of, rows_from}
use Rattle.sorting.proofs.Tables.{rows_of_length, rows_of_add, rows_of_take, rows_from_more, rows_from_none, rows_from_start}
use Rattle.model.specs.Bitmapping.{Record, IsListOf}
use Rattle.model.specs.Calls.{numbers_of}
use Rattle.model.proofs.Records.{touch_is}
use Rattle.model.proofs.Uniqueness.{list-touch}
use Rattle.normalisation.specs.Records.{of_row, record_at, records_of, records_from, IsNormal, NormalList}

-- the records that were written are read
pub records_of-numbers_of : (rs : List Record) (rest : List ℤ) → records_of (numbers_of rs ++ rest) (length rs) ≡ rs
unfolding rows_of numbers_of
records_of-numbers_of [] rest = refl
records_of-numbers_of (r ∷ rs) rest = ap {B = List Record} (λ l. r ∷ l) (records_of-numbers_of rs rest)

-- the same of a list that has the numbers of n records in front
pub records_of-front : {rs : List Record} (t : List ℤ) (n : ℕ) → length rs ≡ n → take (row_width * n) t ≡ numbers_of rs → records_of t n ≡ rs
records_of-front {rs} t n e h =
    ap (map of_row) (sym (rows_of_take t (row_width * n) n (omega arith))) ∙ ap (λ (l : List ℤ). records_of l n) (h ∙ sym (append-nil (numbers_of rs)))
    ∙ ap (records_of (numbers_of rs ++ [])) (sym e) ∙ records_of-numbers_of rs []

-- n records are read
pub records_of_length : (t : List ℤ) (n : ℕ) → length (records_of t n) ≡ n
records_of_length t n = length-map (rows_of t n) of_row ∙ rows_of_length t n

-- and from record i on n − i
pub records_from_length : (t : List ℤ) (i n : ℕ) → length (records_from t i n) ≡ n - i
records_from_length t i n = length-map (rows_from t i n) of_row ∙ rows_of_length (drop (row_width * i) t) (n - i)

-- the records from i on are record i and those behind it
pub records_from-more : (t : List ℤ) (i n : ℕ) → i < n → records_from t i n ≡ record_at t i ∷ records_from t (i + 1) n
records_from-more t i n h = rw (rows_from_more t i n h) refl

-- past the last record there is none
pub records_from-none : (t : List ℤ) (i n : ℕ) → n ≤ i → records_from t i n ≡ []
records_from-none t i n h = rw (rows_from_none t i n h) refl

-- from the start on they are all there
pub records_from-start : (t : List ℤ) (n : ℕ) → records_from t 0 n ≡ records_of t n
records_from-start t n = ap (map of_row) (rows_from_start t n)

-- record i is one of the first n records
pub record_at_in : (t : List ℤ) (i n : ℕ) → i < n → record_at t i ∈ records_of t n
record_at_in t i n h =
    let all : i + (n - i) ≡ n = omega arith in
    let split : rows_of t n ≡ rows_of t i ++ (row_at t i ∷ rows_from t (i + 1) n) =
    ap (rows_of t) (sym all) ∙ rows_of_add t i (n - i) ∙ ap (λ (l : List Row). rows_of t i ++ l) (rows_from_more t i n h) in
    let m : row_at t i ∈ rows_of t n = rw split (Memᴰ.append_right (rows_of t i) (Memᴰ.head refl)) in
    map_in of_row m

-- the list of a set is normal
pub list-normal : {S : ℤ → ℤ → Type 0} {l : List Record} → IsListOf S l → IsNormal l
list-normal L = record { full = L.full; ordered = L.ordered; apart = λ r s p q t. list-touch L L p q ((touch_is r s).0 t) }

-- the list of a set whose numbers stand in the front of t is a normal list there
pub stored_normal : {S : ℤ → ℤ → Type 0} {rs : List Record} (t : List ℤ) (n : ℕ) → row_width * n ≤ length t → length rs ≡ n → take (row_width * n) t ≡ numbers_of rs
    → IsListOf S rs → NormalList t n
stored_normal t n h e f L = record { within = h; normal = rw (records_of-front t n e f) (list-normal L) }
