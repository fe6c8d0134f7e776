-- The refusals of a text are small: a text that is not refused for its length has fewer lines than bytes and one.
use mathlib.Core.Path.{◌≡◌, refl, sym, subst}
use mathlib.Core.Bool.{Bool, true, false, not, cond, ◌&&◌, ◌||◌}
use mathlib.Core.List.{List, [], ◌∷◌}
use mathlib.Core.Option.{Option, none, some}
use Prim.Native.Nat.{ℕ, suc, ◌+◌, ◌≤◌, ◌<◌}
use native.Mathlib.Omega.{arith}
use lib.Dec.{eqb, ltb}
use lib.IntN.{ℤ, pos}
use lib.ListN.{length}
use Rattle.integers.specs.Integers.{eq_z}
use Rattle.integers.proofs.Tests.{Test, failed, ltb?}
use Rattle.lists.specs.Lists.{is_nil}
use Rattle.model.specs.Limits.{max_text}
use Rattle.model.specs.Bytes.{Bytes, line_feed}
use Rattle.model.specs.MapFile.{Table, node_table, edge_table, pair_table, onto, lines, feeds}
use Rattle.model.specs.Compare.{Tables, findings}
use Rattle.model.specs.Refusals.{Refusal}
use Rattle.model.specs.Checks.{when, ◌then◌, check_tables, check_output}
use Rattle.model.specs.Calls.{Answer, refused, full, answer, length_of}
use Rattle.model.specs.Report.{report}
use Rattle.model.specs.Reader.{Layout, allowed, check_bytes, broken_off, check_text, columns, row_of, RowCheck, check_side_or_role, bad, good, judged, Reading, stopped, rows, with_row, stop, with_line, read_values, read_table, read_third, read_second, read_first, read_map}
use Rattle.model.specs.TextCheck.{Reported, reported_of, check_read, text_answer, report_of, text_gives}
use Rattle.model.proofs.Checks.{then-none}
use Rattle.refusals.specs.Small.{last_of_text, SmallRefusal, SmallCheck, SmallAnswer}
use Rattle.refusals.proofs.Checks.{SmallNumber, when-small, then-small, tables-small}

-- ---- 12

-- the number of the next line
next-line : (n : ℕ) (b : Bool) → cond b (suc n) n ≤ suc n
next-line n true = omega arith
next-line n false = omega arith

bytes_small : (n : ℕ) (text : Bytes) → n + length text < 10000000 → SmallCheck last_of_text (check_bytes n text)
unfolding check_bytes
bytes_small n [] h = tt
bytes_small n (c ∷ text) h =
    then-small (when (not (allowed c)) 12 6 n) _ (when-small (not (allowed c)) (omega arith) (omega arith) (omega arith)) (λ _.
    bytes_small (cond (eqb c line_feed) (suc n) n) text (omega (arith, next-line n (eqb c line_feed))))

feeds-short : (text : Bytes) → feeds text ≤ length text
unfolding feeds
feeds-short [] = omega arith
feeds-short (c ∷ text) = omega (arith, feeds-short text, next-line (feeds text) (eqb c line_feed))

-- a text that is not refused for its length is short
text-short : (text : Bytes) → when (ltb max_text (length text)) 12 6 0 ≡ none → length text ≤ max_text
unfolding when
text-short text = go (ltb max_text (length text)) (ltb? max_text (length text))
  where
    go : (b : Bool) → Test (max_text < length text) (length text ≤ max_text) b → when b 12 6 0 ≡ none → length text ≤ max_text
    go true h e = let z : ◌≡◌ {A = ℕ} 0 1 = cc in absurd (omega arith)
    go false (failed h) e = h

pub text-small : (text : Bytes) → SmallCheck last_of_text (check_text text)
unfolding check_text
text-small text =
    then-small (when (ltb max_text (length text)) 12 6 0) _ (when-small (ltb max_text (length text)) (omega arith) (omega arith) (omega arith)) (λ e.
    then-small (check_bytes 1 text) _ (bytes_small 1 text (omega (arith, text-short text e))) (λ _.
    when-small (broken_off text) (omega arith) (omega arith) (omega (arith, feeds-short text, text-short text e))))

pub checked_short : (text : Bytes) → check_text text ≡ none → length text ≤ max_text
unfolding check_text
checked_short text e = text-short text (then-none (when (ltb max_text (length text)) 12 6 0) _ e).0

-- ---- lines

onto_length : (c : ℕ) (ls : List Bytes) → length (onto c ls) ≤ suc (length ls)
unfolding onto
onto_length c [] = omega arith
onto_length c (l ∷ ls) = omega arith

pub lines-short : (text : Bytes) → length (lines text) ≤ length text
unfolding lines
lines-short [] = omega arith
lines-short (c ∷ text) = go (eqb c line_feed) (lines-short text)
  where
    go : (b : Bool) → length (lines text) ≤ length text → length (cond b ([] ∷ lines text) (onto c (lines text))) ≤ suc (length text)
    go true h = omega arith
    go false h = omega (arith, onto_length c (lines text))

-- ---- tables

-- a reading stops with a small refusal, or leaves lines of which none has a number above `most`
abbrev pub SmallReading : ℕ → ℕ → Reading → Type 0
SmallReading last most (stopped r) = SmallRefusal last r
SmallReading last most (rows rs ls n) = n + length ls ≤ most

-- the number of a refusal of the text, if there is one
abbrev pub SmallGiven : ℕ → Option ℕ → Type 0
SmallGiven last none = Unit {0}
SmallGiven last (some number) = SmallNumber last number

-- the lines of a table, whose refusals have numbers up to `last`, 13 and 14 among them
module _ (last : ℕ) (enough : 14 ≤ last) (most : ℕ) (low : most < 10000000) where
  row_reading : (row : List ℤ) (reading : Reading) → SmallReading last most reading → SmallReading last most (with_row row reading)
  unfolding with_row
  row_reading row (stopped r) s = s
  row_reading row (rows rs ls n) s = s

  stop-small : (number n : ℕ) → SmallNumber last number → n ≤ most → SmallReading last most (stop number n)
  unfolding stop
  stop-small number n h i = record { least = h.0; number = h.1; no_caller = h.2; table = omega arith; row = omega arith }

  module _ (check : RowCheck) (numbers : (before : List (List ℤ)) (r : List ℤ) → SmallGiven last (check before r)) where
    line_small : (n : ℕ) → n ≤ most → (before : List (List ℤ)) (o : Option (List ℤ)) (later : List ℤ → Reading) → ((r : List ℤ) → SmallReading last most (later r))
        → SmallReading last most (with_line n (judged check before o) later)
    unfolding judged with_line
    line_small n h before none later s = stop-small 14 n (omega arith) h
    line_small n h before (some r) later s = go (check before r) (numbers before r)
      where
        go : (o : Option ℕ) → SmallGiven last o → SmallReading last most (with_line n (elim o [ none ↦ good r | some number ↦ bad number ]) later)
        go none k = row_reading r (later r) (s r)
        go (some number) k = stop-small number n k h

    values-small : (final : Bool) (y : Layout) (n : ℕ) (before : List (List ℤ)) (ls : List Bytes) → n + length ls ≤ most
        → SmallReading last most (read_values final check y n before ls)
    unfolding read_values
    values-small true y n before [] h = omega arith
    values-small false y n before [] h = stop-small 13 n (omega arith) (omega arith)
    values-small final y n before (l ∷ ls) h = go (is_nil l && not final) (λ r. values-small final y (suc n) (r ∷ before) ls (omega arith))
      where
        go : (b : Bool) → ((r : List ℤ) → SmallReading last most (read_values final check y (suc n) (r ∷ before) ls))
            → SmallReading last most (elim b [ true ↦ rows [] ls (suc n) | false ↦ with_line n (judged check before (row_of y l)) (λ r. read_values final check y (suc n) (r ∷ before) ls) ])
        go true later = omega arith
        go false later = line_small n (omega arith) before (row_of y l) (λ r. read_values final check y (suc n) (r ∷ before) ls) later

    pub table-small : (final : Bool) (t : Table) (n : ℕ) (ls : List Bytes) → n + length ls ≤ most → SmallReading last most (read_table final check t n ls)
    unfolding read_table
    table-small final t n [] h = stop-small 13 n (omega arith) (omega arith)
    table-small final t n (l ∷ ls) h = go (columns t l)
      where
        go : (o : Option Layout) → SmallReading last most (elim o [ none ↦ stop 13 n | some y ↦ read_values final check y (suc n) [] ls ])
        go none = stop-small 13 n (omega arith) (omega arith)
        go (some y) = values-small final y (suc n) [] ls (omega arith)

-- ---- the three tables of a map file

-- the check of a side or role gives 14
key_small : (before : List (List ℤ)) (r : List ℤ) → SmallGiven last_of_text (check_side_or_role before r)
unfolding check_side_or_role
key_small before [] = tt
key_small before (k ∷ r) = go (eq_z k (pos 0) || eq_z k (pos 1))
  where
    go : (b : Bool) → SmallGiven last_of_text (cond b none (some 14))
    go true = tt
    go false = omega arith

module _ (most : ℕ) (low : most < 10000000) where
  file_small : (final : Bool) (t : Table) (n : ℕ) (ls : List Bytes) → n + length ls ≤ most → SmallReading last_of_text most (read_table final check_side_or_role t n ls)
  file_small = table-small last_of_text (omega arith) most low check_side_or_role key_small

  third_small : (ns es : List (List ℤ)) (reading : Reading) → SmallReading last_of_text most reading → SmallAnswer last_of_text (read_third ns es reading)
  unfolding read_third
  third_small ns es (stopped r) s = s
  third_small ns es (rows ps ls n) s = tt

  second-small : (ns : List (List ℤ)) (reading : Reading) → SmallReading last_of_text most reading → SmallAnswer last_of_text (read_second ns reading)
  unfolding read_second
  second-small ns (stopped r) s = s
  second-small ns (rows es ls n) s = third_small ns es (read_table true check_side_or_role pair_table n ls) (file_small true pair_table n ls s)

  first_small : (reading : Reading) → SmallReading last_of_text most reading → SmallAnswer last_of_text (read_first reading)
  unfolding read_first
  first_small (stopped r) s = s
  first_small (rows ns ls n) s = second-small ns (read_table false check_side_or_role edge_table n ls) (file_small false edge_table n ls s)

-- ---- the text check

-- the refusals of the reader are small
map_small : (text : Bytes) → SmallAnswer last_of_text (read_map text)
unfolding read_map
map_small text = go (check_text text) refl
  where
    go : (o : Option Refusal) → check_text text ≡ o
        → SmallAnswer {A = Tables} last_of_text (elim o [ some r ↦ refused r | none ↦ read_first (read_table false check_side_or_role node_table 1 (lines text)) ])
    go (some r) e = subst (SmallCheck last_of_text) e (text-small text)
    go none e =
        let short : 1 + length (lines text) ≤ suc max_text = omega (arith, lines-short text, checked_short text e) in
        first_small (suc max_text) (omega arith) (read_table false check_side_or_role node_table 1 (lines text))
        (file_small (suc max_text) (omega arith) false node_table 1 (lines text) short)

pub answer-small : {A : Type 0} (o : Option Refusal) (a : A) → SmallCheck last_of_text o → SmallAnswer last_of_text (answer o a)
unfolding answer
answer-small none a s = tt
answer-small (some r) a s = s

read_small : (room : ℕ) (a : Answer Tables) → SmallAnswer last_of_text a → SmallAnswer last_of_text (check_read room a)
unfolding check_read check_output
read_small room (refused r) s = s
read_small room (full t) s =
    answer-small (check_tables t then check_output (length (report (findings t))) room) (reported_of (findings t))
    (then-small (check_tables t) _ (tables-small t) (λ _. when-small (ltb room (length (report (findings t)))) (omega arith) (omega arith) (omega arith)))

length_small : (a : Answer Reported) → SmallAnswer last_of_text a → SmallAnswer last_of_text (length_of (report_of a))
unfolding length_of report_of
length_small (refused r) s = s
length_small (full c) s = tt

-- the refusals of the text check are small
pub gives_small : (text buffer : Bytes) {r : Refusal} → refused r ≡ text_gives text buffer → SmallRefusal last_of_text r
unfolding text_gives text_answer
gives_small text buffer e =
    let small = length_small (text_answer (length buffer) text) (read_small (length buffer) (read_map text) (map_small text)) in
    subst (λ (a : Answer ℕ). SmallAnswer last_of_text a) (sym e) small

-- ---- the length of a report

-- a report has room
abbrev Held : ℕ → Answer Reported → Type 0
Held room (refused r) = Unit {0}
Held room (full c) = length c.report ≤ room

read_held : (room : ℕ) (a : Answer Tables) → Held room (check_read room a)
unfolding check_read check_output when ◌then◌ answer reported_of
read_held room (refused r) = tt
read_held room (full t) =
    let n = length (report (findings t)) in
    go (check_tables t) (ltb room n) (ltb? room n)
  where
    go : (o : Option Refusal) (b : Bool) → Test (room < length (report (findings t))) (length (report (findings t)) ≤ room) b
        → Held room (answer (o then when b 11 7 0) (reported_of (findings t)))
    go (some r) b h = tt
    go none true h = tt
    go none false (failed h) = h

length_held : (room : ℕ) (a : Answer Reported) → Held room a → {n : ℕ} → full n ≡ length_of (report_of a) → n ≤ room
unfolding length_of report_of
length_held room (refused r) h e = let z : ◌≡◌ {A = ℕ} 0 1 = cc in absurd (omega arith)
length_held room (full c) h {n} e = let q : n ≡ length c.report = cc in omega (arith, q, h)

-- a report of the text check fits into its buffer
pub gives_held : (text buffer : Bytes) {n : ℕ} → full n ≡ text_gives text buffer → n ≤ length buffer
unfolding text_gives text_answer
gives_held text buffer e = length_held (length buffer) (text_answer (length buffer) text) (read_held (length buffer) (read_map text)) e
