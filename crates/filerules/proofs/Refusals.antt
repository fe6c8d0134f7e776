-- The reader's refusals are exactly the conditions of the file, 12 to 14: reading settles them.
use mathlib.Core.Path.{◌≡◌, refl, sym, subst, ◌∙◌}
use mathlib.Core.Bool.{Bool, true, false}
use mathlib.Core.Logic.Iff
use mathlib.Core.Logic.{inl, ◌↔◌}
use mathlib.Core.List.{List, [], ◌∷◌, map}
use mathlib.Core.Option.{Option, none, some}
use Prim.Native.Nat.{ℕ, suc}
use native.Mathlib.Omega.{arith}
use lib.IntN.{ℤ}
use Rattle.lists.specs.Lists.{is_nil}
use Rattle.model.specs.Bytes.{Bytes}
use Rattle.model.specs.MapFile.{Values, Table, all_names, node_table, edge_table, pair_table, lines, Due, names, values, NamesLine, RowWritten, RowsWritten, no_line, and_line, WrongNames, WrongValues, further_conditions, value_conditions, line_conditions, whole_text_conditions, file_conditions}
use Rattle.model.specs.Refusals.{Refusal, Condition, NoneHolds, FirstHolds, refuse, ◌next◌}
use Rattle.model.specs.Checks.{◌then◌}
use Rattle.model.specs.Calls.{Answer, refused, full, answer}
use Rattle.model.specs.Compare.{Tables}
use Rattle.model.specs.Answers.{numbered}
use Rattle.model.specs.Reader.{Layout, fields_of, layout_of, columns, row_of, RowCheck, check_side_or_role, bad, good, judged, Reading, stopped, rows, with_row, stop, with_line, read_values, read_table, read_third, read_second, read_first, read_map, check_text}
use Rattle.model.proofs.Settled.{Settled, settled_next, settled_some, settled_none, first_not_none}
use Rattle.filerules.proofs.Options.{none-some}
use Rattle.filerules.proofs.Words.{Regular, node_regular, edge_regular, pair_regular}
use Rattle.filerules.proofs.Names.{names-read, names-fields, names-columns}
use Rattle.filerules.proofs.Values.{numbers_in, row_in, row_out}
use Rattle.filerules.proofs.RowChecks.{CheckOf, refusal_at, check_settles, node-check, edge_check, pair_check, last_step}
use Rattle.filerules.proofs.Text.{text_settled}

-- no table follows
abbrev pub is_last : List Table → Bool
is_last [] = true
is_last (u ∷ us) = false

-- the conditions of what follows a table, from line n on
abbrev pub Following : List Table → ℕ → List Bytes → List Condition
Following [] n ls = []
Following (u ∷ us) n ls = line_conditions n (names u us) ls

-- a reading settles the conditions of a table: it stops with the refusal of the first that holds, or none of the table holds and
-- whatever settles those that follow settles all
abbrev pub Reads : List Table → Reading → List Condition → Type 0
Reads us (stopped r) cs = FirstHolds r cs
Reads us (rows rs ls n) cs = (c : Option Refusal) → Settled c (Following us n ls) → Settled c cs

-- conditions none of which holds may stand before those that are settled
reads_skip : (us : List Table) (reading : Reading) (cs ds : List Condition) → NoneHolds cs → Reads us reading ds → Reads us reading (cs next ds)
unfolding ◌then◌
reads_skip us (stopped r) cs ds h s = settled_next none (some r) cs ds h (λ k. s)
reads_skip us (rows rs ls n) cs ds h s = λ c k. settled_next none c cs ds h (λ q. s c k)

-- the first that holds is the first of them and any that follow
reads_first : (us : List Table) (r : Refusal) (cs ds : List Condition) → FirstHolds r cs → Reads us (stopped r) (cs next ds)
unfolding ◌then◌
reads_first us r cs ds h = settled_next (some r) none cs ds h (λ k. absurd (first_not_none r cs h k))

-- one row more does not matter
reads_with : (us : List Table) (row : List ℤ) (reading : Reading) (cs : List Condition) → Reads us reading cs → Reads us (with_row row reading) cs
unfolding with_row
reads_with us row (stopped r) cs s = s
reads_with us row (rows rs ls n) cs s = s

-- ---- value lines

module _ {t : Table} (regular : Regular t) (check : RowCheck) (checks : CheckOf (all_names t) t.conditions check)
    {fields : List Bytes} {names_line : Bytes} (line : NamesLine t fields names_line) where
  -- a line that gives no row breaks the file rules
  row_wrong : (l : Bytes) → row_of (layout_of t fields) l ≡ none → WrongValues t names_line l
  row_wrong l e fs n value w =
      let same : fs ≡ fields = sym (names-fields regular n) ∙ names-fields regular line in
      none-some (sym e ∙ row_in regular line.named (subst (λ (z : List Bytes). RowWritten t z l value) same w))

  -- one value line and those after it
  reads-row : (us : List Table) (n : ℕ) {before : List Bytes} {earlier : List Values} → RowsWritten t fields before earlier → (l : Bytes) (later : List ℤ → Reading)
      (ds : List Condition) → ((value : Values) → RowWritten t fields l value → Reads us (later (map value (all_names t))) ds)
      → Reads us (with_line n (judged check (numbers_in (all_names t) earlier) (row_of (layout_of t fields) l)) later) (value_conditions n t names_line before l next ds)
  unfolding with_line judged stop value_conditions
  reads-row us n {before} {earlier} write l later ds rec = go (row_of (layout_of t fields) l) refl
    where
      rs : List (List ℤ)
      rs = numbers_in (all_names t) earlier

      check-next : (row : List ℤ) → Reads us (later row) ds → (o : Option ℕ) → Settled (refusal_at n o) (further_conditions n t names_line before l t.conditions)
          → Reads us (with_line n (elim o [ none ↦ good row | some number ↦ bad number ]) later) (further_conditions n t names_line before l t.conditions next ds)
      check-next row more none s = reads_skip us (with_row row (later row)) (further_conditions n t names_line before l t.conditions) ds s (reads_with us row (later row) ds more)
      check-next row more (some number) s = reads_first us (numbered number 6 n) (further_conditions n t names_line before l t.conditions) ds s

      go : (o : Option (List ℤ)) → row_of (layout_of t fields) l ≡ o → Reads us (with_line n (judged check rs o) later) (value_conditions n t names_line before l next ds)
      go none e = inl (row_wrong l e, refl)
      go (some row) e =
          let w = row_out regular line.named l row e in
          let settles = check_settles regular line write w.1 n t.conditions check checks in
          reads_skip us (with_line n (judged check rs (some row)) later) (refuse 14 6 n (WrongValues t names_line l)) (further_conditions n t names_line before l t.conditions next ds)
          ((λ wrong. wrong fields line w.0 w.1), tt)
          (rw w.2 (check-next (map w.0 (all_names t)) (rec w.0 w.1) (check rs (map w.0 (all_names t))) settles))

  -- the value lines of a table
  values_settle : (us : List Table) (n : ℕ) (before : List Bytes) {earlier : List Values} → RowsWritten t fields before earlier → (ls : List Bytes)
      → Reads us (read_values (is_last us) check (layout_of t fields) n (numbers_in (all_names t) earlier) ls) (line_conditions n (values t names_line before us) ls)
  unfolding read_values line_conditions is_nil stop
  values_settle [] n before write [] = λ c s. s
  values_settle (u ∷ us) n before write [] = inl (tt, refl)
  values_settle [] n before {earlier} write (l ∷ ls) =
      let rs = numbers_in (all_names t) earlier in
      let later = line_conditions (suc n) (values t names_line (l ∷ before) []) ls in
      subst (λ (r : Reading). Reads [] r (value_conditions n t names_line before l next later)) (sym (last_step check (layout_of t fields) n rs l ls))
      (reads-row [] n write l (λ r. read_values true check (layout_of t fields) (suc n) (r ∷ rs) ls) later
      (λ value w. values_settle [] (suc n) (l ∷ before) (and_line w write) ls))
  values_settle (u ∷ us) n before write ([] ∷ ls) = λ c s. s
  values_settle (u ∷ us) n before {earlier} write ((c ∷ l) ∷ ls) =
      let rs = numbers_in (all_names t) earlier in
      let later = line_conditions (suc n) (values t names_line ((c ∷ l) ∷ before) (u ∷ us)) ls in
      reads-row (u ∷ us) n write (c ∷ l) (λ r. read_values false check (layout_of t fields) (suc n) (r ∷ rs) ls) later
      (λ value w. values_settle (u ∷ us) (suc n) ((c ∷ l) ∷ before) (and_line w write) ls)

-- ---- tables

-- a table: its names line, then its value lines
pub table_settles : {t : Table} → Regular t → (check : RowCheck) → CheckOf (all_names t) t.conditions check → (us : List Table) (n : ℕ) (ls : List Bytes)
    → Reads us (read_table (is_last us) check t n ls) (line_conditions n (names t us) ls)
unfolding read_table line_conditions stop
table_settles regular check checks us n [] = inl (tt, refl)
table_settles {t} regular check checks us n (l ∷ ls) = go (columns t l) refl
  where
    go : (o : Option Layout) → columns t l ≡ o
        → Reads us (elim o [ none ↦ stop 13 n | some y ↦ read_values (is_last us) check y (suc n) [] ls ])
        (refuse 13 6 n (WrongNames t l) next line_conditions (suc n) (values t l [] us) ls)
    go none e = inl ((λ fields line. none-some (sym e ∙ names-columns regular line)), refl)
    go (some y) e =
        let w = names-read regular l y e in
        rw w.1 (reads_skip us (read_values (is_last us) check (layout_of t (fields_of l)) (suc n) [] ls) (refuse 13 6 n (WrongNames t l))
        (line_conditions (suc n) (values t l [] us) ls)
        ((λ wrong. wrong (fields_of l) w.0), tt)
        (values_settle regular check checks w.0 us (suc n) [] no_line ls))

-- ---- the file

-- the refusal of an answer, if it is one
abbrev pub refusal_in : {A : Type 0} → Answer A → Option Refusal
refusal_in (refused r) = some r
refusal_in (full x) = none

-- the refusal of a check and a result is that of the check
pub answer-refusal : {A : Type 0} (c : Option Refusal) (x : A) → refusal_in (answer c x) ≡ c
unfolding answer
answer-refusal none x = refl
answer-refusal (some r) x = refl

third_settles : (ns es : List (List ℤ)) (reading : Reading) (cs : List Condition) → Reads [] reading cs → Settled (refusal_in (read_third ns es reading)) cs
unfolding read_third
third_settles ns es (stopped r) cs s = s
third_settles ns es (rows ps ls n) cs s = s none tt

second_settles : (ns : List (List ℤ)) (reading : Reading) (cs : List Condition) → Reads (pair_table ∷ []) reading cs
    → Settled (refusal_in (read_second ns reading)) cs
unfolding read_second
second_settles ns (stopped r) cs s = s
second_settles ns (rows es ls n) cs s =
    let reading = read_table true check_side_or_role pair_table n ls in
    s (refusal_in (read_third ns es reading)) (third_settles ns es reading (line_conditions n (names pair_table []) ls) (table_settles pair_regular check_side_or_role pair_check [] n ls))

first_settles : (reading : Reading) (cs : List Condition) → Reads (edge_table ∷ pair_table ∷ []) reading cs → Settled (refusal_in (read_first reading)) cs
unfolding read_first
first_settles (stopped r) cs s = s
first_settles (rows ns ls n) cs s =
    let reading = read_table false check_side_or_role edge_table n ls in
    let edges = table_settles edge_regular check_side_or_role edge_check (pair_table ∷ []) n ls in
    s (refusal_in (read_second ns reading)) (second_settles ns reading (line_conditions n (names edge_table (pair_table ∷ [])) ls) edges)

-- reading a map file settles the conditions of the file
pub read_settles : (text : Bytes) → Settled (refusal_in (read_map text)) (file_conditions text)
unfolding read_map file_conditions ◌then◌
read_settles text = go (check_text text) (text_settled text)
  where
    due : Due
    due = names node_table (edge_table ∷ pair_table ∷ [])

    reading : Answer Tables
    reading = read_first (read_table false check_side_or_role node_table 1 (lines text))

    read : Settled (refusal_in reading) (line_conditions 1 due (lines text))
    read =
        first_settles (read_table false check_side_or_role node_table 1 (lines text)) (line_conditions 1 due (lines text))
        (table_settles node_regular check_side_or_role node-check (edge_table ∷ pair_table ∷ []) 1 (lines text))

    go : (o : Option Refusal) → Settled o (whole_text_conditions text)
        → Settled (refusal_in {A = Tables} (elim o [ some r ↦ refused r | none ↦ reading ])) (whole_text_conditions text next line_conditions 1 due (lines text))
    go none s = settled_next none (refusal_in reading) (whole_text_conditions text) (line_conditions 1 due (lines text)) s (λ h. read)
    go (some r) s = settled_next (some r) (refusal_in reading) (whole_text_conditions text) (line_conditions 1 due (lines text)) s (λ h. read)

-- ---- what an answer says whose refusal settles conditions

-- an answer against conditions: it refuses exactly with the refusal of the first that holds, and is full exactly when none holds
pub record Answers {A : Type 0} (given : Answer A) (cs : List Condition) : Type 0 where
  pub refuses : (r : Refusal) → (given ≡ refused r) ↔ FirstHolds r cs
  pub gives : ((x : A) × (given ≡ full x)) ↔ NoneHolds cs

refusal-some : {A : Type 0} (given : Answer A) {r : Refusal} → (given ≡ refused r) ↔ (refusal_in given ≡ some r)
refusal-some (refused s) = (λ e. cc, λ e. cc)
refusal-some (full x) = (λ e. cc, λ e. cc)

refusal-none : {A : Type 0} (given : Answer A) → ((x : A) × (given ≡ full x)) ↔ (refusal_in given ≡ none)
refusal-none (refused s) = (λ w. absurd (let e = w.1 in let z : ◌≡◌ {A = ℕ} 0 1 = cc in omega arith), λ e. absurd (none-some (sym e)))
refusal-none (full x) = (λ w. refl, λ e. (x, refl))

-- an answer whose refusal settles conditions answers them
pub settled_answers : {A : Type 0} (given : Answer A) (cs : List Condition) → Settled (refusal_in given) cs → Answers given cs
settled_answers given cs s =
    record {
      refuses = λ r. Iff.trans (refusal-some given) (settled_some (refusal_in given) cs s);
      gives = Iff.trans (refusal-none given) (settled_none (refusal_in given) cs s);
    }

-- the reader's refusals are exactly the conditions of the file
pub read_settled : (text : Bytes) → Answers (read_map text) (file_conditions text)
read_settled text = settled_answers (read_map text) (file_conditions text) (read_settles text)
