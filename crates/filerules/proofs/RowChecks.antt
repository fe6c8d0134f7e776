-- The conditions of a row beyond its values: the reader checks them by the numbers of the rows, and so settles the conditions of a value line.
use mathlib.Core.Path.{◌≡◌, refl, sym, ap, subst, ◌∙◌}
use mathlib.Core.Bool.{Bool, true, false, not, cond, ◌||◌}
use mathlib.Core.Logic.{◌⊎◌, inl, inr, ⊎_elim, ◌↔◌}
use mathlib.Core.List.{List, [], ◌∷◌, map}
use mathlib.Core.Option.{Option, none, some}
use Prim.Native.Nat.{ℕ, suc}
use native.Mathlib.Omega.{arith}
use lib.Dec.{T}
use lib.IntN.{ℤ, pos}
use lib.ListN.{get_or}
use Rattle.integers.specs.Integers.{eq_z}
use Rattle.integers.proofs.Tests.{passed, failed, eq_z?}
use Rattle.lists.specs.Lists.{is_nil}
use Rattle.lists.proofs.Decisions.{Decides, test_map, decides_iff, decides_or, decides_not}
use Rattle.model.specs.Bytes.{Bytes, bytes}
use Rattle.model.specs.MapFile.{Values, RowCondition, Table, all_names, node_table, edge_table, pair_table, not_zero_or_one, NamesLine, RowWritten, RowsWritten, LineMeets, further_conditions}
use Rattle.model.specs.FileRules.{MeetsNone}
use Rattle.model.specs.Refusals.{Refusal, refuse, ◌next◌}
use Rattle.model.specs.Checks.{when, ◌then◌}
use Rattle.model.specs.Answers.{numbered}
use Rattle.model.specs.Reader.{Layout, row_of, RowCheck, check_side_or_role, bad, good, judged, with_line, read_values}
use Rattle.model.proofs.Settled.{Settled, settled_next, settled_when}
use Rattle.filerules.proofs.Options.{some_same}
use Rattle.filerules.proofs.Words.{Regular}
use Rattle.filerules.proofs.Names.{names-fields}
use Rattle.filerules.proofs.Values.{numbers_in, row_in, rows-once}

-- a test of a row by its numbers and those of the rows before it, which decides a condition
pub record Decided (names : List Bytes) (a : RowCondition) : Type 0 where
  pub test : List (List ℤ) → List ℤ → Bool
  pub decides : (before : List Values) (value : Values) → Decides (a.holds before value) (test (numbers_in names before) (map value names))

-- the check of a row is that of these conditions: it gives the number of the first that holds
abbrev pub CheckOf : List Bytes → List RowCondition → RowCheck → Type 0
CheckOf names [] check = (before : List (List ℤ)) (r : List ℤ) → check before r ≡ none
CheckOf names (a ∷ later) check =
    (d : Decided names a) × (rest : RowCheck) × ((before : List (List ℤ)) (r : List ℤ) → check before r ≡ cond (d.test before r) (some a.number) (rest before r))
    × CheckOf names later rest

-- the refusal of the text at line n, for its number
abbrev pub refusal_at : ℕ → Option ℕ → Option Refusal
refusal_at n none = none
refusal_at n (some number) = some (numbered number 6 n)

refusal_choice : (n number : ℕ) (b : Bool) (o : Option ℕ) → refusal_at n (cond b (some number) o) ≡ (when b number 6 n then refusal_at n o)
unfolding when ◌then◌
refusal_choice n number true o = refl
refusal_choice n number false o = refl

-- ---- value lines

-- a line that gives no row is refused with 14
pub judged-none : (check : RowCheck) (before : List (List ℤ)) {o : Option (List ℤ)} → o ≡ none → judged check before o ≡ bad 14
unfolding judged
judged-none check before e = ap (judged check before) e

-- a row that meets no condition is taken
pub judged-good : (check : RowCheck) (before : List (List ℤ)) {o : Option (List ℤ)} {r : List ℤ} → o ≡ some r → check before r ≡ none → judged check before o ≡ good r
unfolding judged
judged-good check before {o} {r} e q = ap (judged check before) e ∙ ap (λ (k : Option ℕ). elim k [ none ↦ good r | some number ↦ bad number ]) q

-- one that meets a condition is refused with its number
pub judged-bad : (check : RowCheck) (before : List (List ℤ)) {o : Option (List ℤ)} {r : List ℤ} {number : ℕ} → o ≡ some r → check before r ≡ some number
    → judged check before o ≡ bad number
unfolding judged
judged-bad check before {o} {r} e q = ap (judged check before) e ∙ ap (λ (k : Option ℕ). elim k [ none ↦ good r | some number ↦ bad number ]) q

-- a line of the last table: it is a value line, also where it is empty
pub last_step : (check : RowCheck) (y : Layout) (n : ℕ) (before : List (List ℤ)) (l : Bytes) (ls : List Bytes)
    → read_values true check y n before (l ∷ ls) ≡ with_line n (judged check before (row_of y l)) (λ r. read_values true check y (suc n) (r ∷ before) ls)
unfolding read_values is_nil
last_step check y n before [] ls = refl
last_step check y n before (c ∷ l) ls = refl

module _ {t : Table} (regular : Regular t) {fields : List Bytes} {names_line : Bytes} (line : NamesLine t fields names_line)
    {before : List Bytes} {earlier : List Values} (write_earlier : RowsWritten t fields before earlier) {l : Bytes} {value : Values} (writes : RowWritten t fields l value) where
  -- a condition holds of the lines exactly where it holds of the rows that they write: other rows that they write have the same numbers
  meets? : {a : RowCondition} (d : Decided (all_names t) a) → Decides (LineMeets t names_line before l a) (d.test (numbers_in (all_names t) earlier) (map value (all_names t)))
  meets? {a} d =
      test_map (λ h. record { fields = fields; named = line; earlier = earlier; write_earlier = write_earlier; row = value; writes_row = writes; holds = h })
      (λ n w. n (other w)) (d.decides earlier value)
    where
      other : LineMeets t names_line before l a → a.holds earlier value
      other w =
          let same : w.fields ≡ fields = sym (names-fields regular w.named) ∙ names-fields regular line in
          let rows : numbers_in (all_names t) w.earlier ≡ numbers_in (all_names t) earlier =
          rows-once regular line.named (subst (λ (fs : List Bytes). RowsWritten t fs before w.earlier) same w.write_earlier) write_earlier in
          let row : map w.row (all_names t) ≡ map value (all_names t) =
          some_same (sym (row_in regular line.named (subst (λ (fs : List Bytes). RowWritten t fs l w.row) same w.writes_row)) ∙ row_in regular line.named writes) in
          let passes : T (d.test (numbers_in (all_names t) w.earlier) (map w.row (all_names t))) = (decides_iff (d.decides w.earlier w.row)).1 w.holds in
          (decides_iff (d.decides earlier value)).0 (rw (rows, row) at passes)

  -- the check settles the conditions of the row on the line
  pub check_settles : (n : ℕ) (conditions : List RowCondition) (check : RowCheck) → CheckOf (all_names t) conditions check
      → Settled (refusal_at n (check (numbers_in (all_names t) earlier) (map value (all_names t)))) (further_conditions n t names_line before l conditions)
  unfolding further_conditions
  check_settles n [] check k = subst (λ o. Settled (refusal_at n o) []) (sym (k (numbers_in (all_names t) earlier) (map value (all_names t)))) tt
  check_settles n (a ∷ later) check k =
      let rs = numbers_in (all_names t) earlier in
      let r = map value (all_names t) in
      let b = k.0.test rs r in
      let rest = refusal_at n (k.1 rs r) in
      let cs = further_conditions n t names_line before l later in
      subst (λ (o : Option Refusal). Settled o (refuse a.number 6 n (LineMeets t names_line before l a) next cs))
      (sym (ap (refusal_at n) (k.2 rs r) ∙ refusal_choice n a.number b (k.1 rs r)))
      (settled_next (when b a.number 6 n) rest (refuse a.number 6 n (LineMeets t names_line before l a)) cs
      (settled_when a.number 6 n (meets? k.0))
      (λ h. check_settles n later k.1 k.3))

-- ---- rows

-- the check gives nothing exactly where the row meets none of the conditions
pub check-none : (names : List Bytes) (conditions : List RowCondition) (check : RowCheck) → CheckOf names conditions check → (before : List Values) (value : Values)
    → (check (numbers_in names before) (map value names) ≡ none) ↔ MeetsNone conditions before value
unfolding MeetsNone
check-none names [] check k before value = (λ e. tt, λ u. k (numbers_in names before) (map value names))
check-none names (a ∷ later) check k before value =
    go (k.0.test (numbers_in names before) (map value names)) (k.0.decides before value) (k.2 (numbers_in names before) (map value names))
    (check-none names later k.1 k.3 before value)
  where
    none-is-some : none ≡ some a.number → ⊥
    none-is-some x = let z : ◌≡◌ {A = ℕ} 0 1 = cc in omega arith

    go : (b : Bool) → Decides (a.holds before value) b
        → check (numbers_in names before) (map value names) ≡ cond b (some a.number) (k.1 (numbers_in names before) (map value names))
        → (k.1 (numbers_in names before) (map value names) ≡ none) ↔ MeetsNone later before value
        → (check (numbers_in names before) (map value names) ≡ none) ↔ ((a.holds before value → ⊥) × MeetsNone later before value)
    go true (passed h) e rest = (λ q. absurd (none-is-some (sym q ∙ e)), λ u. absurd (u.0 h))
    go false (failed h) e rest = (λ q. (h, rest.0 (sym e ∙ q)), λ u. e ∙ rest.1 u.1)

-- ---- side or role

-- the first number decides whether the value under the first name is neither 0 nor 1
abbrev key_decided : (key : Bytes) (names : List Bytes) → Decided (key ∷ names) (not_zero_or_one key)
key_decided key names =
    record {
      test = λ before r. not (eq_z (get_or r 0 (pos 0)) (pos 0) || eq_z (get_or r 0 (pos 0)) (pos 1));
      decides = λ before value. test_map (λ h. (λ e. h (inl e), λ e. h (inr e))) (λ h n. h (⊎_elim n.0 n.1))
          (decides_not (decides_or (eq_z? (value key) (pos 0)) (eq_z? (value key) (pos 1))));
    }

key_check : (key : Bytes) (names : List Bytes) → CheckOf (key ∷ names) (not_zero_or_one key ∷ []) check_side_or_role
unfolding check_side_or_role
key_check key names = (key_decided key names, (λ before r. none), first, λ before r. refl)
  where
    choice : (b : Bool) → cond {A = Option ℕ} b none (some 14) ≡ cond (not b) (some 14) none
    choice true = refl
    choice false = refl

    first : (before : List (List ℤ)) (r : List ℤ) → check_side_or_role before r ≡ cond (not (eq_z (get_or r 0 (pos 0)) (pos 0) || eq_z (get_or r 0 (pos 0)) (pos 1))) (some 14) none
    first before [] = refl
    first before (k ∷ r) = choice (eq_z k (pos 0) || eq_z k (pos 1))

-- the condition of the tables of a map file: a side or role that is neither 0 nor 1
pub node-check : CheckOf (all_names node_table) node_table.conditions check_side_or_role
unfolding node_table
node-check = key_check (bytes "side") (bytes "kind" ∷ bytes "base" ∷ bytes "range" ∷ bytes "unit" ∷ bytes "access" ∷ [])

pub edge_check : CheckOf (all_names edge_table) edge_table.conditions check_side_or_role
unfolding edge_table
edge_check = key_check (bytes "side") (bytes "from" ∷ bytes "to" ∷ bytes "offset" ∷ [])

pub pair_check : CheckOf (all_names pair_table) pair_table.conditions check_side_or_role
unfolding pair_table
pair_check = key_check (bytes "role") (bytes "spec" ∷ bytes "impl" ∷ bytes "at" ∷ [])
