-- The findings of root rows, kept row by row.
use mathlib.Core.Path.{◌≡◌, refl, sym, subst, ◌∙◌}
use mathlib.Core.List.{List, [], ◌∷◌, ◌++◌, map, map-append, append-nil, flat_map}
use Prim.Native.Nat.{ℕ, ◌+◌, ◌*◌, ◌/◌, ◌≤◌, ◌<◌}
use native.Mathlib.Nat.{mul-le-mul}
use native.Mathlib.Numerals.{add-one}
use native.Mathlib.Omega.{arith}
use lib.IntN.{ℤ}
use lib.ListN.{length, drop, length-append, length-map}
use Rattle.lists.specs.Lists.{◌∈◌}
use Rattle.lists.proofs.Kept.{keep_length}
use Rattle.model.specs.Limits.{pair_width, max_pairs}
use Rattle.model.specs.Rows.{Pair, pairs_from}
use Rattle.model.specs.Compare.{Tables, root_rows, leaf_rows, is_lowest, lowest_rows, groups, visits, Finding, finding_of, findings}
use Rattle.model.proofs.Visits.{visits_length}
use Rattle.tables.specs.Tables.{pair_at}
use Rattle.tables.proofs.Rows.{pairs-rest, pairs_end, pairs_length}
use Rattle.pathlimit.specs.Inputs.{Inputs}
use Rattle.reporting.specs.Lines.{max_visits}
use Rattle.totals.specs.declared.Kept.{Kept}
use Rattle.totals.specs.Kept.{Bare, KeptOf, KeptNone, EqualAdded}
use Rattle.totals.proofs.Keeping.{kept-bytes}
use Rattle.rootrows.specs.RootRow.{row_findings, RowRoom, RowKept}
use Rattle.rootrows.proofs.Passing.{row_count, Passed, passed_on, passed_end, planned-count, passed-bytes}
use Rattle.survey.specs.Survey.{Surveyed}

-- ---- what is left

-- the pair rows from row i on
abbrev pub rows_left : List ℤ → ℕ → List Pair
rows_left ps i = pairs_from i (drop (pair_width * i) ps)

-- row i, where it is there, and those behind it
rows_next : (ps : List ℤ) (i : ℕ) → i < length ps / pair_width → rows_left ps i ≡ pair_at ps i ∷ rows_left ps (i + 1)
rows_next ps i h = subst (λ (k : ℕ). rows_left ps i ≡ pair_at ps i ∷ rows_left ps k) (sym (add-one i)) (pairs-rest ps i (omega arith))

-- behind the last row there is none
rows_none : (ps : List ℤ) (i : ℕ) → length ps / pair_width ≤ i → rows_left ps i ≡ []
rows_none ps i h = pairs_end ps i (omega arith)

-- the findings from root row i on
unfoldable pub findings_left : Tables → ℕ → List Finding
findings_left t i = map (finding_of t) (visits (rows_left t.root_pairs i) (groups t))

pub findings-all : (t : Tables) → findings_left t 0 ≡ findings t
unfolding findings_left findings
findings-all t = refl

pub findings-next : (t : Tables) (i : ℕ) → i < length t.root_pairs / pair_width → findings_left t i ≡ row_findings t i ++ findings_left t (i + 1)
unfolding findings_left visits flat_map
findings-next t i h = rw (rows_next t.root_pairs i h, map-append) refl

pub findings-none : (t : Tables) (i : ℕ) → length t.root_pairs / pair_width ≤ i → findings_left t i ≡ []
unfolding findings_left visits flat_map
findings-none t i h = rw (rows_none t.root_pairs i h) refl

-- ---- how many there are

-- in all, root rows times groups
pub findings-count : (t : Tables) → length (findings t) ≡ length t.root_pairs / pair_width * length (groups t)
unfolding findings
findings-count t =
    length-map (visits (root_rows t) (groups t)) (finding_of t)
    ∙ visits_length (root_rows t) (groups t)
    ∙ rw (pairs_length t.root_pairs) refl

-- groups are no more than leaf rows
pub groups-few : {t : Tables} → Inputs t → length (groups t) ≤ max_pairs
unfolding lowest_rows
groups-few {t} k = omega (arith, keep_length (is_lowest (leaf_rows t)) (leaf_rows t), pairs_length t.leaf_pairs, k.leaf_shape.few)

-- at most 1,000,000
pub findings-few : {t : Tables} → Inputs t → length (findings t) ≤ max_visits
findings-few {t} k =
    let roots : length t.root_pairs / pair_width ≤ max_pairs = omega (arith, k.root_shape.few) in
    omega (arith, findings-count t, mul-le-mul roots (groups-few k))

-- ---- the root rows

module _ (t : Tables) (i : ℕ) {all : List Finding} {lines : List ℕ} {k : Kept} (p : Passed all (findings_left t i) lines k) where
  module _ (h : i < length t.root_pairs / pair_width) where
    -- root row i and those behind it are left
    row_left : Passed all (row_findings t i ++ findings_left t (i + 1)) lines k
    row_left = subst (λ (l : List Finding). Passed all l lines k) (findings-next t i h) p

    -- there is room for root row i
    pub row_room_lem : length all ≤ max_visits → RowRoom t lines k
    row_room_lem few =
        let rest = findings_left t (i + 1) in
        record {
          fs = row_left.fs;
          kept = row_left.kept;
          few = omega (arith, planned-count row_left, length-append (row_findings t i) rest, row_count t i, few);
        }

    -- and it is passed
    pub row-passed : {lines' : List ℕ} {k' : Kept} → RowKept t i lines k lines' k' → Passed all (findings_left t (i + 1)) lines' k'
    row-passed more = passed_on row_left more

  -- behind the last root row all are kept
  pub rows-passed : length t.root_pairs / pair_width ≤ i → KeptOf all lines k
  rows-passed h = passed_end (subst (λ (l : List Finding). Passed all l lines k) (findings-none t i h) p)

-- before the first root row
pub rows_start : (t : Tables) {lines : List ℕ} {k : Kept} → KeptNone k → Passed (findings t) (findings_left t 0) lines k
rows_start t {lines} none = record { fs = []; kept = none lines; split = findings-all t }

-- what a survey gives, from the root rows that were passed: all of them, or so many that their lines have more than `room` bytes
pub surveyed : {t : Tables} {left : List Finding} {lines : List ℕ} {k : Kept} {room : ℕ} → Inputs t → Passed (findings t) left lines k
    → (k.bytes ≤ room → KeptOf (findings t) lines k) → Surveyed t room k lines
surveyed inputs p whole =
    record {
      within = whole;
      past = λ h. omega (arith, passed-bytes p);
      fits = omega (arith, kept-bytes p.kept, planned-count p, findings-few inputs);
    }

-- what a survey gives where no finding has a record, and as many were added as there are
pub surveyed_bare : {t : Tables} {lines : List ℕ} {none all : Kept} {room : ℕ} → Inputs t → ((f : Finding) → f ∈ findings t → Bare f) → KeptNone none
    → EqualAdded none (length t.root_pairs / pair_width * length (groups t)) all → Surveyed t room all lines
surveyed_bare {t} {lines} inputs bare none added =
    let kept = added.kept [] (findings t) lines (findings-count t) bare (none lines) in
    surveyed inputs (record { fs = findings t; kept = kept; split = append-nil (findings t) }) (λ _. kept)
