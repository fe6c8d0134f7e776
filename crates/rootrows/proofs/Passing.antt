-- Findings that are kept one after the other: those kept, with those that are left, are all of them. The pairs of a root row are kept group by group.
use mathlib.Core.Path.{◌≡◌, refl, sym, ap, subst, ◌∙◌}
use mathlib.Core.List.{List, [], ◌∷◌, ◌++◌, map, append_assoc, append-nil, flat_map}
use Prim.Native.Nat.{ℕ, ◌+◌, ◌≤◌, ◌<◌}
use native.Mathlib.Numerals.{add-one}
use native.Mathlib.Omega.{arith}
use lib.ListN.{length, drop, length-append, length-map, drop_of_length-le}
use Rattle.model.specs.declared.WalkKind.TheVariants.{Reading, Writing}
use Rattle.model.specs.Rows.{Pair}
use Rattle.model.specs.Compare.{Tables, groups, Visit, Finding, finding_of}
use Rattle.model.specs.Report.{finding_line}
use Rattle.tables.specs.Tables.{pair_at}
use Rattle.grouping.specs.Links.{group_count, group_row, Linked}
use Rattle.grouping.proofs.Passing.{group-next}
use Rattle.pairs.specs.Found.{finding_at}
use Rattle.reporting.proofs.Lines.{flat_map_append}
use Rattle.totals.specs.declared.Found.{Found}
use Rattle.totals.specs.declared.Kept.{Kept}
use Rattle.totals.specs.Kept.{IsFinding, KeptOf, is_asked, RoomFor, Added}
use Rattle.rootrows.specs.RootRow.{row_findings, RowRoom}

-- ---- what is left

-- the findings of root row i from group k on
abbrev pub pairs_left : Tables → ℕ → ℕ → List Finding
pairs_left t i k = map (finding_of t) (map (λ l. record { root = pair_at t.root_pairs i; leaf = l }) (drop k (groups t)))

module _ (t : Tables) {links : List ℕ} (linked : Linked t.leaf_pairs links) (i k : ℕ) where
  pub pairs_next : k < group_count links → pairs_left t i k ≡ finding_at t i (group_row links k) ∷ pairs_left t i (k + 1)
  pairs_next h = rw (add-one k, group-next linked k h) refl

  pub pairs-none : group_count links ≤ k → pairs_left t i k ≡ []
  pairs-none h = rw (drop_of_length-le (groups t) {i = k} (omega (arith, h, linked.count))) refl

-- as many findings of a root row as groups
pub row_count : (t : Tables) (i : ℕ) → length (row_findings t i) ≡ length (groups t)
row_count t i =
    let visited : Pair → Visit = λ l. record { root = pair_at t.root_pairs i; leaf = l } in
    length-map (map visited (groups t)) (finding_of t) ∙ length-map (groups t) visited

-- ---- what is kept

-- findings are kept that are, with those that are left, all of these
pub record Passed (all left : List Finding) (lines : List ℕ) (k : Kept) : Type 0 where
  pub fs : List Finding
  pub kept : KeptOf fs lines k
  pub split : fs ++ left ≡ all

module _ {all : List Finding} {lines : List ℕ} {k : Kept} where
  -- some of those that are left are kept behind them
  pub passed_on : {gs left : List Finding} {lines' : List ℕ} {k' : Kept} → Passed all (gs ++ left) lines k
      → ((fs : List Finding) → KeptOf fs lines k → KeptOf (fs ++ gs) lines' k') → Passed all left lines' k'
  passed_on {gs} {left} p more = record { fs = p.fs ++ gs; kept = more p.fs p.kept; split = append_assoc p.fs gs left ∙ p.split }

  -- where none is left all are kept
  pub passed_end : Passed all [] lines k → KeptOf all lines k
  passed_end p = subst (λ (l : List Finding). KeptOf l lines k) (sym (append-nil p.fs) ∙ p.split) p.kept

  -- as many as all
  pub planned-count : {left : List Finding} (p : Passed all left lines k) → length p.fs + length left ≡ length all
  planned-count {left} p = sym (length-append p.fs left) ∙ ap length p.split

  -- and no more bytes than those of all
  pub passed-bytes : {left : List Finding} → Passed all left lines k → k.bytes ≤ length (flat_map finding_line all)
  passed-bytes {left} p =
      omega (
        arith,
        p.kept.bytes,
        ap (λ (l : List Finding). length (flat_map finding_line l)) p.split,
        ap length (flat_map_append finding_line p.fs left),
        length-append (flat_map finding_line p.fs) (flat_map finding_line left),
      )

-- ---- the pairs of a root row

module _ (t : Tables) {links : List ℕ} (linked : Linked t.leaf_pairs links) (i k : ℕ) where
  module _ (h : k < group_count links) where
    -- there is room for what is found of root row i and group k
    pub pair-room : {lines lines' : List ℕ} {kept kept' : Kept} → RowRoom t lines kept
        → ((fs : List Finding) → KeptOf fs lines kept → Passed (fs ++ row_findings t i) (pairs_left t i k) lines' kept') → RoomFor 1 kept'
    pair-room {lines' = lines'} room passed =
        let p = passed room.fs room.kept in
        record {
          fs = p.fs;
          lines = lines';
          kept = p.kept;
          few = omega (arith, planned-count p, ap length (pairs_next t linked i k h), length-append room.fs (row_findings t i), row_count t i, room.few);
        }

    -- and once it is added one more is kept
    pub pair_passed : {all : List Finding} {r w : Found} {lines lines' : List ℕ} {kept kept' : Kept} {j : ℕ} → j ≡ group_row links k
        → Passed all (pairs_left t i k) lines kept → IsFinding Reading (finding_at t i j) (is_asked kept) r → IsFinding Writing (finding_at t i j) (is_asked kept) w
        → Added kept lines i j r w kept' lines' → Passed all (pairs_left t i (k + 1)) lines' kept'
    unfolding finding_of
    pair_passed {all} {lines = lines} {kept = kept} {j = j} at p reading writing a =
        let next = pairs_next t linked i k h ∙ ap (λ (g : ℕ). finding_at t i g ∷ pairs_left t i (k + 1)) (sym at) in
        passed_on (subst (λ (l : List Finding). Passed all l lines kept) next p) (λ fs were. a.kept fs (finding_at t i j) refl refl reading writing were)

  -- behind the last group all are kept
  pub pairs-passed : group_count links ≤ k → {all : List Finding} {lines : List ℕ} {kept : Kept} → Passed all (pairs_left t i k) lines kept → KeptOf all lines kept
  pairs-passed h {all} {lines} {kept} p = passed_end (subst (λ (l : List Finding). Passed all l lines kept) (pairs-none t linked i k h) p)
