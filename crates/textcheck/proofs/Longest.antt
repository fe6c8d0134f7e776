-- How long a report can be: 145 bytes and 30 for each pair. Numbers are counted by their digits: rows have at most three, lists at most four, counts
-- seven and an address seventeen.
use mathlib.Core.Path.{◌≡◌, refl, ap, subst, ◌∙◌}
use mathlib.Core.Bool.{Bool, true, false, cond}
use mathlib.Core.Logic.{◌≢◌}
use mathlib.Core.Option.{none}
use mathlib.Core.List.Memᴰ
use mathlib.Core.List.{List, [], ◌∷◌, ◌++◌, map, flat_map}
use Prim.Native.Nat.{ℕ, suc, ◌+◌, ◌*◌, ◌≤◌, ◌<◌, ◌^◌}
use native.Mathlib.Nat.{le_trans, lt_irrefl, lt_of_lt_of_le}
use native.Mathlib.Omega.{arith}
use lib.Dec.{eqb}
use lib.IntN.{ℤ, pos, negsuc}
use lib.ListN.{length, length-append, length-map}
use Rattle.integers.proofs.Tests.{Test, passed, failed, eq?}
use Rattle.integers.proofs.Linear.{le_in}
use Rattle.lists.specs.Lists.{◌∈◌}
use Rattle.model.specs.Bytes.{Bytes, line_feed, blank, shown, spaced}
use Rattle.model.specs.Rows.{Pair}
use Rattle.model.specs.declared.WalkKind.{WalkKind}
use Rattle.model.specs.declared.WalkKind.TheVariants.{Reading, Writing}
use Rattle.model.specs.Limits.{max_pairs, max_paths}
use Rattle.model.proofs.GroupRows.{group-leaf}
use Rattle.model.proofs.Groups.{group-list-few}
use Rattle.model.specs.Compare.{Tables, spec_graph, impl_graph, banks, visits, Finding, finding_of, verdict_of, Place, nowhere, Result, root_rows, groups, findings, result_of}
use Rattle.model.specs.Checks.{check_tables}
use Rattle.model.specs.Refusals.{NoneHolds, compare_conditions, output_conditions}
use Rattle.model.specs.Report.{line_of, no_record, lengths_of_lists, finding_line, result_line, report}
use Rattle.model.specs.TextCheck.{report_conditions}
use Rattle.model.specs.Demands.{Address, Demand3, FirstDifference}
use Rattle.model.proofs.Settled.{none-next, settled_none}
use Rattle.model.proofs.Pairing.{compare_settled}
use Rattle.model.proofs.Folds.{verdict-low, whole-low}
use Rattle.model.proofs.Visits.{visits_in, visits_length}
use Rattle.lists.proofs.Membership.{map_out}
use Rattle.model.proofs.Demand.{compare_full, demand3}
use Rattle.tables.proofs.Rows.{pair_own}
use Rattle.report.proofs.Digits.{digits_one, digits-within}
use Rattle.reporting.specs.Lines.{SmallPlace, SmallResult}
use Rattle.reporting.proofs.Parts.{report_length, result_length, report-from, result-small}
use Rattle.prepare.proofs.Checks.{tables-inputs}
use Rattle.survey.proofs.Passing.{findings-few}
use Rattle.pairs.proofs.Lists.{list-few}
use Rattle.pathlimit.specs.Inputs.{Inputs, AllFew}

-- ---- lines

-- a number below 10^m has at most m digits, where m is not 0
shown-within : (n m : ℕ) → n < 10 ^ suc m → length (shown (pos n)) ≤ suc m
unfolding shown
shown-within n m h = digits-within 20 n m h

-- -1 has two bytes
shown-below : length (shown (negsuc 0)) ≡ 2
unfolding shown
shown-below = ap (λ (b : Bytes). suc (length b)) (digits_one 20 1 (λ e. omega arith) (omega arith))

-- the bytes of a line: those of each number and one behind it
abbrev line_size : List ℤ → ℕ
line_size [] = 0
line_size (v ∷ vs) = length (shown v) + 1 + line_size vs

line-size : (v : ℤ) (vs : List ℤ) → length (line_of (v ∷ vs)) ≡ line_size (v ∷ vs)
unfolding line_of spaced
line-size v [] = omega (arith, length-append (shown v) (line_feed ∷ []))
line-size v (w ∷ vs) =
    let later = spaced (map shown (w ∷ vs)) in
    omega (
      arith,
      line-size w vs,
      length-append (shown v) (blank ∷ later),
      length-append (shown v ++ (blank ∷ later)) (line_feed ∷ []),
      length-append later (line_feed ∷ []),
    )

-- ---- pairs

-- a finding with rows below 1,000 and lists of at most 1,024 records, for both kinds
record SmallFinding (f : Finding) : Type 0 where
  place : SmallPlace f.visit.root.row f.visit.leaf.row
  spec : (kind : WalkKind) → length (f.spec kind) ≤ max_paths
  impl : (kind : WalkKind) → length (f.impl kind) ≤ max_paths

module _ (f : Finding) (small : SmallFinding f) where
  -- what stands behind the root row
  behind : List ℤ
  behind = pos f.visit.leaf.row ∷ pos (verdict_of f) ∷ map pos (lengths_of_lists f)

  numbers_longest : line_size (pos f.visit.root.row ∷ behind) ≤ 30
  unfolding behind lengths_of_lists
  numbers_longest =
      omega (
        arith,
        shown-within f.visit.root.row 2 (omega (arith, small.place.root)),
        shown-within f.visit.leaf.row 2 (omega (arith, small.place.leaf)),
        shown-within (verdict_of f) 0 (omega (arith, verdict-low f)),
        shown-within (length (f.spec Reading)) 3 (omega (arith, small.spec Reading)),
        shown-within (length (f.impl Reading)) 3 (omega (arith, small.impl Reading)),
        shown-within (length (f.spec Writing)) 3 (omega (arith, small.spec Writing)),
        shown-within (length (f.impl Writing)) 3 (omega (arith, small.impl Writing)),
      )

  -- the line of a pair has at most 30 bytes
  finding_longest : length (finding_line f) ≤ 30
  unfolding finding_line behind
  finding_longest = go (no_record f)
    where
      go : (b : Bool) → length (cond b [] (line_of (pos f.visit.root.row ∷ behind))) ≤ 30
      go true = omega arith
      go false = omega (arith, line-size (pos f.visit.root.row) behind, numbers_longest)

-- and the lines of all pairs so many each
lines_longest : (fs : List Finding) → ((f : Finding) → f ∈ fs → SmallFinding f) → length (flat_map finding_line fs) ≤ 30 * length fs
unfolding flat_map
lines_longest [] h = omega arith
lines_longest (f ∷ fs) h =
    omega (
      arith,
      finding_longest f (h f (Memᴰ.head refl)),
      lines_longest fs (λ g m. h g (Memᴰ.tail m)),
      length-append (finding_line f) (flat_map finding_line fs),
    )

-- ---- the result

-- a bit address up to 2^55 − 1 has at most 17 digits
address_longest : (x : ℤ) → Address x → length (shown x) ≤ 17
address_longest (pos n) a = shown-within n 16 (omega (arith, le_in a.high))
address_longest (negsuc n) a = absurd a.low.le

-- the place of a result, where it is shown
pub record ShortPlace (p : Place) : Type 0 where
  pub root : length (shown p.root) ≤ 3
  pub leaf : length (shown p.leaf) ≤ 3
  pub address : length (shown p.address) ≤ 17

nowhere-short : ShortPlace nowhere
nowhere-short = record { root = omega (arith, shown-below); leaf = omega (arith, shown-below); address = omega (arith, shown-below) }

module _ (t : Tables) (taken : check_tables t ≡ none) where
  -- the tables are inputs, and each pair has few paths
  inputs : Inputs t × AllFew t
  inputs = tables-inputs t taken

  -- rows of pairs have at most three digits
  rows-low : {r l : Pair} → r ∈ root_rows t → l ∈ groups t → (r.row < max_pairs) × (l.row < max_pairs)
  rows-low p q =
      (omega (arith, (pair_own t.root_pairs p).0, inputs.0.root_shape.few), omega (arith, (pair_own t.leaf_pairs (group-leaf t q)).0, inputs.0.leaf_shape.few))

  -- and lists at most four
  findings-small : (f : Finding) → f ∈ findings t → SmallFinding f
  unfolding findings finding_of
  findings-small f m =
      let w = map_out (finding_of t) (visits (root_rows t) (groups t)) m in
      let v = w.0 in
      let paired = (visits_in (root_rows t) (groups t)).0 w.1 in
      let low = rows-low paired.0 paired.1 in
      let few = inputs.1 v w.1 in
      rw w.2
      (record {
        place = record { root = low.0; leaf = low.1 };
        spec = λ kind. omega (arith, list-few kind (spec_graph t) v.root.spec v.leaf.spec, few.0);
        impl = λ kind. omega (arith, group-list-few kind (impl_graph t) v.root.impl (banks t v.leaf), few.1);
      })

  difference_short : {res : Result} → FirstDifference t res → ShortPlace res.place
  difference_short d =
      let low = rows-low d.paired.0 d.paired.1 in
      record {
        root = rw d.reported_root (shown-within d.root.row 2 (omega (arith, low.0)));
        leaf = rw d.reported_leaf (shown-within d.leaf.row 2 (omega (arith, low.1)));
        address = address_longest _ d.address;
      }

  place_short : {res : Result} → Demand3 t res → ShortPlace res.place
  place_short {res} d = go (eqb res.verdict 0) (eq? res.verdict 0)
    where
      go : (b : Bool) → Test (res.verdict ≡ 0) (res.verdict ≢ 0) b → ShortPlace res.place
      go true (passed e) = rw (d.none e) nowhere-short
      go false (failed n) = difference_short (d.unequal n)

-- the line of the result has at most 52 bytes
result_longest : (res : Result) → res.verdict ≤ 2 → SmallResult res → ShortPlace res.place → length (result_line res) ≤ 52
unfolding result_line
result_longest res low small place =
    let counts = pos res.equal ∷ pos res.partial ∷ pos res.different ∷ res.place.root ∷ res.place.leaf ∷ res.place.address ∷ [] in
    omega (
      arith,
      line-size (pos res.verdict) counts,
      shown-within res.verdict 0 (omega (arith, low)),
      shown-within res.equal 6 (omega (arith, small.equal)),
      shown-within res.partial 6 (omega (arith, small.partial)),
      shown-within res.different 6 (omega (arith, small.different)),
      place.root,
      place.leaf,
      place.address,
    )

-- ---- the report

findings-count : (t : Tables) → length (findings t) ≡ length (root_rows t) * length (groups t)
unfolding findings
findings-count t = length-map (visits (root_rows t) (groups t)) (finding_of t) ∙ visits_length (root_rows t) (groups t)

-- the report of tables that meet no condition has at most 145 bytes and 30 for each pair
pub report_longest : (t : Tables) → NoneHolds (compare_conditions t)
    → length (report (findings t)) ≤ 145 + 30 * (length (root_rows t) * length (groups t))
report_longest t h =
    let taken = (settled_none (check_tables t) (compare_conditions t) (compare_settled t)).1 h in
    let res = result_of (findings t) in
    let place = place_short t taken (demand3 t h res (compare_full t h)) in
    subst (λ (n : ℕ). length (report (findings t)) ≤ 145 + 30 * n) (findings-count t)
    (omega (
      arith,
      ap length (report-from (findings t)),
      report_length (flat_map finding_line (findings t)) res,
      result_length res,
      lines_longest (findings t) (findings-small t taken),
      result_longest res (whole-low (findings t)) (result-small (findings t) (findings-few (inputs t taken).0)) place,
    ))

-- so with a buffer of that length no condition is met: refusal 11 is not given
pub longest_held : (t : Tables) (room : ℕ) → NoneHolds (compare_conditions t) → 145 + 30 * (length (root_rows t) * length (groups t)) ≤ room
    → NoneHolds (report_conditions room t)
unfolding report_conditions output_conditions
longest_held t room h fits =
    (none-next (compare_conditions t) (output_conditions (length (report (findings t))) room)).1
    (h, ((λ past. lt_irrefl room (lt_of_lt_of_le past (le_trans (report_longest t h) fits))), tt))
