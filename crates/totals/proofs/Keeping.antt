-- What is kept of findings with one more behind them, with or without a line.
use mathlib.Core.Path.{◌≡◌, refl, sym, ap, ◌∙◌}
use mathlib.Core.Bool.{Bool, true, false, cond, ◌&&◌}
use mathlib.Core.List.Memᴰ
use mathlib.Core.List.{List, [], ◌∷◌, ◌++◌, append-nil, append_assoc, flat_map}
use mathlib.Core.Logic.{◌≢◌}
use mathlib.Core.Option.{some}
use Prim.Native.Nat.{ℕ, suc, ◌+◌, ◌*◌, ◌≤◌, ◌<◌, max}
use native.Mathlib.Numerals.{add-one}
use native.Mathlib.Nat.{add-zero}
use native.Mathlib.Omega.{arith}
use lib.IntN.{ℤ, pos}
use lib.ListN.{length, set, length-append, length-set}
use lib.Seq.{take-suc-set}
use Rattle.lists.specs.Lists.{◌∈◌, is_nil}
use Rattle.lists.proofs.Membership.{length_nil}
use Rattle.model.specs.declared.WalkKind.TheVariants.{Reading, Writing}
use Rattle.model.specs.Answers.{verdict_number, comparison_result}
use Rattle.model.specs.Bitmapping.{Record}
use Rattle.model.specs.Compare.{Finding, verdict_of, lower_of, lowest_of, place_of, result_of}
use Rattle.model.specs.declared.Comparison.{Comparison}
use Rattle.model.specs.Report.{line_of, no_record, lengths_of_lists, finding_line}
use Rattle.model.proofs.BothKinds.{of_kinds}
use Rattle.reporting.specs.Lines.{line_of_number, max_visits, SmallResult}
use Rattle.reporting.proofs.Lines.{line-short, flat_map_snoc, lines_snoc}
use Rattle.reporting.proofs.Parts.{result-small}
use Rattle.totals.specs.declared.Found.{Found}
use Rattle.totals.specs.declared.Kept.{Kept}
use Rattle.totals.specs.Kept.{IsFinding, Bare, result_with, is_asked, KeptOf}
use Rattle.totals.proofs.Results.{result_snoc, place-first, one_equal, result_bare}

-- ---- lines

-- how many records its lists have together
abbrev pub record_count : Finding → ℕ
record_count f = length (f.spec Reading) + length (f.impl Reading) + (length (f.spec Writing) + length (f.impl Writing))

-- whether it has one
some? : (a b c d : List Record) → length a + length b + (length c + length d) ≢ 0 → is_nil a && is_nil b && is_nil c && is_nil d ≡ false
unfolding is_nil
some? [] [] [] [] n = absurd (n refl)
some? [] [] [] (y ∷ d) n = refl
some? [] [] (y ∷ c) d n = refl
some? [] (y ∷ b) c d n = refl
some? (y ∷ a) b c d n = refl

-- a finding without a record has no line
pub line-none : {f : Finding} → Bare f → finding_line f ≡ []
unfolding finding_line no_record is_nil
line-none bare = rw (bare.spec Reading, bare.impl Reading, bare.spec Writing, bare.impl Writing) refl

-- what is found for both kinds has as many
pub found-count : {asked : Bool} {r w : Found} {f : Finding} → IsFinding Reading f asked r → IsFinding Writing f asked w
    → r.lengths.spec + r.lengths.implementation + (w.lengths.spec + w.lengths.implementation) ≡ record_count f
found-count is at = cc (is.spec, is.impl, at.spec, at.impl)

-- where that is none, it is a finding without a record
pub found_bare : {asked : Bool} {r w : Found} {f : Finding} → IsFinding Reading f asked r → IsFinding Writing f asked w
    → r.lengths.spec + r.lengths.implementation + (w.lengths.spec + w.lengths.implementation) ≡ 0 → Bare f
found_bare {f = f} is at e =
    record {
      spec = of_kinds (λ kind. f.spec kind ≡ []) (length_nil (f.spec Reading) (omega (arith, is.spec, e))) (length_nil (f.spec Writing) (omega (arith, at.spec, e)));
      impl = of_kinds (λ kind. f.impl kind ≡ []) (length_nil (f.impl Reading) (omega (arith, is.impl, e))) (length_nil (f.impl Writing) (omega (arith, at.impl, e)));
    }

-- the worse of the verdicts that are found is that of the finding
pub found-verdict : {asked : Bool} {r w : Found} {f : Finding} → IsFinding Reading f asked r → IsFinding Writing f asked w
    → max (verdict_number r.verdict) (verdict_number w.verdict) ≡ verdict_of f
unfolding verdict_of
found-verdict is at = cc (is.verdict, at.verdict)

-- another has one
pub line-some : {asked : Bool} {r w : Found} (f : Finding) (i j v : ℕ) → f.visit.root.row ≡ i → f.visit.leaf.row ≡ j → v ≡ verdict_of f
    → IsFinding Reading f asked r → IsFinding Writing f asked w → record_count f ≢ 0
    → line_of
    (pos i
    ∷ pos j
    ∷ pos v
    ∷ pos r.lengths.spec
    ∷ pos r.lengths.implementation
    ∷ pos w.lengths.spec
    ∷ pos w.lengths.implementation
    ∷ [])
    ≡ finding_line f
unfolding finding_line no_record lengths_of_lists
line-some f i j v e h q is at n =
    rw (← e, ← h, q, is.spec, is.impl, at.spec, at.impl, some? (f.spec Reading) (f.impl Reading) (f.spec Writing) (f.impl Writing) n) refl

-- a line is short
line_or_none : (b : Bool) (vs : List ℤ) → length (cond b [] (line_of vs)) ≤ 22 * length vs + 1
line_or_none true vs = omega arith
line_or_none false vs = line-short vs

finding_short : (f : Finding) → length (finding_line f) ≤ 155
unfolding finding_line lengths_of_lists
finding_short f = line_or_none (no_record f) _

lines-short : (fs : List Finding) → length (flat_map finding_line fs) ≤ 155 * length fs
unfolding flat_map
lines-short [] = omega arith
lines-short (f ∷ fs) = omega (arith, finding_short f, lines-short fs, length-append (finding_line f) (flat_map finding_line fs))

-- the bytes of lines are few
pub kept-bytes : {fs : List Finding} {lines : List ℕ} {k : Kept} → KeptOf fs lines k → k.bytes ≤ 155 * length fs
kept-bytes {fs} p = omega (arith, p.bytes, lines-short fs)

-- the counts of at most 1,000,000 findings are small
pub kept_small : {fs : List Finding} {lines : List ℕ} {k : Kept} → KeptOf fs lines k → length fs ≤ max_visits
    → SmallResult (comparison_result k.result)
kept_small {fs} p h = rw p.result (result-small fs h)

-- ---- one more finding

-- the full result with what is found of it
pub found-result : {fs : List Finding} {lines : List ℕ} {k : Kept} {r w : Found} {a : ℤ} (f : Finding) (i j v : ℕ) → f.visit.root.row ≡ i
    → f.visit.leaf.row ≡ j → v ≡ verdict_of f → a ≡ lower_of r.address w.address → IsFinding Reading f (is_asked k) r → IsFinding Writing f (is_asked k) w
    → KeptOf fs lines k → result_with v (record { root = pos i; leaf = pos j; address = a }) (comparison_result k.result) ≡ result_of (fs ++ (f ∷ []))
unfolding place_of lowest_of
found-result {fs} {k} f i j v e h q low is at p =
    rw (q, ← e, ← h)
    (place-first (verdict_of f) _ (place_of (some f)) (comparison_result k.result)
    (λ a n.
    ap (λ (z : ℤ). record { root = pos f.visit.root.row; leaf = pos f.visit.leaf.row; address = z }) (low ∙ cc (is.address a, at.address a)))
    ∙ ap (result_with (verdict_of f) (place_of (some f))) p.result ∙ sym (result_snoc fs f))

module _ {fs : List Finding} {lines : List ℕ} {k : Kept} (p : KeptOf fs lines k) (f : Finding) {result : Comparison}
    (e : comparison_result result ≡ result_of (fs ++ (f ∷ []))) where
  -- without a line
  pub kept-none : finding_line f ≡ [] → KeptOf (fs ++ (f ∷ [])) lines (record { result = result; count = k.count; bytes = k.bytes })
  kept-none none =
      let same : flat_map finding_line (fs ++ (f ∷ [])) ≡ flat_map finding_line fs = flat_map_snoc finding_line fs f ∙ rw (none, append-nil) refl in
      record {
        result = e;
        count = omega (arith, p.count, length-append fs (f ∷ []));
        bytes = rw same p.bytes;
        held = λ h. rw same (p.held h);
      }

  -- with a line, whose number is stored behind the others where there is room
  pub kept-some : (n : ℕ) → line_of_number n ≡ finding_line f
      → KeptOf (fs ++ (f ∷ [])) (set lines k.count n) (record { result = result; count = k.count + 1; bytes = k.bytes + length (line_of_number n) })
  kept-some n line =
      let more : flat_map finding_line (fs ++ (f ∷ [])) ≡ flat_map finding_line fs ++ line_of_number n =
      flat_map_snoc finding_line fs f ∙ ap (λ (l : List ℕ). flat_map finding_line fs ++ l) (sym line) in
      record {
        result = e;
        count = omega (arith, p.count, length-append fs (f ∷ []));
        bytes = rw more (omega (arith, p.bytes, length-append (flat_map finding_line fs) (line_of_number n)));
        held = λ h.
            let room : k.count < length lines = omega (arith, length-set lines k.count n) in
            rw (more, add-one k.count, take-suc-set lines k.count n room, lines_snoc, p.held (omega arith)) refl;
      }

-- ---- findings without a record

-- what is kept with n more of them
abbrev pub with_equal : ℕ → Kept → Kept
with_equal n k =
    record {
      result = record {
        equal = k.result.equal + n;
        partial = k.result.partial;
        different = k.result.different;
        verdict = k.result.verdict;
        root = k.result.root;
        leaf = k.result.leaf;
        address = k.result.address;
      };
      count = k.count;
      bytes = k.bytes;
    }

pub kept-equal : (gs : List Finding) {fs : List Finding} {lines : List ℕ} {k : Kept} → ((g : Finding) → g ∈ gs → Bare g) → KeptOf fs lines k
    → KeptOf (fs ++ gs) lines (with_equal (length gs) k)
kept-equal [] {fs} {k} b p = rw (append-nil fs, add-zero k.result.equal) p
kept-equal (g ∷ gs) {fs} {lines} {k} b p =
    let bare = b g (Memᴰ.head refl) in
    let result = ap one_equal p.result ∙ sym (result_bare fs bare) in
    let one = kept-none p g {result = (with_equal 1 k).result} result (line-none bare) in
    let sum : k.result.equal + 1 + length gs ≡ k.result.equal + suc (length gs) = omega arith in
    rw (sum, append_assoc fs (g ∷ []) gs) at (kept-equal gs (λ h m. b h (Memᴰ.tail m)) one)
