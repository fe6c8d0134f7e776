-- The full result of findings with one more behind them, and with some that have no record.
use mathlib.Core.Path.{◌≡◌, refl, sym, ap, ◌∙◌}
use mathlib.Core.Bool.{Bool, true, false, true≢false, not, cond, ◌&&◌}
use mathlib.Core.List.{List, [], ◌∷◌, ◌++◌, map}
use mathlib.Core.Logic.{◌≢◌}
use mathlib.Core.Option.{some}
use Prim.Native.Nat.{ℕ, suc, ◌+◌, max}
use native.Mathlib.Numerals.{add-one}
use native.Mathlib.Omega.{arith}
use borrow.Author.Tests.{le-ltb}
use lib.Dec.{eqb}
use lib.IntN.{ℤ, pos}
use lib.Signed.{lt_z}
use Rattle.integers.proofs.Tests.{Test, passed, failed, eq?}
use Rattle.model.specs.declared.WalkKind.TheVariants.{Reading, Writing}
use Rattle.model.specs.Verdicts.{verdict, same_list}
use Rattle.model.specs.Compare.{Finding, kind_verdict, verdict_of, count, largest, first_unequal, Place, place_of, Result, result_of}
use Rattle.totals.specs.Kept.{Bare, counted, first_place, result_with}

-- ---- one more finding

count_snoc : (verdict : ℕ) (fs : List Finding) (f : Finding)
    → count verdict (map verdict_of (fs ++ (f ∷ []))) ≡ counted verdict (verdict_of f) (count verdict (map verdict_of fs))
unfolding count
count_snoc verdict [] f = refl
count_snoc verdict (g ∷ fs) f =
    rw (count_snoc verdict fs f) (go (eqb (verdict_of g) verdict) (eqb (verdict_of f) verdict) (count verdict (map verdict_of fs)))
  where
    go : (a b : Bool) (n : ℕ) → cond a (suc (cond b (suc n) n)) (cond b (suc n) n) ≡ cond b (suc (cond a (suc n) n)) (cond a (suc n) n)
    go true true n = refl
    go true false n = refl
    go false b n = refl

largest_snoc : (fs : List Finding) (f : Finding) → largest (map verdict_of (fs ++ (f ∷ []))) ≡ max (largest (map verdict_of fs)) (verdict_of f)
unfolding largest
largest_snoc [] f = omega arith
largest_snoc (g ∷ fs) f = omega (arith, largest_snoc fs f)

place_snoc : (fs : List Finding) (f : Finding)
    → place_of (first_unequal (fs ++ (f ∷ []))) ≡ first_place (verdict_of f) (place_of (some f)) (place_of (first_unequal fs))
unfolding first_unequal place_of
place_snoc [] f = go (eqb (verdict_of f) 0)
  where
    go : (b : Bool) → place_of (cond b (first_unequal []) (some f)) ≡ cond (not b && true) (place_of (some f)) (place_of (first_unequal []))
    go true = refl
    go false = refl
place_snoc (g ∷ fs) f = go (eqb (verdict_of g) 0) (not (eqb (verdict_of f) 0)) (place_snoc fs f)
  where
    go : (b c : Bool)
        → place_of (first_unequal (fs ++ (f ∷ []))) ≡ cond (c && lt_z (place_of (first_unequal fs)).root (pos 0)) (place_of (some f)) (place_of (first_unequal fs))
        → place_of (cond b (first_unequal (fs ++ (f ∷ []))) (some g))
        ≡ cond (c && lt_z (place_of (cond b (first_unequal fs) (some g))).root (pos 0)) (place_of (some f)) (place_of (cond b (first_unequal fs) (some g)))
    go true c e = e
    go false true e = rw (le-ltb g.visit.root.row 0 (omega arith)) refl
    go false false e = refl

-- the full result with one more finding
pub result_snoc : (fs : List Finding) (f : Finding) → result_of (fs ++ (f ∷ [])) ≡ result_with (verdict_of f) (place_of (some f)) (result_of fs)
unfolding result_of result_with
result_snoc fs f =
    λ i. record {
      equal = count_snoc 0 fs f i;
      partial = count_snoc 1 fs f i;
      different = count_snoc 2 fs f i;
      verdict = largest_snoc fs f i;
      place = place_snoc fs f i;
    }

-- the place of a pair matters only where it is unequal and none was before it
pub place-first : (v : ℕ) (p q : Place) (r : Result) → (lt_z r.place.root (pos 0) ≡ true → v ≢ 0 → p ≡ q)
    → result_with v p r ≡ result_with v q r
unfolding result_with
place-first v p q r h = rw (go (eqb v 0) (eq? v 0) (lt_z r.place.root (pos 0)) h) refl
  where
    go : (x : Bool) → Test (v ≡ 0) (v ≢ 0) x → (y : Bool) → (y ≡ true → v ≢ 0 → p ≡ q)
        → cond (not x && y) p r.place ≡ cond (not x && y) q r.place
    go true t y h = refl
    go false (failed n) true h = h refl n
    go false t false h = refl

-- where no pair of a result with one more is unequal, none was before, and that pair is equal
pub asked-before : {q : Result} (r : Result) (v i j : ℕ) (a : ℤ) → q ≡ result_with v (record { root = pos i; leaf = pos j; address = a }) r
    → lt_z q.place.root (pos 0) ≡ true → (lt_z r.place.root (pos 0) ≡ true) × (v ≡ 0)
unfolding result_with
asked-before r v i j a e h =
    go (lt_z r.place.root (pos 0)) refl (eqb v 0) (eq? v 0) (ap (λ (z : Result). lt_z z.place.root (pos 0)) (sym e) ∙ h)
  where
    place : Place
    place = record { root = pos i; leaf = pos j; address = a }

    first : (x : Bool) → lt_z r.place.root (pos 0) ≡ false → lt_z (cond (x && false) place r.place).root (pos 0) ≡ true → ⊥
    first true p k = true≢false (sym k ∙ p)
    first false p k = true≢false (sym k ∙ p)

    go : (b : Bool) → lt_z r.place.root (pos 0) ≡ b → (x : Bool) → Test (v ≡ 0) (v ≢ 0) x → lt_z (cond (not x && b) place r.place).root (pos 0) ≡ true
        → (b ≡ true) × (v ≡ 0)
    go true p true (passed z) k = (refl, z)
    go true p false (failed n) k = absurd (true≢false (sym k ∙ le-ltb i 0 (omega arith)))
    go false p x t k = absurd (first (not x) p k)

-- a result by its parts
pub result_parts : (v : ℕ) (place : Place) (r : Result) {q : Result} → q.equal ≡ counted 0 v r.equal → q.partial ≡ counted 1 v r.partial
    → q.different ≡ counted 2 v r.different → q.verdict ≡ max r.verdict v → q.place ≡ first_place v place r.place → q ≡ result_with v place r
unfolding result_with
result_parts v place r a b c d e = λ i. record { equal = a i; partial = b i; different = c i; verdict = d i; place = e i }

-- ---- findings without a record

-- such a finding is equal
pub bare_verdict : {f : Finding} → Bare f → verdict_of f ≡ 0
unfolding verdict_of kind_verdict verdict same_list
bare_verdict b = rw (b.spec Reading, b.impl Reading, b.spec Writing, b.impl Writing) refl

-- the full result with one more equal pair
abbrev pub one_equal : Result → Result
one_equal r = record { equal = r.equal + 1; partial = r.partial; different = r.different; verdict = r.verdict; place = r.place }

-- it is that with one more such finding
pub result_bare : (fs : List Finding) {f : Finding} → Bare f → result_of (fs ++ (f ∷ [])) ≡ one_equal (result_of fs)
unfolding result_with
result_bare fs {f} b =
    let same : max (result_of fs).verdict 0 ≡ (result_of fs).verdict = omega arith in
    result_snoc fs f ∙ rw (bare_verdict b, same, add-one (result_of fs).equal) refl
