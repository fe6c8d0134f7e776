-- The counts, the largest verdict and the first unequal pair of a list of findings.
use mathlib.Core.Path.{◌≡◌, refl, sym, ap, ◌∙◌, subst}
use mathlib.Core.Bool.{Bool, true, false, cond}
use mathlib.Core.List.Memᴰ
use mathlib.Core.List.{List, [], ◌∷◌, ◌++◌, map}
use mathlib.Core.Logic.Iff
use mathlib.Core.Logic.{◌≢◌, ◌↔◌, ⊎_elim}
use mathlib.Core.Option.{Option, none, some}
use Prim.Native.Nat.{ℕ, zero, suc, ◌+◌, ◌≤◌, max}
use native.Mathlib.Omega.{arith}
use lib.Dec.{eqb}
use lib.ListN.{length}
use Rattle.integers.proofs.Tests.{Test, passed, failed, eq?}
use Rattle.lists.specs.Lists.{◌∈◌}
use Rattle.lists.proofs.Membership.{map_in, map_out}
use Rattle.model.specs.declared.WalkKind.TheVariants.{Reading, Writing}
use Rattle.model.specs.Compare.{Finding, kind_verdict, verdict_of, count, largest, first_unequal, place_of, nowhere, result_of}
use Rattle.model.proofs.Verdicts.{verdict-range}

-- four counts together are as many as the numbers, where none is above 3
pub counts_four : (vs : List ℕ) → ((v : ℕ) → v ∈ vs → v ≤ 3) → count 0 vs + count 1 vs + count 2 vs + count 3 vs ≡ length vs
unfolding count
counts_four [] h = refl
counts_four (v ∷ vs) h = go v (h v (Memᴰ.head refl)) (counts_four vs (λ w m. h w (Memᴰ.tail m)))
  where
    go : (v : ℕ) → v ≤ 3 → count 0 vs + count 1 vs + count 2 vs + count 3 vs ≡ length vs
        → count 0 (v ∷ vs) + count 1 (v ∷ vs) + count 2 (v ∷ vs) + count 3 (v ∷ vs) ≡ suc (length vs)
    go zero le rec = omega arith
    go (suc zero) le rec = omega arith
    go (suc (suc zero)) le rec = omega arith
    go (suc (suc (suc zero))) le rec = omega arith
    go (suc (suc (suc (suc n)))) le rec = absurd (omega arith)

-- a number that is none of the list's does not stand in it
count-absent : (k : ℕ) (vs : List ℕ) → ((v : ℕ) → v ∈ vs → v ≢ k) → count k vs ≡ 0
unfolding count
count-absent k [] h = refl
count-absent k (v ∷ vs) h = go (eqb v k) (eq? v k) (count-absent k vs (λ w m. h w (Memᴰ.tail m)))
  where
    go : (b : Bool) → Test (v ≡ k) (v ≢ k) b → count k vs ≡ 0 → cond b (suc (count k vs)) (count k vs) ≡ 0
    go true (passed e) later = absurd (h v (Memᴰ.head refl) e)
    go false t later = later

-- the three counts together are as many as the verdicts
pub counts-total : (vs : List ℕ) → ((v : ℕ) → v ∈ vs → v ≤ 2) → count 0 vs + count 1 vs + count 2 vs ≡ length vs
counts-total vs h =
    omega (arith, counts_four vs (λ v m. omega (arith, h v m)), count-absent 3 vs (λ v m e. omega (arith, h v m, e)))

-- no verdict is above 2
pub verdict-low : (f : Finding) → verdict_of f ≤ 2
unfolding verdict_of kind_verdict
verdict-low f = omega (arith, verdict-range (f.spec Reading) (f.impl Reading), verdict-range (f.spec Writing) (f.impl Writing))

largest-low : (vs : List ℕ) → ((v : ℕ) → v ∈ vs → v ≤ 2) → largest vs ≤ 2
unfolding largest
largest-low [] h = omega arith
largest-low (v ∷ vs) h = omega (arith, h v (Memᴰ.head refl), largest-low vs (λ w m. h w (Memᴰ.tail m)))

-- nor is the whole verdict
pub whole-low : (fs : List Finding) → (result_of fs).verdict ≤ 2
unfolding result_of
whole-low fs = largest-low (map verdict_of fs) (λ v m. let w = map_out verdict_of fs m in rw w.2 (verdict-low w.0))

-- the largest verdict is 0 exactly where all are
pub largest_zero : (vs : List ℕ) → (largest vs ≡ 0) ↔ ((v : ℕ) → v ∈ vs → v ≡ 0)
unfolding largest
largest_zero [] = (λ e v m. absurd (Memᴰ.not-nil m), λ h. refl)
largest_zero (v ∷ vs) = both (largest_zero vs)
  where
    both : (largest vs ≡ 0) ↔ ((w : ℕ) → w ∈ vs → w ≡ 0) → (max v (largest vs) ≡ 0) ↔ ((w : ℕ) → w ∈ (v ∷ vs) → w ≡ 0)
    both rec = (
      λ e w m. ⊎_elim (λ q. omega arith) (λ n. rec.0 (omega arith) w n) (Memᴰ.cases_cons m),
      λ h. let p = h v (Memᴰ.head refl) in let q = rec.1 (λ w m. h w (Memᴰ.tail m)) in omega arith,
    )

-- the largest verdict of findings is 0 exactly where that of each is
pub largest-equal : (fs : List Finding) → (largest (map verdict_of fs) ≡ 0) ↔ ((f : Finding) → f ∈ fs → verdict_of f ≡ 0)
largest-equal fs =
    Iff.trans (largest_zero (map verdict_of fs))
    (λ h f m. h (verdict_of f) (map_in verdict_of m), λ h v m. let w = map_out verdict_of fs m in w.2 ∙ h w.0 w.1)

-- the first unequal finding of a list: all ahead of it have verdict 0, and it has not
pub record FirstUnequal (fs : List Finding) (f : Finding) : Type 0 where
  pub earlier : List Finding
  pub later : List Finding
  pub split : fs ≡ earlier ++ (f ∷ later)
  pub equal : (e : Finding) → e ∈ earlier → verdict_of e ≡ 0
  pub unequal : verdict_of f ≢ 0

-- it is one of them
pub first-unequal_in : {fs : List Finding} {f : Finding} → FirstUnequal fs f → f ∈ fs
first-unequal_in {f} w = subst (λ (l : List Finding). f ∈ l) (sym w.split) (Memᴰ.append_right w.earlier (Memᴰ.head refl))

-- what first_unequal gives: none where all verdicts are 0, else the first unequal finding
abbrev pub FirstFound : List Finding → Option Finding → Type 0
FirstFound fs none = (f : Finding) → f ∈ fs → verdict_of f ≡ 0
FirstFound fs (some f) = FirstUnequal fs f

equal_cons : {f : Finding} {fs : List Finding} → verdict_of f ≡ 0 → ((e : Finding) → e ∈ fs → verdict_of e ≡ 0) → (e : Finding) → e ∈ (f ∷ fs) → verdict_of e ≡ 0
equal_cons p h e m = ⊎_elim (λ q. ap verdict_of q ∙ p) (h e) (Memᴰ.cases_cons m)

-- first_unequal gives the first unequal finding, or none where all verdicts are 0
pub first-unequal : (fs : List Finding) → FirstFound fs (first_unequal fs)
unfolding first_unequal
first-unequal [] = λ f m. absurd (Memᴰ.not-nil m)
first-unequal (f ∷ fs) = go (eqb (verdict_of f) 0) (eq? (verdict_of f) 0) (first_unequal fs) (first-unequal fs)
  where
    next : verdict_of f ≡ 0 → (o : Option Finding) → FirstFound fs o → FirstFound (f ∷ fs) o
    next e none h = equal_cons e h
    next e (some d) h =
        record { earlier = f ∷ h.earlier; later = h.later; split = ap (λ (l : List Finding). f ∷ l) h.split; equal = equal_cons e h.equal; unequal = h.unequal }

    go : (t : Bool) → Test (verdict_of f ≡ 0) (verdict_of f ≢ 0) t → (o : Option Finding) → FirstFound fs o → FirstFound (f ∷ fs) (cond t o (some f))
    go true (passed e) o h = next e o h
    go false (failed n) o h = record { earlier = []; later = fs; split = refl; equal = λ e m. absurd (Memᴰ.not-nil m); unequal = n }

-- it gives none exactly where all verdicts are 0
pub first-unequal-none : (fs : List Finding) → (first_unequal fs ≡ none) ↔ ((f : Finding) → f ∈ fs → verdict_of f ≡ 0)
first-unequal-none fs = (λ e. subst (FirstFound fs) e (first-unequal fs), λ h. go h (first_unequal fs) (first-unequal fs))
  where
    go : ((f : Finding) → f ∈ fs → verdict_of f ≡ 0) → (o : Option Finding) → FirstFound fs o → o ≡ none
    go h none w = refl
    go h (some f) w = absurd (w.unequal (h f (first-unequal_in w)))

-- where all verdicts are 0, there is no place to report
pub place_none : (fs : List Finding) → largest (map verdict_of fs) ≡ 0 → place_of (first_unequal fs) ≡ nowhere
unfolding place_of
place_none fs e = ap place_of ((first-unequal-none fs).1 ((largest-equal fs).0 e))
