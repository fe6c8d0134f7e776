-- Places of numbers in a list: a member's place is its own, and in an ascending list it is the only one. How many numbers an ascending list can have.
use mathlib.Core.Path.{◌≡◌, refl, sym, ap, ◌∙◌}
use mathlib.Core.Bool.{Bool, true, false, cond}
use mathlib.Core.Logic.{◌≢◌, ⊎_elim}
use mathlib.Core.List.Memᴰ
use mathlib.Core.List.{List, [], ◌∷◌}
use Prim.Native.Nat.{ℕ, zero, suc, ◌+◌, ◌≤◌, ◌<◌}
use native.Mathlib.Omega.{arith}
use lib.IntN.{ℤ, pos}
use lib.Signed.{◌≤ℤ◌, ◌<ℤ◌}
use lib.ListN.{length, get_or}
use Rattle.integers.specs.Integers.{eq_z}
use Rattle.integers.proofs.Linear.{ints}
use Rattle.integers.proofs.Tests.{Test, passed, failed, eq_z?}
use Rattle.lists.specs.Lists.{◌∈◌}
use Rattle.lists.proofs.Places.{get_d_in}
use Rattle.model.specs.Sheet.{place_among}
use Rattle.model.proofs.WalkCall.{Ascending, nil, cons}

-- the place of a member is within the list
pub place-within : {n : ℤ} (ms : List ℤ) → n ∈ ms → place_among n ms < length ms
unfolding place_among
place-within [] m = absurd (Memᴰ.not-nil m)
place-within {n} (k ∷ ms) m = go (eq_z n k) (eq_z? n k) (place-within ms)
  where
    go : (t : Bool) → Test (n ≡ k) (n ≢ k) t → (n ∈ ms → place_among n ms < length ms) → cond t 0 (suc (place_among n ms)) < suc (length ms)
    go true e rec = omega arith
    go false (failed e) rec = ⊎_elim (λ q. absurd (e q)) (λ j. omega (arith, rec j)) (Memᴰ.cases_cons m)

-- a member stands at its place
pub place_at : {n : ℤ} (ms : List ℤ) (d : ℤ) → n ∈ ms → get_or ms (place_among n ms) d ≡ n
unfolding place_among
place_at [] d m = absurd (Memᴰ.not-nil m)
place_at {n} (k ∷ ms) d m = go (eq_z n k) (eq_z? n k) (place_at ms d)
  where
    go : (t : Bool) → Test (n ≡ k) (n ≢ k) t → (n ∈ ms → get_or ms (place_among n ms) d ≡ n)
        → get_or (k ∷ ms) (cond t 0 (suc (place_among n ms))) d ≡ n
    go true (passed e) rec = sym e
    go false (failed e) rec = ⊎_elim (λ q. absurd (e q)) rec (Memᴰ.cases_cons m)

-- two members with one place are one
pub place-own : {n k : ℤ} (ms : List ℤ) → n ∈ ms → k ∈ ms → place_among n ms ≡ place_among k ms → n ≡ k
place-own ms i j e = sym (place_at ms (pos 0) i) ∙ ap (λ p. get_or ms p (pos 0)) e ∙ place_at ms (pos 0) j

-- in an ascending list what stands at a place has that place
pub place_of : {ms : List ℤ} (d : ℤ) → Ascending ms → (k : ℕ) → k < length ms → place_among (get_or ms k d) ms ≡ k
unfolding place_among
place_of d nil k h = absurd (omega arith)
place_of d (cons {x = x} {l = ms} low c) zero h = go (eq_z x x) (eq_z? x x)
  where
    go : (t : Bool) → Test (x ≡ x) (x ≢ x) t → cond t 0 (suc (place_among x ms)) ≡ 0
    go true e = refl
    go false (failed e) = absurd (e refl)
place_of d (cons {x = x} {l = ms} low c) (suc k) h =
    go (eq_z (get_or ms k d) x) (eq_z? (get_or ms k d) x) (place_of d c k (omega arith))
  where
    go : (t : Bool) → Test (get_or ms k d ≡ x) (get_or ms k d ≢ x) t → place_among (get_or ms k d) ms ≡ k
        → cond t 0 (suc (place_among (get_or ms k d) ms)) ≡ suc k
    go true (passed e) rec = let above = low (get_or ms k d) (get_d_in ms k d (omega arith)) in absurd (omega (arith, ints))
    go false (failed e) rec = ap suc rec

-- an ascending list of numbers in low .. high − 1 has at most high − low of them
pub ascending-few : {ms : List ℤ} (low high : ℕ) → Ascending ms → ((y : ℤ) → y ∈ ms → (pos low ≤ℤ y) × (y <ℤ pos high)) → low ≤ high
    → low + length ms ≤ high
ascending-few low high nil within h = omega arith
ascending-few low high (cons {x = x} {l = ms} above c) within h =
    let first = within x (Memᴰ.head refl) in
    let rest = ascending-few (suc low) high c (λ y m. let over = above y m in (omega (arith, ints), (within y (Memᴰ.tail m)).1)) (omega (arith, ints)) in
    omega arith
