-- Paths counted: one at the leaf, elsewhere by the edges that leave the node; and counts that stop one past the limit.
use mathlib.Core.Path.{◌≡◌, refl, sym, ap, ◌∙◌}
use mathlib.Core.Bool.{Bool, true, false, cond}
use mathlib.Core.List.Memᴰ
use mathlib.Core.List.{List, [], ◌∷◌, ◌++◌, map, flat_map}
use mathlib.Core.Logic.{◌≢◌, ◌↔◌}
use Prim.Native.Nat.{ℕ, zero, suc, ◌+◌, ◌-◌, ◌≤◌, ◌<◌}
use native.Mathlib.Omega.{arith}
use lib.IntN.{ℤ}
use lib.ListN.{length, length-map}
use Rattle.integers.specs.Integers.{eq_z}
use Rattle.integers.proofs.Tests.{Test, passed, failed, eq_z?}
use Rattle.lists.specs.Lists.{◌∈◌}
use Rattle.model.specs.Limits.{max_chain}
use Rattle.model.specs.Rows.{Edge}
use Rattle.model.specs.Graph.{Graph}
use Rattle.model.specs.Paths.{Way, stay, over}
use Rattle.model.specs.Runs.{leaving, paths_within, paths}
use Rattle.model.proofs.Paths.{Fit, onward, leaving_out, paths-sound, paths-complete, way-short}
use Rattle.reach.specs.Counting.{path_count, stopped}
use Rattle.reach.proofs.Totals.{total, total_agree, total-lengths}

-- ---- the limit on edges does not matter

-- functions that agree on the elements give the same lists, one after the other
pub flat_map_agree : {A B : Type 0} (f h : A → List B) (l : List A) → ((x : A) → x ∈ l → f x ≡ h x) → flat_map f l ≡ flat_map h l
unfolding flat_map
flat_map_agree f h [] e = refl
flat_map_agree f h (x ∷ l) e =
    ap (λ t. t ++ flat_map f l) (e x (Memᴰ.head refl)) ∙ ap (λ t. h x ++ t) (flat_map_agree f h l (λ y m. e y (Memᴰ.tail m)))

-- a list that has no element
pub empty-list : {A : Type 0} (l : List A) → ((x : A) → x ∈ l → ⊥) → l ≡ []
empty-list [] h = refl
empty-list (x ∷ l) h = absurd (h x (Memᴰ.head refl))

-- no way from v has more than k edges
abbrev pub Within : ℕ → Graph → ℤ → Type 0
Within k g v = (p : List Edge) (w : ℤ) → Way g v p w → length p ≤ k

-- behind an edge from v a way has an edge less
pub within_onward : {k : ℕ} {g : Graph} {v : ℤ} → Within (suc k) g v → (e : Edge) → e ∈ leaving g v → Within k g e.to
within_onward {g} {v} h e m p w y = let n = leaving_out g v m in let j = h (e ∷ p) w (over e n.0 n.1 y) in omega (arith, j)

-- where no way from v has more than k edges, one edge more makes no path more
pub within_settled : (k : ℕ) (g : Graph) (v l : ℤ) → Within k g v → paths_within (suc k) g v l ≡ paths_within k g v l
unfolding paths_within flat_map
within_settled zero g v l h =
    ap (λ t. cond (eq_z v l) ([] ∷ []) (flat_map (onward zero g l) t))
    (empty-list (leaving g v) (λ e m. let n = leaving_out g v m in let j = h (e ∷ []) e.to (over e n.0 n.1 stay) in omega (arith, j)))
within_settled (suc k) g v l h =
    ap (λ t. cond (eq_z v l) ([] ∷ []) t)
    (flat_map_agree (onward (suc k) g l) (onward k g l) (leaving g v)
    (λ e m. ap (λ t. map (λ p. e ∷ p) t) (within_settled k g e.to l (within_onward h e m))))

-- ---- counts

-- edges of a path at most behind its first
abbrev max_behind : ℕ
max_behind = max_chain - 1

-- the leaf has one path to itself, of no edge
pub count-leaf : (g : Graph) (l : ℤ) → path_count g l l ≡ 1
unfolding path_count paths paths_within
count-leaf g l = go (eq_z l l) (eq_z? l l)
  where
    go : (t : Bool) → Test (l ≡ l) (l ≢ l) t → length (cond t ([] ∷ []) (flat_map (onward max_behind g l) (leaving g l))) ≡ 1
    go true (passed h) = refl
    go false (failed h) = absurd (h refl)

-- the paths from any other node go on from the edges that leave it
pub count-step : {g : Graph} {v l : ℤ} → Fit g l → v ≢ l → path_count g v l ≡ total (λ e. path_count g e.to l) (leaving g v)
unfolding path_count paths paths_within
count-step {g} {v} {l} f n = go (eq_z v l) (eq_z? v l)
  where
    short : Within max_chain g v
    short p w y = way-short f.short y

    each : (e : Edge) → e ∈ leaving g v → length (onward max_behind g l e) ≡ path_count g e.to l
    each e m =
        length-map (paths_within max_behind g e.to l) (λ p. e ∷ p) ∙ ap length (sym (within_settled max_behind g e.to l (within_onward short e m)))

    go : (t : Bool) → Test (v ≡ l) (v ≢ l) t
        → length (cond t ([] ∷ []) (flat_map (onward max_behind g l) (leaving g v))) ≡ total (λ e. path_count g e.to l) (leaving g v)
    go true (passed h) = absurd (n h)
    go false (failed h) =
        total-lengths (onward max_behind g l) (leaving g v) ∙ total_agree (λ e. length (onward max_behind g l e)) (λ e. path_count g e.to l) (leaving g v) each

-- a list has an element where its length is not 0
some_element : {A : Type 0} (l : List A) → 0 < length l → (x : A) × (x ∈ l)
some_element [] h = absurd (omega arith)
some_element (x ∷ l) h = (x, Memᴰ.head refl)

element_some : {A : Type 0} {x : A} (l : List A) → x ∈ l → 0 < length l
element_some [] m = absurd (Memᴰ.not-nil m)
element_some (x ∷ l) m = omega arith

-- some path is counted exactly where there is a way
pub count-some : {g : Graph} {v l : ℤ} → Fit g l → 0 < path_count g v l ↔ ((p : List Edge) × Way g v p l)
unfolding path_count
count-some {g} {v} {l} f =
    (λ h. let w = some_element (paths g v l) h in (w.0, paths-sound w.1), λ w. element_some (paths g v l) (paths-complete f w.1))

-- ---- counts that stop

-- a sum of stopped counts, stopped, is the sum stopped
pub stopped_sum : (a b : ℕ) → stopped (stopped a + stopped b) ≡ stopped (a + b)
stopped_sum a b = omega arith

-- a stopped count is 0 exactly where the count is
pub stopped-some : (a : ℕ) → 0 < stopped a ↔ (0 < a)
stopped-some a = (λ h. omega arith, λ h. omega arith)
