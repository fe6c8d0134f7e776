-- Leaf rows by their places, and the first of them with a specification leaf.
use mathlib.Core.Path.{◌≡◌, refl, sym, ap, ◌∙◌}
use mathlib.Core.Bool.{Bool, true, false, cond}
use mathlib.Core.List.{List, [], ◌∷◌}
use mathlib.Core.Logic.{◌≢◌}
use Prim.Native.Nat.{ℕ, zero, suc, ◌*◌, ◌/◌, ◌≤◌, ◌<◌}
use native.Mathlib.Omega.{arith}
use lib.Dec.{T}
use lib.IntN.{ℤ}
use lib.ListN.{length, get_or, drop}
use lib.Seq.{drop-cons}
use Rattle.integers.specs.Integers.{eq_z}
use Rattle.integers.proofs.Tests.{eq_z?, is_true, is_false}
use Rattle.lists.proofs.Decisions.{Decides, decides_iff}
use Rattle.model.specs.Limits.{pair_width}
use Rattle.model.specs.Rows.{Pair, pairs_from, pair_rows}
use Rattle.model.specs.Compare.{same_spec, is_lowest}
use Rattle.model.proofs.GroupRows.{is_lowest?}
use Rattle.tables.specs.Tables.{pair_at}
use Rattle.tables.proofs.Rows.{pairs-rest, pairs_length, pair_own, pair_member}
use Rattle.reach.specs.Links.{first_row}
use Rattle.reach.proofs.FirstRow.{first_row-step, first_row-within, first_row_fails, first_row_passes}

-- ---- leaf rows by their places

-- the rest of a list behind one element more
drop_tail : {A : Type 0} (x : A) (k : ℕ) (l m : List A) → drop k l ≡ x ∷ m → drop (suc k) l ≡ m
drop_tail x zero [] m e = cc
drop_tail x (suc k) [] m e = cc
drop_tail x zero (y ∷ l) m e = cc
drop_tail x (suc k) (y ∷ l) m e = drop_tail x k l m e

module _ (ps : List ℤ) where
  -- the rows from row k on are those of the numbers behind k rows
  rows-from : (k : ℕ) → k ≤ length ps / pair_width → drop k (pair_rows ps) ≡ pairs_from k (drop (pair_width * k) ps)
  rows-from zero h = refl
  rows-from (suc k) h =
      drop_tail (pair_at ps k) k (pair_rows ps) (pairs_from (suc k) (drop (pair_width * suc k) ps))
      (rows-from k (omega (arith, h)) ∙ pairs-rest ps k (omega (arith, h)))

  module _ (k : ℕ) (h : k < length ps / pair_width) where
    -- row k stands at place k
    pub row-at : (d : Pair) → get_or (pair_rows ps) k d ≡ pair_at ps k
    row-at d =
        let a = drop-cons (pair_rows ps) k d (omega (arith, h, pairs_length ps)) in
        let b = rows-from k (omega (arith, h)) ∙ pairs-rest ps k (omega (arith, h)) in
        cc (a, b)

-- ---- rows with one specification leaf

-- the test on two leaf rows decides whether they have the same specification leaf
pub same_spec? : (p q : Pair) → Decides (q.spec ≡ p.spec) (same_spec p q)
unfolding same_spec
same_spec? p q = eq_z? q.spec p.spec

-- rows with one leaf have one test
pub same_spec-same : (p q : Pair) → p.spec ≡ q.spec → same_spec p ≡ same_spec q
unfolding same_spec
same_spec-same p q e = ap (λ v. λ (d : Pair). eq_z d.spec v) e

module _ (ps : List ℤ) where
  -- what is known of a row by its place, as the test has it
  row_test : (l : Pair) (k : ℕ) → k < length ps / pair_width → (d : Pair) → same_spec l (get_or (pair_rows ps) k d) ≡ same_spec l (pair_at ps k)
  row_test l k h d = ap (same_spec l) (row-at ps k h d)

  module _ (k : ℕ) (h : k < length ps / pair_width) where
    -- whether row k is the first from row k on, by the test on it
    first_step : (l : Pair) (t : Bool) → same_spec l (pair_at ps k) ≡ t
        → first_row (same_spec l) k (pair_rows ps) ≡ cond t k (first_row (same_spec l) (suc k) (pair_rows ps))
    first_step l t e =
        first_row-step (same_spec l) l k (pair_rows ps) (omega (arith, h, pairs_length ps))
        ∙ ap (λ b. cond b k (first_row (same_spec l) (suc k) (pair_rows ps))) (row_test l k h l ∙ e)

    -- row k is the first from row k on with its own leaf
    pub first-own : (l : Pair) → (pair_at ps k).spec ≡ l.spec → first_row (same_spec l) k (pair_rows ps) ≡ k
    first-own l e = first_step l true (is_true (same_spec l (pair_at ps k)) ((decides_iff (same_spec? l (pair_at ps k))).1 e))

    -- with any other the first is a later one
    pub first-other : (l : Pair) → (pair_at ps k).spec ≢ l.spec → first_row (same_spec l) k (pair_rows ps) ≡ first_row (same_spec l) (suc k) (pair_rows ps)
    first-other l n = first_step l false (is_false (same_spec l (pair_at ps k)) (λ t. n ((decides_iff (same_spec? l (pair_at ps k))).0 t)))

  -- a row before the first with a leaf has not this leaf
  pub before-first : (l : Pair) (i j : ℕ) → i ≤ j → j < first_row (same_spec l) i (pair_rows ps) → (pair_at ps j).spec ≢ l.spec
  before-first l i j low h e =
      let there : j < length ps / pair_width = omega (arith, h, first_row-within (same_spec l) i (pair_rows ps), pairs_length ps) in
      rw (row-at ps j there l, is_true (same_spec l (pair_at ps j)) ((decides_iff (same_spec? l (pair_at ps j))).1 e))
      at (first_row_fails (same_spec l) l i j (pair_rows ps) low h)

  -- the first has it, where there is one
  pub at_first : (l : Pair) (i : ℕ) → first_row (same_spec l) i (pair_rows ps) < length ps / pair_width → (pair_at ps (first_row (same_spec l) i (pair_rows ps))).spec ≡ l.spec
  at_first l i h =
      let f = first_row (same_spec l) i (pair_rows ps) in
      let t = rw (row-at ps f h l) at (first_row_passes (same_spec l) l i (pair_rows ps) (omega (arith, h, pairs_length ps))) in
      (decides_iff (same_spec? l (pair_at ps f))).0 t

  module _ (k : ℕ) (h : k < length ps / pair_width) where
    -- where row k is the first of all with its specification leaf it is the lowest of its group
    pub first-lowest : first_row (same_spec (pair_at ps k)) 0 (pair_rows ps) ≡ k → is_lowest (pair_rows ps) (pair_at ps k) ≡ true
    first-lowest e =
        is_true (is_lowest (pair_rows ps) (pair_at ps k))
        ((decides_iff (is_lowest? (pair_rows ps) (pair_at ps k))).1
        (λ q m b s. let (r, o) = pair_own ps m in
        before-first (pair_at ps k) 0 q.row (omega arith) (omega (arith, b, e)) (ap (λ (d : Pair). d.spec) (sym o) ∙ s)))

    -- and the other way round
    pub lowest-first : T (is_lowest (pair_rows ps) (pair_at ps k)) → first_row (same_spec (pair_at ps k)) 0 (pair_rows ps) ≡ k
    lowest-first t =
        let f = first_row (same_spec (pair_at ps k)) 0 (pair_rows ps) in
        let low : (k < f → ⊥) = λ b. before-first (pair_at ps k) 0 k (omega arith) b refl in
        let high : (f < k → ⊥) = λ b.
        (decides_iff (is_lowest? (pair_rows ps) (pair_at ps k))).0 t (pair_at ps f) (pair_member ps f (omega (arith, b, h))) b (at_first (pair_at ps k) 0 (omega (arith, b, h))) in
        omega (arith, low, high)
