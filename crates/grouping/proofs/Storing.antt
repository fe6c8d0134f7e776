-- The lowest row of each group, stored in one pass from the first row to the last.
use mathlib.Core.Path.{◌≡◌, refl, sym, ap, ◌∙◌}
use mathlib.Core.Bool.{Bool, true, false, cond}
use mathlib.Core.List.{List, [], ◌∷◌, ◌++◌, map, map-append, append-nil}
use mathlib.Core.Logic.{◌≢◌}
use Prim.Native.Nat.{ℕ, ◌+◌, ◌/◌, ◌≤◌, ◌<◌}
use native.Mathlib.Omega.{arith}
use lib.IntN.{ℤ, pos}
use lib.ListN.{length, get_or, set, take, length-map, length-append}
use lib.Seq.{sets, length-sets, take_all, length-take-le}
use Rattle.integers.proofs.Tests.{is_false}
use Rattle.lists.specs.Lists.{keep}
use Rattle.lists.proofs.Kept.{keep_length, keep_append}
use Rattle.model.specs.Limits.{pair_width}
use Rattle.model.specs.Rows.{pair_rows}
use Rattle.model.specs.Compare.{is_lowest, lowest_rows}
use Rattle.tables.specs.Tables.{pair_at}
use Rattle.tables.proofs.Rows.{pairs_length}
use Rattle.depth.proofs.Stores.{sets_more, take_more}
use Rattle.grouping.specs.Links.{count_at}
use Rattle.grouping.specs.Passes.{HeadsFrom, lowest_numbers, links_with}
use Rattle.grouping.proofs.Rows.{row-at, first-lowest, lowest-first}

module _ (pairs : List ℤ) where
  -- the lowest rows of groups among the first k
  abbrev lowest_of : ℕ → List ℕ
  lowest_of k = map (λ p. p.row) (keep (is_lowest (pair_rows pairs)) (take k (pair_rows pairs)))

  -- the state between two turns: rows 0 .. k − 1 are passed
  pub record Storing (old links : List ℕ) (groups k : ℕ) : Type 0 where
    pub within : k ≤ length pairs / pair_width
    pub count : groups ≡ length (lowest_of k)
    pub stored : links ≡ sets old 0 (lowest_of k)

  -- the links keep their length
  pub storing-long : {old links : List ℕ} {groups k : ℕ} → Storing old links groups k → length links ≡ length old
  storing-long {old} {k = k} s = ap length s.stored ∙ length-sets old 0 (lowest_of k)

  -- no more rows are stored than passed
  pub store_few : {old links : List ℕ} {groups k : ℕ} → Storing old links groups k → groups ≤ k
  store_few {k = k} s =
      let front = take k (pair_rows pairs) in
      omega (
        arith,
        s.count,
        length-map (keep (is_lowest (pair_rows pairs)) front) (λ p. p.row),
        keep_length (is_lowest (pair_rows pairs)) front,
        length-take-le k (pair_rows pairs) (omega (arith, s.within, pairs_length pairs)),
      )

  -- before the first turn
  pub store_start : (old : List ℕ) → Storing old old 0 0
  unfolding keep
  store_start old = record { within = omega arith; count = refl; stored = refl }

  module _ {old links : List ℕ} {groups k : ℕ} (s : Storing old links groups k) (h : k < length pairs / pair_width) where
    -- those with one row more, by the test of it
    lowest-more : (t : Bool) → is_lowest (pair_rows pairs) (pair_at pairs k) ≡ t → lowest_of (k + 1) ≡ cond t (lowest_of k ++ (k ∷ [])) (lowest_of k)
    unfolding keep
    lowest-more t e =
        let rows = pair_rows pairs in
        let ok = is_lowest rows in
        let p = pair_at pairs k in
        ap (λ l. map (λ r. r.row) (keep ok l)) (take_more rows k p (omega (arith, h, pairs_length pairs)) ∙ ap (λ r. take k rows ++ (r ∷ [])) (row-at pairs k h p))
        ∙ ap (map (λ r. r.row)) (keep_append ok (take k rows) (p ∷ []) ∙ ap (λ b. keep ok (take k rows) ++ cond b (p ∷ []) []) e)
        ∙ map-append (λ r. r.row) (keep ok (take k rows)) (cond t (p ∷ []) [])
        ∙ go t
      where
        go : (b : Bool) → lowest_of k ++ map (λ r. r.row) (cond b (pair_at pairs k ∷ []) []) ≡ cond b (lowest_of k ++ (k ∷ [])) (lowest_of k)
        go true = refl
        go false = append-nil (lowest_of k)

    module _ {head : List ℕ} (heads : HeadsFrom pairs 0 head) (v : ℕ) (q : pos v ≡ (pair_at pairs k).spec) where
      -- a row that is the head of its leaf is stored
      pub store_lowest : get_or head v 0 ≡ k → Storing old (set links groups k) (groups + 1) (k + 1)
      store_lowest e =
          let more = lowest-more true (first-lowest pairs k h (sym (heads.each k v h q) ∙ e)) in
          let place : groups ≡ 0 + length (lowest_of k) = omega (arith, s.count) in
          record {
            within = omega (arith, h);
            count = omega (arith, s.count, ap length more, length-append (lowest_of k) (k ∷ []));
            stored =
                ap (λ l. set l groups k) s.stored
                ∙ ap (λ n. set (sets old 0 (lowest_of k)) n k) place
                ∙ sets_more old 0 (lowest_of k) k
                ∙ ap (sets old 0) (sym more);
          }

      -- any other is passed over
      pub store_over : get_or head v 0 ≢ k → Storing old links groups (k + 1)
      store_over n =
          let same = lowest-more false (is_false (is_lowest (pair_rows pairs) (pair_at pairs k)) (λ t. n (heads.each k v h q ∙ lowest-first pairs k h t))) in
          record { within = omega (arith, h); count = s.count ∙ ap length (sym same); stored = s.stored ∙ ap (sets old 0) (sym same) }

  -- behind the last turn the number of groups is stored
  pub store_end : {old links : List ℕ} {groups k : ℕ} → length pairs / pair_width ≤ k → Storing old links groups k
      → set links count_at groups ≡ links_with (lowest_numbers pairs) old
  unfolding lowest_numbers links_with lowest_rows
  store_end {old} {groups = groups} {k} b s =
      let rows = pair_rows pairs in
      let whole : lowest_of k ≡ lowest_numbers pairs = ap (λ l. map (λ p. p.row) (keep (is_lowest rows) l)) (take_all k rows (omega (arith, b, pairs_length pairs))) in
      ap (λ l. set l count_at groups) s.stored
      ∙ ap (set (sets old 0 (lowest_of k)) count_at) s.count
      ∙ ap (λ l. set (sets old 0 l) count_at (length l)) whole
