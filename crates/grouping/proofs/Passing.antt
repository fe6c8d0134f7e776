-- Going through the groups of linked leaf pairs, and through the rows of one of them.
use mathlib.Core.Path.{◌≡◌, refl, sym, ap, subst, ◌∙◌}
use mathlib.Core.Bool.{Bool, true, false, cond}
use mathlib.Core.List.{List, [], ◌∷◌, ◌++◌}
use mathlib.Core.Logic.{◌⊎◌, inl, inr, ⊎_elim}
use Prim.Native.Nat.{ℕ, zero, suc, ◌*◌, ◌/◌, ◌≤◌, ◌<◌}
use native.Mathlib.Omega.{arith}
use lib.Dec.{ltb}
use lib.IntN.{ℤ}
use lib.ListN.{length, get_or, take, drop, length-map}
use lib.Seq.{drop-cons, take-suc, take_all, get_or-take}
use Rattle.integers.proofs.Tests.{Test, passed, failed, ltb?, is_true}
use Rattle.lists.specs.Lists.{◌∈◌, keep}
use Rattle.lists.proofs.Decisions.{decides_iff}
use Rattle.lists.proofs.Kept.{keep_length, keep_append}
use Rattle.lists.proofs.Membership.{keep_out}
use Rattle.lists.proofs.Places.{get_d_in, map_at}
use Rattle.model.specs.Limits.{pair_width, max_pairs}
use Rattle.model.specs.Rows.{Pair, pair_rows}
use Rattle.model.specs.Compare.{same_spec, group, is_lowest, lowest_rows}
use Rattle.tables.specs.Tables.{pair_at}
use Rattle.tables.proofs.Rows.{pairs_length, pair_own}
use Rattle.reach.specs.Links.{first_row}
use Rattle.reach.proofs.FirstRow.{first_row-within, first_row-from}
use Rattle.grouping.specs.Links.{group_count, group_row, next_row, Linked, Passing}
use Rattle.grouping.proofs.Rows.{row-at, same_spec?, same_spec-same, at_first, lowest-first}

-- ---- what is kept before the first place that passes a test

-- it is what is kept before the place from which it was sought
kept-before : {A : Type 0} (ok : A → Bool) (i : ℕ) (l : List A) → keep ok (take (first_row ok i l) l) ≡ keep ok (take i l)
unfolding first_row keep
kept-before ok zero [] = refl
kept-before ok (suc i) [] = refl
kept-before ok zero (x ∷ l) = go (ok x) refl (kept-before ok zero l)
  where
    go : (t : Bool) → ok x ≡ t → keep ok (take (first_row ok zero l) l) ≡ [] → keep ok (take (cond t 0 (suc (first_row ok zero l))) (x ∷ l)) ≡ []
    go true e rec = refl
    go false e rec = rw e rec
kept-before ok (suc i) (x ∷ l) = ap (λ m. cond (ok x) (x ∷ m) m) (kept-before ok i l)

-- of a row with the leaf, that row is kept
keep-own : (l p : Pair) → p.spec ≡ l.spec → keep (same_spec l) (p ∷ []) ≡ p ∷ []
unfolding keep
keep-own l p e = rw (is_true (same_spec l p) ((decides_iff (same_spec? l p)).1 e))

module _ {pairs : List ℤ} {links : List ℕ} (linked : Linked pairs links) where
  -- ---- the groups

  -- there are no more groups than leaf rows
  pub groups-rows : group_count links ≤ length pairs / pair_width
  unfolding lowest_rows
  groups-rows = omega (arith, linked.count, keep_length (is_lowest (pair_rows pairs)) (pair_rows pairs), pairs_length pairs)

  -- so no more than the limit of leaf rows
  pub groups-few : length pairs ≤ pair_width * max_pairs → group_count links ≤ max_pairs
  groups-few few = omega (arith, groups-rows, few)

  module _ (k : ℕ) (h : k < group_count links) where
    -- the row of group k stands at place k of those that lead
    group_at : get_or (lowest_rows (pair_rows pairs)) k (pair_at pairs (group_row links k)) ≡ pair_at pairs (group_row links k)
    group_at =
        let front = take (group_count links) links in
        let l = pair_at pairs (group_row links k) in
        ap (λ rows. get_or rows k l) (sym linked.rows)
        ∙ map_at (pair_at pairs) front k l 0 (omega (arith, h, linked.count, ap length linked.rows, length-map front (pair_at pairs)))
        ∙ ap (pair_at pairs) (get_or-take (group_count links) links k 0 h)

    -- so it is one of them
    pub group_member : pair_at pairs (group_row links k) ∈ lowest_rows (pair_rows pairs)
    group_member =
        let l = pair_at pairs (group_row links k) in
        subst (λ p. p ∈ lowest_rows (pair_rows pairs)) group_at (get_d_in (lowest_rows (pair_rows pairs)) k l (omega (arith, h, linked.count)))

    -- so it is a leaf row
    pub group-there : group_row links k < length pairs / pair_width
    unfolding lowest_rows
    group-there = (pair_own pairs (keep_out (is_lowest (pair_rows pairs)) (pair_rows pairs) group_member).0).0

    -- it is the first of the groups from group k on
    pub group-next : drop k (lowest_rows (pair_rows pairs)) ≡ pair_at pairs (group_row links k) ∷ drop (suc k) (lowest_rows (pair_rows pairs))
    group-next =
        let rows = lowest_rows (pair_rows pairs) in
        let l = pair_at pairs (group_row links k) in
        drop-cons rows k l (omega (arith, h, linked.count)) ∙ ap (λ p. p ∷ drop (suc k) rows) group_at

    -- ---- the rows of a group

    -- at its lowest row nothing of the group is done
    pub pass_start : Passing pairs (pair_at pairs (group_row links k)) [] (group_row links k)
    unfolding lowest_rows keep
    pass_start =
        let r = group_row links k in
        let ok = same_spec (pair_at pairs r) in
        let first = lowest-first pairs r group-there (keep_out (is_lowest (pair_rows pairs)) (pair_rows pairs) group_member).1 in
        record {
          before = sym (ap (λ n. keep ok (take n (pair_rows pairs))) (sym first) ∙ kept-before ok 0 (pair_rows pairs));
          next = inr (group-there, refl);
        }

  -- the row behind a leaf row is a later one, or the number of leaf rows
  pub next_later : (j : ℕ) → j < length pairs / pair_width → (j < next_row links j) × (next_row links j ≤ length pairs / pair_width)
  next_later j h =
      let ok = same_spec (pair_at pairs j) in
      let size = pairs_length pairs in (
        omega (arith, linked.nexts j h, first_row-from ok (suc j) (pair_rows pairs) (omega (arith, h, size))),
        omega (arith, linked.nexts j h, first_row-within ok (suc j) (pair_rows pairs), size),
      )

  -- one row more
  pub pass_next : {l : Pair} {done : List Pair} {j : ℕ} → Passing pairs l done j → j < length pairs / pair_width
      → Passing pairs l (done ++ (pair_at pairs j ∷ [])) (next_row links j)
  pass_next {l} {done} {j} p h =
      let rows = pair_rows pairs in
      let ok = same_spec l in
      let e : (pair_at pairs j).spec ≡ l.spec = ⊎_elim (λ k. absurd (omega (arith, k, h))) (λ k. k.1) p.next in
      let first : next_row links j ≡ first_row ok (suc j) rows =
      linked.nexts j h ∙ ap (λ t. first_row t (suc j) rows) (same_spec-same (pair_at pairs j) l e) in
      record {
        before =
            sym
            (ap (λ n. keep ok (take n rows)) first
            ∙ kept-before ok (suc j) rows
            ∙ ap (keep ok) (take-suc rows j l (omega (arith, h, pairs_length pairs)))
            ∙ keep_append ok (take j rows) (get_or rows j l ∷ [])
            ∙ ap (λ r. keep ok (take j rows) ++ keep ok (r ∷ [])) (row-at pairs j h l)
            ∙ ap (λ m. keep ok (take j rows) ++ m) (keep-own l (pair_at pairs j) e)
            ∙ ap (λ m. m ++ (pair_at pairs j ∷ [])) (sym p.before));
        next = stands (next_row links j) first;
      }
    where
      -- a row with the leaf, or none
      stands : (n : ℕ) → n ≡ first_row (same_spec l) (suc j) (pair_rows pairs) → (n ≡ length pairs / pair_width) ⊎ ((n < length pairs / pair_width) × ((pair_at pairs n).spec ≡ l.spec))
      stands n q = go (ltb n (length pairs / pair_width)) (ltb? n (length pairs / pair_width))
        where
          go : (t : Bool) → Test (n < length pairs / pair_width) (length pairs / pair_width ≤ n) t
              → (n ≡ length pairs / pair_width) ⊎ ((n < length pairs / pair_width) × ((pair_at pairs n).spec ≡ l.spec))
          go true (passed b) = inr (b, ap (λ i. (pair_at pairs i).spec) q ∙ at_first pairs l (suc j) (omega (arith, b, q)))
          go false (failed b) = inl (omega (arith, b, q, first_row-within (same_spec l) (suc j) (pair_rows pairs), pairs_length pairs))

-- behind the last row the whole group is done
pub pass_end : {pairs : List ℤ} {l : Pair} {done : List Pair} {j : ℕ} → Passing pairs l done j → length pairs / pair_width ≤ j → done ≡ group (pair_rows pairs) l
unfolding group
pass_end {pairs} {l} {j = j} p h = p.before ∙ ap (keep (same_spec l)) (take_all j (pair_rows pairs) (omega (arith, h, pairs_length pairs)))
