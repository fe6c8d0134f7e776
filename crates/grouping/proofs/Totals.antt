-- Counts summed over the banks of a group, one bank after the other.
use mathlib.Core.Path.{◌≡◌, refl, ap, ◌∙◌}
use mathlib.Core.List.{List, [], ◌∷◌, ◌++◌}
use Prim.Native.Nat.{ℕ, ◌+◌, ◌*◌, ◌/◌, ◌≤◌, ◌<◌}
use native.Mathlib.Omega.{arith}
use lib.IntN.{ℤ, pos}
use lib.ListN.{length, get_or}
use Rattle.model.specs.Limits.{pair_width, max_paths}
use Rattle.model.specs.Rows.{Pair, pair_rows}
use Rattle.model.specs.Compare.{group}
use Rattle.tables.specs.Tables.{pair_at}
use Rattle.tables.proofs.Rows.{pair_member}
use Rattle.depth.specs.Passes.{Within}
use Rattle.reach.specs.Links.{count_at}
use Rattle.grouping.specs.Links.{next_row, Passing}
use Rattle.grouping.specs.Totals.{bank_total, Summable}
use Rattle.grouping.proofs.Passing.{next_later, pass_next, pass_end}

-- with one more row its count is added
total-more : (counts : List ℕ) (ps : List Pair) (p : Pair) → bank_total counts (ps ++ (p ∷ [])) ≡ bank_total counts ps + count_at counts p.impl
unfolding bank_total
total-more counts [] p = omega arith
total-more counts (q ∷ ps) p = omega (arith, total-more counts ps p)

-- between two turns: of the group of a row some rows are passed, `row` is the next, and the sum is that of their counts
pub record Summed (pairs : List ℤ) (counts : List ℕ) (lowest total row : ℕ) : Type 0 where
  pub done : List Pair
  pub passing : Passing pairs (pair_at pairs lowest) done row
  pub sum : total ≡ bank_total counts done
  pub small : total ≤ (max_paths + 1) * row

-- before the first turn
pub sum_start : {pairs : List ℤ} {counts : List ℕ} {lowest : ℕ} → Passing pairs (pair_at pairs lowest) [] lowest → Summed pairs counts lowest 0 lowest
unfolding bank_total
sum_start p = record { done = []; passing = p; sum = refl; small = omega arith }

module _ {pairs : List ℤ} {links counts : List ℕ} (k : Summable pairs links counts) {lowest total row : ℕ} (s : Summed pairs counts lowest total row) where
  module _ (h : row < length pairs / pair_width) where
    -- the implementation leaf of the row has a count
    pub sum_within : Within (length counts) (pair_at pairs row).impl
    sum_within = k.within (pair_at pairs row) (pair_member pairs row h)

    module _ {leaf : ℕ} (is : pos leaf ≡ (pair_at pairs row).impl) where
      -- which is stopped one past the limit
      count-is : get_or counts leaf 0 ≡ count_at counts (pair_at pairs row).impl
      unfolding count_at
      count-is = ap (count_at counts) is

      pub count-stopped : get_or counts leaf 0 ≤ max_paths + 1
      count-stopped = omega (arith, count-is, k.stopped (pair_at pairs row) (pair_member pairs row h))

      -- it is added
      pub sum_next : Summed pairs counts lowest (total + get_or counts leaf 0) (next_row links row)
      sum_next =
          record {
            done = s.done ++ (pair_at pairs row ∷ []);
            passing = pass_next k.linked s.passing h;
            sum = omega (arith, s.sum, count-is, total-more counts s.done (pair_at pairs row));
            small = omega (arith, s.small, count-stopped, (next_later k.linked row h).0);
          }

  -- behind the last row the sum is that of the group
  pub sum_end : length pairs / pair_width ≤ row → total ≡ bank_total counts (group (pair_rows pairs) (pair_at pairs lowest))
  sum_end h = s.sum ∙ ap (bank_total counts) (pass_end s.passing h)
