-- The checks of a row by the tests on it.
use mathlib.Core.Path.{◌≡◌}
use mathlib.Core.Bool.{Bool, true, false, ◌&&◌}
use mathlib.Core.List.{List}
use Prim.Native.Nat.{ℕ}
use lib.IntN.{ℤ}
use Rattle.lists.specs.Lists.{any}
use Rattle.model.specs.Rows.{Pair}
use Rattle.model.specs.Checks.{when, ◌then◌, clashes, check_pair}
use Rattle.model.specs.Calls.{refused, answer}
use Rattle.model.specs.Answers.{numbered}
use Rattle.tables.proofs.Checks.{checked}
use Rattle.pairing.specs.Pairs.{check_at}

-- ---- the checks of a row

module _ (t : ℕ) (spec impl : ℤ → Bool) (most : ℤ) (same : Pair → Pair → Bool) (rows : List Pair) (p : Pair) where
  -- a row with a node that fails its test is refused
  pub pair_refused : spec p.spec && impl p.impl ≡ false → refused (numbered 7 t p.row) ≡ checked (check_pair t spec impl most same rows p)
  unfolding answer when ◌then◌ check_pair
  pair_refused e = rw e

  -- a row whose nodes pass is checked for `at`, then for earlier rows
  pub pair_classed : spec p.spec && impl p.impl ≡ true
      → check_pair t spec impl most same rows p ≡ check_at t most p then when (any (clashes same p) rows) 8 t p.row
  unfolding when ◌then◌ check_pair
  pair_classed e = rw e
