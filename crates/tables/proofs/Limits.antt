-- What the tests on the numbers of a row say, and that the bits of a row within its limits are numbers of 64 bits.
use mathlib.Core.Path.{◌≡◌, sym}
use mathlib.Core.Bool.{Bool, true, false, ◌&&◌}
use mathlib.Core.Logic.{⊎_elim}
use native.Mathlib.Omega.{arith}
use lib.Dec.{ltb}
use lib.IntN.{ℤ, pos, nat_abs, ◌+ℤ◌}
use lib.Signed.{le_z, ◌≤ℤ◌, yes_non_neg, pos-nat_abs}
use lib.ListN.{length}
use Rattle.integers.proofs.Linear.{ints}
use Rattle.integers.proofs.Tests.{test_of, of_test, is_true, is_false, T_true, and_out}
use Rattle.lists.proofs.Decisions.{Decides, test_map, decides_as, decides_le, decides_lt}
use Rattle.model.specs.Limits.{max_units, last_address}
use Rattle.model.specs.Rows.{Node, Edge}
use Rattle.model.specs.Graph.{Graph, NodeRow, first_bit, last_bit}
use Rattle.model.specs.Refusals.{BadNode}
use Rattle.model.specs.Checks.{good_extent, is_row, good_offset, good_edge}
use Rattle.model.proofs.GraphChecks.{GoodExtent, extent?, is_row?}
use Rattle.model.proofs.Taken.{node_bounds, bounds_full, bounds_address}

-- ---- tests that decide

-- a test that decides what holds passes
pub decides_true : {P : Type 0} {t : Bool} → Decides P t → P → true ≡ t
decides_true {t} d p = sym (is_true t (of_test d (λ n. n p)))

-- a test that decides what does not hold fails
pub decides_false : {P : Type 0} {t : Bool} → Decides P t → (P → ⊥) → false ≡ t
decides_false {t} d n = sym (is_false t (λ h. n (test_of d h)))

-- two tests that decide the same are the same
pub decides_same : {P : Type 0} {a b : Bool} → Decides P a → Decides P b → a ≡ b
decides_same {a = true} d e = decides_true e (test_of d tt)
decides_same {a = false} d e = decides_false e (λ p. of_test d (λ n. n p))

-- ---- tests on the numbers of a row

-- the test on base and range decides whether they keep their limits
pub extent_decides : (n : Node) → Decides (GoodExtent n) (good_extent n)
extent_decides n =
    test_map (λ h. h) (⊎_elim (⊎_elim (λ h k. omega (arith, ints, h, k.0.0)) (λ h k. omega (arith, ints, h, k.0.1))) (λ h k. omega (arith, ints, h, k.1)))
    (extent? n)

-- where neither is too low, base and range keep their limits exactly where their sum does
pub extent_end : (n : Node) (end : ℤ) → pos 0 ≤ℤ n.base → pos 1 ≤ℤ n.range → end ≡ n.base +ℤ n.range → le_z end (pos max_units) ≡ good_extent n
extent_end n end low some e =
    decides_same
    (decides_as (λ h. ((low, some), omega (arith, ints, e, h)), λ h. omega (arith, ints, e, h.1)) (decides_le end (pos max_units)))
    (extent_decides n)

-- a number that is not negative is a row exactly where it is below the number of rows
pub row_below : (g : Graph) (v : ℤ) → pos 0 ≤ℤ v → ltb (nat_abs v) (length g.nodes) ≡ is_row g v
row_below g v low =
    let e = pos-nat_abs v (yes_non_neg low) in
    let below = decides_lt (nat_abs v) (length g.nodes) in
    decides_same (decides_as (λ h. record { low = low; high = omega (arith, ints, e) }, λ r. omega (arith, ints, e, r.high)) below) (is_row? g v)

-- an edge within its limits leaves a node row
pub edge_from-row : (g : Graph) (e : Edge) → good_edge g e ≡ true → NodeRow g e.from
unfolding good_edge
edge_from-row g e h =
    let from = is_row g e.from in
    let to = is_row g e.to in
    let ends = (and_out (from && to) (good_offset g e) (T_true (from && to && good_offset g e) h)).0 in
    test_of (is_row? g e.from) (and_out from to ends).0

-- ---- bits

-- the numbers of a node row within its limits
module _ {n : Node} (good : BadNode n → ⊥) where
  -- the first bit is a bit address
  pub first-address : (pos 0 ≤ℤ first_bit n) × (first_bit n ≤ℤ last_address)
  first-address =
      let b = node_bounds good in
      bounds_address b (record { above = omega (arith, ints); below = bounds_full b })

  -- the last bit is a bit address
  pub last-address : (pos 0 ≤ℤ last_bit n) × (last_bit n ≤ℤ last_address)
  last-address =
      let b = node_bounds good in
      bounds_address b (record { above = bounds_full b; below = omega (arith, ints) })
