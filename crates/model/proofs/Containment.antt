-- Each record of a list is contained in one record of the list of a set exactly where the set has all that the list has.
use mathlib.Core.Path.{◌≡◌}
use mathlib.Core.Bool.{Bool, true, false}
use mathlib.Core.List.{List}
use mathlib.Core.Logic.{◌↔◌}
use native.Mathlib.Omega.{arith}
use lib.IntN.{ℤ, pos, ◌+ℤ◌, ◌-ℤ◌}
use lib.Signed.{le_z, ◌≤ℤ◌, ◌<ℤ◌}
use Rattle.integers.proofs.Linear.{ints, sum}
use Rattle.integers.proofs.Tests.{Test, passed, failed, le?}
use Rattle.lists.specs.Lists.{◌∈◌}
use Rattle.model.specs.Bitmapping.{Record, Has, IsListOf}
use Rattle.model.specs.Verdicts.{Contained}
use Rattle.model.proofs.Records.{displacement_of, has_at, within_has}
use Rattle.model.proofs.Lowest.{HasSome}
use Rattle.model.proofs.Verdicts.{contained-is}

module _ {Set : ℤ → ℤ → Type 0} {spec impl : List Record} (l : IsListOf Set spec) (full : (r : Record) → r ∈ impl → r.first ≤ℤ r.last) where
  -- a record that begins in a record of the list, at its displacement, and all of whose bits the list has, ends in that record: its run goes on
  -- no further
  ends-inside : (r s : Record) → r ∈ impl → s ∈ spec → Has s r.first (r.first -ℤ r.displacement)
      → ((x y : ℤ) → HasSome impl x y → HasSome spec x y) → r.last ≤ℤ s.last
  ends-inside r s m n h within = go (le_z r.last s.last) (le? r.last s.last)
    where
      next : ℤ
      next = s.last +ℤ pos 1

      leaf : ℤ
      leaf = next -ℤ r.displacement

      go : (b : Bool) → Test (r.last ≤ℤ s.last) (s.last <ℤ r.last) b → r.last ≤ℤ s.last
      go true (passed k) = k
      go false (failed k) =
          let there : Has r next leaf = has_at r next (omega (arith, ints, h.below, sum s.last (pos 1))) (omega (arith, ints, k, sum s.last (pos 1))) in
          let (t, i, has) = within next leaf (r, m, there) in
          let apart : next -ℤ leaf ≡ s.displacement = omega (arith, ints, h.apart, displacement_of r.first r.displacement, displacement_of next r.displacement) in
          absurd ((l.maximal s n leaf).1 apart (l.sound t i next leaf has))

  -- each record is contained in one record of the list exactly where the list has all that they have
  pub contained-within : ((r : Record) → r ∈ impl → (s : Record) × (s ∈ spec) × Contained r s) ↔ ((x y : ℤ) → HasSome impl x y → HasSome spec x y)
  contained-within = (
    λ each x y (r, m, h). let (s, n, c) = each r m in (s, n, within_has ((contained-is r s).0 c) h),
    λ within r m.
        let first : Has r r.first (r.first -ℤ r.displacement) = has_at r r.first (omega (arith, ints)) (full r m) in
        let (s, n, h) = within r.first (r.first -ℤ r.displacement) (r, m, first) in
        let same : r.displacement ≡ s.displacement = omega (arith, ints, h.apart, displacement_of r.first r.displacement) in
        (s, n, (contained-is r s).1 (record { same = same; first = h.above; last = ends-inside r s m n h within })),
  )
