-- A record of a list of small records is small.
use Prim.Native.Nat.{ℕ, ◌<◌}
use mathlib.Core.List.{List}
use lib.IntN.{ℤ}
use Rattle.normalisation.specs.Records.{record_at}
use Rattle.normalisation.proofs.Records.{record_at_in}
use Rattle.verdicts.specs.Records.{SmallRootBits, SmallList}

pub small_at : {t : List ℤ} {n : ℕ} → SmallList t n → (i : ℕ) → i < n → SmallRootBits (record_at t i)
small_at {t} {n} h i k = h.small (record_at t i) (record_at_in t i n k)
