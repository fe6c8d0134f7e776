-- Records as the code holds them, and what is asked of them where the lowest differing address is found. Assumes nothing.
use Rattle.std.specs.Prelude.{List, ℕ, ℤ, pos, ◌≤ℤ◌, ◌<ℤ◌}
use Rattle.lists.specs.Lists.{◌∈◌}
use Rattle.model.specs.Limits.{address_room}
use Rattle.model.specs.Bitmapping.{Record}
use Rattle.normalisation.specs.Records.{records_of, NormalList}
use Rattle.verdicts.specs.declared.Record as code

-- the record that the code holds
abbrev pub as_record : code.Record → Record
as_record r = record { first = r.first; last = r.last; displacement = r.displacement }

-- the record has a bit, and its root bits lie in 0 .. 2^62 − 1: one more than its last bit is a number of 64 bits
pub record SmallRootBits (r : Record) : Type 0 where
  pub low : pos 0 ≤ℤ r.first
  pub full : r.first ≤ℤ r.last
  pub high : r.last <ℤ pos address_room

-- every record of the list has a bit, and its root bits lie in 0 .. 2^62 − 1
abbrev pub AllSmallRootBits : List Record → Type 0
AllSmallRootBits l = (r : Record) → r ∈ l → SmallRootBits r

-- n records with small root bits stand in the front of the flat list t, and they are a normal list
pub record SmallList (t : List ℤ) (n : ℕ) : Type 0 where
  pub list : NormalList t n
  pub small : AllSmallRootBits (records_of t n)
