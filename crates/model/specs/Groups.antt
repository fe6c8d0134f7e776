-- Several leaves for one: a group of banks, whose reached sets join. Assumes nothing.
use Rattle.std.specs.Prelude.{◌≡◌, ℕ, ℤ, ◌+ℤ◌, ◌-ℤ◌, length}
use mathlib.Core.List.{List, map, flat_map}
use Rattle.lists.specs.Lists.{◌∈◌}
use Rattle.model.specs.declared.WalkKind.{WalkKind}
use Rattle.model.specs.Graph.{Graph, node}
use Rattle.model.specs.Walk.{Reached}
use Rattle.model.specs.Bitmapping.{Record}
use Rattle.model.specs.Runs.{paths, runs, record_of, normal}

-- a bank: a leaf, and the specification leaf bit where it begins: its leaf bit 0 is leaf bit `at` of the specification leaf
pub record Bank : Type 0 where
  pub leaf : ℤ
  pub at : ℤ

-- root bit x reaches specification leaf bit y in this bank, by a walk of this kind: the walk adds `at` to the bank's leaf bit
pub record BankReached (kind : WalkKind) (g : Graph) (r : ℤ) (b : Bank) (x y : ℤ) : Type 0 where
  pub bit : ℤ
  pub reached : Reached kind g r b.leaf x bit
  pub raised : y ≡ bit +ℤ b.at

-- root bit x reaches specification leaf bit y in one of these banks: the banks' reached sets join
abbrev pub GroupReached : WalkKind → Graph → ℤ → List Bank → ℤ → ℤ → Type 0
GroupReached kind g r bs x y = (b : Bank) × (b ∈ bs) × BankReached kind g r b x y

-- the leaves of banks
abbrev pub leaves_of : List Bank → List ℤ
leaves_of bs = map (λ b. b.leaf) bs

-- ---- the list of a group, computed

-- the record with its leaf bits so much higher
unfoldable pub raised_by : ℤ → Record → Record
raised_by at s = record { first = s.first; last = s.last; displacement = s.displacement -ℤ at }

-- the records of the runs to one bank
unfoldable pub bank_records : WalkKind → Graph → ℤ → Bank → List Record
bank_records kind g r b = map (raised_by b.at) (map (record_of (node g b.leaf)) (runs kind g r b.leaf))

-- the list of a group: the records of its banks are normalised together
unfoldable pub group_list : WalkKind → Graph → ℤ → List Bank → List Record
group_list kind g r bs = normal (flat_map (bank_records kind g r) bs)

-- how many paths lead from a root to the banks of a group, together
unfoldable pub group_paths : Graph → ℤ → List Bank → ℕ
group_paths g r bs = length (flat_map (paths g r) (leaves_of bs))
