-- What it is to be the bitmapping list of a root and a leaf, said by the reached set alone. Assumes nothing.
use Rattle.std.specs.Prelude.{◌≡◌, List, [], ◌∷◌, ℤ, pos, ◌+ℤ◌, ◌-ℤ◌, ◌≤ℤ◌, ◌<ℤ◌}
use Rattle.lists.specs.Lists.{◌∈◌}
use Rattle.model.specs.declared.WalkKind.{WalkKind}
use Rattle.model.specs.Graph.{Graph}
use Rattle.model.specs.Walk.{Reached}

-- a record: root bits first .. last reach leaf bits that stand `displacement` below them. Displacement = root bit − leaf bit
-- (000, 2.23: first = lb, last = ub − 1, displacement = lb − bd)
pub record Record : Type 0 where
  pub first : ℤ
  pub last : ℤ
  pub displacement : ℤ

-- the record has root bit x with leaf bit y
pub record Has (s : Record) (x y : ℤ) : Type 0 where
  pub above : s.first ≤ℤ x
  pub below : x ≤ℤ s.last
  pub apart : x -ℤ y ≡ s.displacement

-- order of records: by first, then displacement
pub record Before (r s : Record) : Type 0 where
  pub first : r.first ≤ℤ s.first
  pub then : s.first ≡ r.first → r.displacement <ℤ s.displacement

-- each record stands before all that follow it
pub data Ordered : List Record → Type 0 where
  none : Ordered []
  more : {r : Record} {l : List Record} → ((s : Record) → s ∈ l → Before r s) → Ordered l → Ordered (r ∷ l)

-- the list of a set of (root bit, leaf bit): for each displacement the maximal runs of root bits, in order (000, 3.4.3.2)
pub record IsListOf (Set : ℤ → ℤ → Type 0) (l : List Record) : Type 0 where
  -- no record is empty
  pub full : (s : Record) → s ∈ l → s.first ≤ℤ s.last
  -- what a record has is in the set
  pub sound : (s : Record) → s ∈ l → (x y : ℤ) → Has s x y → Set x y
  -- what is in the set, some record has
  pub complete : (x y : ℤ) → Set x y → (s : Record) × (s ∈ l) × Has s x y
  -- the run goes on neither below nor above
  pub maximal : (s : Record) → s ∈ l → (y : ℤ)
      → ((s.first -ℤ pos 1) -ℤ y ≡ s.displacement → Set (s.first -ℤ pos 1) y → ⊥) × ((s.last +ℤ pos 1) -ℤ y ≡ s.displacement → Set (s.last +ℤ pos 1) y → ⊥)
  pub ordered : Ordered l

-- the bitmapping list of root r and leaf l, for walks of this kind
abbrev pub IsBitmappingList : WalkKind → Graph → ℤ → ℤ → List Record → Type 0
IsBitmappingList kind g r l = IsListOf (Reached kind g r l)
