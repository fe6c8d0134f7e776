-- The lines of a good sheet: their numbers are in range, each initiator and each block is on a line, and a block has the size of its lines.
use mathlib.Core.Path.{◌≡◌, refl, sym, ap, ◌∙◌}
use mathlib.Core.Bool.{Bool, true, false, cond}
use mathlib.Core.Logic.{◌≢◌, ⊎_elim}
use mathlib.Core.List.Memᴰ
use mathlib.Core.List.{List, [], ◌∷◌, map}
use Prim.Native.Nat.{◌≤◌}
use native.Mathlib.Omega.{arith}
use lib.IntN.{ℤ, pos, ◌+ℤ◌}
use lib.Signed.{◌≤ℤ◌, ◌<ℤ◌}
use lib.ListN.{length}
use Rattle.integers.specs.Integers.{eq_z}
use Rattle.integers.proofs.Linear.{ints, sum}
use Rattle.integers.proofs.Tests.{Test, passed, failed, le?, lt?, eq_z?}
use Rattle.lists.specs.Lists.{◌∈◌}
use Rattle.lists.proofs.Membership.{map_in, map_out}
use Rattle.lists.proofs.Decisions.{test_map, test_stable, decides_and, decides_le}
use Rattle.model.specs.Limits.{sheet_numbers, sheet_bytes}
use Rattle.model.specs.Sheet.{SheetLine, SheetNumber, BadLine, no_initiator, no_block, low_base, low_size, high_end, GoodSheet, initiators, blocks, size_of}
use Rattle.model.proofs.WalkCall.{Ascending, ascending_members, ascending-ordered}
use Rattle.sheetlaws.proofs.Places.{ascending-few}

-- ---- a line

-- the numbers of a line that is not bad
pub record LineBounds (s : SheetLine) : Type 0 where
  pub initiator : SheetNumber s.initiator
  pub block : SheetNumber s.block
  pub base : pos 0 ≤ℤ s.base
  pub size : pos 1 ≤ℤ s.size
  pub end : (s.base +ℤ s.size) ≤ℤ pos sheet_bytes

-- a number that is not out of range is in range
number_stable : (n : ℤ) → ((SheetNumber n → ⊥) → ⊥) → SheetNumber n
number_stable n f =
    let low = decides_le (pos 0) n in
    let high = test_map {Q' = n <ℤ pos sheet_numbers → ⊥} (λ h. h) (λ h k. omega (arith, ints)) (lt? n (pos sheet_numbers)) in
    test_stable (decides_and low high) f

-- a line that is not bad keeps its bounds
pub line_bounds : {s : SheetLine} → (BadLine s → ⊥) → LineBounds s
line_bounds {s} f = record {
  initiator = number_stable s.initiator (λ k. f (no_initiator k));
  block = number_stable s.block (λ k. f (no_block k));
  base = test_stable (le? (pos 0) s.base) (λ k. f (low_base k));
  size = test_stable (le? (pos 1) s.size) (λ k. f (low_size k));
  end = test_stable (le? (s.base +ℤ s.size) (pos sheet_bytes)) (λ k. f (high_end k));
}

-- ---- the numbers on the sheet

module _ (ls : List SheetLine) where
  -- an initiator on the sheet is on a line
  pub initiator-line : {n : ℤ} → n ∈ initiators ls → (s : SheetLine) × (s ∈ ls) × (n ≡ s.initiator)
  unfolding initiators
  initiator-line m = map_out (λ s. s.initiator) ls ((ascending_members (map (λ s. s.initiator) ls)).0 m)

  -- a line's initiator is on the sheet
  pub line-initiator : {s : SheetLine} → s ∈ ls → s.initiator ∈ initiators ls
  unfolding initiators
  line-initiator m = (ascending_members (map (λ s. s.initiator) ls)).1 (map_in (λ (s : SheetLine). s.initiator) m)

  -- a block on the sheet is on a line
  pub block-line : {m : ℤ} → m ∈ blocks ls → (s : SheetLine) × (s ∈ ls) × (m ≡ s.block)
  unfolding blocks
  block-line m = map_out (λ s. s.block) ls ((ascending_members (map (λ s. s.block) ls)).0 m)

  -- a line's block is on the sheet
  pub line-block : {s : SheetLine} → s ∈ ls → s.block ∈ blocks ls
  unfolding blocks
  line-block m = (ascending_members (map (λ s. s.block) ls)).1 (map_in (λ (s : SheetLine). s.block) m)

  -- the initiators are ascending
  pub initiators-ordered : Ascending (initiators ls)
  unfolding initiators
  initiators-ordered = ascending-ordered (map (λ s. s.initiator) ls)

  -- the blocks are ascending
  pub blocks-ordered : Ascending (blocks ls)
  unfolding blocks
  blocks-ordered = ascending-ordered (map (λ s. s.block) ls)

-- where all lines of a block that has some give one size, it is the size of the block
size_same : (ls : List SheetLine) {m z : ℤ} {s : SheetLine} → ((e : SheetLine) → e ∈ ls → e.block ≡ m → e.size ≡ z)
    → s ∈ ls → s.block ≡ m → size_of ls m ≡ z
unfolding size_of
size_same [] each i q = absurd (Memᴰ.not-nil i)
size_same (e ∷ ls) {m} {z} {s} each i q = go (eq_z e.block m) (eq_z? e.block m) (λ j. size_same ls (λ d k. each d (Memᴰ.tail k)) j q)
  where
    go : (t : Bool) → Test (e.block ≡ m) (e.block ≢ m) t → (s ∈ ls → size_of ls m ≡ z) → cond t e.size (size_of ls m) ≡ z
    go true (passed h) rec = each e (Memᴰ.head refl) h
    go false (failed h) rec = ⊎_elim (λ (j : s ≡ e). absurd (h (sym (ap (λ d. d.block) j) ∙ q))) rec (Memᴰ.cases_cons i)

-- an ascending list of numbers that are in range has at most 1,000
numbers-few : {ms : List ℤ} → Ascending ms → ((y : ℤ) → y ∈ ms → SheetNumber y) → length ms ≤ sheet_numbers
numbers-few c within = omega (arith, ascending-few 0 sheet_numbers c within (omega arith))

-- ---- a good sheet

module _ {ls : List SheetLine} (g : GoodSheet ls) where
  -- its lines keep their bounds
  pub good-line : {s : SheetLine} → s ∈ ls → LineBounds s
  good-line {s} m = line_bounds (g.good s m)

  -- the size of a line's block is the line's
  pub good-size : {s : SheetLine} → s ∈ ls → size_of ls s.block ≡ s.size
  good-size {s} m = size_same ls (λ e i q. g.sizes e s i m q) m refl

  -- the size of a block on it lies in 1 .. 2^48
  pub block_size : {m : ℤ} → m ∈ blocks ls → (pos 1 ≤ℤ size_of ls m) × (size_of ls m ≤ℤ pos sheet_bytes)
  block_size i =
      let w = block-line ls i in
      let b = good-line w.1 in
      let s = w.0 in
      let e = ap (size_of ls) w.2 ∙ good-size w.1 in
      (omega (arith, ints, b.size), omega (arith, ints, b.base, b.end, sum s.base s.size))

  -- it has at most 1,000 initiators
  pub initiators-few : length (initiators ls) ≤ sheet_numbers
  initiators-few = numbers-few (initiators-ordered ls) (λ y m. let w = initiator-line ls m in rw w.2 (good-line w.1).initiator)

  -- it has at most 1,000 blocks
  pub blocks-few : length (blocks ls) ≤ sheet_numbers
  blocks-few = numbers-few (blocks-ordered ls) (λ y m. let w = block-line ls m in rw w.2 (good-line w.1).block)
