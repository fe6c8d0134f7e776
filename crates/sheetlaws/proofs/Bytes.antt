-- Bits of bytes: the bits of a node of base 0 and unit 8, and the bits that a line of a sheet joins.
use mathlib.Core.Path.{◌≡◌, refl}
use mathlib.Core.Logic.{◌↔◌, ⊎_elim}
use mathlib.Core.List.{List}
use Prim.Native.Nat.{ℕ, ◌/◌, ◌%◌}
use native.Mathlib.Omega.{arith}
use lib.IntN.{ℤ, pos, ◌+ℤ◌, ◌-ℤ◌, ◌*ℤ◌}
use lib.Signed.{◌≤ℤ◌, ◌<ℤ◌}
use Rattle.integers.proofs.Linear.{plus, minus, ints, sum, diff, one_sided}
use Rattle.integers.proofs.Products.{times}
use Rattle.lists.specs.Lists.{◌∈◌}
use Rattle.model.specs.declared.WalkKind.{WalkKind}
use Rattle.model.specs.Limits.{sheet_bytes, byte_bits}
use Rattle.model.specs.Graph.{first_bit, last_bit}
use Rattle.model.specs.Walk.{StandsOn}
use Rattle.model.specs.Sheet.{SheetLine, Given}
use Rattle.model.proofs.Walks.{access_open}
use Rattle.sheetlaws.proofs.Lines.{LineBounds}
use Rattle.sheetlaws.proofs.Graph.{node_of}

-- ---- the bits of a node

-- a is a bit of so many bytes, counted from 0
abbrev pub BitWithin : ℤ → ℤ → Type 0
BitWithin bytes a = (pos 0 ≤ℤ a) × (a <ℤ (bytes *ℤ pos byte_bits))

-- a walk of either kind may stand on a node of base 0 and unit 8 with the bits of its bytes
pub byte_node-stands : (kind : WalkKind) (nodeKind range : ℤ) (row : ℕ) (a : ℤ) → StandsOn kind (node_of nodeKind range row) a ↔ BitWithin range a
unfolding first_bit last_bit
byte_node-stands kind nodeKind range row a =
    let end = sum (pos 0) range in
    let bits = times (pos 0 +ℤ range) (pos byte_bits) refl in
    let last = diff ((pos 0 +ℤ range) *ℤ pos byte_bits) (pos 1) in
    let all = times range (pos byte_bits) refl in (
      λ s. omega (arith, ints, s.above, s.below),
      λ s. record { access = access_open kind refl; above = omega (arith, ints, s.0, s.1); below = omega (arith, ints, s.0, s.1) },
    )

-- ---- the bits of a line

-- the line joins root bit x to leaf bit y: y is a bit of its size, and x lies above y by its base in bits
pub record LineJoins (s : SheetLine) (x y : ℤ) : Type 0 where
  pub inside : BitWithin s.size y
  pub moved : y ≡ x -ℤ s.base *ℤ pos byte_bits

-- the line that gives two bits joins them
pub given_joins : {ls : List SheetLine} {n m x y : ℤ} (h : Given ls n m x y) → LineJoins h.line x y
given_joins {x} h =
    let base = h.line.base in
    let size = times h.line.size (pos byte_bits) refl in
    let low = times base (pos byte_bits) refl in
    let byte = sum base (pos h.i) in
    let first = times (base +ℤ pos h.i) (pos byte_bits) refl in
    let bit = sum ((base +ℤ pos h.i) *ℤ pos byte_bits) (pos h.c) in
    let less = diff x (base *ℤ pos byte_bits) in
    record { inside = omega (arith, ints, h.within, h.below, h.leaf_bit); moved = omega (arith, ints, h.root_bit, h.leaf_bit) }

-- two bits that a line joins it gives: y is bit y % 8 of byte y / 8
pub joins_given : {ls : List SheetLine} {s : SheetLine} {n m x y : ℤ} → s ∈ ls → s.initiator ≡ n → s.block ≡ m → LineJoins s x y → Given ls n m x y
joins_given {s} {x} {y} on initiator block j =
    let byte = plus y / byte_bits in
    let bit = plus y % byte_bits in
    let sign : minus y ≡ 0 = ⊎_elim (λ e. omega (arith, ints, j.inside)) (λ e. e) (one_sided y) in
    record {
      line = s;
      on_sheet = on;
      initiator = initiator;
      block = block;
      i = byte;
      within = omega (arith, ints, j.inside, times s.size (pos byte_bits) refl);
      c = bit;
      below = omega arith;
      root_bit = omega (
        arith,
        ints,
        j.moved,
        times s.base (pos byte_bits) refl,
        times (s.base +ℤ pos byte) (pos byte_bits) refl,
        sum s.base (pos byte),
        sum ((s.base +ℤ pos byte) *ℤ pos byte_bits) (pos bit),
        diff x (s.base *ℤ pos byte_bits),
      );
      leaf_bit = omega (arith, ints);
    }

-- a root bit that a line within its bounds joins is a bit of the initiator's space
pub joins-root : {s : SheetLine} {x y : ℤ} → LineBounds s → LineJoins s x y → BitWithin (pos sheet_bytes) x
joins-root {s} {x} b j =
    omega (
      arith,
      ints,
      b.base,
      b.end,
      j.inside,
      j.moved,
      times s.size (pos byte_bits) refl,
      times s.base (pos byte_bits) refl,
      sum s.base s.size,
      diff x (s.base *ℤ pos byte_bits),
    )
