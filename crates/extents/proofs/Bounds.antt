-- The bits of a node that keeps the limits and the bit offsets of a taken graph are small, and so is every run of a taken graph.
use Rattle.std.proofs.Common.{Ordering, Less, Equal, Greater, is_le, int_cmp}
use Rattle.std.specs.Ordering.{MatchOrdering}
use Rattle.std.specs.Cmp.{int_ranks}
use mathlib.Core.Path.{◌≡◌, refl, sym, ap, ◌∙◌, subst}
use mathlib.Core.Bool.{Bool, true, false, not, cond}
use mathlib.Core.Option.{some}
use Prim.Native.Nat.{◌^◌}
use native.Mathlib.Omega.{arith}
use lib.Dec.{T}
use lib.IntN.{ℤ, pos, ◌+ℤ◌, ◌-ℤ◌}
use lib.Signed.{le_z, ◌≤ℤ◌, ◌<ℤ◌}
use Rattle.integers.proofs.Linear.{ints, sum, diff, neg}
use Rattle.integers.proofs.Tests.{Test, passed, failed, le?, test_of}
use Rattle.lists.specs.Lists.{◌∈◌}
use Rattle.model.specs.Rows.{Node, Edge}
use Rattle.model.specs.Graph.{Graph, node, first_bit, last_bit, bit_offset}
use Rattle.model.specs.Refusals.{BadNode}
use Rattle.model.specs.Quantities.{Movable}
use Rattle.model.specs.Runs.{Run, InRun, Joins, empty, is_open, last_open, whole, across}
use Rattle.model.specs.Walk.{StandsOn}
use Rattle.model.specs.Calls.{stands_on}
use Rattle.model.specs.declared.WalkKind.{WalkKind}
use Rattle.model.specs.Limits.{max_bits}
use Rattle.model.specs.Taken.{Taken}
use Rattle.model.proofs.Taken.{node_bounds, bounds_full, bounds_address, taken-offset}
use Rattle.model.proofs.Steps.{empty_in}
use Rattle.model.proofs.WalkCall.{stands_on?}
use Rattle.tables.proofs.Limits.{first-address, last-address}
use Rattle.runs.specs.Clipping.{living, SmallRun, SmallOffset, SmallExtent}
use Rattle.runs.proofs.Runs.{living-some, shift_clippable, clip-small}
use Rattle.extents.specs.Extents.{SmallAddress, ExtentOf, OpenExtent, bits_of}

-- ---- nodes that keep the limits

module _ (n : Node) (good : BadNode n → ⊥) where
  -- the first and the last bit are small
  pub extent_small : SmallExtent (first_bit n) (last_bit n)
  extent_small = record { low = (first-address good).0; high = omega (arith, ints, (last-address good).1) }

  -- so are those on which a walk of a kind may stand
  pub open_small : (kind : WalkKind) → SmallExtent (first_bit n) (last_open kind n)
  unfolding last_open
  open_small kind = record { low = extent_small.low; high = go (is_open kind n) }
    where
      go : (b : Bool) → cond b (last_bit n) (first_bit n -ℤ pos 1) <ℤ pos (2 ^ 62)
      go true = extent_small.high
      go false = omega (arith, ints, (first-address good).1, diff (first_bit n) (pos 1))

  -- what the code has computed as first and last of them is small
  pub extent_read : {kind : WalkKind} {low high : ℤ} → OpenExtent kind n low high → SmallExtent low high
  extent_read {kind} x = record { low = omega (arith, ints, x.first, (open_small kind).low); high = omega (arith, ints, x.last, (open_small kind).high) }

  -- all bits are a small run
  pub bits_small : SmallRun (bits_of n)
  unfolding bits_of
  bits_small =
      let x = extent_small in
      record {
        root = x.low;
        low = x.low;
        full = bounds_full (node_bounds good);
        high = x.high;
        last = omega (arith, ints, x.high, diff (last_bit n) (first_bit n), sum (first_bit n) (last_bit n -ℤ first_bit n));
      }

  -- a run that has bits, all of them bits of the node, is small where its root bits are bit addresses
  pub within-small : {kind : WalkKind} {r : Run} → r.low ≤ℤ r.high → ((b : ℤ) → InRun r b → StandsOn kind n b) → ((x b : ℤ) → Joins r x b → SmallAddress x) → SmallRun r
  within-small {r} full bits roots =
      let x = extent_small in
      let size = diff r.high r.low in
      let end = r.root +ℤ (r.high -ℤ r.low) in
      let last = sum r.root (r.high -ℤ r.low) in
      let low : InRun r r.low = record { above = omega (arith, ints); below = full } in
      let high : InRun r r.high = record { above = full; below = omega (arith, ints) } in
      let first-root = roots r.root r.low (record { inside = low; level = omega (arith, ints, diff r.root r.root, diff r.low r.low) }) in
      let last-root = roots end r.high (record { inside = high; level = omega (arith, ints, diff end r.root) }) in
      record {
        root = first-root.low;
        low = omega (arith, ints, x.low, (bits r.low low).above);
        full = full;
        high = omega (arith, ints, x.high, (bits r.high high).below);
        last = last-root.high;
      }

  -- a bit address with which a walk may stand on the node is small
  pub stands-small : (kind : WalkKind) (a : ℤ) → T (stands_on kind n a) → SmallAddress a
  stands-small kind a t =
      let s = test_of (stands_on? {kind = kind} n a) t in
      let h = bounds_address {a = a} (node_bounds good) (record { above = s.above; below = s.below }) in
      record { low = h.0; high = omega (arith, ints, h.1) }

  -- the bit before the first is a number of 64 bits
  pub first_previous : {low high : ℤ} → ExtentOf n low high → Movable low (pos 1)
  first_previous x =
      let f = first-address good in
      record {
        low = omega (arith, ints, x.first, f.0);
        high = omega (arith, ints, x.first, f.1);
        offset_low = omega (arith, ints, neg (pos (2 ^ 62)));
        offset_high = omega (arith, ints);
      }

  -- a leaf bit is a number of 64 bits
  pub leaf_movable : {a low high : ℤ} → SmallAddress a → ExtentOf n low high → Movable a low
  leaf_movable s x =
      let f = first-address good in
      record {
        low = s.low;
        high = s.high;
        offset_low = omega (arith, ints, x.first, f.0, neg (pos (2 ^ 62)));
        offset_high = omega (arith, ints, x.first, f.1);
      }

-- ---- the bits on which a walk may stand

-- where the node is open they are all its bits
pub whole_open : (kind : WalkKind) (n : Node) → true ≡ is_open kind n → bits_of n ≡ whole kind n
unfolding bits_of whole last_open
whole_open kind n e = rw (sym e)

-- where it is closed there are none
pub whole-closed : (kind : WalkKind) (n : Node) → false ≡ is_open kind n → T (empty (whole kind n))
unfolding whole last_open
whole-closed kind n e =
    rw (sym e) (empty_in (record { root = first_bit n; low = first_bit n; high = first_bit n -ℤ pos 1 }) (omega (arith, ints, diff (first_bit n) (pos 1))))

-- the first and the last bit are those on which a walk may stand where the node is open
pub extent_open : {kind : WalkKind} {n : Node} {low high : ℤ} → true ≡ is_open kind n → ExtentOf n low high → OpenExtent kind n low high
unfolding last_open
extent_open e x = record { first = x.first; last = rw (sym e) x.last }

-- where it is closed the last is before the first
pub extent_closed : {kind : WalkKind} {n : Node} {low high end : ℤ} → false ≡ is_open kind n → ExtentOf n low high → end ≡ low -ℤ pos 1 → OpenExtent kind n low end
unfolding last_open
extent_closed e x p = record { first = x.first; last = rw (sym e) (p ∙ ap (λ (z : ℤ). z -ℤ pos 1) x.first) }

-- ---- the test whether a walk may stand on a node, from the bits that were computed

-- the order of bit addresses is that of their numbers
pub lowest_test : (a b : ℤ) → is_le (int_cmp a b) ≡ le_z a b
lowest_test a b = go (int_cmp a b) (int_ranks a b) (le_z a b) (le? a b)
  where
    go : (o : Ordering) → MatchOrdering o (a <ℤ b) (a ≡ b) (b <ℤ a) → (t : Bool) → Test (a ≤ℤ b) (b <ℤ a) t → is_le o ≡ t
    go Less h true k = refl
    go Less h false (failed k) = absurd (omega (arith, ints, h, k))
    go Equal h true k = refl
    go Equal h false (failed k) = absurd (omega (arith, ints, h, k))
    go Greater h true (passed k) = absurd (omega (arith, ints, h, k))
    go Greater h false k = refl

-- below the first bit it may not
pub stands-below : {kind : WalkKind} {n : Node} (a : ℤ) {low high : ℤ} → OpenExtent kind n low high → le_z low a ≡ false → false ≡ stands_on kind n a
unfolding stands_on
stands-below a x e = rw (ap (λ (z : ℤ). le_z z a) (sym x.first) ∙ e) refl

-- from the first bit on it may up to the last
pub stands-above : {kind : WalkKind} {n : Node} (a : ℤ) {low high : ℤ} → OpenExtent kind n low high → le_z low a ≡ true → le_z a high ≡ stands_on kind n a
unfolding stands_on
stands-above a x e = rw (ap (λ (z : ℤ). le_z z a) (sym x.first) ∙ e) (ap (le_z a) x.last)

-- ---- edges of a taken graph

module _ {g : Graph} {e : Edge} (taken : Taken g) (edge : e ∈ g.edges) where
  -- the bit offset is small
  pub offset-small : SmallOffset (bit_offset g e)
  offset-small =
      let o = taken-offset taken edge in
      record { low = omega (arith, ints, o.0, neg (pos max_bits), neg (pos (2 ^ 62))); high = omega (arith, ints, o.1) }

  -- what is left of a small run is small
  pub across-small : (kind : WalkKind) {r : Run} → SmallRun r → T (not (empty (across kind g e r))) → SmallRun (across kind g e r)
  unfolding across
  across-small kind s t =
      let n = node g e.to in
      clip-small (first_bit n) (last_open kind n) (shift_clippable s offset-small) (open_small n (taken.good e.to (taken.ends e edge).1) kind) t

  -- and so is what the code says is left
  pub left_small : (kind : WalkKind) {r s : Run} → SmallRun r → some s ≡ living (across kind g e r) → SmallRun s
  left_small kind {r} {s} h p = let w = living-some (across kind g e r) s p in subst SmallRun (sym w.0) (across-small kind h w.1)

-- a small bit address can be moved by a small offset
pub address_movable : {a o : ℤ} → SmallAddress a → SmallOffset o → Movable a o
address_movable s o = record { low = s.low; high = s.high; offset_low = o.low; offset_high = o.high }
