-- Runs as the code holds them; what shift and clip leave of one, bit by bit; and what is asked of numbers, so that every sum is one of 64 bits. Assumes nothing.
-- The limits of a taken graph lie far inside: they may grow to bit addresses below 2^62 and bit offsets within ±2^62.
use Rattle.std.specs.Prelude as std
use Rattle.std.specs.Prelude.{cond, ◌↔◌, ℤ, pos, neg_ℤ, ◌+ℤ◌, ◌-ℤ◌, ◌≤ℤ◌, ◌<ℤ◌}
use Rattle.std.proofs.Math.Option.{Option, none, some}
use Rattle.model.specs.Limits.{address_room}
use Rattle.model.specs.Runs.{Run, InRun, Joins, Between, empty}
use Rattle.runs.specs.declared.Run.{Run as Held}

-- a run as the code holds it
abbrev pub run_of : Held → Run
run_of r = record { root = r.root.0; low = r.low.0; high = r.high.0 }

-- what is left of a run: nothing where it is empty
unfoldable pub living : Run → Option Run
living r = cond (empty r) none (some r)

-- what the code says is left
abbrev pub living_of : std.Option Held → Option Run
living_of (std.Some r) = some (run_of r)
living_of std.None = none

-- ---- bit by bit

-- the run has exactly these bits, and joins each to exactly these root bits
pub record Exactly (Bit : ℤ → Type 0) (Root : ℤ → ℤ → Type 0) (r : Run) : Type 0 where
  pub bits : (b : ℤ) → InRun r b ↔ Bit b
  pub roots : (x b : ℤ) → Joins r x b ↔ Root x b

-- what is left has exactly these bits, each with exactly these root bits, and there are some; or nothing is left, and there are none
abbrev pub ExactlyOrNone : (ℤ → Type 0) → (ℤ → ℤ → Type 0) → std.Option Held → Type 0
ExactlyOrNone Bit Root (std.Some r) = Exactly Bit Root (run_of r) × ((b : ℤ) × Bit b)
ExactlyOrNone Bit Root std.None = (b : ℤ) → Bit b → ⊥

-- shifted by o: the run's bits less o, each with its root bit
abbrev pub Shifted : ℤ → Run → Run → Type 0
Shifted o before = Exactly (λ b. InRun before (b +ℤ o)) (λ x b. Joins before x (b +ℤ o))

-- clipped at first and last: those bits of the run that lie there, each with its root bit, or nothing
abbrev pub ClippedTo : ℤ → ℤ → Run → std.Option Held → Type 0
ClippedTo first last before = ExactlyOrNone (λ b. InRun before b × Between first last b) (λ x b. Joins before x b × Between first last b)

-- ---- numbers of 64 bits

-- a run with bits, all of them and their root bits below 2^62
pub record SmallRun (r : Run) : Type 0 where
  pub root : pos 0 ≤ℤ r.root
  pub low : pos 0 ≤ℤ r.low
  pub full : r.low ≤ℤ r.high
  pub high : r.high <ℤ pos address_room
  pub last : (r.root +ℤ (r.high -ℤ r.low)) <ℤ pos address_room

-- a bit offset within ±2^62
pub record SmallOffset (offset : ℤ) : Type 0 where
  pub low : neg_ℤ (pos address_room) ≤ℤ offset
  pub high : offset ≤ℤ pos address_room

-- what clip asks of a run: small runs, shifted by a small offset, have it
pub record Clippable (r : Run) : Type 0 where
  pub root : pos 0 ≤ℤ r.root
  pub low : neg_ℤ (pos address_room) ≤ℤ r.low
  pub last : (r.root +ℤ (r.high -ℤ r.low)) <ℤ pos address_room

-- first and last bit, below 2^62
pub record SmallExtent (first last : ℤ) : Type 0 where
  pub low : pos 0 ≤ℤ first
  pub high : last <ℤ pos address_room
