-- What is asked of a record whose leaf bits are computed. Assumes nothing.
use Rattle.std.specs.Prelude.{ℤ, ◌≤ℤ◌}
use Rattle.model.specs.Bitmapping.{Record}
use Rattle.model.specs.Quantities.{Movable}

-- each root bit of the record is a bit address below 2^62 from which the displacement can be taken: it lies within ±2^62
abbrev pub LeafBitsFit : Record → Type 0
LeafBitsFit s = (x : ℤ) → s.first ≤ℤ x → x ≤ℤ s.last → Movable x s.displacement
