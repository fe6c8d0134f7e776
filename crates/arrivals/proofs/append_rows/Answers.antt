-- The rows are those of the leaf's reference, shifted by the leaf's first bit; where nothing has arrived there is none.
use mathlib.Core.Path.{◌≡◌, sym, ap, ◌∙◌}
use mathlib.Core.Bool.{true}
use Prim.Native.Nat.{◌+◌, ◌*◌, ◌≤◌}
use native.Mathlib.Omega.{arith}
use lib.IntN.{ℤ, pos}
use lib.ListN.{length}
use Rattle.integers.proofs.Linear.{ints}
use Rattle.model.specs.Graph.{graph_of, node, first_bit}
use Rattle.model.specs.Runs.{Run}
use Rattle.extents.specs.Extents.{bits_of}
use Rattle.references.specs.References.{reference_of, shifted}
use Rattle.arrivals.specs.State.{mark_width, is_met}
use Rattle.arrivals.proofs.Agreeing.{row-few}
use Rattle.arrivals.proofs.LeafRows.{leaf_part, leaf-good, first_small, leaf-unmet, part_movable, part_gatherable, part_appended}
use Rattle.arrivals.proofs.append_rows.Goals.{After-shifted-part, After-whole-bits, Else-not-is_met, Start}
use Rattle.arrivals.proofs.append_rows.Goals as goal

-- the mark of the leaf stands in the state
mark-there : (s : Start) → mark_width * s.args.leaf + mark_width ≤ length s.args.state.now
mark-there s = let w = s.requires.state.state in omega (arith, w.room, row-few w.tables s.requires.block.row)

pub is_met-requires : goal.is_met-requires
is_met-requires c = mark-there (goal.at.is_met-requires c).Start

pub returns-then-not-is_met : goal.returns-then-not-is_met
returns-then-not-is_met c kind root w = leaf-unmet c.requires w (sym c.is_met.ensures ∙ c.if-not-is_met.true)

pub whole-bits-requires : goal.whole-bits-requires
whole-bits-requires c = leaf-good c.requires

-- something has arrived at the leaf
met : (c : Else-not-is_met) → let s = c.args in is_met s.state.now s.leaf ≡ true
met c = sym c.is_met.ensures ∙ c.if-not-is_met.false

pub reference_at-requires : goal.reference_at-requires
reference_at-requires c = (mark-there (goal.at.reference_at-requires c).Start, met (goal.at.reference_at-requires c).Else-not-is_met)

-- its first bit
first : (c : After-whole-bits)
    → let s = c.args in
    c.whole-bits.result.low.0 ≡ first_bit (node (graph_of s.nodes.now s.edges.now) (pos s.leaf))
unfolding bits_of
first c = let s = c.args in ap (λ (r : Run). r.low) (c.whole-bits.ensures s.edges.now)

-- the reference, shifted
part : (c : After-shifted-part)
    → let s = c.args in
    reference_of c.shifted-part.result ≡ leaf_part s.nodes.now s.edges.now s.leaf s.state.now
part c =
    let s = c.args in
    c.shifted-part.ensures
    ∙ ap (λ (o : ℤ). shifted o (reference_of c.reference_at.result)) (first (goal.at.After-shifted-part c).After-whole-bits)
    ∙ ap (shifted (first_bit (node (graph_of s.nodes.now s.edges.now) (pos s.leaf)))) c.reference_at.ensures

pub shifted-part-requires : goal.shifted-part-requires
shifted-part-requires c =
    let small = first_small c.requires (met (goal.at.shifted-part-requires c).Else-not-is_met) in
    part_movable c.requires (met (goal.at.shifted-part-requires c).Else-not-is_met) c.reference_at.ensures (omega (arith, ints, first (goal.at.shifted-part-requires c).After-whole-bits, small)) (omega (arith, ints, first (goal.at.shifted-part-requires c).After-whole-bits, small))

pub gather-requires : goal.gather-requires
gather-requires c =
    part_gatherable c.requires (met (goal.at.gather-requires c).Else-not-is_met) (part (goal.at.gather-requires c).After-shifted-part)

pub returns : goal.returns
returns c kind root w =
    part_appended c.requires (met (goal.at.returns c).Else-not-is_met) (part (goal.at.returns c).After-shifted-part) w c.gather.ensures
