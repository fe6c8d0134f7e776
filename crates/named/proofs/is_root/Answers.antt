-- A root is told by its kind and the edges that enter it.
use mathlib.Core.Path.{◌≡◌, sym, ◌∙◌}
use mathlib.Core.Bool.{true, not, ◌&&◌, ◌||◌}
use borrow.Author.Rules.{rules}
use lib.Dec.{lit<}
use mir.Syntax.{w64}
use mir.Val.{SFits}
use mir.Facts.{to_z-of_z}
use Rattle.integers.specs.Integers.{eq_z}
use Rattle.lists.specs.Lists.{any}
use Rattle.model.specs.Rows.{Edge}
use Rattle.model.specs.Graph.{graph_of, space, segment}
use Rattle.model.specs.Checks.{is_root}
use Rattle.tables.proofs.Cells.{bits-same, bits-other}
use Rattle.named.proofs.Roots.{root-kind, root-kindless}
use Rattle.named.proofs.is_root.Goals.{After-entered, In-Some, else-kind-ne-SPACE-via-then-kind-ne-SPACE+else-kind-ne-SEGMENT, else-kind-ne-SPACE-via-else-kind-ne-SPACE}
use Rattle.named.proofs.is_root.Goals as goal

kind_fits : (c : In-Some) → SFits w64 c.in-Some.kind
kind_fits c = search rules

-- the test for a root, by the kind that was read
kind-told : (c : In-Some) → let a = c.args in let g = graph_of a.nodes.now a.edges.now in
    is_root g a.v ≡ (eq_z c.in-Some.kind space || eq_z c.in-Some.kind segment) && not (any (λ (e : Edge). eq_z e.to a.v) g.edges)
kind-told c =
    let a = c.args in
    root-kind (graph_of a.nodes.now a.edges.now) a.v (sym (simp (to_z-of_z, c.ranges.v) at (c.in-Some.ensures a.edges.now)))

pub returns-in_default : goal.returns-in_default
returns-in_default c =
    let a = c.args in
    sym (root-kindless (graph_of a.nodes.now a.edges.now) a.v (sym (simp (to_z-of_z, c.ranges.v) at (c.in_default.ensures a.edges.now))))

pub returns-then-kind-ne-SEGMENT : goal.returns-then-kind-ne-SEGMENT
returns-then-kind-ne-SEGMENT c =
    let f : SFits w64 c.in-Some.kind = kind_fits (goal.at.returns-then-kind-ne-SEGMENT c).In-Some in
    sym (kind-told (goal.at.returns-then-kind-ne-SEGMENT c).In-Some ∙ rw (bits-other f (lit< tt) c.if-kind-ne-SPACE.true, bits-other f (lit< tt) c.if-kind-ne-SEGMENT.true))

-- control goes on where the kind is one of a root
kinds-pass : (c : After-entered) → eq_z c.in-Some.kind space || eq_z c.in-Some.kind segment ≡ true
kinds-pass c =
    let f = kind_fits (goal.at.returns c).In-Some in
    elim c.else-kind-ne-SPACE.branch [
      | else-kind-ne-SPACE-via-then-kind-ne-SPACE+else-kind-ne-SEGMENT w ↦ rw (bits-other f (lit< tt) w.if-kind-ne-SPACE.true, bits-same f (lit< tt) w.if-kind-ne-SEGMENT.false)
      | else-kind-ne-SPACE-via-else-kind-ne-SPACE w ↦ rw (bits-same f (lit< tt) w.if-kind-ne-SPACE.false)
    ]

pub returns : goal.returns
unfolding graph_of
returns c =
    sym (kind-told (goal.at.returns c).In-Some ∙ rw (kinds-pass (goal.at.returns c).After-entered, simp (to_z-of_z, c.ranges.v) at c.entered.ensures))
