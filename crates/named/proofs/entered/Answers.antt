use mathlib.Core.Path.{◌≡◌}
use native.Mathlib.Numerals.{add-one}
use Prim.Native.Nat.{◌*◌}
use native.Mathlib.Omega.{arith}
use borrow.Author.Rules.{rules}
use lib.ListN.{drop}
use mir.Syntax.{w64}
use mir.Val.{SFits}
use mir.Facts.{to_z-of_z}
use Rattle.integers.specs.Integers.{eq_z}
use Rattle.lists.specs.Lists.{any}
use Rattle.model.specs.Limits.{edge_width}
use Rattle.model.specs.Rows.{Edge, edges_from, edge_rows}
use Rattle.tables.specs.Tables.{edge_at}
use Rattle.tables.proofs.Rows.{edges-rest, edges_end}
use Rattle.named.proofs.Roots.{bits-equal, bits-unequal, any_none, any_here, any-past}
use Rattle.named.proofs.entered.Goals.{At-loop-e, In-loop-e}
use Rattle.named.proofs.entered.Goals as goal

-- the invariant, of the number itself and not of its bits
left : (c : At-loop-e) → let a = c.args in
    any (λ (d : Edge). eq_z d.to a.v) (edge_rows a.edges.now)
    ≡ any (λ (d : Edge). eq_z d.to a.v) (edges_from c.loop-e.e (drop (edge_width * c.loop-e.e) a.edges.now))
left c = simp (to_z-of_z, c.ranges.v) at c.loop-e.invariant

pub returns-then-edges-e : goal.returns-then-edges-e
returns-then-edges-e c =
    let f : SFits w64 (edge_at c.args.edges.now c.loop-e.e).to = search rules in
    any_here _ _ (left (goal.at.returns-then-edges-e c).At-loop-e) (edges-rest c.args.edges.now c.loop-e.e (omega arith))
    (bits-equal f c.ranges.v c.if-edges-e.true)

pub loop-e-preserved : goal.loop-e-preserved
loop-e-preserved c =
    let f : SFits w64 (edge_at c.args.edges.now c.loop-e.e).to = search rules in
    simp (to_z-of_z, c.ranges.v)
    (rw add-one
    (any-past _ _ (left (goal.at.loop-e-preserved c).At-loop-e) (edges-rest c.args.edges.now c.loop-e.e (omega arith))
    (bits-unequal f c.ranges.v c.if-edges-e.false)))

pub returns : goal.returns
returns c =
    any_none _ _ (left (goal.at.returns c).At-loop-e) (edges_end c.args.edges.now c.loop-e.e (omega arith))
