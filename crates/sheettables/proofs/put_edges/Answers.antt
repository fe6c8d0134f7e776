use mathlib.Core.Path.{refl}
use Prim.Native.Nat.{◌+◌, ◌*◌}
use borrow.Author.Rules.{rules}
use lib.IntN.{pos}
use lib.ListN.{get_or}
use mir.Syntax.{w64}
use mir.Val.{SFits}
use mir.Facts.{to_z-of_z}
use Rattle.model.specs.Limits.{edge_width}
use Rattle.sheettables.specs.Parts.{edges_of}
use Rattle.sheettables.proofs.Passes.{edges_put}
use Rattle.sheettables.proofs.put_edges.Goals as goal

pub loop-k-init : goal.loop-k-init
unfolding edges_of
loop-k-init c = refl

pub loop-k-preserved : goal.loop-k-preserved
loop-k-preserved c =
    let s = c.args in
    let fits : SFits w64 (get_or s.lines.now (edge_width * c.loop-k.k + 2) (pos 0)) = search rules in
    edges_put s.roots.now s.leaves.now s.lines.now s.edges.now c.loop-k.k c.loop-k.invariant c.number_at.ensures c.number_at-in-loop-k.ensures
    (to_z-of_z fits) c.put_edge.ensures
