-- The numbers stored are below 2^63, or the first and last bit of the root, which fit an i64.
use mathlib.Core.Path.{ap, ◌∙◌}
use native.Mathlib.Omega.{arith}
use borrow.Author.Rules.{rules, sfits_of}
use lib.IntN.{pos}
use lib.ListN.{length-set}
use mir.Facts.{to_z-of_z, to_z_pos}
use mir.Syntax.{w64}
use mir.Val.{SFits}
use Rattle.model.specs.Graph.{graph_of, node}
use Rattle.model.specs.Runs.{Run, is_open}
use Rattle.references.specs.References.{own}
use Rattle.arrivals.proofs.Moves.{root-stored}
use Rattle.arrivals.proofs.start_root.Goals as goal

pub bounds-state-12001 : goal.bounds-state-12001
bounds-state-12001 c = simp length-set (omega arith)

pub bounds-state-12002 : goal.bounds-state-12002
bounds-state-12002 c = simp length-set (omega arith)

pub shape_of-state : goal.shape_of-state
shape_of-state c = simp length-set (omega arith)

pub returns : goal.returns
returns c = λ es.
    let low : SFits w64 c.whole-bits.result.low.0 = search rules in
    let high : SFits w64 c.whole-bits.result.high.0 = search rules in
    root-stored
    c.args.kind
    (is_open c.args.kind (node (graph_of c.args.nodes.now es) (pos c.args.root)))
    (own (graph_of c.args.nodes.now es) (pos c.args.root))
    c.args.root
    c.args.state.now
    (c.mark_root.ensures es)
    (to_z-of_z low ∙ ap (λ (r : Run). r.low) (c.whole-bits.ensures es))
    (to_z-of_z high ∙ ap (λ (r : Run). r.high) (c.whole-bits.ensures es))
    c.append_row-used.ensures
    (to_z_pos w64 (omega arith) ∙ ap pos c.append_row-used.ensures.count)
    (to_z_pos w64 (omega arith))
    (to_z-of_z (sfits_of {w = w64} c.kind_number.type_inv) ∙ c.kind_number.ensures)
