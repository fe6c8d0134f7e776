use mathlib.Core.Path.{refl, ap, ◌∙◌}
use Prim.Native.Nat.{◌*◌}
use native.Mathlib.Numerals.{add-one}
use native.Mathlib.Omega.{arith}
use borrow.Author.Rules.{rules}
use lib.IntN.{pos}
use lib.ListN.{get_or, set}
use mir.Syntax.{w64}
use mir.Val.{SFits}
use mir.Facts.{to_z-of_z}
use Rattle.model.specs.Limits.{node_width}
use Rattle.tables.proofs.Rows.{nodes_length}
use Rattle.paircheck.proofs.Classes.{kinds_up_to, kinds_more, kinds_all}
use Rattle.paircheck.proofs.classify_kinds.Goals as goal

pub loop-v-init : goal.loop-v-init
loop-v-init c = refl

pub bounds-class-v : goal.bounds-class-v
bounds-class-v c = omega (arith, c.requires, nodes_length c.args.nodes.now)

pub loop-v-preserved : goal.loop-v-preserved
loop-v-preserved c =
    let a = c.args in
    let v = c.loop-v.v in
    let f : SFits w64 (get_or a.nodes.now (node_width * v) (pos 0)) = search rules in
    rw add-one
    (ap (λ t. set t v c.kind_class.result) c.loop-v.invariant
    ∙ ap (set (kinds_up_to a.nodes.now a.class.now v) v) (simp (to_z-of_z, f) at c.kind_class.ensures)
    ∙ kinds_more a.nodes.now a.class.now v (omega (arith, c.loop-v-test.true)) (omega (arith, c.requires, nodes_length a.nodes.now)))

pub returns : goal.returns
returns c =
    let a = c.args in
    c.loop-v.invariant ∙ kinds_all a.nodes.now a.class.now c.loop-v.v (omega (arith, c.loop-v.auto.v-end)) (omega (arith, c.loop-v-test.false))
