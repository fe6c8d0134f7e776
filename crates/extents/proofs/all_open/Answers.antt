use mathlib.Core.Path.{◌≡◌, refl, sym, ap, ◌∙◌}
use mathlib.Core.Bool.{true≢false}
use Prim.Native.Nat.{◌+◌, ◌*◌, ◌≤◌}
use native.Mathlib.Omega.{arith}
use borrow.Author.Rules.{rules}
use borrow.Author.Count.{below_more}
use lib.ListN.{length}
use mir.Syntax.{w64}
use mir.Val.{SFits, of_z}
use Rattle.model.specs.Limits.{node_width}
use Rattle.model.specs.Rows.{Node}
use Rattle.model.specs.Graph.{read_write}
use Rattle.tables.specs.Tables.{node_at}
use Rattle.extents.proofs.Rows.{all-rows_open, bits_zero}
use Rattle.extents.proofs.all_open.Goals as goal

pub returns-then-row-ne-READ_WRITE : goal.returns-then-row-ne-READ_WRITE
returns-then-row-ne-READ_WRITE c =
    let ns = c.args.nodes.now in
    let there : node_width * c.loop-v.v + node_width ≤ length ns = omega (arith, c.loop-v-test.true) in (
      λ e. absurd (true≢false (sym e)),
      λ all.
          let zero : c.node_at-row.result.access ≡ read_write = ap (λ (n : Node). n.access) c.node_at-row.ensures ∙ (all-rows_open ns).1 all c.loop-v.v there in
          absurd (c.if-row-ne-READ_WRITE.true (ap (of_z w64) zero)),
    )

pub loop-v-preserved : goal.loop-v-preserved
loop-v-preserved c =
    let fits : SFits w64 c.node_at-row.result.access = search rules in
    let here : (node_at c.args.nodes.now c.loop-v.v).access ≡ read_write =
    sym (ap (λ (n : Node). n.access) c.node_at-row.ensures) ∙ bits_zero fits c.if-row-ne-READ_WRITE.false in
    below_more (λ w. (node_at c.args.nodes.now w).access ≡ read_write) c.loop-v.v c.loop-v.invariant here

pub returns : goal.returns
returns c =
    (λ e. (all-rows_open c.args.nodes.now).0 (λ w there. c.loop-v.invariant w (omega (arith, c.loop-v-test.false, there))), λ all. refl)
