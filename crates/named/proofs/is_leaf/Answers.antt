-- A leaf is told by its kind.
use Rattle.std.specs.Prelude as std
use Rattle.std.specs.Option.{option_eq}
use Rattle.std.specs.Ordering.{int_eq}
use mathlib.Core.Path.{ap, ◌∙◌}
use mir.Facts.{to_z-of_z}
use Rattle.model.specs.Graph.{graph_of, block}
use Rattle.named.proofs.Roots.{leaf-kind}
use Rattle.named.proofs.is_leaf.Goals as goal

pub returns : goal.returns
returns c es =
    c.eq.ensures
    ∙ ap (λ k. option_eq int_eq k (std.Some block)) (simp (to_z-of_z, c.ranges.v) at (c.kind_at.ensures es))
    ∙ leaf-kind (graph_of c.args.nodes.now es) c.args.v
