-- The two passes leave the class of each node.
use mathlib.Core.Path.{ap, ◌∙◌}
use native.Mathlib.Omega.{arith}
use Rattle.model.specs.Rows.{edge_rows}
use Rattle.paircheck.specs.Classes.{entered_by}
use Rattle.paircheck.proofs.Classes.{enters-within, classes_found}
use Rattle.paircheck.proofs.classify.Goals as goal

pub enter_edges-requires : goal.enter_edges-requires
enter_edges-requires c =
    enters-within c.args.nodes.now c.args.edges.now c.requires.tables c.classify_kinds.new.class
    (omega (arith, c.requires.room, c.classify_kinds.auto.class))

pub returns : goal.returns
returns c =
    c.enter_edges.ensures
    ∙ ap (entered_by (edge_rows c.args.edges.now)) c.classify_kinds.ensures
    ∙ classes_found c.args.nodes.now c.args.edges.now c.requires.tables c.args.class.now c.requires.room
