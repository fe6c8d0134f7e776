-- The node that the edge leaves has a mark; what the tests and the callees say of it is what the edge brings.
use mathlib.Core.Path.{◌≡◌, refl, sym, ap, subst, ◌∙◌}
use mathlib.Core.Bool.{true}
use Rattle.references.specs.References.{Reference, reference_of, through, unless_none}
use Rattle.model.specs.Graph.{graph_of, bit_offset}
use Rattle.tables.specs.Tables.{edge_at}
use Rattle.runs.specs.Clipping.{SmallRun}
use Rattle.arrivals.specs.State.{is_met}
use Rattle.arrivals.proofs.Moves.{from_row_lem, from-marked, crossing-none, crossing-some}
use Rattle.arrivals.proofs.brought_over.Goals.{Else-not-is_met}
use Rattle.arrivals.proofs.brought_over.Goals as goal

met : (c : Else-not-is_met) → is_met c.args.state.now c.edge_from-from.result ≡ true
met c = sym c.is_met.ensures ∙ c.if-not-is_met.false

pub edge_from-from-requires : goal.edge_from-from-requires
edge_from-from-requires c = (c.requires.there, (from_row_lem c.requires).low)

pub is_met-requires : goal.is_met-requires
is_met-requires c = from-marked c.requires c.edge_from-from.ensures

pub returns-then-not-is_met : goal.returns-then-not-is_met
returns-then-not-is_met c =
    sym (crossing-none c.requires c.edge_from-from.ensures (sym c.is_met.ensures ∙ c.if-not-is_met.true))

pub reference_at-requires : goal.reference_at-requires
reference_at-requires c = (from-marked c.requires c.edge_from-from.ensures, met c)

pub step_into-requires : goal.step_into-requires
step_into-requires c = (
  c.requires.tables,
  c.requires.there,
  c.requires.small,
  subst (λ (x : Reference). SmallRun x.run) (sym c.reference_at.ensures) (c.requires.source c.edge_from-from.result c.edge_from-from.ensures (met (goal.at.step_into-requires c).Else-not-is_met)),
)

pub returns : goal.returns
returns c =
    let o = bit_offset (graph_of c.args.nodes.now c.args.edges.now) (edge_at c.args.edges.now c.args.e) in
    c.step_into.ensures
    ∙ ap (λ (x : Reference). unless_none (through o (reference_of c.args.f) x)) c.reference_at.ensures
    ∙ sym (crossing-some c.requires c.edge_from-from.ensures refl (met (goal.at.returns c).Else-not-is_met))
