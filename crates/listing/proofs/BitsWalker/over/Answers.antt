-- The address is moved, and then it stands on the node entered or ends.
use mathlib.Core.Path.{◌≡◌, sym, ap, subst, ◌∙◌}
use lib.IntN.{ℤ, ◌-ℤ◌}
use Rattle.integers.proofs.Tests.{T_true}
use Rattle.model.specs.Graph.{graph_of, NodeRow, node, bit_offset}
use Rattle.model.specs.Calls.{stands_on}
use Rattle.tables.specs.Tables.{edge_at}
use Rattle.extents.proofs.Rows.{node-good, to_row}
use Rattle.extents.proofs.Bounds.{stands-small}
use Rattle.listing.specs.Listing.{arrival_rows}
use Rattle.listing.proofs.Arrivals.{arrivals-outside}
use Rattle.listing.proofs.BitsWalker.over.Goals.{After-stands}
use Rattle.listing.proofs.BitsWalker.over.Goals as goal

pub edge_to-to-requires : goal.edge_to-to-requires
edge_to-to-requires c = (c.requires.1, (to_row c.requires.0 c.args.e c.requires.1).low)

pub stands-requires : goal.stands-requires
stands-requires c =
    let g = graph_of c.args.nodes.now c.args.edges.now in
    node-good c.requires.0 (subst (NodeRow g) (sym c.edge_to-to.ensures) (to_row c.requires.0 c.args.e c.requires.1))

-- what is tested
told : (c : After-stands) → let a = c.args in let g = graph_of a.nodes.now a.edges.now in
    c.stands.result ≡ stands_on a.kind (node g (edge_at a.edges.now a.e).to) c.moved-moved.result.0
told c =
    let g = graph_of c.args.nodes.now c.args.edges.now in
    c.stands.ensures c.args.edges.now ∙ ap (λ (v : ℤ). stands_on c.args.kind (node g v) c.moved-moved.result.0) c.edge_to-to.ensures

pub returns-then-not-stands : goal.returns-then-not-stands
returns-then-not-stands c = λ k l.
    let a = c.args in
    let g = graph_of a.nodes.now a.edges.now in
    let e = edge_at a.edges.now a.e in
    let none = sym (told (goal.at.returns-then-not-stands c).After-stands) ∙ c.if-not-stands.true in
    arrivals-outside a.kind g e.to l (a.self.0 -ℤ bit_offset g e) k
    (rw c.moved-moved.ensures at none)

pub returns : goal.returns
returns c =
    let a = c.args in
    let g = graph_of a.nodes.now a.edges.now in
    let e = edge_at a.edges.now a.e in
    let stands = sym (told (goal.at.returns c).After-stands) ∙ c.if-not-stands.false in (
      (stands, stands-small (node g e.to) (c.requires.0.graph.good e.to (to_row c.requires.0 a.e c.requires.1)) a.kind c.moved-moved.result.0 (T_true _ stands)),
      λ k l. ap (λ (b : ℤ). arrival_rows a.kind k g e.to l b) c.moved-moved.ensures,
    )
