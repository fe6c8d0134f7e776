-- The rows of all arrivals, normalised, are the records of the leaf bits.
use mathlib.Core.Path.{◌≡◌, sym, ap, ◌∙◌}
use mathlib.Core.Bool.{true}
use mathlib.Core.List.{map}
use lib.IntN.{pos}
use lib.ListN.{length, length-map}
use mir.Facts.{to_z-of_z}
use Rattle.model.specs.Limits.{max_chain}
use Rattle.model.specs.Graph.{graph_of, node}
use Rattle.model.specs.Calls.{stands_on, numbers_of, leaf_bits}
use Rattle.integers.proofs.Tests.{T_true}
use Rattle.extents.proofs.Rows.{node-good}
use Rattle.extents.proofs.Bounds.{stands-small}
use Rattle.listing.proofs.Arrivals.{leaf_bits-none}
use Rattle.listing.proofs.Walkers.{address_laws}
use Rattle.listing.specs.Listing.{Appended, bit_record, arrival_rows}
use Rattle.listing.proofs.Pairs.{pair_linkable, pair_linked, arrivals-room, arrivals_normalisable, arrivals-normal}
use Rattle.listing.proofs.walk_pair.Goals.{After-of-bit, After-walk_from-n, Else-not-stands}
use Rattle.listing.proofs.walk_pair.Goals as goal

pub link_edges-requires : goal.link_edges-requires
link_edges-requires c = pair_linkable c.requires

-- the address is the one given
address : (c : After-of-bit) → c.of-bit.result.0 ≡ c.args.address
address c = simp (to_z-of_z, c.ranges.address) at c.of-bit.ensures

-- the rows of all arrivals are written
walked : (c : After-walk_from-n) → let s = c.args in
    Appended (arrival_rows s.kind max_chain (graph_of s.nodes.now s.edges.now) (pos s.root) (pos s.leaf) s.address) s.work.now
    c.walk_from-n.new.out 0 c.walk_from-n.result
walked c = rw (address (goal.at.After-walk_from-n c).After-of-bit) at c.walk_from-n.ensures

-- and a walk may stand on the root with it
standing : (c : Else-not-stands) → let s = c.args in stands_on s.kind (node (graph_of s.nodes.now s.edges.now) (pos s.root)) c.of-bit.result.0 ≡ true
standing c = sym (c.stands.ensures c.args.edges.now) ∙ c.if-not-stands.false

pub stands-requires : goal.stands-requires
stands-requires c = node-good c.requires.tables c.requires.row

pub returns-then-not-stands : goal.returns-then-not-stands
unfolding numbers_of
returns-then-not-stands c =
    let s = c.args in
    let g = graph_of s.nodes.now s.edges.now in
    let told = sym (c.stands.ensures s.edges.now) ∙ c.if-not-stands.true in
    let none = leaf_bits-none s.kind g (pos s.root) (pos s.leaf) s.address (rw (address (goal.at.returns-then-not-stands c).After-of-bit) at told) in
    record { value = sym (ap length none); work_after = sym (ap (λ l. numbers_of (map bit_record l)) none) }

pub walk_from-n-requires : goal.walk_from-n-requires
walk_from-n-requires c =
    let p = c.requires in
    let g = graph_of c.args.nodes.now c.args.edges.now in
    let stands = standing (goal.at.walk_from-n-requires c).Else-not-stands in
    record {
      laws = address_laws;
      start = (
        pair_linked p c.link_edges.ensures,
        p.row,
        (stands, stands-small (node g (pos c.args.root)) (p.tables.graph.good (pos c.args.root) p.row) c.args.kind c.of-bit.result.0 (T_true _ stands)),
        rw (address (goal.at.walk_from-n-requires c).After-of-bit) (arrivals-room p c.args.kind c.args.address),
      );
    }

pub normalise-requires : goal.normalise-requires
normalise-requires c =
    arrivals_normalisable c.requires c.args.kind c.args.address (walked (goal.at.normalise-requires c).After-walk_from-n)

pub returns : goal.returns
returns c =
    let bits = leaf_bits c.args.kind (graph_of c.args.nodes.now c.args.edges.now) (pos c.args.root) (pos c.args.leaf) c.args.address in
    let list = arrivals-normal c.requires c.args.kind c.args.address (walked (goal.at.returns c).After-walk_from-n) in
    record { value = c.normalise.ensures.value ∙ ap length list ∙ length-map bits bit_record; work_after = c.normalise.ensures.work_after ∙ ap numbers_of list }
