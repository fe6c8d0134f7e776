-- The rows of all runs from the whole root, normalised, are the bitmapping list; where the root is closed it is empty.
use mathlib.Core.Path.{◌≡◌, sym, ap, ◌∙◌}
use lib.IntN.{pos}
use lib.ListN.{length}
use Rattle.model.specs.Limits.{max_chain}
use Rattle.model.specs.Graph.{graph_of, node}
use Rattle.model.specs.Runs.{whole}
use Rattle.model.specs.Calls.{numbers_of}
use Rattle.runs.specs.Clipping.{run_of}
use Rattle.extents.proofs.Rows.{node-good}
use Rattle.extents.proofs.Bounds.{bits_small, whole_open}
use Rattle.listing.specs.Listing.{Appended, run_rows}
use Rattle.listing.proofs.Walkers.{run_laws}
use Rattle.listing.proofs.Pairs.{closed_none, pair_linkable, pair_linked, runs-room, runs_normalisable, runs-normal}
use Rattle.listing.proofs.list_pair.Goals.{After-walk_from-n, After-whole-run}
use Rattle.listing.proofs.list_pair.Goals as goal

-- the run to start with has all bits of the root on which a walk may stand
started : (c : After-whole-run) → run_of c.whole-run.result ≡ whole c.args.kind (node (graph_of c.args.nodes.now c.args.edges.now) (pos c.args.root))
started c =
    let g = graph_of c.args.nodes.now c.args.edges.now in
    c.whole-run.ensures c.args.edges.now
    ∙ whole_open c.args.kind (node g (pos c.args.root))
    (sym (c.if-not-root_open.false) ∙ c.is_open-root_open.ensures c.args.edges.now)

pub is_open-root_open-requires : goal.is_open-root_open-requires
is_open-root_open-requires c = node-good c.requires.tables c.requires.row

pub returns-then-not-root_open : goal.returns-then-not-root_open
unfolding numbers_of
returns-then-not-root_open c =
    let s = c.args in
    let g = graph_of s.nodes.now s.edges.now in
    let closed = sym (c.if-not-root_open.true) ∙ c.is_open-root_open.ensures s.edges.now in
    let none = closed_none s.kind g (pos s.root) (pos s.leaf) closed in
    record { value = sym (ap length none); work_after = sym (ap numbers_of none) }

pub link_edges-requires : goal.link_edges-requires
link_edges-requires c = pair_linkable c.requires

pub whole-run-requires : goal.whole-run-requires
whole-run-requires c = let p = c.requires in node-good p.tables p.row

-- the rows of all runs are written
listed : (c : After-walk_from-n) → let g = graph_of c.args.nodes.now c.args.edges.now in
    Appended (run_rows c.args.kind max_chain g (pos c.args.root) (pos c.args.leaf) (whole c.args.kind (node g (pos c.args.root)))) c.args.work.now
    c.walk_from-n.new.out 0 c.walk_from-n.result
listed c = rw (started (goal.at.After-walk_from-n c).After-whole-run) at c.walk_from-n.ensures

pub walk_from-n-requires : goal.walk_from-n-requires
walk_from-n-requires c =
    let root = pos c.args.root in
    record {
      laws = run_laws;
      start = (
        pair_linked c.requires c.link_edges.ensures,
        c.requires.row,
        rw (c.whole-run.ensures c.args.edges.now)
            (bits_small (node (graph_of c.args.nodes.now c.args.edges.now) root) (c.requires.tables.graph.good root c.requires.row)),
        rw (started (goal.at.walk_from-n-requires c).After-whole-run) (runs-room c.requires c.args.kind),
      );
    }

pub normalise-requires : goal.normalise-requires
normalise-requires c =
    runs_normalisable c.requires c.args.kind (listed (goal.at.normalise-requires c).After-walk_from-n)

pub returns : goal.returns
returns c =
    let list = runs-normal c.requires c.args.kind (listed (goal.at.returns c).After-walk_from-n) in
    record { value = c.normalise.ensures.value ∙ ap length list; work_after = c.normalise.ensures.work_after ∙ ap numbers_of list }
