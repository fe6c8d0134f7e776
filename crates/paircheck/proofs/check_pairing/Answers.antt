-- The check of the sizes is the first part; the classes of all nodes stand in front of the two arrays, and the check by them is the second.
use mathlib.Core.Path.{◌≡◌, sym, ap, ◌∙◌}
use Prim.Native.Nat.{◌/◌}
use lib.ListN.{length, take}
use Rattle.model.specs.Limits.{node_width}
use Rattle.model.specs.Graph.{graph_of}
use Rattle.std.proofs.lemmas.Result.{err_from_is_err_and}
use Rattle.tables.proofs.Checks.{checked, then_on, then_stops}
use Rattle.pairing.specs.Pairs.{tables_of}
use Rattle.paircheck.specs.Classes.{classes_of}
use Rattle.paircheck.proofs.Classes.{classes_room, classes_size, classes_front}
use Rattle.paircheck.proofs.Pairing.{check_pairing_classified}
use Rattle.paircheck.proofs.check_pairing.Goals.{After-classify, After-classify-2}
use Rattle.paircheck.proofs.check_pairing.Goals as goal

spec-found : (c : After-classify) → let a = c.args in
    take (length a.spec_nodes.now / node_width) c.classify.new.class ≡ classes_of (graph_of a.spec_nodes.now a.spec_edges.now)
spec-found c =
    let a = c.args in
    ap (take (length a.spec_nodes.now / node_width)) c.classify.ensures ∙ classes_front a.spec_nodes.now a.spec_edges.now _

impl-found : (c : After-classify-2) → let a = c.args in
    take (length a.impl_nodes.now / node_width) c.classify-2.new.class ≡ classes_of (graph_of a.impl_nodes.now a.impl_edges.now)
impl-found c =
    let a = c.args in
    ap (take (length a.impl_nodes.now / node_width)) c.classify-2.ensures ∙ classes_front a.impl_nodes.now a.impl_edges.now _

pub returns-in_err-check_sizes : goal.returns-in_err-check_sizes
returns-in_err-check_sizes c =
    let p = err_from_is_err_and c.from_residual.result c.from_residual.ensures.1 in
    rw (p.1, p.2) (then_stops _ _ c.in_err-check_sizes.ensures ∙ ap checked (sym (check_pairing_classified (tables_of _ _ _ _ _ _))))

pub classify-requires : goal.classify-requires
classify-requires c = classes_room _ _ c.requires.0

pub classify-requires-2 : goal.classify-requires-2
classify-requires-2 c = classes_room _ _ c.requires.1

pub slice_bounds-check_classified-end : goal.slice_bounds-check_classified-end
slice_bounds-check_classified-end c =
    (classes_size _ _ c.requires.0 (spec-found (goal.at.slice_bounds-check_classified-end c).After-classify)).0

pub slice_bounds-check_classified-end-2 : goal.slice_bounds-check_classified-end-2
slice_bounds-check_classified-end-2 c =
    (classes_size _ _ c.requires.1 (impl-found (goal.at.slice_bounds-check_classified-end-2 c).After-classify-2)).0

pub check_classified-requires : goal.check_classified-requires
check_classified-requires c =
    ((classes_size _ _ c.requires.0 (spec-found (goal.at.check_classified-requires c).After-classify)).1, (classes_size _ _ c.requires.1 (impl-found (goal.at.check_classified-requires c).After-classify-2)).1)

pub returns : goal.returns
returns c =
    rw (spec-found (goal.at.returns c).After-classify, impl-found (goal.at.returns c).After-classify-2) at c.check_classified.ensures
    ∙ sym (then_on _ _ c.in_ok-check_sizes.ensures)
    ∙ ap checked (sym (check_pairing_classified (tables_of _ _ _ _ _ _)))
