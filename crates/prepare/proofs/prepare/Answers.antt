-- Each check takes the tables and leaves the answer to the next, or gives it; the plans are made behind the check of the pairing.
use mathlib.Core.Path.{◌≡◌, refl, ◌∙◌}
use mathlib.Core.Option.{Option}
use Prim.Native.Nat.{ℕ}
use native.Mathlib.Omega.{arith}
use borrow.Author.Rules.{rules}
use lib.ListN.{length-replicate}
use Rattle.std.proofs.lemmas.Result.{err_from_is_err_and}
use Rattle.model.specs.Limits.{max_edges}
use Rattle.model.specs.Compare.{Tables}
use Rattle.model.specs.Refusals.{Refusal}
use Rattle.model.specs.Calls.{full}
use Rattle.tables.proofs.Checks.{checked}
use Rattle.model.specs.Checks.{◌then◌, check_graph}
use Rattle.pairing.specs.Pairs.{tables_of}
use Rattle.paircheck.specs.Pairing.{check_pairing_rows}
use Rattle.pathlimit.specs.Checks.{check_paths}
use Rattle.pathlimit.specs.Inputs.{Inputs, Plans}
use Rattle.prepare.proofs.Inputs.{pairing_inputs}
use Rattle.prepare.proofs.Checks.{taken_none, Rest, rest_all, rest_on, rest-refused, rest-paths, graph-taken, graph_plannable, spec-rows, impl-rows, leaves_linkable}
use Rattle.prepare.proofs.prepare.Goals.{After-link_banks, In_ok-check_pairing, Start}
use Rattle.prepare.proofs.prepare.Goals as goal

-- the tables
abbrev tables : Start → Tables
tables s =
    let a = s.args in
    tables_of a.spec_nodes.now a.spec_edges.now a.impl_nodes.now a.impl_edges.now a.root_pairs.now a.leaf_pairs.now

-- the checks behind that of the specification, and behind that of the implementation
abbrev pairing-left : Tables → Option Refusal
pairing-left t = check_pairing_rows t then check_paths t

abbrev impl-left : Tables → Option Refusal
impl-left t = check_graph 2 t.impl_nodes t.impl_edges then pairing-left t

module _ (t : Tables) (spec : full tt ≡ checked (check_graph 0 t.spec_nodes t.spec_edges)) where
  spec-on : Rest t (impl-left t)
  spec-on = rest_on t (check_graph 0 t.spec_nodes t.spec_edges) (impl-left t) (rest_all t) spec

  module _ (impl : full tt ≡ checked (check_graph 2 t.impl_nodes t.impl_edges)) where
    impl-on : Rest t (pairing-left t)
    impl-on = rest_on t (check_graph 2 t.impl_nodes t.impl_edges) (pairing-left t) spec-on impl

    pairing-on : full tt ≡ checked (check_pairing_rows t) → Rest t (check_paths t)
    pairing-on pairing = rest_on t (check_pairing_rows t) (check_paths t) impl-on pairing

-- what the checks of both graphs and of the pairing take are inputs
inputs : (k : In_ok-check_pairing) → Inputs (tables (goal.at.In_ok-check_pairing k).Start)
inputs k =
    let t = tables (goal.at.In_ok-check_pairing k).Start in
    pairing_inputs t (graph-taken k.in_ok-check_graph_with.ensures)
    (graph-taken k.in_ok-check_graph_with-2.ensures)
    (taken_none (check_pairing_rows t) refl k.in_ok-check_pairing.ensures)

-- both graphs are planned for them, and the groups linked
plans : (n : After-link_banks)
    → Plans (tables (goal.at.After-link_banks n).Start) n.plan_graph.new.plan n.plan_graph-2.new.plan n.link_banks.new.links
plans n =
    record {
      inputs = inputs (goal.at.After-link_banks n).In_ok-check_pairing;
      spec_planned = n.plan_graph.ensures.planned;
      impl_planned = n.plan_graph-2.ensures.planned;
      spec_leading = n.plan_graph.ensures.leading_to;
      impl_leading = n.plan_graph-2.ensures.leading_to;
      linked = n.link_banks.ensures;
    }

pub returns-in_err-check_graph_with : goal.returns-in_err-check_graph_with
returns-in_err-check_graph_with c =
    let t = tables (goal.at.returns-in_err-check_graph_with c).Start in
    let p = err_from_is_err_and c.from_residual.result c.from_residual.ensures.1 in
    rw (p.1, p.2) (rest-refused t (check_graph 0 t.spec_nodes t.spec_edges) (impl-left t) (rest_all t) c.in_err-check_graph_with.ensures.answers)

pub returns-in_err-check_graph_with-2 : goal.returns-in_err-check_graph_with-2
returns-in_err-check_graph_with-2 c =
    let t = tables (goal.at.returns-in_err-check_graph_with-2 c).Start in
    let p = err_from_is_err_and c.from_residual-in_err-check_graph_with-2.result c.from_residual-in_err-check_graph_with-2.ensures.1 in
    rw (p.1, p.2)
    (rest-refused t (check_graph 2 t.impl_nodes t.impl_edges) (pairing-left t) (spec-on t c.in_ok-check_graph_with.ensures.answers)
    c.in_err-check_graph_with-2.ensures.answers)

pub check_pairing-requires : goal.check_pairing-requires
check_pairing-requires c = (graph-taken c.in_ok-check_graph_with.ensures, graph-taken c.in_ok-check_graph_with-2.ensures)

pub returns-in_err-check_pairing : goal.returns-in_err-check_pairing
returns-in_err-check_pairing c =
    let t = tables (goal.at.returns-in_err-check_pairing c).Start in
    let p = err_from_is_err_and c.from_residual-in_err-check_pairing.result c.from_residual-in_err-check_pairing.ensures.1 in
    rw (p.1, p.2)
    (rest-refused t (check_pairing_rows t) (check_paths t) (impl-on t c.in_ok-check_graph_with.ensures.answers c.in_ok-check_graph_with-2.ensures.answers)
    c.in_err-check_pairing.ensures)

pub plan_graph-requires : goal.plan_graph-requires
plan_graph-requires c =
    graph_plannable c.in_ok-check_graph_with.ensures (omega arith) (spec-rows (inputs (goal.at.plan_graph-requires c).In_ok-check_pairing))
    (c.check_graph_with.auto.rest ∙ c.requires.0)

pub plan_graph-requires-2 : goal.plan_graph-requires-2
plan_graph-requires-2 c =
    graph_plannable c.in_ok-check_graph_with-2.ensures (omega arith) (impl-rows (inputs (goal.at.plan_graph-requires-2 c).In_ok-check_pairing))
    (c.check_graph_with-2.auto.rest ∙ c.requires.1)

pub link_banks-requires : goal.link_banks-requires
link_banks-requires c =
    leaves_linkable (inputs (goal.at.link_banks-requires c).In_ok-check_pairing) c.requires.2

pub slice_bounds-check_paths-end : goal.slice_bounds-check_paths-end
slice_bounds-check_paths-end c =
    let room = c.check_graph_with.auto.order ∙ length-replicate {A = ℕ} max_edges 0 in
    search (rules, room)

pub check_paths-requires : goal.check_paths-requires
check_paths-requires c =
    let room = length-replicate {A = ℕ} max_edges 0 in (
      plans (goal.at.check_paths-requires c).After-link_banks,
      omega (arith, c.check_graph_with.auto.order, room),
      omega (arith, c.check_graph_with-2.auto.order, room),
    )

pub shape_of-spec_plan : goal.shape_of-spec_plan
shape_of-spec_plan c =
    c.plan_graph.auto.plan ∙ c.check_graph_with.auto.rest

pub shape_of-impl_plan : goal.shape_of-impl_plan
shape_of-impl_plan c =
    c.plan_graph-2.auto.plan ∙ c.check_graph_with-2.auto.rest

pub returns : goal.returns
returns c =
    let t = tables (goal.at.returns c).Start in
    rest-paths t (plans (goal.at.returns c).After-link_banks) c.check_paths.ensures (pairing-on t c.in_ok-check_graph_with.ensures.answers c.in_ok-check_graph_with-2.ensures.answers c.in_ok-check_pairing.ensures)
