use mathlib.Core.Path.{refl, sym, subst, ◌∙◌}
use mathlib.Core.List.{List}
use Prim.Native.Nat.{ℕ, ◌+◌, ◌*◌, ◌≤◌, ◌<◌}
use native.Mathlib.Omega.{arith}
use lib.IntN.{ℤ}
use lib.ListN.{length}
use Rattle.model.specs.Compare.{Tables}
use Rattle.pairing.specs.Pairs.{tables_of}
use Rattle.grouping.specs.Links.{group_count, Linked}
use Rattle.grouping.proofs.Passing.{groups-few}
use Rattle.pairs.specs.Found.{finding_at, PairReady}
use Rattle.holding.specs.Held.{held_width}
use Rattle.totals.specs.Kept.{IsFinding}
use Rattle.rowpairs.proofs.Holds.{held_more, still_true}
use Rattle.rowpairs.proofs.hold_pairs.Goals.{At-loop-group, In-loop-group, Start}
use Rattle.rowpairs.proofs.hold_pairs.Goals as goal

abbrev tables : Start → List ℤ → Tables
tables s roots =
    let a = s.args in
    tables_of a.spec_nodes.now a.spec_edges.now a.impl_nodes.now a.impl_edges.now roots a.leaf_pairs.now

-- the links of groups
linked : (l : At-loop-group) → Linked l.args.leaf_pairs.now l.args.links.now
linked l = l.requires.ready.ready.plans.linked

-- the group of a turn is there
there : (c : In-loop-group) → c.loop-group.group < group_count c.args.links.now
there c = omega (arith, c.loop-group-test.true, c.group_count-group-end.ensures)

-- the pairs of the row can be found at each turn
ready : (l : At-loop-group) → let a = l.args in
    PairReady l.requires.kind (tables (goal.at.At-loop-group l).Start l.requires.root_pairs) l.requires.row a.spec_plan.now a.impl_plan.now a.links.now l.loop-group.spec_state l.loop-group.impl_state
    l.loop-group.spare
ready l = (l.loop-group.invariant.0 _ _ _ l.requires.ready).0

-- there is room for what is held of the group
room : (c : In-loop-group) → held_width * c.loop-group.group + held_width ≤ length c.loop-group.held
room c =
    omega (arith, there c, groups-few (linked (goal.at.group_row-lowest-requires c).At-loop-group) c.requires.ready.ready.plans.inputs.leaf_shape.few, c.requires.room, c.loop-group.invariant.1)

pub group_count-group-end-requires : goal.group_count-group-end-requires
group_count-group-end-requires c = c.requires.ready.ready.plans.linked.room

pub loop-group-init : goal.loop-group-init
loop-group-init c = (λ kind roots i k. (k, λ group h. absurd (omega arith), λ a b. a), refl)

pub group_row-lowest-requires : goal.group_row-lowest-requires
group_row-lowest-requires c =
    omega (arith, there c, groups-few (linked (goal.at.group_row-lowest-requires c).At-loop-group) c.requires.ready.ready.plans.inputs.leaf_shape.few, (linked (goal.at.group_row-lowest-requires c).At-loop-group).room)

pub pair_found-found-requires : goal.pair_found-found-requires
pair_found-found-requires c =
    record {
      kind = c.requires.kind;
      root_pairs = c.requires.root_pairs;
      root_row = c.requires.row;
      ready = ready (goal.at.pair_found-found-requires c).At-loop-group;
      group = c.loop-group.group;
      there = there (goal.at.pair_found-found-requires c).In-loop-group;
      lowest = c.group_row-lowest.ensures;
    }

pub hold-requires : goal.hold-requires
hold-requires c =
    (room (goal.at.hold-requires c).In-loop-group, (c.pair_found-found.ensures _ _ _ (ready (goal.at.hold-requires c).At-loop-group)).few)

pub loop-group-preserved : goal.loop-group-preserved
loop-group-preserved c =
    let a = c.args in (
      λ kind roots i k.
          let before = c.loop-group.invariant.0 kind roots i k in
          let found = c.pair_found-found.ensures kind roots i before.0 in
          let own = subst (λ (j : ℕ). IsFinding kind (finding_at (tables (goal.at.loop-group-preserved c).Start roots) i j) c.loop-group.wanted c.pair_found-found.result) c.group_row-lowest.ensures found.found in (
            found.ready,
            held_more kind (tables (goal.at.loop-group-preserved c).Start roots) i a.links.now a.asked c.loop-group.wanted c.loop-group.held c.loop-group.group c.pair_found-found.result (room (goal.at.loop-group-preserved c).In-loop-group) before.1
                before.2 own found.few c.hold.ensures,
            λ e equal. c.still_asked-wanted.ensures ∙ still_true (before.2 e (λ group q. equal group (omega (arith, q)))) (own.verdict ∙ equal c.loop-group.group (omega arith)),
          ),
      c.hold.auto.held ∙ c.loop-group.invariant.1,
    )

pub shape_of-spec_state : goal.shape_of-spec_state
shape_of-spec_state c = (ready (goal.at.shape_of-spec_state c).At-loop-group).rooms.spec ∙ sym c.requires.ready.rooms.spec

pub shape_of-impl_state : goal.shape_of-impl_state
shape_of-impl_state c = (ready (goal.at.shape_of-impl_state c).At-loop-group).rooms.impl ∙ sym c.requires.ready.rooms.impl

pub shape_of-spare : goal.shape_of-spare
shape_of-spare c = (ready (goal.at.shape_of-spare c).At-loop-group).rooms.list ∙ sym c.requires.ready.rooms.list

pub shape_of-held : goal.shape_of-held
shape_of-held c = c.loop-group.invariant.1

pub returns : goal.returns
returns c kind roots i k group h =
    (c.loop-group.invariant.0 kind roots i k).1 group (omega (arith, h, c.loop-group-test.false, c.group_count-group-end.ensures))
