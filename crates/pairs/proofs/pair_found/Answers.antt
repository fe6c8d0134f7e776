-- The list of the specification leaf and that of the group are asked of their graphs, and the two are judged where they stand.
use mathlib.Core.Path.{◌≡◌, ◌∙◌}
use mathlib.Core.List.{List}
use Prim.Native.Nat.{ℕ, ◌*◌, ◌≤◌}
use native.Mathlib.Omega.{arith}
use lib.IntN.{ℤ, nat_abs}
use lib.ListN.{length}
use mir.Syntax.{w64}
use mir.Facts.{to_z-of_z}
use borrow.Author.Rules.{rules, sfits_of}
use Rattle.model.specs.declared.WalkKind.{WalkKind}
use Rattle.model.specs.Compare.{Tables, finding_of, kind_verdict}
use Rattle.tables.specs.Tables.{pair_at}
use Rattle.pairing.specs.Pairs.{tables_of}
use Rattle.sorting.specs.Rows.{row_width}
use Rattle.arrivals.specs.State.{state_room}
use Rattle.groups.specs.Banks.{ListAnswered}
use Rattle.pairs.specs.Found.{PairReady}
use Rattle.pairs.proofs.Lists.{PairList}
use Rattle.pairs.proofs.Sides.{spec_list, impl_list, leaf-there, spec-leaf, spec-list, impl-list, spec_askable, impl_askable, spec_answered, impl_answered, side_rows, side_few, side_small, side_swept}
use Rattle.pairs.proofs.pair_found.Goals.{After-list_at-spec, After-list_group-implementation, Start}
use Rattle.pairs.proofs.pair_found.Goals as goal

-- the tables of the comparison for these root pairs
abbrev tables : Start → List ℤ → Tables
tables s roots =
    let a = s.args in
    tables_of a.spec_nodes.now a.spec_edges.now a.impl_nodes.now a.impl_edges.now roots a.leaf_pairs.now

-- the graphs are swept from the roots of row i of these root pairs
abbrev From : WalkKind → Start → List ℤ → ℕ → Type 0
From kind s roots i =
    let a = s.args in
    PairReady kind (tables s roots) i a.spec_plan.now a.impl_plan.now a.links.now a.spec_state.now a.impl_state.now a.spare.now

-- the two lists of the pair
abbrev specIs : (s : Start) {kind : WalkKind} {roots : List ℤ} {i : ℕ} (k : From kind s roots i) → PairList (spec_list k s.requires.there s.requires.lowest)
specIs s k = spec-list k s.requires.there s.requires.lowest

abbrev implIs : (s : Start) {kind : WalkKind} {roots : List ℤ} {i : ℕ} (k : From kind s roots i) → PairList (impl_list k s.requires.there s.requires.lowest)
implIs s k = impl-list k s.requires.there s.requires.lowest

pub spec_node-spec_leaf-requires : goal.spec_node-spec_leaf-requires
spec_node-spec_leaf-requires c =
    let k = c.requires.ready in
    (omega (arith, leaf-there k c.requires.there c.requires.lowest), (spec-leaf k c.requires.there c.requires.lowest).row.low)

pub list_at-spec-requires : goal.list_at-spec-requires
list_at-spec-requires c =
    spec_askable c.requires.ready c.requires.there c.requires.lowest c.spec_node-spec_leaf.ensures

pub list_group-implementation-requires : goal.list_group-implementation-requires
list_group-implementation-requires c =
    impl_askable c.requires.ready c.requires.there c.requires.lowest c.list_at-spec.auto.spare

-- what is answered of each
specAnswer : (l : After-list_at-spec) {kind : WalkKind} {roots : List ℤ} {i : ℕ} (k : From kind (goal.at.After-list_at-spec l).Start roots i) → let a = l.args in
    ListAnswered kind a.spec_nodes.now a.spec_edges.now a.spec_plan.now (nat_abs (pair_at roots i).spec) (spec_list k l.requires.there l.requires.lowest)
    l.list_at-spec.new.state l.list_at-spec.result
specAnswer l k =
    spec_answered k l.requires.there l.requires.lowest l.spec_node-spec_leaf.ensures (l.list_at-spec.ensures _ _ k.spec)

implAnswer : (m : After-list_group-implementation) {kind : WalkKind} {roots : List ℤ} {i : ℕ} (k : From kind (goal.at.After-list_group-implementation m).Start roots i) → let a = m.args in
    ListAnswered kind a.impl_nodes.now a.impl_edges.now a.impl_plan.now (nat_abs (pair_at roots i).impl) (impl_list k m.requires.there m.requires.lowest)
    m.list_group-implementation.new.state m.list_group-implementation.result
implAnswer m k = impl_answered k m.requires.there m.requires.lowest (m.list_group-implementation.ensures _ _ k.impl)

-- each lies in its state, which has the room that it had
spec_at : (l : After-list_at-spec) → let new = l.list_at-spec.new.state in (row_width * l.list_at-spec.result.row ≤ length new) × (length new ≡ state_room)
spec_at l =
    let k = l.requires.ready in
    (omega (arith, (specAnswer l k).within), l.list_at-spec.auto.state ∙ k.rooms.spec)

impl_at : (m : After-list_group-implementation)
    → let new = m.list_group-implementation.new.state in (row_width * m.list_group-implementation.result.row ≤ length new) × (length new ≡ state_room)
impl_at m =
    let k = m.requires.ready in
    (omega (arith, (implAnswer m k).within), m.list_group-implementation.auto.state ∙ k.rooms.impl)

pub overflow_mul-spec_at : goal.overflow_mul-spec_at
overflow_mul-spec_at c = omega (arith, spec_at (goal.at.overflow_mul-spec_at c).After-list_at-spec)

pub overflow_mul-impl_at : goal.overflow_mul-impl_at
overflow_mul-impl_at c = omega (arith, impl_at (goal.at.overflow_mul-impl_at c).After-list_group-implementation)

pub offset_bounds-spec_state-spec_at : goal.offset_bounds-spec_state-spec_at
offset_bounds-spec_state-spec_at c = omega (arith, spec_at (goal.at.offset_bounds-spec_state-spec_at c).After-list_at-spec)

pub slice_bounds-judge-count : goal.slice_bounds-judge-count
slice_bounds-judge-count c = (spec_at (goal.at.slice_bounds-judge-count c).After-list_at-spec).0

pub slice_bounds-judge-start : goal.slice_bounds-judge-start
slice_bounds-judge-start c = (spec_at (goal.at.slice_bounds-judge-start c).After-list_at-spec).0

pub offset_bounds-impl_state-impl_at : goal.offset_bounds-impl_state-impl_at
offset_bounds-impl_state-impl_at c = omega (arith, impl_at (goal.at.offset_bounds-impl_state-impl_at c).After-list_group-implementation)

pub slice_bounds-judge-count-2 : goal.slice_bounds-judge-count-2
slice_bounds-judge-count-2 c = (impl_at (goal.at.slice_bounds-judge-count-2 c).After-list_group-implementation).0

pub slice_bounds-judge-start-2 : goal.slice_bounds-judge-start-2
slice_bounds-judge-start-2 c = (impl_at (goal.at.slice_bounds-judge-start-2 c).After-list_group-implementation).0

pub judge-judged-requires : goal.judge-judged-requires
judge-judged-requires c =
    let k = c.requires.ready in
    let room = c.list_group-implementation.auto.spare ∙ c.list_at-spec.auto.spare ∙ k.rooms.list in (
      side_small (specIs (goal.at.judge-judged-requires c).Start k) (specAnswer (goal.at.judge-judged-requires c).After-list_at-spec k),
      side_small (implIs (goal.at.judge-judged-requires c).Start k) (implAnswer (goal.at.judge-judged-requires c).After-list_group-implementation k),
      omega (arith, side_few (specIs (goal.at.judge-judged-requires c).Start k) (specAnswer (goal.at.judge-judged-requires c).After-list_at-spec k), room),
      omega (arith, side_few (implIs (goal.at.judge-judged-requires c).Start k) (implAnswer (goal.at.judge-judged-requires c).After-list_group-implementation k), room),
    )

pub shape_of-spec_state : goal.shape_of-spec_state
shape_of-spec_state c = search rules

pub shape_of-impl_state : goal.shape_of-impl_state
shape_of-impl_state c = search rules

pub shape_of-spare : goal.shape_of-spare
shape_of-spare c = search rules

pub returns : goal.returns
unfolding finding_of kind_verdict
returns c _ _ _ k =
    let judged = c.judge-judged.ensures _ _ (specIs (goal.at.returns c).Start k).normal (implIs (goal.at.returns c).Start k).normal (side_rows (specIs (goal.at.returns c).Start k) (specAnswer (goal.at.returns c).After-list_at-spec k)) (side_rows (implIs (goal.at.returns c).Start k) (implAnswer (goal.at.returns c).After-list_group-implementation k)) in
    let spec = side_swept (specIs (goal.at.returns c).Start k) (specAnswer (goal.at.returns c).After-list_at-spec k) c.judge-judged.new.spec c.judge-judged.auto.spec in
    let impl = side_swept (implIs (goal.at.returns c).Start k) (implAnswer (goal.at.returns c).After-list_group-implementation k) c.judge-judged.new.imp c.judge-judged.auto.imp in
    record {
      ready = record { ready = k.ready; rooms = record { spec = shape_of-spec_state c ∙ k.rooms.spec; impl = shape_of-impl_state c ∙ k.rooms.impl; list = shape_of-spare c ∙ k.rooms.list }; row = k.row; spec = spec; impl = impl };
      found = record {
        verdict = judged.verdict;
        spec = (specAnswer (goal.at.returns c).After-list_at-spec k).count;
        impl = (implAnswer (goal.at.returns c).After-list_group-implementation k).count;
        address = λ a. to_z-of_z (sfits_of {w = w64} c.judge-judged.type_inv.1.1.1.0.1) ∙ judged.address a;
      };
      few = record { spec = side_few (specIs (goal.at.returns c).Start k) (specAnswer (goal.at.returns c).After-list_at-spec k); impl = side_few (implIs (goal.at.returns c).Start k) (implAnswer (goal.at.returns c).After-list_group-implementation k) };
    }
