use Rattle.std.specs.Prelude.{Some}
use mathlib.Core.Path.{◌≡◌, refl, sym, ap, ◌∙◌, subst}
use mathlib.Core.Bool.{true, false, not}
use mathlib.Core.Logic.{◌≢◌, inl, inr}
use lib.Dec.{T}
use Prim.Native.Nat.{ℕ, ◌<◌, ◌-◌}
use native.Mathlib.Omega.{arith}
use lib.IntN.{ℤ, pos, nat_abs}
use lib.ListN.{length}
use Rattle.model.specs.Rows.{edge_rows}
use Rattle.model.specs.Graph.{graph_of, NodeRow, node, bit_offset}
use Rattle.extents.specs.Extents.{bits_of}
use Rattle.runs.specs.Clipping.{run_of}
use Rattle.tables.proofs.Rows.{edges_length}
use Rattle.tables.specs.Tables.{edge_at}
use Rattle.extents.proofs.Rows.{node-good}
use Rattle.references.specs.References.{Reference, reference_of, brought_of, through, is_none}
use Rattle.references.specs.declared.Reference.{Reference as Held}
use Rattle.references.proofs.Bringing.{none_brings}
use Rattle.arrivals.specs.State.{is_met, reference_at, is_listed, list_row, count_of, root_in, kind_in}
use Rattle.arrivals.specs.Sweep.{Gatherable}
use Rattle.arrivals.proofs.Gathering.{Through, owner-few, list_readable, list_cuttable, list_gathered, none_left, owner-other, head_is, through-start, through_end, through-agrees, next-is, next_onward, turn_crossable, turn_nothing, turn_part, part_gatherable, crossing_part, crossing_nothing}
use Rattle.arrivals.proofs.+gather.Goals.{After-brought_over, After-stored_at-list, After-whole-bits, At-loop-e, Else-is_listed, In-loop-e, Then-is_listed}
use Rattle.arrivals.proofs.+gather.Goals as goal

-- a list of the owner is stored
listed : (t : ℕ) → (c : Then-is_listed t)
    → is_listed c.args.state.now c.args.f.owner ≡ true
listed t c = sym c.is_listed.ensures ∙ c.if-is_listed.true

-- none is stored
unlisted : (t : ℕ) → (c : Else-is_listed t)
    → is_listed c.args.state.now c.args.f.owner ≡ false
unlisted t c = sym c.is_listed.ensures ∙ c.if-is_listed.false

pub is_listed-requires : goal.is_listed-requires
is_listed-requires t c = let k = c.requires in omega (arith, owner-few k c.args.f.owner refl, k.sweeping.room)

pub stored_at-list-requires : goal.stored_at-list-requires
stored_at-list-requires t c =
    list_readable c.requires c.args.f.owner refl (listed t c)

pub number_at-requires : goal.number_at-requires
number_at-requires t c =
    let w = c.requires.sweeping in
    (omega (arith, w.room), w.root.row.low)

pub whole-bits-requires : goal.whole-bits-requires
whole-bits-requires t c =
    let w = c.requires.sweeping in
    node-good w.tables (subst (NodeRow (graph_of c.args.nodes.now c.args.edges.now)) (sym c.number_at.ensures) w.root.row)

-- all bits of the root
root-bits : (t : ℕ) → (c : After-whole-bits t)
    → run_of c.whole-bits.result ≡ bits_of (node (graph_of c.args.nodes.now c.args.edges.now) (root_in c.args.state.now))
root-bits t c =
    c.whole-bits.ensures c.args.edges.now ∙ ap (λ (v : ℤ). bits_of (node (graph_of c.args.nodes.now c.args.edges.now) v)) c.number_at.ensures

-- where the list stands
stored : (t : ℕ) → (c : After-stored_at-list t)
    → (c.stored_at-list.result.row ≡ list_row c.args.state.now c.args.f.owner) × (c.stored_at-list.result.count ≡ count_of c.args.state.now c.args.f.owner)
stored t c = (ap nat_abs c.stored_at-list.ensures.0, ap nat_abs c.stored_at-list.ensures.1)

pub gather_list-requires : goal.gather_list-requires
gather_list-requires t c =
    rw ((stored t (goal.at.gather_list-requires t c).After-stored_at-list).0, (stored t (goal.at.gather_list-requires t c).After-stored_at-list).1) (list_cuttable c.requires c.args.f.owner refl (listed t (goal.at.gather_list-requires t c).Then-is_listed) (root-bits t (goal.at.gather_list-requires t c).After-whole-bits))

pub returns-then-is_listed : goal.returns-then-is_listed
returns-then-is_listed t c =
    list_gathered c.requires c.args.f.owner refl (listed t (goal.at.returns-then-is_listed t c).Then-is_listed) (rw (← (stored t (goal.at.returns-then-is_listed t c).After-stored_at-list).0, ← (stored t (goal.at.returns-then-is_listed t c).After-stored_at-list).1) c.gather_list.ensures)

pub returns-then-left-eq0 : goal.returns-then-left-eq0
returns-then-left-eq0 t c =
    none_left c.requires c.args.f.owner refl (unlisted t (goal.at.returns-then-left-eq0 t c).Else-is_listed) c.if-left-eq0.true

pub first_entering-e-requires : goal.first_entering-e-requires
first_entering-e-requires t c =
    let k = c.requires in
    omega (arith, owner-few k c.args.f.owner refl, k.sweeping.planned.room)

-- the owner is not the root
other : (t : ℕ) → (l : At-loop-e t)
    → root_in l.args.state.now ≢ pos l.args.f.owner
other t l = owner-other l.requires l.args.f.owner refl (unlisted t (goal.at.At-loop-e t l).Else-is_listed)

-- the edge of a turn is there
within : (t : ℕ) → (i : In-loop-e t)
    → i.loop-e.e < length (edge_rows i.args.edges.now)
within t i =
    omega (arith, i.loop-e-test.true, edges_length i.args.edges.now)

pub loop-e-init : goal.loop-e-init
loop-e-init t c =
    subst (λ (e : ℕ). Through c.args.nodes.now c.args.edges.now (reference_of c.args.f) c.args.state.now c.args.n c.args.state.now c.args.n e)
    (sym (c.first_entering-e.ensures ∙ head_is c.requires c.args.f.owner refl)) (through-start c.args.state.now c.args.n)

pub brought_over-requires : goal.brought_over-requires
brought_over-requires t c =
    turn_crossable c.requires (other t (goal.at.brought_over-requires t c).At-loop-e) c.loop-e.invariant (within t c)

-- what the code says that the edge brings
brought : (t : ℕ) → (x : After-brought_over t) {h : Held} → x.brought_over.result ≡ Some h
    → let g = graph_of x.args.nodes.now x.args.edges.now in
    let e = edge_at x.args.edges.now x.loop-e.e in
    let part = through (bit_offset g e) (reference_of x.args.f) (reference_at x.loop-e.state (nat_abs e.from)) in
    (is_met x.loop-e.state (nat_abs e.from) ≡ true) × T (not (is_none part)) × (reference_of h ≡ part)
brought t x {h} q =
    let g = graph_of x.args.nodes.now x.args.edges.now in
    let e = edge_at x.args.edges.now x.loop-e.e in
    crossing_part g e (reference_of x.args.f) (reference_of h) x.loop-e.state (sym (ap brought_of q) ∙ x.brought_over.ensures)

pub overflow_sub-left : goal.overflow_sub-left
overflow_sub-left t c = omega arith

pub gather-m-requires : goal.gather-m-requires
gather-m-requires t c =
    let p = brought t (goal.at.gather-m-requires t c).After-brought_over c.in-Some.is in (
      omega (arith, c.if-left-eq0.false),
      subst (λ (f : Reference). Gatherable c.args.nodes.now c.args.edges.now c.args.plan.now f (c.args.left - 1) c.loop-e.state c.loop-e.m) (sym p.2)
          (part_gatherable c.requires (other t (goal.at.gather-m-requires t c).At-loop-e) c.loop-e.invariant (within t (goal.at.gather-m-requires t c).In-loop-e) p.0 p.1 (omega (arith, c.if-left-eq0.false))),
    )

pub next_entering-e-requires : goal.next_entering-e-requires
next_entering-e-requires t c =
    omega (arith, within t (goal.at.next_entering-e-requires t c).In-loop-e, edges_length c.args.edges.now, c.requires.sweeping.planned.room, c.requires.sweeping.tables.edges.few)

pub loop-e-smaller : goal.loop-e-smaller
loop-e-smaller t c =
    omega (arith, c.next_entering-e.ensures, next_onward c.requires (other t (goal.at.loop-e-smaller t c).At-loop-e) c.loop-e.invariant (within t (goal.at.loop-e-smaller t c).In-loop-e), c.loop-e-test.true)

pub loop-e-preserved : goal.loop-e-preserved
loop-e-preserved t c =
    let g = graph_of c.args.nodes.now c.args.edges.now in
    let e = edge_at c.args.edges.now c.loop-e.e in
    let f = reference_of c.args.f in
    let k = c.requires in
    rw (c.next_entering-e.ensures, next-is k (other t (goal.at.loop-e-preserved t c).At-loop-e) c.loop-e.invariant (within t (goal.at.loop-e-preserved t c).In-loop-e)) (elim c.match-brought_over.branch-raw [
      | inl w ↦
          let p = brought t (goal.at.loop-e-preserved t c).After-brought_over w.in-Some.is in
          rw (w.state-is, w.m-is) (turn_part k (other t (goal.at.loop-e-preserved t c).At-loop-e) c.loop-e.invariant (within t (goal.at.loop-e-preserved t c).In-loop-e) p.0 p.1 (rw (← p.2) w.gather-m.ensures))
      | inr w ↦
          rw (w.state-is, w.m-is) (turn_nothing k (other t (goal.at.loop-e-preserved t c).At-loop-e) c.loop-e.invariant (within t (goal.at.loop-e-preserved t c).In-loop-e)
          (λ y b m z. none_brings (kind_in c.args.state.now) g (root_in c.args.state.now) (through (bit_offset g e) f (reference_at c.loop-e.state (nat_abs e.from))) y b
          (crossing_nothing g e f c.loop-e.state (sym (ap brought_of w.in_default.is) ∙ c.brought_over.ensures) m) z))
    ])

pub shape_of-state : goal.shape_of-state
shape_of-state t c =
    (through-agrees c.requires (other t (goal.at.shape_of-state t c).At-loop-e) c.loop-e.invariant).long

pub returns : goal.returns
returns t c =
    through_end c.requires (other t (goal.at.returns t c).At-loop-e) c.loop-e.invariant (omega (arith, c.loop-e-test.false, edges_length c.args.edges.now))
