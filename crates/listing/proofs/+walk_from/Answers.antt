-- Where the walker may stand its rows are those of the laws: at the leaf its row, elsewhere those of the edges that leave the node.
use mathlib.Core.Path.{ap, ◌∙◌}
use mathlib.Core.List.{flat_map}
use mathlib.Core.Logic.{inl, inr}
use Prim.Native.Nat.{◌≤◌, ◌+◌, ◌-◌, ◌*◌}
use native.Mathlib.Omega.{arith}
use lib.IntN.{ℤ, pos}
use lib.ListN.{length}
use Rattle.integers.proofs.Linear.{ints}
use Rattle.model.specs.Graph.{graph_of}
use Rattle.model.specs.Runs.{leaving}
use Rattle.extents.proofs.Rows.{node-good, to_row}
use Rattle.sorting.specs.Rows.{row_width}
use Rattle.listing.proofs.Appending.{append_none, append_length}
use Rattle.listing.proofs.Passing.{head_there, entered_row, nexts_length, passing_start, passing_end, turn_room, turn_next, turn_onward}
use Rattle.listing.proofs.+walk_from.Goals as goal

pub leaf_row-requires : goal.leaf_row-requires
leaf_row-requires g t c =
    let p = c.requires.start in (node-good p.0.tables p.0.block.row, c.requires.laws.small _ _ _ p.2)

pub append_row-requires : goal.append_row-requires
append_row-requires g t c =
    let gr = graph_of c.args.nodes.now c.args.edges.now in
    let leaf = c.requires.laws.at_leaf c.args.kind c.args.left gr (pos c.args.v) (pos c.args.leaf) c.args.walker c.requires.start.2 (ap pos c.if-v-leaf.true) in
    omega (arith, c.requires.start.3, ap length leaf)

pub returns-then-v-leaf : goal.returns-then-v-leaf
returns-then-v-leaf g t c =
    let gr = graph_of c.args.nodes.now c.args.edges.now in
    let leaf = c.requires.laws.at_leaf c.args.kind c.args.left gr (pos c.args.v) (pos c.args.leaf) c.args.walker c.requires.start.2 (ap pos c.if-v-leaf.true) in
    rw (leaf, ← c.leaf_row.ensures c.args.edges.now) c.append_row.ensures

pub returns-then-left-eq0 : goal.returns-then-left-eq0
returns-then-left-eq0 g t c =
    let gr = graph_of c.args.nodes.now c.args.edges.now in
    let end = c.requires.laws.at_end c.args.kind c.args.left gr (pos c.args.v) (pos c.args.leaf) c.args.walker c.requires.start.2 (λ e. c.if-v-leaf.false (omega (arith, ints, e))) c.if-left-eq0.true in
    rw end (append_none c.args.out.now c.args.n)

pub offset_bounds-head-v : goal.offset_bounds-head-v
offset_bounds-head-v g t c = let p = c.requires.start in omega (arith, head_there p.0 p.1)

pub bounds-head-v : goal.bounds-head-v
bounds-head-v g t c = let p = c.requires.start in omega (arith, head_there p.0 p.1)

pub loop-e-init : goal.loop-e-init
loop-e-init g t c =
    let p = c.requires.start in
    let gr = graph_of c.args.nodes.now c.args.edges.now in
    passing_start (g.W.Walker.rows_over c.args.kind (c.args.left - 1) gr (pos c.args.leaf) c.args.walker) c.args.out.now c.args.n p.0 p.1
    (λ e m z. c.requires.laws.dead c.args.kind (c.args.left - 1) gr (pos c.args.leaf) c.args.walker e p.0.tables.graph p.0.block z)

pub over-requires : goal.over-requires
over-requires g t c =
    let p = c.requires.start in (p.0.tables, omega arith, c.requires.laws.small _ _ _ p.2)

pub edge_to-to-requires : goal.edge_to-to-requires
edge_to-to-requires g t c =
    (omega arith, (to_row c.requires.start.0.tables c.loop-e.e (omega arith)).low)

pub walk_from-m-requires : goal.walk_from-m-requires
walk_from-m-requires g t c = λ κs lives.
    let p = c.requires.start in
    let gr = graph_of c.args.nodes.now c.args.edges.now in
    let on = c.requires.laws.onward c.args.kind c.args.left gr (pos c.args.v) (pos c.args.leaf) c.args.walker c.requires.start.2 (λ e. c.if-v-leaf.false (omega (arith, ints, e))) c.if-left-eq0.false in
    let room : row_width * (c.args.n + length (flat_map (g.W.Walker.rows_over c.args.kind (c.args.left - 1) gr (pos c.args.leaf) c.args.walker) (leaving gr (pos c.args.v)))) ≤ length c.args.out.now = omega (arith, c.requires.start.3, ap length on) in
    let rows = ap (λ (v : ℤ). g.W.Walker.rows c.args.kind (c.args.left - 1) gr v (pos c.args.leaf) c.in-Some.entered) c.edge_to-to.ensures ∙ c.in-Some.ensures.1 (c.args.left - 1) (pos c.args.leaf) in (
      omega arith,
      (
        lives,
        (
          c.requires.laws,
          (
            p.0,
            entered_row p.0 c.loop-e.e c.loop-e-test.true c.edge_to-to.ensures,
            rw c.edge_to-to.ensures c.in-Some.ensures.0,
            rw rows (turn_room c.loop-e.invariant c.loop-e-test.true room),
          ),
        ),
      ),
    )

pub edge_behind-e-requires : goal.edge_behind-e-requires
edge_behind-e-requires g t c = omega (arith, nexts_length c.requires.start.0)

pub loop-e-smaller : goal.loop-e-smaller
loop-e-smaller g t c =
    omega (arith, c.edge_behind-e.ensures, turn_onward c.loop-e.invariant c.loop-e-test.true)

pub loop-e-preserved : goal.loop-e-preserved
loop-e-preserved g t c =
    let gr = graph_of c.args.nodes.now c.args.edges.now in
    let on = c.requires.laws.onward c.args.kind c.args.left gr (pos c.args.v) (pos c.args.leaf) c.args.walker c.requires.start.2 (λ e. c.if-v-leaf.false (omega (arith, ints, e))) c.if-left-eq0.false in
    let room : row_width * (c.args.n + length (flat_map (g.W.Walker.rows_over c.args.kind (c.args.left - 1) gr (pos c.args.leaf) c.args.walker) (leaving gr (pos c.args.v)))) ≤ length c.args.out.now = omega (arith, c.requires.start.3, ap length on) in
    let next = turn_next c.loop-e.invariant c.loop-e-test.true room in
    rw c.edge_behind-e.ensures (elim c.match-over.branch-raw [
      | inl w ↦
          let rows = ap (λ (v : ℤ). g.W.Walker.rows c.args.kind (c.args.left - 1) gr v (pos c.args.leaf) w.in-Some.entered) w.edge_to-to.ensures ∙ w.in-Some.ensures.1 (c.args.left - 1) (pos c.args.leaf) in
          next (rw (← rows, w.out-is, w.m-is) w.walk_from-m.ensures)
      | inr w ↦ next (rw (w.in_default.ensures (c.args.left - 1) (pos c.args.leaf), w.out-is, w.m-is) (append_none c.loop-e.out c.loop-e.m))
    ])

pub shape_of-out : goal.shape_of-out
shape_of-out g t c =
    let gr = graph_of c.args.nodes.now c.args.edges.now in
    let on = c.requires.laws.onward c.args.kind c.args.left gr (pos c.args.v) (pos c.args.leaf) c.args.walker c.requires.start.2 (λ e. c.if-v-leaf.false (omega (arith, ints, e))) c.if-left-eq0.false in
    let room : row_width * (c.args.n + length (flat_map (g.W.Walker.rows_over c.args.kind (c.args.left - 1) gr (pos c.args.leaf) c.args.walker) (leaving gr (pos c.args.v)))) ≤ length c.args.out.now = omega (arith, c.requires.start.3, ap length on) in
    append_length room (passing_end c.loop-e.invariant c.loop-e-test.false)

pub returns : goal.returns
returns g t c =
    let gr = graph_of c.args.nodes.now c.args.edges.now in
    let on = c.requires.laws.onward c.args.kind c.args.left gr (pos c.args.v) (pos c.args.leaf) c.args.walker c.requires.start.2 (λ e. c.if-v-leaf.false (omega (arith, ints, e))) c.if-left-eq0.false in
    rw on (passing_end c.loop-e.invariant c.loop-e-test.false)
