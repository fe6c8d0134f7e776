-- A number that passes the test for a node row is cast, and the kind stands at the front of its row.
use Rattle.std.specs.Prelude as std
use mathlib.Core.Path.{◌≡◌, sym, ap, ◌∙◌}
use mathlib.Core.Bool.{true}
use mathlib.Core.List.{List, []}
use Prim.Native.Nat.{◌+◌, ◌*◌, ◌≤◌}
use native.Mathlib.Omega.{arith}
use borrow.Author.Rules.{rules}
use lib.IntN.{ℤ, pos, nat_abs}
use lib.Signed.{◌≤ℤ◌}
use lib.ListN.{length, get_or}
use mir.Syntax.{w64}
use mir.Val.{SFits, to_z, of_z}
use mir.Facts.{to_z-of_z}
use Rattle.integers.proofs.Tests.{test_of, T_true}
use Rattle.model.specs.Limits.{node_width}
use Rattle.model.specs.Graph.{graph_of}
use Rattle.model.specs.Checks.{is_row}
use Rattle.model.proofs.GraphChecks.{is_row?}
use Rattle.tables.proofs.Cells.{index_fits, index_same}
use Rattle.tables.proofs.Rows.{graph-nodes_length}
use Rattle.named.specs.Naming.{kind_of}
use Rattle.named.proofs.Roots.{kind-none, row-there, row-kind}
use Rattle.named.proofs.kind_at.Goals.{After-is_row, Else-not-is_row}
use Rattle.named.proofs.kind_at.Goals as goal

row_told : (c : After-is_row) (es : List ℤ) → c.is_row.result ≡ is_row (graph_of c.args.nodes.now es) c.args.v
row_told c es =
    let ns = c.args.nodes.now in
    simp (to_z-of_z, c.ranges.v) at (c.is_row.ensures (graph_of ns es) (graph-nodes_length ns es))

row_low : (c : Else-not-is_row) → pos 0 ≤ℤ c.args.v
row_low c =
    let a = c.args in
    let g = graph_of a.nodes.now [] in
    (test_of (is_row? g a.v) (T_true (is_row g a.v) (sym (row_told (goal.at.overflow_cast-result c).After-is_row []) ∙ c.if-not-is_row.false))).low

row_same : (c : Else-not-is_row) → pos (nat_abs (to_z w64 (of_z w64 c.args.v))) ≡ c.args.v
row_same c = index_same c.ranges.v (row_low c)

row-passes : (c : Else-not-is_row) (es : List ℤ) → let a = c.args in
    is_row (graph_of a.nodes.now es) (pos (nat_abs (to_z w64 (of_z w64 a.v)))) ≡ true
row-passes c es =
    ap (is_row (graph_of c.args.nodes.now es)) (row_same c) ∙ sym (row_told (goal.at.overflow_cast-result c).After-is_row es) ∙ c.if-not-is_row.false

there : (c : Else-not-is_row) → let a = c.args in node_width * nat_abs (to_z w64 (of_z w64 a.v)) + node_width ≤ length a.nodes.now
there c = let a = c.args in row-there a.nodes.now [] (nat_abs (to_z w64 (of_z w64 a.v))) (row-passes c [])

pub overflow_cast-result : goal.overflow_cast-result
overflow_cast-result c = index_fits c.ranges.v (row_low c)

pub overflow_mul-result : goal.overflow_mul-result
overflow_mul-result c = omega (arith, there c)

pub offset_bounds-nodes-v : goal.offset_bounds-nodes-v
offset_bounds-nodes-v c = omega (arith, there c)

pub bounds-nodes-v : goal.bounds-nodes-v
bounds-nodes-v c = omega (arith, there c)

pub returns-then-not-is_row : goal.returns-then-not-is_row
returns-then-not-is_row c es =
    sym (kind-none _ _ (sym (row_told (goal.at.returns-then-not-is_row c).After-is_row es) ∙ c.if-not-is_row.true))

pub returns : goal.returns
returns c es =
    let ns = c.args.nodes.now in
    let f : SFits w64 (get_or ns (node_width * nat_abs (to_z w64 (of_z w64 c.args.v))) (pos 0)) = search rules in
    ap std.Some (to_z-of_z f)
    ∙ row-kind ns es (nat_abs (to_z w64 (of_z w64 c.args.v))) (row-passes (goal.at.returns c).Else-not-is_row es)
    ∙ ap (kind_of (graph_of ns es)) (row_same (goal.at.returns c).Else-not-is_row)
