-- The node table goes to the front of the buffer and the edge table into what remains of it. The names in the code are those of the tables, byte for byte.
use mathlib.Core.Path.{ap}
use Prim.Native.Nat.{◌+◌, ◌≤◌}
use native.Mathlib.Omega.{arith}
use lib.ListN.{length, length-append}
use Rattle.model.specs.Bytes.{bytes}
use Rattle.report.proofs.Tail.{tail_length, put_tail}
use Rattle.graphlines.proofs.Rows.{node_part, edge_part, graph_parts}
use Rattle.graphlines.proofs.put_graph.Goals.{After-put_table-at, Start}
use Rattle.graphlines.proofs.put_graph.Goals as goal

-- the two tables have room together
fits : (s : Start) → length (node_part s.args.nodes.now) + length (edge_part s.args.edges.now) ≤ length s.args.out.now
fits s =
    let ns = s.args.nodes.now in
    let es = s.args.edges.now in
    omega (arith, ap length (graph_parts ns es), length-append (node_part ns) (edge_part es), s.requires)

pub put_table-at-requires : goal.put_table-at-requires
unfolding bytes
put_table-at-requires c = (omega arith, omega arith, omega arith, omega (arith, fits (goal.at.put_table-at-requires c).Start))

-- the edge table has room behind the node table
room : (p : After-put_table-at) → p.put_table-at.result + length (edge_part p.args.edges.now) ≤ length p.put_table-at.new.out
unfolding bytes
room p = omega (arith, fits (goal.at.After-put_table-at p).Start, p.put_table-at.ensures.count, p.put_table-at.auto.out)

pub slice_bounds-put_table-count : goal.slice_bounds-put_table-count
slice_bounds-put_table-count c = omega (arith, room (goal.at.slice_bounds-put_table-count c).After-put_table-at)

pub slice_bounds-put_table-start : goal.slice_bounds-put_table-start
slice_bounds-put_table-start c = omega (arith, room (goal.at.slice_bounds-put_table-start c).After-put_table-at)

pub put_table-requires : goal.put_table-requires
unfolding bytes
put_table-requires c =
    (omega arith, omega arith, omega arith, rw (tail_length c.put_table-at.new.out c.put_table-at.result) (omega (arith, room (goal.at.put_table-requires c).After-put_table-at)))

pub overflow_add-result : goal.overflow_add-result
unfolding bytes
overflow_add-result c = omega (arith, room (goal.at.overflow_add-result c).After-put_table-at, c.put_table.ensures.count)

pub returns : goal.returns
unfolding bytes
returns c =
    rw (graph_parts c.args.nodes.now c.args.edges.now) (put_tail c.put_table-at.ensures c.put_table.ensures)
