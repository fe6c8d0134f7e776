-- The three tables are read one after the other, each from where the one before it ends.
use mathlib.Core.Bool.{false}
use Rattle.std.proofs.lemmas.Result.{err_from_is_err_and}
use Rattle.model.specs.MapFile.{lines, node_table}
use Rattle.model.specs.Reader.{check_side_or_role, read_table, tables_of}
use Rattle.sides.specs.Given.{RowsRead}
use Rattle.mapfile.specs.Tables.{node_room}
use Rattle.mapfile.proofs.ReadTables.{map_checked, map_nodes, map_edges, map_pairs, map_tables}
use Rattle.mapfile.proofs.read_map.Goals.{In_ok-edges_at}
use Rattle.mapfile.proofs.read_map.Goals as goal

-- the first table is read from the start
nodes_read : (n : In_ok-edges_at) → let s = n.args in let k = n.in_ok-edges_at in
    RowsRead (read_table false check_side_or_role node_table 1 (lines s.text.now)) s.text.now node_room
    s.spec_nodes.now n.read_table.new.first s.impl_nodes.now n.read_table.new.second
    k.edges_at k.nodes.first k.nodes.second
nodes_read n = rw (n.start.ensures.0, n.start.ensures.1) at n.in_ok-edges_at.ensures

pub returns-in_err-check_text : goal.returns-in_err-check_text
returns-in_err-check_text c =
    let p = err_from_is_err_and c.from_residual.result c.from_residual.ensures.1 in
    rw (p.1, p.2) (map_checked c.args.text.now c.in_err-check_text.ensures)

pub returns-in_err-edges_at : goal.returns-in_err-edges_at
returns-in_err-edges_at c =
    let p = err_from_is_err_and c.from_residual-in_err-edges_at.result c.from_residual-in_err-edges_at.ensures.1 in
    rw (p.1, p.2) (map_nodes c.args.text.now c.in_ok-check_text.ensures (rw (c.start.ensures.0, c.start.ensures.1) at c.in_err-edges_at.ensures))

pub returns-in_err-pairs_at : goal.returns-in_err-pairs_at
returns-in_err-pairs_at c =
    let p = err_from_is_err_and c.from_residual-in_err-pairs_at.result c.from_residual-in_err-pairs_at.ensures.1 in
    let nodes = nodes_read (goal.at.returns-in_err-pairs_at c).In_ok-edges_at in
    rw (p.1, p.2) (map_edges c.args.text.now c.in_ok-check_text.ensures nodes.read c.in_err-pairs_at.ensures)

pub returns-in_err-pairs : goal.returns-in_err-pairs
returns-in_err-pairs c =
    let p = err_from_is_err_and c.from_residual-in_err-pairs.result c.from_residual-in_err-pairs.ensures.1 in
    let nodes = nodes_read (goal.at.returns-in_err-pairs c).In_ok-edges_at in
    rw (p.1, p.2) (map_pairs c.args.text.now c.in_ok-check_text.ensures nodes.read c.in_ok-pairs_at.ensures.read c.in_err-pairs.ensures)

pub returns : goal.returns
unfolding tables_of
returns c =
    let nodes = nodes_read (goal.at.returns c).In_ok-edges_at in
    let edges = c.in_ok-pairs_at.ensures in
    let pairs = c.in_ok-pairs.ensures in
    record {
      tables = tables_of nodes.done edges.done pairs.done;
      read = map_tables c.args.text.now c.in_ok-check_text.ensures nodes.read edges.read pairs.read;
      spec_nodes = nodes.first;
      spec_edges = edges.first;
      impl_nodes = nodes.second;
      impl_edges = edges.second;
      root_pairs = pairs.first;
      leaf_pairs = pairs.second;
    }
