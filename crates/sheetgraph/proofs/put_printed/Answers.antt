-- The tables stand in their buffers and are printed from there, or the refusal is put into the buffer.
use Rattle.std.proofs.Common.{◌≡◌, sym, ap, ◌∙◌, List, length, ◌*◌}
use native.Mathlib.Omega.{arith}
use lib.IntN.{ℤ, pos}
use lib.ListN.{replicate, length-replicate}
use Rattle.model.specs.Limits.{node_width, edge_width, max_nodes, max_edges}
use Rattle.model.specs.Calls.{refused}
use Rattle.model.specs.Answers.{sheet_read_answer, refusal_of}
use Rattle.model.specs.SheetCall.{sheet_gives}
use Rattle.refusals.proofs.Sheets.{sheet_small}
use Rattle.sheetgraph.proofs.Printing.{TablesPrinted, tables-printed, refusal-printed}
use Rattle.sheetgraph.proofs.put_printed.Goals as goal
use Rattle.sheetgraph.proofs.put_printed.Goals.{In-Ok, In-Err}

-- the buffers of the tables, as they are lent
abbrev ns₀ : List ℤ
ns₀ = replicate (node_width * max_nodes) (pos 0)

abbrev es₀ : List ℤ
es₀ = replicate (edge_width * max_edges) (pos 0)

nodes-room : length ns₀ ≡ node_width * max_nodes
nodes-room = length-replicate {A = ℤ} (node_width * max_nodes) (pos 0)

edges_room : length es₀ ≡ edge_width * max_edges
edges_room = length-replicate {A = ℤ} (edge_width * max_edges) (pos 0)

-- the tables that were read
tables : (c : In-Ok) → TablesPrinted c.args.text.now c.read_sheet.new.nodes c.read_sheet.new.edges (record { nodes = c.in-Ok.sizes.nodes; edges = c.in-Ok.sizes.edges })
tables c =
    tables-printed c.args.text.now ns₀ es₀ nodes-room edges_room
    (ap sheet_read_answer (sym c.in-Ok.is) ∙ c.read_sheet.ensures.answer) c.read_sheet.ensures.nodes c.read_sheet.ensures.edges

pub put_tables-requires : goal.put_tables-requires
put_tables-requires c =
    let t = tables (goal.at.put_tables-requires c).In-Ok in
    (t.node_table.within, t.edge_table.within, rw (t.node_table.front, t.edge_table.front) (omega (arith, t.room, c.requires)))

-- the refusal that was given
told : (c : In-Err) → refused (refusal_of c.in-Err.reason) ≡ sheet_gives c.args.text.now ns₀ es₀
told c = ap sheet_read_answer (sym c.in-Err.is) ∙ c.read_sheet.ensures.answer

pub put_reason-requires : goal.put_reason-requires
put_reason-requires c = (omega (arith, c.requires), sheet_small c.args.text.now ns₀ es₀ (told (goal.at.put_reason-requires c).In-Err))

pub returns-in-Ok : goal.returns-in-Ok
returns-in-Ok c =
    let t = tables (goal.at.returns-in-Ok c).In-Ok in
    rw t.printed (rw (t.node_table.front, t.edge_table.front) at c.put_tables.ensures)

pub returns-in-Err : goal.returns-in-Err
returns-in-Err c =
    rw (refusal-printed c.args.text.now ns₀ es₀ nodes-room edges_room (told (goal.at.returns-in-Err c).In-Err)) c.put_reason.ensures
