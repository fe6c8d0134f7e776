-- Rows, lengths and tables are those of the sheet, by the laws of Tables and Answers.
use mathlib.Core.Path.{◌≡◌, sym, ap}
use mathlib.Core.Logic.{inl, inr, ⊎_elim}
use mathlib.Core.List.{List}
use Prim.Native.Nat.{◌+◌, ◌*◌, ◌≤◌}
use native.Mathlib.Omega.{arith}
use lib.ListN.{length, length-append}
use Rattle.model.specs.Limits.{node_width, sheet_numbers}
use Rattle.model.specs.Graph.{space, block}
use Rattle.model.specs.Sheet.{SheetLine, sheet_nodes, sheet_edges}
use Rattle.sheettables.specs.Parts.{nodes_of}
use Rattle.sheettables.specs.Made.{Tabled}
use Rattle.sheettables.proofs.Stores.{sets_behind}
use Rattle.sheettables.proofs.Present.{present_length}
use Rattle.sheettables.proofs.Lines.{lines-numbered}
use Rattle.sheettables.proofs.Tables.{nodes_tabled, nodes_tabled_length, edges_tabled, edges_tabled_length, rows-within}
use Rattle.sheettables.proofs.Answers.{made-long, made-full, refusal_left, tables_left}
use Rattle.sheettables.proofs.put_tables.Goals.{After-number_rows-initiators, After-number_rows-rows, Else-nodes-size}
use Rattle.sheettables.proofs.put_tables.Goals as goal

-- the initiators have at most as many rows as there are numbers
first-within : (k : After-number_rows-initiators) → k.number_rows-initiators.result ≤ sheet_numbers
first-within k = omega (arith, k.number_rows-initiators.ensures.behind, present_length k.args.spaces.now sheet_numbers)

pub number_rows-rows-requires : goal.number_rows-rows-requires
number_rows-rows-requires c = (c.requires.1.sizes.whole, omega arith, omega (arith, first-within (goal.at.number_rows-rows-requires c).After-number_rows-initiators))

pub overflow_mul-size : goal.overflow_mul-size
overflow_mul-size c =
    omega (arith, c.number_rows-rows.ensures.behind, first-within (goal.at.overflow_mul-size c).After-number_rows-initiators, present_length c.args.sizes.now sheet_numbers)

-- as many node rows as were numbered
node-numbers : (k : After-number_rows-rows) {ls : List SheetLine} → Tabled ls k.args.lines.now k.args.spaces.now k.args.sizes.now
    → node_width * k.number_rows-rows.result ≡ length (sheet_nodes ls)
node-numbers k t = omega (arith, nodes_tabled_length t, k.number_rows-rows.ensures.behind, k.number_rows-initiators.ensures.behind)

pub returns-then-nodes-size : goal.returns-then-nodes-size
returns-then-nodes-size c =
    let k = (goal.at.returns-then-nodes-size c).After-number_rows-rows in
    let a = c.args in
    λ ls t. refusal_left a.nodes.now a.edges.now
    (made-long ls (length a.nodes.now) (length a.edges.now) t.few
    (⊎_elim (λ h. inl (omega (arith, h, node-numbers k t))) (λ w. inr (omega (arith, w.1, edges_tabled_length t))) c.then-nodes-size.either))

-- where the node table is not long, the node rows of the initiators and, behind them, those of the blocks have room
nodes-fit : (e : Else-nodes-size) → let a = e.args in
    length (nodes_of space a.spaces.now sheet_numbers) + length (nodes_of block a.sizes.now sheet_numbers) ≤ length a.nodes.now
nodes-fit e =
    let a = e.args in
    omega (
      arith,
      node-numbers (goal.at.Else-nodes-size e).After-number_rows-rows e.requires.1,
      ap length (nodes_tabled e.requires.1),
      length-append (nodes_of space a.spaces.now sheet_numbers) (nodes_of block a.sizes.now sheet_numbers),
    )

pub put_nodes-next-requires : goal.put_nodes-next-requires
put_nodes-next-requires c = (c.requires.1.spaces.whole, omega (arith, nodes-fit (goal.at.put_nodes-next-requires c).Else-nodes-size))

pub put_nodes-requires : goal.put_nodes-requires
put_nodes-requires c = (c.requires.1.sizes.whole, omega (arith, nodes-fit (goal.at.put_nodes-requires c).Else-nodes-size, c.put_nodes-next.ensures.next))

pub put_edges-requires : goal.put_edges-requires
put_edges-requires c =
    let t = c.requires.1 in
    let r = c.number_rows-initiators in
    let l = c.number_rows-rows in (
      lines-numbered t.good t.lines,
      rows-within (omega arith) r.auto.rows r.ensures,
      rows-within (first-within (goal.at.put_edges-requires c).After-number_rows-initiators) l.auto.rows l.ensures,
      omega arith,
    )

pub returns : goal.returns
returns c =
    let a = c.args in
    λ ls t. let numbers = node-numbers (goal.at.returns c).After-number_rows-rows t in
    let nodes : length (sheet_nodes ls) ≤ length a.nodes.now = omega (arith, numbers) in
    let edges : length (sheet_edges ls) ≤ length a.edges.now = omega (arith, edges_tabled_length t) in
    tables_left (made-full ls (length a.nodes.now) (length a.edges.now) t.few nodes edges) numbers (sym (edges_tabled_length t)) nodes edges
    (rw (nodes_tabled t)
    (sets_behind a.nodes.now 0 (nodes_of space a.spaces.now sheet_numbers) (nodes_of block a.sizes.now sheet_numbers)
    c.put_nodes-next.ensures.nodes c.put_nodes-next.ensures.next c.put_nodes.ensures.nodes))
    (rw (edges_tabled t c.number_rows-initiators.ensures c.number_rows-rows.ensures) c.put_edges.ensures)
