-- What is printed for a sheet, from what the call that reads it gives.
use mathlib.Core.Path.{◌≡◌, refl, sym, ap, ◌∙◌}
use mathlib.Core.Bool.{Bool, true, false}
use mathlib.Core.Logic.{◌⊎◌, inl, inr}
use mathlib.Core.List.{List, ◌++◌}
use mathlib.Core.Option.{Option, none, some}
use Prim.Native.Nat.{ℕ, suc, ◌*◌, ◌≤◌, ◌<◌}
use native.Mathlib.Omega.{arith}
use borrow.Author.Tests.{lt-ltb}
use lib.Dec.{ltb}
use lib.IntN.{ℤ}
use lib.ListN.{length, take, drop, length-append}
use lib.Seq.{take_at}
use Rattle.integers.proofs.Tests.{Test, failed, ltb?}
use Rattle.model.specs.Limits.{node_width, edge_width, max_nodes, max_edges, max_text}
use Rattle.model.specs.Bytes.{Bytes}
use Rattle.model.specs.Refusals.{Refusal, NoneHolds, output_conditions}
use Rattle.model.specs.Checks.{when, ◌then◌}
use Rattle.model.specs.Calls.{Answer, refused, full, answer, buffer_after, check_answer}
use Rattle.model.specs.MapFile.{lines, feeds}
use Rattle.model.specs.Reader.{check_bytes, broken_off, check_text, read_table}
use Rattle.model.specs.Report.{refusal_report}
use Rattle.model.specs.Sheet.{SheetLine, sheet_nodes, sheet_edges, GoodSheet, sheet_graph, AsGiven}
use Rattle.model.specs.SheetFile.{KeepsSheet, sheet_table, check_sheet_row, lines_read, read_sheet}
use Rattle.model.specs.SheetCall.{made_conditions, check_made, made, made_of, sheet_answer, TableLengths, lengths_of, table_in, sheet_gives, sheet_nodes_after, sheet_edges_after, graph_lines, sheet_printed_of, sheet_printed}
use Rattle.model.proofs.Checks.{then-none}
use Rattle.filerules.proofs.Sheets.{sheet_keeps, keeps_good}
use Rattle.filerules.proofs.SheetCall.{sheet_full}
use Rattle.sheetlaws.proofs.Graph.{nodes-few, edges_length}
use Rattle.sheetlaws.proofs.Taken.{sheet_checked}
use Rattle.sheetlaws.proofs.Walks.{sheet_as_given}
use Rattle.graphlines.specs.Rows.{print_room}
use Rattle.graphlines.proofs.Room.{printable_length}
use Rattle.sheetgraph.proofs.Room.{sheet_printable}

-- ---- the lines of a sheet that is not refused

-- lines that are not refused for their number are few enough
lines-few : (ls : List SheetLine) → when (ltb max_edges (length ls)) 1 1 0 ≡ none → length ls ≤ max_edges
unfolding when
lines-few ls = go (ltb max_edges (length ls)) (ltb? max_edges (length ls))
  where
    go : (b : Bool) → Test (max_edges < length ls) (length ls ≤ max_edges) b → when b 1 1 0 ≡ none → length ls ≤ max_edges
    go true h e = let z : ◌≡◌ {A = ℕ} 0 1 = cc in absurd (omega arith)
    go false (failed h) e = h

-- the text keeps the rules with them, and they are few enough
answer_keeps : (node_room edge_room : ℕ) (text : Bytes) {ls : List SheetLine} → sheet_answer node_room edge_room text ≡ full ls
    → KeepsSheet text ls × (length ls ≤ max_edges)
unfolding sheet_answer made_of made check_made answer
answer_keeps node_room edge_room text {ls} = go (read_sheet text) refl
  where
    out : (ks : List SheetLine) (o : Option Refusal) → check_made node_room edge_room ks ≡ o → read_sheet text ≡ full ks → answer o ks ≡ full ls
        → KeepsSheet text ls × (length ls ≤ max_edges)
    out ks none taken r e =
        let same : ks ≡ ls = cc in
        rw (sym same) ((sheet_keeps text ks).0 r, lines-few ks (then-none (when (ltb max_edges (length ks)) 1 1 0) _ taken).0)
    out ks (some r) taken s e = let z : ◌≡◌ {A = ℕ} 0 1 = cc in absurd (omega arith)

    go : (a : Answer (List SheetLine)) → read_sheet text ≡ a → made_of node_room edge_room a ≡ full ls → KeepsSheet text ls × (length ls ≤ max_edges)
    go (refused r) s e = let z : ◌≡◌ {A = ℕ} 0 1 = cc in absurd (omega arith)
    go (full ks) s e = out ks (check_made node_room edge_room ks) refl s e

-- ---- tables

-- a table of so many numbers stands at the front of its buffer
pub record TableAt (table buffer : List ℤ) (n : ℕ) : Type 0 where
  pub within : n ≤ length buffer
  pub front : take n buffer ≡ table

-- a table that was written does
table_at : (table before : List ℤ) {after : List ℤ} {n : ℕ} → n ≡ length table → after ≡ table ++ drop (length table) before → TableAt table after n
table_at table before {after} {n} e stands =
    record {
      within = omega (arith, e, ap length stands ∙ length-append table (drop (length table) before));
      front = ap (take n) stands ∙ take_at table (drop (length table) before) n (sym e);
    }

-- both tables of a sheet stand in their buffers, they are what is printed for it, and have room
pub record TablesPrinted (text : Bytes) (ns es : List ℤ) (z : TableLengths) : Type 0 where
  pub lines : List SheetLine
  pub node_table : TableAt (sheet_nodes lines) ns z.nodes
  pub edge_table : TableAt (sheet_edges lines) es z.edges
  pub printed : sheet_printed text ≡ graph_lines (sheet_nodes lines) (sheet_edges lines)
  pub room : length (graph_lines (sheet_nodes lines) (sheet_edges lines)) ≤ print_room

module _ (text : Bytes) (ns₀ es₀ : List ℤ) (node_room : length ns₀ ≡ node_width * max_nodes) (edge_room : length es₀ ≡ edge_width * max_edges) where
  -- the buffers are those of the largest tables, so the answer is that of which is printed
  same_answer : sheet_answer (length ns₀) (length es₀) text ≡ sheet_answer (node_width * max_nodes) (edge_width * max_edges) text
  same_answer = rw (node_room, edge_room) refl

  -- tables that were written are what is printed
  pub tables-printed : {ns es : List ℤ} {z : TableLengths} → full z ≡ sheet_gives text ns₀ es₀ → ns ≡ sheet_nodes_after text ns₀ es₀
      → es ≡ sheet_edges_after text ns₀ es₀ → TablesPrinted text ns es z
  unfolding sheet_gives sheet_nodes_after sheet_edges_after lengths_of table_in buffer_after sheet_printed sheet_printed_of
  tables-printed {ns} {es} {z} = go (sheet_answer (length ns₀) (length es₀) text) refl
    where
      go : (a : Answer (List SheetLine)) → sheet_answer (length ns₀) (length es₀) text ≡ a → full z ≡ lengths_of a
          → ns ≡ buffer_after (table_in sheet_nodes a) ns₀ → es ≡ buffer_after (table_in sheet_edges a) es₀ → TablesPrinted text ns es z
      go (refused r) s e p q = let u : ◌≡◌ {A = ℕ} 0 1 = cc in absurd (omega arith)
      go (full ls) s e p q =
          let keeps = answer_keeps (length ns₀) (length es₀) text s in
          let same : z ≡ record { nodes = length (sheet_nodes ls); edges = length (sheet_edges ls) } = cc in
          record {
            lines = ls;
            node_table = table_at (sheet_nodes ls) ns₀ (ap (λ (l : TableLengths). l.nodes) same) p;
            edge_table = table_at (sheet_edges ls) es₀ (ap (λ (l : TableLengths). l.edges) same) q;
            printed = ap sheet_printed_of (sym same_answer ∙ s);
            room = printable_length (sheet_nodes ls) (sheet_edges ls) (sheet_printable (keeps_good keeps.0) keeps.1);
          }

  -- on a refusal, it is what is printed
  pub refusal-printed : {r : Refusal} → refused r ≡ sheet_gives text ns₀ es₀ → sheet_printed text ≡ refusal_report r
  unfolding sheet_gives lengths_of sheet_printed sheet_printed_of
  refusal-printed {r} e = sym (ap sheet_printed_of same_answer) ∙ go (sheet_answer (length ns₀) (length es₀) text) e
    where
      go : (a : Answer (List SheetLine)) → refused r ≡ lengths_of a → sheet_printed_of a ≡ refusal_report r
      go (refused s) e = let q : s ≡ r = cc in ap refusal_report q
      go (full ls) e = let u : ◌≡◌ {A = ℕ} 0 1 = cc in absurd (omega arith)

-- ---- an input that is longer than the buffer

-- the refusal of a text that is too long
abbrev too_long : Refusal
too_long = record { number = 12; table = 6; row = 0 }

-- it is given before all else
long_checked : (text : Bytes) → max_text < length text → check_text text ≡ some too_long
unfolding check_text when ◌then◌
long_checked text long =
    ap (λ (b : Bool). when b 12 6 0 then check_bytes 1 text then when (broken_off text) 12 6 (suc (feeds text))) (lt-ltb max_text (length text) long)

-- whatever its bytes, it is refused
long-printed : (text : Bytes) → max_text < length text → sheet_printed text ≡ refusal_report too_long
unfolding sheet_printed sheet_printed_of sheet_answer made_of read_sheet
long-printed text long =
    ap (λ (a : Answer (List SheetLine)). sheet_printed_of (made_of (node_width * max_nodes) (edge_width * max_edges) a)) (go (check_text text) (long_checked text long))
  where
    go : (o : Option Refusal) → o ≡ some too_long
        → ◌≡◌ {A = Answer (List SheetLine)} (elim o [ some r ↦ refused r | none ↦ lines_read (read_table true check_sheet_row sheet_table 1 (lines text)) ]) (refused too_long)
    go none e = let u : ◌≡◌ {A = ℕ} 0 1 = cc in absurd (omega arith)
    go (some r) e = let same : r ≡ too_long = cc in ap refused same

-- so the bytes that fill the buffer, one more than a text may have, decide what is printed for the whole input
pub printed-cut : (text more : Bytes) → max_text < length text → sheet_printed (text ++ more) ≡ sheet_printed text
printed-cut text more long = long-printed (text ++ more) (omega (arith, length-append text more)) ∙ sym (long-printed text long)

-- ---- what is printed, and what the sheet says

-- no condition of the output holds of the tables of a good sheet with no more lines than a graph may have edges: the buffers hold the largest tables
made_none : {ls : List SheetLine} → GoodSheet ls → length ls ≤ max_edges → NoneHolds (made_conditions (node_width * max_nodes) (edge_width * max_edges) ls)
unfolding made_conditions output_conditions
made_none {ls} g few = (λ h. omega (arith, few, h), (λ h. omega (arith, nodes-few g, h), (λ h. omega (arith, edges_length ls, few, h), tt)))

-- so every text that keeps the rules of a sheet, with so many lines at most, gets its tables printed
pub sheet-printed : (text : Bytes) (ls : List SheetLine) → KeepsSheet text ls → length ls ≤ max_edges
    → sheet_printed text ≡ graph_lines (sheet_nodes ls) (sheet_edges ls)
unfolding sheet_printed sheet_printed_of
sheet-printed text ls keeps few =
    ap sheet_printed_of (sheet_full (node_width * max_nodes) (edge_width * max_edges) text ls keeps (made_none (keeps_good keeps) few))

-- what is printed for a text is a refusal; or the text keeps the rules with some lines, what is printed are their tables, the check of one graph takes
-- these, and in their graph an initiator's bit reaches a block's bit exactly where some line gives the two
pub printed_either : (text : Bytes)
    → ((r : Refusal) × (sheet_printed text ≡ refusal_report r))
    ⊎ ((ls : List SheetLine) × (KeepsSheet text ls × (sheet_printed text ≡ graph_lines (sheet_nodes ls) (sheet_edges ls)) × (check_answer (sheet_nodes ls) (sheet_edges ls) ≡ full tt) × AsGiven ls (sheet_graph ls)))
unfolding sheet_printed sheet_printed_of
printed_either text = go (sheet_answer (node_width * max_nodes) (edge_width * max_edges) text) refl
  where
    go : (a : Answer (List SheetLine)) → sheet_answer (node_width * max_nodes) (edge_width * max_edges) text ≡ a
        → ((r : Refusal) × (sheet_printed text ≡ refusal_report r))
        ⊎ ((ls : List SheetLine) × (KeepsSheet text ls × (sheet_printed text ≡ graph_lines (sheet_nodes ls) (sheet_edges ls)) × (check_answer (sheet_nodes ls) (sheet_edges ls) ≡ full tt) × AsGiven ls (sheet_graph ls)))
    go (refused r) e = inl (r, ap sheet_printed_of e)
    go (full ls) e =
        let keeps = answer_keeps (node_width * max_nodes) (edge_width * max_edges) text e in
        let good = keeps_good keeps.0 in
        inr (ls, (keeps.0, ap sheet_printed_of e, sheet_checked ls good keeps.1, sheet_as_given ls good))
