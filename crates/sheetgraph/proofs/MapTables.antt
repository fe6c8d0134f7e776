-- What is printed for a sheet are the first two tables of a map file: each is a table by the file rules, and its numbers on side 0 are those of the sheet's
-- table.
use mathlib.Core.Path.{◌≡◌, refl, sym, ap, subst, ◌∙◌}
use mathlib.Core.Bool.{Bool, true, false, cond}
use mathlib.Core.Logic.{inl, ⊎_elim}
use mathlib.Core.List.Memᴰ
use mathlib.Core.List.{List, [], ◌∷◌, ◌++◌, map, flat_map, append_assoc}
use Prim.Native.Nat.{ℕ, suc, ◌%◌, ◌<◌, ◌≤◌, ◌^◌}
use native.Mathlib.Omega.{arith}
use lib.IntN.{ℤ, pos, negsuc, nat_abs}
use lib.ListN.{length}
use Rattle.integers.proofs.Linear.{ints}
use Rattle.lists.specs.Lists.{◌∈◌, keep}
use Rattle.lists.proofs.Membership.{map_out}
use Rattle.lists.proofs.Distinct.{front-distinct}
use Rattle.model.specs.Limits.{node_width, edge_width, max_edges, max_digits}
use Rattle.model.specs.Rows.{Node, Edge, nodes_from, edges_from, node_rows, edge_rows}
use Rattle.model.specs.Graph.{graph_of, read_write}
use Rattle.model.specs.Bytes.{Bytes, bytes, line_feed, spaced, same}
use Rattle.model.specs.MapFile.{Values, GoodFields, GoodRow, node_table, edge_table}
use Rattle.model.specs.FileRules.{row_line, table_lines, MeetsNone, AllMeetNone, numbers_under, node_numbers, edge_numbers}
use Rattle.model.specs.Report.{line_of}
use Rattle.model.specs.Sheet.{SheetLine, GoodSheet, sheet_nodes, sheet_edges, sheet_graph}
use Rattle.model.specs.SheetCall.{node_line, edge_line, graph_lines}
use Rattle.filerules.proofs.Words.{node_regular, edge_regular}
use Rattle.graphlines.specs.Rows.{Printed}
use Rattle.sheetgraph.specs.Tables.{MapTables}
use Rattle.sheetgraph.proofs.Room.{sheet_printable}
use Rattle.sheetlaws.proofs.Graph.{nodes_length, edges_length, node_out}

-- a value of at most 18 digits
record Short (v : ℤ) : Type 0 where
  digits : nat_abs v < 10 ^ max_digits

printed-short : (v : ℤ) → Printed v → Short v
printed-short (pos n) p = record { digits = omega (arith, ints, p.1) }
printed-short (negsuc n) p = absurd (omega (arith, ints, p.0))

zero_short : Short (pos 0)
zero_short = record { digits = omega arith }

choice_short : (b : Bool) {x y : ℤ} → Short x → Short y → Short (cond b x y)
choice_short true p q = p
choice_short false p q = q

-- ---- nodes

-- the row of a node on side 0, below names without access
node_values : Node → Values
node_values n name =
    cond (same name (bytes "side")) (pos 0) (cond (same name (bytes "kind")) n.kind (cond (same name (bytes "base")) n.base
    (cond (same name (bytes "range")) n.range (cond (same name (bytes "unit")) n.unit (pos 0)))))

node-line : (n : Node) → node_line n ≡ row_line node_table.names (node_values n)
unfolding node_line line_of row_line node_table bytes same node_values
node-line n = refl

node_lines : (rows : List Node) → flat_map node_line rows ≡ flat_map (row_line node_table.names) (map node_values rows)
unfolding flat_map
node_lines [] = refl
node_lines (n ∷ rows) = cc (node-line n, node_lines rows)

-- what stands under the one optional name, access, is 0
node-absent : (n : Node) (name : Bytes) → name ∈ node_table.optional → node_values n name ≡ pos 0
unfolding node_table bytes same node_values
node-absent n name (Memᴰ.head e) = ap (node_values n) e
node-absent n name (Memᴰ.tail m) = absurd (Memᴰ.not-nil m)

node-good : (n : Node) → Short n.kind → Short n.base → Short n.range → Short n.unit → GoodRow node_table node_table.names (node_values n)
unfolding node_table node_values
node-good n k b r u =
    record {
      short = λ name m. (choice_short (same name (bytes "side")) zero_short (choice_short (same name (bytes "kind")) k (choice_short (same name (bytes "base")) b
          (choice_short (same name (bytes "range")) r (choice_short (same name (bytes "unit")) u zero_short))))).digits;
      absent = λ name m out. node-absent n name m;
    }

nodes-good : (i : ℕ) (ns : List ℤ) → ((v : ℤ) → v ∈ ns → Short v) → (n : Node) → n ∈ nodes_from i ns → GoodRow node_table node_table.names (node_values n)
unfolding nodes_from
nodes-good i [] h n m = absurd (Memᴰ.not-nil m)
nodes-good i (k ∷ []) h n m = absurd (Memᴰ.not-nil m)
nodes-good i (k ∷ b ∷ []) h n m = absurd (Memᴰ.not-nil m)
nodes-good i (k ∷ b ∷ r ∷ []) h n m = absurd (Memᴰ.not-nil m)
nodes-good i (k ∷ b ∷ r ∷ u ∷ []) h n m = absurd (Memᴰ.not-nil m)
nodes-good i (k ∷ b ∷ r ∷ u ∷ a ∷ rest) h n (Memᴰ.head e) =
    subst (λ (x : Node). GoodRow node_table node_table.names (node_values x)) (sym e)
    (node-good _ (h k (Memᴰ.head refl)) (h b (Memᴰ.tail (Memᴰ.head refl))) (h r (Memᴰ.tail (Memᴰ.tail (Memᴰ.head refl))))
    (h u (Memᴰ.tail (Memᴰ.tail (Memᴰ.tail (Memᴰ.head refl))))))
nodes-good i (k ∷ b ∷ r ∷ u ∷ a ∷ rest) h n (Memᴰ.tail m) =
    nodes-good (suc i) rest (λ v w. h v (Memᴰ.tail (Memᴰ.tail (Memᴰ.tail (Memᴰ.tail (Memᴰ.tail w)))))) n m

nodes_meet_none : (before : List Values) (rows : List Node) → AllMeetNone node_table.conditions before (map node_values rows)
unfolding AllMeetNone MeetsNone node_table bytes same node_values
nodes_meet_none before [] = tt
nodes_meet_none before (n ∷ rows) = (((λ h. h.0 refl), tt), nodes_meet_none (node_values n ∷ before) rows)

-- the numbers of the rows are those of the table where every node may be read and written
nodes_back : (i : ℕ) (ns : List ℤ) → length ns % node_width ≡ 0 → ((n : Node) → n ∈ nodes_from i ns → n.access ≡ read_write)
    → node_numbers (pos 0) (map node_values (nodes_from i ns)) ≡ ns
unfolding nodes_from node_numbers numbers_under flat_map keep bytes same node_values
nodes_back i [] h opened = refl
nodes_back i (k ∷ []) h opened = absurd (omega (arith, h))
nodes_back i (k ∷ b ∷ []) h opened = absurd (omega (arith, h))
nodes_back i (k ∷ b ∷ r ∷ []) h opened = absurd (omega (arith, h))
nodes_back i (k ∷ b ∷ r ∷ u ∷ []) h opened = absurd (omega (arith, h))
nodes_back i (k ∷ b ∷ r ∷ u ∷ a ∷ rest) h opened =
    let own : pos 0 ≡ a = sym (opened _ (Memᴰ.head refl)) in
    let later = nodes_back (suc i) rest (omega (arith, h)) (λ n m. opened n (Memᴰ.tail m)) in
    ap {B = List ℤ} (λ l. k ∷ b ∷ r ∷ u ∷ pos 0 ∷ l) later ∙ ap (λ c. k ∷ b ∷ r ∷ u ∷ c ∷ rest) own

-- every node of a sheet may be read and written
nodes_open : (ls : List SheetLine) (n : Node) → n ∈ node_rows (sheet_nodes ls) → n.access ≡ read_write
unfolding sheet_graph graph_of
nodes_open ls n m = ⊎_elim (λ w. ap (λ k. k.access) w.1) (λ w. ap (λ k. k.access) w.3) (node_out ls m)

-- ---- edges

-- the row of an edge on side 0
edge_values : Edge → Values
edge_values e name =
    cond (same name (bytes "side")) (pos 0) (cond (same name (bytes "from")) e.from (cond (same name (bytes "to")) e.to e.offset))

edge-line : (e : Edge) → edge_line e ≡ row_line edge_table.names (edge_values e)
unfolding edge_line line_of row_line edge_table bytes same edge_values
edge-line e = refl

edge_lines : (rows : List Edge) → flat_map edge_line rows ≡ flat_map (row_line edge_table.names) (map edge_values rows)
unfolding flat_map
edge_lines [] = refl
edge_lines (e ∷ rows) = cc (edge-line e, edge_lines rows)

edge_good : (e : Edge) → Short e.from → Short e.to → Short e.offset → GoodRow edge_table edge_table.names (edge_values e)
unfolding edge_table edge_values
edge_good e f t o =
    record {
      short = λ name m. (choice_short (same name (bytes "side")) zero_short (choice_short (same name (bytes "from")) f (choice_short (same name (bytes "to")) t o))).digits;
      absent = λ name m. absurd (Memᴰ.not-nil m);
    }

edges-good : (i : ℕ) (es : List ℤ) → ((v : ℤ) → v ∈ es → Short v) → (e : Edge) → e ∈ edges_from i es → GoodRow edge_table edge_table.names (edge_values e)
unfolding edges_from
edges-good i [] h e m = absurd (Memᴰ.not-nil m)
edges-good i (f ∷ []) h e m = absurd (Memᴰ.not-nil m)
edges-good i (f ∷ t ∷ []) h e m = absurd (Memᴰ.not-nil m)
edges-good i (f ∷ t ∷ o ∷ rest) h e (Memᴰ.head q) =
    subst (λ (x : Edge). GoodRow edge_table edge_table.names (edge_values x)) (sym q)
    (edge_good _ (h f (Memᴰ.head refl)) (h t (Memᴰ.tail (Memᴰ.head refl))) (h o (Memᴰ.tail (Memᴰ.tail (Memᴰ.head refl)))))
edges-good i (f ∷ t ∷ o ∷ rest) h e (Memᴰ.tail m) =
    edges-good (suc i) rest (λ v w. h v (Memᴰ.tail (Memᴰ.tail (Memᴰ.tail w)))) e m

edges_meet_none : (before : List Values) (rows : List Edge) → AllMeetNone edge_table.conditions before (map edge_values rows)
unfolding AllMeetNone MeetsNone edge_table bytes same edge_values
edges_meet_none before [] = tt
edges_meet_none before (e ∷ rows) = (((λ h. h.0 refl), tt), edges_meet_none (edge_values e ∷ before) rows)

edges_back : (i : ℕ) (es : List ℤ) → length es % edge_width ≡ 0 → edge_numbers (pos 0) (map edge_values (edges_from i es)) ≡ es
unfolding edges_from edge_numbers numbers_under flat_map keep bytes same edge_values
edges_back i [] h = refl
edges_back i (f ∷ []) h = absurd (omega (arith, h))
edges_back i (f ∷ t ∷ []) h = absurd (omega (arith, h))
edges_back i (f ∷ t ∷ o ∷ rest) h = ap {B = List ℤ} (λ l. f ∷ t ∷ o ∷ l) (edges_back (suc i) rest (omega (arith, h)))

-- ---- both tables

node-fields : GoodFields node_table node_table.names
node-fields = record { once = front-distinct node_table.names node_table.optional node_regular.once; each = λ n m. m; known = λ n m. inl m }

edge_fields : GoodFields edge_table edge_table.names
unfolding edge_table
edge_fields = record { once = edge_regular.once; each = λ n m. m; known = λ n m. inl m }

lines-written : (A B : Bytes) → bytes "side kind base range unit\n" ++ A ++ bytes "\nside from to offset\n" ++ B
    ≡ (spaced node_table.names ++ line_feed ∷ A) ++ line_feed ∷ (spaced edge_table.names ++ line_feed ∷ B)
unfolding bytes spaced node_table edge_table
lines-written A B = append_assoc (bytes "side kind base range unit\n" ++ A) (bytes "\nside from to offset\n") B

-- what is printed for a sheet that is not refused are the first two tables of a map file, with the sheet's tables as those of the specification
pub sheet_tables : (ls : List SheetLine) → GoodSheet ls → length ls ≤ max_edges → MapTables (sheet_nodes ls) (sheet_edges ls) (graph_lines (sheet_nodes ls) (sheet_edges ls))
unfolding graph_lines table_lines
sheet_tables ls g few =
    let p = sheet_printable g few in
    let ns = sheet_nodes ls in
    let es = sheet_edges ls in
    record {
      nodes = record {
        fields = node_table.names;
        named = node-fields;
        rows = map node_values (node_rows ns);
        good = λ v m. let w = map_out node_values (node_rows ns) m in
            subst (GoodRow node_table node_table.names) (sym w.2) (nodes-good 0 ns (λ x k. printed-short x (p.node_numbers x k)) w.0 w.1);
        meets_none = nodes_meet_none [] (node_rows ns);
      };
      edges = record {
        fields = edge_table.names;
        named = edge_fields;
        rows = map edge_values (edge_rows es);
        good = λ v m. let w = map_out edge_values (edge_rows es) m in
            subst (GoodRow edge_table edge_table.names) (sym w.2) (edges-good 0 es (λ x k. printed-short x (p.edge_numbers x k)) w.0 w.1);
        meets_none = edges_meet_none [] (edge_rows es);
      };
      writes = rw (node_lines (node_rows ns), edge_lines (edge_rows es))
          (lines-written (flat_map (row_line node_table.names) (map node_values (node_rows ns))) (flat_map (row_line edge_table.names) (map edge_values (edge_rows es))));
      spec_nodes = nodes_back 0 ns (omega (arith, nodes_length ls)) (nodes_open ls);
      spec_edges = edges_back 0 es (omega (arith, edges_length ls));
    }
