-- The whole file: a text is read as tables exactly where it keeps the file rules with these tables, and so it keeps them with one set of
-- tables at most.
use mathlib.Core.Path.{◌≡◌, refl, sym, ap, subst, ◌∙◌}
use mathlib.Core.Bool.{Bool, true, false, cond}
use mathlib.Core.Logic.{⊎_elim, ◌↔◌}
use mathlib.Core.List.Memᴰ
use mathlib.Core.List.{List, [], ◌∷◌, ◌++◌, map, flat_map, append-nil}
use mathlib.Core.Option.{Option, none, some}
use Prim.Native.Nat.{ℕ, ◌≤◌}
use native.Mathlib.Omega.{arith}
use lib.IntN.{ℤ, pos}
use lib.ListN.{length}
use Rattle.integers.specs.Integers.{eq_z}
use Rattle.lists.specs.Lists.{◌∈◌, keep}
use Rattle.model.specs.Limits.{max_text}
use Rattle.model.specs.Bytes.{Bytes, bytes, line_feed}
use Rattle.model.specs.MapFile.{Values, Table, all_names, node_table, edge_table, pair_table, lines, BrokenOff, file_conditions}
use Rattle.model.specs.FileRules.{table_lines, TableOf, numbers_under, node_numbers, edge_numbers, pair_numbers, KeepsRules}
use Rattle.model.specs.Refusals.{Refusal, NoneHolds}
use Rattle.model.specs.Compare.{Tables}
use Rattle.model.specs.Calls.{Answer, refused, full}
use Rattle.model.specs.Reader.{check_side_or_role, Reading, stopped, rows, read_table, rows_with, tables_of, read_third, read_second, read_first, read_map, check_text}
use Rattle.filerules.proofs.Lines.{ended, ended_cons, ended_append, ended-lines}
use Rattle.filerules.proofs.Words.{node_regular, edge_regular, pair_regular}
use Rattle.filerules.proofs.Values.{numbers_in}
use Rattle.filerules.proofs.RowChecks.{node-check, edge_check, pair_check}
use Rattle.filerules.proofs.Text.{text-passed}
use Rattle.filerules.proofs.Refusals.{read_settled}
use Rattle.filerules.proofs.TableLines.{lines_of, table-ended, Clean, clean_lines, clean_passes, table_clean, final, between, ends_final, ends_between, table-read, TableRead, read_table_lem}

-- ---- the numbers of rows

-- the rows of one side or role are the numbers under the other names
rows-numbers : (key : Bytes) (names : List Bytes) (k : ℤ) (values : List Values) → rows_with k (numbers_in (key ∷ names) values) ≡ numbers_under key k names values
unfolding rows_with numbers_under flat_map keep
rows-numbers key names k [] = refl
rows-numbers key names k (value ∷ values) = go (eq_z (value key) k) (rows-numbers key names k values)
  where
    others : List Values
    others = keep (λ v. eq_z (v key) k) values

    numbers : List Values → List ℤ
    numbers vs = flat_map (λ v. map v names) vs

    go : (b : Bool) → rows_with k (numbers_in (key ∷ names) values) ≡ numbers others
        → cond b (map value names ++ rows_with k (numbers_in (key ∷ names) values)) (rows_with k (numbers_in (key ∷ names) values))
        ≡ numbers (cond b (value ∷ others) others)
    go true e = ap (λ (r : List ℤ). map value names ++ r) e
    go false e = e

node-rows : (k : ℤ) (values : List Values) → rows_with k (numbers_in (all_names node_table) values) ≡ node_numbers k values
unfolding node_table node_numbers
node-rows k values = rows-numbers (bytes "side") (bytes "kind" ∷ bytes "base" ∷ bytes "range" ∷ bytes "unit" ∷ bytes "access" ∷ []) k values

edge-rows : (k : ℤ) (values : List Values) → rows_with k (numbers_in (all_names edge_table) values) ≡ edge_numbers k values
unfolding edge_table edge_numbers
edge-rows k values = rows-numbers (bytes "side") (bytes "from" ∷ bytes "to" ∷ bytes "offset" ∷ []) k values

pair-rows : (k : ℤ) (values : List Values) → rows_with k (numbers_in (all_names pair_table) values) ≡ pair_numbers k values
unfolding pair_table pair_numbers
pair-rows k values = rows-numbers (bytes "role") (bytes "spec" ∷ bytes "impl" ∷ bytes "at" ∷ []) k values

-- ---- the lines of a file

-- the lines of three tables, an empty line after the first and the second
file_lines : List Bytes → List Bytes → List Bytes → List Bytes
file_lines ns es ps = ns ++ [] ∷ (es ++ [] ∷ ps)

file_ended : (ns es ps : List Bytes) → ended (file_lines ns es ps) ≡ ended ns ++ line_feed ∷ (ended es ++ line_feed ∷ ended ps)
unfolding file_lines
file_ended ns es ps =
    ended_append ns ([] ∷ (es ++ [] ∷ ps))
    ∙ cc (ended_cons [] (es ++ [] ∷ ps), ended_append es ([] ∷ ps), ended_cons [] ps)

module _ (nodes : TableOf node_table) (edges : TableOf edge_table) (pairs : TableOf pair_table) where
  -- the lines of the file that has these tables
  tables_lines : List Bytes
  tables_lines = file_lines (lines_of nodes.fields nodes.rows) (lines_of edges.fields edges.rows) (lines_of pairs.fields pairs.rows)

  tables-ended : ended tables_lines
      ≡ table_lines nodes.fields nodes.rows ++ line_feed ∷ (table_lines edges.fields edges.rows ++ line_feed ∷ table_lines pairs.fields pairs.rows)
  unfolding tables_lines
  tables-ended =
      file_ended (lines_of nodes.fields nodes.rows) (lines_of edges.fields edges.rows) (lines_of pairs.fields pairs.rows)
      ∙ cc (table-ended nodes.fields nodes.rows, table-ended edges.fields edges.rows, table-ended pairs.fields pairs.rows)

  -- no line has other bytes than spaces and those of words
  tables_clean : (l : Bytes) → l ∈ tables_lines → Clean l
  unfolding tables_lines file_lines
  tables_clean l m =
      ⊎_elim (table_clean node_regular nodes l)
      (parted (λ k. ⊎_elim (table_clean edge_regular edges l) (parted (table_clean pair_regular pairs l))
      (Memᴰ.append_cases (lines_of edges.fields edges.rows) k)))
      (Memᴰ.append_cases (lines_of nodes.fields nodes.rows) m)
    where
      empty : l ≡ [] → Clean l
      empty e c k = absurd (Memᴰ.not-nil (subst (λ (z : Bytes). c ∈ z) e k))

      parted : {ls : List Bytes} → (l ∈ ls → Clean l) → l ∈ ([] ∷ ls) → Clean l
      parted f k = ⊎_elim empty f (Memᴰ.cases_cons k)

-- ---- from the rules to the reader

-- two sets of six tables that are the same one by one
tables-same : (t u : Tables) → t.spec_nodes ≡ u.spec_nodes → t.spec_edges ≡ u.spec_edges → t.impl_nodes ≡ u.impl_nodes → t.impl_edges ≡ u.impl_edges
    → t.root_pairs ≡ u.root_pairs → t.leaf_pairs ≡ u.leaf_pairs → t ≡ u
tables-same t u a b c d e f =
    λ i. record { spec_nodes = a i; spec_edges = b i; impl_nodes = c i; impl_edges = d i; root_pairs = e i; leaf_pairs = f i }

module _ {text : Bytes} {t : Tables} (k : KeepsRules text t) where
  rule_lines : List Bytes
  rule_lines = tables_lines k.nodes k.edges k.pairs

  rules-text : text ≡ ended rule_lines
  unfolding rule_lines
  rules-text = k.writes ∙ sym (tables-ended k.nodes k.edges k.pairs)

  rules_clean : (l : Bytes) → l ∈ rule_lines → Clean l
  unfolding rule_lines
  rules_clean l m = tables_clean k.nodes k.edges k.pairs l m

  rules-lines : lines text ≡ rule_lines
  rules-lines = clean_lines rules-text rules_clean

  -- a text that keeps the rules passes the check of the whole text
  rules_pass : check_text text ≡ none
  rules_pass = clean_passes rules-text rules_clean k.short

  -- the tables of its rows
  rules-tables : tables_of (numbers_in (all_names node_table) k.nodes.rows) (numbers_in (all_names edge_table) k.edges.rows)
      (numbers_in (all_names pair_table) k.pairs.rows)
      ≡ t
  unfolding tables_of
  rules-tables =
      let ns = k.nodes.rows in
      let es = k.edges.rows in
      let ps = k.pairs.rows in
      tables-same
      (tables_of (numbers_in (all_names node_table) ns) (numbers_in (all_names edge_table) es) (numbers_in (all_names pair_table) ps))
      t
      (node-rows (pos 0) ns ∙ sym k.spec_nodes)
      (edge-rows (pos 0) es ∙ sym k.spec_edges)
      (node-rows (pos 1) ns ∙ sym k.impl_nodes)
      (edge-rows (pos 1) es ∙ sym k.impl_edges)
      (pair-rows (pos 0) ps ∙ sym k.root_pairs)
      (pair-rows (pos 1) ps ∙ sym k.leaf_pairs)

  rules-first : read_first (read_table false check_side_or_role node_table 1 (lines text)) ≡ full t
  unfolding read_first read_second read_third rule_lines tables_lines file_lines
  rules-first =
      let ns = numbers_in (all_names node_table) k.nodes.rows in
      let es = numbers_in (all_names edge_table) k.edges.rows in
      let P = lines_of k.pairs.fields k.pairs.rows in
      let E = lines_of k.edges.fields k.edges.rows in
      let n = table-read node_regular check_side_or_role node-check k.nodes (between {rest = E ++ [] ∷ P}) 1 in
      let e = table-read edge_regular check_side_or_role edge_check k.edges (between {rest = P}) n.0 in
      let p = table-read pair_regular check_side_or_role pair_check k.pairs final e.0 in
      ap (λ (ls : List Bytes). read_first (read_table false check_side_or_role node_table 1 ls)) rules-lines
      ∙ ap read_first n.1
      ∙ ap (read_second ns) e.1
      ∙ ap (read_third ns es) (ap (read_table true check_side_or_role pair_table e.0) (sym (append-nil P)) ∙ p.1)
      ∙ ap full rules-tables

-- a text that keeps the file rules is read as its tables
pub rules-read : (text : Bytes) (t : Tables) → KeepsRules text t → read_map text ≡ full t
unfolding read_map
rules-read text t k =
    ap (λ o. elim o [ some r ↦ refused r | none ↦ read_first (read_table false check_side_or_role node_table 1 (lines text)) ]) (rules_pass k) ∙ rules-first k

-- ---- from the reader to the rules

refused_full : {r : Refusal} {t : Tables} → refused r ≡ full t → ⊥
refused_full e = let z : ◌≡◌ {A = ℕ} 0 1 = cc in omega arith

full-same : {t u : Tables} → full t ≡ full u → t ≡ u
full-same e = cc

-- a reading that has rows, with what is made of them
record Rows (reading : Reading) (t : Tables) (next : List (List ℤ) → List Bytes → ℕ → Answer Tables) : Type 0 where
  numbers : List (List ℤ)
  rest : List Bytes
  line : ℕ
  read : reading ≡ rows numbers rest line
  gives : next numbers rest line ≡ full t

first_out : (reading : Reading) (t : Tables) → read_first reading ≡ full t → Rows reading t (λ ns ls n. read_second ns (read_table false check_side_or_role edge_table n ls))
unfolding read_first
first_out (stopped r) t e = absurd (refused_full e)
first_out (rows ns ls n) t e = record { numbers = ns; rest = ls; line = n; read = refl; gives = e }

second_out : (ns : List (List ℤ)) (reading : Reading) (t : Tables) → read_second ns reading ≡ full t
    → Rows reading t (λ es ls n. read_third ns es (read_table true check_side_or_role pair_table n ls))
unfolding read_second
second_out ns (stopped r) t e = absurd (refused_full e)
second_out ns (rows es ls n) t e = record { numbers = es; rest = ls; line = n; read = refl; gives = e }

third_out : (ns es : List (List ℤ)) (reading : Reading) (t : Tables) → read_third ns es reading ≡ full t → Rows reading t (λ ps ls n. full (tables_of ns es ps))
unfolding read_third
third_out ns es (stopped r) t e = absurd (refused_full e)
third_out ns es (rows ps ls n) t e = record { numbers = ps; rest = ls; line = n; read = refl; gives = e }

-- three tables that were read one after the other are those of the text
tables-rules : (text : Bytes) (t : Tables) (ns es ps : List (List ℤ)) (r s q : List Bytes) → (length text ≤ max_text) × (BrokenOff text → ⊥)
    → TableRead node_table false (lines text) ns r → TableRead edge_table false r es s → TableRead pair_table true s ps q
    → tables_of ns es ps ≡ t → KeepsRules text t
unfolding tables_of tables_lines file_lines
tables-rules text t ns es ps r s q passed nodes edges pairs e =
    record {
      nodes = nodes.table;
      edges = edges.table;
      pairs = pairs.table;
      short = passed.0;
      writes = sym (ended-lines text passed.1) ∙ ap ended all ∙ tables-ended nodes.table edges.table pairs.table;
      spec_nodes = ap (λ (u : Tables). u.spec_nodes) (sym e) ∙ ap (rows_with (pos 0)) nodes.numbers ∙ node-rows (pos 0) nodes.table.rows;
      spec_edges = ap (λ (u : Tables). u.spec_edges) (sym e) ∙ ap (rows_with (pos 0)) edges.numbers ∙ edge-rows (pos 0) edges.table.rows;
      impl_nodes = ap (λ (u : Tables). u.impl_nodes) (sym e) ∙ ap (rows_with (pos 1)) nodes.numbers ∙ node-rows (pos 1) nodes.table.rows;
      impl_edges = ap (λ (u : Tables). u.impl_edges) (sym e) ∙ ap (rows_with (pos 1)) edges.numbers ∙ edge-rows (pos 1) edges.table.rows;
      root_pairs = ap (λ (u : Tables). u.root_pairs) (sym e) ∙ ap (rows_with (pos 0)) pairs.numbers ∙ pair-rows (pos 0) pairs.table.rows;
      leaf_pairs = ap (λ (u : Tables). u.leaf_pairs) (sym e) ∙ ap (rows_with (pos 1)) pairs.numbers ∙ pair-rows (pos 1) pairs.table.rows;
    }
  where
    lines_in : {t : Table} → TableOf t → List Bytes
    lines_in w = lines_of w.fields w.rows

    last : s ≡ lines_in pairs.table
    last = pairs.writes ∙ ap (λ (z : List Bytes). lines_in pairs.table ++ z) (ends_final pairs.ends) ∙ append-nil (lines_in pairs.table)

    middle : r ≡ lines_in edges.table ++ [] ∷ lines_in pairs.table
    middle = edges.writes ∙ ap (λ (z : List Bytes). lines_in edges.table ++ z) (ends_between edges.ends ∙ ap {B = List Bytes} (λ z. [] ∷ z) last)

    all : lines text ≡ tables_lines nodes.table edges.table pairs.table
    all = nodes.writes ∙ ap (λ (z : List Bytes). lines_in nodes.table ++ z) (ends_between nodes.ends ∙ ap {B = List Bytes} (λ z. [] ∷ z) middle)

-- tables that are read are those of the text
first-rules : (text : Bytes) (t : Tables) → check_text text ≡ none → read_first (read_table false check_side_or_role node_table 1 (lines text)) ≡ full t → KeepsRules text t
first-rules text t passes e = go (first_out (read_table false check_side_or_role node_table 1 (lines text)) t e)
  where
    third : (ns es : List (List ℤ)) (n m : ℕ) (r s : List Bytes) → read_table false check_side_or_role node_table 1 (lines text) ≡ rows ns r n
        → read_table false check_side_or_role edge_table n r ≡ rows es s m
        → Rows (read_table true check_side_or_role pair_table m s) t (λ ps ls k. full (tables_of ns es ps)) → KeepsRules text t
    third ns es n m r s a b c =
        tables-rules text t ns es c.numbers r s c.rest (text-passed text passes) (read_table_lem node_regular check_side_or_role node-check false 1 n (lines text) ns r a)
        (read_table_lem edge_regular check_side_or_role edge_check false n m r es s b)
        (read_table_lem pair_regular check_side_or_role pair_check true m c.line s c.numbers c.rest c.read)
        (full-same c.gives)

    second : (ns : List (List ℤ)) (n : ℕ) (r : List Bytes) → read_table false check_side_or_role node_table 1 (lines text) ≡ rows ns r n
        → Rows (read_table false check_side_or_role edge_table n r) t (λ es ls m. read_third ns es (read_table true check_side_or_role pair_table m ls)) → KeepsRules text t
    second ns n r a b =
        third ns b.numbers n b.line r b.rest a b.read (third_out ns b.numbers (read_table true check_side_or_role pair_table b.line b.rest) t b.gives)

    go : Rows (read_table false check_side_or_role node_table 1 (lines text)) t (λ ns ls n. read_second ns (read_table false check_side_or_role edge_table n ls)) → KeepsRules text t
    go a = second a.numbers a.line a.rest a.read (second_out a.numbers (read_table false check_side_or_role edge_table a.line a.rest) t a.gives)

-- a text that is read as tables keeps the file rules with these
pub read-rules : (text : Bytes) (t : Tables) → read_map text ≡ full t → KeepsRules text t
unfolding read_map
read-rules text t e = go (check_text text) refl e
  where
    go : (o : Option Refusal) → check_text text ≡ o → elim o [ some r ↦ refused r | none ↦ read_first (read_table false check_side_or_role node_table 1 (lines text)) ] ≡ full t
        → KeepsRules text t
    go none q e = first-rules text t q e
    go (some r) q e = absurd (refused_full e)

-- a text is read as tables exactly where it keeps the file rules with these
pub read_keeps : (text : Bytes) (t : Tables) → (read_map text ≡ full t) ↔ KeepsRules text t
read_keeps text t = (read-rules text t, rules-read text t)

-- a text keeps the file rules with some tables exactly where no condition of the file holds
pub rules-conditions : (text : Bytes) → ((t : Tables) × KeepsRules text t) ↔ NoneHolds (file_conditions text)
rules-conditions text =
    let e = (read_settled text).gives in
    (λ w. e.0 (w.0, rules-read text w.0 w.1), λ h. let w = e.1 h in (w.0, read-rules text w.0 w.1))

-- a text keeps the file rules with one set of tables at most
pub rules_unique : (text : Bytes) (t u : Tables) → KeepsRules text t → KeepsRules text u → t ≡ u
rules_unique text t u k l = let p = rules-read text t k in let q = rules-read text u l in cc
