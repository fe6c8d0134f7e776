-- A table from its names line on, and the three tables of a map file, one after the other.
use mathlib.Core.Path.{◌≡◌, refl, sym, ap, subst, ◌∙◌}
use mathlib.Core.Bool.{Bool, true, false}
use mathlib.Core.List.{List, [], ◌∷◌}
use mathlib.Core.Option.{Option, none, some}
use Prim.Native.Nat.{ℕ, suc, ◌-◌, ◌*◌, ◌≤◌, ◌<◌}
use native.Mathlib.Omega.{arith}
use lib.IntN.{ℤ}
use lib.ListN.{length, drop, length-drop}
use Rattle.filerules.proofs.Options.{none-some}
use Rattle.filerules.proofs.Words.{Regular, node_regular, edge_regular, pair_regular}
use Rattle.filerules.proofs.Names.{good-many, names-read}
use Rattle.model.specs.Limits.{max_nodes, max_edges, max_pairs}
use Rattle.model.specs.Bytes.{Bytes}
use Rattle.model.specs.MapFile.{Table, all_names, node_table, edge_table, pair_table, lines}
use Rattle.model.specs.Refusals.{Refusal}
use Rattle.model.specs.Calls.{refused, full, answer}
use Rattle.model.specs.Answers.{numbered}
use Rattle.model.specs.Reader.{Layout, fields_of, columns, RowCheck, check_side_or_role, Reading, stopped, rows, stop, read_values, read_table, check_text, tables_of, read_third, read_second, read_first, read_map}
use Rattle.characters.proofs.Text.{checked}
use Rattle.cursor.specs.declared.Cursor.{Cursor}
use Rattle.cursor.specs.Parts.{first_line, later_lines}
use Rattle.cursor.specs.Given.{InText, Stands}
use Rattle.cursor.proofs.Parts.{lines-first}
use Rattle.cursor.proofs.Lines.{later_behind}
use Rattle.columns.specs.declared.Columns.{Columns}
use Rattle.columns.specs.Given.{max_names, layout_in, LaidOut, GoodColumns}
use Rattle.columns.proofs.ColumnLists.{laid-good}
use Rattle.sides.specs.Given.{Roomy}
use Rattle.mapfile.specs.declared.FileTable.{FileTable}
use Rattle.mapfile.specs.declared.FileTable.TheVariants as fileTable
use Rattle.mapfile.specs.Given.{table_of, room_of}

-- ---- the tables of the file

-- each has 2 names at least
pub file_several : (f : FileTable) → 2 ≤ length (table_of f).names
unfolding node_table edge_table pair_table
file_several fileTable.Nodes = omega arith
file_several fileTable.Edges = omega arith
file_several fileTable.Pairs = omega arith

-- and at most 6, optional ones among them
pub file_few : (f : FileTable) → length (all_names (table_of f)) ≤ max_names
unfolding node_table edge_table pair_table
file_few fileTable.Nodes = omega arith
file_few fileTable.Edges = omega arith
file_few fileTable.Pairs = omega arith

-- and room for whole rows without side or role
pub file_room : (f : FileTable) → (most : ℕ) × (room_of f ≡ (length (all_names (table_of f)) - 1) * most)
unfolding node_table edge_table pair_table
file_room fileTable.Nodes = (suc max_nodes, refl)
file_room fileTable.Edges = (suc max_edges, refl)
file_room fileTable.Pairs = (suc max_pairs, refl)

-- each is regular
pub file_regular : (f : FileTable) → Regular (table_of f)
file_regular fileTable.Nodes = node_regular
file_regular fileTable.Edges = edge_regular
file_regular fileTable.Pairs = pair_regular

-- ---- a table from its names line on

-- an empty line has one field, and so is no names line of a table with several names
columns-empty : {t : Table} → Regular t → 2 ≤ length t.names → columns t [] ≡ none
unfolding fields_of
columns-empty {t} regular several = go (columns t []) refl
  where
    go : (o : Option Layout) → columns t [] ≡ o → o ≡ none
    go none e = refl
    go (some y) e = absurd (omega (arith, good-many regular (names-read regular [] y e).0.named))

module _ (last : Bool) (check : RowCheck) {t : Table} (regular : Regular t) (several : 2 ≤ length t.names) (n : ℕ) where
  table-lines : (u : Bytes) {o : Option Layout} → columns t (first_line u) ≡ o
      → read_table last check t n (lines u) ≡ elim o [ none ↦ stop 13 n | some y ↦ read_values last check y (suc n) [] (lines (later_lines u)) ]
  unfolding read_table lines first_line
  table-lines [] {o} e =
      subst (λ (o : Option Layout). stop 13 n ≡ elim o [ none ↦ stop 13 n | some y ↦ read_values last check y (suc n) [] (lines (later_lines [])) ])
      (sym (columns-empty regular several) ∙ e) refl
  table-lines (c ∷ u) {o} e =
      ap (read_table last check t n) (lines-first c u)
      ∙ ap (λ (o : Option Layout). elim o [ none ↦ stop 13 n | some y ↦ read_values last check y (suc n) [] (lines (later_lines (c ∷ u))) ]) e

module _ {t : Table} {text : Bytes} {from : Cursor} (regular : Regular t) (several : 2 ≤ length t.names) (in_text : InText text from) where
  -- the line at the cursor is no names line
  pub line_wrong : (last : Bool) (check : RowCheck) → columns t (first_line (drop from.at text)) ≡ none
      → read_table last check t from.line (lines (drop from.at text)) ≡ stopped (numbered 13 6 from.line)
  unfolding stop
  line_wrong last check e = table-lines last check regular several from.line (drop from.at text) {o = none} e

  module _ {cs : Columns} (g : LaidOut t (first_line (drop from.at text)) cs) {next : Cursor} (s : Stands text (later_lines (drop from.at text)) (suc from.line) next) where
    -- it is one, and its columns are good
    pub line-good : length (all_names t) ≤ max_names → GoodColumns cs
    line-good few = laid-good g regular several few

    line-there : from.at < length text
    unfolding first_line
    line-there = go (drop from.at text) (length-drop from.at text) g.names
      where
        go : (u : Bytes) → length u ≡ length text - from.at → columns t (first_line u) ≡ some (layout_in cs) → from.at < length text
        go [] e q = absurd (none-some (sym (columns-empty regular several) ∙ q))
        go (c ∷ u) e q = omega (arith, e)

    -- the value lines follow
    pub line_in_text : InText text next
    line_in_text = record { within = s.within; low = omega (arith, s.line, in_text.low, later_behind text from.at line-there s) }

    -- and make up the table
    pub line-values : (last : Bool) (check : RowCheck) → read_table last check t from.line (lines (drop from.at text))
        ≡ read_values last check (layout_in cs) next.line [] (lines (drop next.at text))
    line-values last check = rw (s.line, s.before) (table-lines last check regular several from.line (drop from.at text) g.names)

    -- a room of whole rows
    pub line-room : {room : ℕ} → (most : ℕ) × (room ≡ (length (all_names t) - 1) * most) → Roomy cs room
    line-room w = (w.0, rw g.count w.1)

-- ---- the map file

-- what the check of the whole text comes to
pub check-refused : (o : Option Refusal) {r : Refusal} → refused r ≡ checked o → o ≡ some r
unfolding answer
check-refused none e = cc
check-refused (some r) e = cc

pub check-taken : (o : Option Refusal) → full tt ≡ checked o → o ≡ none
unfolding answer
check-taken none e = refl
check-taken (some r) e = cc

module _ (text : Bytes) where
  map_after : {o : Option Refusal} → check_text text ≡ o
      → read_map text ≡ elim o [ some r ↦ refused r | none ↦ read_first (read_table false check_side_or_role node_table 1 (lines text)) ]
  unfolding read_map
  map_after e = ap (λ (o : Option Refusal). elim o [ some r ↦ refused r | none ↦ read_first (read_table false check_side_or_role node_table 1 (lines text)) ]) e

  -- refusal 12
  pub map_checked : {r : Refusal} → refused r ≡ checked (check_text text) → read_map text ≡ refused r
  map_checked e = map_after (check-refused (check_text text) e)

  module _ (taken : full tt ≡ checked (check_text text)) where
    map_first : {x : Reading} → read_table false check_side_or_role node_table 1 (lines text) ≡ x → read_map text ≡ read_first x
    map_first e = map_after (check-taken (check_text text) taken) ∙ ap read_first e

    -- a refusal in the first table
    pub map_nodes : {r : Refusal} → read_table false check_side_or_role node_table 1 (lines text) ≡ stopped r → read_map text ≡ refused r
    unfolding read_first
    map_nodes e = map_first e

    module _ {ns : List (List ℤ)} {rest : List Bytes} {n : ℕ} (nodes : read_table false check_side_or_role node_table 1 (lines text) ≡ rows ns rest n) where
      map_second : {x : Reading} → read_table false check_side_or_role edge_table n rest ≡ x → read_map text ≡ read_second ns x
      unfolding read_first
      map_second e = map_first nodes ∙ ap (read_second ns) e

      -- in the second
      pub map_edges : {r : Refusal} → read_table false check_side_or_role edge_table n rest ≡ stopped r → read_map text ≡ refused r
      unfolding read_second
      map_edges e = map_second e

      module _ {es : List (List ℤ)} {others : List Bytes} {m : ℕ} (edges : read_table false check_side_or_role edge_table n rest ≡ rows es others m) where
        map_third : {x : Reading} → read_table true check_side_or_role pair_table m others ≡ x → read_map text ≡ read_third ns es x
        unfolding read_second
        map_third e = map_second edges ∙ ap (read_third ns es) e

        -- in the third
        pub map_pairs : {r : Refusal} → read_table true check_side_or_role pair_table m others ≡ stopped r → read_map text ≡ refused r
        unfolding read_third
        map_pairs e = map_third e

        -- no refusal
        pub map_tables : {ps : List (List ℤ)} {none_left : List Bytes} {k : ℕ} → read_table true check_side_or_role pair_table m others ≡ rows ps none_left k
            → read_map text ≡ full (tables_of ns es ps)
        unfolding read_third
        map_tables e = map_third e
