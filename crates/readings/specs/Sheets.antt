-- Readings of the global address sheet (document 02, item 4), and its limits at both edges, as lists of cases. Assumes nothing.
-- Sheets of 2,600 and 2,601 lines take too long to compute: the tests of the host have them. The length of a text is judged as that of a map file is
-- (Readings.code_readings).
use Rattle.std.specs.Prelude.{◌≡◌, List, [], ◌∷◌, ◌++◌, ℕ, ℤ, pos}
use Prim.Native.String.{String}
use Rattle.model.specs.Calls.{Answer, full}
use Rattle.model.specs.Bytes.{bytes}
use Rattle.model.specs.SheetCall.{TableLengths, sheet_gives, sheet_nodes_after, sheet_edges_after, sheet_printed}
use Rattle.model.specs.Marked.{refusal, times}

pub data SheetReading : Type 0 where
  -- a sheet, and what is printed for it
  shows : String → String → SheetReading
  -- the value lines of a sheet, below the names initiator block base size, so that the first is line 2; and what is printed for it
  shows_lines : String → String → SheetReading
  -- a sheet, a buffer of nodes and a buffer of edges; what the call returns, and both buffers afterwards
  reads : String → List ℤ → List ℤ → Answer TableLengths → List ℤ → List ℤ → SheetReading

-- what a reading says
abbrev pub Says : SheetReading → Type 0
Says (shows text out) = sheet_printed (bytes text) ≡ bytes out
Says (shows_lines lines out) = sheet_printed (bytes "initiator block base size\n" ++ bytes lines) ≡ bytes out
Says (reads text ns es n nodes edges) =
    (sheet_gives (bytes text) ns es ≡ n) × (sheet_nodes_after (bytes text) ns es ≡ nodes) × (sheet_edges_after (bytes text) ns es ≡ edges)

-- every reading of the list holds
abbrev pub AllSay : List SheetReading → Type 0
AllSay [] = Unit {0}
AllSay (c ∷ cs) = Says c × AllSay cs

-- two initiators, two blocks and three lines, out of order: what is printed for them, and their tables
abbrev pub three_lines : String
three_lines = "initiator block base size\n7 20 4096 64\n2 5 256 16\n7 5 0 16\n"

abbrev pub three_tables : String
three_tables =
    "side kind base range unit\n0 0 0 281474976710656 8\n0 0 0 281474976710656 8\n0 2 0 16 8\n0 2 0 64 8\n\nside from to offset\n0 1 3 4096\n0 0 2 256\n0 1 2 0\n"

abbrev pub three_nodes : List ℤ
three_nodes =
    times 2 (pos 0 ∷ pos 0 ∷ pos 281474976710656 ∷ pos 8 ∷ pos 0 ∷ []) ++ pos 2 ∷ pos 0 ∷ pos 16 ∷ pos 8 ∷ pos 0 ∷ pos 2 ∷ pos 0 ∷ pos 64 ∷ pos 8 ∷ pos 0 ∷ []

abbrev pub three_edges : List ℤ
three_edges = pos 1 ∷ pos 3 ∷ pos 4096 ∷ pos 0 ∷ pos 2 ∷ pos 256 ∷ pos 1 ∷ pos 2 ∷ pos 0 ∷ []

-- what is printed for one line with base 0 and size 1
abbrev pub one_byte : String
one_byte = "side kind base range unit\n0 0 0 281474976710656 8\n0 2 0 1 8\n\nside from to offset\n0 0 1 0\n"

-- sheets, and the tables that they make
abbrev pub table_readings : List SheetReading
table_readings =
    -- initiators 2 and 7 are rows 0 and 1, blocks 5 and 20 are rows 2 and 3; edges as the lines stand, the base as offset
    shows three_lines three_tables ∷
    -- the same with its columns turned round, and moved on by one
    shows "size base block initiator\n64 4096 20 7\n16 256 5 2\n16 0 5 7\n" three_tables ∷
    shows "block base size initiator\n20 4096 64 7\n5 256 16 2\n5 0 16 7\n" three_tables ∷
    -- names alone: no nodes and no edges
    shows "initiator block base size\n" "side kind base range unit\n\nside from to offset\n" ∷
    -- rows ascend by number and not by digits: 9 before 10, 20 before 100
    shows_lines "10 100 0 1\n9 20 0 2\n" "side kind base range unit\n0 0 0 281474976710656 8\n0 0 0 281474976710656 8\n0 2 0 2 8\n0 2 0 1 8\n\nside from to offset\n0 1 3 0\n0 0 2 0\n" ∷
    -- an initiator and a block with one number are two nodes
    shows_lines "3 3 5 4\n" "side kind base range unit\n0 0 0 281474976710656 8\n0 2 0 4 8\n\nside from to offset\n0 0 1 5\n" ∷
    -- two equal lines are two edges; so are two bases that overlap
    shows_lines "3 7 5 4\n3 7 5 4\n" "side kind base range unit\n0 0 0 281474976710656 8\n0 2 0 4 8\n\nside from to offset\n0 0 1 5\n0 0 1 5\n" ∷
    shows_lines "3 7 5 4\n3 7 2 4\n" "side kind base range unit\n0 0 0 281474976710656 8\n0 2 0 4 8\n\nside from to offset\n0 0 1 5\n0 0 1 2\n" ∷
    -- a block of two initiators, with one size
    shows_lines "4 3 100 8\n1 3 0 8\n" "side kind base range unit\n0 0 0 281474976710656 8\n0 0 0 281474976710656 8\n0 2 0 8 8\n\nside from to offset\n0 1 2 100\n0 0 2 0\n" ∷
    []

-- 17, and the lines beside it that are taken
abbrev pub range_readings : List SheetReading
range_readings =
    -- the lowest initiator, block, base and size
    shows_lines "0 0 0 1\n" one_byte ∷
    -- initiators −1, 999 and 1000
    shows_lines "-1 0 0 1\n" "refusal table row\n17 6 2\n" ∷
    shows_lines "999 0 0 1\n" one_byte ∷
    shows_lines "1000 0 0 1\n" "refusal table row\n17 6 2\n" ∷
    -- blocks −1, 999 and 1000
    shows_lines "0 -1 0 1\n" "refusal table row\n17 6 2\n" ∷
    shows_lines "0 999 0 1\n" one_byte ∷
    shows_lines "0 1000 0 1\n" "refusal table row\n17 6 2\n" ∷
    -- base −1, sizes 0 and −1
    shows_lines "0 0 -1 1\n" "refusal table row\n17 6 2\n" ∷
    shows_lines "0 0 0 0\n" "refusal table row\n17 6 2\n" ∷
    shows_lines "0 0 8 -1\n" "refusal table row\n17 6 2\n" ∷
    -- base + size = 2^48
    shows_lines "0 0 0 281474976710656\n" "side kind base range unit\n0 0 0 281474976710656 8\n0 2 0 281474976710656 8\n\nside from to offset\n0 0 1 0\n" ∷
    shows_lines "0 0 281474976710655 1\n" "side kind base range unit\n0 0 0 281474976710656 8\n0 2 0 1 8\n\nside from to offset\n0 0 1 281474976710655\n" ∷
    -- 2^48 + 1
    shows_lines "0 0 0 281474976710657\n" "refusal table row\n17 6 2\n" ∷
    shows_lines "0 0 1 281474976710656\n" "refusal table row\n17 6 2\n" ∷
    shows_lines "0 0 281474976710656 1\n" "refusal table row\n17 6 2\n" ∷
    -- eighteen digits are a value: of a base, of a size, of both with the sum 0, and of the numbers
    shows_lines "0 0 999999999999999999 1\n" "refusal table row\n17 6 2\n" ∷
    shows_lines "0 0 0 999999999999999999\n" "refusal table row\n17 6 2\n" ∷
    shows_lines "0 0 -999999999999999999 999999999999999999\n" "refusal table row\n17 6 2\n" ∷
    shows_lines "100000000000000000 0 0 1\n" "refusal table row\n17 6 2\n" ∷
    shows_lines "0 100000000000000000 0 1\n" "refusal table row\n17 6 2\n" ∷
    []

-- 18, and what is told first
abbrev pub order_readings : List SheetReading
order_readings =
    -- another size on a later line is told there: a larger one, and a smaller one of another initiator
    shows_lines "0 0 0 1\n0 0 0 2\n" "refusal table row\n18 6 3\n" ∷
    shows_lines "0 0 0 2\n1 0 8 1\n" "refusal table row\n18 6 3\n" ∷
    -- the earlier line need not be the nearest
    shows_lines "0 0 0 4\n0 1 0 8\n0 0 16 8\n" "refusal table row\n18 6 4\n" ∷
    -- of two such lines the lower
    shows_lines "0 0 0 1\n0 1 0 1\n0 1 0 2\n0 0 0 2\n" "refusal table row\n18 6 4\n" ∷
    -- on a line 14 before 17, 14 before 18, 17 before 18
    shows_lines "1000 0 0 01\n" "refusal table row\n14 6 2\n" ∷
    shows_lines "0 -1 0\n" "refusal table row\n14 6 2\n" ∷
    shows_lines "0 0 0 1\n0 0 00 2\n" "refusal table row\n14 6 3\n" ∷
    shows_lines "0 0 0 1\n0 0 0 0\n" "refusal table row\n17 6 3\n" ∷
    shows_lines "0 0 0 1\n1000 0 0 2\n" "refusal table row\n17 6 3\n" ∷
    -- between lines the lower one, whatever its number
    shows_lines "0 0 0 1\n1000 0 0 1\n0 0 0\n" "refusal table row\n17 6 3\n" ∷
    shows_lines "0 0 0 1\n1000 0 0 1\n0 0 0 2\n" "refusal table row\n17 6 3\n" ∷
    shows_lines "0 0 0 1\n0 0 0 2\n1000 0 0 1\n" "refusal table row\n18 6 3\n" ∷
    shows_lines "0 0 0 1\n0 0 0 2\n0 0 0\n" "refusal table row\n18 6 3\n" ∷
    shows_lines "0 0 0 1\n0 0 0\n1000 0 0 1\n" "refusal table row\n14 6 3\n" ∷
    shows_lines "0 0 0 1\n0 0 0\n0 0 0 2\n" "refusal table row\n14 6 3\n" ∷
    -- the names line before the lines below it
    shows "initiator block base\n1000 0 0 1\n0 0\n" "refusal table row\n13 6 1\n" ∷
    []

-- the file rules
abbrev pub file_readings : List SheetReading
file_readings =
    -- the empty text has no names line; of one line feed the names line is empty, and so it is where an empty line stands before the names
    shows "" "refusal table row\n13 6 1\n" ∷
    shows "\n" "refusal table row\n13 6 1\n" ∷
    shows "\ninitiator block base size\n" "refusal table row\n13 6 1\n" ∷
    -- a name is missing; a name stands twice, in place of another or behind all four; a fifth name, and an unknown one
    shows "initiator block base\n" "refusal table row\n13 6 1\n" ∷
    shows "initiator block base base\n" "refusal table row\n13 6 1\n" ∷
    shows "initiator block base size size\n" "refusal table row\n13 6 1\n" ∷
    shows "initiator block base size at\n" "refusal table row\n13 6 1\n" ∷
    shows "initiator block base range\n" "refusal table row\n13 6 1\n" ∷
    -- a doubled space among the names, and one behind them
    shows "initiator block  base size\n" "refusal table row\n13 6 1\n" ∷
    shows "initiator block base size \n" "refusal table row\n13 6 1\n" ∷
    -- an empty line is a value line: below the names, between values, at the end
    shows_lines "\n" "refusal table row\n14 6 2\n" ∷
    shows_lines "0 0 0 1\n\n0 1 0 1\n" "refusal table row\n14 6 3\n" ∷
    shows_lines "0 0 0 1\n\n" "refusal table row\n14 6 3\n" ∷
    -- the names once more are a value line
    shows_lines "0 0 0 1\ninitiator block base size\n" "refusal table row\n14 6 3\n" ∷
    -- minus zero, a leading zero, nineteen digits, a minus alone, a letter
    shows_lines "0 0 -0 1\n" "refusal table row\n14 6 2\n" ∷
    shows_lines "00 0 0 1\n" "refusal table row\n14 6 2\n" ∷
    shows_lines "0 0 0 01\n" "refusal table row\n14 6 2\n" ∷
    shows_lines "0 0 1000000000000000000 1\n" "refusal table row\n14 6 2\n" ∷
    shows_lines "0 0 -1000000000000000000 1\n" "refusal table row\n14 6 2\n" ∷
    shows_lines "0 - 0 1\n" "refusal table row\n14 6 2\n" ∷
    shows_lines "0 0 0 1k\n" "refusal table row\n14 6 2\n" ∷
    -- a value too few, one too many
    shows_lines "0 0 1\n" "refusal table row\n14 6 2\n" ∷
    shows_lines "0 0 0 1 0\n" "refusal table row\n14 6 2\n" ∷
    -- a doubled space, one before and one behind the values, one alone
    shows_lines "0 0  0 1\n" "refusal table row\n14 6 2\n" ∷
    shows_lines " 0 0 0 1\n" "refusal table row\n14 6 2\n" ∷
    shows_lines "0 0 0 1 \n" "refusal table row\n14 6 2\n" ∷
    shows_lines " \n" "refusal table row\n14 6 2\n" ∷
    -- a byte that is not allowed, at its line: a capital, a tab, a carriage return
    shows "Initiator block base size\n" "refusal table row\n12 6 1\n" ∷
    shows_lines "0\t0 0 1\n" "refusal table row\n12 6 2\n" ∷
    shows_lines "0 0 0 1\r\n" "refusal table row\n12 6 2\n" ∷
    -- it comes before 13, 14, 17 and 18 of an earlier line
    shows "\n0 0 0 A\n" "refusal table row\n12 6 2\n" ∷
    shows_lines "0 0 0\n0 0 0 A\n" "refusal table row\n12 6 3\n" ∷
    shows_lines "1000 0 0 1\n0 0 0 A\n" "refusal table row\n12 6 3\n" ∷
    shows_lines "0 0 0 1\n0 0 0 2\n0 0 0 A\n" "refusal table row\n12 6 4\n" ∷
    -- the last line has no line feed: the names line, a value line, one behind a line with 17, and one behind a byte that is not allowed
    shows "initiator block base size" "refusal table row\n12 6 1\n" ∷
    shows_lines "0 0 0 1" "refusal table row\n12 6 2\n" ∷
    shows_lines "1000 0 0 1\n0 0 0 1" "refusal table row\n12 6 3\n" ∷
    shows_lines "0 0 0 A\n0 0 0 1" "refusal table row\n12 6 2\n" ∷
    []

-- a buffer of so many numbers 9
abbrev pub nines : ℕ → List ℤ
nines k = times k (pos 9 ∷ [])

-- the lengths of two tables
abbrev pub lengths : ℕ → ℕ → Answer TableLengths
lengths n e = full (record { nodes = n; edges = e })

-- what the call returns, and its buffers
abbrev pub buffer_readings : List SheetReading
buffer_readings =
    -- buffers as long as the tables, and longer ones, which keep what lies behind
    reads three_lines (nines 20) (nines 9) (lengths 20 9) three_nodes three_edges ∷
    reads three_lines (nines 22) (nines 9) (lengths 20 9) (three_nodes ++ nines 2) three_edges ∷
    reads three_lines (nines 21) (nines 13) (lengths 20 9) (three_nodes ++ nines 1) (three_edges ++ nines 4) ∷
    -- nodes one number short, edges one number short, both; no room beside room enough
    reads three_lines (nines 19) (nines 9) (refusal 11 7 0) (nines 19) (nines 9) ∷
    reads three_lines (nines 20) (nines 8) (refusal 11 7 0) (nines 20) (nines 8) ∷
    reads three_lines (nines 19) (nines 8) (refusal 11 7 0) (nines 19) (nines 8) ∷
    reads three_lines (nines 30) [] (refusal 11 7 0) (nines 30) [] ∷
    reads three_lines [] (nines 30) (refusal 11 7 0) [] (nines 30) ∷
    -- names alone need no room
    reads "initiator block base size\n" [] [] (lengths 0 0) [] [] ∷
    reads "initiator block base size\n" (nines 2) (nines 1) (lengths 0 0) (nines 2) (nines 1) ∷
    -- a refusal leaves both buffers as they were, though the lines before it have tables
    reads "initiator block base size\n0 0 0 1\n0 0 0 A\n" (nines 11) (nines 7) (refusal 12 6 3) (nines 11) (nines 7) ∷
    reads "initiator block base\n0 0 0 1\n" (nines 11) (nines 7) (refusal 13 6 1) (nines 11) (nines 7) ∷
    reads "initiator block base size\n0 0 0 1\n0 0 0\n" (nines 11) (nines 7) (refusal 14 6 3) (nines 11) (nines 7) ∷
    reads "initiator block base size\n0 0 0 1\n0 0 0 0\n" (nines 11) (nines 7) (refusal 17 6 3) (nines 11) (nines 7) ∷
    reads "initiator block base size\n0 0 0 1\n0 0 0 2\n" (nines 11) (nines 7) (refusal 18 6 3) (nines 11) (nines 7) ∷
    -- 12, 13, 14, 17 and 18 come before 11
    reads "initiator block base size\n0 0 0 1\n0 0 0 A\n" [] [] (refusal 12 6 3) [] [] ∷
    reads "" [] [] (refusal 13 6 1) [] [] ∷
    reads "initiator block base size\n0 0 0 1\n0 0 0\n" [] [] (refusal 14 6 3) [] [] ∷
    reads "initiator block base size\n0 0 0 1\n0 0 0 0\n" (nines 9) (nines 3) (refusal 17 6 3) (nines 9) (nines 3) ∷
    reads "initiator block base size\n0 0 0 1\n0 0 0 2\n" (nines 10) (nines 2) (refusal 18 6 3) (nines 10) (nines 2) ∷
    []

-- all of these
abbrev pub sheet_readings : List SheetReading
sheet_readings = table_readings ++ range_readings ++ order_readings ++ file_readings ++ buffer_readings
