-- Readings of the open places of documents 01 and 02, and limits at both edges, as lists of cases. Assumes nothing.
use Rattle.std.specs.Prelude.{◌≡◌, List, [], ◌∷◌, ◌++◌, ℕ, ◌*◌, ◌-◌, ◌^◌, ℤ, pos, negsuc, neg_ℤ}
use Prim.Native.String.{String}
use Rattle.model.specs.declared.WalkKind.{WalkKind}
use Rattle.model.specs.declared.WalkKind.TheVariants as kinds
use Rattle.model.specs.Compare.{Tables, nowhere, Result}
use Rattle.model.specs.Calls.{Answer, full, check_answer, walk_gives, walk_after, list_gives, list_after, compare_answer}
use Rattle.model.specs.Bytes.{Bytes, bytes}
use Rattle.model.specs.TextCheck.{printed, text_gives, coded}
use Rattle.model.specs.Tally.{Check, tally_gives, tally_after, counts_after, fresh_tally, counts_after_all, ended}
use Rattle.model.specs.Marked.{spec_nodes, spec_edges, refusal, times, text1, report1, text2, text3}

-- two specified memories of 16 bytes, blocks 1 and 2, of which the second lies behind the first; blocks 1 and 2 of the implementation are the halves of the
-- first, blocks 3 and 4 those of the second
abbrev pub memory_nodes : List ℤ
memory_nodes = pos 0 ∷ pos 0 ∷ pos 32 ∷ pos 8 ∷ pos 0 ∷ times 2 (pos 2 ∷ pos 0 ∷ pos 16 ∷ pos 8 ∷ pos 0 ∷ [])

abbrev pub memory_edges : List ℤ
memory_edges = pos 0 ∷ pos 1 ∷ pos 0 ∷ pos 0 ∷ pos 2 ∷ pos 16 ∷ []

abbrev pub bank_nodes : List ℤ
bank_nodes = pos 0 ∷ pos 0 ∷ pos 32 ∷ pos 8 ∷ pos 0 ∷ times 4 (pos 2 ∷ pos 0 ∷ pos 8 ∷ pos 8 ∷ pos 0 ∷ [])

abbrev pub bank_edges : List ℤ
bank_edges = pos 0 ∷ pos 1 ∷ pos 0 ∷ pos 0 ∷ pos 2 ∷ pos 8 ∷ pos 0 ∷ pos 3 ∷ pos 16 ∷ pos 0 ∷ pos 4 ∷ pos 24 ∷ []

-- the memories with these root pairs and leaf pairs
abbrev pub memories : List ℤ → List ℤ → Tables
memories roots leaves =
    record { spec_nodes = memory_nodes; spec_edges = memory_edges; impl_nodes = bank_nodes; impl_edges = bank_edges; root_pairs = roots; leaf_pairs = leaves }

-- the same in a map file: what stands before its third table, whose names are on line 19
abbrev pub memories_text : String
memories_text =
    "side kind base range unit\n0 0 0 32 8\n0 2 0 16 8\n0 2 0 16 8\n1 0 0 32 8\n1 2 0 8 8\n1 2 0 8 8\n1 2 0 8 8\n1 2 0 8 8\n\nside from to offset\n0 0 1 0\n0 0 2 16\n1 0 1 0\n1 0 2 8\n1 0 3 16\n1 0 4 24\n\n"

-- what stands below the node table of a map file with one root and one leaf on each side: rows 0 and 1, the leaf from byte 4 of the root on
abbrev pub one_leaf_text : String
one_leaf_text = "\nside from to offset\n0 0 1 4\n1 0 1 4\n\nrole spec impl\n0 0 0\n1 1 1\n"

pub data Reading : Type 0 where
  -- a map file, and what mapcheck prints for it
  prints : String → String → Reading
  -- the first table of a map file with one root and one leaf on each side, and what mapcheck prints for it
  prints_nodes : String → String → Reading
  -- the third table of a map file of the memories, and what mapcheck prints for it
  prints_pairs : String → String → Reading
  -- node table and edge table, and the answer of the check
  checks : List ℤ → List ℤ → Answer (Unit {0}) → Reading
  -- kind of walk, tables, root, leaf, address and buffer; what walk returns, and the buffer afterwards
  walks : WalkKind → List ℤ → List ℤ → ℤ → ℤ → ℤ → List ℤ → Answer ℕ → List ℤ → Reading
  -- kind of walk, tables, root, leaf and buffer; what list returns, and the buffer afterwards
  listed : WalkKind → List ℤ → List ℤ → ℤ → ℤ → List ℤ → Answer ℕ → List ℤ → Reading
  -- two graphs with their pairing, and the answer of the comparison
  compares : Tables → Answer Result → Reading
  -- a text and a report buffer, and what the call through C linkage returns
  codes : Bytes → Bytes → ℤ → Reading
  -- a check and a tally; what the call returns, the report buffer afterwards, and the tally afterwards
  tallies : Check → List ℕ → Answer ℕ → Bytes → List ℕ → Reading
  -- checks from a fresh tally, one after the other, and the tally afterwards
  tallied : List Check → List ℕ → Reading
  -- checks, a caller and an ending, and how many of the caller's ended so
  numbers : List Check → ℕ → ℕ → ℕ → Reading

-- what a reading says
abbrev pub Says : Reading → Type 0
Says (prints text out) = printed (bytes text) ≡ bytes out
Says (prints_nodes nodes out) = printed (bytes nodes ++ bytes one_leaf_text) ≡ bytes out
Says (prints_pairs pairs out) = printed (bytes memories_text ++ bytes pairs) ≡ bytes out
Says (checks ns es a) = check_answer ns es ≡ a
Says (walks kind ns es r l x b n after) = (walk_gives kind ns es r l x b ≡ n) × (walk_after kind ns es r l x b ≡ after)
Says (listed kind ns es r l b n after) = (list_gives kind ns es r l b ≡ n) × (list_after kind ns es r l b ≡ after)
Says (compares t a) = compare_answer t ≡ a
Says (codes text b n) = coded (text_gives text b) ≡ n
Says (tallies c counts n report counted) = (tally_gives c ≡ n) × (tally_after c ≡ report) × (counts_after c counts ≡ counted)
Says (tallied cs after) = counts_after_all cs fresh_tally ≡ after
Says (numbers cs k v n) = ended k v cs ≡ n

-- every reading of the list holds
abbrev pub AllSay : List Reading → Type 0
AllSay [] = Unit {0}
AllSay (c ∷ cs) = Says c × AllSay cs

-- map files, and what is printed for them
abbrev pub text_readings : List Reading
text_readings =
    -- the empty text has no names line
    prints "" "refusal table row\n13 6 1\n" ∷
    -- of one line feed the names line is empty
    prints "\n" "refusal table row\n13 6 1\n" ∷
    -- names alone: no root pair
    prints "side kind base range unit\n\nside from to offset\n\nrole spec impl\n" "refusal table row\n9 4 0\n" ∷
    -- names in any order: P1 with its columns turned round
    prints "unit range base kind side\n8 4096 0 0 0\n8 64 256 2 0\n8 4096 0 0 1\n32 12 0 0 1\n32 16 0 2 1\n\noffset to side from\n0 1 0 0\n64 1 1 0\n0 2 1 1\n\nimpl role spec\n0 0 0\n2 1 1\n" "root leaf verdict rspec rimpl wspec wimpl\n0 0 1 1 1 1 1\n\nverdict equal partial different root leaf address\n1 0 1 0 0 0 2432\n" ∷
    -- a name twice
    prints "side side base range unit\n\n" "refusal table row\n13 6 1\n" ∷
    -- a name too many
    prints "side kind base range unit unit\n\n" "refusal table row\n13 6 1\n" ∷
    -- a doubled space in a names line
    prints "side kind  base range unit\n\n" "refusal table row\n13 6 1\n" ∷
    -- a space behind a value line
    prints "side kind base range unit\n0 0 0 1 8 \n\n" "refusal table row\n14 6 2\n" ∷
    -- a leading zero
    prints "side kind base range unit\n0 0 00 1 8\n\n" "refusal table row\n14 6 2\n" ∷
    -- minus zero
    prints "side kind base range unit\n0 0 -0 1 8\n\n" "refusal table row\n14 6 2\n" ∷
    -- nineteen digits
    prints "side kind base range unit\n0 0 1000000000000000000 1 8\n\n" "refusal table row\n14 6 2\n" ∷
    -- eighteen digits are a value: the node row is bad
    prints "side kind base range unit\n0 0 -999999999999999999 1 8\n\nside from to offset\n\nrole spec impl\n" "refusal table row\n2 0 0\n" ∷
    -- side 2
    prints "side kind base range unit\n2 0 0 1 8\n\n" "refusal table row\n14 6 2\n" ∷
    -- role -1
    prints "side kind base range unit\n\nside from to offset\n\nrole spec impl\n-1 0 0\n" "refusal table row\n14 6 6\n" ∷
    -- a value too few
    prints "side kind base range unit\n0 0 0 1\n\n" "refusal table row\n14 6 2\n" ∷
    -- ends too soon where the empty line is due
    prints "side kind base range unit\n0 0 0 1 8\n" "refusal table row\n13 6 3\n" ∷
    -- ends too soon where a names line is due
    prints "side kind base range unit\n\n" "refusal table row\n13 6 3\n" ∷
    -- a second empty line stands where names are due
    prints "side kind base range unit\n\n\nside from to offset\n\nrole spec impl\n" "refusal table row\n13 6 3\n" ∷
    -- a line of one space is a value line
    prints "side kind base range unit\n \n\nside from to offset\n\nrole spec impl\n" "refusal table row\n14 6 2\n" ∷
    -- an empty line after the third table is a value line
    prints "side kind base range unit\n0 0 0 4096 8\n0 2 256 64 8\n1 0 0 4096 8\n1 0 0 12 32\n1 2 0 16 32\n\nside from to offset\n0 0 1 0\n1 0 1 64\n1 1 2 0\n\nrole spec impl\n0 0 0\n1 1 2\n\n" "refusal table row\n14 6 16\n" ∷
    -- a byte that is not allowed, at its line, before what its line breaks
    prints "side kind base range unit\n0 0 0 1 8\n0 0 A 1 8\n" "refusal table row\n12 6 3\n" ∷
    -- the last line has no line feed
    prints "side kind base range unit\n0 0 0 1 8" "refusal table row\n12 6 2\n" ∷
    -- the lowest byte before the last line
    prints "side\nB\n0" "refusal table row\n12 6 2\n" ∷
    -- the whole text is read before a count is judged: a bad pair line comes before a bad node row
    prints "side kind base range unit\n0 9 0 1 8\n\nside from to offset\n\nrole spec impl\n0 0\n" "refusal table row\n14 6 7\n" ∷
    -- rows count per side: row 1 of the implementation is bad
    prints "side kind base range unit\n1 0 0 1 8\n0 0 0 1 8\n1 0 0 0 8\n\nside from to offset\n\nrole spec impl\n" "refusal table row\n2 2 1\n" ∷
    -- a pair with records on one side only has a line: different
    prints "side kind base range unit\n0 0 0 4 8\n0 2 0 4 8\n1 0 0 4 8\n1 2 0 4 8\n\nside from to offset\n0 0 1 0\n\nrole spec impl\n0 0 0\n1 1 1\n" "root leaf verdict rspec rimpl wspec wimpl\n0 0 2 1 0 1 0\n\nverdict equal partial different root leaf address\n2 0 0 1 0 0 0\n" ∷
    -- a pair with no record has none: equal
    prints "side kind base range unit\n0 0 0 4 8\n0 2 0 4 8\n1 0 0 4 8\n1 2 0 4 8\n\nside from to offset\n\nrole spec impl\n0 0 0\n1 1 1\n" "root leaf verdict rspec rimpl wspec wimpl\n\nverdict equal partial different root leaf address\n0 1 0 0 -1 -1 -1\n" ∷
    []

-- one graph
abbrev pub graph_readings : List Reading
graph_readings =
    -- no nodes and no edges
    checks [] [] (full tt) ∷
    -- a node table of six numbers
    checks (pos 0 ∷ pos 0 ∷ pos 16 ∷ pos 8 ∷ pos 0 ∷ pos 0 ∷ []) [] (refusal 1 0 0) ∷
    -- 2,000 nodes, and one more
    checks (times 2000 (pos 0 ∷ pos 0 ∷ pos 16 ∷ pos 8 ∷ pos 0 ∷ [])) [] (full tt) ∷
    checks (times 2001 (pos 0 ∷ pos 0 ∷ pos 16 ∷ pos 8 ∷ pos 0 ∷ [])) [] (refusal 1 0 0) ∷
    -- 2,600 edges, and one more
    checks (pos 0 ∷ pos 0 ∷ pos 16 ∷ pos 8 ∷ pos 0 ∷ pos 2 ∷ pos 0 ∷ pos 16 ∷ pos 8 ∷ pos 0 ∷ []) (times 2600 (pos 0 ∷ pos 1 ∷ pos 0 ∷ [])) (full tt) ∷
    checks (pos 0 ∷ pos 0 ∷ pos 16 ∷ pos 8 ∷ pos 0 ∷ pos 2 ∷ pos 0 ∷ pos 16 ∷ pos 8 ∷ pos 0 ∷ []) (times 2601 (pos 0 ∷ pos 1 ∷ pos 0 ∷ [])) (refusal 1 1 0) ∷
    -- the least and the largest number
    checks (pos 0 ∷ negsuc 9223372036854775807 ∷ pos 9223372036854775807 ∷ pos 8 ∷ pos 0 ∷ []) [] (refusal 2 0 0) ∷
    checks (pos 0 ∷ pos 9223372036854775807 ∷ pos 9223372036854775807 ∷ pos 8 ∷ pos 0 ∷ []) [] (refusal 2 0 0) ∷
    -- unknown kind, unknown unit, no range
    checks (pos 0 ∷ pos 0 ∷ pos 16 ∷ pos 8 ∷ pos 0 ∷ pos 3 ∷ pos 0 ∷ pos 1 ∷ pos 8 ∷ pos 0 ∷ []) [] (refusal 2 0 1) ∷
    checks (pos 0 ∷ pos 0 ∷ pos 1 ∷ pos 24 ∷ pos 0 ∷ []) [] (refusal 2 0 0) ∷
    checks (pos 0 ∷ pos 0 ∷ pos 0 ∷ pos 8 ∷ pos 0 ∷ []) [] (refusal 2 0 0) ∷
    -- an end that is no node row
    checks (pos 0 ∷ pos 0 ∷ pos 16 ∷ pos 8 ∷ pos 0 ∷ pos 2 ∷ pos 0 ∷ pos 16 ∷ pos 8 ∷ pos 0 ∷ []) (pos 0 ∷ pos 2 ∷ pos 0 ∷ []) (refusal 3 1 0) ∷
    checks (pos 0 ∷ pos 0 ∷ pos 16 ∷ pos 8 ∷ pos 0 ∷ pos 2 ∷ pos 0 ∷ pos 16 ∷ pos 8 ∷ pos 0 ∷ []) (negsuc 0 ∷ pos 1 ∷ pos 0 ∷ []) (refusal 3 1 0) ∷
    -- from a block, in a lower row than a bad end
    checks (pos 0 ∷ pos 0 ∷ pos 16 ∷ pos 8 ∷ pos 0 ∷ pos 2 ∷ pos 0 ∷ pos 16 ∷ pos 8 ∷ pos 0 ∷ []) (pos 0 ∷ pos 1 ∷ pos 0 ∷ pos 1 ∷ pos 0 ∷ pos 0 ∷ pos 0 ∷ pos 5 ∷ pos 0 ∷ []) (refusal 4 1 1) ∷
    -- an edge from a block to no node row: 3 before 4
    checks (pos 0 ∷ pos 0 ∷ pos 16 ∷ pos 8 ∷ pos 0 ∷ pos 2 ∷ pos 0 ∷ pos 16 ∷ pos 8 ∷ pos 0 ∷ []) (pos 1 ∷ pos 9 ∷ pos 0 ∷ []) (refusal 3 1 0) ∷
    -- a self-loop of a space, and of a block
    checks (pos 0 ∷ pos 0 ∷ pos 16 ∷ pos 8 ∷ pos 0 ∷ []) (pos 0 ∷ pos 0 ∷ pos 0 ∷ []) (refusal 5 0 0) ∷
    checks (pos 2 ∷ pos 0 ∷ pos 16 ∷ pos 8 ∷ pos 0 ∷ []) (pos 0 ∷ pos 0 ∷ pos 0 ∷ []) (refusal 4 1 0) ∷
    []

-- walk, list and compare
abbrev pub call_readings : List Reading
call_readings =
    -- a walk: the address, one past the root, and a negative one
    walks kinds.Reading (pos 0 ∷ pos 0 ∷ pos 16 ∷ pos 8 ∷ pos 0 ∷ pos 2 ∷ pos 0 ∷ pos 16 ∷ pos 8 ∷ pos 0 ∷ []) (pos 0 ∷ pos 1 ∷ pos 0 ∷ []) (pos 0) (pos 1) (pos 5) (pos 9 ∷ pos 9 ∷ []) (full 1) (pos 5 ∷ pos 9 ∷ []) ∷
    walks kinds.Reading (pos 0 ∷ pos 0 ∷ pos 16 ∷ pos 8 ∷ pos 0 ∷ pos 2 ∷ pos 0 ∷ pos 16 ∷ pos 8 ∷ pos 0 ∷ []) (pos 0 ∷ pos 1 ∷ pos 0 ∷ []) (pos 0) (pos 1) (pos 128) (pos 9 ∷ []) (full 0) (pos 9 ∷ []) ∷
    walks kinds.Reading (pos 0 ∷ pos 0 ∷ pos 16 ∷ pos 8 ∷ pos 0 ∷ pos 2 ∷ pos 0 ∷ pos 16 ∷ pos 8 ∷ pos 0 ∷ []) (pos 0 ∷ pos 1 ∷ pos 0 ∷ []) (pos 0) (pos 1) (negsuc 0) [] (full 0) [] ∷
    -- parallel edges reach a leaf bit once; two offsets reach two, ascending
    walks kinds.Reading (pos 0 ∷ pos 0 ∷ pos 16 ∷ pos 8 ∷ pos 0 ∷ pos 2 ∷ pos 0 ∷ pos 16 ∷ pos 8 ∷ pos 0 ∷ []) (pos 0 ∷ pos 1 ∷ pos 1 ∷ pos 0 ∷ pos 1 ∷ pos 0 ∷ pos 0 ∷ pos 1 ∷ pos 1 ∷ []) (pos 0) (pos 1) (pos 8) (pos 7 ∷ pos 7 ∷ pos 7 ∷ []) (full 2) (pos 0 ∷ pos 8 ∷ pos 7 ∷ []) ∷
    -- a root with base 4: root bits count from address 0, and below its first bit, 32, none is reached
    walks kinds.Reading (pos 0 ∷ pos 4 ∷ pos 16 ∷ pos 8 ∷ pos 0 ∷ pos 2 ∷ pos 0 ∷ pos 16 ∷ pos 8 ∷ pos 0 ∷ []) (pos 0 ∷ pos 1 ∷ pos 4 ∷ []) (pos 0) (pos 1) (pos 40) (pos 9 ∷ []) (full 1) (pos 8 ∷ []) ∷
    walks kinds.Reading (pos 0 ∷ pos 4 ∷ pos 16 ∷ pos 8 ∷ pos 0 ∷ pos 2 ∷ pos 0 ∷ pos 16 ∷ pos 8 ∷ pos 0 ∷ []) (pos 0 ∷ pos 1 ∷ pos 4 ∷ []) (pos 0) (pos 1) (pos 31) (pos 9 ∷ []) (full 0) (pos 9 ∷ []) ∷
    -- no room: 11, and the buffer as it was
    walks kinds.Reading (pos 0 ∷ pos 0 ∷ pos 16 ∷ pos 8 ∷ pos 0 ∷ pos 2 ∷ pos 0 ∷ pos 16 ∷ pos 8 ∷ pos 0 ∷ []) (pos 0 ∷ pos 1 ∷ pos 1 ∷ pos 0 ∷ pos 1 ∷ pos 0 ∷ []) (pos 0) (pos 1) (pos 8) (pos 7 ∷ []) (refusal 11 7 0) (pos 7 ∷ []) ∷
    -- the named root is no root; the leaf no leaf; neither a node row
    walks kinds.Reading (pos 0 ∷ pos 0 ∷ pos 16 ∷ pos 8 ∷ pos 0 ∷ pos 2 ∷ pos 0 ∷ pos 16 ∷ pos 8 ∷ pos 0 ∷ []) (pos 0 ∷ pos 1 ∷ pos 0 ∷ []) (pos 1) (pos 1) (pos 0) [] (refusal 7 4 0) [] ∷
    walks kinds.Reading (pos 0 ∷ pos 0 ∷ pos 16 ∷ pos 8 ∷ pos 0 ∷ pos 2 ∷ pos 0 ∷ pos 16 ∷ pos 8 ∷ pos 0 ∷ []) (pos 0 ∷ pos 1 ∷ pos 0 ∷ []) (pos 0) (pos 0) (pos 0) [] (refusal 7 5 0) [] ∷
    walks kinds.Reading (pos 0 ∷ pos 0 ∷ pos 16 ∷ pos 8 ∷ pos 0 ∷ pos 2 ∷ pos 0 ∷ pos 16 ∷ pos 8 ∷ pos 0 ∷ []) (pos 0 ∷ pos 1 ∷ pos 0 ∷ []) (negsuc 0) (pos 7) (pos 0) [] (refusal 7 4 0) [] ∷
    -- 10 is told though the address lies outside the root
    walks kinds.Reading (pos 0 ∷ pos 0 ∷ pos 16 ∷ pos 8 ∷ pos 0 ∷ pos 2 ∷ pos 0 ∷ pos 16 ∷ pos 8 ∷ pos 0 ∷ []) (times 1025 (pos 0 ∷ pos 1 ∷ pos 0 ∷ [])) (pos 0) (pos 1) (pos 128) [] (refusal 10 1 0) [] ∷
    -- the record of a root with base 4
    listed kinds.Reading (pos 0 ∷ pos 4 ∷ pos 16 ∷ pos 8 ∷ pos 0 ∷ pos 2 ∷ pos 0 ∷ pos 16 ∷ pos 8 ∷ pos 0 ∷ []) (pos 0 ∷ pos 1 ∷ pos 4 ∷ []) (pos 0) (pos 1) (pos 9 ∷ pos 9 ∷ pos 9 ∷ []) (full 1) (pos 32 ∷ pos 159 ∷ pos 32 ∷ []) ∷
    -- a list of one record needs three numbers, and past them the buffer keeps its own
    listed kinds.Reading (pos 0 ∷ pos 0 ∷ pos 16 ∷ pos 8 ∷ pos 0 ∷ pos 2 ∷ pos 0 ∷ pos 16 ∷ pos 8 ∷ pos 0 ∷ []) (pos 0 ∷ pos 1 ∷ pos 0 ∷ []) (pos 0) (pos 1) (pos 9 ∷ pos 9 ∷ pos 9 ∷ pos 9 ∷ []) (full 1) (pos 0 ∷ pos 127 ∷ pos 0 ∷ pos 9 ∷ []) ∷
    listed kinds.Reading (pos 0 ∷ pos 0 ∷ pos 16 ∷ pos 8 ∷ pos 0 ∷ pos 2 ∷ pos 0 ∷ pos 16 ∷ pos 8 ∷ pos 0 ∷ []) (pos 0 ∷ pos 1 ∷ pos 0 ∷ []) (pos 0) (pos 1) (pos 9 ∷ pos 9 ∷ []) (refusal 11 7 0) (pos 9 ∷ pos 9 ∷ []) ∷
    -- clipped paths count: 1,024 of them that no bit lives on give no record, 1,025 give 10
    listed kinds.Reading (pos 0 ∷ pos 0 ∷ pos 16 ∷ pos 8 ∷ pos 0 ∷ pos 2 ∷ pos 0 ∷ pos 16 ∷ pos 8 ∷ pos 0 ∷ []) (times 1024 (pos 0 ∷ pos 1 ∷ pos 64 ∷ [])) (pos 0) (pos 1) [] (full 0) [] ∷
    listed kinds.Reading (pos 0 ∷ pos 0 ∷ pos 16 ∷ pos 8 ∷ pos 0 ∷ pos 2 ∷ pos 0 ∷ pos 16 ∷ pos 8 ∷ pos 0 ∷ []) (times 1025 (pos 0 ∷ pos 1 ∷ pos 64 ∷ [])) (pos 0) (pos 1) [] (refusal 10 1 0) [] ∷
    -- 1,001 leaf rows and no root row: the shape comes first
    compares (record { spec_nodes = (pos 0 ∷ pos 0 ∷ pos 16 ∷ pos 8 ∷ pos 0 ∷ pos 2 ∷ pos 0 ∷ pos 16 ∷ pos 8 ∷ pos 0 ∷ []); spec_edges = (pos 0 ∷ pos 1 ∷ pos 0 ∷ []); impl_nodes = (pos 0 ∷ pos 0 ∷ pos 16 ∷ pos 8 ∷ pos 0 ∷ pos 2 ∷ pos 0 ∷ pos 16 ∷ pos 8 ∷ pos 0 ∷ []); impl_edges = (pos 0 ∷ pos 1 ∷ pos 0 ∷ []); root_pairs = []; leaf_pairs = (times 1001 (pos 1 ∷ pos 1 ∷ pos 0 ∷ [])) }) (refusal 1 5 0) ∷
    -- no root pair; no leaf pair
    compares (record { spec_nodes = (pos 0 ∷ pos 0 ∷ pos 16 ∷ pos 8 ∷ pos 0 ∷ pos 2 ∷ pos 0 ∷ pos 16 ∷ pos 8 ∷ pos 0 ∷ []); spec_edges = []; impl_nodes = (pos 0 ∷ pos 0 ∷ pos 16 ∷ pos 8 ∷ pos 0 ∷ pos 2 ∷ pos 0 ∷ pos 16 ∷ pos 8 ∷ pos 0 ∷ []); impl_edges = []; root_pairs = []; leaf_pairs = (pos 1 ∷ pos 1 ∷ pos 0 ∷ []) }) (refusal 9 4 0) ∷
    compares (record { spec_nodes = (pos 0 ∷ pos 0 ∷ pos 16 ∷ pos 8 ∷ pos 0 ∷ pos 2 ∷ pos 0 ∷ pos 16 ∷ pos 8 ∷ pos 0 ∷ []); spec_edges = []; impl_nodes = (pos 0 ∷ pos 0 ∷ pos 16 ∷ pos 8 ∷ pos 0 ∷ pos 2 ∷ pos 0 ∷ pos 16 ∷ pos 8 ∷ pos 0 ∷ []); impl_edges = []; root_pairs = (pos 0 ∷ pos 0 ∷ pos 0 ∷ []); leaf_pairs = [] }) (refusal 9 5 0) ∷
    -- a node paired before, on one side; 8 at row 1 before 7 at row 2
    compares (record { spec_nodes = (pos 0 ∷ pos 0 ∷ pos 16 ∷ pos 8 ∷ pos 0 ∷ pos 0 ∷ pos 0 ∷ pos 16 ∷ pos 8 ∷ pos 0 ∷ pos 2 ∷ pos 0 ∷ pos 16 ∷ pos 8 ∷ pos 0 ∷ []); spec_edges = []; impl_nodes = (pos 0 ∷ pos 0 ∷ pos 16 ∷ pos 8 ∷ pos 0 ∷ pos 0 ∷ pos 0 ∷ pos 16 ∷ pos 8 ∷ pos 0 ∷ pos 2 ∷ pos 0 ∷ pos 16 ∷ pos 8 ∷ pos 0 ∷ []); impl_edges = []; root_pairs = (pos 0 ∷ pos 0 ∷ pos 0 ∷ pos 1 ∷ pos 0 ∷ pos 0 ∷ pos 9 ∷ pos 9 ∷ pos 0 ∷ []); leaf_pairs = (pos 2 ∷ pos 2 ∷ pos 0 ∷ []) }) (refusal 8 4 1) ∷
    -- and on the other side
    compares (record { spec_nodes = (pos 0 ∷ pos 0 ∷ pos 16 ∷ pos 8 ∷ pos 0 ∷ pos 0 ∷ pos 0 ∷ pos 16 ∷ pos 8 ∷ pos 0 ∷ pos 2 ∷ pos 0 ∷ pos 16 ∷ pos 8 ∷ pos 0 ∷ []); spec_edges = []; impl_nodes = (pos 0 ∷ pos 0 ∷ pos 16 ∷ pos 8 ∷ pos 0 ∷ pos 0 ∷ pos 0 ∷ pos 16 ∷ pos 8 ∷ pos 0 ∷ pos 2 ∷ pos 0 ∷ pos 16 ∷ pos 8 ∷ pos 0 ∷ []); impl_edges = []; root_pairs = (pos 0 ∷ pos 0 ∷ pos 0 ∷ pos 0 ∷ pos 1 ∷ pos 0 ∷ []); leaf_pairs = (pos 2 ∷ pos 2 ∷ pos 0 ∷ []) }) (refusal 8 4 1) ∷
    -- within a row 7 before 8
    compares (record { spec_nodes = (pos 0 ∷ pos 0 ∷ pos 16 ∷ pos 8 ∷ pos 0 ∷ pos 0 ∷ pos 0 ∷ pos 16 ∷ pos 8 ∷ pos 0 ∷ pos 2 ∷ pos 0 ∷ pos 16 ∷ pos 8 ∷ pos 0 ∷ []); spec_edges = []; impl_nodes = (pos 0 ∷ pos 0 ∷ pos 16 ∷ pos 8 ∷ pos 0 ∷ pos 0 ∷ pos 0 ∷ pos 16 ∷ pos 8 ∷ pos 0 ∷ pos 2 ∷ pos 0 ∷ pos 16 ∷ pos 8 ∷ pos 0 ∷ []); impl_edges = []; root_pairs = (pos 0 ∷ pos 0 ∷ pos 0 ∷ pos 0 ∷ pos 2 ∷ pos 0 ∷ []); leaf_pairs = (pos 2 ∷ pos 2 ∷ pos 0 ∷ []) }) (refusal 7 4 1) ∷
    -- in the table of leaf pairs: no leaf; a node paired before, on the implementation's side
    compares (record { spec_nodes = (pos 0 ∷ pos 0 ∷ pos 16 ∷ pos 8 ∷ pos 0 ∷ pos 2 ∷ pos 0 ∷ pos 16 ∷ pos 8 ∷ pos 0 ∷ pos 2 ∷ pos 0 ∷ pos 16 ∷ pos 8 ∷ pos 0 ∷ []); spec_edges = []; impl_nodes = (pos 0 ∷ pos 0 ∷ pos 16 ∷ pos 8 ∷ pos 0 ∷ pos 2 ∷ pos 0 ∷ pos 16 ∷ pos 8 ∷ pos 0 ∷ []); impl_edges = []; root_pairs = (pos 0 ∷ pos 0 ∷ pos 0 ∷ []); leaf_pairs = (pos 1 ∷ pos 1 ∷ pos 0 ∷ pos 0 ∷ pos 1 ∷ pos 0 ∷ []) }) (refusal 7 5 1) ∷
    compares (record { spec_nodes = (pos 0 ∷ pos 0 ∷ pos 16 ∷ pos 8 ∷ pos 0 ∷ pos 2 ∷ pos 0 ∷ pos 16 ∷ pos 8 ∷ pos 0 ∷ pos 2 ∷ pos 0 ∷ pos 16 ∷ pos 8 ∷ pos 0 ∷ []); spec_edges = []; impl_nodes = (pos 0 ∷ pos 0 ∷ pos 16 ∷ pos 8 ∷ pos 0 ∷ pos 2 ∷ pos 0 ∷ pos 16 ∷ pos 8 ∷ pos 0 ∷ []); impl_edges = []; root_pairs = (pos 0 ∷ pos 0 ∷ pos 0 ∷ []); leaf_pairs = (pos 1 ∷ pos 1 ∷ pos 0 ∷ pos 2 ∷ pos 1 ∷ pos 0 ∷ []) }) (refusal 8 5 1) ∷
    -- 1,000 root rows, and 1,000 leaf rows, are not too many: what is told is that a node is paired before; 1,001 root rows are
    compares (record { spec_nodes = (pos 0 ∷ pos 0 ∷ pos 16 ∷ pos 8 ∷ pos 0 ∷ pos 2 ∷ pos 0 ∷ pos 16 ∷ pos 8 ∷ pos 0 ∷ []); spec_edges = []; impl_nodes = (pos 0 ∷ pos 0 ∷ pos 16 ∷ pos 8 ∷ pos 0 ∷ pos 2 ∷ pos 0 ∷ pos 16 ∷ pos 8 ∷ pos 0 ∷ []); impl_edges = []; root_pairs = (times 1000 (pos 0 ∷ pos 0 ∷ pos 0 ∷ [])); leaf_pairs = (pos 1 ∷ pos 1 ∷ pos 0 ∷ []) }) (refusal 8 4 1) ∷
    compares (record { spec_nodes = (pos 0 ∷ pos 0 ∷ pos 16 ∷ pos 8 ∷ pos 0 ∷ pos 2 ∷ pos 0 ∷ pos 16 ∷ pos 8 ∷ pos 0 ∷ []); spec_edges = []; impl_nodes = (pos 0 ∷ pos 0 ∷ pos 16 ∷ pos 8 ∷ pos 0 ∷ pos 2 ∷ pos 0 ∷ pos 16 ∷ pos 8 ∷ pos 0 ∷ []); impl_edges = []; root_pairs = (times 1001 (pos 0 ∷ pos 0 ∷ pos 0 ∷ [])); leaf_pairs = (pos 1 ∷ pos 1 ∷ pos 0 ∷ []) }) (refusal 1 4 0) ∷
    compares (record { spec_nodes = (pos 0 ∷ pos 0 ∷ pos 16 ∷ pos 8 ∷ pos 0 ∷ pos 2 ∷ pos 0 ∷ pos 16 ∷ pos 8 ∷ pos 0 ∷ []); spec_edges = []; impl_nodes = (pos 0 ∷ pos 0 ∷ pos 16 ∷ pos 8 ∷ pos 0 ∷ pos 2 ∷ pos 0 ∷ pos 16 ∷ pos 8 ∷ pos 0 ∷ []); impl_edges = []; root_pairs = (pos 0 ∷ pos 0 ∷ pos 0 ∷ []); leaf_pairs = (times 1000 (pos 1 ∷ pos 1 ∷ pos 0 ∷ [])) }) (refusal 8 5 1) ∷
    -- 10 for the implementation alone, at root row 1 and leaf row 1
    compares (record { spec_nodes = (pos 0 ∷ pos 0 ∷ pos 16 ∷ pos 8 ∷ pos 0 ∷ pos 0 ∷ pos 0 ∷ pos 16 ∷ pos 8 ∷ pos 0 ∷ pos 2 ∷ pos 0 ∷ pos 16 ∷ pos 8 ∷ pos 0 ∷ pos 2 ∷ pos 0 ∷ pos 16 ∷ pos 8 ∷ pos 0 ∷ []); spec_edges = []; impl_nodes = (pos 0 ∷ pos 0 ∷ pos 16 ∷ pos 8 ∷ pos 0 ∷ pos 0 ∷ pos 0 ∷ pos 16 ∷ pos 8 ∷ pos 0 ∷ pos 2 ∷ pos 0 ∷ pos 16 ∷ pos 8 ∷ pos 0 ∷ pos 2 ∷ pos 0 ∷ pos 16 ∷ pos 8 ∷ pos 0 ∷ []); impl_edges = (times 1025 (pos 1 ∷ pos 3 ∷ pos 0 ∷ [])); root_pairs = (pos 0 ∷ pos 0 ∷ pos 0 ∷ pos 1 ∷ pos 1 ∷ pos 0 ∷ []); leaf_pairs = (pos 2 ∷ pos 2 ∷ pos 0 ∷ pos 3 ∷ pos 3 ∷ pos 0 ∷ []) }) (refusal 10 3 1001) ∷
    -- the first unequal pair is partial though a later one is different
    compares (record { spec_nodes = (pos 0 ∷ pos 0 ∷ pos 16 ∷ pos 8 ∷ pos 0 ∷ pos 2 ∷ pos 0 ∷ pos 16 ∷ pos 8 ∷ pos 0 ∷ pos 2 ∷ pos 0 ∷ pos 16 ∷ pos 8 ∷ pos 0 ∷ []); spec_edges = (pos 0 ∷ pos 1 ∷ pos 0 ∷ pos 0 ∷ pos 2 ∷ pos 0 ∷ []); impl_nodes = (pos 0 ∷ pos 0 ∷ pos 16 ∷ pos 8 ∷ pos 0 ∷ pos 2 ∷ pos 0 ∷ pos 8 ∷ pos 8 ∷ pos 0 ∷ pos 2 ∷ pos 0 ∷ pos 16 ∷ pos 8 ∷ pos 0 ∷ []); impl_edges = (pos 0 ∷ pos 1 ∷ pos 0 ∷ []); root_pairs = (pos 0 ∷ pos 0 ∷ pos 0 ∷ []); leaf_pairs = (pos 1 ∷ pos 1 ∷ pos 0 ∷ pos 2 ∷ pos 2 ∷ pos 0 ∷ []) }) (full (record { equal = 0; partial = 1; different = 1; verdict = 2; place = record { root = pos 0; leaf = pos 0; address = pos 64 } })) ∷
    []

-- ---- several leaves for one (document 02, item 3)

-- a pair row
abbrev pub row : ℕ → ℕ → ℤ → List ℤ
row spec impl at = pos spec ∷ pos impl ∷ at ∷ []

-- 2^55 − 1, the highest leaf bit at which a bank may begin
abbrev pub highest_at : ℤ
highest_at = pos 36028797018963967

-- a full result where all pairs are equal
abbrev pub all_equal : ℕ → Answer Result
all_equal n = full (record { equal = n; partial = 0; different = 0; verdict = 0; place = nowhere })

-- a full result with one pair, which is partial or different from this address on
abbrev pub one_partial : ℕ → Answer Result
one_partial address = full (record { equal = 0; partial = 1; different = 0; verdict = 1; place = record { root = pos 0; leaf = pos 0; address = pos address } })

abbrev pub one_different : ℕ → Answer Result
one_different address = full (record { equal = 0; partial = 0; different = 1; verdict = 2; place = record { root = pos 0; leaf = pos 0; address = pos address } })

-- the name at in a map file
abbrev pub at_readings : List Reading
at_readings =
    -- the rows of a group need not be neighbours, each group has the line of its lowest row, and banks that touch give one record
    prints_pairs "role spec impl at\n0 0 0 0\n1 1 1 0\n1 2 3 0\n1 1 2 64\n1 2 4 64\n" "root leaf verdict rspec rimpl wspec wimpl\n0 0 0 1 1 1 1\n0 1 0 1 1 1 1\n\nverdict equal partial different root leaf address\n0 2 0 0 -1 -1 -1\n" ∷
    -- at first, and in the middle
    prints_pairs "at role spec impl\n0 0 0 0\n0 1 1 1\n64 1 1 2\n0 1 2 3\n64 1 2 4\n" "root leaf verdict rspec rimpl wspec wimpl\n0 0 0 1 1 1 1\n0 2 0 1 1 1 1\n\nverdict equal partial different root leaf address\n0 2 0 0 -1 -1 -1\n" ∷
    prints_pairs "role at spec impl\n0 0 0 0\n1 64 1 2\n1 0 1 1\n1 0 2 3\n1 64 2 4\n" "root leaf verdict rspec rimpl wspec wimpl\n0 0 0 1 1 1 1\n0 2 0 1 1 1 1\n\nverdict equal partial different root leaf address\n0 2 0 0 -1 -1 -1\n" ∷
    -- absent: both banks begin at leaf bit 0
    prints_pairs "role spec impl\n0 0 0\n1 1 1\n1 1 2\n" "root leaf verdict rspec rimpl wspec wimpl\n0 0 2 1 2 1 2\n\nverdict equal partial different root leaf address\n2 0 0 1 0 0 64\n" ∷
    -- twice, and without a name that must be there
    prints_pairs "role spec impl at at\n0 0 0 0 0\n" "refusal table row\n13 6 19\n" ∷
    prints_pairs "role spec at\n0 0 0\n" "refusal table row\n13 6 19\n" ∷
    -- three values where it is named, four where it is not, and a value of 19 digits
    prints_pairs "role spec impl at\n0 0 0 0\n1 1 1\n" "refusal table row\n14 6 21\n" ∷
    prints_pairs "role spec impl\n0 0 0\n1 1 1 0\n" "refusal table row\n14 6 21\n" ∷
    prints_pairs "role spec impl at\n0 0 0 0\n1 1 1 1000000000000000000\n" "refusal table row\n14 6 21\n" ∷
    -- 2^55 − 1 is taken, 2^55 and −1 are not, nor another number than 0 in a root row
    prints_pairs "role spec impl at\n0 0 0 0\n1 1 1 36028797018963967\n" "root leaf verdict rspec rimpl wspec wimpl\n0 0 2 1 1 1 1\n\nverdict equal partial different root leaf address\n2 0 0 1 0 0 0\n" ∷
    prints_pairs "role spec impl at\n0 0 0 0\n1 1 1 36028797018963968\n" "refusal table row\n16 5 0\n" ∷
    prints_pairs "role spec impl at\n0 0 0 0\n1 1 1 -1\n" "refusal table row\n16 5 0\n" ∷
    prints_pairs "role spec impl at\n0 0 0 1\n1 1 1 0\n" "refusal table row\n16 4 0\n" ∷
    []

-- groups and banks of lent tables
abbrev pub bank_readings : List Reading
bank_readings =
    -- two groups whose rows alternate, each counted once; the rows of a group in either order
    compares (memories (row 0 0 (pos 0)) (row 1 1 (pos 0) ++ row 2 3 (pos 0) ++ row 1 2 (pos 64) ++ row 2 4 (pos 64))) (all_equal 2) ∷
    compares (memories (row 0 0 (pos 0)) (row 1 2 (pos 64) ++ row 1 1 (pos 0))) (all_equal 1) ∷
    -- banks exchanged
    compares (memories (row 0 0 (pos 0)) (row 1 1 (pos 64) ++ row 1 2 (pos 0))) (one_different 0) ∷
    -- banks that share at
    compares (memories (row 0 0 (pos 0)) (row 1 1 (pos 0) ++ row 1 2 (pos 0))) (one_different 64) ∷
    -- a bank that is missing; a single bank is moved too, and at counts bits
    compares (memories (row 0 0 (pos 0)) (row 1 1 (pos 0))) (one_partial 64) ∷
    compares (memories (row 0 0 (pos 0)) (row 1 2 (pos 64))) (one_partial 0) ∷
    compares (memories (row 0 0 (pos 0)) (row 1 2 (pos 0))) (one_different 0) ∷
    compares (memories (row 0 0 (pos 0)) (row 1 1 (pos 0) ++ row 1 2 (pos 63))) (one_different 64) ∷
    -- banks that give the same leaf bits, and banks with a base and an address unit of their own
    compares (record { spec_nodes = memory_nodes; spec_edges = (pos 0 ∷ pos 1 ∷ pos 0 ∷ []); impl_nodes = memory_nodes; impl_edges = (pos 0 ∷ pos 1 ∷ pos 0 ∷ pos 0 ∷ pos 2 ∷ pos 0 ∷ []); root_pairs = row 0 0 (pos 0); leaf_pairs = (row 1 1 (pos 0) ++ row 1 2 (pos 0)) }) (all_equal 1) ∷
    compares (record { spec_nodes = spec_nodes; spec_edges = spec_edges; impl_nodes = (pos 0 ∷ pos 0 ∷ pos 4096 ∷ pos 8 ∷ pos 0 ∷ times 2 (pos 2 ∷ pos 4 ∷ pos 8 ∷ pos 32 ∷ pos 0 ∷ [])); impl_edges = (pos 0 ∷ pos 1 ∷ pos 60 ∷ pos 0 ∷ pos 2 ∷ pos 68 ∷ []); root_pairs = row 0 0 (pos 0); leaf_pairs = (row 1 1 (pos 0) ++ row 1 2 (pos 256)) }) (all_equal 1) ∷
    -- a group that is unequal is named by its lowest row, behind one that is equal
    compares (memories (row 0 0 (pos 0)) (row 1 1 (pos 0) ++ row 1 2 (pos 64) ++ row 2 4 (pos 64))) (full (record { equal = 1; partial = 1; different = 0; verdict = 1; place = record { root = pos 0; leaf = pos 2; address = pos 128 } })) ∷
    -- a group that is unequal in its second row is named by its lowest, and groups are visited by their rows and not by their leaves
    compares (memories (row 0 0 (pos 0)) (row 1 1 (pos 0) ++ row 2 3 (pos 0) ++ row 1 2 (pos 64) ++ row 2 4 (pos 0))) (full (record { equal = 1; partial = 0; different = 1; verdict = 2; place = record { root = pos 0; leaf = pos 1; address = pos 192 } })) ∷
    compares (memories (row 0 0 (pos 0)) (row 2 3 (pos 0) ++ row 1 2 (pos 0))) (full (record { equal = 0; partial = 1; different = 1; verdict = 2; place = record { root = pos 0; leaf = pos 0; address = pos 192 } })) ∷
    -- at 2^55 − 1, 2^55 and −1, and in a root row
    compares (memories (row 0 0 (pos 0)) (row 1 1 highest_at)) (one_different 0) ∷
    compares (memories (row 0 0 (pos 0)) (row 1 1 (pos 36028797018963968))) (refusal 16 5 0) ∷
    compares (memories (row 0 0 (pos 0)) (row 1 1 (pos 0) ++ row 1 2 (negsuc 0))) (refusal 16 5 1) ∷
    compares (memories (row 0 0 (pos 1)) (row 1 1 (pos 0))) (refusal 16 4 0) ∷
    compares (memories (row 0 0 (negsuc 0)) (row 1 1 (pos 0))) (refusal 16 4 0) ∷
    -- the least and the largest number
    compares (memories (row 0 0 (pos 0)) (row 1 1 (negsuc 9223372036854775807))) (refusal 16 5 0) ∷
    compares (memories (row 0 0 (pos 0)) (row 1 1 (pos 9223372036854775807))) (refusal 16 5 0) ∷
    -- within a row 7 before 16 before 8, of roots and of leaves
    compares (memories (row 1 0 (pos 1)) (row 1 1 (pos 0))) (refusal 7 4 0) ∷
    compares (memories (row 0 0 (pos 0) ++ row 0 0 (pos 1)) (row 1 1 (pos 0))) (refusal 16 4 1) ∷
    compares (memories (row 0 0 (pos 0)) (row 1 0 (negsuc 0))) (refusal 7 5 0) ∷
    compares (memories (row 0 0 (pos 0)) (row 1 1 (pos 0) ++ row 1 1 (negsuc 0))) (refusal 16 5 1) ∷
    -- the lowest row whatever its number, and rows of roots before rows of leaves
    compares (memories (row 0 0 (pos 0)) (row 1 1 (pos 0) ++ row 2 1 (pos 0) ++ row 1 2 (negsuc 0) ++ row 0 3 (pos 0))) (refusal 8 5 1) ∷
    compares (memories (row 0 0 (pos 0)) (row 1 1 (negsuc 0) ++ row 0 1 (pos 0) ++ row 1 1 (pos 0))) (refusal 16 5 0) ∷
    compares (memories (row 0 0 (pos 0) ++ row 0 0 (pos 1)) (row 9 9 (negsuc 0))) (refusal 16 4 1) ∷
    -- an implementation leaf twice, in its group and in another one; a root twice
    compares (memories (row 0 0 (pos 0)) (row 1 1 (pos 0) ++ row 1 1 (pos 64))) (refusal 8 5 1) ∷
    compares (memories (row 0 0 (pos 0)) (row 1 1 (pos 0) ++ row 1 2 (pos 64) ++ row 2 1 (pos 0))) (refusal 8 5 2) ∷
    compares (memories (row 0 0 (pos 0) ++ row 0 0 (pos 0)) (row 1 1 (pos 0))) (refusal 8 4 1) ∷
    -- four numbers are no whole rows
    compares (memories (row 0 0 (pos 0)) (pos 1 ∷ pos 1 ∷ pos 2 ∷ pos 2 ∷ [])) (refusal 1 5 0) ∷
    []

-- the memories with a second root on each side, in root row 1, from which k edges lead to the first memory, m to its first bank and n to its second; the group
-- of that memory has leaf rows 1 and 2
abbrev pub parallel_banks : ℕ → ℕ → ℕ → Tables
parallel_banks k m n =
    record {
      spec_nodes = memory_nodes ++ pos 0 ∷ pos 0 ∷ pos 32 ∷ pos 8 ∷ pos 0 ∷ [];
      spec_edges = times k (pos 3 ∷ pos 1 ∷ pos 0 ∷ []);
      impl_nodes = bank_nodes ++ pos 0 ∷ pos 0 ∷ pos 32 ∷ pos 8 ∷ pos 0 ∷ [];
      impl_edges = times m (pos 5 ∷ pos 1 ∷ pos 0 ∷ []) ++ times n (pos 5 ∷ pos 2 ∷ pos 8 ∷ []);
      root_pairs = row 0 0 (pos 0) ++ row 3 5 (pos 0);
      leaf_pairs = row 2 3 (pos 0) ++ row 1 1 (pos 0) ++ row 1 2 (pos 64);
    }

-- paths of a group
abbrev pub path_readings : List Reading
path_readings =
    -- 512 and 512 paths lead to the banks of a group; one more is too many, and told at the lowest row of the group
    compares (parallel_banks 1 512 512) (all_equal 4) ∷
    compares (parallel_banks 1 512 513) (refusal 10 3 1001) ∷
    -- so is 1,025 paths to its second bank
    compares (parallel_banks 1 0 1025) (refusal 10 3 1001) ∷
    -- the paths of the specification count once for a group of two banks: 513 are taken, 1,025 are not
    compares (parallel_banks 513 1 1) (all_equal 4) ∷
    compares (parallel_banks 1025 512 513) (refusal 10 1 1001) ∷
    []

-- all of these
abbrev pub group_readings : List Reading
group_readings = at_readings ++ bank_readings ++ path_readings

-- ---- texts through C linkage, and the tally

-- the call through C linkage
abbrev pub code_readings : List Reading
code_readings =
    -- the coded refusal: 13, table 6, line 1
    codes (bytes "") [] (neg_ℤ (pos 1360000001)) ∷
    -- 16, table 4, row 0
    codes (bytes memories_text ++ bytes "role spec impl at\n0 0 0 1\n1 1 1 0\n") [] (neg_ℤ (pos 1640000000)) ∷
    -- the length of P1's report, into a buffer that holds it just
    codes (bytes text1) (times 124 (7 ∷ [])) (pos 124) ∷
    -- one byte less: 11
    codes (bytes text1) (times 123 (7 ∷ [])) (neg_ℤ (pos 1170000000)) ∷
    -- a text of 65,536 bytes is taken as to its length; of 65,537 it is not
    codes (times 65536 (10 ∷ [])) [] (neg_ℤ (pos 1360000001)) ∷
    codes (times 65537 (10 ∷ [])) [] (neg_ℤ (pos 1260000000)) ∷
    []

-- a check
abbrev pub check : ℤ → Bytes → Bytes → Check
check caller text report = record { caller = caller; text = text; report = report }

-- the tally in which caller k has these four counts, and every other count is 0
abbrev pub only_row : ℕ → List ℕ → List ℕ
only_row k row = times (4 * k) (0 ∷ []) ++ row ++ times (60 - 4 * k) (0 ∷ [])

-- checks of callers 0 and 15, with an equal map, a partial one, a different one, a refused text and a report that does not fit; and of 16 and −1
abbrev pub several_checks : List Check
several_checks =
    check (pos 0) (bytes text2) (times 124 (7 ∷ [])) ∷
    check (pos 15) (bytes text1) (times 124 (7 ∷ [])) ∷
    check (pos 0) (bytes text3) (times 124 (7 ∷ [])) ∷
    check (pos 16) (bytes text2) (times 124 (7 ∷ [])) ∷
    check (pos 15) (bytes "") [] ∷
    check (pos 0) (bytes text2) (times 124 (7 ∷ [])) ∷
    check (negsuc 0) (bytes "") [] ∷
    check (pos 0) (bytes text1) [] ∷
    []

-- the tally
abbrev pub tally_readings : List Reading
tally_readings =
    -- callers 0 and 15: a partial map adds to the second count of the caller's row, a refused text to the last, 11 too
    tallies (check (pos 0) (bytes text1) (times 125 (7 ∷ []))) fresh_tally (full 124) (bytes report1 ++ 7 ∷ []) (only_row 0 (0 ∷ 1 ∷ 0 ∷ 0 ∷ [])) ∷
    tallies (check (pos 15) (bytes "") (7 ∷ [])) fresh_tally (refusal 13 6 1) (7 ∷ []) (only_row 15 (0 ∷ 0 ∷ 0 ∷ 1 ∷ [])) ∷
    tallies (check (pos 15) (bytes text1) (7 ∷ [])) fresh_tally (refusal 11 7 0) (7 ∷ []) (only_row 15 (0 ∷ 0 ∷ 0 ∷ 1 ∷ [])) ∷
    -- callers 16, −1, −2^63, 2^32 and 2^63 − 1: 15, and neither buffer nor tally moves
    tallies (check (pos 16) (bytes text1) (times 125 (7 ∷ []))) fresh_tally (refusal 15 7 0) (times 125 (7 ∷ [])) fresh_tally ∷
    tallies (check (negsuc 0) (bytes text1) (times 125 (7 ∷ []))) fresh_tally (refusal 15 7 0) (times 125 (7 ∷ [])) fresh_tally ∷
    tallies (check (negsuc 9223372036854775807) (bytes "") []) fresh_tally (refusal 15 7 0) [] fresh_tally ∷
    tallies (check (pos 4294967296) (bytes "") []) fresh_tally (refusal 15 7 0) [] fresh_tally ∷
    tallies (check (pos 9223372036854775807) (bytes "") []) fresh_tally (refusal 15 7 0) [] fresh_tally ∷
    -- 15 comes before a text that is too long, which is refused with 12 to a caller
    tallies (check (pos 16) (times 65537 (10 ∷ [])) []) fresh_tally (refusal 15 7 0) [] fresh_tally ∷
    tallies (check (pos 1) (times 65537 (10 ∷ [])) []) fresh_tally (refusal 12 6 0) [] (only_row 1 (0 ∷ 0 ∷ 0 ∷ 1 ∷ [])) ∷
    -- the other rows stay
    tallies (check (pos 1) (bytes "") []) (times 64 (5 ∷ [])) (refusal 13 6 1) [] (times 7 (5 ∷ []) ++ 6 ∷ times 56 (5 ∷ [])) ∷
    -- a count at or above 2^63 − 1 stays
    tallies (check (pos 7) (bytes "") []) (only_row 7 (1 ∷ 2 ∷ 3 ∷ (2 ^ 63 - 2) ∷ [])) (refusal 13 6 1) [] (only_row 7 (1 ∷ 2 ∷ 3 ∷ (2 ^ 63 - 1) ∷ [])) ∷
    tallies (check (pos 7) (bytes "") []) (only_row 7 (1 ∷ 2 ∷ 3 ∷ (2 ^ 63 - 1) ∷ [])) (refusal 13 6 1) [] (only_row 7 (1 ∷ 2 ∷ 3 ∷ (2 ^ 63 - 1) ∷ [])) ∷
    tallies (check (pos 7) (bytes "") []) (only_row 7 (1 ∷ 2 ∷ 3 ∷ (2 ^ 64 - 1) ∷ [])) (refusal 13 6 1) [] (only_row 7 (1 ∷ 2 ∷ 3 ∷ (2 ^ 64 - 1) ∷ [])) ∷
    -- several callers: the two checks of numbers outside 0..15 are counted nowhere
    tallied several_checks (2 ∷ 0 ∷ 1 ∷ 1 ∷ times 56 (0 ∷ []) ++ 0 ∷ 1 ∷ 0 ∷ 1 ∷ []) ∷
    numbers several_checks 0 0 2 ∷
    numbers several_checks 15 3 1 ∷
    numbers several_checks 0 1 0 ∷
    []
