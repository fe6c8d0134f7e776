-- Readings of access (document 02, item 7), as lists of cases. Assumes nothing.
use Rattle.std.specs.Prelude.{List, [], ◌∷◌, ◌++◌, ℕ, ℤ, pos, negsuc, neg_ℤ}
use Rattle.model.specs.declared.WalkKind.TheVariants as kinds
use Rattle.model.specs.Compare.{Tables}
use Rattle.model.specs.Calls.{full}
use Rattle.model.specs.Bytes.{bytes}
use Rattle.model.specs.Marked.{refusal, times}
use Rattle.readings.specs.Readings.{Reading, prints, prints_nodes, checks, walks, listed, compares, codes, row, all_equal}
use Rattle.readings.specs.Batches.{BatchReading, batches, counts, nines}

-- ---- node rows

-- the row of an address space, of a segment and of an address block, with base 0, this range, unit 8 and this access
abbrev pub space_of : ℕ → ℤ → List ℤ
space_of range access = pos 0 ∷ pos 0 ∷ pos range ∷ pos 8 ∷ access ∷ []

abbrev pub segment_of : ℕ → ℤ → List ℤ
segment_of range access = pos 1 ∷ pos 0 ∷ pos range ∷ pos 8 ∷ access ∷ []

abbrev pub block_of : ℕ → ℤ → List ℤ
block_of range access = pos 2 ∷ pos 0 ∷ pos range ∷ pos 8 ∷ access ∷ []

-- two graphs, with their roots in rows 0 paired, and these leaf pairs
abbrev pub from_roots : List ℤ → List ℤ → List ℤ → List ℤ → List ℤ → Tables
from_roots spec edges impl impl_edges leaves =
    record { spec_nodes = spec; spec_edges = edges; impl_nodes = impl; impl_edges = impl_edges; root_pairs = row 0 0 (pos 0); leaf_pairs = leaves }

-- an edge from row 0 to row 1, with offset 0
abbrev pub one_edge : List ℤ
one_edge = pos 0 ∷ pos 1 ∷ pos 0 ∷ []

-- access in lent node rows, and the length of a row
abbrev pub row_readings : List Reading
row_readings =
    -- 0, 1 and 2 of each kind of node are taken
    checks (space_of 16 (pos 0) ++ space_of 16 (pos 1) ++ space_of 16 (pos 2)) [] (full tt) ∷
    checks (segment_of 16 (pos 0) ++ segment_of 16 (pos 1) ++ segment_of 16 (pos 2)) [] (full tt) ∷
    checks (block_of 16 (pos 0) ++ block_of 16 (pos 1) ++ block_of 16 (pos 2)) [] (full tt) ∷
    -- 3 and −1 are not, of each kind of node
    checks (space_of 16 (pos 3)) [] (refusal 2 0 0) ∷
    checks (segment_of 16 (pos 3)) [] (refusal 2 0 0) ∷
    checks (space_of 16 (pos 0) ++ block_of 16 (pos 3)) [] (refusal 2 0 1) ∷
    checks (space_of 16 (negsuc 0)) [] (refusal 2 0 0) ∷
    checks (space_of 16 (pos 2) ++ block_of 16 (negsuc 0)) [] (refusal 2 0 1) ∷
    -- the least and the largest number
    checks (space_of 16 (negsuc 9223372036854775807)) [] (refusal 2 0 0) ∷
    checks (space_of 16 (pos 9223372036854775807)) [] (refusal 2 0 0) ∷
    -- the lowest row, whatever is unknown in it; and node rows before edge rows
    checks (block_of 16 (pos 3) ++ block_of 0 (pos 0)) [] (refusal 2 0 0) ∷
    checks (block_of 0 (pos 0) ++ block_of 16 (pos 3)) [] (refusal 2 0 0) ∷
    checks (space_of 16 (pos 0) ++ block_of 16 (pos 3)) (pos 0 ∷ pos 2 ∷ pos 0 ∷ []) (refusal 2 0 1) ∷
    -- in either graph of a comparison
    compares (from_roots (space_of 16 (pos 0) ++ block_of 16 (pos 3)) one_edge (space_of 16 (pos 0) ++ block_of 16 (pos 0)) one_edge (row 1 1 (pos 0))) (refusal 2 0 1) ∷
    compares (from_roots (space_of 16 (pos 0) ++ block_of 16 (pos 0)) one_edge (space_of 16 (negsuc 0) ++ block_of 16 (pos 0)) one_edge (row 1 1 (pos 0))) (refusal 2 2 0) ∷
    -- a row of four numbers, and two of them, are no whole rows; five of them are four rows of five, of which the second has unit 0
    checks (pos 0 ∷ pos 0 ∷ pos 16 ∷ pos 8 ∷ []) [] (refusal 1 0 0) ∷
    checks (times 2 (pos 0 ∷ pos 0 ∷ pos 16 ∷ pos 8 ∷ [])) [] (refusal 1 0 0) ∷
    checks (times 5 (pos 0 ∷ pos 0 ∷ pos 16 ∷ pos 8 ∷ [])) [] (refusal 2 0 1) ∷
    -- so in the implementation of a comparison
    compares (from_roots (space_of 16 (pos 0) ++ block_of 16 (pos 0)) one_edge (pos 0 ∷ pos 0 ∷ pos 16 ∷ pos 8 ∷ pos 2 ∷ pos 0 ∷ pos 16 ∷ pos 8 ∷ []) one_edge (row 1 1 (pos 0))) (refusal 1 2 0) ∷
    []

-- ---- map files

-- the name access in a map file. Where it counts, the root of the specification is read only
abbrev pub name_readings : List Reading
name_readings =
    -- last, first and in between
    prints_nodes "side kind base range unit access\n0 0 0 32 8 1\n0 2 0 16 8 0\n1 0 0 32 8 0\n1 2 0 16 8 0\n" "root leaf verdict rspec rimpl wspec wimpl\n0 0 2 1 1 0 1\n\nverdict equal partial different root leaf address\n2 0 0 1 0 0 32\n" ∷
    prints_nodes "access side kind base range unit\n1 0 0 0 32 8\n0 0 2 0 16 8\n0 1 0 0 32 8\n0 1 2 0 16 8\n" "root leaf verdict rspec rimpl wspec wimpl\n0 0 2 1 1 0 1\n\nverdict equal partial different root leaf address\n2 0 0 1 0 0 32\n" ∷
    prints_nodes "side kind access base range unit\n0 0 1 0 32 8\n0 2 0 0 16 8\n1 0 0 0 32 8\n1 2 0 0 16 8\n" "root leaf verdict rspec rimpl wspec wimpl\n0 0 2 1 1 0 1\n\nverdict equal partial different root leaf address\n2 0 0 1 0 0 32\n" ∷
    -- absent: every access is 0; and named, with 0 in every row
    prints_nodes "side kind base range unit\n0 0 0 32 8\n0 2 0 16 8\n1 0 0 32 8\n1 2 0 16 8\n" "root leaf verdict rspec rimpl wspec wimpl\n0 0 0 1 1 1 1\n\nverdict equal partial different root leaf address\n0 1 0 0 -1 -1 -1\n" ∷
    prints_nodes "side kind base range unit access\n0 0 0 32 8 0\n0 2 0 16 8 0\n1 0 0 32 8 0\n1 2 0 16 8 0\n" "root leaf verdict rspec rimpl wspec wimpl\n0 0 0 1 1 1 1\n\nverdict equal partial different root leaf address\n0 1 0 0 -1 -1 -1\n" ∷
    -- twice, beside all other names and in place of one; and in place of one
    prints_nodes "side kind base range unit access access\n0 0 0 32 8 0 0\n" "refusal table row\n13 6 1\n" ∷
    prints_nodes "side kind base range access access\n0 0 0 32 8 0\n" "refusal table row\n13 6 1\n" ∷
    prints_nodes "side kind base range access\n0 0 0 32 0\n" "refusal table row\n13 6 1\n" ∷
    -- among the names of the second and of the third table
    prints "side kind base range unit access\n\nside from to offset access\n" "refusal table row\n13 6 3\n" ∷
    prints "side kind base range unit access\n\nside from to offset\n\nrole spec impl access\n" "refusal table row\n13 6 5\n" ∷
    -- five values where it is named, seven, and six where it is not
    prints_nodes "side kind base range unit access\n0 0 0 32 8 0\n0 2 0 16 8\n" "refusal table row\n14 6 3\n" ∷
    prints_nodes "side kind base range unit access\n0 0 0 32 8 0\n0 2 0 16 8 1 0\n" "refusal table row\n14 6 3\n" ∷
    prints_nodes "side kind base range unit\n0 0 0 32 8\n0 2 0 16 8 1\n" "refusal table row\n14 6 3\n" ∷
    -- no value: a letter, nothing, a leading zero, minus zero, nineteen digits
    prints_nodes "side kind base range unit access\n0 0 0 32 8 0\n0 2 0 16 8 r\n" "refusal table row\n14 6 3\n" ∷
    prints_nodes "side kind base range unit access\n0 0 0 32 8 0\n0 2 0 16 8 \n" "refusal table row\n14 6 3\n" ∷
    prints_nodes "side kind base range unit access\n0 0 0 32 8 0\n0 2 0 16 8 01\n" "refusal table row\n14 6 3\n" ∷
    prints_nodes "side kind base range unit access\n0 0 0 32 8 0\n0 2 0 16 8 -0\n" "refusal table row\n14 6 3\n" ∷
    prints_nodes "side kind base range unit access\n0 0 0 32 8 0\n0 2 0 16 8 1000000000000000000\n" "refusal table row\n14 6 3\n" ∷
    -- unknown: 3, −1 and a value of eighteen digits, on either side
    prints_nodes "side kind base range unit access\n0 0 0 32 8 0\n0 2 0 16 8 3\n1 0 0 32 8 0\n1 2 0 16 8 0\n" "refusal table row\n2 0 1\n" ∷
    prints_nodes "side kind base range unit access\n0 0 0 32 8 0\n0 2 0 16 8 0\n1 0 0 32 8 -1\n1 2 0 16 8 0\n" "refusal table row\n2 2 0\n" ∷
    prints_nodes "side kind base range unit access\n0 0 0 32 8 0\n0 2 0 16 8 0\n1 0 0 32 8 0\n1 2 0 16 8 999999999999999999\n" "refusal table row\n2 2 1\n" ∷
    -- the whole text is read before an access is judged
    prints_nodes "side kind base range unit access\n0 0 0 32 8 3\n0 2 0 16 8 0\n1 0 0 32 8 0\n1 2 0 16 8\n" "refusal table row\n14 6 5\n" ∷
    -- 2, table 0, row 1 through C linkage
    codes (bytes "side kind base range unit access\n0 0 0 16 8 0\n0 2 0 16 8 3\n\nside from to offset\n\nrole spec impl\n") [] (neg_ℤ (pos 200000001)) ∷
    []

-- ---- verdicts, addresses and report lines

-- one root and one leaf on each side. The leaf is entered from root bit 32 on
abbrev pub pair_readings : List Reading
pair_readings =
    -- a leaf that is read only, built writable: reading equal, writing different; and one that is write only, built readable
    prints_nodes "side kind base range unit access\n0 0 0 32 8 0\n0 2 0 16 8 1\n1 0 0 32 8 0\n1 2 0 16 8 0\n" "root leaf verdict rspec rimpl wspec wimpl\n0 0 2 1 1 0 1\n\nverdict equal partial different root leaf address\n2 0 0 1 0 0 32\n" ∷
    prints_nodes "side kind base range unit access\n0 0 0 32 8 0\n0 2 0 16 8 2\n1 0 0 32 8 0\n1 2 0 16 8 0\n" "root leaf verdict rspec rimpl wspec wimpl\n0 0 2 0 1 1 1\n\nverdict equal partial different root leaf address\n2 0 0 1 0 0 32\n" ∷
    -- a leaf that is read and write, built read only and built write only; so with the root
    prints_nodes "side kind base range unit access\n0 0 0 32 8 0\n0 2 0 16 8 0\n1 0 0 32 8 0\n1 2 0 16 8 1\n" "root leaf verdict rspec rimpl wspec wimpl\n0 0 2 1 1 1 0\n\nverdict equal partial different root leaf address\n2 0 0 1 0 0 32\n" ∷
    prints_nodes "side kind base range unit access\n0 0 0 32 8 0\n0 2 0 16 8 0\n1 0 0 32 8 0\n1 2 0 16 8 2\n" "root leaf verdict rspec rimpl wspec wimpl\n0 0 2 1 0 1 1\n\nverdict equal partial different root leaf address\n2 0 0 1 0 0 32\n" ∷
    prints_nodes "side kind base range unit access\n0 0 0 32 8 0\n0 2 0 16 8 0\n1 0 0 32 8 1\n1 2 0 16 8 0\n" "root leaf verdict rspec rimpl wspec wimpl\n0 0 2 1 1 1 0\n\nverdict equal partial different root leaf address\n2 0 0 1 0 0 32\n" ∷
    prints_nodes "side kind base range unit access\n0 0 0 32 8 0\n0 2 0 16 8 0\n1 0 0 32 8 2\n1 2 0 16 8 0\n" "root leaf verdict rspec rimpl wspec wimpl\n0 0 2 1 0 1 1\n\nverdict equal partial different root leaf address\n2 0 0 1 0 0 32\n" ∷
    -- read only against write only: the lists of both kinds together would be the same
    prints_nodes "side kind base range unit access\n0 0 0 32 8 0\n0 2 0 16 8 1\n1 0 0 32 8 0\n1 2 0 16 8 2\n" "root leaf verdict rspec rimpl wspec wimpl\n0 0 2 1 0 0 1\n\nverdict equal partial different root leaf address\n2 0 0 1 0 0 32\n" ∷
    -- a kind whose two lists are empty is equal, and the line has records of the other kind only: read only on both sides, write only on both sides
    prints_nodes "side kind base range unit access\n0 0 0 32 8 0\n0 2 0 16 8 1\n1 0 0 32 8 0\n1 2 0 16 8 1\n" "root leaf verdict rspec rimpl wspec wimpl\n0 0 0 1 1 0 0\n\nverdict equal partial different root leaf address\n0 1 0 0 -1 -1 -1\n" ∷
    prints_nodes "side kind base range unit access\n0 0 0 32 8 0\n0 2 0 16 8 2\n1 0 0 32 8 0\n1 2 0 16 8 2\n" "root leaf verdict rspec rimpl wspec wimpl\n0 0 0 0 0 1 1\n\nverdict equal partial different root leaf address\n0 1 0 0 -1 -1 -1\n" ∷
    -- so where the root is read only on one side and the leaf on the other
    prints_nodes "side kind base range unit access\n0 0 0 32 8 1\n0 2 0 16 8 0\n1 0 0 32 8 0\n1 2 0 16 8 1\n" "root leaf verdict rspec rimpl wspec wimpl\n0 0 0 1 1 0 0\n\nverdict equal partial different root leaf address\n0 1 0 0 -1 -1 -1\n" ∷
    -- the other kind alone judges the pair: the leaf is built half as long
    prints_nodes "side kind base range unit access\n0 0 0 32 8 0\n0 2 0 16 8 2\n1 0 0 32 8 0\n1 2 0 8 8 2\n" "root leaf verdict rspec rimpl wspec wimpl\n0 0 1 0 0 1 1\n\nverdict equal partial different root leaf address\n1 0 1 0 0 0 96\n" ∷
    prints_nodes "side kind base range unit access\n0 0 0 32 8 0\n0 2 0 16 8 1\n1 0 0 32 8 0\n1 2 0 8 8 1\n" "root leaf verdict rspec rimpl wspec wimpl\n0 0 1 1 1 0 0\n\nverdict equal partial different root leaf address\n1 0 1 0 0 0 96\n" ∷
    -- a line for a record in one of the four lists alone
    prints_nodes "side kind base range unit access\n0 0 0 32 8 0\n0 2 0 16 8 1\n1 0 0 32 8 2\n1 2 0 16 8 1\n" "root leaf verdict rspec rimpl wspec wimpl\n0 0 2 1 0 0 0\n\nverdict equal partial different root leaf address\n2 0 0 1 0 0 32\n" ∷
    prints_nodes "side kind base range unit access\n0 0 0 32 8 2\n0 2 0 16 8 1\n1 0 0 32 8 0\n1 2 0 16 8 1\n" "root leaf verdict rspec rimpl wspec wimpl\n0 0 2 0 1 0 0\n\nverdict equal partial different root leaf address\n2 0 0 1 0 0 32\n" ∷
    prints_nodes "side kind base range unit access\n0 0 0 32 8 0\n0 2 0 16 8 2\n1 0 0 32 8 1\n1 2 0 16 8 2\n" "root leaf verdict rspec rimpl wspec wimpl\n0 0 2 0 0 1 0\n\nverdict equal partial different root leaf address\n2 0 0 1 0 0 32\n" ∷
    prints_nodes "side kind base range unit access\n0 0 0 32 8 1\n0 2 0 16 8 2\n1 0 0 32 8 0\n1 2 0 16 8 2\n" "root leaf verdict rspec rimpl wspec wimpl\n0 0 2 0 0 0 1\n\nverdict equal partial different root leaf address\n2 0 0 1 0 0 32\n" ∷
    -- no line where all four are empty: a root that is read only leads to a leaf that is write only, or the other way round
    prints_nodes "side kind base range unit access\n0 0 0 32 8 1\n0 2 0 16 8 2\n1 0 0 32 8 1\n1 2 0 16 8 2\n" "root leaf verdict rspec rimpl wspec wimpl\n\nverdict equal partial different root leaf address\n0 1 0 0 -1 -1 -1\n" ∷
    prints_nodes "side kind base range unit access\n0 0 0 32 8 1\n0 2 0 16 8 2\n1 0 0 32 8 2\n1 2 0 16 8 1\n" "root leaf verdict rspec rimpl wspec wimpl\n\nverdict equal partial different root leaf address\n0 1 0 0 -1 -1 -1\n" ∷
    []

-- one root and one leaf on each side, with several ways between them
abbrev pub way_readings : List Reading
way_readings =
    -- a way for reading over a segment that is read only, and one for writing over a segment that is write only; then without the second edge for writing, and without the first for reading
    prints "side kind base range unit access\n0 0 0 16 8 0\n0 2 0 16 8 0\n1 0 0 16 8 0\n1 1 0 16 8 1\n1 1 0 16 8 2\n1 2 0 16 8 0\n\nside from to offset\n0 0 1 0\n1 0 1 0\n1 1 3 0\n1 0 2 0\n1 2 3 0\n\nrole spec impl\n0 0 0\n1 1 3\n" "root leaf verdict rspec rimpl wspec wimpl\n0 0 0 1 1 1 1\n\nverdict equal partial different root leaf address\n0 1 0 0 -1 -1 -1\n" ∷
    prints "side kind base range unit access\n0 0 0 16 8 0\n0 2 0 16 8 0\n1 0 0 16 8 0\n1 1 0 16 8 1\n1 1 0 16 8 2\n1 2 0 16 8 0\n\nside from to offset\n0 0 1 0\n1 0 1 0\n1 1 3 0\n1 0 2 0\n\nrole spec impl\n0 0 0\n1 1 3\n" "root leaf verdict rspec rimpl wspec wimpl\n0 0 2 1 1 1 0\n\nverdict equal partial different root leaf address\n2 0 0 1 0 0 0\n" ∷
    prints "side kind base range unit access\n0 0 0 16 8 0\n0 2 0 16 8 0\n1 0 0 16 8 0\n1 1 0 16 8 1\n1 1 0 16 8 2\n1 2 0 16 8 0\n\nside from to offset\n0 0 1 0\n1 1 3 0\n1 0 2 0\n1 2 3 0\n\nrole spec impl\n0 0 0\n1 1 3\n" "root leaf verdict rspec rimpl wspec wimpl\n0 0 2 1 0 1 1\n\nverdict equal partial different root leaf address\n2 0 0 1 0 0 0\n" ∷
    -- both segments on one way: neither kind gets through
    prints "side kind base range unit access\n0 0 0 16 8 0\n0 2 0 16 8 0\n1 0 0 16 8 0\n1 1 0 16 8 1\n1 1 0 16 8 2\n1 2 0 16 8 0\n\nside from to offset\n0 0 1 0\n1 0 1 0\n1 1 2 0\n1 2 3 0\n\nrole spec impl\n0 0 0\n1 1 3\n" "root leaf verdict rspec rimpl wspec wimpl\n0 0 2 1 0 1 0\n\nverdict equal partial different root leaf address\n2 0 0 1 0 0 0\n" ∷
    -- two ways with two displacements, one over a segment that is closed to a kind: partial for that kind, and so for the pair
    prints "side kind base range unit access\n0 0 0 32 8 0\n0 2 0 16 8 0\n1 0 0 32 8 0\n1 1 0 16 8 1\n1 2 0 16 8 0\n\nside from to offset\n0 0 1 0\n0 0 1 8\n1 0 2 0\n1 0 1 8\n1 1 2 0\n\nrole spec impl\n0 0 0\n1 1 2\n" "root leaf verdict rspec rimpl wspec wimpl\n0 0 1 2 2 2 1\n\nverdict equal partial different root leaf address\n1 0 1 0 0 0 64\n" ∷
    prints "side kind base range unit access\n0 0 0 32 8 0\n0 2 0 16 8 0\n1 0 0 32 8 0\n1 1 0 16 8 2\n1 2 0 16 8 0\n\nside from to offset\n0 0 1 0\n0 0 1 8\n1 0 2 0\n1 0 1 8\n1 1 2 0\n\nrole spec impl\n0 0 0\n1 1 2\n" "root leaf verdict rspec rimpl wspec wimpl\n0 0 1 2 1 2 2\n\nverdict equal partial different root leaf address\n1 0 1 0 0 0 64\n" ∷
    -- two ways of one displacement: the one that is open reaches as much
    prints "side kind base range unit access\n0 0 0 32 8 0\n0 2 0 16 8 0\n1 0 0 32 8 0\n1 1 0 16 8 1\n1 2 0 16 8 0\n\nside from to offset\n0 0 1 8\n1 0 2 8\n1 0 1 8\n1 1 2 0\n\nrole spec impl\n0 0 0\n1 1 2\n" "root leaf verdict rspec rimpl wspec wimpl\n0 0 0 1 1 1 1\n\nverdict equal partial different root leaf address\n0 1 0 0 -1 -1 -1\n" ∷
    -- partial for one kind, from root bit 64, and different for the other, from root bit 0: different, from 0; then the kinds exchanged
    prints "side kind base range unit access\n0 0 0 32 8 0\n0 2 0 16 8 0\n1 0 0 32 8 0\n1 1 0 16 8 1\n1 1 0 8 8 2\n1 2 0 16 8 0\n\nside from to offset\n0 0 1 0\n1 0 1 8\n1 1 3 0\n1 0 2 0\n1 2 3 0\n\nrole spec impl\n0 0 0\n1 1 3\n" "root leaf verdict rspec rimpl wspec wimpl\n0 0 2 1 1 1 1\n\nverdict equal partial different root leaf address\n2 0 0 1 0 0 0\n" ∷
    prints "side kind base range unit access\n0 0 0 32 8 0\n0 2 0 16 8 0\n1 0 0 32 8 0\n1 1 0 16 8 2\n1 1 0 8 8 1\n1 2 0 16 8 0\n\nside from to offset\n0 0 1 0\n1 0 1 8\n1 1 3 0\n1 0 2 0\n1 2 3 0\n\nrole spec impl\n0 0 0\n1 1 3\n" "root leaf verdict rspec rimpl wspec wimpl\n0 0 2 1 1 1 1\n\nverdict equal partial different root leaf address\n2 0 0 1 0 0 0\n" ∷
    -- partial for reading, from root bit 64, and different for writing, from root bit 128: different, from 64; then the kinds exchanged
    prints "side kind base range unit access\n0 0 0 32 8 0\n0 2 0 32 8 0\n1 0 0 32 8 0\n1 1 0 8 8 1\n1 1 0 16 8 2\n1 1 0 8 8 2\n1 2 0 32 8 0\n\nside from to offset\n0 0 1 0\n1 0 1 0\n1 1 4 0\n1 0 2 0\n1 2 4 0\n1 0 3 16\n1 3 4 -24\n\nrole spec impl\n0 0 0\n1 1 4\n" "root leaf verdict rspec rimpl wspec wimpl\n0 0 2 1 1 1 2\n\nverdict equal partial different root leaf address\n2 0 0 1 0 0 64\n" ∷
    prints "side kind base range unit access\n0 0 0 32 8 0\n0 2 0 32 8 0\n1 0 0 32 8 0\n1 1 0 8 8 2\n1 1 0 16 8 1\n1 1 0 8 8 1\n1 2 0 32 8 0\n\nside from to offset\n0 0 1 0\n1 0 1 0\n1 1 4 0\n1 0 2 0\n1 2 4 0\n1 0 3 16\n1 3 4 -24\n\nrole spec impl\n0 0 0\n1 1 4\n" "root leaf verdict rspec rimpl wspec wimpl\n0 0 2 1 2 1 1\n\nverdict equal partial different root leaf address\n2 0 0 1 0 0 64\n" ∷
    []

-- several leaves, and banks
abbrev pub leaf_readings : List Reading
leaf_readings =
    -- pairs in visiting order, each with both its kinds: the first leaf equal and the second not; then the first unequal by writing and the second by reading
    prints "side kind base range unit access\n0 0 0 32 8 0\n0 2 0 16 8 0\n0 2 0 16 8 1\n1 0 0 32 8 0\n1 2 0 16 8 0\n1 2 0 16 8 0\n\nside from to offset\n0 0 1 0\n0 0 2 16\n1 0 1 0\n1 0 2 16\n\nrole spec impl\n0 0 0\n1 1 1\n1 2 2\n" "root leaf verdict rspec rimpl wspec wimpl\n0 0 0 1 1 1 1\n0 1 2 1 1 0 1\n\nverdict equal partial different root leaf address\n2 1 0 1 0 1 128\n" ∷
    prints "side kind base range unit access\n0 0 0 32 8 0\n0 2 0 16 8 0\n0 2 0 16 8 0\n1 0 0 32 8 0\n1 2 0 16 8 1\n1 2 0 16 8 2\n\nside from to offset\n0 0 1 16\n0 0 2 0\n1 0 1 16\n1 0 2 0\n\nrole spec impl\n0 0 0\n1 1 1\n1 2 2\n" "root leaf verdict rspec rimpl wspec wimpl\n0 0 2 1 1 1 0\n0 1 2 1 0 1 1\n\nverdict equal partial different root leaf address\n2 0 0 2 0 0 128\n" ∷
    -- a memory of two banks: the second read only; the first read only and the second write only, so that both kinds together would have all bits; and exchanged
    prints "side kind base range unit access\n0 0 0 32 8 0\n0 2 0 16 8 0\n1 0 0 32 8 0\n1 2 0 8 8 0\n1 2 0 8 8 1\n\nside from to offset\n0 0 1 0\n1 0 1 0\n1 0 2 8\n\nrole spec impl at\n0 0 0 0\n1 1 1 0\n1 1 2 64\n" "root leaf verdict rspec rimpl wspec wimpl\n0 0 1 1 1 1 1\n\nverdict equal partial different root leaf address\n1 0 1 0 0 0 64\n" ∷
    prints "side kind base range unit access\n0 0 0 32 8 0\n0 2 0 16 8 0\n1 0 0 32 8 0\n1 2 0 8 8 1\n1 2 0 8 8 2\n\nside from to offset\n0 0 1 0\n1 0 1 0\n1 0 2 8\n\nrole spec impl at\n0 0 0 0\n1 1 1 0\n1 1 2 64\n" "root leaf verdict rspec rimpl wspec wimpl\n0 0 1 1 1 1 1\n\nverdict equal partial different root leaf address\n1 0 1 0 0 0 0\n" ∷
    prints "side kind base range unit access\n0 0 0 32 8 0\n0 2 0 16 8 0\n1 0 0 32 8 0\n1 2 0 8 8 2\n1 2 0 8 8 1\n\nside from to offset\n0 0 1 0\n1 0 1 0\n1 0 2 8\n\nrole spec impl at\n0 0 0 0\n1 1 1 0\n1 1 2 64\n" "root leaf verdict rspec rimpl wspec wimpl\n0 0 1 1 1 1 1\n\nverdict equal partial different root leaf address\n1 0 1 0 0 0 0\n" ∷
    []

-- ---- walk, list and batch of each kind

-- a space of 32 bytes, a segment of 16 bytes with this access and a block of 16 bytes: the space leads to the block at byte 0, and over the segment at byte
-- 8. Root bits 0 to 127 have displacement 0, and over the segment root bits 64 to 191 have displacement 64
abbrev pub two_ways_nodes : ℕ → List ℤ
two_ways_nodes access = space_of 32 (pos 0) ++ segment_of 16 (pos access) ++ block_of 16 (pos 0)

abbrev pub two_ways_edges : List ℤ
two_ways_edges = pos 0 ∷ pos 2 ∷ pos 0 ∷ pos 0 ∷ pos 1 ∷ pos 8 ∷ pos 1 ∷ pos 2 ∷ pos 0 ∷ []

-- a space and a block of 16 bytes, with these accesses
abbrev pub root_and_leaf : ℕ → ℕ → List ℤ
root_and_leaf root leaf = space_of 16 (pos root) ++ block_of 16 (pos leaf)

-- walks and lists
abbrev pub walk_readings : List Reading
walk_readings =
    -- a segment that is read only: a reading walk goes over it, a writing walk does not
    walks kinds.Reading (two_ways_nodes 1) two_ways_edges (pos 0) (pos 2) (pos 64) (pos 9 ∷ pos 9 ∷ []) (full 2) (pos 0 ∷ pos 64 ∷ []) ∷
    walks kinds.Writing (two_ways_nodes 1) two_ways_edges (pos 0) (pos 2) (pos 64) (pos 9 ∷ pos 9 ∷ []) (full 1) (pos 64 ∷ pos 9 ∷ []) ∷
    walks kinds.Reading (two_ways_nodes 1) two_ways_edges (pos 0) (pos 2) (pos 150) (pos 9 ∷ []) (full 1) (pos 86 ∷ []) ∷
    walks kinds.Writing (two_ways_nodes 1) two_ways_edges (pos 0) (pos 2) (pos 150) (pos 9 ∷ []) (full 0) (pos 9 ∷ []) ∷
    -- a segment that is write only
    walks kinds.Reading (two_ways_nodes 2) two_ways_edges (pos 0) (pos 2) (pos 64) (pos 9 ∷ pos 9 ∷ []) (full 1) (pos 64 ∷ pos 9 ∷ []) ∷
    walks kinds.Writing (two_ways_nodes 2) two_ways_edges (pos 0) (pos 2) (pos 64) (pos 9 ∷ pos 9 ∷ []) (full 2) (pos 0 ∷ pos 64 ∷ []) ∷
    -- a segment that is read and write
    walks kinds.Reading (two_ways_nodes 0) two_ways_edges (pos 0) (pos 2) (pos 64) (pos 9 ∷ pos 9 ∷ []) (full 2) (pos 0 ∷ pos 64 ∷ []) ∷
    walks kinds.Writing (two_ways_nodes 0) two_ways_edges (pos 0) (pos 2) (pos 64) (pos 9 ∷ pos 9 ∷ []) (full 2) (pos 0 ∷ pos 64 ∷ []) ∷
    -- a root that is write only: reading reaches nothing from it; one that is read only: writing reaches nothing
    walks kinds.Reading (root_and_leaf 2 0) one_edge (pos 0) (pos 1) (pos 5) (pos 9 ∷ []) (full 0) (pos 9 ∷ []) ∷
    walks kinds.Writing (root_and_leaf 2 0) one_edge (pos 0) (pos 1) (pos 5) (pos 9 ∷ []) (full 1) (pos 5 ∷ []) ∷
    walks kinds.Reading (root_and_leaf 1 0) one_edge (pos 0) (pos 1) (pos 5) (pos 9 ∷ []) (full 1) (pos 5 ∷ []) ∷
    walks kinds.Writing (root_and_leaf 1 0) one_edge (pos 0) (pos 1) (pos 5) (pos 9 ∷ []) (full 0) (pos 9 ∷ []) ∷
    -- a leaf that is write only, and one that is read only
    walks kinds.Reading (root_and_leaf 0 2) one_edge (pos 0) (pos 1) (pos 5) (pos 9 ∷ []) (full 0) (pos 9 ∷ []) ∷
    walks kinds.Writing (root_and_leaf 0 2) one_edge (pos 0) (pos 1) (pos 5) (pos 9 ∷ []) (full 1) (pos 5 ∷ []) ∷
    walks kinds.Reading (root_and_leaf 0 1) one_edge (pos 0) (pos 1) (pos 5) (pos 9 ∷ []) (full 1) (pos 5 ∷ []) ∷
    walks kinds.Writing (root_and_leaf 0 1) one_edge (pos 0) (pos 1) (pos 5) (pos 9 ∷ []) (full 0) (pos 9 ∷ []) ∷
    -- the room that a walk needs is that of its kind
    walks kinds.Reading (two_ways_nodes 1) two_ways_edges (pos 0) (pos 2) (pos 64) (pos 9 ∷ []) (refusal 11 7 0) (pos 9 ∷ []) ∷
    walks kinds.Writing (two_ways_nodes 1) two_ways_edges (pos 0) (pos 2) (pos 64) (pos 9 ∷ []) (full 1) (pos 64 ∷ []) ∷
    -- lists of both kinds, where the segment is read only and where it is write only
    listed kinds.Reading (two_ways_nodes 1) two_ways_edges (pos 0) (pos 2) (pos 9 ∷ pos 9 ∷ pos 9 ∷ pos 9 ∷ pos 9 ∷ pos 9 ∷ []) (full 2) (pos 0 ∷ pos 127 ∷ pos 0 ∷ pos 64 ∷ pos 191 ∷ pos 64 ∷ []) ∷
    listed kinds.Writing (two_ways_nodes 1) two_ways_edges (pos 0) (pos 2) (pos 9 ∷ pos 9 ∷ pos 9 ∷ pos 9 ∷ pos 9 ∷ pos 9 ∷ []) (full 1) (pos 0 ∷ pos 127 ∷ pos 0 ∷ pos 9 ∷ pos 9 ∷ pos 9 ∷ []) ∷
    listed kinds.Reading (two_ways_nodes 2) two_ways_edges (pos 0) (pos 2) (pos 9 ∷ pos 9 ∷ pos 9 ∷ pos 9 ∷ pos 9 ∷ pos 9 ∷ []) (full 1) (pos 0 ∷ pos 127 ∷ pos 0 ∷ pos 9 ∷ pos 9 ∷ pos 9 ∷ []) ∷
    listed kinds.Writing (two_ways_nodes 2) two_ways_edges (pos 0) (pos 2) (pos 9 ∷ pos 9 ∷ pos 9 ∷ pos 9 ∷ pos 9 ∷ pos 9 ∷ []) (full 2) (pos 0 ∷ pos 127 ∷ pos 0 ∷ pos 64 ∷ pos 191 ∷ pos 64 ∷ []) ∷
    -- the room that a list needs is that of its kind
    listed kinds.Reading (two_ways_nodes 1) two_ways_edges (pos 0) (pos 2) (pos 9 ∷ pos 9 ∷ pos 9 ∷ []) (refusal 11 7 0) (pos 9 ∷ pos 9 ∷ pos 9 ∷ []) ∷
    listed kinds.Writing (two_ways_nodes 1) two_ways_edges (pos 0) (pos 2) (pos 9 ∷ pos 9 ∷ pos 9 ∷ []) (full 1) (pos 0 ∷ pos 127 ∷ pos 0 ∷ []) ∷
    -- a root that is write only, a leaf that is read only, and both
    listed kinds.Reading (root_and_leaf 2 0) one_edge (pos 0) (pos 1) [] (full 0) [] ∷
    listed kinds.Writing (root_and_leaf 2 0) one_edge (pos 0) (pos 1) (pos 9 ∷ pos 9 ∷ pos 9 ∷ []) (full 1) (pos 0 ∷ pos 127 ∷ pos 0 ∷ []) ∷
    listed kinds.Reading (root_and_leaf 0 1) one_edge (pos 0) (pos 1) (pos 9 ∷ pos 9 ∷ pos 9 ∷ []) (full 1) (pos 0 ∷ pos 127 ∷ pos 0 ∷ []) ∷
    listed kinds.Writing (root_and_leaf 0 1) one_edge (pos 0) (pos 1) [] (full 0) [] ∷
    listed kinds.Reading (root_and_leaf 2 1) one_edge (pos 0) (pos 1) [] (full 0) [] ∷
    listed kinds.Writing (root_and_leaf 2 1) one_edge (pos 0) (pos 1) [] (full 0) [] ∷
    -- a closed root is a root, and a closed leaf a leaf; a root is no leaf
    walks kinds.Reading (root_and_leaf 2 2) one_edge (pos 0) (pos 0) (pos 5) [] (refusal 7 5 0) [] ∷
    []

-- a space, a segment that is read only, one that is write only, and a block: so many edges lead to each segment, and one from each to the block
abbrev pub split_nodes : List ℤ
split_nodes = space_of 16 (pos 0) ++ segment_of 16 (pos 1) ++ segment_of 16 (pos 2) ++ block_of 16 (pos 0)

abbrev pub split_edges : ℕ → ℕ → List ℤ
split_edges m n =
    times m (pos 0 ∷ pos 1 ∷ pos 0 ∷ []) ++ times n (pos 0 ∷ pos 2 ∷ pos 0 ∷ []) ++ pos 1 ∷ pos 3 ∷ pos 0 ∷ pos 2 ∷ pos 3 ∷ pos 0 ∷ []

-- paths are counted without regard to access: 10 is one count, and not one a kind
abbrev pub access_path_readings : List Reading
access_path_readings =
    -- 1,025 edges into a leaf that is closed to reading give 10 for either kind, and 1,024 no record for reading
    listed kinds.Reading (root_and_leaf 0 2) (times 1025 one_edge) (pos 0) (pos 1) (pos 9 ∷ pos 9 ∷ pos 9 ∷ []) (refusal 10 1 0) (pos 9 ∷ pos 9 ∷ pos 9 ∷ []) ∷
    listed kinds.Writing (root_and_leaf 0 2) (times 1025 one_edge) (pos 0) (pos 1) (pos 9 ∷ pos 9 ∷ pos 9 ∷ []) (refusal 10 1 0) (pos 9 ∷ pos 9 ∷ pos 9 ∷ []) ∷
    listed kinds.Reading (root_and_leaf 0 2) (times 1024 one_edge) (pos 0) (pos 1) (pos 9 ∷ pos 9 ∷ pos 9 ∷ []) (full 0) (pos 9 ∷ pos 9 ∷ pos 9 ∷ []) ∷
    listed kinds.Writing (root_and_leaf 0 2) (times 1024 one_edge) (pos 0) (pos 1) (pos 9 ∷ pos 9 ∷ pos 9 ∷ []) (full 1) (pos 0 ∷ pos 127 ∷ pos 0 ∷ []) ∷
    -- so from a closed root
    listed kinds.Writing (root_and_leaf 1 0) (times 1025 one_edge) (pos 0) (pos 1) (pos 9 ∷ pos 9 ∷ pos 9 ∷ []) (refusal 10 1 0) (pos 9 ∷ pos 9 ∷ pos 9 ∷ []) ∷
    listed kinds.Writing (root_and_leaf 1 0) (times 1024 one_edge) (pos 0) (pos 1) (pos 9 ∷ pos 9 ∷ pos 9 ∷ []) (full 0) (pos 9 ∷ pos 9 ∷ pos 9 ∷ []) ∷
    -- so for a walk
    walks kinds.Writing (root_and_leaf 0 1) (times 1025 one_edge) (pos 0) (pos 1) (pos 5) [] (refusal 10 1 0) [] ∷
    -- 512 paths over each segment are taken, and 513 over one of them are too many, though a walk of either kind may take about half of them
    listed kinds.Reading split_nodes (split_edges 512 512) (pos 0) (pos 3) (pos 9 ∷ pos 9 ∷ pos 9 ∷ []) (full 1) (pos 0 ∷ pos 127 ∷ pos 0 ∷ []) ∷
    listed kinds.Writing split_nodes (split_edges 512 512) (pos 0) (pos 3) (pos 9 ∷ pos 9 ∷ pos 9 ∷ []) (full 1) (pos 0 ∷ pos 127 ∷ pos 0 ∷ []) ∷
    listed kinds.Reading split_nodes (split_edges 512 513) (pos 0) (pos 3) (pos 9 ∷ pos 9 ∷ pos 9 ∷ []) (refusal 10 1 0) (pos 9 ∷ pos 9 ∷ pos 9 ∷ []) ∷
    listed kinds.Writing split_nodes (split_edges 512 513) (pos 0) (pos 3) (pos 9 ∷ pos 9 ∷ pos 9 ∷ []) (refusal 10 1 0) (pos 9 ∷ pos 9 ∷ pos 9 ∷ []) ∷
    -- so in comparisons
    compares (from_roots (root_and_leaf 0 0) one_edge split_nodes (split_edges 512 512) (row 1 3 (pos 0))) (all_equal 1) ∷
    compares (from_roots (root_and_leaf 0 0) one_edge split_nodes (split_edges 512 513) (row 1 3 (pos 0))) (refusal 10 3 0) ∷
    compares (from_roots (root_and_leaf 1 2) (times 1025 one_edge) (root_and_leaf 1 2) one_edge (row 1 1 (pos 0))) (refusal 10 1 0) ∷
    compares (from_roots (root_and_leaf 1 2) (times 1024 one_edge) (root_and_leaf 1 2) one_edge (row 1 1 (pos 0))) (all_equal 1) ∷
    []

-- all of these but the paths
abbrev pub access_readings : List Reading
access_readings = row_readings ++ name_readings ++ pair_readings ++ way_readings ++ leaf_readings ++ walk_readings

-- batches
abbrev pub access_batch_readings : List BatchReading
access_batch_readings =
    -- a segment that is read only: record by record, of the kind asked for; the count of records is that of its list
    batches kinds.Reading (two_ways_nodes 1) two_ways_edges (pos 0) (pos 2) (pos 150 ∷ pos 64 ∷ []) (nines 6) (counts 3 2) (pos 1 ∷ pos 64 ∷ pos 0 ∷ pos 86 ∷ pos 1 ∷ pos 0 ∷ []) ∷
    batches kinds.Writing (two_ways_nodes 1) two_ways_edges (pos 0) (pos 2) (pos 150 ∷ pos 64 ∷ []) (nines 6) (counts 1 1) (pos 1 ∷ pos 64 ∷ pos 9 ∷ pos 9 ∷ pos 9 ∷ pos 9 ∷ []) ∷
    -- one that is write only
    batches kinds.Reading (two_ways_nodes 2) two_ways_edges (pos 0) (pos 2) (pos 150 ∷ pos 64 ∷ []) (nines 6) (counts 1 1) (pos 1 ∷ pos 64 ∷ pos 9 ∷ pos 9 ∷ pos 9 ∷ pos 9 ∷ []) ∷
    batches kinds.Writing (two_ways_nodes 2) two_ways_edges (pos 0) (pos 2) (pos 150 ∷ pos 64 ∷ []) (nines 6) (counts 3 2) (pos 1 ∷ pos 64 ∷ pos 0 ∷ pos 86 ∷ pos 1 ∷ pos 0 ∷ []) ∷
    -- the room that a batch needs is that of its kind
    batches kinds.Reading (two_ways_nodes 1) two_ways_edges (pos 0) (pos 2) (pos 150 ∷ pos 64 ∷ []) (nines 2) (refusal 11 7 0) (nines 2) ∷
    batches kinds.Writing (two_ways_nodes 1) two_ways_edges (pos 0) (pos 2) (pos 150 ∷ pos 64 ∷ []) (nines 2) (counts 1 1) (pos 1 ∷ pos 64 ∷ []) ∷
    -- a closed root: no record is read
    batches kinds.Reading (root_and_leaf 2 0) one_edge (pos 0) (pos 1) (pos 5 ∷ []) [] (counts 0 0) [] ∷
    batches kinds.Writing (root_and_leaf 2 0) one_edge (pos 0) (pos 1) (pos 5 ∷ []) (nines 2) (counts 1 1) (pos 0 ∷ pos 5 ∷ []) ∷
    -- 19 before, and 10 whatever the kind
    batches kinds.Writing (pos 0 ∷ []) one_edge (pos 0) (pos 1) (times 513 (pos 5 ∷ [])) [] (refusal 19 7 0) [] ∷
    batches kinds.Reading (root_and_leaf 0 2) (times 1025 one_edge) (pos 0) (pos 1) (pos 5 ∷ []) [] (refusal 10 1 0) [] ∷
    []
