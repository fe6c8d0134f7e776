-- The marked maps P1 to P8 of document 01, and the read-only block of document 02, item 7, as one list of cases. Assumes nothing.
use Rattle.std.specs.Prelude.{◌≡◌, List, [], ◌∷◌, ◌++◌, ℕ, zero, suc, ◌+◌, ◌-◌, ◌^◌, ℤ, pos, negsuc}
use Prim.Native.String.{String}
use Rattle.model.specs.declared.WalkKind.{WalkKind}
use Rattle.model.specs.declared.WalkKind.TheVariants.{Reading, Writing}
use Rattle.model.specs.Bitmapping.{Record}
use Rattle.model.specs.Runs.{normal}
use Rattle.model.specs.Compare.{Tables, Result}
use Rattle.model.specs.Calls.{Answer, refused, full, check_answer, list_answer, compare_answer}
use Rattle.model.specs.Bytes.{bytes}
use Rattle.model.specs.TextCheck.{printed}

pub data Case : Type 0 where
  -- a map file, and what mapcheck prints for it
  prints : String → String → Case
  -- node table and edge table, and the answer of the check
  checks : List ℤ → List ℤ → Answer (Unit {0}) → Case
  -- kind of walk, node table, edge table, root, leaf and room, and the answer of list
  lists : WalkKind → List ℤ → List ℤ → ℤ → ℤ → ℕ → Answer (List Record) → Case
  -- two graphs with their pairing, and the answer of the comparison
  compares : Tables → Answer Result → Case
  -- runs as records, and the records that they make
  merges : List Record → List Record → Case

-- what a case says
abbrev pub Holds : Case → Type 0
Holds (prints text out) = printed (bytes text) ≡ bytes out
Holds (checks ns es a) = check_answer ns es ≡ a
Holds (lists kind ns es r l room a) = list_answer kind ns es r l room ≡ a
Holds (compares t a) = compare_answer t ≡ a
Holds (merges l m) = normal l ≡ m

-- every case of the list holds
abbrev pub AllHold : List Case → Type 0
AllHold [] = Unit {0}
AllHold (c ∷ cs) = Holds c × AllHold cs

-- so many times over
abbrev pub times : {A : Type 0} → ℕ → List A → List A
times zero xs = []
times (suc k) xs = xs ++ times k xs

abbrev pub rec : ℕ → ℕ → ℕ → Record
rec f l d = record { first = pos f; last = pos l; displacement = pos d }

-- ---- the tables of P1 to P3 and P8

abbrev pub spec_nodes : List ℤ
spec_nodes = pos 0 ∷ pos 0 ∷ pos 4096 ∷ pos 8 ∷ pos 0 ∷ pos 2 ∷ pos 256 ∷ pos 64 ∷ pos 8 ∷ pos 0 ∷ []

-- the specification, where the block is read only
abbrev pub read_only_nodes : List ℤ
read_only_nodes = pos 0 ∷ pos 0 ∷ pos 4096 ∷ pos 8 ∷ pos 0 ∷ pos 2 ∷ pos 256 ∷ pos 64 ∷ pos 8 ∷ pos 1 ∷ []

abbrev pub spec_edges : List ℤ
spec_edges = pos 0 ∷ pos 1 ∷ pos 0 ∷ []

-- the implementation, where the space between has this range
abbrev pub impl_nodes : ℕ → List ℤ
impl_nodes range = pos 0 ∷ pos 0 ∷ pos 4096 ∷ pos 8 ∷ pos 0 ∷ pos 0 ∷ pos 0 ∷ pos range ∷ pos 32 ∷ pos 0 ∷ pos 2 ∷ pos 0 ∷ pos 16 ∷ pos 32 ∷ pos 0 ∷ []

-- and the last edge this offset
abbrev pub impl_edges : ℤ → List ℤ
impl_edges offset = pos 0 ∷ pos 1 ∷ pos 64 ∷ pos 1 ∷ pos 2 ∷ offset ∷ []

-- P1, with its specification edge so many times over
abbrev pub parallel : ℕ → Tables
parallel k =
    record { spec_nodes = spec_nodes; spec_edges = times k spec_edges; impl_nodes = impl_nodes 12; impl_edges = impl_edges (pos 0); root_pairs = pos 0 ∷ pos 0 ∷ pos 0 ∷ []; leaf_pairs = pos 1 ∷ pos 2 ∷ pos 0 ∷ [] }

-- a chain of k edges
abbrev pub chain_nodes : ℕ → List ℤ
chain_nodes k = times (suc k) (pos 0 ∷ pos 0 ∷ pos 16 ∷ pos 8 ∷ pos 0 ∷ [])

abbrev pub chain_edges : ℕ → ℕ → List ℤ
chain_edges v zero = []
chain_edges v (suc k) = pos v ∷ pos (suc v) ∷ pos 0 ∷ chain_edges (suc v) k

-- a space and a block
abbrev pub two_nodes : List ℤ
two_nodes = pos 0 ∷ pos 0 ∷ pos 16 ∷ pos 8 ∷ pos 0 ∷ pos 2 ∷ pos 0 ∷ pos 16 ∷ pos 8 ∷ pos 0 ∷ []

-- ---- the texts of P1 to P3, and of the read-only block

abbrev pub text1 : String
text1 =
    "side kind base range unit\n0 0 0 4096 8\n0 2 256 64 8\n1 0 0 4096 8\n1 0 0 12 32\n1 2 0 16 32\n\nside from to offset\n0 0 1 0\n1 0 1 64\n1 1 2 0\n\nrole spec impl\n0 0 0\n1 1 2\n"

abbrev pub report1 : String
report1 = "root leaf verdict rspec rimpl wspec wimpl\n0 0 1 1 1 1 1\n\nverdict equal partial different root leaf address\n1 0 1 0 0 0 2432\n"

abbrev pub text2 : String
text2 =
    "side kind base range unit\n0 0 0 4096 8\n0 2 256 64 8\n1 0 0 4096 8\n1 0 0 32 32\n1 2 0 16 32\n\nside from to offset\n0 0 1 0\n1 0 1 64\n1 1 2 0\n\nrole spec impl\n0 0 0\n1 1 2\n"

abbrev pub report2 : String
report2 = "root leaf verdict rspec rimpl wspec wimpl\n0 0 0 1 1 1 1\n\nverdict equal partial different root leaf address\n0 1 0 0 -1 -1 -1\n"

abbrev pub text3 : String
text3 =
    "side kind base range unit\n0 0 0 4096 8\n0 2 256 64 8\n1 0 0 4096 8\n1 0 0 32 32\n1 2 0 16 32\n\nside from to offset\n0 0 1 0\n1 0 1 64\n1 1 2 -8\n\nrole spec impl\n0 0 0\n1 1 2\n"

abbrev pub report3 : String
report3 = "root leaf verdict rspec rimpl wspec wimpl\n0 0 2 1 1 1 1\n\nverdict equal partial different root leaf address\n2 0 0 1 0 0 2048\n"

-- P2, where the block of the specification is read only
abbrev pub read_only_text : String
read_only_text =
    "side kind base range unit access\n0 0 0 4096 8 0\n0 2 256 64 8 1\n1 0 0 4096 8 0\n1 0 0 32 32 0\n1 2 0 16 32 0\n\nside from to offset\n0 0 1 0\n1 0 1 64\n1 1 2 0\n\nrole spec impl\n0 0 0\n1 1 2\n"

abbrev pub read_only_report : String
read_only_report = "root leaf verdict rspec rimpl wspec wimpl\n0 0 2 1 1 0 1\n\nverdict equal partial different root leaf address\n2 0 0 1 0 0 2048\n"

abbrev pub refusal : {A : Type 0} → ℕ → ℕ → ℕ → Answer A
refusal n t r = refused (record { number = n; table = t; row = r })

-- ---- the cases

-- P1: printed
abbrev pub p1 : List Case
p1 = prints text1 report1 ∷ []

-- P2: P1 with range 32 in place of 12: equal, record 2048, 2559, 2048 on both sides
abbrev pub p2 : List Case
p2 =
    prints text2 report2
    ∷ lists Reading spec_nodes spec_edges (pos 0) (pos 1) 3 (full (rec 2048 2559 2048 ∷ []))
    ∷ lists Reading (impl_nodes 32) (impl_edges (pos 0)) (pos 0) (pos 2) 3 (full (rec 2048 2559 2048 ∷ []))
    ∷ []

-- P3: P2 with last edge offset −8: record 2048, 2303, 1792. The specification's record contains its bits and has another displacement: different
-- (document 02, item 1)
abbrev pub p3 : List Case
p3 = prints text3 report3 ∷ lists Reading (impl_nodes 32) (impl_edges (negsuc 7)) (pos 0) (pos 2) 3 (full (rec 2048 2303 1792 ∷ [])) ∷ []

-- P4: base + range = 2^48 is taken, one more gives 2
abbrev pub p4 : List Case
p4 =
    checks (pos 0 ∷ pos 1 ∷ pos (2 ^ 48 - 1) ∷ pos 8 ∷ pos 0 ∷ []) [] (full tt)
    ∷ checks (pos 0 ∷ pos 1 ∷ pos (2 ^ 48) ∷ pos 8 ∷ pos 0 ∷ []) [] (refusal 2 0 0)
    ∷ []

-- P5: offset 2^48 is taken, 2^48 + 1 gives 3; so below 0
abbrev pub p5 : List Case
p5 =
    checks two_nodes (pos 0 ∷ pos 1 ∷ pos (2 ^ 48) ∷ []) (full tt)
    ∷ checks two_nodes (pos 0 ∷ pos 1 ∷ pos (2 ^ 48 + 1) ∷ []) (refusal 3 1 0)
    ∷ checks two_nodes (pos 0 ∷ pos 1 ∷ negsuc (2 ^ 48 - 1) ∷ []) (full tt)
    ∷ checks two_nodes (pos 0 ∷ pos 1 ∷ negsuc (2 ^ 48) ∷ []) (refusal 3 1 0)
    ∷ []

-- P6: a chain of 64 edges is taken, 65 gives 6
abbrev pub p6 : List Case
p6 = checks (chain_nodes 64) (chain_edges 0 64) (full tt) ∷ checks (chain_nodes 65) (chain_edges 0 65) (refusal 6 0 0) ∷ []

-- P7: runs 0..63 and 64..127 of one displacement are one record; 0..62 and 64..127 two
abbrev pub p7 : List Case
p7 =
    merges (rec 0 63 0 ∷ rec 64 127 0 ∷ []) (rec 0 127 0 ∷ [])
    ∷ merges (rec 0 62 0 ∷ rec 64 127 0 ∷ []) (rec 0 62 0 ∷ rec 64 127 0 ∷ [])
    ∷ []

-- P8: P1's specification edge 1,024 times over gives one record; 1,025 times gives 10
abbrev pub p8 : List Case
p8 =
    lists Reading spec_nodes (times 1024 spec_edges) (pos 0) (pos 1) 3 (full (rec 2048 2559 2048 ∷ []))
    ∷ lists Reading spec_nodes (times 1025 spec_edges) (pos 0) (pos 1) 3 (refusal 10 1 0)
    ∷ compares (parallel 1024) (full (record { equal = 0; partial = 1; different = 0; verdict = 1; place = record { root = pos 0; leaf = pos 0; address = pos 2432 } }))
    ∷ compares (parallel 1025) (refusal 10 1 0)
    ∷ []

-- a block specified as read only and built writable: equal for reading, different for writing, which reaches nothing in the specification
abbrev pub read_only_block : List Case
read_only_block =
    prints read_only_text read_only_report
    ∷ lists Reading read_only_nodes spec_edges (pos 0) (pos 1) 3 (full (rec 2048 2559 2048 ∷ []))
    ∷ lists Writing read_only_nodes spec_edges (pos 0) (pos 1) 0 (full [])
    ∷ []

-- all of these
abbrev pub marked : List Case
marked = p1 ++ p2 ++ p3 ++ p4 ++ p5 ++ p6 ++ p7 ++ p8 ++ read_only_block
