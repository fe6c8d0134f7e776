-- Readings of many addresses together (document 02, item 6), and its limits at both edges, as lists of cases. Assumes nothing.
use Rattle.std.specs.Prelude.{◌≡◌, List, [], ◌∷◌, ◌++◌, ℕ, ◌-◌, ◌^◌, ℤ, pos, negsuc, neg_ℤ}
use Rattle.model.specs.declared.WalkKind.{WalkKind}
use Rattle.model.specs.declared.WalkKind.TheVariants.{Reading}
use Rattle.model.specs.Calls.{Answer, full}
use Rattle.batches.specs.Batch.{BatchCounts, batch_gives, batch_after}
use Rattle.model.specs.Marked.{refusal, times}

pub data BatchReading : Type 0 where
  -- kind of walk, tables, root, leaf, addresses and buffer; what batch returns, and the buffer afterwards
  batches : WalkKind → List ℤ → List ℤ → ℤ → ℤ → List ℤ → List ℤ → Answer BatchCounts → List ℤ → BatchReading

-- what a reading says
abbrev pub Says : BatchReading → Type 0
Says (batches kind ns es r l xs b n after) = (batch_gives kind ns es r l xs b ≡ n) × (batch_after kind ns es r l xs b ≡ after)

-- every reading of the list holds
abbrev pub AllSay : List BatchReading → Type 0
AllSay [] = Unit {0}
AllSay (c ∷ cs) = Says c × AllSay cs

-- so many rows, of so many records
abbrev pub counts : ℕ → ℕ → Answer BatchCounts
counts rows records = full (record { rows = rows; records = records })

-- a space of 32 bytes and a block of 16 bytes, to which it leads at byte 0 and once more at byte 8: root bits 0 to 127 have displacement 0, and
-- root bits 64 to 191 displacement 64
abbrev pub twice_nodes : List ℤ
twice_nodes = pos 0 ∷ pos 0 ∷ pos 32 ∷ pos 8 ∷ pos 0 ∷ pos 2 ∷ pos 0 ∷ pos 16 ∷ pos 8 ∷ pos 0 ∷ []

abbrev pub twice_edges : List ℤ
twice_edges = pos 0 ∷ pos 1 ∷ pos 0 ∷ pos 0 ∷ pos 1 ∷ pos 8 ∷ []

-- addresses out of order: one that no record has, 64 twice, a negative one, 0, and 100
abbrev pub some_addresses : List ℤ
some_addresses = pos 200 ∷ pos 64 ∷ negsuc 0 ∷ pos 0 ∷ pos 64 ∷ pos 100 ∷ []

-- a buffer of so many nines
abbrev pub nines : ℕ → List ℤ
nines n = times n (pos 9 ∷ [])

abbrev pub batch_readings : List BatchReading
batch_readings =
    -- record by record, and within a record by place: 64 has two leaf bits, at both its places; past the rows the buffer keeps its number
    batches Reading twice_nodes twice_edges (pos 0) (pos 1) some_addresses (nines 15) (counts 7 2)
    (pos 1 ∷ pos 64 ∷ pos 3 ∷ pos 0 ∷ pos 4 ∷ pos 64 ∷ pos 5 ∷ pos 100 ∷ pos 1 ∷ pos 0 ∷ pos 4 ∷ pos 0 ∷ pos 5 ∷ pos 36 ∷ pos 9 ∷ []) ∷
    -- rows that fill the buffer fit
    batches Reading twice_nodes twice_edges (pos 0) (pos 1) some_addresses (nines 14) (counts 7 2)
    (pos 1 ∷ pos 64 ∷ pos 3 ∷ pos 0 ∷ pos 4 ∷ pos 64 ∷ pos 5 ∷ pos 100 ∷ pos 1 ∷ pos 0 ∷ pos 4 ∷ pos 0 ∷ pos 5 ∷ pos 36 ∷ []) ∷
    -- one number less does not, and nothing is written
    batches Reading twice_nodes twice_edges (pos 0) (pos 1) some_addresses (nines 13) (refusal 11 7 0) (nines 13) ∷
    -- not by address: the higher one stands first in the batch
    batches Reading twice_nodes twice_edges (pos 0) (pos 1) (pos 63 ∷ pos 1 ∷ []) (nines 4) (counts 2 2) (pos 0 ∷ pos 63 ∷ pos 1 ∷ pos 1 ∷ []) ∷
    -- the last bit of a record has a row, and the bit past it none
    batches Reading twice_nodes twice_edges (pos 0) (pos 1) (pos 192 ∷ pos 191 ∷ []) (nines 2) (counts 1 2) (pos 1 ∷ pos 127 ∷ []) ∷
    -- the lowest and the highest number of 64 bits are addresses that reach nothing
    batches Reading twice_nodes twice_edges (pos 0) (pos 1) (neg_ℤ (pos (2 ^ 63)) ∷ pos (2 ^ 63 - 1) ∷ []) (nines 1) (counts 0 2) (nines 1) ∷
    -- an empty batch has no row, and all records are read
    batches Reading twice_nodes twice_edges (pos 0) (pos 1) [] [] (counts 0 2) [] ∷
    -- a list without records: no row
    batches Reading twice_nodes [] (pos 0) (pos 1) some_addresses (nines 2) (counts 0 0) (nines 2) ∷
    -- 512 addresses are taken, and 513 are not
    batches Reading twice_nodes twice_edges (pos 0) (pos 1) (times 512 (pos 255 ∷ [])) [] (counts 0 2) [] ∷
    batches Reading twice_nodes twice_edges (pos 0) (pos 1) (times 511 (pos 255 ∷ []) ++ (pos 0 ∷ [])) (nines 2) (counts 1 2) (pos 511 ∷ pos 0 ∷ []) ∷
    batches Reading twice_nodes twice_edges (pos 0) (pos 1) (times 513 (pos 255 ∷ [])) (nines 1) (refusal 19 7 0) (nines 1) ∷
    -- 19 comes before the graph's checks: the node table is broken
    batches Reading (pos 0 ∷ []) twice_edges (pos 0) (pos 1) (times 512 (pos 255 ∷ [])) (nines 1) (refusal 1 0 0) (nines 1) ∷
    batches Reading (pos 0 ∷ []) twice_edges (pos 0) (pos 1) (times 513 (pos 255 ∷ [])) (nines 1) (refusal 19 7 0) (nines 1) ∷
    -- no root, and no leaf, come before the length of the output
    batches Reading twice_nodes twice_edges (pos 1) (pos 1) some_addresses [] (refusal 7 4 0) [] ∷
    batches Reading twice_nodes twice_edges (pos 0) (pos 0) some_addresses [] (refusal 7 5 0) [] ∷
    -- so do more than 1,024 paths
    batches Reading twice_nodes (times 1025 (pos 0 ∷ pos 1 ∷ pos 0 ∷ [])) (pos 0) (pos 1) some_addresses [] (refusal 10 1 0) [] ∷ []
