-- The answers of the calls as one number each, for the benchmark. Assumes nothing.
use Rattle.std.specs.Prelude.{ℕ, ◌+◌, ◌*◌, ◌^◌, min, ℤ, pos, neg_ℤ}
use Rattle.model.specs.Compare.{Result}
use Rattle.model.specs.Calls.{Answer, refused, full}
use Rattle.batches.specs.Batch.{BatchCounts}
use Rattle.model.specs.TextCheck.{coded}
use Rattle.model.specs.SheetCall.{TableLengths}
use Rattle.model.specs.declared.SheetSizes.{SheetSizes}

-- the highest count that 20 binary digits hold; 1,000 × 1,000 pairs are fewer
abbrev pub most_counted : ℕ
most_counted = 1048575

-- a count in 20 binary digits
abbrev pub digits : ℕ → ℕ
digits n = min n most_counted

-- a full result: the whole verdict, then the counts of equal, partial and different pairs with 20 binary digits each
abbrev pub packed : Result → ℕ
packed res = res.verdict * 2 ^ 60 + digits res.equal * 2 ^ 40 + digits res.partial * 2 ^ 20 + digits res.different

-- an answer: a full result by its number, a refusal as its number below zero
unfoldable pub signed : {A : Type 0} → (A → ℕ) → Answer A → ℤ
signed number (refused r) = neg_ℤ (pos r.number)
signed number (full a) = pos (number a)

-- the answer of a comparison
abbrev pub summary : Answer Result → ℤ
summary = signed packed

-- the answer of the check of one graph: 0 where it is taken
abbrev pub taken : Answer (Unit {0}) → ℤ
taken = signed (λ _. 0)

-- the answer of walk and list: how many numbers or records were written, at most 1,024
abbrev pub written : Answer ℕ → ℤ
written = signed digits

-- the counts of a batch: the rows, then the records, with 20 binary digits each; 512 × 1,024 rows are fewer
abbrev pub counted : BatchCounts → ℕ
counted n = digits n.rows * 2 ^ 20 + digits n.records

-- the answer of a batch: how many rows were written, and how many records were read
abbrev pub batched : Answer BatchCounts → ℤ
batched = signed counted

-- the lengths of the two tables of a sheet
abbrev pub sheet_lengths : SheetSizes → TableLengths
sheet_lengths z = record { nodes = z.nodes; edges = z.edges }

-- the lengths of two tables as one number
abbrev pub lengths : TableLengths → ℕ
lengths n = digits n.nodes * 100000 + digits n.edges

-- the answer of the reader of sheets: how long both tables are, or the code of the refusal
unfoldable pub tables : Answer TableLengths → ℤ
tables (refused r) = coded (refused r)
tables (full n) = pos (lengths n)
