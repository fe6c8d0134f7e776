-- Many addresses together (document 02, item 6): the rows of a batch of bit addresses at one root, the refusals of the call, what it returns, and
-- what its buffer holds afterwards. Assumes nothing.
use Rattle.std.specs.Prelude.{Result, Ok, Err, cond, ℕ, suc, ◌<◌, eqb, ltb, ℤ, pos, ◌-ℤ◌, length}
use mathlib.Core.List.{List, [], ◌∷◌, map, flat_map}
use Rattle.std.proofs.Math.Option.{Option}
use Rattle.lists.specs.Lists.{keep}
use Rattle.model.specs.declared.WalkKind.{WalkKind}
use Rattle.model.specs.Limits.{max_batch}
use Rattle.model.specs.Graph.{Graph, graph_of}
use Rattle.model.specs.Bitmapping.{Record}
use Rattle.model.specs.Runs.{list_of}
use Rattle.model.specs.Verdicts.{has_bit}
use Rattle.model.specs.Refusals.{Refusal, Condition, refuse, ◌next◌, single_conditions}
use Rattle.model.specs.Checks.{when, ◌then◌, check_single}
use Rattle.model.specs.Answers.{refusal_of}
use Rattle.model.specs.declared.BatchCounts as code
use Rattle.model.specs.Calls.{Answer, refused, full, answer, buffer_after}
use Rattle.model.specs.declared.Reason.{Reason}

-- ---- the rows

-- a row: a place in the batch, from 0, and a leaf bit
pub record BatchRow : Type 0 where
  pub place : ℕ
  pub bit : ℤ

-- the rows of a record, for addresses that stand from place i on: by place, one for each address that the record has
unfoldable pub rows_in : Record → ℕ → List ℤ → List BatchRow
rows_in s i [] = []
rows_in s i (x ∷ xs) = let rest = rows_in s (suc i) xs in cond (has_bit x s) (record { place = i; bit = x -ℤ s.displacement } ∷ rest) rest

-- the rows of a list of records, for a batch: record by record
unfoldable pub batch_rows : List Record → List ℤ → List BatchRow
batch_rows l xs = flat_map (λ s. rows_in s 0 xs) l

-- the numbers of rows: two a row
unfoldable pub batch_numbers : List BatchRow → List ℤ
batch_numbers [] = []
batch_numbers (t ∷ ts) = pos t.place ∷ t.bit ∷ batch_numbers ts

-- the leaf bits of the rows of one place, in their order
unfoldable pub bits_at : ℕ → List BatchRow → List ℤ
bits_at p ts = map (λ t. t.bit) (keep (λ t. eqb t.place p) ts)

-- the rows of a root and a leaf for walks of this kind, for a batch
unfoldable pub batch_of : WalkKind → Graph → ℤ → ℤ → List ℤ → List BatchRow
batch_of kind g r l xs = batch_rows (list_of kind g r l) xs

-- ---- refusals: 19 for more than 512 addresses, before the graph's checks; then those of list, for the length of the rows' numbers

unfoldable pub batch_conditions : List ℤ → List ℤ → ℤ → ℤ → List ℤ → ℕ → ℕ → List Condition
batch_conditions ns es r l xs output room = refuse 19 7 0 (max_batch < length xs) next single_conditions ns es r l output room

-- the check of these
unfoldable pub check_batch : List ℤ → List ℤ → ℤ → ℤ → List ℤ → ℕ → ℕ → Option Refusal
check_batch ns es r l xs output room = when (ltb max_batch (length xs)) 19 7 0 then check_single ns es r l output room

-- ---- the call

-- the rows of batch xs from root r to leaf l for walks of this kind, whose numbers fit into a buffer with room for so many numbers
unfoldable pub batch_answer : WalkKind → List ℤ → List ℤ → ℤ → ℤ → List ℤ → ℕ → Answer (List BatchRow)
batch_answer kind ns es r l xs room =
    answer (check_batch ns es r l xs (length (batch_numbers (batch_of kind (graph_of ns es) r l xs))) room) (batch_of kind (graph_of ns es) r l xs)

-- how many rows there are, and how many records were read for them
pub record BatchCounts : Type 0 where
  pub rows : ℕ
  pub records : ℕ

-- the counts of an answer, for which so many records were read
unfoldable pub counts_of : ℕ → Answer (List BatchRow) → Answer BatchCounts
counts_of records (refused r) = refused r
counts_of records (full ts) = full (record { rows = length ts; records = records })

-- the numbers of an answer
unfoldable pub batch_numbers_of : Answer (List BatchRow) → Answer (List ℤ)
batch_numbers_of (refused r) = refused r
batch_numbers_of (full ts) = full (batch_numbers ts)

-- what the call for walks of this kind returns: how many rows there are, and as many records as the list has
unfoldable pub batch_gives : WalkKind → List ℤ → List ℤ → ℤ → ℤ → List ℤ → List ℤ → Answer BatchCounts
batch_gives kind ns es r l xs buffer = counts_of (length (list_of kind (graph_of ns es) r l)) (batch_answer kind ns es r l xs (length buffer))

-- what its buffer holds afterwards
unfoldable pub batch_after : WalkKind → List ℤ → List ℤ → ℤ → ℤ → List ℤ → List ℤ → List ℤ
batch_after kind ns es r l xs buffer = buffer_after (batch_numbers_of (batch_answer kind ns es r l xs (length buffer))) buffer

-- ---- the cases of the answer that the code gives

-- how many rows, and how many records were read
abbrev pub counts_result : code.BatchCounts → BatchCounts
counts_result c = record { rows = c.rows; records = c.records }

-- these, or refused
abbrev pub batched_answer : Result code.BatchCounts Reason → Answer BatchCounts
batched_answer (Ok c) = full (counts_result c)
batched_answer (Err r) = refused (refusal_of r)
