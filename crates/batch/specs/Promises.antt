-- What the call batch promises, whatever it is given. Assumes nothing.
use Rattle.std.specs.Prelude.{Result}
use Rattle.std.specs.Prelude.{◌≡◌, ◌↔◌, List, ◌++◌, ℕ, ◌<◌, ℤ, pos, length, get_or, drop}
use Rattle.lists.specs.Lists.{◌∈◌, Distinct}
use Rattle.model.specs.declared.WalkKind.{WalkKind}
use Rattle.model.specs.Graph.{Graph, graph_of}
use Rattle.model.specs.Walk.{Reached}
use Rattle.model.specs.Bitmapping.{Record, IsBitmappingList}
use Rattle.model.specs.Calls.{full, ascending, leaf_bits}
use Rattle.batches.specs.Batch.{BatchRow, BatchCounts, batch_rows, batch_numbers, bits_at, batch_gives, batch_after, batched_answer}
use Rattle.model.specs.declared.BatchCounts as code
use Rattle.model.specs.declared.Reason.{Reason}

-- the rows of batch xs for walks of this kind stand in front of a buffer that held `old`, two numbers each, and the counts are theirs and that of the bitmapping list
pub record BatchStands (kind : WalkKind) (g : Graph) (root leaf : ℤ) (xs : List ℤ) (counts : BatchCounts) (old new : List ℤ) : Type 0 where
  -- the records that were read: the bitmapping list, the list of the reached set
  pub list : List Record
  pub reached : IsBitmappingList kind g root leaf list
  pub records : counts.records ≡ length list
  -- the rows: record by record, and within a record by place
  pub rows : List BatchRow
  pub order : rows ≡ batch_rows list xs
  pub count : counts.rows ≡ length rows
  pub stands : new ≡ batch_numbers rows ++ drop (length (batch_numbers rows)) old
  -- a row stands there for precisely the leaf bits that the single walk gives of the address at its place
  pub precisely : (t : BatchRow) → (t ∈ rows) ↔ ((t.place < length xs) × Reached kind g root leaf (get_or xs t.place (pos 0)) t.bit)
  -- each once
  pub once : Distinct rows
  -- those of one place are, in ascending order, what walk writes for the address there, and as many
  pub walks : (p : ℕ) → p < length xs
      → (ascending (bits_at p rows) ≡ leaf_bits kind g root leaf (get_or xs p (pos 0))) × (length (bits_at p rows) ≡ length (leaf_bits kind g root leaf (get_or xs p (pos 0))))

-- batch, for walks of this kind, of bit addresses xs from a root to a leaf, into a buffer that held `old`: what it returns, and what the buffer then holds
pub record BatchPromise (kind : WalkKind) (ns es : List ℤ) (root leaf : ℤ) (xs old : List ℤ) (given : Result code.BatchCounts Reason) (new : List ℤ) : Type 0 where
  -- how many rows, and how many records were read; or a refusal
  pub answer : batched_answer given ≡ batch_gives kind ns es root leaf xs old
  -- untouched on a refusal, else the numbers of the rows, and past them what it held
  pub buffer : new ≡ batch_after kind ns es root leaf xs old
  -- where it gives counts, the rows that stand in the buffer are those of the single walks
  pub stands : (counts : BatchCounts) → batched_answer given ≡ full counts → BatchStands kind (graph_of ns es) root leaf xs counts old new
