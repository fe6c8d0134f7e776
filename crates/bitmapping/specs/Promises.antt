-- What the calls list and walk promise, whatever they are given. Assumes nothing.
use Rattle.std.specs.Prelude.{Result}
use Rattle.std.specs.Prelude.{◌≡◌, ◌↔◌, List, [], ◌∷◌, ◌++◌, ℕ, ℤ, ◌<ℤ◌, length, drop}
use Rattle.lists.specs.Lists.{◌∈◌}
use Rattle.model.specs.declared.WalkKind.{WalkKind}
use Rattle.model.specs.Graph.{Graph, graph_of}
use Rattle.model.specs.Walk.{Reached}
use Rattle.model.specs.Bitmapping.{Record, IsBitmappingList}
use Rattle.model.specs.Calls.{full, numbers_of, list_gives, list_after, walk_gives, walk_after}
use Rattle.model.specs.Answers.{written_answer}
use Rattle.model.specs.declared.Reason.{Reason}

-- n records stand in front of a buffer that held `old`, three numbers each, and they are the bitmapping list of root and leaf for walks of this kind: the
-- list of the reached set
pub record ListStands (kind : WalkKind) (g : Graph) (root leaf : ℤ) (n : ℕ) (old new : List ℤ) : Type 0 where
  pub records : List Record
  pub count : length records ≡ n
  pub stands : new ≡ numbers_of records ++ drop (length (numbers_of records)) old
  pub reached : IsBitmappingList kind g root leaf records

-- list, for walks of this kind, of a root and a leaf of the graph of two tables, into a buffer that held `old`: what it returns, and what the buffer then holds
pub record ListPromise (kind : WalkKind) (ns es : List ℤ) (root leaf : ℤ) (old : List ℤ) (given : Result ℕ Reason) (new : List ℤ) : Type 0 where
  -- how many records, or a refusal
  pub answer : written_answer given ≡ list_gives kind ns es root leaf old
  -- untouched on a refusal, else the numbers of the records, and past them what it held
  pub buffer : new ≡ list_after kind ns es root leaf old
  -- where it gives n records, what stands in the buffer is the bitmapping list: exactly what is reached
  pub reached : (n : ℕ) → written_answer given ≡ full n → ListStands kind (graph_of ns es) root leaf n old new

-- each number is below all that come after it
pub data Ascending : List ℤ → Type 0 where
  none : Ascending []
  more : {x : ℤ} {l : List ℤ} → ((y : ℤ) → y ∈ l → x <ℤ y) → Ascending l → Ascending (x ∷ l)

-- n leaf bits stand in front of a buffer that held `old`: those that the address reaches by walks of this kind, ascending, each once
pub record WalkStands (kind : WalkKind) (g : Graph) (root leaf address : ℤ) (n : ℕ) (old new : List ℤ) : Type 0 where
  pub bits : List ℤ
  pub count : length bits ≡ n
  pub stands : new ≡ bits ++ drop (length bits) old
  pub reached : (y : ℤ) → (y ∈ bits) ↔ Reached kind g root leaf address y
  pub ascending : Ascending bits

-- walk, for walks of this kind, of a bit address from a root to a leaf, into a buffer that held `old`: what it returns, and what the buffer then holds
pub record WalkPromise (kind : WalkKind) (ns es : List ℤ) (root leaf address : ℤ) (old : List ℤ) (given : Result ℕ Reason) (new : List ℤ) : Type 0 where
  -- how many leaf bits, or a refusal
  pub answer : written_answer given ≡ walk_gives kind ns es root leaf address old
  -- untouched on a refusal, else the leaf bits, and past them what it held
  pub buffer : new ≡ walk_after kind ns es root leaf address old
  -- where it gives n leaf bits, those that the address reaches stand in the buffer
  pub reached : (n : ℕ) → written_answer given ≡ full n → WalkStands kind (graph_of ns es) root leaf address n old new
