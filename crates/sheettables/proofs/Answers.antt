-- The answer: the refusals of a sheet, and both tables at the front of their buffers.
use Rattle.std.specs.Prelude.{Err, Ok}
use mathlib.Core.Path.{◌≡◌, refl, ap, ◌∙◌}
use mathlib.Core.Bool.{Bool, true, false}
use mathlib.Core.Logic.{◌⊎◌, inl, inr}
use mathlib.Core.List.{List, ◌++◌}
use Prim.Native.Nat.{ℕ, ◌+◌, ◌≤◌, ◌<◌}
use native.Mathlib.Omega.{arith}
use borrow.Author.Tests.{lt-ltb, le-ltb}
use lib.Dec.{ltb}
use lib.IntN.{ℤ}
use lib.ListN.{length, drop}
use lib.Seq.{sets, sets-eq}
use Rattle.model.specs.Limits.{max_edges}
use Rattle.model.specs.Calls.{Answer, refused, full, answer, buffer_after}
use Rattle.model.specs.Checks.{when, ◌then◌, check_output}
use Rattle.model.specs.Sheet.{SheetLine, sheet_nodes, sheet_edges}
use Rattle.model.specs.SheetCall.{check_made, made, lengths_of, table_in}
use Rattle.model.specs.Answers.{numbered, refusal_of}
use Rattle.model.specs.declared.Reason.{Reason}
use Rattle.model.specs.declared.SheetSizes.{SheetSizes}
use Rattle.sheettables.specs.Made.{SheetMade}

-- ---- which answer

module _ (ls : List SheetLine) (node_room edge_room : ℕ) where
  -- there are more lines than edges
  pub made-many : max_edges < length ls → made node_room edge_room ls ≡ refused (numbered 1 1 0)
  unfolding made check_made when ◌then◌ answer
  made-many h = rw (lt-ltb max_edges (length ls) h) refl

  -- a table is longer than its buffer
  pub made-long : length ls ≤ max_edges → (node_room < length (sheet_nodes ls)) ⊎ (edge_room < length (sheet_edges ls)) → made node_room edge_room ls ≡ refused (numbered 11 7 0)
  unfolding made check_made check_output when ◌then◌ answer
  made-long few (inl h) = rw (le-ltb max_edges (length ls) few, lt-ltb node_room (length (sheet_nodes ls)) h) refl
  made-long few (inr h) = rw (le-ltb max_edges (length ls) few, lt-ltb edge_room (length (sheet_edges ls)) h) (go (ltb node_room (length (sheet_nodes ls))))
    where
      go : (a : Bool) → answer (when a 11 7 0 then when true 11 7 0) ls ≡ refused (numbered 11 7 0)
      go true = refl
      go false = refl

  -- neither is
  pub made-full : length ls ≤ max_edges → length (sheet_nodes ls) ≤ node_room → length (sheet_edges ls) ≤ edge_room → made node_room edge_room ls ≡ full ls
  unfolding made check_made check_output when ◌then◌ answer
  made-full few h k =
      rw (le-ltb max_edges (length ls) few, le-ltb node_room (length (sheet_nodes ls)) h, le-ltb edge_room (length (sheet_edges ls)) k) refl

-- ---- what the call leaves

-- a table at the front of its buffer
pub sets_buffer : {A : Type 0} (buffer table : List A) → length table ≤ length buffer → sets buffer 0 table ≡ table ++ drop (length table) buffer
sets_buffer buffer table h =
    let same : 0 + length table ≡ length table = omega arith in
    sets-eq table buffer 0 (omega arith) ∙ ap (λ n. table ++ drop n buffer) same

-- a refusal leaves both buffers
pub refusal_left : {a : Answer (List SheetLine)} {reason : Reason} (nodes edges : List ℤ) → a ≡ refused (refusal_of reason)
    → SheetMade a nodes nodes edges edges (Err reason)
unfolding lengths_of table_in buffer_after
refusal_left nodes edges e = rw (e) record { answer = refl; nodes = refl; edges = refl }

-- both tables stand at the front of their buffers
pub tables_left : {a : Answer (List SheetLine)} {ls : List SheetLine} {nodes₀ nodes₁ edges₀ edges₁ : List ℤ} {size : SheetSizes} → a ≡ full ls
    → size.nodes ≡ length (sheet_nodes ls) → size.edges ≡ length (sheet_edges ls)
    → length (sheet_nodes ls) ≤ length nodes₀ → length (sheet_edges ls) ≤ length edges₀
    → nodes₁ ≡ sets nodes₀ 0 (sheet_nodes ls) → edges₁ ≡ sets edges₀ 0 (sheet_edges ls) → SheetMade a nodes₀ nodes₁ edges₀ edges₁ (Ok size)
unfolding lengths_of table_in buffer_after
tables_left {ls = ls} {nodes₀} {edges₀ = edges₀} e n m h k nodes edges =
    rw (e) record { answer = cc; nodes = nodes ∙ sets_buffer nodes₀ (sheet_nodes ls) h; edges = edges ∙ sets_buffer edges₀ (sheet_edges ls) k }
