-- The refusals of what list, walk and batch are asked for, and the bitmapping list in a work buffer. Assumes nothing.
use Rattle.std.specs.Prelude.{Result}
use Rattle.std.specs.Prelude.{◌≡◌, List, ℕ, ◌*◌, ℤ, length, take}
use Rattle.std.proofs.Math.Option.{Option}
use Rattle.model.specs.declared.WalkKind.{WalkKind}
use Rattle.model.specs.Limits.{record_width}
use Rattle.model.specs.Graph.{graph_of}
use Rattle.model.specs.Runs.{list_of}
use Rattle.model.specs.Refusals.{Refusal}
use Rattle.model.specs.Checks.{◌then◌, check_graph, check_named}
use Rattle.model.specs.Calls.{full, answer, numbers_of}
use Rattle.model.specs.Answers.{written_answer}
use Rattle.model.specs.declared.Reason.{Reason}

-- the refusals of list, walk and batch that are about the graph, the root and the leaf
unfoldable pub check_asked : List ℤ → List ℤ → ℤ → ℤ → Option Refusal
check_asked ns es root leaf = check_graph 0 ns es then check_named (graph_of ns es) root leaf

-- the bitmapping list of a root and a leaf for walks of this kind was asked for
pub record ListedAsked (kind : WalkKind) (ns es : List ℤ) (root leaf : ℤ) (given : Result ℕ Reason) (work : List ℤ) : Type 0 where
  -- how many records it has, or a refusal
  pub answers : written_answer given ≡ answer (check_asked ns es root leaf) (length (list_of kind (graph_of ns es) root leaf))
  -- where it is given, its numbers stand in the front of the work buffer
  pub numbers : (n : ℕ) → written_answer given ≡ full n → take (record_width * n) work ≡ numbers_of (list_of kind (graph_of ns es) root leaf)
