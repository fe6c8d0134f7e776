-- What the call that reads a sheet promises. Assumes nothing.
use Rattle.std.specs.Prelude.{Result}
use Rattle.std.specs.Prelude.{◌≡◌, List, ◌++◌, ℤ, length, drop}
use Rattle.model.specs.Bytes.{Bytes}
use Rattle.model.specs.Refusals.{NoneHolds}
use Rattle.model.specs.Calls.{full, check_answer}
use Rattle.model.specs.Sheet.{SheetLine, sheet_nodes, sheet_edges, sheet_graph, AsGiven}
use Rattle.model.specs.SheetFile.{KeepsSheet}
use Rattle.model.specs.SheetCall.{made_conditions, sheet_gives, sheet_nodes_after, sheet_edges_after}
use Rattle.model.specs.Answers.{sheet_read_answer}
use Rattle.model.specs.declared.SheetSizes.{SheetSizes}
use Rattle.model.specs.declared.Reason.{Reason}

-- the buffers hold the two tables that the lines make, past them what they held before, and the answer is how long the tables are. The check of one
-- graph takes them, and their graph is as a user expects: an initiator's bit reaches a block's bit exactly where some line gives the two
pub record SheetHeld (ls : List SheetLine) (nodes₀ nodes₁ edges₀ edges₁ : List ℤ) (given : Result SheetSizes Reason) : Type 0 where
  pub answer : sheet_read_answer given ≡ full (record { nodes = length (sheet_nodes ls); edges = length (sheet_edges ls) })
  pub nodes : nodes₁ ≡ sheet_nodes ls ++ drop (length (sheet_nodes ls)) nodes₀
  pub edges : edges₁ ≡ sheet_edges ls ++ drop (length (sheet_edges ls)) edges₀
  pub taken : check_answer (sheet_nodes ls) (sheet_edges ls) ≡ full tt
  pub walks : AsGiven ls (sheet_graph ls)

-- what was handed back and both buffers afterwards are those defined. And for every text that keeps the rules of a sheet, and whose tables meet no
-- condition, the buffers hold the tables of its lines. (A text that keeps the rules meets none of 12, 13, 14, 17 and 18: Sheets.sheet-conditions of
-- crate filerules. Which refusal is given, and when: SheetCall.sheet_exact of that crate)
pub record SheetPromise (text : Bytes) (nodes₀ nodes₁ edges₀ edges₁ : List ℤ) (given : Result SheetSizes Reason) : Type 0 where
  pub answer : sheet_read_answer given ≡ sheet_gives text nodes₀ edges₀
  pub nodes : nodes₁ ≡ sheet_nodes_after text nodes₀ edges₀
  pub edges : edges₁ ≡ sheet_edges_after text nodes₀ edges₀
  pub held : (ls : List SheetLine) → KeepsSheet text ls → NoneHolds (made_conditions (length nodes₀) (length edges₀) ls)
      → SheetHeld ls nodes₀ nodes₁ edges₀ edges₁ given
