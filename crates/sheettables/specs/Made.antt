-- What the call that makes the two tables of a sheet gives, and what it starts from once the lines are few. Assumes nothing.
use Rattle.std.specs.Prelude.{Result}
use Rattle.std.specs.Prelude.{◌≡◌, cond, ℕ, ◌≤◌, ◌<◌, ℤ, pos, length, get_or}
use mathlib.Core.List.{List, [], ◌∷◌, flat_map}
use Rattle.integers.specs.Integers.{eq_z}
use Rattle.model.specs.Limits.{max_edges, sheet_numbers, sheet_bytes}
use Rattle.model.specs.Calls.{Answer, buffer_after}
use Rattle.model.specs.Sheet.{SheetLine, GoodSheet, sheet_nodes, sheet_edges}
use Rattle.model.specs.SheetCall.{lengths_of, table_in}
use Rattle.model.specs.Answers.{sheet_read_answer}
use Rattle.sheettables.specs.Kept.{line_numbers, Sized}
use Rattle.model.specs.declared.SheetSizes.{SheetSizes}
use Rattle.model.specs.declared.Reason.{Reason}

-- what the call returns for an answer, and what its buffers hold afterwards
pub record SheetMade (a : Answer (List SheetLine)) (nodes₀ nodes₁ edges₀ edges₁ : List ℤ) (r : Result SheetSizes Reason) : Type 0 where
  pub answer : sheet_read_answer r ≡ lengths_of a
  pub nodes : nodes₁ ≡ buffer_after (table_in sheet_nodes a) nodes₀
  pub edges : edges₁ ≡ buffer_after (table_in sheet_edges a) edges₀

-- the space of initiator n in bytes: 0 where no line has it
unfoldable pub space_of : List SheetLine → ℤ → ℤ
space_of [] n = pos 0
space_of (s ∷ ls) n = let later = space_of ls n in cond (eq_z s.initiator n) (pos sheet_bytes) later

-- the space of each initiator by its number, and 0 for a number that no line has
pub record Spaced (ls : List SheetLine) (spaces : List ℤ) : Type 0 where
  pub whole : length spaces ≡ sheet_numbers
  pub space : (n : ℕ) → n < sheet_numbers → get_or spaces n (pos 0) ≡ space_of ls (pos n)

-- all lines of a good sheet, no more than a graph may have edges, with the ranges of its nodes
pub record Tabled (ls : List SheetLine) (numbers areas ranges : List ℤ) : Type 0 where
  pub good : GoodSheet ls
  pub few : length ls ≤ max_edges
  pub lines : numbers ≡ flat_map line_numbers ls
  pub spaces : Spaced ls areas
  pub sizes : Sized ls ranges
