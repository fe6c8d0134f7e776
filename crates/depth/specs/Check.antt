-- What the check of one graph leaves, beside its answer, in the buffer for the order of the edges. Assumes nothing.
use Rattle.std.specs.Prelude.{Result}
use Rattle.std.specs.Prelude.{◌≡◌, List, ℕ, ℤ}
use Rattle.std.proofs.Math.Option.{Option, none, some}
use Rattle.model.specs.Refusals.{Refusal}
use Rattle.model.specs.Checks.{check_graph}
use Rattle.model.specs.Calls.{answer}
use Rattle.model.specs.Answers.{checked_answer}
use Rattle.tables.specs.Tables.{check_rows}
use Rattle.depth.specs.Passes.{order_of}
use Rattle.model.specs.declared.Reason.{Reason}

-- the buffer by what the checks of the rows give: untouched where they refuse, else the edges in order
unfoldable pub order_unless : Option Refusal → List ℤ → List ℕ → List ℕ
order_unless (some r) es buffer = buffer
order_unless none es buffer = order_of es buffer

-- the buffer after the check of the graph whose node table is t
unfoldable pub order_after : ℕ → List ℤ → List ℤ → List ℕ → List ℕ
order_after t ns es buffer = order_unless (check_rows t ns es) es buffer

-- what the check of the graph whose node table is t gives: its answer, and the buffer
pub record GraphChecked (t : ℕ) (ns es : List ℤ) (buffer : List ℕ) (given : Result (Unit {0}) Reason) (buffer' : List ℕ) : Type 0 where
  pub answers : checked_answer given ≡ answer (check_graph t ns es) tt
  pub order : buffer' ≡ order_after t ns es buffer
