-- What is copied into a lent buffer. Assumes nothing.
use Rattle.std.specs.Prelude.{Result}
use Rattle.std.specs.Prelude.{◌≡◌, List, ℕ, ◌+◌, ◌*◌, ℤ, pos, length, get_or}
use Rattle.model.specs.Checks.{check_output}
use Rattle.model.specs.Calls.{answer, buffer_after}
use Rattle.model.specs.Answers.{written_answer}
use Rattle.reach.specs.Counting.{values_of}
use Rattle.model.specs.declared.Reason.{Reason}

-- n numbers of a list: that at `first`, and each `step` behind the one before
abbrev pub spaced : List ℤ → ℕ → ℕ → ℕ → List ℤ
spaced from first step n = values_of (λ k. get_or from (first + step * k) (pos 0)) n

-- numbers copied to the front of a buffer that held `old`, with `count` as the answer, or refused where they do not fit
pub record Copied (numbers : List ℤ) (count : ℕ) (old : List ℤ) (given : Result ℕ Reason) (new : List ℤ) : Type 0 where
  pub answers : written_answer given ≡ answer (check_output (length numbers) (length old)) count
  pub buffer : new ≡ buffer_after (answer (check_output (length numbers) (length old)) numbers) old
