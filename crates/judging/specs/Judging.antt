-- Two normal lists and their rows by displacement, three numbers a row: displacement, first, last. Assumes nothing.
use Rattle.std.specs.Prelude.{◌≡◌, Bool, true, List, ℕ, ◌*◌, ◌≤◌, length, ℤ}
use Rattle.model.specs.Bitmapping.{Record}
use Rattle.model.specs.Verdicts.{verdict, lowest}
use Rattle.model.specs.Answers.{verdict_number}
use Rattle.sorting.specs.Rows.{row_width}
use Rattle.normalisation.specs.Merging.{displaced_of, sorted_by_displacement}
use Rattle.normalisation.specs.Records.{IsNormal}
use Rattle.verdicts.specs.Records.{AllSmallRootBits}
use Rattle.judging.specs.declared.Judged.{Judged}

-- P holds of every two normal lists whose rows by displacement, sorted, the first na rows of the flat list a and the first nb rows of b are
abbrev pub OfLists : List ℤ → ℕ → List ℤ → ℕ → (List Record → List Record → Type 0) → Type 0
OfLists a na b nb P =
    (l m : List Record) → IsNormal l → IsNormal m → displaced_of a na ≡ sorted_by_displacement l → displaced_of b nb ≡ sorted_by_displacement m → P l m

-- n rows by displacement stand in the front of the flat list t, and their records have small root bits
pub record SmallRows (t : List ℤ) (n : ℕ) : Type 0 where
  pub within : row_width * n ≤ length t
  pub small : AllSmallRootBits (displaced_of t n)

-- what is judged of two lists: the verdict and, where it is asked for, the lowest address at which they differ, −1 where they differ nowhere
pub record IsJudged (spec impl : List Record) (asked : Bool) (r : Judged) : Type 0 where
  pub verdict : verdict_number r.verdict ≡ verdict spec impl
  pub address : asked ≡ true → r.address ≡ lowest spec impl
