-- What is found of a group, as four numbers of a flat list. Assumes nothing.
use Rattle.std.specs.Prelude.{◌≡◌, List, ℕ, ◌+◌, ◌*◌, ◌≤◌, ℤ, pos, length, get_or, set}
use Rattle.model.specs.Answers.{verdict_number}
use Rattle.totals.specs.declared.Found.{Found}

-- numbers that are held of a group
abbrev pub held_width : ℕ
held_width = 4

-- the list with what is found of a group: the number of the verdict, the lengths of the two lists, and the lowest address
abbrev pub held_with : List ℤ → ℕ → Found → List ℤ
held_with t group r =
    set (set (set (set t (held_width * group) (pos (verdict_number r.verdict))) (held_width * group + 1) (pos r.lengths.spec))
    (held_width * group + 2) (pos r.lengths.implementation)) (held_width * group + 3) r.address

-- the four numbers of a group are what is found of it
pub record HeldAt (t : List ℤ) (group : ℕ) (r : Found) : Type 0 where
  pub verdict : get_or t (held_width * group) (pos 0) ≡ pos (verdict_number r.verdict)
  pub spec : get_or t (held_width * group + 1) (pos 0) ≡ pos r.lengths.spec
  pub impl : get_or t (held_width * group + 2) (pos 0) ≡ pos r.lengths.implementation
  pub address : get_or t (held_width * group + 3) (pos 0) ≡ r.address

-- something is held of a group
pub record Held (t : List ℤ) (group : ℕ) : Type 0 where
  pub there : held_width * group + held_width ≤ length t
  pub found : Found
  pub at : HeldAt t group found
