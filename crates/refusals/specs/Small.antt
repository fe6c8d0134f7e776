-- Refusals by their numbers, and the range of those that the text check and the reader of sheets give: small enough to be printed and to be coded as one number. Assumes
-- nothing.
use Rattle.std.specs.Prelude.{◌≢◌, ℕ, ◌≤◌, ◌<◌}
use Rattle.std.proofs.Math.Option.{Option, none, some}
use Rattle.model.specs.Refusals as model
use Rattle.model.specs.Calls.{Answer, refused, full}
use Rattle.refusals.specs.declared.Refusal.{Refusal}

-- a refusal that the code holds
abbrev pub refusal_numbers : Refusal → model.Refusal
refusal_numbers r = record { number = r.number; table = r.table; row = r.row }

-- the highest number of a refusal, of one that the reader of sheets gives, and of one that the text check gives
abbrev pub last_number : ℕ
last_number = 19

abbrev pub last_of_sheet : ℕ
last_of_sheet = 18

abbrev pub last_of_text : ℕ
last_of_text = 16

-- the number is one of 1 to `last` and not 15, which is about a caller, the table one of eight, and the row has at most seven digits
pub record SmallRefusal (last : ℕ) (r : model.Refusal) : Type 0 where
  pub least : 1 ≤ r.number
  pub number : r.number ≤ last
  pub no_caller : r.number ≢ 15
  pub table : r.table < 8
  pub row : r.row < 10000000

-- the refusal of a check, if there is one, is small
abbrev pub SmallCheck : ℕ → Option model.Refusal → Type 0
SmallCheck last none = Unit {0}
SmallCheck last (some r) = SmallRefusal last r

-- the refusal of an answer, if it is one, is small
abbrev pub SmallAnswer : {A : Type 0} → ℕ → Answer A → Type 0
SmallAnswer last (refused r) = SmallRefusal last r
SmallAnswer last (full x) = Unit {0}
