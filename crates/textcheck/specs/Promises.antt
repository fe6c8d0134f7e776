-- What a call that checks a text promises. Assumes nothing.
use Rattle.std.specs.Prelude.{◌≡◌, [], ◌∷◌, ◌++◌, ℕ, length, drop}
use Rattle.model.specs.Bytes.{Bytes, line_feed}
use Rattle.model.specs.Compare.{Tables, findings, result_of}
use Rattle.model.specs.Refusals.{NoneHolds}
use Rattle.model.specs.Calls.{Answer, full}
use Rattle.model.specs.MapFile.{feeds}
use Rattle.model.specs.FileRules.{KeepsRules}
use Rattle.model.specs.Report.{report, result_line}
use Rattle.model.specs.TextCheck.{report_conditions, text_gives, text_after}
use Rattle.model.specs.Demands.{Demand3, PartialByWalks}

-- the last line of the whole is this one: it begins behind a line feed, ends with one, and has no other
pub record LastLine (whole line : Bytes) : Type 0 where
  pub upper : Bytes
  pub words : Bytes
  pub begins : whole ≡ upper ++ line_feed ∷ line
  pub ends : line ≡ words ++ (line_feed ∷ [])
  pub single : feeds words ≡ 0

-- the buffer holds the report of exactly these tables, past it what it held before; demand 3 holds of the result that the report's last line
-- states; and of each pair partial says what it says by walks
pub record ReportHeld (t : Tables) (before after : Bytes) : Type 0 where
  pub stands : after ≡ report (findings t) ++ drop (length (report (findings t))) before
  pub last_line : LastLine (report (findings t)) (result_line (result_of (findings t)))
  pub demand3 : Demand3 t (result_of (findings t))
  pub partial : PartialByWalks t

-- the answer as it is
abbrev pub as_it_is : Answer ℕ → Answer ℕ
as_it_is a = a

-- what was handed back, the answer in the form that the call has for it, and the buffer afterwards are those defined. And for every text that keeps
-- the file rules, and whose tables and report meet no condition, the answer is the length of that report, and the buffer holds it. (A text that
-- keeps the file rules meets none of 12 to 14: Tables.rules-conditions of crate filerules)
pub record TextPromise {A : Type 0} (form : Answer ℕ → A) (text before after : Bytes) (given : A) : Type 0 where
  pub answer : given ≡ form (text_gives text before)
  pub buffer : after ≡ text_after text before
  pub demand : (t : Tables) → KeepsRules text t → NoneHolds (report_conditions (length before) t)
      → (given ≡ form (full (length (report (findings t))))) × ReportHeld t before after
