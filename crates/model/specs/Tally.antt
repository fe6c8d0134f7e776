-- The tally (document 02, item 2): what the check of a caller answers, and the record of counts after one check and after a list of checks. Assumes nothing.
use Rattle.std.specs.Prelude.{cond, List, [], ◌∷◌, map, ℕ, suc, ◌+◌, ◌*◌, ltb, ℤ, pos, negsuc, ◌≤ℤ◌, ◌<ℤ◌, length, get_or, set, replicate}
use Rattle.std.proofs.Math.Option.{Option, none, some}
use Rattle.integers.specs.Integers.{eq_z}
use Rattle.lists.specs.Lists.{keep}
use Rattle.model.specs.Limits.{callers, count_kinds, count_ceiling}
use Rattle.model.specs.Bytes.{Bytes}
use Rattle.model.specs.Compare.{Tables, count}
use Rattle.model.specs.Refusals.{Condition, refuse, ◌next◌}
use Rattle.model.specs.Calls.{Answer, refused, full, length_of, buffer_after}
use Rattle.model.specs.TextCheck.{Reported, text_answer, report_of, text_conditions}

-- a check: the number of its caller, the text, and the report buffer that is lent
pub record Check : Type 0 where
  pub caller : ℤ
  pub text : Bytes
  pub report : Bytes

-- ---- 15: a caller number outside 0..15, before any other check

-- the number of a caller, 0..15: there are sixteen
pub record Caller (number : ℤ) : Type 0 where
  pub low : pos 0 ≤ℤ number
  pub high : number <ℤ pos callers

-- the conditions of a check, in order: the caller, then those of the text check. t are the tables of the text (FileRules.TablesOf)
unfoldable pub tally_conditions : Check → Tables → List Condition
tally_conditions c t = refuse 15 7 0 (Caller c.caller → ⊥) next text_conditions (length c.report) c.text t

-- the caller that has this number, or none: it lies outside 0..15
unfoldable pub caller_of : ℤ → Option ℕ
caller_of (pos k) = cond (ltb k callers) (some k) none
caller_of (negsuc k) = none

-- the answer to a caller is a, that of the text check; a number outside 0..15 is refused with 15
unfoldable pub answer_to : Option ℕ → Answer Reported → Answer Reported
answer_to none a = refused (record { number = 15; table = 7; row = 0 })
answer_to (some k) a = a

-- the answer of a check
unfoldable pub tally_answer : Check → Answer Reported
tally_answer c = answer_to (caller_of c.caller) (text_answer (length c.report) c.text)

-- what the call returns: the report's length
unfoldable pub tally_gives : Check → Answer ℕ
tally_gives c = length_of (report_of (tally_answer c))

-- what the report buffer holds after a check (the counts: counts_after)
unfoldable pub tally_after : Check → Bytes
tally_after c = buffer_after (report_of (tally_answer c)) c.report

-- ---- the record: sixteen rows of four counts, equal, partial, different and refused

-- how an answer ended: by its whole verdict, 0 equal, 1 partial, 2 different; or 3 refused
unfoldable pub ending_of : Answer Reported → ℕ
ending_of (full r) = r.verdict
ending_of (refused r) = 3

-- how a check ended
abbrev pub ending : Check → ℕ
ending c = ending_of (tally_answer c)

-- the place of a count: the row of caller k, and in it the count of ending v
abbrev pub count_place : ℕ → ℕ → ℕ
count_place k v = count_kinds * k + v

-- the count that caller k has for ending v
abbrev pub count_at : ℕ → ℕ → List ℕ → ℕ
count_at k v counts = get_or counts (count_place k v) 0

-- one more at a place; a count at or above 2^63 − 1 stays (document 01)
unfoldable pub one_more : ℕ → List ℕ → List ℕ
one_more i counts = cond (ltb (get_or counts i 0) count_ceiling) (set counts i (suc (get_or counts i 0))) counts

-- one more at the count that a caller has for an ending; for a number outside 0..15 the record stays
abbrev pub one_more_for : Option ℕ → ℕ → List ℕ → List ℕ
one_more_for none v counts = counts
one_more_for (some k) v counts = one_more (count_place k v) counts

-- the record after a check
unfoldable pub counts_after : Check → List ℕ → List ℕ
counts_after c counts = one_more_for (caller_of c.caller) (ending c) counts

-- the fresh tally
abbrev pub fresh_tally : List ℕ
fresh_tally = replicate (count_kinds * callers) 0

-- the record after a list of checks, one after the other
unfoldable pub counts_after_all : List Check → List ℕ → List ℕ
counts_after_all [] counts = counts
counts_after_all (c ∷ cs) counts = counts_after_all cs (counts_after c counts)

-- ---- the number of checks, counted in the list: no record of counts stands here

-- the checks of a list that are caller k's
unfoldable pub checks_of : ℕ → List Check → List Check
checks_of k cs = keep (λ c. eq_z c.caller (pos k)) cs

-- the number of caller k's checks of a list that ended with v
unfoldable pub ended : ℕ → ℕ → List Check → ℕ
ended k v cs = count v (map ending (checks_of k cs))
