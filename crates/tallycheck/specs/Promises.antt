-- What the check of a caller promises. Assumes nothing.
use Rattle.std.specs.Prelude.{◌≡◌, List, ℕ}
use Rattle.model.specs.Bytes.{Bytes}
use Rattle.model.specs.Calls.{Answer, refused}
use Rattle.model.specs.Answers.{numbered}
use Rattle.model.specs.Tally.{Check, Caller, tally_gives, tally_after, counts_after}
use Rattle.textcheck.specs.Promises.{as_it_is, TextPromise}

-- The check c, with these counts lent, has handed back `given` and the counts `counted`, and the report buffer holds `report` afterwards.

-- refused with 15; the buffer and every count as they were
pub record OutsideAnswered (c : Check) (counts : List ℕ) (report : Bytes) (given : Answer ℕ) (counted : List ℕ) : Type 0 where
  pub answer : given ≡ refused (numbered 15 7 0)
  pub buffer : report ≡ c.report
  pub tally : counted ≡ counts

-- answer, buffer and all counts are those defined. A caller is promised what the text check promises, demand 3 too; a number outside 0..15 is
-- refused, and nothing moves
pub record TallyPromise (c : Check) (counts : List ℕ) (report : Bytes) (given : Answer ℕ) (counted : List ℕ) : Type 0 where
  pub answer : given ≡ tally_gives c
  pub buffer : report ≡ tally_after c
  pub tally : counted ≡ counts_after c counts
  pub caller : Caller c.caller → TextPromise as_it_is c.text c.report report given
  pub outside : (Caller c.caller → ⊥) → OutsideAnswered c counts report given counted
