-- Who asks decides what the check gives, and the record has one more where it ended.
use mathlib.Core.Path.{◌≡◌, ap, ◌∙◌}
use mir.Facts.{to_z-of_z}
use Rattle.model.specs.Tally.{Check, caller_of, tally_gives, tally_after}
use Rattle.tally.specs.Callers.{caller_named}
use Rattle.textcheck.proofs.Answers.{gives_length}
use Rattle.tallycheck.proofs.Endings.{gives_ending}
use Rattle.tallycheck.proofs.Promises.{asks_sixteen, asks_gives, asks_counts, tally_promise}
use Rattle.tallycheck.proofs.tally_check.Goals.{After-check_by-outcome}
use Rattle.tallycheck.proofs.tally_check.Goals as goal

-- the check that is asked for
abbrev check_of : After-check_by-outcome → Check
check_of k = record { caller = k.args.caller; text = k.args.text.now; report = k.args.report.now }

-- who asks is the caller of its number
named : (k : After-check_by-outcome) → caller_named k.who_asks-who.result ≡ caller_of (check_of k).caller
named k = k.who_asks-who.ensures ∙ ap caller_of (to_z-of_z k.ranges.caller)

pub counted-requires : goal.counted-requires
counted-requires c = asks_sixteen c.who_asks-who.result (check_of (goal.at.counted-requires c).After-check_by-outcome).caller (named (goal.at.counted-requires c).After-check_by-outcome)

pub returns : goal.returns
unfolding tally_gives tally_after
returns c = let counts = c.args.tally.counts in
    let gives = asks_gives (check_of (goal.at.returns c).After-check_by-outcome) (caller_named c.who_asks-who.result) (named (goal.at.returns c).After-check_by-outcome) c.check_by-outcome.ensures in
    tally_promise (check_of (goal.at.returns c).After-check_by-outcome) counts (c.written_of.ensures ∙ gives_length gives) gives.buffer
    (c.counted.ensures ∙ asks_counts (check_of (goal.at.returns c).After-check_by-outcome) counts (named (goal.at.returns c).After-check_by-outcome) (c.ending_of.ensures ∙ gives_ending gives))
