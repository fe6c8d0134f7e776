-- Below the ceiling one more is stored.
use mathlib.Core.Path.{refl, ap}
use native.Mathlib.Numerals.{add-one}
use borrow.Author.Tests.{lt-ltb, le-ltb}
use lib.ListN.{get_or, set}
use Rattle.model.specs.Limits.{count_ceiling}
use Rattle.model.specs.Tally.{count_place, one_more}
use Rattle.tally.specs.Endings.{ending_place}
use Rattle.tally.proofs.one_more.Goals as goal

pub returns-then-count-lt-COUNT_CEILING : goal.returns-then-count-lt-COUNT_CEILING
unfolding one_more
returns-then-count-lt-COUNT_CEILING c =
    let counts = c.args.tally.counts in
    let place = count_place c.args.caller (ending_place c.args.ending) in
    rw (c.place.ensures, lt-ltb (get_or counts place 0) count_ceiling (rw c.place.ensures at c.if-count-lt-COUNT_CEILING.true)) (ap (set counts place) (add-one (get_or counts place 0)))

pub returns-else-count-lt-COUNT_CEILING : goal.returns-else-count-lt-COUNT_CEILING
unfolding one_more
returns-else-count-lt-COUNT_CEILING c =
    let place = count_place c.args.caller (ending_place c.args.ending) in
    rw (le-ltb (get_or c.args.tally.counts place 0) count_ceiling (rw c.place.ensures at c.if-count-lt-COUNT_CEILING.false)) refl
