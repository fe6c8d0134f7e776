-- The rows of the banks are normalised together; where there is none the list is empty.
use Rattle.arrivals.proofs.Swept.{swept_free}
use Rattle.groups.proofs.Joining.{gathered_normalisable, group_answered, normalised_none}
use Rattle.groups.proofs.join_banks.Goals as goal

pub free_row-first-requires : goal.free_row-first-requires
free_row-first-requires c = swept_free c.requires.gathering.state

pub returns-then-n-first : goal.returns-then-n-first
returns-then-n-first c kind ns es plan root banks w = group_answered w c.free_row-first.ensures (normalised_none c.if-n-first.true)

pub normalise_between-requires : goal.normalise_between-requires
normalise_between-requires c =
    let o = c.requires in
    gathered_normalisable o.gathering c.free_row-first.ensures o.spare_room

pub returns : goal.returns
returns c kind ns es plan root banks w =
    group_answered w c.free_row-first.ensures c.normalise_between.ensures
