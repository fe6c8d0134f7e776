-- The part of the state from the first row on is lent, and put back normalised.
use Rattle.arrivals.proofs.Making.{part_mergeable, part_normalised}
use Rattle.arrivals.proofs.normalise_between.Goals as goal

pub normalise_rows-requires : goal.normalise_rows-requires
normalise_rows-requires c = part_mergeable c.requires

pub returns : goal.returns
returns c =
    let e = c.normalise_rows.ensures in
    part_normalised c.requires c.normalise_rows.new.list c.normalise_rows.result e.list_len_unchanged.0 e.value e.result_after
