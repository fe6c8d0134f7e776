-- The rows of the leaf are appended and raised: with one more bank, what is reached in it is added.
use Rattle.groups.proofs.Gathering.{leaf_raisable, gathering-more}
use Rattle.groups.proofs.append_bank.Goals as goal

pub raise_rows-requires : goal.raise_rows-requires
raise_rows-requires c =
    let (o, small) = c.requires in
    leaf_raisable o o.state (c.append_rows-end.ensures o.kind o.root o.state) small

pub returns : goal.returns
returns c kind root banks w =
    let (o, small) = c.requires in
    gathering-more o w.state (c.append_rows-end.ensures kind root w.state) small w c.raise_rows.ensures
