-- The stored row is the one appended.
use Rattle.listing.proofs.Appending.{append_one}
use Rattle.listing.proofs.append_row.Goals as goal

pub returns : goal.returns
returns c = append_one _ _ _ _ c.put_row.ensures
