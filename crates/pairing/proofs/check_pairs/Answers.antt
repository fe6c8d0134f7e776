-- The marks are as many as nodes may be, and none is set.
use Rattle.model.specs.Limits.{max_nodes}
use Rattle.pairing.proofs.Marks.{unmarked_zeros}
use Rattle.pairing.proofs.check_pairs.Goals as goal

pub check_unmarked-requires : goal.check_unmarked-requires
check_unmarked-requires c = (unmarked_zeros max_nodes c.requires.0, unmarked_zeros max_nodes c.requires.1)
