-- The invariant: the lists are the same where those from record i on are.
use mathlib.Core.Path.{◌≡◌}
use Rattle.model.specs.Verdicts.{same_list}
use Rattle.normalisation.specs.Records.{records_of, records_from}
use Rattle.verdicts.proofs.same_lists.Given as goal

abbrev pub invariant-loop-i : goal.invariant-loop-i
invariant-loop-i l = same_list (records_of l.a l.na) (records_of l.b l.nb) ≡ same_list (records_from l.a l.i l.na) (records_from l.b l.i l.na)
