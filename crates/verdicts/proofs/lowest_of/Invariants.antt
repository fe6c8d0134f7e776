-- The invariant: the lowest candidate is the lowest of the one found before and the candidates from record i on. The measure is what is left
-- of the specification's list.
use mathlib.Core.Path.{◌≡◌}
use Prim.Native.Nat.{◌-◌}
use Rattle.normalisation.specs.Records.{records_of, records_from}
use Rattle.verdicts.specs.OnePass.{candidates, lowest_from, lowest_candidate}
use Rattle.verdicts.proofs.lowest_of.Given as goal

abbrev pub invariant-loop-least : goal.invariant-loop-least
invariant-loop-least l =
    lowest_candidate (records_of l.spec l.ns) (records_of l.imp l.ni) ≡ lowest_from l.least.0 (candidates (records_from l.spec l.i l.ns) (records_from l.imp l.i l.ni))

abbrev pub decreases-loop-least : goal.decreases-loop-least
decreases-loop-least l = l.ns - l.i
