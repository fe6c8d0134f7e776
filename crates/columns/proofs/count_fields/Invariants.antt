use Prim.Native.Nat.{◌-◌}
use lib.ListN.{length}
use Rattle.columns.proofs.Names.{FieldsLeft}
use Rattle.columns.proofs.count_fields.Given as goal

-- Invariant: the fields that are counted and those that begin at a space at `end` are all. The measure is what is left of the length.
abbrev pub invariant-loop-fields : goal.invariant-loop-fields
invariant-loop-fields l = FieldsLeft l.text l.from.at l.fields l.end

abbrev pub decreases-loop-fields : goal.decreases-loop-fields
decreases-loop-fields l = length l.text - l.end
