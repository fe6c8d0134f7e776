-- Invariant: the field that starts at `at` ends where the one that starts at `end` does.
use mathlib.Core.Path.{◌≡◌}
use Prim.Native.Nat.{◌+◌}
use lib.ListN.{length, drop}
use Rattle.cursor.specs.Parts.{first_field}
use Rattle.cursor.proofs.field_end.Given as goal

abbrev pub invariant-loop-end : goal.invariant-loop-end
invariant-loop-end l = l.end + length (first_field (drop l.end l.text)) ≡ l.at + length (first_field (drop l.at l.text))
