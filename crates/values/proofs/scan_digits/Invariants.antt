-- Invariant: the bytes from this one on, behind digits that write `value`, give what the whole field gives.
use mathlib.Core.Path.{◌≡◌}
use Prim.Native.Nat.{◌^◌, ◌<◌}
use lib.ListN.{drop}
use Rattle.values.specs.Given.{scanned}
use Rattle.values.proofs.scan_digits.Given as goal

abbrev pub invariant-loop-b : goal.invariant-loop-b
invariant-loop-b l = (l.value < 10 ^ l.b-index) × (scanned 0 l.field ≡ scanned l.value (drop l.b-index l.field))
