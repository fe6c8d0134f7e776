-- n is the length of the first i fields.
use mathlib.Core.Path.{◌≡◌}
use Prim.Native.Nat.{◌*◌, ◌≤◌}
use lib.ListN.{length}
use Rattle.report.proofs.Lines.{fields}
use Rattle.report.proofs.numbers_length.Given as goal

abbrev pub invariant-loop-i : goal.invariant-loop-i
invariant-loop-i l = (l.n ≡ length (fields l.i l.vs)) × (l.n ≤ 22 * l.i)
