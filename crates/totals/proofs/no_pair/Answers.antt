-- No finding has a line, and none is unequal.
use mathlib.Core.Path.{refl}
use mathlib.Core.List.{flat_map}
use native.Mathlib.Omega.{arith}
use Rattle.model.specs.Compare.{count, largest, first_unequal, place_of, result_of}
use Rattle.reporting.specs.Lines.{lines_of}
use Rattle.totals.proofs.no_pair.Goals as goal

pub returns : goal.returns
unfolding result_of count largest first_unequal place_of flat_map lines_of
returns c lines = record { result = refl; count = omega arith; bytes = refl; held = λ h. refl }
