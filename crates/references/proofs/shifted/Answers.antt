-- The run is shifted.
use mathlib.Core.Path.{◌≡◌, refl}
use lib.IntN.{ℤ}
use Rattle.model.specs.Runs.{Run, shift}
use Rattle.references.specs.References.{Reference, shifted}
use Rattle.references.proofs.shifted.Goals as goal

-- the reference with a run that is shifted
shifted-run : (o : ℤ) (f : Reference) {r : Run} → r ≡ shift o f.run → ◌≡◌ {A = Reference} (record { owner = f.owner; run = r }) (shifted o f)
shifted-run o f e = rw e refl

pub returns : goal.returns
returns c = shifted-run _ _ c.shift.ensures.result_value
