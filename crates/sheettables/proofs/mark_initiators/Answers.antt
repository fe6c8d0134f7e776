-- The next line marks one initiator more.
use mathlib.Core.Path.{refl, sym}
use Rattle.sheettables.specs.Parts.{marked}
use Rattle.sheettables.proofs.Passes.{marked_more}
use Rattle.sheettables.proofs.mark_initiators.Goals as goal

pub loop-k-init : goal.loop-k-init
unfolding marked
loop-k-init c = refl

pub loop-k-preserved : goal.loop-k-preserved
loop-k-preserved c =
    rw (c.number_at.ensures, c.loop-k.invariant) (sym (marked_more c.args.lines.now c.args.spaces.now c.loop-k.k))
