use mathlib.Core.Path.{◌≡◌, sym, ap₂, ◌∙◌}
use Prim.Native.Nat.{◌+◌, ◌-◌}
use native.Mathlib.Omega.{arith}
use Rattle.sorting.specs.declared.Row.{Row}
use Rattle.sorting.specs.Rows.{row_at}
use Rattle.model.specs.Runs.{touch}
use Rattle.normalisation.specs.Merging.{of_displacement}
use Rattle.normalisation.proofs.Turns.{row_small, apart-start, apart_more}
use Rattle.normalisation.proofs.rows_apart.Goals.{After-touches}
use Rattle.normalisation.proofs.rows_apart.Goals as goal

-- what the test of touch says
test : (c : After-touches) → touch (of_displacement (row_at c.args.t.now c.loop-i.i)) (of_displacement (row_at c.args.t.now (c.loop-i.i + 1))) ≡ c.touches.result
test c =
    sym (c.touches.ensures
    ∙ ap₂ (λ (r s : Row). touch (of_displacement r) (of_displacement s)) c.loop-i.invariant.0 c.row_at-next.ensures)

pub loop-i-init : goal.loop-i-init
loop-i-init c = (c.row_at-current.ensures, apart-start _ _ c.requires.0)

pub touches-requires : goal.touches-requires
touches-requires c = (
  rw c.loop-i.invariant.0 (row_small _ _ _ c.loop-i.invariant.1.inside c.requires.2),
  rw c.row_at-next.ensures (row_small _ _ _ (omega arith) c.requires.2),
)

pub returns-then-touches : goal.returns-then-touches
returns-then-touches c = c.loop-i.invariant.1

pub loop-i-preserved : goal.loop-i-preserved
loop-i-preserved c =
    (c.row_at-next.ensures, apart_more c.loop-i.invariant.1 (omega arith) (test (goal.at.loop-i-preserved c).After-touches ∙ c.if-touches.false))

pub returns : goal.returns
returns c =
    let last : c.loop-i.i ≡ c.args.n - 1 = omega arith in
    rw last at c.loop-i.invariant.1
