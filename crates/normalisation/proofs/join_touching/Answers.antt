use mathlib.Core.Path.{◌≡◌, sym, ap, ◌∙◌}
use native.Mathlib.Omega.{arith}
use Rattle.sorting.specs.declared.Row.{Row}
use Rattle.sorting.specs.Rows.{row_at}
use Rattle.model.specs.Runs.{touch}
use Rattle.normalisation.specs.Merging.{of_displacement}
use Rattle.normalisation.proofs.Turns.{row_small, apart_pass, pass_next, pass_joined, pass_apart, pass_count, pass_end}
use Rattle.normalisation.proofs.join_touching.Goals.{After-row_at-next, After-touches}
use Rattle.normalisation.proofs.join_touching.Goals.{then-touches, else-touches}
use Rattle.normalisation.proofs.join_touching.Goals as goal

-- the next row is as it was at the start
next : (c : After-row_at-next) → c.row_at-next.result ≡ row_at c.args.t.now c.loop-i.i
next c = c.row_at-next.ensures ∙ pass_next c.loop-i.invariant

-- what the test of touch says
test : (c : After-touches) → touch (of_displacement c.loop-i.current) (of_displacement (row_at c.args.t.now c.loop-i.i)) ≡ c.touches.result
test c =
    let current = c.loop-i.current in
    sym (c.touches.ensures ∙ ap (λ (r : Row). touch (of_displacement current) (of_displacement r)) (next (goal.at.After-touches c).After-row_at-next))

pub loop-i-init : goal.loop-i-init
loop-i-init c = rw c.row_at-current.ensures (apart_pass c.requires.1 c.requires.0 c.requires.2)

pub touches-requires : goal.touches-requires
touches-requires c =
    (c.loop-i.invariant.small, rw (next c) (row_small _ _ _ c.loop-i-test.true c.requires.2))

pub loop-i-preserved : goal.loop-i-preserved
loop-i-preserved c =
    let same = test (goal.at.loop-i-preserved c).After-touches in
    let read = next (goal.at.loop-i-preserved c).After-row_at-next in
    elim c.if-touches.branch [
      | then-touches w ↦
          rw (w.current-is, w.done-is, w.t-is, w.hull_of-current.ensures, read)
          (pass_joined c.loop-i.invariant c.loop-i-test.true c.requires.2 (same ∙ w.if-touches.true))
      | else-touches w ↦
          rw (w.current-is, w.done-is, w.t-is, w.put_row.ensures, read)
          (pass_apart c.loop-i.invariant c.loop-i-test.true c.requires.2 (same ∙ w.if-touches.false))
    ]

pub returns : goal.returns
returns c = record {
  value = pass_count c.loop-i.invariant (omega arith);
  t_after = rw c.put_row-2.ensures (pass_end c.loop-i.invariant (omega arith));
}
