use mathlib.Core.Path.{◌≡◌, sym, ap, ◌∙◌}
use native.Mathlib.Omega.{arith}
use Rattle.sorting.specs.declared.Row.{Row}
use Rattle.sorting.specs.Rows.{row_at}
use Rattle.model.specs.Runs.{touch}
use Rattle.normalisation.specs.Merging.{of_displacement}
use Rattle.normalisation.proofs.Turns.{row_small, pass_none, pass_start, pass_joined, pass_apart, pass_count, pass_end}
use Rattle.normalisation.proofs.merge_touching.Goals.{After-touches}
use Rattle.normalisation.proofs.merge_touching.Goals.{then-touches, else-touches}
use Rattle.normalisation.proofs.merge_touching.Goals as goal

-- what the test of touch says
test : (c : After-touches) → touch (of_displacement c.loop-i.current) (of_displacement (row_at c.args.t.now c.loop-i.i)) ≡ c.touches.result
test c =
    let current = c.loop-i.current in
    sym (c.touches.ensures ∙ ap (λ (r : Row). touch (of_displacement current) (of_displacement r)) c.row_at-next.ensures)

pub returns-then-n-eq0 : goal.returns-then-n-eq0
returns-then-n-eq0 c =
    let r = pass_none _ _ _ _ c.if-n-eq0.true in
    record { value = r.0; out_after = r.1 }

pub loop-i-init : goal.loop-i-init
loop-i-init c = rw c.row_at-current.ensures (pass_start _ _ _ _ (omega arith) c.requires.2)

pub touches-requires : goal.touches-requires
touches-requires c =
    (c.loop-i.invariant.small, rw c.row_at-next.ensures (row_small _ _ _ c.loop-i-test.true c.requires.2))

pub loop-i-preserved : goal.loop-i-preserved
loop-i-preserved c =
    let same = test (goal.at.loop-i-preserved c).After-touches in
    elim c.if-touches.branch [
      | then-touches w ↦
          rw (w.current-is, w.k-is, w.out-is, w.hull_of-current.ensures, c.row_at-next.ensures)
          (pass_joined c.loop-i.invariant c.loop-i-test.true c.requires.2 (same ∙ w.if-touches.true))
      | else-touches w ↦
          rw (w.current-is, w.k-is, w.out-is, w.put_row.ensures, w.by_first.ensures, c.row_at-next.ensures)
          (pass_apart c.loop-i.invariant c.loop-i-test.true c.requires.2 (same ∙ w.if-touches.false))
    ]

pub returns : goal.returns
returns c = record {
  value = pass_count c.loop-i.invariant (omega arith);
  out_after = rw (c.put_row-2.ensures, c.by_first-2.ensures) (pass_end c.loop-i.invariant (omega arith));
}
