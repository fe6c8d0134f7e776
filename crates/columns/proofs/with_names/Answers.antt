-- The names are looked for one after the other.
use mathlib.Core.Path.{◌∙◌}
use native.Mathlib.Omega.{arith}
use lib.ListN.{take, length-map}
use lib.Seq.{length-take-le}
use Rattle.columns.proofs.ColumnLists.{names_none, names_next, names_few}
use Rattle.columns.proofs.with_names.Goals as goal

pub loop-name-init : goal.loop-name-init
loop-name-init c = names_none _ _

pub with_name-next-requires : goal.with_name-next-requires
with_name-next-requires c =
    let l = c.loop-name.invariant in
    let i = c.loop-name.name-index in
    record {
      within = c.requires.within;
      fields = l.fields ∙ c.requires.fields;
      few = names_few l c.requires.few;
      room = omega (arith, l.count, c.requires.room, length-map (take i c.args.names.now) (λ n. n.now), length-take-le i c.args.names.now (omega arith));
    }

pub loop-name-preserved : goal.loop-name-preserved
loop-name-preserved c = names_next c.args.names.now c.loop-name.name-index _ (omega arith) c.loop-name.invariant c.with_name-next.ensures
