-- Each return is what the lists from record i on begin with.
use mathlib.Core.Path.{refl}
use Rattle.verdicts.specs.OnePass.{heads_aligned}
use Rattle.normalisation.proofs.Records.{records_from-more, records_from-none}
use Rattle.verdicts.proofs.alike_at.Goals as goal

pub returns-then-ns-i : goal.returns-then-ns-i
unfolding heads_aligned
returns-then-ns-i c =
    rw (records_from-none c.args.spec.now c.args.i c.args.ns c.if-ns-i.true) refl

pub returns-then-ni-i : goal.returns-then-ni-i
unfolding heads_aligned
returns-then-ni-i c =
    let a = c.args in
    rw (records_from-more a.spec.now a.i a.ns c.if-ns-i.false, records_from-none a.imp.now a.i a.ni c.if-ni-i.true) refl

pub returns : goal.returns
unfolding heads_aligned
returns c =
    let a = c.args in
    rw (records_from-more a.spec.now a.i a.ns c.if-ns-i.false, records_from-more a.imp.now a.i a.ni c.if-ni-i.false)
    (rw (← c.record_at-2.ensures, ← c.record_at.ensures) c.begin_alike.ensures)
