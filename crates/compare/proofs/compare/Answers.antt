-- The tables are refused, or both graphs are planned and what is kept of all pairs has the full result.
use native.Mathlib.Omega.{arith}
use Rattle.std.proofs.lemmas.Result.{err_from_is_err_and}
use Rattle.prepare.proofs.Checks.{prepared_none, prepared_some}
use Rattle.compare.proofs.Promises.{promise_refused, promise_full}
use Rattle.compare.proofs.compare.Goals as goal

pub returns-in_err-prepare : goal.returns-in_err-prepare
returns-in_err-prepare c =
    let p = err_from_is_err_and c.from_residual.result c.from_residual.ensures.1 in
    rw (p.1, p.2) (promise_refused (prepared_some c.prepare.ensures c.in_err-prepare.was))

pub survey-kept-requires : goal.survey-kept-requires
survey-kept-requires c = c.prepare.ensures.ready c.in_ok-prepare.was

pub returns : goal.returns
returns c =
    let kept = c.survey-kept.ensures in
    promise_full (prepared_none c.prepare.ensures c.in_ok-prepare.was) (kept.within (omega (arith, kept.fits))).result
