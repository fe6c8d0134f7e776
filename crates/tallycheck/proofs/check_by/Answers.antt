-- By who asks: 15 with the buffer as it was, or the text check.
use Rattle.std.specs.Prelude as std
use Rattle.std.specs.Prelude.{Result, Err}
use Rattle.std.specs.Option.{ok_or}
use Rattle.std.proofs.lemmas.Result.{err_from_is_err_and}
use mathlib.Core.Path.{◌≡◌, refl}
use mathlib.Core.Option.{none}
use Prim.Native.Nat.{ℕ}
use Rattle.model.specs.declared.Reason.{Reason}
use Rattle.model.specs.declared.Reason.TheVariants as reason
use Rattle.tally.specs.Callers.{caller_named}
use Rattle.tallycheck.proofs.Promises.{outside_gives, caller_gives}
use Rattle.tallycheck.proofs.check_by.Goals as goal

-- nobody asks where there is no caller, and this is the refusal
nobody : (who : std.Option ℕ) {r : Reason} → ◌≡◌ {A = Result ℕ Reason} (Err r) (ok_or who reason.NoCaller) → (r ≡ reason.NoCaller) × (caller_named who ≡ none)
nobody (std.Some k) e = cc
nobody std.None e = (cc, refl)

pub returns-in_err-ok_or : goal.returns-in_err-ok_or
returns-in_err-ok_or c =
    let p = err_from_is_err_and c.from_residual.result c.from_residual.ensures.1 in
    let w = nobody c.args.who c.in_err-ok_or.ensures.value in
    rw (p.1, p.2, w.0, w.1) (outside_gives _ _)

pub returns : goal.returns
returns c = rw c.in_ok-ok_or.ensures.ok_part (caller_gives _ c.check_map.ensures)
