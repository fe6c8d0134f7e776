-- Only the count of equal pairs grows.
use mathlib.Core.Path.{refl, subst}
use mathlib.Core.List.{◌++◌}
use Prim.Native.Nat.{ℕ}
use native.Mathlib.Omega.{arith}
use Rattle.totals.specs.Kept.{KeptOf}
use Rattle.totals.proofs.Keeping.{kept_small, with_equal, kept-equal}
use Rattle.totals.proofs.with_equal.Goals as goal

pub overflow_add-result : goal.overflow_add-result
overflow_add-result c = let room = c.requires in omega (arith, (kept_small room.kept (omega (arith, room.few))).equal, room.few)

pub returns : goal.returns
returns c =
    record {
      kept = λ fs gs lines e bare p.
          subst (λ (n : ℕ). KeptOf (fs ++ gs) lines (with_equal n c.args.kept)) e (kept-equal gs bare p);
      asked = refl;
    }
