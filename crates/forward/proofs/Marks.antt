-- One mark more.
use mathlib.Core.Path.{◌≡◌, refl, sym, ◌∙◌}
use mathlib.Core.Bool.{Bool, true, false}
use mathlib.Core.List.{List}
use mathlib.Core.Logic.{◌≢◌, ◌⊎◌, inl, inr, ⊎_elim, ◌↔◌}
use Prim.Native.Nat.{ℕ, zero, suc, ◌<◌}
use lib.Dec.{eqb}
use lib.ListN.{length, get_or, set, replicate}
use lib.Seq.{get_or-set_same, get_or-set_other}
use Rattle.integers.proofs.Tests.{Test, passed, failed, eq?}

-- once node i is marked, the marked nodes are i and those that were marked before
pub mark_set : (marks : List Bool) (i v : ℕ) → i < length marks → (get_or (set marks i true) v false ≡ true) ↔ ((v ≡ i) ⊎ (get_or marks v false ≡ true))
mark_set marks i v h = go (eqb v i) (eq? v i)
  where
    go : (t : Bool) → Test (v ≡ i) (v ≢ i) t → (get_or (set marks i true) v false ≡ true) ↔ ((v ≡ i) ⊎ (get_or marks v false ≡ true))
    go true (passed e) = (λ k. inl e, λ w. rw e (get_or-set_same marks i true false h))
    go false (failed n) =
        let same = get_or-set_other marks i v true false n in
        (λ k. inr (sym same ∙ k), λ w. ⊎_elim (λ e. absurd (n e)) (λ k. same ∙ k) w)

-- where no node is marked, none is
pub unmarked_at : (n v : ℕ) → get_or (replicate n false) v false ≡ false
unmarked_at zero v = refl
unmarked_at (suc n) zero = refl
unmarked_at (suc n) (suc v) = unmarked_at n v
