-- The edges of a backward order that pass a test, in reverse, are in forward order, where the test passes for every edge that enters a node which an
-- edge that passes leaves.
-- Say f enters the node that e leaves. Then e leaves the node that f enters, so that it stands before f in the backward order, and f before e in the
-- reverse; and f passes where e does.
use mathlib.Core.Path.{◌≡◌, refl, sym, subst}
use mathlib.Core.Bool.{Bool, true, false, not, cond}
use mathlib.Core.List.Memᴰ
use mathlib.Core.List.{List, [], ◌∷◌, ◌++◌, reverse, reverse-cons}
use mathlib.Core.Logic.{◌⊎◌, inl, inr, ⊎_elim}
use lib.Dec.{T}
use Rattle.integers.proofs.Tests.{Test, passed, failed, test?}
use Rattle.lists.specs.Lists.{◌∈◌, keep}
use Rattle.lists.proofs.Membership.{keep_in}
use Rattle.model.specs.Rows.{Edge}
use Rattle.reach.proofs.Sweep.{Cut, cut-next}
use Rattle.forward.specs.Forward.{Forward}
use Rattle.forward.proofs.Reversed.{reverse_in}

-- one edge more, where all edges that enter the node it leaves stand before it
forward-more : {graph : List Edge} (before order : List Edge) (e : Edge) → Forward graph before order
    → ((f : Edge) → f ∈ graph → f.to ≡ e.from → (f ∈ order) ⊎ (f ∈ before)) → Forward graph before (order ++ (e ∷ []))
forward-more before [] e w h = (λ f m q. ⊎_elim (λ k. absurd (Memᴰ.not-nil k)) (λ k. k) (h f m q), tt)
forward-more before (d ∷ order) e w h = (
  w.0,
  forward-more (d ∷ before) order e w.1
      (λ f m q.
      ⊎_elim (λ k. ⊎_elim (λ z. inr (Memᴰ.head z)) inl (Memᴰ.cases_cons k)) (λ k. inr (Memᴰ.tail k)) (h f m q)),
)

module _ (graph : List Edge) (ok : Edge → Bool) (onward : (e f : Edge) → e ∈ graph → f ∈ graph → f.to ≡ e.from → T (ok e) → T (ok f)) where
  -- all edges of the graph that leave a node which one of these enters are among them
  abbrev Closed : List Edge → Type 0
  Closed before = (d f : Edge) → d ∈ before → f ∈ graph → f.from ≡ d.to → f ∈ before

  -- by the edges ahead
  forward_ahead : (before ahead : List Edge) → Cut graph before ahead → Closed before → Forward graph [] (reverse (keep ok ahead))
  unfolding keep
  forward_ahead before [] c closed = tt
  forward_ahead before (e ∷ ahead) c closed = go (ok e) (test? (ok e)) (forward_ahead (e ∷ before) ahead (cut-next c) closed-next)
    where
      -- with e among them too
      closed-next : Closed (e ∷ before)
      closed-next d f m k q =
          ⊎_elim (λ z. Memᴰ.tail (c.ordered.0 f k (subst (λ (a : Edge). f.from ≡ a.to) z q))) (λ n. Memᴰ.tail (closed d f n k q))
          (Memᴰ.cases_cons m)

      -- e is an edge of the graph
      own : e ∈ graph
      own = c.ahead_in e (Memᴰ.head refl)

      -- an edge that enters the node that e leaves is not among those before, since e would be
      entering_ahead : (f : Edge) → f ∈ graph → f.to ≡ e.from → f ∈ ahead
      entering_ahead f m q =
          let apart : e ∈ before → ⊥ = λ k. c.apart e k (Memᴰ.head refl) in
          ⊎_elim (λ k. absurd (apart (closed f e k own (sym q))))
          (λ k.
          ⊎_elim (λ z. absurd (apart (c.ordered.0 e own (sym (subst (λ (a : Edge). a.to ≡ e.from) z q))))) (λ n. n) (Memᴰ.cases_cons k))
          (c.whole f m)

      -- by the test of e
      go : (t : Bool) → Test (T (ok e)) (T (not (ok e))) t → Forward graph [] (reverse (keep ok ahead))
          → Forward graph [] (reverse (cond t (e ∷ keep ok ahead) (keep ok ahead)))
      go true (passed p) w =
          rw (reverse-cons e (keep ok ahead))
          (forward-more [] (reverse (keep ok ahead)) e w
          (λ f m q. inl (reverse_in (keep ok ahead) (keep_in ok (onward e f own m q p) (entering_ahead f m q)))))
      go false (failed p) w = w

  -- of the whole order
  pub forward-kept : {order : List Edge} → Cut graph [] order → Forward graph [] (reverse (keep ok order))
  forward-kept {order} c = forward_ahead [] order c (λ d f m. absurd (Memᴰ.not-nil m))
