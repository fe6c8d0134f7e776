-- The order of edges from the leaves up: before each edge stand all that leave the node it enters, and it has each edge of a taken graph once.
use mathlib.Core.Path.{◌≡◌, refl, sym, subst}
use mathlib.Core.Bool.{Bool, true, false, not}
use mathlib.Core.Logic.{◌⊎◌, inl, inr, ⊎_elim, ◌↔◌}
use mathlib.Core.List.Memᴰ
use mathlib.Core.List.{List, [], ◌∷◌, ◌++◌, map}
use Prim.Native.Nat.{ℕ, zero, suc}
use native.Mathlib.Omega.{arith}
use lib.Dec.{T, T_not}
use lib.IntN.{ℤ}
use lib.ListN.{length}
use Rattle.integers.specs.Integers.{eq_z}
use Rattle.integers.proofs.Tests.{Test, passed, failed, test?}
use Rattle.lists.specs.Lists.{◌∈◌, keep, any, Distinct, none}
use Rattle.lists.proofs.Membership.{keep_in, keep_out, map_in}
use Rattle.lists.proofs.Distinct.{keep-distinct, append_distinct}
use Rattle.model.specs.Limits.{max_chain}
use Rattle.model.specs.Rows.{Edge}
use Rattle.model.specs.Graph.{Graph}
use Rattle.model.specs.Paths.{LongChain}
use Rattle.model.specs.Checks.{each, ending_at, followed, begins}
use Rattle.model.specs.Taken.{Taken}
use Rattle.model.proofs.Chains.{number-any, each_in, followed_out, Longer}
use Rattle.depth.specs.Order.{lasts, peeled, edge_order, Backward}
use Rattle.depth.proofs.ChainChecks.{left_none}
use Rattle.depth.proofs.Rounds.{begins-first, begins-start, begins_drained}

-- ---- which edges a round removes

-- an edge that a round removes is of the list, and no edge of the list follows it
pub lasts_out : {e : Edge} (es : List Edge) → e ∈ lasts es → (e ∈ es) × ((f : Edge) → f ∈ es → f.from ≡ e.to → ⊥)
unfolding lasts
lasts_out {e} es m =
    let starts = each (map (λ (c : Edge). c.from) es) in
    let p = keep_out (λ d. not (any (eq_z d.to) starts)) es m in
    (p.0, λ f n q. T_not (any (eq_z e.to) starts) p.1 (number-any (Memᴰ.cast (sym q) (each_in (map_in (λ c. c.from) n)))))

-- a round removes an edge of the list or leaves it over
pub round_cases : {e : Edge} (es : List Edge) → e ∈ es → e ∈ lasts es ⊎ e ∈ followed es
unfolding lasts followed ending_at
round_cases {e} es m = go (any (eq_z e.to) starts) (test? (any (eq_z e.to) starts))
  where
    starts : List ℤ
    starts = each (map (λ (c : Edge). c.from) es)

    go : (b : Bool) → Test (T (any (eq_z e.to) starts)) (T (not (any (eq_z e.to) starts))) b
        → e ∈ keep (λ d. not (any (eq_z d.to) starts)) es ⊎ e ∈ keep (λ d. any (eq_z d.to) starts) es
    go true (passed t) = inr (keep_in (λ d. any (eq_z d.to) starts) t m)
    go false (failed t) = inl (keep_in (λ d. not (any (eq_z d.to) starts)) t m)

-- ---- which edges so many rounds remove

-- they are of the list
pub peeled_out : {e : Edge} (k : ℕ) (es : List Edge) → e ∈ peeled k es → e ∈ es
unfolding peeled
peeled_out zero es m = absurd (Memᴰ.not-nil m)
peeled_out (suc k) es m =
    ⊎_elim (λ n. (lasts_out es n).0) (λ n. (followed_out es (peeled_out k (followed es) n)).0) (Memᴰ.append_cases (lasts es) m)

-- the rounds remove an edge of the list or leave it over
pub peeled_cases : {e : Edge} (k : ℕ) (es : List Edge) → e ∈ es → e ∈ peeled k es ⊎ e ∈ begins k es
unfolding peeled
peeled_cases {e} zero es m = inr (subst (λ (l : List Edge). e ∈ l) (sym (begins-start es)) m)
peeled_cases {e} (suc k) es m =
    ⊎_elim (λ n. inl (Memᴰ.append_left (peeled k (followed es)) n))
    (λ n.
    ⊎_elim (λ p. inl (Memᴰ.append_right (lasts es) p)) (λ p. inr (subst (λ (l : List Edge). e ∈ l) (sym (begins-first k es)) p))
    (peeled_cases k (followed es) n))
    (round_cases es m)

lasts-distinct : {es : List Edge} → Distinct es → Distinct (lasts es)
unfolding lasts
lasts-distinct {es} d = keep-distinct (λ e. not (any (eq_z e.to) (each (map (λ c. c.from) es)))) d

followed-distinct : {es : List Edge} → Distinct es → Distinct (followed es)
unfolding followed ending_at
followed-distinct {es} d = keep-distinct (λ e. any (eq_z e.to) (each (map (λ c. c.from) es))) d

-- what a round removes it does not leave over
round_apart : {e : Edge} (es : List Edge) → e ∈ lasts es → e ∈ followed es → ⊥
round_apart es m n = let p = (followed_out es n).1 in (lasts_out es m).1 p.0 p.1 p.2

-- the rounds remove no edge twice
pub peeled-distinct : (k : ℕ) {es : List Edge} → Distinct es → Distinct (peeled k es)
unfolding peeled
peeled-distinct zero d = none
peeled-distinct (suc k) {es} d =
    append_distinct (lasts-distinct d) (peeled-distinct k (followed-distinct d)) (λ e m n. round_apart es m (peeled_out k (followed es) n))

-- ---- before each edge stand those that follow it

module _ (graph : List Edge) where
  -- what stands before an order may be more
  backward-more : {xs ys : List Edge} (order : List Edge) → ((f : Edge) → f ∈ xs → f ∈ ys) → Backward graph xs order → Backward graph ys order
  backward-more [] h b = tt
  backward-more {xs} {ys} (e ∷ order) h b = (λ f m q. h f (b.0 f m q), backward-more order wider b.1)
    where
      wider : (f : Edge) → f ∈ (e ∷ xs) → f ∈ (e ∷ ys)
      wider f m = ⊎_elim (λ q. Memᴰ.head q) (λ n. Memᴰ.tail (h f n)) (Memᴰ.cases_cons m)

  -- edges whose followers all stand before them, and then an order behind them
  backward_append : {before : List Edge} (xs ys : List Edge) → ((e : Edge) → e ∈ xs → (f : Edge) → f ∈ graph → f.from ≡ e.to → f ∈ before)
      → Backward graph (xs ++ before) ys → Backward graph before (xs ++ ys)
  backward_append [] ys h b = b
  backward_append {before} (x ∷ xs) ys h b =
      (h x (Memᴰ.head refl), backward_append xs ys (λ e m f n q. Memᴰ.tail (h e (Memᴰ.tail m) f n q)) (backward-more ys moved b))
    where
      moved : (f : Edge) → f ∈ (x ∷ (xs ++ before)) → f ∈ (xs ++ (x ∷ before))
      moved f m =
          ⊎_elim (λ q. Memᴰ.append_right xs (Memᴰ.head q))
          (λ n. ⊎_elim (Memᴰ.append_left (x ∷ before)) (λ p. Memᴰ.append_right xs (Memᴰ.tail p)) (Memᴰ.append_cases xs n))
          (Memᴰ.cases_cons m)

  -- rounds on the edges of a graph that do not stand before
  peeled-backward : {before : List Edge} (k : ℕ) (es : List Edge) → ((f : Edge) → f ∈ graph → f ∈ before ⊎ f ∈ es)
      → Backward graph before (peeled k es)
  unfolding peeled
  peeled-backward zero es h = tt
  peeled-backward {before} (suc k) es h =
      backward_append (lasts es) (peeled k (followed es)) (λ e m f n q. ⊎_elim (λ p. p) (λ p. absurd ((lasts_out es m).1 f p q)) (h f n))
      (peeled-backward {before = lasts es ++ before} k (followed es) rest)
    where
      rest : (f : Edge) → f ∈ graph → f ∈ (lasts es ++ before) ⊎ f ∈ followed es
      rest f n =
          ⊎_elim (λ p. inl (Memᴰ.append_right (lasts es) p)) (λ p. ⊎_elim (λ q. inl (Memᴰ.append_left before q)) inr (round_cases es p))
          (h f n)

-- ---- the order

-- before each edge of the order stand all edges that leave the node it enters
pub order-backward : (es : List Edge) → Backward es [] (edge_order es)
unfolding edge_order
order-backward es = peeled-backward es (length es) es (λ f m. inr m)

-- the order has no edge twice
pub order-distinct : {es : List Edge} → Distinct es → Distinct (edge_order es)
unfolding edge_order
order-distinct {es} d = peeled-distinct (length es) d

-- where no chain has more than 64 edges, the rounds leave none over
pub order_drained : {g : Graph} → (LongChain g → ⊥) → begins (length g.edges) g.edges ≡ []
order_drained {g} short =
    let none-long : Longer g max_chain → ⊥ = λ c. short (record { from = c.from; to = c.to; edges = c.edges; long = c.long; chain = c.chain }) in
    begins_drained (length g.edges) max_chain g.edges (omega arith) ((left_none max_chain g).1 none-long)

-- the order has the edges of a taken graph, and no others
pub order_members : {g : Graph} → Taken g → (e : Edge) → (e ∈ edge_order g.edges) ↔ (e ∈ g.edges)
unfolding edge_order
order_members {g} t e = (
  peeled_out (length g.edges) g.edges,
  λ m. ⊎_elim (λ n. n) (λ n. absurd (Memᴰ.not-nil (subst (λ (l : List Edge). e ∈ l) (order_drained t.short) n)))
      (peeled_cases (length g.edges) g.edges m),
)
