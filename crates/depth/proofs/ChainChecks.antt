-- What the rounds leave over, against cycles and chains of more than 64 edges: the refusals that the check of one graph gives for them.
use mathlib.Core.Path.{◌≡◌, refl, sym, ap, ◌∙◌}
use mathlib.Core.Bool.{Bool, true, false, not, cond}
use mathlib.Core.Logic.{◌↔◌}
use mathlib.Core.List.{List, [], ◌∷◌, nil≢cons}
use Prim.Native.Nat.{ℕ}
use native.Mathlib.Omega.{arith}
use lib.ListN.{length}
use Rattle.integers.proofs.Tests.{Test, passed, failed}
use Rattle.lists.specs.Lists.{◌∈◌, is_nil}
use Rattle.model.specs.Limits.{max_chain}
use Rattle.model.specs.Rows.{Edge}
use Rattle.model.specs.Graph.{Graph, NodeRow}
use Rattle.model.specs.Paths.{Cycle}
use Rattle.model.specs.Paths.{Cycle}
use Rattle.model.specs.Checks.{when, ◌then◌, begins, cyclic, deep}
use Rattle.model.proofs.Chains.{Longer, longer?, longer_cycle, cycle_longer}
use Rattle.depth.specs.declared.Chained.TheVariants as chained
use Rattle.depth.specs.Order.{chains_of, chain_refusal}
use Rattle.depth.proofs.Rounds.{begins_drained}

nil_test : {A P : Type 0} (l : List A) → Test P (P → ⊥) (not (is_nil l)) → (l ≡ []) ↔ (P → ⊥)
unfolding is_nil
nil_test [] (failed n) = (λ e. n, λ m. refl)
nil_test (x ∷ l) (passed p) = (λ e. absurd (nil≢cons (sym e)), λ n. absurd (n p))

-- so many rounds leave none over exactly where no way has more edges
pub left_none : (k : ℕ) (g : Graph) → (begins k g.edges ≡ []) ↔ (Longer g k → ⊥)
left_none k g = nil_test (begins k g.edges) (longer? k g)

nil_same : {A : Type 0} (k l : List A) → (k ≡ [] → l ≡ []) → (l ≡ [] → k ≡ []) → is_nil k ≡ is_nil l
unfolding is_nil
nil_same [] [] f g = refl
nil_same [] (y ∷ l) f g = absurd (nil≢cons (sym (f refl)))
nil_same (x ∷ k) [] f g = absurd (nil≢cons (sym (g refl)))
nil_same (x ∷ k) (y ∷ l) f g = refl

chain_cases : (t : ℕ) (a b : Bool)
    → (when a 5 t 0 then when b 6 t 0) ≡ chain_refusal t (cond a chained.Cycle (cond b chained.LongChain chained.Ordered))
unfolding when ◌then◌ chain_refusal
chain_cases t true b = refl
chain_cases t false true = refl
chain_cases t false false = refl

module _ (g : Graph) (rows : (e : Edge) → e ∈ g.edges → NodeRow g e.from × NodeRow g e.to) where
  -- there is a cycle exactly where as many rounds as there are edges leave some over
  pub cyclic_left : cyclic g ≡ not (is_nil (begins (length g.edges) g.edges))
  unfolding cyclic
  cyclic_left =
      let round : Cycle g → Longer g (length g.edges) = λ c. cycle_longer c (length g.edges) in
      ap not (nil_same (begins (length g.nodes) g.edges) (begins (length g.edges) g.edges)
      (λ e. begins_drained (length g.edges) (length g.nodes) g.edges (omega arith) e)
      (λ e. (left_none (length g.nodes) g).1 (λ c. (left_none (length g.edges) g).0 e (round (longer_cycle g rows c.chain c.long)))))

  -- the checks for a cycle and for a long chain refuse as the edges' chains say
  pub chains_checked : (t : ℕ) → (when (cyclic g) 5 t 0 then when (deep g) 6 t 0) ≡ chain_refusal t (chains_of g.edges)
  unfolding chains_of deep
  chains_checked t =
      ap (λ b. when b 5 t 0 then when (deep g) 6 t 0) cyclic_left
      ∙ chain_cases t (not (is_nil (begins (length g.edges) g.edges))) (not (is_nil (begins max_chain g.edges)))
