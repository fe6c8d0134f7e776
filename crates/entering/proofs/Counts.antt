-- Paths counted by the edges that enter the node where they end, in a graph without a cycle.
-- The listed paths are counted by the edges that leave the node where they start: from u to w over at most k + 1 edges there is one path where u is w,
-- and for each edge f that leaves u there are those over at most k edges from where f ends (within-leaving; where u is w these are none, since one
-- would close a cycle). The same by the edges that enter w follows by induction on k: with either count written out once more, both are the edges
-- from u to w and, for each f that leaves u and each e that enters w, the paths from where f ends to where e starts, summed in either order
-- (within-entering).
use mathlib.Core.Path.{◌≡◌, refl, sym, ap, subst, ◌∙◌}
use mathlib.Core.Bool.{Bool, true, false, cond}
use mathlib.Core.List.{List, [], ◌∷◌, flat_map}
use mathlib.Core.Logic.{◌≢◌}
use Prim.Native.Nat.{ℕ, zero, suc, ◌+◌, ◌≤◌}
use native.Mathlib.Omega.{arith}
use lib.IntN.{ℤ}
use lib.ListN.{length, length-map}
use Rattle.integers.specs.Integers.{eq_z}
use Rattle.integers.proofs.Tests.{Test, passed, failed, eq_z?, eq_z→eq, is_false}
use Rattle.lists.specs.Lists.{◌∈◌}
use Rattle.model.specs.Limits.{max_chain}
use Rattle.model.specs.Rows.{Edge}
use Rattle.model.specs.Graph.{Graph}
use Rattle.model.specs.Paths.{Way, stay, over, Cycle, LongChain}
use Rattle.model.specs.Runs.{leaving, paths_within, paths}
use Rattle.model.proofs.Paths.{onward, leaving_out, within-sound, way-short}
use Rattle.reach.specs.Counting.{path_count}
use Rattle.reach.proofs.Totals.{total, total_agree, total-lengths}
use Rattle.reach.proofs.Counting.{empty-list, within_settled}
use Rattle.entering.specs.Entering.{enters, entering}
use Rattle.entering.proofs.Sums.{counted, total-none, total_sum, total_element, total_both, total_swap}
use Rattle.entering.proofs.Ways.{way_back}
use Rattle.entering.proofs.Walks.{entering_in}

-- 1 where the two nodes are the same, else 0
abbrev same_node : ℤ → ℤ → ℕ
same_node u w = counted (eq_z u w)

-- in either order
same_node_turned : (u w : ℤ) → same_node u w ≡ same_node w u
same_node_turned u w = go (eq_z u w) (eq_z? u w) (eq_z w u) (eq_z? w u)
  where
    go : (s : Bool) → Test (u ≡ w) (u ≢ w) s → (t : Bool) → Test (w ≡ u) (w ≢ u) t → counted s ≡ counted t
    go true (passed e) true (passed f) = refl
    go true (passed e) false (failed n) = absurd (n (sym e))
    go false (failed n) true (passed f) = absurd (n (sym f))
    go false (failed n) false (failed m) = refl

-- 0 where they are not
same_node_not : {u w : ℤ} → u ≢ w → same_node u w ≡ 0
same_node_not {u} {w} n = ap counted (is_false (eq_z u w) (λ t. n (eq_z→eq u w t)))

module _ (g : Graph) where
  -- how many paths lead from u to w over at most k edges
  abbrev within : ℕ → ℤ → ℤ → ℕ
  within k u w = length (paths_within k g u w)

  -- over no edge: from a node to itself
  within_zero : (u w : ℤ) → within 0 u w ≡ same_node u w
  unfolding paths_within
  within_zero u w = go (eq_z u w)
    where
      go : (t : Bool) → length {A = List Edge} (cond t ([] ∷ []) []) ≡ counted t
      go true = refl
      go false = refl

  -- the edges from u to w, counted among those that leave u and among those that enter w
  edges_between : (u w : ℤ) → total (λ f. same_node f.to w) (leaving g u) ≡ total (λ e. same_node u e.from) (entering g w)
  unfolding leaving entering enters
  edges_between u w =
      total_both (λ f. eq_z f.from u) (λ e. eq_z e.to w) g.edges
      ∙ total_agree (λ e. same_node e.from u) (λ e. same_node u e.from) (entering g w) (λ e m. same_node_turned e.from u)

  module _ (acyclic : Cycle g → ⊥) where
    -- by the edges that leave u
    within-leaving : (k : ℕ) (u w : ℤ) → within (suc k) u w ≡ same_node u w + total (λ f. within k f.to w) (leaving g u)
    unfolding paths_within
    within-leaving k u w = go (eq_z u w) (eq_z? u w)
      where
        onwards : length (flat_map (onward k g w) (leaving g u)) ≡ total (λ f. within k f.to w) (leaving g u)
        onwards =
            total-lengths (onward k g w) (leaving g u)
            ∙ total_agree (λ f. length (onward k g w f)) (λ f. within k f.to w) (leaving g u) (λ f m. length-map (paths_within k g f.to w) (λ p. f ∷ p))

        back : u ≡ w → (f : Edge) → f ∈ leaving g u → within k f.to w ≡ 0
        back q f m =
            let n = leaving_out g u m in
            ap length (empty-list (paths_within k g f.to w) (λ p h.
            way_back acyclic n.0 (subst (λ (v : ℤ). Way g f.to p v) (sym (n.1 ∙ q)) (within-sound k h))))

        go : (t : Bool) → Test (u ≡ w) (u ≢ w) t
            → length (cond t ([] ∷ []) (flat_map (onward k g w) (leaving g u))) ≡ counted t + total (λ f. within k f.to w) (leaving g u)
        go true (passed q) = omega (arith, total-none (λ f. within k f.to w) (leaving g u) (back q))
        go false (failed n) = omega (arith, onwards)

    -- by the edges that enter w
    within-entering : (k : ℕ) (u w : ℤ) → within (suc k) u w ≡ same_node u w + total (λ e. within k u e.from) (entering g w)
    within-entering zero u w =
        omega (
          arith,
          within-leaving 0 u w,
          total_agree (λ f. within 0 f.to w) (λ f. same_node f.to w) (leaving g u) (λ f m. within_zero f.to w),
          edges_between u w,
          total_agree (λ e. within 0 u e.from) (λ e. same_node u e.from) (entering g w) (λ e m. within_zero u e.from),
        )
    within-entering (suc k) u w =
        omega (
          arith,
          within-leaving (suc k) u w,
          total_agree (λ f. within (suc k) f.to w) (λ f. same_node f.to w + into f) (leaving g u) (λ f m. within-entering k f.to w),
          total_sum (λ f. same_node f.to w) into (leaving g u),
          edges_between u w,
          total_swap (λ f e. within k f.to e.from) (leaving g u) (entering g w),
          total_sum (λ e. same_node u e.from) from (entering g w),
          total_agree (λ e. within (suc k) u e.from) (λ e. same_node u e.from + from e) (entering g w) (λ e m. within-leaving k u e.from),
        )
      where
        -- the paths from where f ends to where an edge starts that enters w
        into : Edge → ℕ
        into f = total (λ e. within k f.to e.from) (entering g w)

        -- the paths from where an edge ends that leaves u to where e starts
        from : Edge → ℕ
        from e = total (λ f. within k f.to e.from) (leaving g u)

-- all paths by the edges that enter w: where no chain has more than 64 edges the limit on edges does not matter
count_arriving : {g : Graph} → (Cycle g → ⊥) → (LongChain g → ⊥) → (r w : ℤ)
    → path_count g r w ≡ same_node r w + total (λ e. path_count g r e.from) (entering g w)
unfolding path_count paths
count_arriving {g} acyclic short r w =
    sym (ap length (within_settled max_chain g r w (λ p v y. way-short short y))) ∙ within-entering g acyclic max_chain r w

-- the paths from r to w are those to the nodes from which edges enter w, each gone on
pub count-entering : {g : Graph} {r w : ℤ} → (Cycle g → ⊥) → (LongChain g → ⊥) → r ≢ w
    → path_count g r w ≡ total (λ e. path_count g r e.from) (entering g w)
count-entering {g} {r} {w} acyclic short n = omega (arith, count_arriving acyclic short r w, same_node_not n)

-- no fewer paths lead to a node further on: to the end of an edge than to its start
pub count_edge : {g : Graph} {r : ℤ} → (Cycle g → ⊥) → (LongChain g → ⊥) → ((e : Edge) → e ∈ g.edges → e.to ≢ r) → (e : Edge) → e ∈ g.edges
    → path_count g r e.from ≤ path_count g r e.to
count_edge {g} {r} acyclic short unentered e m =
    omega (
      arith,
      count-entering acyclic short (λ q. unentered e m (sym q)),
      total_element (λ d. path_count g r d.from) (entering g e.to) (entering_in g m refl),
    )

-- and to the end of a way than to its start
pub count-way : {g : Graph} {r v w : ℤ} {p : List Edge} → (Cycle g → ⊥) → (LongChain g → ⊥) → ((e : Edge) → e ∈ g.edges → e.to ≢ r) → Way g v p w
    → path_count g r v ≤ path_count g r w
count-way acyclic short unentered stay = omega arith
count-way {g} {r} acyclic short unentered (over e m q y) =
    omega (arith, ap (path_count g r) q, count_edge acyclic short unentered e m, count-way acyclic short unentered y)
