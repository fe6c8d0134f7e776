-- Walks by the edge that they go over last.
use mathlib.Core.Path.{◌≡◌, refl, sym, ap, subst, ◌∙◌}
use mathlib.Core.List.{List}
use mathlib.Core.Logic.{◌≢◌, ◌↔◌, ◌⊎◌, inl, inr, ⊎_elim}
use lib.IntN.{ℤ, ◌+ℤ◌, ◌-ℤ◌, +ℤ-neg_ℤ_cancel, -ℤ-+ℤ_cancel}
use Rattle.integers.proofs.Tests.{eq_z?, of_test, test_of}
use Rattle.lists.specs.Lists.{◌∈◌}
use Rattle.lists.proofs.Membership.{keep_in, keep_out}
use Rattle.model.specs.declared.WalkKind.{WalkKind}
use Rattle.model.specs.Rows.{Edge}
use Rattle.model.specs.Graph.{Graph, node, bit_offset}
use Rattle.model.specs.Walk.{StandsOn, Walk, stand, step}
use Rattle.model.specs.Paths.{Way}
use Rattle.model.proofs.Walks.{walk_route, walk_end}
use Rattle.entering.specs.Entering.{enters, entering}

-- ---- the edges that enter a node

-- an edge of the graph that ends at v enters v
pub entering_in : (g : Graph) {v : ℤ} {e : Edge} → e ∈ g.edges → e.to ≡ v → e ∈ entering g v
unfolding entering enters
entering_in g {v} {e} m q = keep_in (enters v) (of_test (eq_z? e.to v) (λ n. n q)) m

-- an edge that enters v is an edge of the graph, and ends at v
pub entering_out : (g : Graph) (v : ℤ) {e : Edge} → e ∈ entering g v → (e ∈ g.edges) × (e.to ≡ v)
unfolding entering enters
entering_out g v {e} m = let w = keep_out (enters v) g.edges m in (w.0, test_of (eq_z? e.to v) w.1)

-- ---- the last edge of a walk

-- the last edge of a walk from x at r to b at w: it enters w, and a walk from x leads to the node that it leaves, with b + bit offset there
abbrev pub LastEdge : WalkKind → Graph → ℤ → ℤ → ℤ → ℤ → Type 0
LastEdge kind g r x w b = (e : Edge) × (e ∈ g.edges) × (e.to ≡ w) × Walk kind g r x e.from (b +ℤ bit_offset g e)

-- a walk that ends with bit address c goes on over an edge that leaves the node where it ends, to c − bit offset
walk-over : {kind : WalkKind} {g : Graph} {v a w c : ℤ} {e : Edge} → e ∈ g.edges → e.from ≡ w → Walk kind g v a w c → StandsOn kind (node g e.to) (c -ℤ bit_offset g e)
    → Walk kind g v a e.to (c -ℤ bit_offset g e)
walk-over {e} m q (stand s) t = step e m q s (stand t)
walk-over m q (step f n p s y) t = step f n p s (walk-over m q y t)

-- a walk goes on over an edge that leaves the node where it ends
pub walk_onward : {kind : WalkKind} {g : Graph} {r x b : ℤ} {e : Edge} → e ∈ g.edges → Walk kind g r x e.from (b +ℤ bit_offset g e) → StandsOn kind (node g e.to) b
    → Walk kind g r x e.to b
walk_onward {kind} {g} {r} {x} {b} {e} m y s =
    let back = +ℤ-neg_ℤ_cancel b (bit_offset g e) in
    subst (λ (c : ℤ). Walk kind g r x e.to c) back (walk-over m refl y (subst (λ (c : ℤ). StandsOn kind (node g e.to) c) (sym back) s))

-- a walk has no edge, or a last one
pub walk-last : {kind : WalkKind} {g : Graph} {r x w b : ℤ} → Walk kind g r x w b → ((r ≡ w) × (x ≡ b)) ⊎ LastEdge kind g r x w b
walk-last (stand s) = inl (refl, refl)
walk-last {kind} {g} {r} {x} {w} {b} (step f n p s y) = inr (⊎_elim own further (walk-last y))
  where
    own : (f.to ≡ w) × (x -ℤ bit_offset g f ≡ b) → LastEdge kind g r x w b
    own c =
        let start : x ≡ b +ℤ bit_offset g f = sym (ap (λ a. a +ℤ bit_offset g f) (sym c.1) ∙ -ℤ-+ℤ_cancel x (bit_offset g f)) in
        (f, n, c.0, subst (λ (v : ℤ). Walk kind g r x v (b +ℤ bit_offset g f)) (sym p) (subst (λ (a : ℤ). Walk kind g r x r a) start (stand s)))

    further : LastEdge kind g f.to (x -ℤ bit_offset g f) w b → LastEdge kind g r x w b
    further c = (c.0, c.1, c.2, step f n p s c.3)

-- at any node but the root: what arrives came over an edge that enters it, and stands there
pub walk-entering : {kind : WalkKind} {g : Graph} {r w : ℤ} → r ≢ w → (x b : ℤ) → Walk kind g r x w b ↔ (StandsOn kind (node g w) b × LastEdge kind g r x w b)
walk-entering {kind} {g} {r} {w} n x b = (
  λ y. (walk_end y, ⊎_elim (λ c. absurd (n c.0)) (λ c. c) (walk-last y)),
  λ c. subst (λ (v : ℤ). Walk kind g r x v b) c.1.2 (walk_onward c.1.1 c.1.3 (subst (λ (v : ℤ). StandsOn kind (node g v) b) (sym c.1.2) c.0)),
)

-- at a root that no edge enters: its own bits
pub walk-root : {kind : WalkKind} {g : Graph} {r : ℤ} → ((e : Edge) → e ∈ g.edges → e.to ≢ r) → (x b : ℤ) → Walk kind g r x r b ↔ ((x ≡ b) × StandsOn kind (node g r) b)
walk-root {kind} {g} {r} unentered x b = (
  λ y. (⊎_elim (λ c. c.1) (λ c. absurd (unentered c.0 c.1 c.2)) (walk-last y), walk_end y),
  λ c. subst (λ (a : ℤ). Walk kind g r a r b) (sym c.0) (stand c.1),
)

-- a walk goes along a way
pub walk-way : {kind : WalkKind} {g : Graph} {r x w b : ℤ} → Walk kind g r x w b → (p : List Edge) × Way g r p w
walk-way y = let t = walk_route y in (t.path, t.way)
