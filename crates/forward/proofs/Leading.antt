-- One pass over the edges, each behind all edges that leave the node it enters, marks every node that leads to a marked one.
-- A node is marked, at any time, where it was marked at the start or an edge that is passed leads from it on. When an edge is passed, all edges that
-- leave the node it enters are, so that node's mark is final, and marking the node that the edge leaves keeps the rule.
use mathlib.Core.Path.{◌≡◌, refl, sym, ap, subst, ◌∙◌}
use mathlib.Core.Bool.{Bool, true, false, true≢false}
use mathlib.Core.List.Memᴰ
use mathlib.Core.List.{List, [], ◌∷◌}
use mathlib.Core.Logic.{◌⊎◌, inl, inr, ⊎_elim, ◌↔◌}
use Prim.Native.Nat.{ℕ, ◌+◌, ◌/◌, ◌≤◌, ◌<◌}
use native.Mathlib.Omega.{arith}
use lib.IntN.{ℤ, pos}
use lib.ListN.{length, get_or, set, take, length-set}
use Rattle.integers.proofs.Linear.{ints}
use Rattle.lists.specs.Lists.{◌∈◌}
use Rattle.model.specs.Limits.{node_width, edge_width}
use Rattle.model.specs.Rows.{Edge}
use Rattle.model.specs.Graph.{Graph, graph_of}
use Rattle.model.specs.Paths.{Way, stay, over}
use Rattle.tables.specs.Tables.{edge_at}
use Rattle.tables.proofs.Rows.{nodes_length}
use Rattle.reach.proofs.Sweep.{Cut}
use Rattle.reach.proofs.Ends.{from-below, to_below}
use Rattle.reach.proofs.Turns.{Between, between_start, between_next, between_end, turn, turn_ends, turn_from, turn_to}
use Rattle.forward.specs.Passes.{Marking, Marked, LeadsTo, BackwardRows, Spread}
use Rattle.forward.proofs.Marks.{mark_set}

module _ (g : Graph) (start : List Bool) where
  -- v leads to a node that was marked at the start
  abbrev Leading : ℤ → Type 0
  Leading v = LeadsTo g (Marked start) v

  -- v was marked at the start, or one of the edges before leads from it to such a node
  abbrev SoFar : List Edge → ℤ → Type 0
  SoFar before v = Marked start v ⊎ ((e : Edge) × (e ∈ before) × (e.from ≡ v) × Leading e.to)

  -- exactly those nodes are marked
  abbrev pub Swept : List Edge → List Bool → Type 0
  Swept before marks = Marking marks (SoFar before)

  -- such a node leads to one that was marked
  so_far_leads : {before : List Edge} {v : ℤ} → ((e : Edge) → e ∈ before → e ∈ g.edges) → SoFar before v → Leading v
  so_far_leads {v = v} into (inl m) = (v, m, ([], stay))
  so_far_leads into (inr w) = let k = w.3 in (k.0, k.1, (w.0 ∷ k.2.0, over w.0 (into w.0 w.1) w.2 k.2.1))

  -- a node with a way to a marked one is such a node, where all edges that leave it are before
  so_far_way : {before : List Edge} {v l : ℤ} {p : List Edge} → ((f : Edge) → f ∈ g.edges → f.from ≡ v → f ∈ before) → Marked start l → Way g v p l
      → SoFar before v
  so_far_way h m stay = inl m
  so_far_way {l = l} h m (over {p = p} e k q w) = inr (e, h e k q, q, (l, m, (p, w)))

  -- where all edges that leave v are before, the rule is that v leads to such a node
  so_far_all : {before : List Edge} (v : ℤ) → ((e : Edge) → e ∈ before → e ∈ g.edges) → ((f : Edge) → f ∈ g.edges → f.from ≡ v → f ∈ before)
      → SoFar before v ↔ Leading v
  so_far_all v into h = (so_far_leads into, λ k. so_far_way h k.1 k.2.1)

  -- one edge more
  so_far_more : {before : List Edge} (e : Edge) {v : ℤ} → SoFar before v → SoFar (e ∷ before) v
  so_far_more e (inl m) = inl m
  so_far_more e (inr w) = inr (w.0, Memᴰ.tail w.1, w.2, w.3)

  -- by the last edge, or by those before it
  so_far_less : {before : List Edge} {e : Edge} {v : ℤ} → SoFar (e ∷ before) v → ((e.from ≡ v) × Leading e.to) ⊎ SoFar before v
  so_far_less (inl m) = inr (inl m)
  so_far_less {e = e} {v = v} (inr w) =
      ⊎_elim (λ q. inl (ap (λ d. d.from) (sym q) ∙ w.2, subst (λ (d : Edge). Leading d.to) q w.3)) (λ m. inr (inr (w.0, m, w.2, w.3)))
      (Memᴰ.cases_cons w.1)

  -- before any edge
  pub swept_start : Swept [] start
  swept_start = record { each = λ v. (λ h. inl (v, refl, h), λ s. ⊎_elim (same v) (λ w. absurd (Memᴰ.not-nil w.1)) s) }
    where
      same : (v : ℕ) → Marked start (pos v) → get_or start v false ≡ true
      same v m = let e : m.0 ≡ v = omega (arith, ints, m.1) in subst (λ (i : ℕ). get_or start i false ≡ true) e m.2

  module _ {before ahead : List Edge} {e : Edge} {marks : List Bool} (from to : ℕ) (c : Cut g.edges before (e ∷ ahead)) (p : pos from ≡ e.from)
      (q : pos to ≡ e.to) (s : Swept before marks)
    where
      -- the mark of the node that the next edge enters is final
      entered : (get_or marks to false ≡ true) ↔ Leading e.to
      entered =
          let all = so_far_all (pos to) c.passed_in (λ f m r. c.ordered.0 f m (r ∙ q)) in
          rw (← q) (λ h. all.0 ((s.each to).0 h), λ k. (s.each to).1 (all.1 k))

      -- an edge into a marked node marks the node that it leaves
      pub swept_marked : get_or marks to false ≡ true → from < length marks → Swept (e ∷ before) (set marks from true)
      swept_marked h k =
          record {
            each = λ v. (
              λ m.
                  ⊎_elim (λ z. inr (e, Memᴰ.head refl, sym p ∙ ap pos (sym z), entered.0 h)) (λ n. so_far_more e ((s.each v).0 n))
                  ((mark_set marks from v k).0 m),
              λ w.
                  (mark_set marks from v k).1
                  (⊎_elim (λ z. inl (let y : pos from ≡ pos v = p ∙ z.0 in omega (arith, ints, y))) (λ n. inr ((s.each v).1 n)) (so_far_less w)),
            );
          }

      -- any other edge changes nothing
      pub swept_over : get_or marks to false ≡ false → Swept (e ∷ before) marks
      swept_over h =
          record {
            each = λ v. (
              λ m. so_far_more e ((s.each v).0 m),
              λ w. ⊎_elim (λ z. absurd (true≢false (sym (entered.1 z.1) ∙ h))) (s.each v).1 (so_far_less w),
            );
          }

  -- behind all edges the marks are those of the nodes that lead to one marked at the start
  pub swept_end : {before : List Edge} {marks : List Bool} → Cut g.edges before [] → Swept before marks → Marking marks Leading
  swept_end c s =
      record {
        each = λ v.
            let all = so_far_all (pos v) c.passed_in (λ e m q. ⊎_elim (λ j. j) (λ j. absurd (Memᴰ.not-nil j)) (c.whole e m)) in
            (λ h. all.0 ((s.each v).0 h), λ k. (s.each v).1 (all.1 k));
      }

-- ---- the pass over the lists that the code has

module _ (es : List ℤ) (order : List ℕ) where
  -- the state between two turns
  pub record Passed (start marks : List Bool) (i : ℕ) : Type 0 where
    pub nodes : List ℤ
    pub at : Between nodes es order i
    pub room : length nodes / node_width ≤ length marks
    pub size : length marks ≡ length start
    pub swept : (ns : List ℤ) → Swept (graph_of ns es) start at.before marks

  -- before the first turn
  pub pass_start : {start : List Bool} → BackwardRows es order (length start) → Passed start start 0
  pass_start {start} k =
      record {
        nodes = k.nodes;
        at = between_start k.nodes es order k.tables k.backward;
        room = omega (arith, k.room, nodes_length k.nodes);
        size = refl;
        swept = λ ns. swept_start (graph_of ns es) start;
      }

  module _ {start marks : List Bool} {i : ℕ} (p : Passed start marks i) where
    module _ (from to : ℕ) (h : i < length (take (length es / edge_width) order))
        (q : pos from ≡ (edge_at es (get_or (take (length es / edge_width) order) i 0)).from)
        (r : pos to ≡ (edge_at es (get_or (take (length es / edge_width) order) i 0)).to)
      where
        -- both ends have a mark
        pub ends-within : (from < length marks) × (to < length marks)
        ends-within = let e = turn_ends p.nodes es order p.at h in (omega (arith, from-below e from q, p.room), omega (arith, to_below e to r, p.room))

        -- a turn that leaves marks'
        pass_next : (marks' : List Bool) → length marks' ≡ length marks
            → ((ns : List ℤ) → Swept (graph_of ns es) start ((turn p.nodes es order p.at h).edge ∷ p.at.before) marks') → Passed start marks' (i + 1)
        pass_next marks' e s =
            record { nodes = p.nodes; at = between_next p.nodes es order p.at h; room = omega (arith, p.room, e); size = e ∙ p.size; swept = s }

        -- an edge into a marked node marks the node that it leaves
        pub pass_marked : get_or marks to false ≡ true → Passed start (set marks from true) (i + 1)
        unfolding graph_of
        pass_marked m =
            pass_next (set marks from true) (length-set marks from true)
            (λ ns. swept_marked (graph_of ns es) start from to (turn p.nodes es order p.at h).cut (turn_from p.nodes es order p.at from h q)
            (turn_to p.nodes es order p.at to h r) (p.swept ns) m ends-within.0)

        -- any other edge changes nothing
        pub pass_over : get_or marks to false ≡ false → Passed start marks (i + 1)
        unfolding graph_of
        pass_over z =
            pass_next marks refl
            (λ ns. swept_over (graph_of ns es) start from to (turn p.nodes es order p.at h).cut (turn_from p.nodes es order p.at from h q)
            (turn_to p.nodes es order p.at to h r) (p.swept ns) z)

    -- behind the last turn
    pub pass_end : length (take (length es / edge_width) order) ≤ i → Spread es start marks
    unfolding graph_of
    pass_end h ns = swept_end (graph_of ns es) start (between_end p.nodes es order p.at h) (p.swept ns)
