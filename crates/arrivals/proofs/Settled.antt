-- Of a node all of whose entering edges are passed: what arrives there is what its mark brings.
use mathlib.Core.Path.{◌≡◌, refl, sym, ap, ◌∙◌, subst}
use mathlib.Core.Bool.{Bool, true, false}
use mathlib.Core.List.Memᴰ
use mathlib.Core.List.{List, [], ◌∷◌, ◌++◌}
use mathlib.Core.Logic.{◌↔◌, ◌⊎◌, ◌≢◌, inl, inr, ⊎_elim}
use Prim.Native.Nat.{ℕ, zero, suc, ◌+◌, ◌≤◌, ◌<◌}
use native.Mathlib.Omega.{arith}
use lib.Dec.{T, ltb}
use lib.IntN.{ℤ, pos}
use lib.ListN.{length, get_or, take, drop, length-map, take-append-drop}
use lib.Seq.{take-suc, take_all, take-take, length-take-le, get_or-take}
use Rattle.integers.specs.Integers.{eq_z}
use Rattle.integers.proofs.Tests.{Test, passed, failed, eq_z?, ltb?}
use Rattle.lists.specs.Lists.{◌∈◌}
use Rattle.model.specs.Rows.{Edge, node_rows, edge_rows}
use Rattle.model.specs.Graph.{graph_of, node}
use Rattle.model.specs.Walk.{Open, Walk}
use Rattle.model.specs.Paths.{Way, stay, over}
use Rattle.reach.proofs.Values.{map_at}
use Rattle.model.proofs.Walks.{walk_start}
use Rattle.entering.proofs.Walks.{walk-entering}
use Rattle.tables.specs.Tables.{edge_at}
use Rattle.forward.specs.Forward.{Forward, planned_count, planned_of}
use Rattle.references.specs.References.{Reference, Brings}
use Rattle.references.proofs.Bringing.{own_brings}
use Rattle.entering.specs.Entering.{Covered}
use Rattle.arrivals.specs.State.{is_met, reference_at, root_in, kind_in}
use Rattle.arrivals.specs.Sweep.{done_of, Came, RightMark, OpenRoot, Sweeping}

-- a test does not pass and fail
pub not_both : {t : Bool} → t ≡ true → t ≡ false → ⊥
not_both p q = subst T (sym p ∙ q) tt

-- ---- the front of a list

module _ {A : Type 0} where
  -- an element of the front is an element
  pub front_in : {x : A} (n : ℕ) (l : List A) → x ∈ take n l → x ∈ l
  front_in {x} n l m = subst (λ k. x ∈ k) (take-append-drop n l) (Memᴰ.append_left (drop n l) m)

  -- one more element in front
  pub front-next : (n : ℕ) (l : List A) (d : A) → n < length l → (x : A) → (x ∈ take (n + 1) l) ↔ ((x ∈ take n l) ⊎ (x ≡ get_or l n d))
  front-next n l d h x =
      let q : take (n + 1) l ≡ take n l ++ (get_or l n d ∷ []) = ap (λ k. take k l) (let z : n + 1 ≡ suc n = omega arith in z) ∙ take-suc l n d h in (
        λ m. ⊎_elim inl (λ k. inr (Memᴰ.eq_of_singleton k)) (Memᴰ.append_cases (take n l) (subst (λ k. x ∈ k) q m)),
        λ s. subst (λ k. x ∈ k) (sym q) (⊎_elim (λ m. Memᴰ.append_left (get_or l n d ∷ []) m) (λ e. Memᴰ.append_right (take n l) (Memᴰ.head e)) s),
      )

-- ---- forward order

-- before the edge behind the first n of a forward order stand all edges that enter the node it leaves
forward-at : (graph before order : List Edge) → Forward graph before order → (n : ℕ) (d : Edge) → n < length order → (f : Edge) → f ∈ graph
    → f.to ≡ (get_or order n d).from → (f ∈ before) ⊎ (f ∈ take n order)
forward-at graph before (e ∷ order) w zero d h f m q = inl (w.0 f m q)
forward-at graph before (e ∷ order) w (suc n) d h f m q =
    ⊎_elim (λ k. ⊎_elim (λ z. inr (Memᴰ.head z)) inl (Memᴰ.cases_cons k)) (λ k. inr (Memᴰ.tail k))
    (forward-at graph (e ∷ before) order w.1 n d (omega arith) f m q)
forward-at graph before [] w n d h f m q = absurd (omega (arith, h))

-- in front of each edge of a forward order stand all edges that enter the node it leaves: so the front of a forward order has them all
front-closed : (graph order : List Edge) → Forward graph [] order → (i : ℕ) (e f : Edge) → e ∈ take i order → f ∈ graph → f.to ≡ e.from → f ∈ take i order
front-closed graph order w zero e f m k q = absurd (Memᴰ.not-nil m)
front-closed graph order w (suc i) e f m k q =
    go (λ n. front-closed graph order w i e f n k q) (ltb i (length order)) (ltb? i (length order))
  where
    more : {x : Edge} → x ∈ take i order → x ∈ take (suc i) order
    more {x} n = front_in i (take (suc i) order) (subst (λ l. x ∈ l) (sym (take-take i (suc i) order (omega arith))) n)

    here : i < length order → e ≡ get_or order i e → f ∈ take (suc i) order
    here h z =
        ⊎_elim (λ n. absurd (Memᴰ.not-nil n)) more
        (forward-at graph [] order w i e h f k (q ∙ ap (λ (d : Edge). d.from) z))

    go : (e ∈ take i order → f ∈ take i order) → (t : Bool) → Test (i < length order) (length order ≤ i) t → f ∈ take (suc i) order
    go rec true (passed h) =
        let z : suc i ≡ i + 1 = omega arith in
        ⊎_elim (λ n. more (rec n)) (here h) ((front-next i order e h e).0 (subst (λ n. e ∈ take n order) z m))
    go rec false (failed h) =
        more (rec (subst (λ l. e ∈ l) (take_all (suc i) order (omega (arith, h)) ∙ sym (take_all i order h)) m))

-- ---- the edges passed

module _ {ns es : List ℤ} {plan : List ℕ} {i : ℕ} {s : List ℤ} (w : Sweeping ns es plan i s) where
  -- the plan has as many edges as it counts
  passed_length : length (planned_of es plan) ≡ planned_count plan
  passed_length =
      let p = w.planned in
      length-map (take (planned_count plan) plan) (edge_at es)
      ∙ length-take-le (planned_count plan) plan (omega (arith, p.few, p.room))

  -- and edge n of them is the one whose row stands at place n
  passed-at : (n : ℕ) → n < planned_count plan → get_or (planned_of es plan) n (edge_at es 0) ≡ edge_at es (get_or plan n 0)
  passed-at n h =
      let p = w.planned in
      map_at (edge_at es) (take (planned_count plan) plan) n (edge_at es 0) 0
      (omega (arith, h, length-take-le (planned_count plan) plan (omega (arith, p.few, p.room))))
      ∙ ap (edge_at es) (get_or-take (planned_count plan) plan n 0 h)

  -- the edges passed are edges of the graph
  pub done-inside : (e : Edge) → e ∈ done_of es plan i → e ∈ edge_rows es
  done-inside e m = w.planned.inside e (front_in i (planned_of es plan) m)

  -- with the next edge one more is passed
  pub done_next : i < planned_count plan → (f : Edge) → (f ∈ done_of es plan (i + 1)) ↔ ((f ∈ done_of es plan i) ⊎ (f ≡ edge_at es (get_or plan i 0)))
  done_next h f =
      let r = front-next i (planned_of es plan) (edge_at es 0) (omega (arith, h, passed_length)) f in (
        λ m. ⊎_elim inl (λ q. inr (q ∙ passed-at i h)) (r.0 m),
        λ c. r.1 (⊎_elim inl (λ q. inr (q ∙ sym (passed-at i h))) c),
      )

  -- with an edge all edges are passed that enter the node it leaves
  pub done-closed : (e : Edge) → e ∈ done_of es plan i → Covered es (done_of es plan i) e.from
  done-closed e m f k q = front-closed (edge_rows es) (planned_of es plan) w.planned.forward i e f m k q

  -- so are those that enter a node which leads to one that is covered
  pub covered-way : {v u : ℤ} {p : List Edge} → Way (graph_of ns es) v p u → Covered es (done_of es plan i) u → Covered es (done_of es plan i) v
  unfolding graph_of
  covered-way stay c = c
  covered-way (over e m q k) c =
      subst (λ (z : ℤ). Covered es (done_of es plan i) z) q (done-closed e (covered-way k c e m refl))

  -- the next edge of the plan leaves a node that is covered
  pub next-covered : i < planned_count plan → Covered es (done_of es plan i) (edge_at es (get_or plan i 0)).from
  next-covered h f k q =
      ⊎_elim (λ n. absurd (Memᴰ.not-nil n)) (λ n. n)
      (forward-at (edge_rows es) [] (planned_of es plan) w.planned.forward i (edge_at es 0) (omega (arith, h, passed_length)) f k
      (q ∙ ap (λ (d : Edge). d.from) (sym (passed-at i h))))

  -- what has come to a covered node, other than the root, is what arrives there
  pub came_all : (v : ℤ) → root_in s ≢ v → Covered es (done_of es plan i) v → (x b : ℤ)
      → Came (kind_in s) (graph_of ns es) (root_in s) (done_of es plan i) v x b ↔ Walk (kind_in s) (graph_of ns es) (root_in s) x v b
  unfolding graph_of
  came_all v n c x b =
      let k = walk-entering {kind = kind_in s} {g = graph_of ns es} n x b in (
        λ z. k.1 (z.stands, (z.over, done-inside z.over z.among, z.enters, z.walk)),
        λ y. let z = k.0 y in record { stands = z.0; over = z.1.0; among = c z.1.0 z.1.1 z.1.2; enters = z.1.2; walk = z.1.3 },
      )

  -- the root is open to the walks where it is marked
  pub met-root : (v : ℕ) → v < length (node_rows ns) → is_met s v ≡ true → root_in s ≡ pos v → OpenRoot ns es s
  met-root v h m q = subst (λ (r : ℤ). Open (kind_in s) (node (graph_of ns es) r).access) (sym q) ((w.marks v h).access m)

  -- what arrives at a covered node is what its mark brings
  pub settled : (v : ℕ) → v < length (node_rows ns) → Covered es (done_of es plan i) (pos v) → (x b : ℤ)
      → Walk (kind_in s) (graph_of ns es) (root_in s) x (pos v) b ↔ ((is_met s v ≡ true) × Brings (kind_in s) (graph_of ns es) (root_in s) (reference_at s v) x b)
  settled v h c x b = by-met (is_met s v) refl
    where
      mark : RightMark (kind_in s) (graph_of ns es) (root_in s) (done_of es plan i) s v
      mark = w.marks v h

      Here : Type 0
      Here = Walk (kind_in s) (graph_of ns es) (root_in s) x (pos v) b ↔ ((is_met s v ≡ true) × Brings (kind_in s) (graph_of ns es) (root_in s) (reference_at s v) x b)

      unrooted : is_met s v ≡ false → Walk (kind_in s) (graph_of ns es) (root_in s) x (pos v) b → root_in s ≢ pos v
      unrooted n y q = not_both (w.root_met (walk_start y).access v (sym q)) n

      itself : is_met s v ≡ true → (reference_at s v).owner ≡ pos v → Here
      itself m q =
          let e = own_brings (kind_in s) (graph_of ns es) (root_in s) (pos v) x b in
          let z = mark.itself m q in (
            λ y. (m, subst (λ (f : Reference). Brings (kind_in s) (graph_of ns es) (root_in s) f x b) (sym z) (e.1 y)),
            λ y. e.0 (subst (λ (f : Reference). Brings (kind_in s) (graph_of ns es) (root_in s) f x b) z y.1),
          )

      other : is_met s v ≡ true → ((reference_at s v).owner ≡ pos v → ⊥) → Here
      other m n =
          let k = came_all (pos v) (λ q. n (w.root_own (met-root v h m q) v (sym q))) c x b in
          let z = mark.other m n x b in
          (λ y. (m, z.0 (k.1 y)), λ y. k.0 (z.1 y.1))

      by-owner : is_met s v ≡ true → (t : Bool) → Test ((reference_at s v).owner ≡ pos v) ((reference_at s v).owner ≢ pos v) t → Here
      by-owner m true (passed q) = itself m q
      by-owner m false (failed n) = other m n

      by-met : (t : Bool) → is_met s v ≡ t → Here
      by-met true m = by-owner m (eq_z (reference_at s v).owner (pos v)) (eq_z? (reference_at s v).owner (pos v))
      by-met false m = (
        λ y. absurd (mark.unmet m x b ((came_all (pos v) (unrooted m y) c x b).1 y)),
        λ y. absurd (not_both y.0 m),
      )
