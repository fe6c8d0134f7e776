-- The classes of nodes: what the pass over the nodes and the pass over the edges leave, and that a node has a class exactly where the test for a
-- root or for a leaf passes.
use mathlib.Core.Path.{◌≡◌, refl, sym, ap, subst, fun_ext, ◌∙◌}
use mathlib.Core.Bool.{Bool, true, false, not, cond, ◌&&◌, ◌||◌}
use mathlib.Core.Logic.{inl, inr}
use mathlib.Core.List.Memᴰ
use mathlib.Core.List.{List, [], ◌∷◌, ◌++◌, map}
use Prim.Native.Nat.{ℕ, zero, suc, ◌+◌, ◌*◌, ◌/◌, ◌≤◌, ◌<◌}
use native.Mathlib.Omega.{arith}
use borrow.Author.Tests.{lt-ltb}
use lib.Dec.{T, eqb, ltb}
use lib.IntN.{ℤ, pos, negsuc}
use lib.Signed.{◌≤ℤ◌, ◌<ℤ◌}
use lib.ListN.{length, get_or, set, take, drop, replicate, length-map, length-set, length-replicate, get_or-append}
use lib.Seq.{take_all, take_at, ext_get_or, set-append_left, get_or-set_same, get_or-set_other}
use Rattle.integers.specs.Integers.{eq_z}
use Rattle.integers.proofs.Linear.{ints}
use Rattle.integers.proofs.Tests.{Test, passed, failed, eq?, ltb?, eq_z→eq}
use Rattle.lists.specs.Lists.{◌∈◌, any}
use Rattle.lists.proofs.Places.{map_at}
use Rattle.model.specs.Limits.{node_width, edge_width, max_nodes}
use Rattle.model.specs.Rows.{Edge, edges_from, node_rows, edge_rows}
use Rattle.model.specs.Graph.{Graph, graph_of, NodeRow, no_node, node, space, segment, block}
use Rattle.model.specs.Refusals.{Kind}
use Rattle.model.specs.Taken.{Taken, TakenTables}
use Rattle.model.specs.Checks.{is_row, is_root, is_leaf}
use Rattle.model.proofs.Taken.{taken_bounds}
use Rattle.tables.specs.Tables.{edge_at}
use Rattle.tables.proofs.Limits.{row_below}
use Rattle.tables.proofs.Rows.{nodes_length, nodes-at, edges-rest, edges_end, edge_member}
use Rattle.pairing.specs.Classes.{other, root, leaf, has_class}
use Rattle.paircheck.specs.Classes.{class_of, classes_of, classes_over, Classifiable, kind_class, kinds_over, entered_class, entered_at, entered_by, EntersWithin}

-- ---- lists

-- the images of the first rows in front of a list, and the image of the next row stored behind them
front-more : {A : Type 0} (f : A → ℕ) (rows : List A) (old : List ℕ) (d : A) (v : ℕ) → v < length rows → v < length old
    → set (map f (take v rows) ++ drop v old) v (f (get_or rows v d)) ≡ map f (take (suc v) rows) ++ drop (suc v) old
front-more f [] old d v h k = absurd (omega arith)
front-more f (x ∷ rows) [] d v h k = absurd (omega arith)
front-more f (x ∷ rows) (y ∷ old) d zero h k = refl
front-more f (x ∷ rows) (y ∷ old) d (suc v) h k = ap (λ t. f x ∷ t) (front-more f rows old d v (omega arith) (omega arith))

-- ---- the pass over the nodes

module _ (ns : List ℤ) (old : List ℕ) where
  -- the state between two turns: the first v nodes have the classes of their kinds
  abbrev pub kinds_up_to : ℕ → List ℕ
  kinds_up_to v = map (λ n. kind_class n.kind) (take v (node_rows ns)) ++ drop v old

  -- one turn
  pub kinds_more : (v : ℕ) → node_width * v + node_width ≤ length ns → v < length old
      → set (kinds_up_to v) v (kind_class (get_or ns (node_width * v) (pos 0))) ≡ kinds_up_to (suc v)
  kinds_more v h k =
      ap (λ n. set (kinds_up_to v) v (kind_class n.kind)) (sym (nodes-at ns v h))
      ∙ front-more (λ n. kind_class n.kind) (node_rows ns) old no_node v (omega (arith, nodes_length ns)) k

  -- behind the last turn
  pub kinds_all : (v : ℕ) → node_width * v ≤ length ns → length ns < node_width * v + node_width → kinds_up_to v ≡ kinds_over ns old
  unfolding kinds_over
  kinds_all v h k =
      let e : v ≡ length (node_rows ns) = omega (arith, nodes_length ns) in
      ap (λ l. map (λ n. kind_class n.kind) l ++ drop v old) (take_all v (node_rows ns) (omega arith))
      ∙ ap (λ j. map (λ n. kind_class n.kind) (node_rows ns) ++ drop j old) e

-- ---- the pass over the edges

-- a node entered twice has the class of one entered once
entered_again : (c : ℕ) → entered_class (entered_class c) ≡ entered_class c
unfolding entered_class
entered_again c = go (eqb c root) refl
  where
    go : (t : Bool) → eqb c root ≡ t → cond (eqb (cond t other c) root) other (cond t other c) ≡ cond t other c
    go true e = refl
    go false e = rw e

-- an edge leaves as many classes as there are
pub entered_length : (class : List ℕ) (v : ℤ) → length (entered_at class v) ≡ length class
unfolding entered_at
entered_length class (pos v) = length-set class v (entered_class (get_or class v other))
entered_length class (negsuc v) = refl

-- and so do all edges
entered_by_length : (es : List Edge) (class : List ℕ) → length (entered_by es class) ≡ length class
unfolding entered_by
entered_by_length [] class = refl
entered_by_length (e ∷ es) class = entered_by_length es (entered_at class e.to) ∙ entered_length class e.to

-- an edge that enters a node of the front leaves the rest
entered_append : (front rest : List ℕ) (v : ℤ) → (pos 0 ≤ℤ v) × (v <ℤ pos (length front)) → entered_at (front ++ rest) v ≡ entered_at front v ++ rest
unfolding entered_at
entered_append front rest (pos v) h =
    let k : v < length front = omega (arith, ints, h.1) in
    ap (λ c. set (front ++ rest) v (entered_class c)) (get_or-append front rest other v k)
    ∙ set-append_left front rest v (entered_class (get_or front v other)) k
entered_append front rest (negsuc v) h = absurd (omega (arith, ints, h.0))

-- and so do all edges
entered_by_append : (es : List Edge) (front rest : List ℕ) → ((e : Edge) → e ∈ es → (pos 0 ≤ℤ e.to) × (e.to <ℤ pos (length front)))
    → entered_by es (front ++ rest) ≡ entered_by es front ++ rest
unfolding entered_by
entered_by_append [] front rest h = refl
entered_by_append (e ∷ es) front rest h =
    ap (entered_by es) (entered_append front rest e.to (h e (Memᴰ.head refl)))
    ∙ entered_by_append es (entered_at front e.to) rest
    (λ x m. subst (λ (n : ℕ). (pos 0 ≤ℤ x.to) × (x.to <ℤ pos n)) (sym (entered_length front e.to)) (h x (Memᴰ.tail m)))

-- one turn: the next edge enters node `to`, which gets the class c
pub entered_next : (es : List ℤ) (class : List ℕ) (e to c : ℕ) → edge_width * e + edge_width ≤ length es → pos to ≡ (edge_at es e).to
    → c ≡ entered_class (get_or class to other)
    → entered_by (edges_from e (drop (edge_width * e) es)) class ≡ entered_by (edges_from (suc e) (drop (edge_width * suc e) es)) (set class to c)
unfolding entered_by entered_at
entered_next es class e to c there q r =
    let later = edges_from (suc e) (drop (edge_width * suc e) es) in
    ap (λ rows. entered_by rows class) (edges-rest es e there)
    ∙ ap (λ v. entered_by later (entered_at class v)) (sym q)
    ∙ ap (λ x. entered_by later (set class to x)) (sym r)

-- behind the last turn
pub entered_end : (es : List ℤ) (class : List ℕ) (e : ℕ) → length es < edge_width * e + edge_width
    → entered_by (edges_from e (drop (edge_width * e) es)) class ≡ class
unfolding entered_by
entered_end es class e h = ap (λ rows. entered_by rows class) (edges_end es e h)

-- the class of node v after an edge
entered-at : (class : List ℕ) (w : ℤ) (v : ℕ) → v < length class
    → get_or (entered_at class w) v other ≡ cond (eq_z w (pos v)) (entered_class (get_or class v other)) (get_or class v other)
unfolding entered_at
entered-at class (negsuc w) v h = refl
entered-at class (pos w) v h = go (eqb w v) (eq? w v)
  where
    go : (t : Bool) → Test (w ≡ v) (w ≡ v → ⊥) t
        → get_or (set class w (entered_class (get_or class w other))) v other ≡ cond t (entered_class (get_or class v other)) (get_or class v other)
    go true (passed e) =
        ap (λ k. get_or (set class k (entered_class (get_or class k other))) v other) e
        ∙ get_or-set_same class v (entered_class (get_or class v other)) other h
    go false (failed n) = get_or-set_other class w v (entered_class (get_or class w other)) other (λ e. n (sym e))

-- the class of node v after all edges
entered_by-at : (es : List Edge) (class : List ℕ) (v : ℕ) → v < length class
    → get_or (entered_by es class) v other
    ≡ cond (any (λ e. eq_z e.to (pos v)) es) (entered_class (get_or class v other)) (get_or class v other)
unfolding entered_by any
entered_by-at [] class v h = refl
entered_by-at (e ∷ es) class v h =
    let x = get_or class v other in
    let later = any (λ d. eq_z d.to (pos v)) es in
    entered_by-at es (entered_at class e.to) v (omega (arith, entered_length class e.to))
    ∙ ap (λ c. cond later (entered_class c) c) (entered-at class e.to v h)
    ∙ either (eq_z e.to (pos v)) later x
  where
    either : (a b : Bool) (x : ℕ) → cond b (entered_class (cond a (entered_class x) x)) (cond a (entered_class x) x) ≡ cond (a || b) (entered_class x) x
    either true true x = entered_again x
    either true false x = refl
    either false b x = refl

-- ---- both passes

-- a node row of a taken graph has the class of its kind, or of its kind and entered
class_passes : (g : Graph) (v : ℤ) → Taken g → NodeRow g v → is_row g v ≡ true
    → cond (any (λ e. eq_z e.to v) g.edges) (entered_class (kind_class (node g v).kind)) (kind_class (node g v).kind) ≡ class_of g v
unfolding class_of is_root is_leaf kind_class entered_class
class_passes g v k r row = rw row (go (node g v).kind (taken_bounds k r).kind (any (λ e. eq_z e.to v) g.edges))
  where
    by : (kind : ℤ) → Bool → Type 0
    by kind a =
        cond a (cond (eqb (cond (eq_z kind block) leaf root) root) other (cond (eq_z kind block) leaf root)) (cond (eq_z kind block) leaf root)
        ≡ cond (true && (eq_z kind space || eq_z kind segment) && not a) root (cond (true && eq_z kind block) leaf other)

    go : (kind : ℤ) → Kind kind → (a : Bool) → by kind a
    go kind (inl e) true = subst (λ (z : ℤ). by z true) (sym e) refl
    go kind (inl e) false = subst (λ (z : ℤ). by z false) (sym e) refl
    go kind (inr (inl e)) true = subst (λ (z : ℤ). by z true) (sym e) refl
    go kind (inr (inl e)) false = subst (λ (z : ℤ). by z false) (sym e) refl
    go kind (inr (inr e)) true = subst (λ (z : ℤ). by z true) (sym e) refl
    go kind (inr (inr e)) false = subst (λ (z : ℤ). by z false) (sym e) refl

module _ (ns es : List ℤ) where
  -- there are as many classes as nodes
  pub classes_length : length (classes_of (graph_of ns es)) ≡ length (node_rows ns)
  unfolding classes_of graph_of
  classes_length = length-map (node_rows ns) (λ n. class_of (graph_of ns es) (pos n.row))

  -- at each place stands the class of the node
  pub classes_at : (v : ℕ) → v < length (node_rows ns) → get_or (classes_of (graph_of ns es)) v other ≡ class_of (graph_of ns es) (pos v)
  unfolding classes_of graph_of
  classes_at v h =
      let g = graph_of ns es in
      map_at (λ n. class_of g (pos n.row)) (node_rows ns) v other no_node h
      ∙ ap (λ n. class_of g (pos n.row)) (nodes-at ns v (omega (arith, nodes_length ns)))

  -- a number below the number of nodes is a node row
  row_test : (v : ℕ) → ltb v (length (node_rows ns)) ≡ is_row (graph_of ns es) (pos v)
  unfolding graph_of
  row_test v = row_below (graph_of ns es) (pos v) (omega (arith, ints))

module _ (ns es : List ℤ) (k : TakenTables ns es) where
  -- an edge of taken tables enters a node row
  enters-row : (e : Edge) → e ∈ edge_rows es → (pos 0 ≤ℤ e.to) × (e.to <ℤ pos (length (node_rows ns)))
  unfolding graph_of
  enters-row e m = let r = (k.graph.ends e m).1 in (r.low, r.high)

  -- so every edge enters a node that has a class
  pub enters-within : (class : List ℕ) → length (node_rows ns) ≤ length class → EntersWithin es class
  enters-within class room e h =
      let r = enters-row (edge_at es e) (edge_member es e (omega arith)) in
      (r.0, omega (arith, ints, r.1))

  -- the class of node v after both passes
  class_found : (v : ℕ) → v < length (node_rows ns)
      → get_or (entered_by (edge_rows es) (map (λ n. kind_class n.kind) (node_rows ns))) v other ≡ class_of (graph_of ns es) (pos v)
  unfolding node graph_of
  class_found v h =
      let g = graph_of ns es in
      let kinds = map (λ n. kind_class n.kind) (node_rows ns) in
      let entered = any (λ e. eq_z e.to (pos v)) (edge_rows es) in
      entered_by-at (edge_rows es) kinds v (omega (arith, length-map (node_rows ns) (λ n. kind_class n.kind)))
      ∙ ap (λ c. cond entered (entered_class c) c) (map_at (λ n. kind_class n.kind) (node_rows ns) v other no_node h)
      ∙ class_passes g (pos v) k.graph (record { low = omega (arith, ints); high = omega (arith, ints) })
      (sym (row_test ns es v) ∙ lt-ltb v (length (node_rows ns)) h)

  -- the classes of all nodes after both passes
  classes_same : entered_by (edge_rows es) (map (λ n. kind_class n.kind) (node_rows ns)) ≡ classes_of (graph_of ns es)
  classes_same =
      let kinds = map (λ n. kind_class n.kind) (node_rows ns) in
      let size : length (entered_by (edge_rows es) kinds) ≡ length (node_rows ns) =
      entered_by_length (edge_rows es) kinds ∙ length-map (node_rows ns) (λ n. kind_class n.kind) in
      ext_get_or other (entered_by (edge_rows es) kinds) (classes_of (graph_of ns es)) (size ∙ sym (classes_length ns es))
      (λ v h. let j : v < length (node_rows ns) = omega (arith, h, size) in class_found v j ∙ sym (classes_at ns es v j))

  -- both passes leave the classes of all nodes in front of what stood behind them
  pub classes_found : (old : List ℕ) → length (node_rows ns) ≤ length old
      → entered_by (edge_rows es) (kinds_over ns old) ≡ classes_over (graph_of ns es) old
  unfolding kinds_over classes_over graph_of
  classes_found old room =
      let kinds = map (λ n. kind_class n.kind) (node_rows ns) in
      entered_by_append (edge_rows es) kinds (drop (length (node_rows ns)) old)
      (λ e m. subst (λ (n : ℕ). (pos 0 ≤ℤ e.to) × (e.to <ℤ pos n)) (sym (length-map (node_rows ns) (λ n. kind_class n.kind))) (enters-row e m))
      ∙ ap (λ l. l ++ drop (length (node_rows ns)) old) classes_same

  -- there is room for a class for each node of taken tables
  pub classes_room : Classifiable ns es (replicate max_nodes other)
  classes_room = record { tables = k; room = omega (arith, k.nodes.few, nodes_length ns, length-replicate max_nodes other) }

  -- there are as many classes as the code counts node rows, and no more than the limit
  pub classes_size : {l : List ℕ} → l ≡ classes_of (graph_of ns es) → (length ns / node_width ≡ length l) × (length l ≤ max_nodes)
  classes_size {l} e =
      let size : length l ≡ length ns / node_width = ap length e ∙ classes_length ns es ∙ nodes_length ns in
      (sym size, omega (arith, size, k.nodes.few))

-- what stands in front
pub classes_front : (ns es : List ℤ) (old : List ℕ) → take (length ns / node_width) (classes_over (graph_of ns es) old) ≡ classes_of (graph_of ns es)
unfolding classes_over
classes_front ns es old =
    take_at (classes_of (graph_of ns es)) (drop (length (graph_of ns es).nodes) old) (length ns / node_width) (classes_length ns es ∙ nodes_length ns)

-- ---- the classes of roots and of leaves

-- the class of a node tells whether it is a root
root_told : (row above unentered below : Bool)
    → row && eqb (cond (row && above && unentered) root (cond (row && below) leaf other)) root ≡ row && above && unentered
root_told false a u b = refl
root_told true true true b = refl
root_told true true false true = refl
root_told true true false false = refl
root_told true false u true = refl
root_told true false u false = refl

-- and whether it is a leaf, for no node is of both kinds
leaf_told : (row above unentered below : Bool) → (T above → T below → ⊥)
    → row && eqb (cond (row && above && unentered) root (cond (row && below) leaf other)) leaf ≡ row && below
leaf_told false a u b apart = refl
leaf_told true true true true apart = absurd (apart tt tt)
leaf_told true true true false apart = refl
leaf_told true true false true apart = refl
leaf_told true true false false apart = refl
leaf_told true false u true apart = refl
leaf_told true false u false apart = refl

-- a space or segment is no block
kinds_apart : (kind : ℤ) → T (eq_z kind space || eq_z kind segment) → T (eq_z kind block) → ⊥
kinds_apart kind a b = subst (λ (k : ℤ). T (eq_z k space || eq_z k segment)) (eq_z→eq kind block b) a

module _ (ns es : List ℤ) where
  -- a number has a class exactly where it is a node row of that class
  class_test : (wanted : ℕ) (v : ℤ)
      → has_class (classes_of (graph_of ns es)) wanted v ≡ is_row (graph_of ns es) v && eqb (class_of (graph_of ns es) v) wanted
  unfolding has_class is_row
  class_test wanted (negsuc v) = refl
  class_test wanted (pos v) =
      let g = graph_of ns es in
      ap (λ n. ltb v n && eqb (get_or (classes_of g) v other) wanted) (classes_length ns es)
      ∙ go (ltb v (length (node_rows ns))) (ltb? v (length (node_rows ns)))
      ∙ ap (λ t. t && eqb (class_of g (pos v)) wanted) (row_test ns es v)
    where
      go : (t : Bool) → Test (v < length (node_rows ns)) (length (node_rows ns) ≤ v) t
          → t && eqb (get_or (classes_of (graph_of ns es)) v other) wanted ≡ t && eqb (class_of (graph_of ns es) (pos v)) wanted
      go true (passed h) = ap (λ c. eqb c wanted) (classes_at ns es v h)
      go false (failed h) = refl

  -- it has the class of roots exactly where it is a root
  pub class_root : has_class (classes_of (graph_of ns es)) root ≡ is_root (graph_of ns es)
  unfolding class_of is_root is_leaf
  class_root =
      let g = graph_of ns es in
      fun_ext
      (λ v. class_test root v
      ∙ root_told (is_row g v) (eq_z (node g v).kind space || eq_z (node g v).kind segment) (not (any (λ e. eq_z e.to v) g.edges))
      (eq_z (node g v).kind block))

  -- and that of leaves exactly where it is a leaf
  pub class_leaf : has_class (classes_of (graph_of ns es)) leaf ≡ is_leaf (graph_of ns es)
  unfolding class_of is_root is_leaf
  class_leaf =
      let g = graph_of ns es in
      fun_ext
      (λ v. class_test leaf v
      ∙ leaf_told (is_row g v) (eq_z (node g v).kind space || eq_z (node g v).kind segment) (not (any (λ e. eq_z e.to v) g.edges))
      (eq_z (node g v).kind block) (kinds_apart (node g v).kind))
