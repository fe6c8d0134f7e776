-- The listed paths are exactly the ways from root to leaf, each listed once; there are more than 1,024 of them exactly where more are listed.
use mathlib.Core.Path.{◌≡◌, refl, sym, ap, subst}
use mathlib.Core.Bool.{Bool, true, false}
use mathlib.Core.List.Memᴰ
use mathlib.Core.List.{List, [], ◌∷◌, map, flat_map, append-nil}
use mathlib.Core.Logic.{◌≢◌, ◌↔◌, ◌⊎◌, inl, inr, ⊎_elim}
use Prim.Native.Nat.{ℕ, zero, suc, ◌≤◌, ◌<◌}
use native.Mathlib.Nat.{lt_irrefl, le_of_lt}
use native.Mathlib.Omega.{arith}
use lib.IntN.{ℤ}
use lib.Dec.{ltb}
use lib.ListN.{length}
use Rattle.integers.specs.Integers.{eq_z}
use Rattle.integers.proofs.Tests.{Test, passed, failed, eq_z?, ltb?, test_of, of_test}
use Rattle.lists.specs.Lists.{◌∈◌, Distinct, none, more}
use Rattle.lists.proofs.Membership.{keep_in, keep_out, map_in, map_out, flat_map_in, flat_map_out, cond_out, cond_true, cond_false}
use Rattle.model.specs.Limits.{max_chain, max_paths}
use Rattle.model.specs.Rows.{Edge, edges_from, edge_rows}
use Rattle.model.specs.Graph.{Graph}
use Rattle.model.specs.Paths.{Way, stay, over, ManyPaths, LongChain}
use Rattle.model.specs.Runs.{leaving, paths_within, paths}
use Rattle.model.specs.Checks.{many_paths}
use Rattle.lists.proofs.Distinct.{distinct_length, keep-distinct, cond_distinct, map_distinct, flat_map_distinct}

-- what a graph that meets no condition for a refusal and a leaf of it have: no long chain, and no edge that leaves the leaf
pub record Fit (g : Graph) (l : ℤ) : Type 0 where
  pub short : LongChain g → ⊥
  pub ends : (e : Edge) → e ∈ g.edges → e.from ≢ l

-- ---- the edges that leave a node

-- an edge of the graph that starts at v leaves v
pub leaving_in : (g : Graph) {v : ℤ} {e : Edge} → e ∈ g.edges → e.from ≡ v → e ∈ leaving g v
unfolding leaving
leaving_in g {v} {e} m q = keep_in (λ d. eq_z d.from v) (of_test (eq_z? e.from v) (λ n. n q)) m

-- an edge that leaves v is an edge of the graph, and starts at v
pub leaving_out : (g : Graph) (v : ℤ) {e : Edge} → e ∈ leaving g v → (e ∈ g.edges) × (e.from ≡ v)
unfolding leaving
leaving_out g v {e} m = let w = keep_out (λ d. eq_z d.from v) g.edges m in (w.0, test_of (eq_z? e.from v) w.1)

-- the paths to l that begin with edge e, over at most k edges more
abbrev pub onward : ℕ → Graph → ℤ → Edge → List (List Edge)
onward k g l e = map (λ p. e ∷ p) (paths_within k g e.to l)

-- ---- the listed paths are ways

way_stays : {g : Graph} {v l : ℤ} {p : List Edge} → v ≡ l → p ∈ ([] ∷ []) → Way g v p l
way_stays {g} {v} {p} q m = subst (λ (w : ℤ). Way g v p w) q (subst (λ (p : List Edge). Way g v p v) (sym (Memᴰ.eq_of_singleton m)) stay)

-- the paths over at most k edges are ways
pub within-sound : (k : ℕ) {g : Graph} {v l : ℤ} {p : List Edge} → p ∈ paths_within k g v l → Way g v p l
unfolding paths_within
within-sound zero {g} {v} {l} m = ⊎_elim (λ c. way_stays c.0 c.1) (λ c. absurd (Memᴰ.not-nil c.1)) (cond_out (eq_z v l) (eq_z? v l) m)
within-sound (suc k) {g} {v} {l} {p} m = go (λ w q. within-sound k) (cond_out (eq_z v l) (eq_z? v l) m)
  where
    go : ((w : ℤ) (q : List Edge) → q ∈ paths_within k g w l → Way g w q l)
        → ((v ≡ l) × (p ∈ ([] ∷ []))) ⊎ ((v ≢ l) × (p ∈ flat_map (onward k g l) (leaving g v))) → Way g v p l
    go rec (inl c) = way_stays c.0 c.1
    go rec (inr c) =
        let w = flat_map_out (onward k g l) (leaving g v) c.1 in
        let e = w.0 in
        let u = map_out (λ q. e ∷ q) (paths_within k g e.to l) w.2 in
        let n = leaving_out g v w.1 in
        subst (λ (q : List Edge). Way g v q l) (sym u.2) (over e n.0 n.1 (rec e.to u.0 u.1))

-- every listed path is a way from root to leaf
pub paths-sound : {g : Graph} {r l : ℤ} {p : List Edge} → p ∈ paths g r l → Way g r p l
unfolding paths
paths-sound m = within-sound max_chain m

-- ---- every way to a leaf is listed

within-stay : (k : ℕ) (g : Graph) (l : ℤ) → [] ∈ paths_within k g l l
unfolding paths_within
within-stay zero g l = cond_true [] (eq_z l l) (eq_z? l l) (λ n. n refl) (Memᴰ.head refl)
within-stay (suc k) g l = cond_true (flat_map (onward k g l) (leaving g l)) (eq_z l l) (eq_z? l l) (λ n. n refl) (Memᴰ.head refl)

-- a way of at most k edges to a node that no edge leaves is among the paths over at most k edges
pub within-complete : {g : Graph} {v l : ℤ} {p : List Edge} (k : ℕ) → ((e : Edge) → e ∈ g.edges → e.from ≢ l) → Way g v p l → length p ≤ k
    → p ∈ paths_within k g v l
unfolding paths_within
within-complete {g} {l} k ends stay le = within-stay k g l
within-complete zero ends (over e m q w) le = absurd (omega arith)
within-complete {g} {v} {l} (suc k) ends (over e m q w) le =
    let rest = within-complete k ends w (omega arith) in
    cond_false ([] ∷ []) (eq_z v l) (eq_z? v l) (λ z. ends e m (rw (← z) q))
    (flat_map_in (onward k g l) (leaving_in g m q) (map_in (λ p. e ∷ p) rest))

-- without a long chain no way has more than 64 edges
pub way-short : {g : Graph} {v w : ℤ} {p : List Edge} → (LongChain g → ⊥) → Way g v p w → length p ≤ max_chain
way-short {g} {v} {w} {p} short y = go (ltb max_chain (length p)) (ltb? max_chain (length p))
  where
    go : (t : Bool) → Test (max_chain < length p) (length p ≤ max_chain) t → length p ≤ max_chain
    go true (passed h) = absurd (short (record { from = v; to = w; edges = p; long = h; chain = y }))
    go false (failed h) = h

-- every way from root to leaf is a listed path
pub paths-complete : {g : Graph} {r l : ℤ} {p : List Edge} → Fit g l → Way g r p l → p ∈ paths g r l
unfolding paths
paths-complete f w = within-complete max_chain f.ends w (way-short f.short w)

-- ---- each is listed once

rows-from : (i : ℕ) (es : List ℤ) {e : Edge} → e ∈ edges_from i es → i ≤ e.row
unfolding edges_from
rows-from i [] m = absurd (Memᴰ.not-nil m)
rows-from i (f ∷ []) m = absurd (Memᴰ.not-nil m)
rows-from i (f ∷ t ∷ []) m = absurd (Memᴰ.not-nil m)
rows-from i (f ∷ t ∷ o ∷ es) {e} m =
    ⊎_elim (λ q. let k : e.row ≡ i = ap (λ (d : Edge). d.row) q in omega arith) (λ n. le_of_lt (rows-from (suc i) es n)) (Memᴰ.cases_cons m)

edges_from-distinct : (i : ℕ) (es : List ℤ) → Distinct (edges_from i es)
unfolding edges_from
edges_from-distinct i [] = none
edges_from-distinct i (f ∷ []) = none
edges_from-distinct i (f ∷ t ∷ []) = none
edges_from-distinct i (f ∷ t ∷ o ∷ es) = more (λ m. lt_irrefl i (rows-from (suc i) es m)) (edges_from-distinct (suc i) es)

-- no edge row stands twice in the table: the rows' places differ
pub edges-distinct : (es : List ℤ) → Distinct (edge_rows es)
edges-distinct es = edges_from-distinct 0 es

-- the paths over at most k edges are listed once each
pub within-distinct : (k : ℕ) (g : Graph) (v l : ℤ) → Distinct g.edges → Distinct (paths_within k g v l)
unfolding paths_within leaving
within-distinct zero g v l d = cond_distinct (eq_z v l) (more Memᴰ.not-nil none) none
within-distinct (suc k) g v l d = cond_distinct (eq_z v l) (more Memᴰ.not-nil none) (onward_distinct (λ w. within-distinct k g w l d))
  where
    apart : (e d : Edge) (p : List Edge) → p ∈ onward k g l e → p ∈ onward k g l d → e ≡ d
    apart e d p m n =
        let a = map_out (λ q. e ∷ q) (paths_within k g e.to l) m in
        let b = map_out (λ q. d ∷ q) (paths_within k g d.to l) n in
        cc (a.2, b.2)

    onward_distinct : ((w : ℤ) → Distinct (paths_within k g w l)) → Distinct (flat_map (onward k g l) (leaving g v))
    onward_distinct rec =
        flat_map_distinct (onward k g l) (λ e. map_distinct (λ p. e ∷ p) (λ p q i j h. cc) (rec e.to)) (λ e f i j. apart e f) (keep-distinct (λ e. eq_z e.from v) d)

-- each path is listed once
pub paths-distinct : (g : Graph) (r l : ℤ) → Distinct g.edges → Distinct (paths g r l)
unfolding paths
paths-distinct g r l d = within-distinct max_chain g r l d

-- edges from a node lead to one node
way_end : {g : Graph} {v l m : ℤ} {p : List Edge} → Way g v p l → Way g v p m → l ≡ m
way_end stay stay = refl
way_end (over e i q w) (over d j s x) = way_end w x

-- there are more than 1,024 paths to some leaves exactly where more than 1,024 are listed for each of them together
pub many-paths : {g : Graph} {r : ℤ} {ls : List ℤ} → ((l : ℤ) → l ∈ ls → Fit g l) → Distinct ls → Distinct g.edges
    → ManyPaths g r ls ↔ (max_paths < length (flat_map (paths g r) ls))
many-paths {g} {r} {ls} f once d = (
  λ m.
      let k = distinct_length m.distinct (flat_map (paths g r) ls) (λ p n.
      let (l, i, w) = m.each p n in flat_map_in (paths g r) i (paths-complete (f l i) w)) in
      omega (arith, k, m.many),
  λ h. record {
    paths = flat_map (paths g r) ls;
    many = h;
    distinct = flat_map_distinct (paths g r) (λ l. paths-distinct g r l d) (λ l m a b p i j. way_end (paths-sound i) (paths-sound j)) once;
    each = λ p n. let (l, i, k) = flat_map_out (paths g r) ls n in (l, i, paths-sound k);
  },
)

-- to one leaf
pub paths_one : (g : Graph) (r l : ℤ) → flat_map (paths g r) (l ∷ []) ≡ paths g r l
unfolding flat_map
paths_one g r l = append-nil (paths g r l)

-- there are more than 1,024 exactly where the test says so
pub many_one : (g : Graph) (r l : ℤ) → many_paths g r (l ∷ []) ≡ ltb max_paths (length (paths g r l))
unfolding many_paths
many_one g r l = ap (λ ps. ltb max_paths (length ps)) (paths_one g r l)
