-- What a walk along the links goes over: exactly the edges that leave a node and can still reach the leaf, in table order.
use mathlib.Core.Path.{◌≡◌, refl, ap, subst, ◌∙◌}
use mathlib.Core.Bool.{Bool, true, false, not, cond}
use mathlib.Core.List.Memᴰ
use mathlib.Core.List.{List, [], ◌∷◌, ◌++◌, map, flat_map}
use mathlib.Core.Logic.{◌↔◌}
use Prim.Native.Nat.{ℕ, zero, suc, ◌<◌}
use native.Mathlib.Omega.{arith}
use lib.Dec.{T, T_not, ltb}
use lib.IntN.{ℤ, pos, negsuc}
use lib.ListN.{length, get_or, drop, get_or-append, length-map}
use Rattle.integers.specs.Integers.{eq_z}
use Rattle.integers.proofs.Linear.{ints}
use Rattle.integers.proofs.Tests.{Test, passed, failed, test?, eq_z?, ltb?, of_test, test_of, and_in, and_out}
use Rattle.lists.specs.Lists.{◌∈◌, keep}
use Rattle.lists.proofs.Places.{map_at}
use Rattle.model.specs.Rows.{Edge, edge_rows}
use Rattle.model.specs.Graph.{Graph, graph_of, NodeRow}
use Rattle.model.specs.Taken.{Taken}
use Rattle.model.specs.Runs.{leaving, paths_within}
use Rattle.model.proofs.Paths.{Fit, within-sound}
use Rattle.tables.specs.Tables.{edge_at}
use Rattle.tables.proofs.Rows.{edges_length, edges_at}
use Rattle.reach.specs.Counting.{path_count, stopped, counts_of, counts_over}
use Rattle.reach.specs.Links.{first_row, count_at, matters, heads_of, nexts_of, Linked}
use Rattle.reach.proofs.Counting.{empty-list, count-some, stopped-some}
use Rattle.reach.proofs.Values.{values-before}
use Rattle.reach.proofs.FirstRow.{first_row_passes}
use Rattle.reach.proofs.Links.{matters-from}

-- ---- lists of lists

not_some : (n : ℕ) → (0 < n → ⊥) → n ≡ 0
not_some zero h = refl
not_some (suc n) h = absurd (h (omega arith))

-- a second test that keeps less gives the same lists, where those that it leaves out are empty
flat_map_keep : {A B : Type 0} (f : A → List B) (p q : A → Bool) (l : List A) → ((x : A) → x ∈ l → T (q x) → T (p x))
    → ((x : A) → x ∈ l → T (p x) → T (not (q x)) → f x ≡ []) → flat_map f (keep p l) ≡ flat_map f (keep q l)
unfolding flat_map keep
flat_map_keep f p q [] h k = refl
flat_map_keep {B} f p q (x ∷ l) h k =
    go (p x) (test? (p x)) (q x) (test? (q x)) (h x (Memᴰ.head refl)) (k x (Memᴰ.head refl))
    (flat_map_keep f p q l (λ y m. h y (Memᴰ.tail m)) (λ y m. k y (Memᴰ.tail m)))
  where
    go : (s : Bool) → Test (T (p x)) (T (not (p x))) s → (t : Bool) → Test (T (q x)) (T (not (q x))) t → (T (q x) → T (p x))
        → (T (p x) → T (not (q x)) → f x ≡ []) → flat_map f (keep p l) ≡ flat_map f (keep q l)
        → flat_map f (cond s (x ∷ keep p l) (keep p l)) ≡ flat_map f (cond t (x ∷ keep q l) (keep q l))
    go true (passed a) true (passed b) into none rest = ap (λ (r : List B). f x ++ r) rest
    go true (passed a) false (failed b) into none rest = ap (λ (r : List B). r ++ flat_map f (keep p l)) (none a b) ∙ rest
    go false (failed a) true (passed b) into none rest = absurd (T_not (p x) a (into b))
    go false (failed a) false (failed b) into none rest = rest

-- ---- the counts of a pass

module _ (g : Graph) (l : ℤ) (old : List ℕ) where
  -- the count of a node is the number of its paths, stopped
  pub count_at_lem : (v : ℕ) → v < length g.nodes → get_or (counts_over g l old) v 0 ≡ stopped (path_count g (pos v) l)
  unfolding counts_over counts_of
  count_at_lem v h = values-before (λ v. stopped (path_count g (pos v) l)) 0 (length g.nodes) (drop (length g.nodes) old) v h

  count-row : (v : ℤ) → NodeRow g v → count_at (counts_over g l old) v ≡ stopped (path_count g v l)
  unfolding count_at
  count-row (pos v) r = count_at_lem v (omega (arith, ints, r.high))
  count-row (negsuc v) r = absurd (omega (arith, ints, r.low))

  -- an edge of a taken graph matters exactly where it leaves v and some path leads on to the leaf
  pub matters_reaches : Taken g → (v : ℤ) {e : Edge} → e ∈ g.edges → T (matters (counts_over g l old) v e) ↔ ((e.from ≡ v) × (0 < path_count g e.to l))
  unfolding matters
  matters_reaches k v {e} m =
      let counts = counts_over g l old in
      let row = count-row e.to (k.ends e m).1 in (
        λ t.
            let w = and_out (eq_z e.from v) (ltb 0 (count_at counts e.to)) t in
            let some = test_of (ltb? 0 (count_at counts e.to)) w.1 in
            (test_of (eq_z? e.from v) w.0, (stopped-some (path_count g e.to l)).0 (omega (arith, some, row))),
        λ w.
            let some = (stopped-some (path_count g e.to l)).1 w.1 in
            and_in (eq_z e.from v) (ltb 0 (count_at counts e.to)) (of_test (eq_z? e.from v) (λ n. n w.0))
            (of_test (ltb? 0 (count_at counts e.to)) (λ z. omega (arith, some, z, row))),
      )

  -- what the edges that leave v give, one after the other, is what those that matter give, where an edge that reaches no leaf gives nothing
  pub leaving-matters : {B : Type 0} → Taken g → (v : ℤ) (f : Edge → List B) → ((e : Edge) → e ∈ g.edges → path_count g e.to l ≡ 0 → f e ≡ [])
      → flat_map f (leaving g v) ≡ flat_map f (keep (matters (counts_over g l old) v) g.edges)
  unfolding leaving
  leaving-matters k v f none =
      flat_map_keep f (λ e. eq_z e.from v) (matters (counts_over g l old) v) g.edges
      (λ e m t. of_test (eq_z? e.from v) (λ n. n ((matters_reaches k v m).0 t).0))
      (λ e m t u. none e m (not_some (path_count g e.to l)
      (λ h. T_not (matters (counts_over g l old) v e) u ((matters_reaches k v m).1 (test_of (eq_z? e.from v) t, h)))))

-- from a node with no path to the leaf, no number of edges makes one
pub within_none : {g : Graph} {l : ℤ} (k : ℕ) (v : ℤ) → Fit g l → path_count g v l ≡ 0 → paths_within k g v l ≡ []
within_none {g} {l} k v f z =
    empty-list (paths_within k g v l) (λ p m. let h = (count-some f).1 (p, within-sound k m) in omega (arith, h, z))

-- ---- the links

module _ {counts : List ℕ} {g : Graph} {head next head' next' : List ℕ} (k : Linked counts g head next head' next') where
  -- the head of a node is the first edge that leaves it and matters
  pub head_at_lem : (v : ℕ) → v < length g.nodes → get_or head' v 0 ≡ first_row (matters counts (pos v)) 0 g.edges
  unfolding heads_of
  head_at_lem v h =
      ap (λ t. get_or t v 0) k.heads
      ∙ values-before (λ v. first_row (matters counts (pos v)) 0 g.edges) 0 (length g.nodes) (drop (length g.nodes) head) v h

-- behind an edge of a walk along the links of v follows the next edge that leaves v and matters
pub next-at : (ns es : List ℤ) {counts head next head' next' : List ℕ} → Linked counts (graph_of ns es) head next head' next' → (v : ℤ) (i : ℕ)
    → first_row (matters counts v) i (edge_rows es) < length (edge_rows es)
    → get_or next' (first_row (matters counts v) i (edge_rows es)) 0 ≡ first_row (matters counts v) (suc (first_row (matters counts v) i (edge_rows es))) (edge_rows es)
unfolding graph_of nexts_of
next-at ns es {counts} {next} {next'} k v i h =
    let r = first_row (matters counts v) i (edge_rows es) in
    let edge = edges_at es r (edge_at es r) (omega (arith, h, edges_length es)) in
    let passes = first_row_passes (matters counts v) (edge_at es r) i (edge_rows es) h in
    let leaves = matters-from counts v (edge_at es r) (subst (λ (e : Edge). T (matters counts v e)) edge passes) in
    ap (λ t. get_or t r 0) k.nexts
    ∙ get_or-append (map link (edge_rows es)) (drop (length (edge_rows es)) next) 0 r (omega (arith, h, length-map (edge_rows es) link))
    ∙ map_at link (edge_rows es) r 0 (edge_at es r) h
    ∙ ap link edge
    ∙ ap (λ w. first_row (matters counts w) (suc r) (edge_rows es)) leaves
  where
    link : Edge → ℕ
    link e = first_row (matters counts e.from) (suc e.row) (edge_rows es)
