-- The checks of a pairing and of a comparison settle their conditions: each test on a pair row and on a visit decides its condition.
use mathlib.Core.Path.{◌≡◌, sym, ap, ◌∙◌, subst}
use mathlib.Core.Bool.{Bool, not, ◌&&◌}
use mathlib.Core.Logic.{◌≢◌, ◌⊎◌, ⊎_elim}
use mathlib.Core.List.{List, [], ◌∷◌, flat_map}
use mathlib.Core.Option.{Option}
use Prim.Native.Nat.{ℕ, ◌+◌, ◌*◌, ◌<◌}
use native.Mathlib.Omega.{arith}
use lib.IntN.{ℤ, pos}
use lib.Signed.{◌≤ℤ◌, ◌<ℤ◌}
use Rattle.integers.proofs.Linear.{ints}
use Rattle.integers.proofs.Tests.{Test, le?, eq_z?}
use Rattle.lists.specs.Lists.{◌∈◌, any, is_nil, Distinct}
use Rattle.lists.proofs.Membership.{map_out}
use Rattle.model.specs.Limits.{pair_width, max_pairs, last_at, root_stride}
use Rattle.model.specs.Rows.{Pair}
use Rattle.model.specs.Paths.{Root, Leaf, ManyPaths}
use Rattle.model.specs.Groups.{Bank, leaves_of}
use Rattle.model.specs.Compare.{Tables, spec_graph, impl_graph, root_rows, leaf_rows, banks, groups, Visit, visits, findings, result_of}
use Rattle.model.specs.Refusals.{Refusal, Condition, NoneHolds, refuse, ◌next◌, NotPaired, no_spec, no_impl, BadAt, low_at, high_at, SameRoot, SameImpl, PairedBefore, shape_conditions, pair_conditions, root_conditions, leaf_conditions, visit_conditions, pairing_conditions, graph_conditions, compare_conditions}
use Rattle.model.specs.Checks.{when, ◌then◌, first_refusal, good_at, same_root, same_impl, clashes, is_root, is_leaf, many_paths, check_shape, check_pair, check_visit, check_pairing, check_graph, check_tables}
use Rattle.model.specs.Calls.{compare_answer}
use Rattle.model.specs.Taken.{Taken, PairTaken}
use Rattle.lists.proofs.Decisions.{Decides, test_map, not?, and?, decides_and, decides_nil, any?, test_stable, decides_or, decides_lt}
use Rattle.model.proofs.Settled.{Settled, settled_next, settled_when, settled_each, none-next, none_flat_map, Exact, answer-exact}
use Rattle.model.proofs.GraphChecks.{shape_settled, is_root?, is_leaf?, graph_settled}
use Rattle.model.proofs.Taken.{graph-taken}
use Rattle.model.proofs.SingleChecks.{many_paths?, many_paths_one?}
use Rattle.model.proofs.Visits.{visits_in}
use Rattle.model.proofs.GroupRows.{group-leaf, bank_out, banks-distinct}

-- ---- pair rows

-- the test on `at` decides whether it is in its range
good_at? : (most : ℤ) (p : Pair) → Test ((pos 0 ≤ℤ p.at) × (p.at ≤ℤ most)) ((p.at <ℤ pos 0) ⊎ (most <ℤ p.at)) (good_at most p)
unfolding good_at
good_at? most p = and? (le? (pos 0) p.at) (le? p.at most)

-- and whether it is not
pub bad_at? : (most : ℤ) (p : Pair) → Decides (BadAt most p) (not (good_at most p))
bad_at? most p = test_map (λ c. ⊎_elim low_at high_at c) good (not? (good_at? most p))
  where
    good : (pos 0 ≤ℤ p.at) × (p.at ≤ℤ most) → BadAt most p → ⊥
    good h (low_at k) = omega (arith, ints, h.0, k)
    good h (high_at k) = omega (arith, ints, h.1, k)

-- the tests on two rows decide whether they are the same as root rows, and as leaf rows
pub same_root? : (q p : Pair) → Decides (SameRoot q p) (same_root q p)
unfolding same_root
same_root? q p = decides_or (eq_z? q.spec p.spec) (eq_z? q.impl p.impl)

pub same_impl? : (q p : Pair) → Decides (SameImpl q p) (same_impl q p)
unfolding same_impl
same_impl? q p = eq_z? q.impl p.impl

module _ {Same : Pair → Pair → Type 0} {same : Pair → Pair → Bool} (same? : (q p : Pair) → Decides (Same q p) (same q p)) where
  -- the test on two rows decides whether the one is earlier, and the same
  clashes? : (p q : Pair) → Decides ((q.row < p.row) × Same q p) (clashes same p q)
  unfolding clashes
  clashes? p q = decides_and (decides_lt q.row p.row) (same? q p)

  -- the test on all rows decides whether an earlier one is the same
  pub paired_before? : (rows : List Pair) (p : Pair) → Decides (PairedBefore Same rows p) (any (clashes same p) rows)
  paired_before? rows p =
      test_map (λ w. record { earlier = w.0; row = w.1; before = w.2.0; same = w.2.1 }) (λ n b. n b.earlier b.row (b.before, b.same))
      (any? (clashes? p) rows)

module _ {Spec Impl : ℤ → Type 0} {spec impl : ℤ → Bool} (spec? : (v : ℤ) → Decides (Spec v) (spec v)) (impl? : (v : ℤ) → Decides (Impl v) (impl v)) where
  -- the test on the two nodes of a row decides whether they are not as wanted
  pub not_paired? : (p : Pair) → Decides (NotPaired Spec Impl p) (not (spec p.spec && impl p.impl))
  not_paired? p = test_map (λ c. ⊎_elim no_spec no_impl c) good (not? (and? (spec? p.spec) (impl? p.impl)))
    where
      good : Spec p.spec × Impl p.impl → NotPaired Spec Impl p → ⊥
      good h (no_spec n) = n h.0
      good h (no_impl n) = n h.1

  module _ (t : ℕ) (most : ℤ) {Same : Pair → Pair → Type 0} {same : Pair → Pair → Bool} (same? : (q p : Pair) → Decides (Same q p) (same q p)) (rows : List Pair) where
    -- the check of a pair row settles its three conditions
    pub pair_settled : (p : Pair) → Settled (check_pair t spec impl most same rows p) (pair_conditions t Spec Impl most Same rows p)
    unfolding check_pair pair_conditions
    pair_settled p =
        let wrong = when (not (spec p.spec && impl p.impl)) 7 t p.row in
        let outside = when (not (good_at most p)) 16 t p.row in
        let again = when (any (clashes same p) rows) 8 t p.row in
        let Outside = refuse 16 t p.row (BadAt most p) in
        let Again = refuse 8 t p.row (PairedBefore Same rows p) in
        settled_next wrong (outside then again) (refuse 7 t p.row (NotPaired Spec Impl p)) (Outside next Again)
        (settled_when 7 t p.row (not_paired? p))
        (λ n. settled_next outside again Outside Again (settled_when 16 t p.row (bad_at? most p)) (λ m. settled_when 8 t p.row (paired_before? same? rows p)))

    -- the checks of all pair rows settle their conditions
    pub pairs_settled : Settled (first_refusal (check_pair t spec impl most same rows) rows) (flat_map (pair_conditions t Spec Impl most Same rows) rows)
    pairs_settled = settled_each (check_pair t spec impl most same rows) (pair_conditions t Spec Impl most Same rows) rows (λ p m. pair_settled p)

    -- what a row has none of whose conditions holds: two nodes as wanted, `at` in its range, and no earlier row is the same
    pub pairs-paired : NoneHolds (flat_map (pair_conditions t Spec Impl most Same rows) rows) → (p : Pair) → p ∈ rows → PairTaken Spec Impl most Same rows p
    unfolding pair_conditions
    pairs-paired h p m =
        let n = (none_flat_map (pair_conditions t Spec Impl most Same rows) rows).0 h p m in
        record {
          nodes = (test_stable (spec? p.spec) (λ k. n.0 (no_spec k)), test_stable (impl? p.impl) (λ k. n.0 (no_impl k)));
          range = test_stable (good_at? most p) (λ k. n.1.0 (⊎_elim low_at high_at k));
          once = n.1.1.0;
        }

-- ---- the pairing

-- what a pairing that meets no condition has: some root row and some leaf row, whose nodes are roots and leaves, `at` in its range, no root twice on a side, no implementation
-- leaf twice, and -- for no visit more than 1,024 paths
pub record Paired (t : Tables) : Type 0 where
  pub some_root : root_rows t ≢ []
  pub some_leaf : leaf_rows t ≢ []
  pub roots : (p : Pair) → p ∈ root_rows t → PairTaken (Root (spec_graph t)) (Root (impl_graph t)) (pos 0) SameRoot (root_rows t) p
  pub leaves : (p : Pair) → p ∈ leaf_rows t → PairTaken (Leaf (spec_graph t)) (Leaf (impl_graph t)) last_at SameImpl (leaf_rows t) p
  pub few_paths : (v : Visit) → v ∈ visits (root_rows t) (groups t)
      → (ManyPaths (spec_graph t) v.root.spec (v.leaf.spec ∷ []) → ⊥) × (ManyPaths (impl_graph t) v.root.impl (leaves_of (banks t v.leaf)) → ⊥)

module _ (t : Tables) where
  abbrev visits_conditions : List Condition
  visits_conditions = flat_map (visit_conditions t) (visits (root_rows t) (groups t))

  abbrev check_roots : Option Refusal
  check_roots = first_refusal (check_pair 4 (is_root (spec_graph t)) (is_root (impl_graph t)) (pos 0) same_root (root_rows t)) (root_rows t)

  abbrev check_leaves : Option Refusal
  check_leaves = first_refusal (check_pair 5 (is_leaf (spec_graph t)) (is_leaf (impl_graph t)) last_at same_impl (leaf_rows t)) (leaf_rows t)

  abbrev check_visits : Option Refusal
  check_visits = first_refusal (check_visit t) (visits (root_rows t) (groups t))

  -- the checks of root rows and of leaf rows settle their conditions
  roots_settled : Settled check_roots (root_conditions t)
  unfolding root_conditions
  roots_settled = pairs_settled (is_root? (spec_graph t)) (is_root? (impl_graph t)) 4 (pos 0) same_root? (root_rows t)

  leaves_settled : Settled check_leaves (leaf_conditions t)
  unfolding leaf_conditions
  leaves_settled = pairs_settled (is_leaf? (spec_graph t)) (is_leaf? (impl_graph t)) 5 last_at same_impl? (leaf_rows t)

  -- where no condition of them holds, they are taken
  roots-paired : NoneHolds (root_conditions t) → (p : Pair) → p ∈ root_rows t → PairTaken (Root (spec_graph t)) (Root (impl_graph t)) (pos 0) SameRoot (root_rows t) p
  unfolding root_conditions
  roots-paired = pairs-paired (is_root? (spec_graph t)) (is_root? (impl_graph t)) 4 (pos 0) same_root? (root_rows t)

  leaves-paired : NoneHolds (leaf_conditions t) → (p : Pair) → p ∈ leaf_rows t → PairTaken (Leaf (spec_graph t)) (Leaf (impl_graph t)) last_at SameImpl (leaf_rows t) p
  unfolding leaf_conditions
  leaves-paired = pairs-paired (is_leaf? (spec_graph t)) (is_leaf? (impl_graph t)) 5 last_at same_impl? (leaf_rows t)

  module _ (leaves : (p : Pair) → p ∈ leaf_rows t → PairTaken (Leaf (spec_graph t)) (Leaf (impl_graph t)) last_at SameImpl (leaf_rows t) p) where
    -- the banks of a group are leaves, each once
    pub bank_leaves : (l : Pair) (v : ℤ) → v ∈ leaves_of (banks t l) → Leaf (impl_graph t) v
    bank_leaves l v m =
        let (b, n, e) = map_out (λ (b : Bank). b.leaf) (banks t l) m in
        let (p, i, k, f) = bank_out t l n in
        subst (Leaf (impl_graph t)) (sym (e ∙ ap (λ (b : Bank). b.leaf) f)) (leaves p i).nodes.1

    pub bank_once : (l : Pair) → Distinct (leaves_of (banks t l))
    bank_once l = banks-distinct t l (λ p m. (leaves p m).once)

    -- the check of a visit to two taken graphs settles its two conditions
    visit_settled : Taken (spec_graph t) → Taken (impl_graph t) → (v : Visit) → v.leaf ∈ groups t → Settled (check_visit t v) (visit_conditions t v)
    unfolding check_visit visit_conditions
    visit_settled k j v m =
        let place = v.root.row * root_stride + v.leaf.row in
        let banked = leaves_of (banks t v.leaf) in
        settled_next (when (many_paths (spec_graph t) v.root.spec (v.leaf.spec ∷ [])) 10 1 place) (when (many_paths (impl_graph t) v.root.impl banked) 10 3 place)
        (refuse 10 1 place (ManyPaths (spec_graph t) v.root.spec (v.leaf.spec ∷ [])))
        (refuse 10 3 place (ManyPaths (impl_graph t) v.root.impl banked))
        (settled_when 10 1 place (many_paths_one? k (leaves v.leaf (group-leaf t m)).nodes.0))
        (λ n. settled_when 10 3 place (many_paths? j (bank_leaves v.leaf) (bank_once v.leaf)))

  -- the checks of the pair rows and of the visits settle their conditions
  rows_settled : Taken (spec_graph t) → Taken (impl_graph t)
      → Settled (check_roots then check_leaves then check_visits) (root_conditions t next leaf_conditions t next visits_conditions)
  rows_settled k j =
      settled_next check_roots (check_leaves then check_visits) (root_conditions t) (leaf_conditions t next visits_conditions) roots_settled
      (λ p. settled_next check_leaves check_visits (leaf_conditions t) visits_conditions leaves_settled
      (λ q. settled_each (check_visit t) (visit_conditions t) (visits (root_rows t) (groups t))
      (λ v m. visit_settled (leaves-paired q) k j v ((visits_in (root_rows t) (groups t)).0 m).1)))

  -- the check of a pairing of two taken graphs settles its conditions
  pub pairing_settled : Taken (spec_graph t) → Taken (impl_graph t) → Settled (check_pairing t) (pairing_conditions t)
  unfolding check_pairing pairing_conditions
  pairing_settled k j =
      let roots = check_shape 4 pair_width max_pairs t.root_pairs in
      let leaves = check_shape 5 pair_width max_pairs t.leaf_pairs in
      let noRoot = when (is_nil (root_rows t)) 9 4 0 in
      let noLeaf = when (is_nil (leaf_rows t)) 9 5 0 in
      let rows = check_roots then check_leaves then check_visits in
      let Leaves = shape_conditions 5 pair_width max_pairs t.leaf_pairs in
      let NoRoot = refuse 9 4 0 (root_rows t ≡ []) in
      let NoLeaf = refuse 9 5 0 (leaf_rows t ≡ []) in
      let Rows = root_conditions t next leaf_conditions t next visits_conditions in
      settled_next roots (leaves then noRoot then noLeaf then rows) (shape_conditions 4 pair_width max_pairs t.root_pairs) (Leaves next NoRoot next NoLeaf next Rows)
      (shape_settled 4 pair_width max_pairs t.root_pairs)
      (λ p. settled_next leaves (noRoot then noLeaf then rows) Leaves (NoRoot next NoLeaf next Rows) (shape_settled 5 pair_width max_pairs t.leaf_pairs)
      (λ q. settled_next noRoot (noLeaf then rows) NoRoot (NoLeaf next Rows) (settled_when 9 4 0 (decides_nil (root_rows t)))
      (λ r. settled_next noLeaf rows NoLeaf Rows (settled_when 9 5 0 (decides_nil (leaf_rows t)))
      (λ s. rows_settled k j))))

  -- where no condition of the pairing holds, its rows pair roots with roots and leaves with leaves
  pub pairing_paired : NoneHolds (pairing_conditions t) → Paired t
  unfolding pairing_conditions shape_conditions visit_conditions
  pairing_paired h =
      let rows = (none-next (root_conditions t) (leaf_conditions t next visits_conditions)).0 h.1.1.1.1 in
      let rest = (none-next (leaf_conditions t) visits_conditions).0 rows.1 in
      record {
        some_root = h.1.1.0;
        some_leaf = h.1.1.1.0;
        roots = roots-paired rows.0;
        leaves = leaves-paired rest.0;
        few_paths = λ v m. let n = (none_flat_map (visit_conditions t) (visits (root_rows t) (groups t))).0 rest.1 v m in (n.0, n.1.0);
      }

  -- the check of a comparison settles its conditions
  pub compare_settled : Settled (check_tables t) (compare_conditions t)
  unfolding check_tables compare_conditions
  compare_settled =
      let spec = graph_conditions 0 t.spec_nodes t.spec_edges in
      let impl = graph_conditions 2 t.impl_nodes t.impl_edges in
      let checkSpec = check_graph 0 t.spec_nodes t.spec_edges in
      let checkImpl = check_graph 2 t.impl_nodes t.impl_edges in
      settled_next checkSpec (checkImpl then check_pairing t) spec (impl next pairing_conditions t) (graph_settled 0 t.spec_nodes t.spec_edges)
      (λ p. settled_next checkImpl (check_pairing t) impl (pairing_conditions t) (graph_settled 2 t.impl_nodes t.impl_edges)
      (λ q. pairing_settled (graph-taken 0 t.spec_nodes t.spec_edges p) (graph-taken 2 t.impl_nodes t.impl_edges q)))

  -- compare refuses exactly with the refusal of the first condition that holds, and gives the full result exactly when none holds
  pub compare_exact : Exact (compare_answer t) (result_of (findings t)) (compare_conditions t)
  unfolding compare_answer
  compare_exact = answer-exact (result_of (findings t)) (check_tables t) (compare_conditions t) compare_settled

-- what two graphs and a pairing that meet no condition have
pub record Comparable (t : Tables) : Type 0 where
  pub spec : Taken (spec_graph t)
  pub impl : Taken (impl_graph t)
  pub paired : Paired t

-- where no condition of a comparison holds, both graphs are taken and the pairing pairs them
pub compare_comparable : (t : Tables) → NoneHolds (compare_conditions t) → Comparable t
unfolding compare_conditions
compare_comparable t h =
    let spec = graph_conditions 0 t.spec_nodes t.spec_edges in
    let impl = graph_conditions 2 t.impl_nodes t.impl_edges in
    let graphs = (none-next spec (impl next pairing_conditions t)).0 h in
    let rest = (none-next impl (pairing_conditions t)).0 graphs.1 in
    record {
      spec = graph-taken 0 t.spec_nodes t.spec_edges graphs.0;
      impl = graph-taken 2 t.impl_nodes t.impl_edges rest.0;
      paired = pairing_paired t rest.1;
    }
