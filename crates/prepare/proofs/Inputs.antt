-- Tables that the checks take: shapes, pairs and paths.
use mathlib.Core.Path.{◌≡◌, subst}
use mathlib.Core.Bool.{Bool, true, false}
use mathlib.Core.List.{List, [], ◌∷◌, flat_map}
use mathlib.Core.Option.{none}
use Prim.Native.Nat.{ℕ, ◌≤◌, ◌<◌}
use native.Mathlib.Omega.{arith}
use lib.Dec.{ltb}
use lib.IntN.{ℤ, pos}
use lib.ListN.{length}
use Rattle.integers.proofs.Tests.{Test, failed, ltb?}
use Rattle.lists.specs.Lists.{◌∈◌}
use Rattle.lists.proofs.Decisions.{Decides}
use Rattle.model.specs.Limits.{pair_width, last_at, max_paths, max_pairs}
use Rattle.model.specs.Rows.{Pair, pair_rows}
use Rattle.model.specs.Runs.{paths}
use Rattle.model.specs.Groups.{group_paths}
use Rattle.model.specs.Taken.{TakenTables, PairTaken}
use Rattle.model.specs.Compare.{Tables, spec_graph, impl_graph, root_rows, banks, groups, visits}
use Rattle.model.specs.Refusals.{pair_conditions}
use Rattle.model.specs.Checks.{when, check_shape, is_root, same_root, many_paths, check_visit}
use Rattle.model.proofs.Checks.{then-none, first-each}
use Rattle.model.proofs.Settled.{Settled}
use Rattle.model.proofs.GraphChecks.{is_root?, is_leaf?}
use Rattle.model.proofs.Pairing.{same_root?, same_impl?, pairs_settled, pairs-paired}
use Rattle.model.proofs.Taken.{shape_taken}
use Rattle.model.proofs.Paths.{paths_one}
use Rattle.pairing.specs.Pairs.{check_pairs}
use Rattle.paircheck.specs.Pairing.{check_sizes, check_pairing_rows}
use Rattle.pathlimit.specs.Checks.{check_paths}
use Rattle.pathlimit.specs.Inputs.{Inputs, AllFew}

-- ---- the pairing

-- rows of pairs that are not refused are taken
pairs-good : {Spec Impl : ℤ → Type 0} {spec impl : ℤ → Bool} (spec? : (v : ℤ) → Decides (Spec v) (spec v)) (impl? : (v : ℤ) → Decides (Impl v) (impl v))
    → (t : ℕ) (most : ℤ) {Same : Pair → Pair → Type 0} {same : Pair → Pair → Bool} (same? : (q p : Pair) → Decides (Same q p) (same q p))
    → (ps : List ℤ) → check_pairs t spec impl most same ps ≡ none → (p : Pair) → p ∈ pair_rows ps → PairTaken Spec Impl most Same (pair_rows ps) p
pairs-good {Spec} {Impl} spec? impl? t most {Same} same? ps e =
    let rows = pair_rows ps in
    pairs-paired spec? impl? t most same? rows
    (subst (λ c. Settled c (flat_map (pair_conditions t Spec Impl most Same rows) rows)) e (pairs_settled spec? impl? t most same? rows))

-- two taken graphs and a pairing that is not refused are inputs
pub pairing_inputs : (t : Tables) → TakenTables t.spec_nodes t.spec_edges → TakenTables t.impl_nodes t.impl_edges → check_pairing_rows t ≡ none → Inputs t
unfolding check_pairing_rows check_sizes
pairing_inputs t k j e =
    let all = then-none (check_sizes t.root_pairs t.leaf_pairs) _ e in
    let sizes = then-none (check_shape 4 pair_width max_pairs t.root_pairs) _ all.0 in
    let rows = then-none (check_pairs 4 (is_root (spec_graph t)) (is_root (impl_graph t)) (pos 0) same_root t.root_pairs) _ all.1 in
    let roots = pairs-good (is_root? (spec_graph t)) (is_root? (impl_graph t)) 4 (pos 0) same_root? t.root_pairs rows.0 in
    let leaves = pairs-good (is_leaf? (spec_graph t)) (is_leaf? (impl_graph t)) 5 last_at same_impl? t.leaf_pairs rows.1 in
    record {
      spec = k;
      impl = j;
      root_shape = shape_taken 4 pair_width max_pairs t.root_pairs sizes.0;
      leaf_shape = shape_taken 5 pair_width max_pairs t.leaf_pairs (then-none (check_shape 5 pair_width max_pairs t.leaf_pairs) _ sizes.1).0;
      roots = λ p m. (roots p m).nodes;
      leaves = λ p m. (leaves p m).nodes;
      starts = λ p m. (leaves p m).range;
    }

-- ---- the paths of each pair

-- a count that is not refused is within the limit
when-few : (count n t r : ℕ) → when (ltb max_paths count) n t r ≡ none → count ≤ max_paths
unfolding when
when-few count n t r = go (ltb max_paths count) (ltb? max_paths count)
  where
    go : (b : Bool) → Test (max_paths < count) (count ≤ max_paths) b → when b n t r ≡ none → count ≤ max_paths
    go true h e = let z : ◌≡◌ {A = ℕ} 0 1 = cc in absurd (omega arith)
    go false (failed h) e = h

-- where no pair is refused, each has few paths in both graphs
pub paths-few : (t : Tables) → check_paths t ≡ none → AllFew t
unfolding check_visit many_paths group_paths
paths-few t e v m =
    let q = first-each (check_visit t) (visits (root_rows t) (groups t)) e v m in
    let p = then-none (when (many_paths (spec_graph t) v.root.spec (v.leaf.spec ∷ [])) 10 1 _) _ q in
    let spec = length (paths (spec_graph t) v.root.spec v.leaf.spec) in
    (when-few spec 10 1 _ (rw (paths_one (spec_graph t) v.root.spec v.leaf.spec) at p.0), when-few (group_paths (impl_graph t) v.root.impl (banks t v.leaf)) 10 3 _ p.1)
