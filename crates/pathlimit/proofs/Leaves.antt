-- Refusal 10 of a root row, group by group: the counts of the paths from its roots give the refusal that its paths have.
use mathlib.Core.Path.{◌≡◌, refl, sym, ap, subst, ◌∙◌}
use mathlib.Core.Bool.{Bool, true, false}
use mathlib.Core.List.Memᴰ
use mathlib.Core.List.{List, [], ◌∷◌, map, flat_map}
use Prim.Native.Nat.{ℕ, ◌+◌, ◌*◌, ◌≤◌, ◌<◌}
use native.Mathlib.Omega.{arith}
use borrow.Author.Tests.{lt-ltb, le-ltb}
use lib.Dec.{ltb}
use lib.IntN.{ℤ, pos, negsuc}
use lib.ListN.{length, get_or, length-append}
use Rattle.integers.proofs.Linear.{ints}
use Rattle.integers.proofs.Tests.{Test, passed, failed, ltb?}
use Rattle.lists.specs.Lists.{◌∈◌}
use Rattle.model.specs.Limits.{max_paths, root_stride}
use Rattle.model.specs.Rows.{Pair}
use Rattle.model.specs.Graph.{graph_of, NodeRow}
use Rattle.model.specs.Paths.{Way, stay}
use Rattle.model.specs.Runs.{paths}
use Rattle.model.specs.Groups.{leaves_of}
use Rattle.model.specs.Compare.{bank_of, group}
use Rattle.model.specs.Checks.{many_paths}
use Rattle.model.proofs.Paths.{many_one}
use Rattle.reach.specs.Counting.{path_count, stopped}
use Rattle.reach.specs.Links.{count_at}
use Rattle.depth.specs.Passes.{Within}
use Rattle.forward.specs.Forward.{planned_of, LeadingTo}
use Rattle.entering.specs.Entering.{Covered}
use Rattle.grouping.specs.Totals.{bank_total}
use Rattle.pathlimit.specs.Counting.{Counted}
use Rattle.pathlimit.specs.Checks.{check_counts, check_group}

-- ---- one group by its counts

-- a place within the counts, as an index
pub within_index : {count : ℕ} {v : ℤ} (i : ℕ) → Within count v → pos i ≡ v → i < count
within_index i w e = omega (arith, ints, w.high)

-- its check is that of the count at its specification leaf and of those at its banks together
pub group_checked : (leaves : List Pair) (specCounts implCounts : List ℕ) (i : ℕ) (l : Pair) (s n : ℕ) → pos s ≡ l.spec → n ≡ bank_total implCounts (group leaves l)
    → check_counts (i * root_stride + l.row) (get_or specCounts s 0) n ≡ check_group leaves specCounts implCounts i l
unfolding check_group count_at
group_checked leaves specCounts implCounts i l s n p q =
    ap (λ v. check_counts (i * root_stride + l.row) (count_at specCounts v) n) p
    ∙ ap (λ m. check_counts (i * root_stride + l.row) (count_at specCounts l.spec) m) q

-- ---- counts and paths

-- a stopped count is past the limit exactly where the count is
stopped_test : (n : ℕ) → ltb max_paths (stopped n) ≡ ltb max_paths n
stopped_test n = go (ltb max_paths n) (ltb? max_paths n)
  where
    go : (b : Bool) → Test (max_paths < n) (n ≤ max_paths) b → ltb max_paths (stopped n) ≡ b
    go true (passed h) = lt-ltb max_paths (stopped n) (omega arith)
    go false (failed h) = le-ltb max_paths (stopped n) (omega arith)

-- so are two counts that are the same when they are stopped
stopped-same : (m n : ℕ) → stopped m ≡ stopped n → ltb max_paths m ≡ ltb max_paths n
stopped-same m n e = sym (stopped_test m) ∙ ap (ltb max_paths) e ∙ stopped_test n

module _ {ns es : List ℤ} {plan : List ℕ} {ls : List ℤ} (leading : LeadingTo ns es ls plan) where
  -- the plan has every edge that enters a leaf
  pub leaf-entering : (l : ℤ) → l ∈ ls → Covered es (planned_of es plan) l
  leaf-entering l m e k q = leading.all e k (l, m, ([], subst (λ (v : ℤ). Way (graph_of ns es) v [] l) (sym q) stay))

  module _ {counts : List ℕ} {root : ℕ} (counted : Counted ns es plan root counts) where
    -- so that its count is that of its paths, stopped
    pub leaf-count : (l : ℤ) → l ∈ ls → NodeRow (graph_of ns es) l → count_at counts l ≡ stopped (length (paths (graph_of ns es) (pos root) l))
    unfolding count_at path_count graph_of
    leaf-count (pos v) m r = counted.each v (omega (arith, ints, r.high)) (leaf-entering (pos v) m)
    leaf-count (negsuc v) m r = absurd (omega (arith, ints, r.low))

    -- and past the limit exactly where it has too many paths
    pub leaf-many : (l : ℤ) → l ∈ ls → NodeRow (graph_of ns es) l → ltb max_paths (count_at counts l) ≡ many_paths (graph_of ns es) (pos root) (l ∷ [])
    leaf-many l m r =
        ap (ltb max_paths) (leaf-count l m r) ∙ stopped_test (length (paths (graph_of ns es) (pos root) l)) ∙ sym (many_one (graph_of ns es) (pos root) l)

    -- the counts of banks together, stopped, are the paths to them together, stopped
    banks-count : (ps : List Pair) → ((p : Pair) → p ∈ ps → (p.impl ∈ ls) × NodeRow (graph_of ns es) p.impl)
        → stopped (bank_total counts ps) ≡ stopped (length (flat_map (paths (graph_of ns es) (pos root)) (leaves_of (map bank_of ps))))
    unfolding bank_total flat_map
    banks-count [] h = refl
    banks-count (p ∷ ps) h =
        let here = h p (Memᴰ.head refl) in
        let own = paths (graph_of ns es) (pos root) p.impl in
        let others = flat_map (paths (graph_of ns es) (pos root)) (leaves_of (map bank_of ps)) in
        omega (arith, leaf-count p.impl here.0 here.1, banks-count ps (λ q m. h q (Memᴰ.tail m)), length-append own others)

    -- and past the limit exactly where there are too many
    pub banks-many : (ps : List Pair) → ((p : Pair) → p ∈ ps → (p.impl ∈ ls) × NodeRow (graph_of ns es) p.impl)
        → ltb max_paths (bank_total counts ps) ≡ many_paths (graph_of ns es) (pos root) (leaves_of (map bank_of ps))
    unfolding many_paths
    banks-many ps h = stopped-same (bank_total counts ps) (length (flat_map (paths (graph_of ns es) (pos root)) (leaves_of (map bank_of ps)))) (banks-count ps h)
