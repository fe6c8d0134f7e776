-- The tests for a root, a leaf and the count of the root, in the order of their refusals.
use mathlib.Core.Path.{◌≡◌, sym, subst, ◌∙◌}
use mathlib.Core.Bool.{true}
use Prim.Native.Nat.{ℕ, ◌<◌}
use native.Mathlib.Omega.{arith}
use borrow.Author.Rules.{rules}
use lib.IntN.{pos, nat_abs}
use lib.ListN.{length, get_or}
use mir.Syntax.{w64}
use mir.Val.{to_z, of_z}
use mir.Facts.{to_z-of_z}
use Rattle.integers.proofs.Tests.{test_of, T_true}
use Rattle.model.specs.Graph.{graph_of}
use Rattle.model.specs.Paths.{Root, Leaf}
use Rattle.model.specs.Runs.{paths}
use Rattle.model.specs.Checks.{is_root, is_leaf}
use Rattle.model.proofs.GraphChecks.{is_root?, is_leaf?}
use Rattle.tables.proofs.Cells.{index_fits, index_same}
use Rattle.reach.specs.Counting.{stopped, counts_over}
use Rattle.named.proofs.Answers.{named_rootless, named_leafless, named-many, named-taken}
use Rattle.named.proofs.Counts.{root_below, root-count}
use Rattle.named.proofs.check_named.Goals.{After-count_paths, After-is_leaf, After-is_root, Else-not-is_leaf, Else-not-is_root}
use Rattle.named.proofs.check_named.Goals as goal

root_told : (c : After-is_root) → let a = c.args in
    c.is_root.result ≡ is_root (graph_of a.nodes.now a.edges.now) a.root
root_told c = simp (to_z-of_z, c.ranges.root) at c.is_root.ensures

leaf_told : (c : After-is_leaf) → let a = c.args in
    c.is_leaf.result ≡ is_leaf (graph_of a.nodes.now a.edges.now) a.leaf
leaf_told c =
    simp (to_z-of_z, c.ranges.leaf) at (c.is_leaf.ensures c.args.edges.now)

root-passes : (c : Else-not-is_root) → let a = c.args in
    is_root (graph_of a.nodes.now a.edges.now) a.root ≡ true
root-passes c = sym (root_told (goal.at.is_leaf-requires c).After-is_root) ∙ c.if-not-is_root.false

leaf-passes : (c : Else-not-is_leaf) → let a = c.args in
    is_leaf (graph_of a.nodes.now a.edges.now) a.leaf ≡ true
leaf-passes c = sym (leaf_told (goal.at.overflow_cast-leaf c).After-is_leaf) ∙ c.if-not-is_leaf.false

root-here : (c : Else-not-is_leaf) → let a = c.args in
    Root (graph_of a.nodes.now a.edges.now) a.root
root-here c = test_of (is_root? _ _) (T_true _ (root-passes (goal.at.overflow_cast-leaf c).Else-not-is_root))

leaf-here : (c : Else-not-is_leaf) → let a = c.args in
    Leaf (graph_of a.nodes.now a.edges.now) a.leaf
leaf-here c = test_of (is_leaf? _ _) (T_true _ (leaf-passes c))

-- the numbers of the root and of the leaf as indices
root-same : (c : Else-not-is_leaf) → let a = c.args in pos (nat_abs (to_z w64 (of_z w64 a.root))) ≡ a.root
root-same c = index_same c.ranges.root (root-here c).row.low

leaf-same : (c : Else-not-is_leaf) → let a = c.args in pos (nat_abs (to_z w64 (of_z w64 a.leaf))) ≡ a.leaf
leaf-same c = index_same c.ranges.leaf (leaf-here c).row.low

-- the root is an index of the counts
root-within : (c : Else-not-is_leaf) → let a = c.args in
    nat_abs (to_z w64 (of_z w64 a.root)) < length a.counts.now
root-within c =
    omega (arith, c.requires.room, root_below c.args.nodes.now c.args.edges.now _ (root-same c) (root-here c).row)

counts-told : (c : After-count_paths) → let a = c.args in
    c.count_paths.new.counts ≡ counts_over (graph_of a.nodes.now a.edges.now) a.leaf a.counts.now
counts-told c = rw (leaf-same (goal.at.After-count_paths c).Else-not-is_leaf) at c.count_paths.ensures

root-counted : (c : After-count_paths) → let a = c.args in
    get_or c.count_paths.new.counts (nat_abs (to_z w64 (of_z w64 a.root))) 0
    ≡ stopped (length (paths (graph_of a.nodes.now a.edges.now) a.root a.leaf))
root-counted c =
    let a = c.args in
    root-count a.nodes.now a.edges.now _ (root-same (goal.at.After-count_paths c).Else-not-is_leaf) (root-here (goal.at.After-count_paths c).Else-not-is_leaf).row a.leaf a.counts.now (counts-told c)

pub returns-then-not-is_root : goal.returns-then-not-is_root
returns-then-not-is_root c =
    record {
      answers = named_rootless _ _ _ (sym (root_told (goal.at.returns-then-not-is_root c).After-is_root) ∙ c.if-not-is_root.true);
      counted = λ e. absurd (let z : ◌≡◌ {A = ℕ} 0 1 = cc in omega arith);
    }

pub returns-then-not-is_leaf : goal.returns-then-not-is_leaf
returns-then-not-is_leaf c =
    record {
      answers = named_leafless _ _ _ (root-passes (goal.at.returns-then-not-is_leaf c).Else-not-is_root) (sym (leaf_told (goal.at.returns-then-not-is_leaf c).After-is_leaf) ∙ c.if-not-is_leaf.true);
      counted = λ e. absurd (let z : ◌≡◌ {A = ℕ} 0 1 = cc in omega arith);
    }

pub overflow_cast-leaf : goal.overflow_cast-leaf
overflow_cast-leaf c = index_fits c.ranges.leaf (leaf-here c).row.low

pub count_paths-requires : goal.count_paths-requires
count_paths-requires c =
    let g = graph_of c.args.nodes.now c.args.edges.now in
    record { tables = c.requires.tables; block = subst (Leaf g) (sym (leaf-same (goal.at.count_paths-requires c).Else-not-is_leaf)) (leaf-here (goal.at.count_paths-requires c).Else-not-is_leaf); backward = c.requires.backward; room = c.requires.room }

pub overflow_cast-paths : goal.overflow_cast-paths
overflow_cast-paths c =
    index_fits c.ranges.root (root-here (goal.at.overflow_cast-paths c).Else-not-is_leaf).row.low

pub offset_bounds-counts-root : goal.offset_bounds-counts-root
offset_bounds-counts-root c = omega (arith, root-within (goal.at.offset_bounds-counts-root c).Else-not-is_leaf)

pub bounds-counts-root : goal.bounds-counts-root
bounds-counts-root c = omega (arith, root-within (goal.at.bounds-counts-root c).Else-not-is_leaf, c.count_paths.auto.counts)

pub returns-then-paths-gt-MAX_PATHS : goal.returns-then-paths-gt-MAX_PATHS
returns-then-paths-gt-MAX_PATHS c =
    record {
      answers = named-many _ _ _ (root-passes (goal.at.returns-then-paths-gt-MAX_PATHS c).Else-not-is_root) (leaf-passes (goal.at.returns-then-paths-gt-MAX_PATHS c).Else-not-is_leaf) (omega (arith, root-counted (goal.at.returns-then-paths-gt-MAX_PATHS c).After-count_paths, c.if-paths-gt-MAX_PATHS.true));
      counted = λ e. absurd (let z : ◌≡◌ {A = ℕ} 0 1 = cc in omega arith);
    }

pub returns : goal.returns
returns c =
    record {
      answers = named-taken _ _ _ (root-passes (goal.at.returns c).Else-not-is_root) (leaf-passes (goal.at.returns c).Else-not-is_leaf) (omega (arith, root-counted (goal.at.returns c).After-count_paths, c.if-paths-gt-MAX_PATHS.false));
      counted = λ e. counts-told (goal.at.returns c).After-count_paths;
    }

pub is_leaf-requires : goal.is_leaf-requires
is_leaf-requires c = search rules
