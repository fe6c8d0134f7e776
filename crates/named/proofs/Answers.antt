-- The answer to a named root and leaf: what each test of them gives, and what they are where they are taken.
use mathlib.Core.Path.{◌≡◌, refl, sym, ◌∙◌}
use mathlib.Core.Bool.{Bool, true, false, not}
use mathlib.Core.List.{List, [], ◌∷◌, map}
use mathlib.Core.Option.{Option, none, some}
use Prim.Native.Nat.{ℕ, ◌≤◌, ◌<◌}
use native.Mathlib.Omega.{arith}
use borrow.Author.Tests.{lt-ltb, le-ltb, ltb-false, not-false}
use lib.IntN.{ℤ}
use lib.ListN.{length, drop}
use Rattle.integers.proofs.Tests.{T_true, test_of}
use Rattle.model.specs.Limits.{max_nodes, max_paths}
use Rattle.model.specs.Rows.{Edge, edge_rows}
use Rattle.model.specs.Graph.{Graph}
use Rattle.model.specs.Paths.{Root, Leaf}
use Rattle.model.specs.Runs.{paths}
use Rattle.model.specs.Refusals.{Refusal}
use Rattle.model.specs.Checks.{when, ◌then◌, is_root, is_leaf, many_paths, check_graph, check_named}
use Rattle.model.specs.Calls.{refused, full, answer}
use Rattle.model.specs.Answers.{numbered}
use Rattle.model.proofs.GraphChecks.{is_root?, is_leaf?}
use Rattle.model.proofs.Paths.{many_one}
use Rattle.tables.proofs.Rows.{nodes_length}
use Rattle.tables.proofs.Checks.{checked}
use Rattle.depth.specs.Order.{edge_order}
use Rattle.depth.specs.Passes.{order_of}
use Rattle.depth.specs.Check.{order_after}
use Rattle.depth.proofs.GraphCheck.{checked_taken, checked_order}
use Rattle.reach.proofs.Turns.{order-front}
use Rattle.named.specs.Naming.{Nameable}

-- the root and the leaf of a graph that is taken can be checked
pub graph_nameable : (ns es : List ℤ) (buffer order counts : List ℕ) → full tt ≡ checked (check_graph 0 ns es) → order ≡ order_after 0 ns es buffer
    → max_nodes ≤ length counts → Nameable ns es order counts
unfolding order_of
graph_nameable ns es buffer order counts e o h =
    let tables = checked_taken 0 ns es e in
    let rows = length (map (λ (d : Edge). d.row) (edge_order (edge_rows es))) in
    record {
      tables = tables;
      backward = order-front ns es order (drop rows buffer) tables (o ∙ checked_order 0 ns es e buffer);
      room = omega (arith, tables.nodes.few, nodes_length ns);
    }

-- ---- the tests of the root and the leaf

module _ (g : Graph) (r l : ℤ) where
  -- what is no root is refused
  pub named_rootless : is_root g r ≡ false → refused (numbered 7 4 0) ≡ checked (check_named g r l)
  unfolding answer when ◌then◌ check_named
  named_rootless e = rw e

  -- what is no leaf is refused
  pub named_leafless : is_root g r ≡ true → is_leaf g l ≡ false → refused (numbered 7 5 0) ≡ checked (check_named g r l)
  unfolding answer when ◌then◌ check_named
  named_leafless e f = rw (e, f)

  -- more paths than the limit are refused
  pub named-many : is_root g r ≡ true → is_leaf g l ≡ true → max_paths < length (paths g r l) → refused (numbered 10 1 0) ≡ checked (check_named g r l)
  unfolding answer when ◌then◌ check_named
  named-many e f h = rw (e, f, many_one g r l, lt-ltb max_paths (length (paths g r l)) h)

  -- a root and a leaf with no more paths than the limit are taken
  pub named-taken : is_root g r ≡ true → is_leaf g l ≡ true → length (paths g r l) ≤ max_paths → full tt ≡ checked (check_named g r l)
  unfolding answer when ◌then◌ check_named
  named-taken e f h = rw (e, f, many_one g r l, le-ltb max_paths (length (paths g r l)) h)

-- ---- checks that give no refusal

-- a test whose refusal is not given fails
when-none : (t : Bool) (n table row : ℕ) → full tt ≡ checked (when t n table row) → t ≡ false
unfolding answer when
when-none true n table row e = let z : ◌≡◌ {A = ℕ} 0 1 = cc in absurd (omega arith)
when-none false n table row e = refl

-- two checks that give no refusal together give none each
pub then_both : (a b : Option Refusal) → full tt ≡ checked (a then b) → (full tt ≡ checked a) × (full tt ≡ checked b)
unfolding answer ◌then◌
then_both none b e = (refl, e)
then_both (some r) b e = let z : ◌≡◌ {A = ℕ} 0 1 = cc in absurd (omega arith)

-- ---- a root and a leaf that are taken

module _ (g : Graph) (r l : ℤ) (taken : full tt ≡ checked (check_named g r l)) where
  named_parts : (is_root g r ≡ true) × (is_leaf g l ≡ true) × (many_paths g r (l ∷ []) ≡ false)
  unfolding check_named
  named_parts =
      let root = when (not (is_root g r)) 7 4 0 in
      let leaf = when (not (is_leaf g l)) 7 5 0 in
      let many = when (many_paths g r (l ∷ [])) 10 1 0 in
      let a = then_both root (leaf then many) taken in
      let b = then_both leaf many a.1 in (
        not-false (is_root g r) (when-none (not (is_root g r)) 7 4 0 a.0),
        not-false (is_leaf g l) (when-none (not (is_leaf g l)) 7 5 0 b.0),
        when-none (many_paths g r (l ∷ [])) 10 1 0 b.1,
      )

  -- the named root is one
  pub named-root : Root g r
  named-root = test_of (is_root? g r) (T_true (is_root g r) named_parts.0)

  -- the named leaf is one
  pub named-leaf : Leaf g l
  named-leaf = test_of (is_leaf? g l) (T_true (is_leaf g l) named_parts.1)

  -- there are no more paths than the limit
  pub named-few : length (paths g r l) ≤ max_paths
  named-few = ltb-false max_paths (length (paths g r l)) (sym (many_one g r l) ∙ named_parts.2)
