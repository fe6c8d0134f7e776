-- Roots and leaves by the kind of a node and the edges that enter it, and a search for an edge row by row.
use Rattle.std.specs.Prelude as std
use Rattle.std.specs.Cmp.{signed_Decides}
use Rattle.std.specs.Option.{option_eq}
use Rattle.std.specs.Ordering.{int_eq}
use Rattle.std.proofs.lemmas.Bool.Decides.{same_from_decides}
use mathlib.Core.Path.{◌≡◌, refl, sym, ap, ◌∙◌}
use mathlib.Core.Bool.{Bool, true, false, not, cond, ◌&&◌, ◌||◌}
use mathlib.Core.List.{List, [], ◌∷◌}
use Prim.Native.Nat.{ℕ, ◌+◌, ◌*◌, ◌≤◌}
use native.Mathlib.Omega.{arith}
use lib.IntN.{ℤ, pos}
use lib.ListN.{length, get_or}
use mir.Syntax.{w64}
use mir.Val.{SFits, to_z, of_z}
use mir.Facts.{to_z-of_z}
use Rattle.integers.specs.Integers.{eq_z}
use Rattle.integers.proofs.Linear.{ints}
use Rattle.integers.proofs.Tests.{test_of, is_true, is_false, T_true, eq_z→eq, eq_z_refl}
use Rattle.lists.specs.Lists.{any}
use Rattle.model.specs.Limits.{node_width}
use Rattle.model.specs.Rows.{Edge}
use Rattle.model.specs.Graph.{Graph, graph_of, NodeRow, node, space, segment, block}
use Rattle.model.specs.Checks.{is_row, is_root, is_leaf}
use Rattle.model.proofs.GraphChecks.{is_row?}
use Rattle.tables.proofs.Rows.{graph-nodes_length, node_at_lem}
use Rattle.named.specs.Naming.{kind_of}

-- ---- numbers by their bits

module _ {a b : ℤ} (p : SFits w64 a) (q : SFits w64 b) where
  -- numbers with the same bits are the same
  pub bits-equal : of_z w64 a ≡ of_z w64 b → eq_z a b ≡ true
  bits-equal e = is_true (eq_z a b) (rw (sym (to_z-of_z p) ∙ ap (to_z w64) e ∙ to_z-of_z q) (eq_z_refl b))

  -- numbers with other bits are not
  pub bits-unequal : (of_z w64 a ≡ of_z w64 b → ⊥) → eq_z a b ≡ false
  bits-unequal n = is_false (eq_z a b) (λ t. n (ap (of_z w64) (eq_z→eq a b t)))

-- ---- a search through rows

module _ {A : Type 0} (ok : A → Bool) (all : List A) {rows : List A} (left : any ok all ≡ any ok rows) where
  -- no row is left: none passes
  pub any_none : rows ≡ [] → false ≡ any ok all
  unfolding any
  any_none e = sym (rw e at left)

  module _ {x : A} {rest : List A} (next : rows ≡ x ∷ rest) where
    -- the row that is next passes
    pub any_here : ok x ≡ true → true ≡ any ok all
    unfolding any
    any_here e = sym (left ∙ rw (next, e))

    -- the row that is next does not pass, and is left behind
    pub any-past : ok x ≡ false → any ok all ≡ any ok rest
    unfolding any
    any-past e = left ∙ rw (next, e)

-- ---- the kind of a node

-- the library's test of two numbers
int_eq-eq_z : (a b : ℤ) → int_eq a b ≡ eq_z a b
int_eq-eq_z a b = same_from_decides (int_eq a b) (eq_z a b) (signed_Decides a b) (λ t. eq_z→eq a b (T_true (eq_z a b) t), λ e. is_true (eq_z a b) (rw e (eq_z_refl b)))

module _ (g : Graph) (v : ℤ) where
  -- of a node row
  pub kind_row : is_row g v ≡ true → kind_of g v ≡ std.Some (node g v).kind
  unfolding kind_of
  kind_row e = rw e

  -- of a number that is no node row
  pub kind-none : is_row g v ≡ false → kind_of g v ≡ std.None
  unfolding kind_of
  kind-none e = rw e

  -- a leaf is told by its kind
  pub leaf-kind : option_eq int_eq (kind_of g v) (std.Some block) ≡ is_leaf g v
  unfolding is_leaf kind_of
  leaf-kind = go (is_row g v)
    where
      go : (t : Bool) → option_eq int_eq (cond t (std.Some (node g v).kind) std.None) (std.Some block) ≡ t && eq_z (node g v).kind block
      go true = int_eq-eq_z (node g v).kind block
      go false = refl

  -- a root is told by its kind and the edges that enter it
  pub root-kind : {k : ℤ} → kind_of g v ≡ std.Some k
      → is_root g v ≡ (eq_z k space || eq_z k segment) && not (any (λ (e : Edge). eq_z e.to v) g.edges)
  unfolding is_root kind_of
  root-kind {k} = go (is_row g v) (not (any (λ (e : Edge). eq_z e.to v) g.edges))
    where
      go : (t free : Bool) → cond t (std.Some (node g v).kind) std.None ≡ std.Some k
          → t && (eq_z (node g v).kind space || eq_z (node g v).kind segment) && free ≡ (eq_z k space || eq_z k segment) && free
      go true free e = cc
      go false free e = cc

  -- what is no node row is no root
  pub root-kindless : kind_of g v ≡ std.None → is_root g v ≡ false
  unfolding is_root kind_of
  root-kindless = go (is_row g v) (not (any (λ (e : Edge). eq_z e.to v) g.edges))
    where
      go : (t free : Bool) → cond t (std.Some (node g v).kind) std.None ≡ std.None
          → t && (eq_z (node g v).kind space || eq_z (node g v).kind segment) && free ≡ false
      go true free e = cc
      go false free e = refl

-- a node row stands in the table at its place, and there its kind
module _ (ns es : List ℤ) (row : ℕ) (test : is_row (graph_of ns es) (pos row) ≡ true) where
  pub row-there : node_width * row + node_width ≤ length ns
  row-there =
      let r : NodeRow (graph_of ns es) (pos row) = test_of (is_row? (graph_of ns es) (pos row)) (T_true (is_row (graph_of ns es) (pos row)) test) in
      omega (arith, ints, r.high, graph-nodes_length ns es)

  pub row-kind : std.Some (get_or ns (node_width * row) (pos 0)) ≡ kind_of (graph_of ns es) (pos row)
  row-kind = sym (kind_row (graph_of ns es) (pos row) test ∙ ap (λ n. std.Some n.kind) (node_at_lem ns es row row-there))
