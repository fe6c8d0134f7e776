-- Tables cut to their rooms are checked as the whole tables are: a table that is cut is refused by its length before its rows are looked at.
use mathlib.Core.Path.{◌≡◌, refl, sym, ap, ◌∙◌}
use mathlib.Core.Bool.{Bool, true, false, not, ◌||◌}
use mathlib.Core.List.{List}
use mathlib.Core.Option.{Option, none, some}
use Prim.Native.Nat.{ℕ, suc, ◌*◌, ◌%◌, ◌≤◌, ◌<◌}
use native.Mathlib.Omega.{arith}
use borrow.Author.Tests.{lt-ltb}
use lib.Dec.{leb, eqb}
use lib.IntN.{ℤ}
use lib.ListN.{length, take, drop}
use lib.Seq.{length-take-le, take_all, take_at}
use Rattle.integers.proofs.Tests.{Test, passed, failed, leb?}
use Rattle.filerules.proofs.Options.{none-some}
use Rattle.model.specs.Limits.{node_width, edge_width, pair_width, max_nodes, max_edges, max_pairs}
use Rattle.model.specs.Bytes.{Bytes}
use Rattle.model.specs.Compare.{Tables}
use Rattle.model.specs.Refusals.{Refusal}
use Rattle.model.specs.Checks.{when, ◌then◌, check_shape, check_graph, check_pairing, check_tables}
use Rattle.model.specs.Calls.{full, answer}
use Rattle.model.specs.Answers.{numbered}
use Rattle.model.specs.TextCheck.{check_read, text_answer}
use Rattle.model.proofs.Checks.{then-none, then_same}
use Rattle.mapfile.specs.declared.Sizes.{Sizes}
use Rattle.mapfile.specs.Tables.{node_room, edge_room, pair_room, cut, Stored}
use Rattle.mapfile.specs.Given.{front, TablesRead}

-- ---- the shape of a table

or_true : (b : Bool) → (b || true) ≡ true
or_true true = refl
or_true false = refl

-- a table of more rows than its limit is refused
shape_over : (t width most : ℕ) (xs : List ℤ) → width * most < length xs → check_shape t width most xs ≡ some (numbered 1 t 0)
unfolding check_shape when
shape_over t width most xs h = rw (lt-ltb (width * most) (length xs) h, or_true (not (eqb (length xs % width) 0))) refl

module _ (t width most room : ℕ) (more : width * most < room) (xs : List ℤ) where
  -- a table that is cut is refused as the whole table is
  shape_cut : check_shape t width most (take room xs) ≡ check_shape t width most xs
  shape_cut = go (leb (length xs) room) (leb? (length xs) room)
    where
      go : (b : Bool) → Test (length xs ≤ room) (room < length xs) b → check_shape t width most (take room xs) ≡ check_shape t width most xs
      go true (passed h) = rw (take_all room xs h) refl
      go false (failed h) =
          shape_over t width most (take room xs) (omega (arith, length-take-le room xs (omega arith))) ∙ sym (shape_over t width most xs (omega arith))

  -- a table that is not refused is not cut
  shape_whole : check_shape t width most xs ≡ none → take room xs ≡ xs
  shape_whole e = go (leb (length xs) room) (leb? (length xs) room)
    where
      go : (b : Bool) → Test (length xs ≤ room) (room < length xs) b → take room xs ≡ xs
      go true (passed h) = take_all room xs h
      go false (failed h) = absurd (none-some (sym e ∙ shape_over t width most xs (omega arith)))

-- ---- a graph

module _ (t : ℕ) (ns es : List ℤ) where
  graph-cut : check_graph t (take node_room ns) (take edge_room es) ≡ check_graph t ns es
  unfolding check_graph
  graph-cut =
      rw (shape_cut t node_width max_nodes node_room (omega arith) ns, shape_cut (suc t) edge_width max_edges edge_room (omega arith) es)
      (then_same (check_shape t node_width max_nodes ns) (λ e. then_same (check_shape (suc t) edge_width max_edges es)
      (λ f. rw (shape_whole t node_width max_nodes node_room (omega arith) ns e, shape_whole (suc t) edge_width max_edges edge_room (omega arith) es f) refl)))

  graph-whole : check_graph t ns es ≡ none → (take node_room ns ≡ ns) × (take edge_room es ≡ es)
  unfolding check_graph
  graph-whole e =
      let n = then-none (check_shape t node_width max_nodes ns) _ e in
      let m = then-none (check_shape (suc t) edge_width max_edges es) _ n.1 in
      (shape_whole t node_width max_nodes node_room (omega arith) ns n.0, shape_whole (suc t) edge_width max_edges edge_room (omega arith) es m.0)

-- ---- all six tables

module _ (t : Tables) where
  -- the pairing, where the graphs are whole
  pairing_cut : (take node_room t.spec_nodes ≡ t.spec_nodes) × (take edge_room t.spec_edges ≡ t.spec_edges)
      → (take node_room t.impl_nodes ≡ t.impl_nodes) × (take edge_room t.impl_edges ≡ t.impl_edges) → check_pairing (cut t) ≡ check_pairing t
  unfolding check_pairing cut
  pairing_cut spec impl =
      rw (
        spec.0,
        spec.1,
        impl.0,
        impl.1,
        shape_cut 4 pair_width max_pairs pair_room (omega arith) t.root_pairs,
        shape_cut 5 pair_width max_pairs pair_room (omega arith) t.leaf_pairs,
      )
      (then_same (check_shape 4 pair_width max_pairs t.root_pairs) (λ e. then_same (check_shape 5 pair_width max_pairs t.leaf_pairs)
      (λ f. rw (shape_whole 4 pair_width max_pairs pair_room (omega arith) t.root_pairs e, shape_whole 5 pair_width max_pairs pair_room (omega arith) t.leaf_pairs f) refl)))

  -- cut tables are refused exactly as the whole ones are
  pub cut_checked : check_tables (cut t) ≡ check_tables t
  unfolding check_tables cut
  cut_checked =
      rw (graph-cut 0 t.spec_nodes t.spec_edges, graph-cut 2 t.impl_nodes t.impl_edges)
      (then_same (check_graph 0 t.spec_nodes t.spec_edges) (λ e. then_same (check_graph 2 t.impl_nodes t.impl_edges)
      (λ f. pairing_cut (graph-whole 0 t.spec_nodes t.spec_edges e) (graph-whole 2 t.impl_nodes t.impl_edges f))))

  -- tables that are not refused are not cut
  pub cut-whole : check_tables t ≡ none → cut t ≡ t
  unfolding check_tables check_pairing cut
  cut-whole e =
      let spec = then-none (check_graph 0 t.spec_nodes t.spec_edges) _ e in
      let impl = then-none (check_graph 2 t.impl_nodes t.impl_edges) _ spec.1 in
      let roots = then-none (check_shape 4 pair_width max_pairs t.root_pairs) _ impl.1 in
      let leaves = then-none (check_shape 5 pair_width max_pairs t.leaf_pairs) _ roots.1 in
      let s = graph-whole 0 t.spec_nodes t.spec_edges spec.0 in
      let i = graph-whole 2 t.impl_nodes t.impl_edges impl.0 in
      rw (
        s.0,
        s.1,
        i.0,
        i.1,
        shape_whole 4 pair_width max_pairs pair_room (omega arith) t.root_pairs roots.0,
        shape_whole 5 pair_width max_pairs pair_room (omega arith) t.leaf_pairs leaves.0,
      )

  -- the text check of what was read may go by cut tables
  pub cut-read : (room : ℕ) → check_read room (full (cut t)) ≡ check_read room (full t)
  unfolding check_read ◌then◌ answer
  cut-read room = go (check_tables t) refl
    where
      go : (o : Option Refusal) → check_tables t ≡ o → check_read room (full (cut t)) ≡ check_read room (full t)
      go none e = rw (cut-whole e) refl
      go (some r) e = rw (cut_checked, e) refl

-- ---- the tables that stand in the lent slices

-- the numbers that were stored are the front of the slice
pub stored_front : {numbers before after : List ℤ} {n : ℕ} → Stored numbers before after n → take n after ≡ numbers
stored_front {numbers} {before} {n} s = ap (take n) s.stands ∙ take_at numbers (drop n before) n (sym s.count)

module _ {text : Bytes} {before after : Tables} {z : Sizes} (r : TablesRead text before after z) where
  -- they are the tables of the text, cut
  pub front_cut : front after z ≡ cut r.tables
  unfolding cut
  front_cut =
      rw (
        stored_front r.spec_nodes,
        stored_front r.spec_edges,
        stored_front r.impl_nodes,
        stored_front r.impl_edges,
        stored_front r.root_pairs,
        stored_front r.leaf_pairs,
      )

  -- and the text check goes by them
  pub front-answers : (room : ℕ) → check_read room (full (front after z)) ≡ text_answer room text
  unfolding text_answer
  front-answers room = rw (front_cut, r.read) (cut-read r.tables room)
