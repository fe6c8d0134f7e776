-- The first refusal of checks one after the other, as the code finds it; and the checks of a row by the tests on it.
use mathlib.Core.Path.{◌≡◌, refl, sym, ◌∙◌}
use mathlib.Core.Bool.{true, false}
use mathlib.Core.List.{List, [], ◌∷◌}
use mathlib.Core.Option.{Option, none, some}
use Prim.Native.Nat.{ℕ, zero, suc, ◌≤◌, ◌<◌}
use lib.ListN.{length, get_or, drop}
use lib.Seq.{drop-cons}
use Rattle.std.proofs.lemmas.List.{drop_all}
use Rattle.std.specs.Prelude.{Result, Ok, Err}
use Rattle.model.specs.declared.Reason.{Reason}
use Rattle.model.specs.Answers.{checked_answer}
use native.Mathlib.Omega.{arith}
use lib.IntN.{ℤ}
use Rattle.integers.specs.Integers.{eq_z}
use Rattle.model.specs.Rows.{Edge}
use Rattle.model.specs.Graph.{Graph, graph_of, node, block}
use Rattle.model.specs.Refusals.{Refusal}
use Rattle.model.specs.Checks.{when, ◌then◌, first_refusal, good_edge, check_edge, cyclic, deep, check_graph}
use Rattle.model.specs.Calls.{Answer, refused, full, answer}
use Rattle.model.specs.Answers.{numbered}
use Rattle.model.proofs.Checks.{then_assoc}
use Rattle.tables.specs.Tables.{FirstRefused, check_rows}

-- the answer of a check
abbrev pub checked : Option Refusal → Answer (Unit {0})
checked a = answer a tt

-- ---- one check after the other

-- a check that gives no refusal leaves the answer to the next
pub then_on : (a b : Option Refusal) → full tt ≡ checked a → checked (a then b) ≡ checked b
unfolding answer ◌then◌
then_on none b e = refl
then_on (some r) b e = let z : ◌≡◌ {A = ℕ} 0 1 = cc in absurd (omega arith)

-- a check that gives a refusal gives the answer
pub then_stops : (a b : Option Refusal) {r : Refusal} → refused r ≡ checked a → refused r ≡ checked (a then b)
unfolding answer ◌then◌
then_stops none b e = let z : ◌≡◌ {A = ℕ} 0 1 = cc in absurd (omega arith)
then_stops (some s) b e = e

module _ {R : Type 0} (check : R → Option Refusal) where
  -- the first refusal of all rows is that of the rows that are left
  abbrev pub Left : List R → List R → Type 0
  Left all rows = checked (first_refusal check all) ≡ checked (first_refusal check rows)

  module _ (all : List R) {rows : List R} (left : Left all rows) where
    -- no row is left: none is refused
    pub left_none : rows ≡ [] → full tt ≡ checked (first_refusal check all)
    unfolding answer first_refusal
    left_none e = sym (rw e at left)

    module _ {row : R} {rest : List R} (next : rows ≡ row ∷ rest) where
      -- a row that is not refused is left behind
      pub left_on : full tt ≡ checked (check row) → Left all rest
      unfolding first_refusal
      left_on e = (rw next at left) ∙ then_on (check row) (first_refusal check rest) e

      -- a row that is refused gives the answer
      pub left_stops : {r : Refusal} → refused r ≡ checked (check row) → refused r ≡ checked (first_refusal check all)
      unfolding first_refusal
      left_stops e = then_stops (check row) (first_refusal check rest) e ∙ sym (rw next at left)

-- ---- the checks of the rows of a table, by their numbers

module _ {R : Type 0} (check : R → Option Refusal) (all : List R) (d : R) {gives : ℕ → Result (Unit {0}) Reason → Type 0} {count : ℕ} (size : length all ≡ count)
    (each : (v : ℕ) (a : Result (Unit {0}) Reason) → v < count → gives v a → checked_answer a ≡ checked (check (get_or all v d)))
  where
    -- rows that are taken are left behind
    rows-left : (v : ℕ) → v ≤ count → ((w : ℕ) → w < v → gives w (Ok tt)) → Left check all (drop v all)
    rows-left zero h taken = refl
    rows-left (suc v) h taken =
        left_on check all (rows-left v (omega arith) (λ w k. taken w (omega arith))) (drop-cons all v d (omega arith))
        (each v (Ok tt) (omega arith) (taken v (omega arith)))

    -- the answer of all rows: the first refusal, or that they are taken
    rows-answered : (given : Result (Unit {0}) Reason) → FirstRefused gives count given → checked_answer given ≡ checked (first_refusal check all)
    rows-answered (Ok _) f = left_none check all (rows-left count (omega arith) (f.taken refl)) (drop_all count all (omega arith))
    rows-answered (Err r) f =
        let w = f.refused r refl in
        left_stops check all (rows-left w.0 (omega (arith, w.1)) w.2) (drop-cons all w.0 d (omega (arith, w.1))) (each w.0 (Err r) w.1 w.3)

-- where each check answers that of its row, they answer that of the first refusal of all rows
pub rows_checked : {R : Type 0} (check : R → Option Refusal) (all : List R) (d : R) {gives : ℕ → Result (Unit {0}) Reason → Type 0} {count : ℕ}
    {given : Result (Unit {0}) Reason} → FirstRefused gives count given → length all ≡ count
    → ((v : ℕ) (a : Result (Unit {0}) Reason) → v < count → gives v a → checked_answer a ≡ checked (check (get_or all v d)))
    → checked_answer given ≡ checked (first_refusal check all)
rows_checked check all d {given} first size each = rows-answered check all d size each given first

-- ---- the checks of a row

module _ (t : ℕ) (g : Graph) (e : Edge) where
  -- a row that fails the test is refused
  pub edge_refused : good_edge g e ≡ false → refused (numbered 3 t e.row) ≡ checked (check_edge t g e)
  unfolding answer when ◌then◌ check_edge
  edge_refused p = rw p

  -- a row that passes the test and leaves a block is refused
  pub edge_from-block : good_edge g e ≡ true → eq_z (node g e.from).kind block ≡ true → refused (numbered 4 t e.row) ≡ checked (check_edge t g e)
  unfolding answer when ◌then◌ check_edge
  edge_from-block p q = rw (p, q)

  -- a row that passes the test and leaves no block is not refused
  pub edge_taken : good_edge g e ≡ true → eq_z (node g e.from).kind block ≡ false → full tt ≡ checked (check_edge t g e)
  unfolding answer when ◌then◌ check_edge
  edge_taken p q = rw (p, q)

-- ---- one graph

-- the check of a graph: its tables row by row, then cycles and long chains
pub check-graph-rows : (t : ℕ) (ns es : List ℤ)
    → check_graph t ns es ≡ check_rows t ns es then (when (cyclic (graph_of ns es)) 5 t 0 then when (deep (graph_of ns es)) 6 t 0)
unfolding check_graph check_rows
check-graph-rows t ns es = simp then_assoc
