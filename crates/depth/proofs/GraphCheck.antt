-- The check of one graph is the checks of its rows and then what its edges are: its answer, the buffer for the order, and that a graph
-- that it takes is taken.
use Rattle.std.specs.Prelude.{Err, Ok, Result}
use mathlib.Core.Path.{◌≡◌, sym, ap, subst, ◌∙◌}
use mathlib.Core.List.{List, flat_map}
use mathlib.Core.Option.{none, some}
use Prim.Native.Nat.{ℕ, suc, ◌≤◌}
use native.Mathlib.Omega.{arith}
use lib.IntN.{ℤ}
use Rattle.integers.proofs.Linear.{ints}
use Rattle.lists.specs.Lists.{◌∈◌}
use Rattle.model.specs.Limits.{node_width, edge_width, max_nodes, max_edges}
use Rattle.model.specs.Rows.{Edge, node_rows, edge_rows}
use Rattle.model.specs.Graph.{graph_of, NodeRow}
use Rattle.model.specs.Refusals.{edge_conditions, graph_conditions}
use Rattle.model.specs.Checks.{when, ◌then◌, first_refusal, check_shape, check_node, check_edge, cyclic, deep, check_graph}
use Rattle.model.specs.Calls.{answer}
use Rattle.model.specs.Answers.{refusal_of, checked_answer}
use Rattle.model.specs.declared.Reason.{Reason}
use Rattle.model.specs.Taken.{TakenTables}
use Rattle.model.proofs.Checks.{then-none, answer-some, answer-none}
use Rattle.model.proofs.Settled.{Settled, settled_each}
use Rattle.model.proofs.GraphChecks.{edge_settled, edges_end, graph_settled}
use Rattle.model.proofs.Taken.{shape_taken, tables-taken}
use Rattle.tables.specs.Tables.{check_rows}
use Rattle.tables.proofs.Rows.{nodes_length}
use Rattle.tables.proofs.Checks.{check-graph-rows}
use Rattle.depth.specs.declared.Chained.{Chained}
use Rattle.depth.specs.Order.{chains_of, chain_refusal}
use Rattle.depth.specs.Passes.{Within, Orderable, OrderedInto, order_of}
use Rattle.depth.specs.Check.{order_unless, order_after, GraphChecked}
use Rattle.depth.proofs.ChainChecks.{chains_checked}

-- ---- rows that the checks take

module _ (t : ℕ) (ns es : List ℤ) (good : check_rows t ns es ≡ none) where
  rows_parts : (check_shape t node_width max_nodes ns ≡ none) × (check_shape (suc t) edge_width max_edges es ≡ none)
      × (first_refusal (check_edge (suc t) (graph_of ns es)) (edge_rows es) ≡ none)
  unfolding check_rows
  rows_parts =
      let nodes = first_refusal (check_node t) (node_rows ns) in
      let edges = first_refusal (check_edge (suc t) (graph_of ns es)) (edge_rows es) in
      let a = then-none (check_shape t node_width max_nodes ns) (check_shape (suc t) edge_width max_edges es then nodes then edges) good in
      let b = then-none (check_shape (suc t) edge_width max_edges es) (nodes then edges) a.1 in
      (a.0, b.0, (then-none nodes edges b.1).1)

  -- the ends of every edge are node rows
  pub rows-ends : (e : Edge) → e ∈ edge_rows es → NodeRow (graph_of ns es) e.from × NodeRow (graph_of ns es) e.to
  unfolding graph_of
  rows-ends =
      let g = graph_of ns es in
      let each = settled_each (check_edge (suc t) g) (edge_conditions (suc t) g) (edge_rows es) (λ e m. edge_settled (suc t) g e) in
      edges_end (suc t) g (subst (λ c. Settled c (flat_map (edge_conditions (suc t) g) (edge_rows es))) rows_parts.2 each)

  -- the edges can be ordered into a buffer with room for as many edges as a graph may have
  pub rows_orderable : {room : ℕ} → max_edges ≤ room → Orderable es room
  unfolding graph_of
  rows_orderable h =
      let few = (shape_taken (suc t) edge_width max_edges es rows_parts.1).few in
      record { few = few; fits = omega arith; ends = λ e m. (within (rows-ends e m).0, within (rows-ends e m).1) }
    where
      within : {v : ℤ} → NodeRow (graph_of ns es) v → Within max_nodes v
      within r =
          let few = (shape_taken t node_width max_nodes ns rows_parts.0).few in
          record { low = r.low; high = omega (arith, ints, r.high, few, nodes_length ns) }

  -- the check refuses as the chains of the edges say
  pub rows-chains : check_graph t ns es ≡ chain_refusal t (chains_of (edge_rows es))
  unfolding ◌then◌ graph_of
  rows-chains =
      let chains = when (cyclic (graph_of ns es)) 5 t 0 then when (deep (graph_of ns es)) 6 t 0 in
      check-graph-rows t ns es ∙ ap (λ c. c then chains) good ∙ chains_checked (graph_of ns es) rows-ends t

  -- the buffer has the edges in order
  pub rows-order : (buffer : List ℕ) → order_after t ns es buffer ≡ order_of es buffer
  unfolding order_after order_unless
  rows-order buffer = ap (λ c. order_unless c es buffer) good

-- ---- the answer of the check

module _ (t : ℕ) (ns es : List ℤ) (buffer : List ℕ) where
  -- where the checks of the rows refuse, the check does so, and the buffer is untouched
  pub rows-refused : (r : Reason) → checked_answer (Err r) ≡ answer (check_rows t ns es) tt → GraphChecked t ns es buffer (Err r) buffer
  unfolding answer order_after order_unless ◌then◌
  rows-refused r e =
      let bad : check_rows t ns es ≡ some (refusal_of r) = (answer-some tt (check_rows t ns es)).0 (sym e) in
      let chains = when (cyclic (graph_of ns es)) 5 t 0 then when (deep (graph_of ns es)) 6 t 0 in
      record {
        answers = sym (ap (λ c. answer c tt) (check-graph-rows t ns es ∙ ap (λ c. c then chains) bad));
        order = sym (ap (λ c. order_unless c es buffer) bad);
      }

  module _ (taken : checked_answer (Ok tt) ≡ answer (check_rows t ns es) tt) where
    -- where they take the graph, its edges can be ordered
    pub rows_taken : {room : ℕ} → max_edges ≤ room → Orderable es room
    rows_taken h = rows_orderable t ns es ((answer-none tt (check_rows t ns es)).0 (sym taken)) h

    -- and the check answers as the chains of its edges say
    pub chains_answered : {found : Chained} {buffer' : List ℕ} {given : Result (Unit {0}) Reason} → OrderedInto es buffer found buffer'
        → checked_answer given ≡ answer (chain_refusal t found) tt → GraphChecked t ns es buffer given buffer'
    chains_answered o e =
        let good = (answer-none tt (check_rows t ns es)).0 (sym taken) in
        record {
          answers = e ∙ ap (λ c. answer (chain_refusal t c) tt) o.chains ∙ ap (λ c. answer c tt) (sym (rows-chains t ns es good));
          order = o.order ∙ sym (rows-order t ns es good buffer);
        }

-- ---- a graph that the check takes

module _ (t : ℕ) (ns es : List ℤ) (takes : checked_answer (Ok tt) ≡ answer (check_graph t ns es) tt) where
  -- its tables are taken
  pub checked_taken : TakenTables ns es
  checked_taken =
      tables-taken t ns es (subst (λ c. Settled c (graph_conditions t ns es)) ((answer-none tt (check_graph t ns es)).0 (sym takes)) (graph_settled t ns es))

  -- the buffer has its edges in order
  pub checked_order : (buffer : List ℕ) → order_after t ns es buffer ≡ order_of es buffer
  checked_order buffer =
      let chains = when (cyclic (graph_of ns es)) 5 t 0 then when (deep (graph_of ns es)) 6 t 0 in
      let none-all : (check_rows t ns es then chains) ≡ none = sym (check-graph-rows t ns es) ∙ (answer-none tt (check_graph t ns es)).0 (sym takes) in
      rows-order t ns es (then-none (check_rows t ns es) chains none-all).0 buffer
