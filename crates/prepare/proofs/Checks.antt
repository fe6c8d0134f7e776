-- The checks of a comparison one after the other: what is left of them, and what they leave.
use Rattle.std.specs.Prelude.{Err, Ok, Result}
use mathlib.Core.Path.{◌≡◌, refl, sym, ap, subst, ◌∙◌}
use mathlib.Core.List.{List, map}
use mathlib.Core.Option.{Option, none, some}
use Prim.Native.Nat.{ℕ, ◌<◌}
use native.Mathlib.Omega.{arith}
use lib.IntN.{ℤ}
use lib.ListN.{length, drop}
use Rattle.integers.proofs.Linear.{ints}
use Rattle.lists.specs.Lists.{◌∈◌}
use Rattle.lists.proofs.Membership.{map_out}
use Rattle.model.specs.Rows.{Edge, Pair, edge_rows}
use Rattle.model.specs.Graph.{graph_of, NodeRow}
use Rattle.model.specs.Taken.{TakenTables}
use Rattle.model.specs.Compare.{Tables, spec_graph, impl_graph, leaf_rows}
use Rattle.model.specs.Refusals.{Refusal}
use Rattle.model.specs.Checks.{◌then◌, check_graph, check_tables}
use Rattle.model.specs.Calls.{refused, full, answer}
use Rattle.model.specs.Answers.{refusal_of, checked_answer}
use Rattle.model.specs.declared.Reason.{Reason}
use Rattle.model.proofs.Checks.{then-none, answer-some, answer-none}
use Rattle.tables.proofs.Checks.{checked, then_on, then_stops}
use Rattle.tables.proofs.Rows.{graph-nodes_length}
use Rattle.grouping.specs.Links.{link_room, Linkable}
use Rattle.depth.specs.Order.{edge_order}
use Rattle.depth.specs.Passes.{order_of}
use Rattle.depth.specs.Check.{GraphChecked}
use Rattle.depth.proofs.GraphCheck.{checked_taken, checked_order}
use Rattle.reach.proofs.Turns.{order-front}
use Rattle.forward.specs.Forward.{nodes_in, plan_room, Plannable}
use Rattle.paircheck.specs.Pairing.{check_pairing_rows}
use Rattle.paircheck.proofs.Pairing.{check-pairing-rows}
use Rattle.pathlimit.specs.Checks.{check_paths}
use Rattle.pathlimit.specs.Inputs.{Inputs, AllFew, Plans}
use Rattle.prepare.specs.Prepared.{Prepared}
use Rattle.prepare.proofs.Inputs.{pairing_inputs, paths-few}

-- ---- one check after the other

-- an answer that takes is that of no refusal
pub taken_none : {given : Result (Unit {0}) Reason} (a : Option Refusal) → given ≡ Ok tt → checked_answer given ≡ checked a → a ≡ none
taken_none a g e = (answer-none tt a).0 (sym e ∙ ap checked_answer g)

-- what the checks say of the tables
module _ {t : Tables} {given : Result (Unit {0}) Reason} {sp mp links : List ℕ} (p : Prepared t given sp mp links) where
  pub prepared_none : given ≡ Ok tt → check_tables t ≡ none
  prepared_none g = taken_none (check_tables t) g p.answers

  pub prepared_some : {reason : Reason} → given ≡ Err reason → check_tables t ≡ some (refusal_of reason)
  prepared_some g = (answer-some tt (check_tables t)).0 (sym p.answers ∙ ap checked_answer g)

module _ (t : Tables) where
  -- the checks that are left give the answer
  abbrev pub Rest : Option Refusal → Type 0
  Rest a = checked (check_tables t) ≡ checked a

  -- at the beginning: the two graphs, the pairing row by row, the paths
  pub rest_all : Rest (check_graph 0 t.spec_nodes t.spec_edges then (check_graph 2 t.impl_nodes t.impl_edges then (check_pairing_rows t then check_paths t)))
  unfolding check_tables
  rest_all = rw (check-pairing-rows t) refl

  module _ (a b : Option Refusal) (r : Rest (a then b)) where
    -- a check that takes leaves the answer to those behind it
    pub rest_on : full tt ≡ checked a → Rest b
    rest_on p = r ∙ then_on a b p

    -- a check that refuses gives it
    pub rest-refused : {reason : Reason} {sp mp links : List ℕ} → refused (refusal_of reason) ≡ checked a → Prepared t (Err reason) sp mp links
    rest-refused p =
        record {
          answers = then_stops a b p ∙ sym r;
          ready = λ e. let q = ap checked_answer e in let z : ◌≡◌ {A = ℕ} 0 1 = cc in absurd (omega arith);
        }

  -- behind the plans the check of the paths is left
  pub rest-paths : {given : Result (Unit {0}) Reason} {sp mp links : List ℕ} → Plans t sp mp links → checked_answer given ≡ checked (check_paths t) → Rest (check_paths t)
      → Prepared t given sp mp links
  rest-paths k p r = record { answers = p ∙ sym r; ready = λ g. record { plans = k; few = paths-few t (taken_none (check_paths t) g p) } }

-- ---- a graph that is taken

module _ {table : ℕ} {ns es : List ℤ} {buffer order : List ℕ} (p : GraphChecked table ns es buffer (Ok tt) order) where
  -- its check gives no refusal
  graph-full : full tt ≡ checked (check_graph table ns es)
  graph-full = p.answers

  -- its tables are taken
  pub graph-taken : TakenTables ns es
  graph-taken = checked_taken table ns es graph-full

  -- and it can be planned for nodes in a column of a pair table
  pub graph_plannable : {pairs : List ℤ} {side : ℕ} {plan : List ℕ} → side < 2 → ((l : ℤ) → l ∈ nodes_in side pairs → NodeRow (graph_of ns es) l)
      → length plan ≡ plan_room → Plannable ns es order pairs side plan
  unfolding order_of
  graph_plannable h rows room =
      let behind = drop (length (map (λ (e : Edge). e.row) (edge_order (edge_rows es)))) buffer in
      record {
        tables = graph-taken;
        backward = order-front ns es order behind graph-taken (p.order ∙ checked_order table ns es graph-full buffer);
        in_pair = h;
        rows = rows;
        room = room;
      }

-- the paired leaves are node rows
module _ {t : Tables} (k : Inputs t) where
  pub spec-rows : (l : ℤ) → l ∈ nodes_in 0 t.leaf_pairs → NodeRow (spec_graph t) l
  spec-rows l m = let w = map_out (λ (p : Pair). p.spec) (leaf_rows t) m in subst (NodeRow (spec_graph t)) (sym w.2) (k.leaves w.0 w.1).0.row

  pub impl-rows : (l : ℤ) → l ∈ nodes_in 1 t.leaf_pairs → NodeRow (impl_graph t) l
  impl-rows l m = let w = map_out (λ (p : Pair). p.impl) (leaf_rows t) m in subst (NodeRow (impl_graph t)) (sym w.2) (k.leaves w.0 w.1).1.row

  -- so that the groups of leaf pairs can be linked
  pub leaves_linkable : {links : List ℕ} → length links ≡ link_room → Linkable t.leaf_pairs links
  leaves_linkable room =
      record {
        few = k.leaf_shape.few;
        within = λ p m. let row = (k.leaves p m).0.row in
            record { low = row.low; high = omega (arith, ints, row.high, k.spec.nodes.few, graph-nodes_length t.spec_nodes t.spec_edges) };
        room = room;
      }

-- ---- tables that are not refused

-- they are inputs, and each pair has few paths in both graphs
pub tables-inputs : (t : Tables) → check_tables t ≡ none → Inputs t × AllFew t
unfolding check_tables answer
tables-inputs t e =
    let graphs = then-none (check_graph 0 t.spec_nodes t.spec_edges) _ e in
    let rest = then-none (check_graph 2 t.impl_nodes t.impl_edges) _ graphs.1 in
    let pairing = then-none (check_pairing_rows t) (check_paths t) (sym (check-pairing-rows t) ∙ rest.1) in (
      pairing_inputs t (checked_taken 0 t.spec_nodes t.spec_edges (ap checked (sym graphs.0)))
          (checked_taken 2 t.impl_nodes t.impl_edges (ap checked (sym rest.0))) pairing.0,
      paths-few t pairing.1,
    )
