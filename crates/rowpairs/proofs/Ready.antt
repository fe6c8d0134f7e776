-- Each graph can be swept for a kind of walk from the root of a root row, and then the pairs of the row can be found for this kind. Plans and states are sp and ss for the specification, mp
-- and ms for the implementation; the spare area is e.
use mathlib.Core.Path.{◌≡◌, ap, subst}
use mathlib.Core.List.Memᴰ
use mathlib.Core.List.{List, flat_map}
use Prim.Native.Nat.{ℕ, ◌*◌, ◌/◌, ◌≤◌, ◌<◌}
use native.Mathlib.Omega.{arith}
use lib.IntN.{ℤ, pos, nat_abs}
use lib.ListN.{length, length-append}
use Rattle.lists.specs.Lists.{◌∈◌}
use Rattle.lists.proofs.Membership.{map_out}
use Rattle.model.specs.declared.WalkKind.{WalkKind}
use Rattle.model.specs.Limits.{pair_width, max_paths}
use Rattle.model.specs.Rows.{Pair}
use Rattle.model.specs.Graph.{Graph, graph_of}
use Rattle.model.specs.Paths.{Root}
use Rattle.model.specs.Runs.{paths}
use Rattle.model.specs.Taken.{TakenTables}
use Rattle.model.specs.Groups.{Bank, leaves_of, group_paths}
use Rattle.model.specs.Compare.{Tables, spec_graph, impl_graph, root_rows, leaf_rows, groups}
use Rattle.model.proofs.Visits.{visits_in}
use Rattle.model.proofs.GroupRows.{bank_in, group_of}
use Rattle.tables.specs.Tables.{pair_at}
use Rattle.tables.proofs.Rows.{pair_member}
use Rattle.reach.specs.Counting.{path_count}
use Rattle.entering.proofs.Counts.{count-way}
use Rattle.forward.specs.Forward.{Planned, LeadingTo}
use Rattle.pathlimit.specs.Inputs.{Ready}
use Rattle.pathlimit.proofs.Inputs.{row-roots}
use Rattle.sorting.specs.Rows.{row_width}
use Rattle.arrivals.specs.State.{state_room}
use Rattle.arrivals.specs.Sweep.{Sweepable, Swept}
use Rattle.pairs.specs.Found.{Rooms, PairReady}

-- no more paths lead to a bank than to its group
bank_few : (g : Graph) (r : ℤ) {b : Bank} {bs : List Bank} → b ∈ bs → length (paths g r b.leaf) ≤ group_paths g r bs
unfolding group_paths flat_map
bank_few g r (Memᴰ.head {x = c} {xs = bs} e) =
    omega (arith, length-append (paths g r c.leaf) (flat_map (paths g r) (leaves_of bs)), ap (λ (d : Bank). length (paths g r d.leaf)) e)
bank_few g r (Memᴰ.tail {x = c} {xs = bs} m) =
    omega (arith, length-append (paths g r c.leaf) (flat_map (paths g r) (leaves_of bs)), bank_few g r m)

-- few paths lead from a root to a node that the plan's edges enter, since no fewer lead on from it to one of the leaves: so the graph can be swept from the
-- root, which is u as the code has it
root_sweepable : {ns es ls : List ℤ} {plan : List ℕ} {r : ℤ} {u : ℕ} {s e : List ℤ} → TakenTables ns es → Planned ns es plan → LeadingTo ns es ls plan
    → Root (graph_of ns es) r → ((l : ℤ) → l ∈ ls → length (paths (graph_of ns es) r l) ≤ max_paths) → pos u ≡ r → length s ≡ state_room → length e ≡ row_width * max_paths
    → Sweepable ns es plan u s e
unfolding path_count
root_sweepable {ns} {es} {plan} k planned leads root few q room spare_room =
    record {
      tables = k;
      planned = planned;
      start = rw q root;
      few = λ e m.
          let w = leads.leads e m in
          rw q (omega (arith, count-way k.graph.acyclic k.graph.short root.unentered w.2.1, few w.0 w.1));
      room = room;
      spare_room = omega (arith, spare_room);
    }

module _ {t : Tables} {sp mp links : List ℕ} (k : Ready t sp mp links) {i : ℕ} (h : i < length t.root_pairs / pair_width) where
  -- each paired leaf has few paths from the root of its side: a specification leaf as that of its group, an implementation leaf as a bank of its group
  spec-few : (p : Pair) → p ∈ leaf_rows t → length (paths (spec_graph t) (pair_at t.root_pairs i).spec p.spec) ≤ max_paths
  spec-few p m =
      let (l, n, e) = group_of t m in
      rw e (k.few (record { root = pair_at t.root_pairs i; leaf = l }) ((visits_in (root_rows t) (groups t)).1 (pair_member t.root_pairs i (omega arith), n))).0

  impl-few : (p : Pair) → p ∈ leaf_rows t → length (paths (impl_graph t) (pair_at t.root_pairs i).impl p.impl) ≤ max_paths
  impl-few p m =
      let (l, n, e) = group_of t m in
      let all = (k.few (record { root = pair_at t.root_pairs i; leaf = l }) ((visits_in (root_rows t) (groups t)).1 (pair_member t.root_pairs i (omega arith), n))).1 in
      omega (arith, all, bank_few (impl_graph t) (pair_at t.root_pairs i).impl (bank_in t l m e))

  -- the specification can be swept from its root
  pub spec_sweepable : {u : ℕ} {s e : List ℤ} → pos u ≡ (pair_at t.root_pairs i).spec → length s ≡ state_room → length e ≡ row_width * max_paths
      → Sweepable t.spec_nodes t.spec_edges sp u s e
  spec_sweepable =
      let p = k.plans in
      root_sweepable p.inputs.spec p.spec_planned p.spec_leading (row-roots p.inputs i h).0
      (λ l m. let w = map_out (λ x. x.spec) (leaf_rows t) m in rw w.2 (spec-few w.0 w.1))

  -- and the implementation from its own
  pub impl_sweepable : {u : ℕ} {s e : List ℤ} → pos u ≡ (pair_at t.root_pairs i).impl → length s ≡ state_room → length e ≡ row_width * max_paths
      → Sweepable t.impl_nodes t.impl_edges mp u s e
  impl_sweepable =
      let p = k.plans in
      root_sweepable p.inputs.impl p.impl_planned p.impl_leading (row-roots p.inputs i h).1
      (λ l m. let w = map_out (λ x. x.impl) (leaf_rows t) m in rw w.2 (impl-few w.0 w.1))

  -- then the pairs of the row can be found
  pub pairs-ready : {kind : WalkKind} {u v : ℕ} {ss ms e : List ℤ} → pos u ≡ (pair_at t.root_pairs i).spec → pos v ≡ (pair_at t.root_pairs i).impl
      → Swept kind t.spec_nodes t.spec_edges sp u ss → Swept kind t.impl_nodes t.impl_edges mp v ms → Rooms ss ms e → PairReady kind t i sp mp links ss ms e
  pairs-ready {kind} {ss = ss} {ms} p q a b rooms =
      record {
        ready = k;
        rooms = rooms;
        row = h;
        spec = subst (λ (r : ℤ). Swept kind t.spec_nodes t.spec_edges sp (nat_abs r) ss) p a;
        impl = subst (λ (r : ℤ). Swept kind t.impl_nodes t.impl_edges mp (nat_abs r) ms) q b;
      }
