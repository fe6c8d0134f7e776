-- Refusal 10, root row by root row.
use mathlib.Core.Path.{◌≡◌, refl, sym, subst}
use mathlib.Core.List.{List}
use Prim.Native.Nat.{ℕ, ◌/◌, ◌≤◌, ◌<◌}
use native.Mathlib.Omega.{arith}
use lib.IntN.{ℤ, pos}
use lib.ListN.{length}
use Rattle.integers.proofs.Linear.{ints}
use Rattle.lists.proofs.Membership.{map_in}
use Rattle.model.specs.Limits.{pair_width, max_nodes}
use Rattle.model.specs.Rows.{Pair}
use Rattle.model.specs.Graph.{graph_of, NodeRow}
use Rattle.model.specs.Paths.{Root}
use Rattle.model.specs.Taken.{TakenTables}
use Rattle.model.specs.Compare.{Tables, root_rows, leaf_rows, group, groups, visits}
use Rattle.model.proofs.GroupRows.{group-leaf, group_in}
use Rattle.model.specs.Checks.{first_refusal, check_visit}
use Rattle.model.proofs.Checks.{first_agree, first_flat_map}
use Rattle.tables.proofs.Rows.{nodes_length, graph-nodes_length}
use Rattle.depth.specs.Passes.{Within}
use Rattle.forward.specs.Forward.{Planned}
use Rattle.tables.specs.Tables.{pair_at}
use Rattle.pathlimit.specs.Inputs.{Plans}
use Rattle.pathlimit.specs.Counting.{Countable, Counted}
use Rattle.pathlimit.specs.Checks.{check_paths, check_row, check_counts, check_group, GroupsCounted}
use Rattle.pathlimit.proofs.Inputs.{row-roots, root-row-below}
use Rattle.pathlimit.proofs.Leaves.{leaf-count, leaf-many, banks-many}

-- ---- all root rows

-- the first refusal of all pairs in visiting order is that of the root rows one after the other
pub paths-rows : (t : Tables) → check_paths t ≡ first_refusal (check_row t) (root_rows t)
unfolding visits check_row
paths-rows t = first_flat_map (check_visit t) (λ r l. record { root = r; leaf = l }) (root_rows t) (groups t)

-- ---- one root row

-- a node row of a taken graph is a place of a list that has room for all nodes
node-within : {ns es : List ℤ} {v : ℤ} (room : ℕ) → TakenTables ns es → NodeRow (graph_of ns es) v → max_nodes ≤ room → Within room v
node-within {ns} {es} room k r h = record { low = r.low; high = omega (arith, ints, r.high, k.nodes.few, graph-nodes_length ns es) }

-- what a count from a root starts from
countable : {ns es : List ℤ} {plan counts : List ℕ} {r : ℤ} (root : ℕ) → TakenTables ns es → Planned ns es plan → Root (graph_of ns es) r → pos root ≡ r
    → max_nodes ≤ length counts → Countable ns es plan root counts
countable {ns} {es} root k p top e h =
    record { tables = k; planned = p; top = subst (Root (graph_of ns es)) (sym e) top; room = omega (arith, h, k.nodes.few, nodes_length ns) }

module _ {t : Tables} {specPlan implPlan links : List ℕ} (k : Plans t specPlan implPlan links) (i : ℕ) (h : i < length t.root_pairs / pair_width) where
  -- the paths from each can be counted
  pub spec_countable : {counts : List ℕ} {s : ℕ} → pos s ≡ (pair_at t.root_pairs i).spec → max_nodes ≤ length counts
      → Countable t.spec_nodes t.spec_edges specPlan s counts
  spec_countable {s = s} e room = countable s k.inputs.spec k.spec_planned (row-roots k.inputs i h).0 e room

  pub impl_countable : {counts : List ℕ} {m : ℕ} → pos m ≡ (pair_at t.root_pairs i).impl → max_nodes ≤ length counts
      → Countable t.impl_nodes t.impl_edges implPlan m counts
  impl_countable {m = m} e room = countable m k.inputs.impl k.impl_planned (row-roots k.inputs i h).1 e room

  -- the groups can be checked by counts from the roots, with room for all nodes
  pub groups-counted : {specCounts implCounts : List ℕ} {m : ℕ} → max_nodes ≤ length specCounts → max_nodes ≤ length implCounts
      → Counted t.impl_nodes t.impl_edges implPlan m implCounts → GroupsCounted t.leaf_pairs links i specCounts implCounts
  groups-counted {specCounts} {implCounts} s r counted =
      record {
        row = root-row-below k.inputs i h;
        within = λ p n. node-within (length specCounts) k.inputs.spec (k.inputs.leaves p n).0.row s;
        sums = record {
          linked = k.linked;
          rows = k.inputs.leaf_shape.few;
          within = λ p n. node-within (length implCounts) k.inputs.impl (k.inputs.leaves p n).1.row r;
          stopped = λ p n. omega (arith, leaf-count k.impl_leading counted p.impl (map_in (λ (x : Pair). x.impl) n) (k.inputs.leaves p n).1.row);
        };
      }

  -- by the counts from its roots each group has the refusal that its paths have
  pub row_checked : {specCounts implCounts : List ℕ} {s m : ℕ} → pos s ≡ (pair_at t.root_pairs i).spec → pos m ≡ (pair_at t.root_pairs i).impl
      → Counted t.spec_nodes t.spec_edges specPlan s specCounts → Counted t.impl_nodes t.impl_edges implPlan m implCounts
      → first_refusal (check_group (leaf_rows t) specCounts implCounts i) (groups t) ≡ check_row t (pair_at t.root_pairs i)
  unfolding check_group check_counts check_row check_visit
  row_checked {specCounts} {implCounts} {s} {m} p q sc ic =
      first_agree (check_group (leaf_rows t) specCounts implCounts i) (λ l. check_visit t (record { root = pair_at t.root_pairs i; leaf = l })) (groups t)
      (λ l n.
      let own = group-leaf t n in
      let spec = leaf-many k.spec_leading sc l.spec (map_in (λ (x : Pair). x.spec) own) (k.inputs.leaves l own).0.row in
      let impl = banks-many k.impl_leading ic (group (leaf_rows t) l) (λ b o.
      let c = ((group_in t l b).0 o).0 in (map_in (λ (x : Pair). x.impl) c, (k.inputs.leaves b c).1.row)) in
      rw (spec, impl, p, q) refl)
