-- One graph of a pair: the list of its leaf, or of its group, can be asked of the swept graph, and what stands there then can be judged and worked in.
use mathlib.Core.Path.{◌≡◌, sym, ap, subst}
use mathlib.Core.List.{List, []}
use Prim.Native.Nat.{ℕ, ◌-◌, ◌*◌, ◌/◌, ◌≤◌, ◌<◌}
use native.Mathlib.Omega.{arith}
use lib.IntN.{ℤ, pos, nat_abs}
use lib.Signed.{yes_non_neg, pos-nat_abs}
use lib.ListN.{length}
use borrow.Rule.Slice.PartMut.{mid_of, put_mid, same_len_mid, take_put}
use Rattle.integers.proofs.Linear.{ints}
use Rattle.lists.specs.Lists.{◌∈◌}
use Rattle.lists.proofs.Membership.{map_in}
use Rattle.model.specs.declared.WalkKind.{WalkKind}
use Rattle.model.specs.Limits.{pair_width, max_paths}
use Rattle.model.specs.Rows.{Pair}
use Rattle.model.specs.Graph.{Graph, graph_of}
use Rattle.model.specs.Paths.{Root, Leaf, Way, stay}
use Rattle.model.specs.Bitmapping.{Record}
use Rattle.model.specs.Runs.{paths, list_of}
use Rattle.model.specs.Groups.{Bank, group_list, group_paths}
use Rattle.model.specs.Compare.{Tables, spec_graph, impl_graph, root_rows, groups}
use Rattle.model.proofs.Visits.{visits_in}
use Rattle.model.proofs.GroupRows.{group-leaf, bank_out}
use Rattle.tables.specs.Tables.{pair_at}
use Rattle.tables.proofs.Rows.{pair_member}
use Rattle.reach.specs.Counting.{path_count}
use Rattle.sorting.specs.Rows.{row_width}
use Rattle.sorting.proofs.Halves.{part_lent, part_length}
use Rattle.normalisation.specs.Merging.{displaced_of, sorted_by_displacement}
use Rattle.normalisation.proofs.Sorted.{by-displacement_members}
use Rattle.entering.specs.Entering.{Covered}
use Rattle.forward.specs.Forward.{planned_of, LeadingTo}
use Rattle.grouping.specs.Links.{group_count, group_row}
use Rattle.grouping.proofs.Passing.{group_member, group-there, pass_start}
use Rattle.arrivals.specs.declared.ListRows.{ListRows}
use Rattle.arrivals.specs.Sweep.{Swept}
use Rattle.groups.specs.Banks.{ListAnswered, GroupAnswered, Answered, Askable, GroupAskable, banks_at}
use Rattle.judging.specs.Judging.{SmallRows}
use Rattle.pairs.specs.Found.{PairReady}
use Rattle.pairs.proofs.Lists.{PairList, leaf-list, group_pair_list}

-- every edge that enters a leaf which the plan is made for is in the plan, since the leaf leads to itself
leaf-covered : {ns es ls : List ℤ} {plan : List ℕ} {l : ℤ} → LeadingTo ns es ls plan → l ∈ ls → Covered es (planned_of es plan) l
leaf-covered {ns} {es} {l = l} leads m f k q = leads.all f k (l, m, ([], subst (λ (v : ℤ). Way (graph_of ns es) v [] l) (sym q) stay))

-- a root, as the code has it
root-number : {g : Graph} {r : ℤ} → Root g r → pos (nat_abs r) ≡ r
root-number {r = r} top = pos-nat_abs r (yes_non_neg top.row.low)

-- ---- the two lists of a pair

module _ {kind : WalkKind} {t : Tables} {i j : ℕ} {sp mp links : List ℕ} {ss ms e : List ℤ} (k : PairReady kind t i sp mp links ss ms e) {group : ℕ} (h : group < group_count links)
    (lowest : j ≡ group_row links group) where
  -- the root row is there
  row_in : pair_at t.root_pairs i ∈ root_rows t
  row_in = pair_member t.root_pairs i (omega (arith, k.row))

  -- its nodes are roots
  roots : Root (spec_graph t) (pair_at t.root_pairs i).spec × Root (impl_graph t) (pair_at t.root_pairs i).impl
  roots = k.ready.plans.inputs.roots (pair_at t.root_pairs i) row_in

  -- the leaf row is the lowest of a group, and is there
  lowest_in : pair_at t.leaf_pairs j ∈ groups t
  lowest_in = rw lowest (group_member k.ready.plans.linked group h)

  pub leaf-there : j < length t.leaf_pairs / pair_width
  leaf-there = omega (arith, lowest, group-there k.ready.plans.linked group h)

  -- its specification leaf is a leaf
  pub spec-leaf : Leaf (spec_graph t) (pair_at t.leaf_pairs j).spec
  spec-leaf = (k.ready.plans.inputs.leaves (pair_at t.leaf_pairs j) (group-leaf t lowest_in)).0

  -- the paths to it, and to the banks of the group together, are few
  few : (length (paths (spec_graph t) (pair_at t.root_pairs i).spec (pair_at t.leaf_pairs j).spec) ≤ max_paths)
      × (group_paths (impl_graph t) (pair_at t.root_pairs i).impl (banks_at t.leaf_pairs j) ≤ max_paths)
  few = k.ready.few (record { root = pair_at t.root_pairs i; leaf = pair_at t.leaf_pairs j }) ((visits_in (root_rows t) (groups t)).1 (row_in, lowest_in))

  -- the list of the specification leaf, and that of the group
  abbrev pub spec_list : List Record
  spec_list = list_of kind (spec_graph t) (pair_at t.root_pairs i).spec (pair_at t.leaf_pairs j).spec

  abbrev pub impl_list : List Record
  impl_list = group_list kind (impl_graph t) (pair_at t.root_pairs i).impl (banks_at t.leaf_pairs j)

  pub spec-list : PairList spec_list
  spec-list = leaf-list kind k.ready.plans.inputs.spec.graph roots.0.row spec-leaf few.0

  -- each bank of the group is a leaf
  bank_leaf : (b : Bank) → b ∈ banks_at t.leaf_pairs j → Leaf (impl_graph t) b.leaf
  bank_leaf b m =
      let (p, n, s, q) = bank_out t (pair_at t.leaf_pairs j) m in
      subst (Leaf (impl_graph t)) (sym (ap (λ (c : Bank). c.leaf) q)) (k.ready.plans.inputs.leaves p n).1

  pub impl-list : PairList impl_list
  impl-list = group_pair_list kind k.ready.plans.inputs.impl.graph roots.1.row (banks_at t.leaf_pairs j) bank_leaf few.1

  -- each can be asked
  pub spec_askable : {v : ℕ} → pos v ≡ (pair_at t.leaf_pairs j).spec → Askable t.spec_nodes t.spec_edges sp v ss e
  unfolding path_count
  spec_askable is =
      record {
        kind = kind;
        root = nat_abs (pair_at t.root_pairs i).spec;
        state = k.spec;
        block = rw is spec-leaf;
        covered = rw is (leaf-covered k.ready.plans.spec_leading (map_in (λ (x : Pair). x.spec) (group-leaf t lowest_in)));
        few = rw (is, root-number roots.0) few.0;
        spare_room = omega (arith, k.rooms.list);
      }

  pub impl_askable : {e' : List ℤ} → length e' ≡ length e → GroupAskable t.impl_nodes t.impl_edges mp t.leaf_pairs links j ms e'
  impl_askable same =
      let inputs = k.ready.plans.inputs in
      record {
        kind = kind;
        root = nat_abs (pair_at t.root_pairs i).impl;
        state = k.impl;
        linked = k.ready.plans.linked;
        rows = inputs.leaf_shape.few;
        start = rw lowest (pass_start k.ready.plans.linked group h);
        there = leaf-there;
        listable = λ p m.
            record {
              block = (inputs.leaves p m).1;
              covered = leaf-covered k.ready.plans.impl_leading (map_in (λ (x : Pair). x.impl) m);
              small = record { low = (inputs.starts p m).0; high = omega (arith, ints, (inputs.starts p m).1) };
            };
        few = rw (root-number roots.1) few.1;
        spare_room = omega (arith, k.rooms.list, same);
      }

  -- and then they are answered
  pub spec_answered : {v : ℕ} → pos v ≡ (pair_at t.leaf_pairs j).spec → {s : List ℤ} {p : ListRows}
      → Answered kind t.spec_nodes t.spec_edges sp (nat_abs (pair_at t.root_pairs i).spec) v s p
      → ListAnswered kind t.spec_nodes t.spec_edges sp (nat_abs (pair_at t.root_pairs i).spec) spec_list s p
  spec_answered is a = rw (is, root-number roots.0) at a

  pub impl_answered : {s : List ℤ} {p : ListRows}
      → GroupAnswered kind t.impl_nodes t.impl_edges mp (nat_abs (pair_at t.root_pairs i).impl) (banks_at t.leaf_pairs j) s p
      → ListAnswered kind t.impl_nodes t.impl_edges mp (nat_abs (pair_at t.root_pairs i).impl) impl_list s p
  impl_answered a = rw (root-number roots.1) at a

-- ---- one list in its state

-- a state from row u on
abbrev pub from_row : ℕ → List ℤ → List ℤ
from_row u s = mid_of (row_width * u) (length s - row_width * u) s

module _ {kind : WalkKind} {ns es : List ℤ} {plan : List ℕ} {root : ℕ} {l : List Record} (k : PairList l) {s : List ℤ} {p : ListRows} (a : ListAnswered kind ns es plan root l s p) where
  -- its records are its rows
  pub side_rows : displaced_of (from_row p.row s) p.count ≡ sorted_by_displacement l
  side_rows = rw (part_lent (row_width * p.row) s) a.rows

  -- at most 1,024
  pub side_few : p.count ≤ max_paths
  side_few = omega (arith, a.count, k.few)

  -- they are small
  pub side_small : SmallRows (from_row p.row s) p.count
  side_small =
      record {
        within = omega (arith, part_length (row_width * p.row) s, a.within);
        small = rw side_rows (λ q m. k.small q ((by-displacement_members l).0 m));
      }

  -- whatever is written in their place, the graph is swept as before
  pub side_swept : (new : List ℤ) → length new ≡ length (from_row p.row s)
      → Swept kind ns es plan root (put_mid (row_width * p.row) (length s - row_width * p.row) s new)
  side_swept new q =
      let u = row_width * p.row in
      a.free (put_mid u (length s - u) s new) (same_len_mid u (length s - u) s new q) (take_put u (length s - u) s new (omega (arith, a.within)))
