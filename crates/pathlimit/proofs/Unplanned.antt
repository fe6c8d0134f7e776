-- Plans without an edge: no edge enters a paired leaf, so that no path leads to one and no pair is refused.
use mathlib.Core.Path.{◌≡◌, refl, sym, ap, subst, ◌∙◌}
use mathlib.Core.Logic.{◌≢◌, ⊎_elim}
use mathlib.Core.List.Memᴰ
use mathlib.Core.List.{List, [], ◌∷◌, map, flat_map}
use mathlib.Core.Option.{none}
use Prim.Native.Nat.{ℕ, ◌+◌}
use native.Mathlib.Omega.{arith}
use lib.IntN.{ℤ}
use lib.ListN.{length, take, length-append}
use Rattle.integers.proofs.Linear.{ints}
use Rattle.lists.specs.Lists.{◌∈◌}
use Rattle.lists.proofs.Membership.{map_in, map_out}
use Rattle.model.specs.Rows.{Edge, Pair}
use Rattle.model.specs.Graph.{Graph, graph_of, node, block}
use Rattle.model.specs.Paths.{Root, Leaf}
use Rattle.model.specs.Runs.{paths}
use Rattle.model.specs.Taken.{TakenTables}
use Rattle.model.specs.Groups.{Bank, leaves_of, group_paths}
use Rattle.model.specs.Compare.{Tables, spec_graph, impl_graph, root_rows, leaf_rows, banks, groups, visits}
use Rattle.model.specs.Checks.{when, ◌then◌, many_paths, check_visit}
use Rattle.model.proofs.Checks.{first-none}
use Rattle.model.proofs.Visits.{visits_in}
use Rattle.model.proofs.GroupRows.{group-leaf, bank_out}
use Rattle.model.proofs.Paths.{paths_one}
use Rattle.tables.specs.Tables.{edge_at}
use Rattle.reach.specs.Counting.{path_count}
use Rattle.entering.specs.Entering.{Covered, entering}
use Rattle.entering.proofs.Sums.{total-none}
use Rattle.entering.proofs.Walks.{entering_out}
use Rattle.entering.proofs.Counts.{count-entering}
use Rattle.forward.specs.Forward.{planned_count, planned_of}
use Rattle.pathlimit.specs.Inputs.{Plans}
use Rattle.pathlimit.specs.Checks.{check_paths}
use Rattle.pathlimit.proofs.Leaves.{leaf-entering}

-- a root is no leaf
root-other : {g : Graph} {r l : ℤ} → Root g r → Leaf g l → r ≢ l
root-other {g} {r} {l} p q e =
    let kind : (node g r).kind ≡ block = ap (λ (v : ℤ). (node g v).kind) e ∙ q.kind in
    ⊎_elim (λ s. omega (arith, ints, s, kind)) (λ s. omega (arith, ints, s, kind)) p.kind

-- where a plan that has every edge that enters a leaf has no edge, no path leads from a root to the leaf
pub unplanned_paths : {ns es : List ℤ} (plan : List ℕ) {r l : ℤ} → TakenTables ns es → Root (graph_of ns es) r → Leaf (graph_of ns es) l
    → Covered es (planned_of es plan) l → planned_count plan ≡ 0 → length (paths (graph_of ns es) r l) ≡ 0
unfolding path_count graph_of
unplanned_paths {ns} {es} plan {r} {l} k root leaf covered bare =
    let g = graph_of ns es in
    let out : (e : Edge) → e ∈ entering g l → path_count g r e.from ≡ 0 = λ e m.
    let w = entering_out g l m in
    absurd (Memᴰ.not-nil (subst (λ (n : ℕ). e ∈ map (edge_at es) (take n plan)) bare (covered e w.0 w.1))) in
    count-entering {r = r} {w = l} k.graph.acyclic k.graph.short (root-other root leaf)
    ∙ total-none (λ e. path_count g r e.from) (entering g l) out

-- where no path leads to each of some leaves, none leads to them together
pub no_paths : (g : Graph) (r : ℤ) (ls : List ℤ) → ((l : ℤ) → l ∈ ls → length (paths g r l) ≡ 0) → length (flat_map (paths g r) ls) ≡ 0
unfolding flat_map
no_paths g r [] h = refl
no_paths g r (l ∷ ls) h =
    omega (arith, length-append (paths g r l) (flat_map (paths g r) ls), h l (Memᴰ.head refl), no_paths g r ls (λ m n. h m (Memᴰ.tail n)))

module _ {t : Tables} {sp mp links : List ℕ} (k : Plans t sp mp links) (bare : planned_count sp + planned_count mp ≡ 0) {r l : Pair} (m : r ∈ root_rows t)
    (n : l ∈ leaf_rows t) where
  -- where neither plan has an edge no path leads from a paired root to a paired leaf of the specification
  pub spec_unreached : length (paths (spec_graph t) r.spec l.spec) ≡ 0
  spec_unreached =
      unplanned_paths sp k.inputs.spec (k.inputs.roots r m).0 (k.inputs.leaves l n).0
      (leaf-entering k.spec_leading l.spec (map_in (λ (x : Pair). x.spec) n)) (omega (arith, bare))

  -- nor to the banks of a group
  pub group_unreached : group_paths (impl_graph t) r.impl (banks t l) ≡ 0
  unfolding group_paths
  group_unreached =
      no_paths (impl_graph t) r.impl (leaves_of (banks t l)) (λ v o.
      let (b, i, e) = map_out (λ (b : Bank). b.leaf) (banks t l) o in
      let (p, j, s, f) = bank_out t l i in
      let own : p.impl ≡ v = ap (λ (b : Bank). b.leaf) (sym f) ∙ sym e in
      subst (λ (w : ℤ). length (paths (impl_graph t) r.impl w) ≡ 0) own
      (unplanned_paths mp k.inputs.impl (k.inputs.roots r m).1 (k.inputs.leaves p j).1
      (leaf-entering k.impl_leading p.impl (map_in (λ (x : Pair). x.impl) j)) (omega (arith, bare))))

-- so that no pair is refused
pub unplanned_taken : {t : Tables} {sp mp links : List ℕ} → Plans t sp mp links → planned_count sp + planned_count mp ≡ 0 → check_paths t ≡ none
unfolding when ◌then◌ check_visit many_paths group_paths
unplanned_taken {t} k bare =
    first-none (check_visit t) (visits (root_rows t) (groups t))
    (λ v m.
    let w = (visits_in (root_rows t) (groups t)).0 m in
    let own = group-leaf t w.1 in
    rw (paths_one (spec_graph t) v.root.spec v.leaf.spec, spec_unreached k bare w.0 own, group_unreached k bare w.0 own) refl)
