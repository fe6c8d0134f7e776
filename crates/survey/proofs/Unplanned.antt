-- Plans without an edge: no path leads to a paired leaf, so that no pair has a record.
use mathlib.Core.Path.{◌≡◌, ap, ◌∙◌}
use mathlib.Core.List.{List}
use Prim.Native.Nat.{ℕ, ◌+◌}
use native.Mathlib.Omega.{arith}
use Rattle.lists.specs.Lists.{◌∈◌}
use Rattle.lists.proofs.Membership.{map_out, length_nil}
use Rattle.model.specs.Compare.{Tables, spec_graph, impl_graph, root_rows, banks, groups, visits, Finding, spec_list, impl_list, finding_of, findings}
use Rattle.model.proofs.Visits.{visits_in}
use Rattle.model.proofs.Groups.{group-list-few}
use Rattle.model.proofs.GroupRows.{group-leaf}
use Rattle.forward.specs.Forward.{planned_count}
use Rattle.pathlimit.specs.Inputs.{Ready}
use Rattle.pathlimit.proofs.Unplanned.{spec_unreached, group_unreached}
use Rattle.pairs.proofs.Lists.{list-few}
use Rattle.totals.specs.Kept.{Bare}

-- no finding has a record
pub findings_bare : {t : Tables} {sp mp links : List ℕ} → Ready t sp mp links → planned_count sp + planned_count mp ≡ 0 → (f : Finding) → f ∈ findings t → Bare f
unfolding findings finding_of
findings_bare {t} k none f n =
    let (v, m, e) = map_out (finding_of t) (visits (root_rows t) (groups t)) n in
    let (p, q) = (visits_in (root_rows t) (groups t)).0 m in
    let own = group-leaf t q in
    record {
      spec = λ kind.
          ap (λ (g : Finding). g.spec kind) e
          ∙ length_nil (spec_list t v kind) (omega (arith, list-few kind (spec_graph t) v.root.spec v.leaf.spec, spec_unreached k.plans none p own));
      impl = λ kind.
          ap (λ (g : Finding). g.impl kind) e
          ∙ length_nil (impl_list t v kind) (omega (arith, group-list-few kind (impl_graph t) v.root.impl (banks t v.leaf), group_unreached k.plans none p own));
    }
