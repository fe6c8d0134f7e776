-- Where every node may be read and written, what is held for one kind of walk is held for the other.
use mathlib.Core.Path.{◌≡◌, sym, ap, subst, ◌∙◌}
use mathlib.Core.Bool.{Bool}
use mathlib.Core.List.{List}
use Prim.Native.Nat.{ℕ, ◌<◌}
use native.Mathlib.Omega.{arith}
use lib.IntN.{ℤ}
use lib.ListN.{length}
use Rattle.model.specs.declared.WalkKind.{WalkKind}
use Rattle.model.specs.Compare.{Tables, spec_graph, impl_graph, banks, Finding, finding_of, kind_verdict, verdict_of}
use Rattle.model.specs.Taken.{AllOpen}
use Rattle.model.specs.Paths.{Leaf}
use Rattle.model.specs.Groups.{Bank}
use Rattle.model.proofs.BothKinds.{worse_zero}
use Rattle.model.proofs.Taken.{taken-fit}
use Rattle.model.proofs.ListLaw.{list_any}
use Rattle.model.proofs.Groups.{group-any}
use Rattle.model.proofs.GroupRows.{group-leaf, bank_out}
use Rattle.tables.specs.Tables.{pair_at}
use Rattle.grouping.proofs.Passing.{group_member}
use Rattle.pathlimit.specs.Inputs.{Ready}
use Rattle.grouping.specs.Links.{group_count, group_row}
use Rattle.pairs.specs.Found.{finding_at}
use Rattle.totals.specs.declared.Found.{Found}
use Rattle.totals.specs.Kept.{IsFinding}
use Rattle.rowpairs.specs.RowPairs.{HeldRow}

-- a finding with the same lists for both kinds is found for one as for the other
same-found : (f : Finding) (one other : WalkKind) {asked : Bool} {r : Found} → f.spec one ≡ f.spec other → f.impl one ≡ f.impl other → IsFinding other f asked r
    → IsFinding one f asked r
unfolding kind_verdict
same-found f one other s m is =
    record {
      verdict = is.verdict ∙ sym (cc (s, m));
      spec = is.spec ∙ sym (ap length s);
      impl = is.impl ∙ sym (ap length m);
      address = λ a. is.address a ∙ sym (cc (s, m));
    }

-- there both kinds have the same lists
pub lists-any : {t : Tables} {sp mp links : List ℕ} → Ready t sp mp links → (i : ℕ) → AllOpen (spec_graph t) × AllOpen (impl_graph t) → (one other : WalkKind) (group : ℕ)
    → group < group_count links → ((finding_at t i (group_row links group)).spec one ≡ (finding_at t i (group_row links group)).spec other)
    × ((finding_at t i (group_row links group)).impl one ≡ (finding_at t i (group_row links group)).impl other)
unfolding finding_of
lists-any {t} {links = links} k i all one other group h =
    let inputs = k.plans.inputs in
    let l = pair_at t.leaf_pairs (group_row links group) in
    let own = group-leaf t (group_member k.plans.linked group h) in (
      list_any one other (pair_at t.root_pairs i).spec (taken-fit inputs.spec.graph (inputs.leaves l own).0) all.0,
      group-any one other (pair_at t.root_pairs i).impl (banks t l) (λ b m.
          let (p, n, s, q) = bank_out t l m in
          taken-fit inputs.impl.graph (subst (Leaf (impl_graph t)) (sym (ap (λ (c : Bank). c.leaf) q)) (inputs.leaves p n).1)) all.1,
    )

-- what is held for one kind is held for the other
pub row_any : {kind : WalkKind} {t : Tables} {i : ℕ} {links : List ℕ} {asked : Bool} {held : List ℤ} (other : WalkKind)
    → ((group : ℕ) → group < group_count links → ((finding_at t i (group_row links group)).spec other ≡ (finding_at t i (group_row links group)).spec kind)
    × ((finding_at t i (group_row links group)).impl other ≡ (finding_at t i (group_row links group)).impl kind))
    → HeldRow kind t i links asked held → HeldRow other t i links asked held
unfolding kind_verdict
row_any {kind} {t} {i} {links} other same row group h =
    let g = row group h in
    let f = finding_at t i (group_row links group) in
    let q = same group h in
    record {
      there = g.there;
      found = g.found;
      at = g.at;
      is = same-found f other kind q.0 q.1 g.is;
      address = λ a equal. g.address a (λ n k. let p = same n (omega (arith, k, h)) in sym (cc (p.0, p.1)) ∙ equal n k) ∙ sym (cc (q.0, q.1));
      few = g.few;
    }

-- an equal pair is equal for every kind
pub equal_kinds : (f : Finding) → verdict_of f ≡ 0 → (kind : WalkKind) → kind_verdict f kind ≡ 0
unfolding verdict_of
equal_kinds f e = (worse_zero (kind_verdict f)).0 e
