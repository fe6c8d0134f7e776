-- Ways that go on over an edge.
use mathlib.Core.Path.{◌≡◌, refl, ap}
use mathlib.Core.List.{List, [], ◌∷◌, ◌++◌}
use native.Mathlib.Omega.{arith}
use lib.IntN.{ℤ}
use lib.ListN.{length}
use Rattle.lists.specs.Lists.{◌∈◌}
use Rattle.model.specs.Rows.{Edge}
use Rattle.model.specs.Graph.{Graph}
use Rattle.model.specs.Paths.{Way, stay, over, Cycle}
use Rattle.model.proofs.Chains.{way_append}

-- a way goes on over an edge
pub way_onward : {g : Graph} {v w : ℤ} {p : List Edge} {e : Edge} → Way g v p w → e ∈ g.edges → e.from ≡ w → Way g v (p ++ (e ∷ [])) e.to
way_onward {e} y m q = way_append y (over e m q stay)

-- without a cycle no way leads back from where an edge ends to where it starts
pub way_back : {g : Graph} {p : List Edge} {e : Edge} → (Cycle g → ⊥) → e ∈ g.edges → Way g e.to p e.from → ⊥
way_back {p} {e} acyclic m y =
    acyclic (record { at = e.from; edges = e ∷ p; some = λ h. omega (arith, ap length h); closed = over e m refl y })
