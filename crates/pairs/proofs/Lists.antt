-- The lists of a pair: the bitmapping list of a root and a leaf, and the list of a root and a group. Each has at most as many records as paths, is normal, and has
-- small records.
use mathlib.Core.Bool.{not}
use mathlib.Core.List.{List, map}
use Prim.Native.Nat.{◌≤◌}
use native.Mathlib.Omega.{arith}
use lib.IntN.{ℤ, pos, ◌-ℤ◌}
use lib.Signed.{◌≤ℤ◌}
use lib.ListN.{length, length-map}
use Rattle.integers.proofs.Linear.{ints}
use Rattle.lists.specs.Lists.{◌∈◌, keep}
use Rattle.lists.proofs.Kept.{keep_length}
use Rattle.model.specs.declared.WalkKind.{WalkKind}
use Rattle.model.specs.Limits.{last_address, max_paths}
use Rattle.model.specs.Graph.{Graph, NodeRow, node}
use Rattle.model.specs.Paths.{Leaf}
use Rattle.model.specs.Bitmapping.{Record, IsListOf}
use Rattle.model.specs.Runs.{whole, empty, along, paths, runs, record_of, list_of}
use Rattle.model.specs.Groups.{Bank, group_list, group_paths}
use Rattle.model.specs.Taken.{Taken}
use Rattle.model.proofs.Normalisation.{normal_length}
use Rattle.model.proofs.Records.{has_at}
use Rattle.model.proofs.Taken.{taken-fit, taken-address}
use Rattle.model.proofs.Walks.{reached-address}
use Rattle.model.proofs.ListLaw.{list_of_reached}
use Rattle.model.proofs.Groups.{group-list, group-list-few}
use Rattle.normalisation.specs.Records.{IsNormal}
use Rattle.normalisation.proofs.Records.{list-normal}
use Rattle.verdicts.specs.Records.{AllSmallRootBits}

-- what the lists of a pair are judged by
pub record PairList (l : List Record) : Type 0 where
  pub normal : IsNormal l
  pub small : AllSmallRootBits l
  pub few : length l ≤ max_paths

-- the list of a set of small addresses has small records: the root bits that a record has are addresses of the set
list-small : {S : ℤ → ℤ → Type 0} {l : List Record} → IsListOf S l → ((x y : ℤ) → S x y → (pos 0 ≤ℤ x) × (x ≤ℤ last_address)) → AllSmallRootBits l
list-small list within s m =
    let full = list.full s m in
    let bit : (x : ℤ) → s.first ≤ℤ x → x ≤ℤ s.last → (pos 0 ≤ℤ x) × (x ≤ℤ last_address) = λ x a b.
    within x (x -ℤ s.displacement) (list.sound s m x (x -ℤ s.displacement) (has_at s x a b)) in
    record { low = (bit s.first (omega (arith, ints)) full).0; full = full; high = omega (arith, ints, (bit s.last full (omega (arith, ints))).1) }

-- a bitmapping list has at most as many records as there are paths
pub list-few : (kind : WalkKind) (g : Graph) (r l : ℤ) → length (list_of kind g r l) ≤ length (paths g r l)
unfolding list_of runs
list-few kind g r l =
    let all = map (λ p. along kind g p (whole kind (node g r))) (paths g r l) in
    let kept = keep (λ s. not (empty s)) all in
    omega (
      arith,
      normal_length (map (record_of (node g l)) kept),
      length-map kept (record_of (node g l)),
      keep_length (λ s. not (empty s)) all,
      length-map (paths g r l) (λ p. along kind g p (whole kind (node g r))),
    )

module _ (kind : WalkKind) {g : Graph} {r : ℤ} (k : Taken g) (root : NodeRow g r) where
  -- the bitmapping list of a leaf
  pub leaf-list : {l : ℤ} → Leaf g l → length (paths g r l) ≤ max_paths → PairList (list_of kind g r l)
  leaf-list {l} leaf few =
      let list = list_of_reached (taken-fit k leaf) in
      record {
        normal = list-normal list;
        small = list-small list (λ x y w. taken-address k root (reached-address w));
        few = omega (arith, list-few kind g r l, few);
      }

  -- the list of a group
  pub group_pair_list : (bs : List Bank) → ((b : Bank) → b ∈ bs → Leaf g b.leaf) → group_paths g r bs ≤ max_paths → PairList (group_list kind g r bs)
  group_pair_list bs leaves few =
      let list = group-list bs (λ b m. taken-fit k (leaves b m)) in
      record {
        normal = list-normal list;
        small = list-small list (λ x y (b, m, w). taken-address k root (reached-address w.reached));
        few = omega (arith, group-list-few kind g r bs, few);
      }
