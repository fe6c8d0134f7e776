-- Demand 3, as one statement about two graphs, a pairing and a full result, and what partial says of a pair: both by walks of single addresses, of both kinds.
-- Assumes nothing.
use Rattle.std.specs.Prelude.{◌≡◌, ◌≢◌, ◌⊎◌, ◌↔◌, List, map, ℕ, ◌+◌, ◌*◌, ◌<◌, max, ℤ, pos, ◌≤ℤ◌, ◌<ℤ◌, length}
use Rattle.lists.specs.Lists.{◌∈◌}
use Rattle.model.specs.declared.WalkKind.{WalkKind}
use Rattle.model.specs.declared.WalkKind.TheVariants.{Reading, Writing}
use Rattle.model.specs.Limits.{last_address}
use Rattle.model.specs.Rows.{Pair}
use Rattle.model.specs.Walk.{Reached}
use Rattle.model.specs.Bitmapping.{Record, IsListOf}
use Rattle.model.specs.Groups.{GroupReached}
use Rattle.model.specs.Verdicts.{Rules}
use Rattle.model.specs.Compare.{Tables, spec_graph, impl_graph, root_rows, banks, groups, Visit, all_visits, finding_of, kind_verdict, verdict_of, count, largest, nowhere, Result}

-- a bit address from 0 to 2^55 − 1
pub record Address (x : ℤ) : Type 0 where
  pub low : pos 0 ≤ℤ x
  pub high : x ≤ℤ last_address

-- leaf bit y of the specification leaf is reached from bit address x in the specification by a walk of this kind: nothing is added
abbrev pub InSpec : WalkKind → Tables → Pair → Pair → ℤ → ℤ → Type 0
InSpec kind t r l = Reached kind (spec_graph t) r.spec l.spec

-- leaf bit y is reached from x in the group by a walk of this kind: y is z + at, for one of its banks and a leaf bit z that x reaches in it
abbrev pub InImpl : WalkKind → Tables → Pair → Pair → ℤ → ℤ → Type 0
InImpl kind t r l = GroupReached kind (impl_graph t) r.impl (banks t l)

-- the set of leaf bits that walks of this kind reach from x is the same in both graphs
abbrev pub SameSets : WalkKind → Tables → Pair → Pair → ℤ → Type 0
SameSets kind t r l x = (y : ℤ) → InSpec kind t r l x y ↔ InImpl kind t r l x y

-- the two sets of this kind differ at x: some leaf bit is reached in one graph and not in the other
abbrev pub SetsDiffer : WalkKind → Tables → Pair → Pair → ℤ → Type 0
SetsDiffer kind t r l x =
    (y : ℤ) × ((InSpec kind t r l x y × (InImpl kind t r l x y → ⊥)) ⊎ ((InSpec kind t r l x y → ⊥) × InImpl kind t r l x y))

-- the pair of root row q and the group of lowest row m is visited before that of root row r and the group of lowest row l
abbrev pub VisitedBefore : Pair → Pair → Pair → Pair → Type 0
VisitedBefore q m r l = (q.row < r.row) ⊎ ((q.row ≡ r.row) × (m.row < l.row))

-- spec and impl give the lists of all pairs for each kind, and verdict the verdict that the comparing rules give each kind by itself
pub record VerdictsOfPairs (t : Tables) (spec impl : WalkKind → Visit → List Record) (verdict : WalkKind → Visit → ℕ) : Type 0 where
  pub in_spec : (kind : WalkKind) (v : Visit) → v ∈ all_visits t → IsListOf (InSpec kind t v.root v.leaf) (spec kind v)
  pub in_impl : (kind : WalkKind) (v : Visit) → v ∈ all_visits t → IsListOf (InImpl kind t v.root v.leaf) (impl kind v)
  pub rules : (kind : WalkKind) (v : Visit) → v ∈ all_visits t → Rules (spec kind v) (impl kind v) (verdict kind v)

-- the verdict on a pair is the worse of the two kinds'
abbrev pub worse : (WalkKind → Visit → ℕ) → Visit → ℕ
worse verdict v = max (verdict Reading v) (verdict Writing v)

-- the verdicts of all pairs, in visiting order
abbrev pub in_order : Tables → (WalkKind → Visit → ℕ) → List ℕ
in_order t verdict = map (worse verdict) (all_visits t)

-- the whole verdict and the three counts are those that the comparing rules define from the lists of all pairs
pub record CountsOfPairs (t : Tables) (res : Result) (verdict : WalkKind → Visit → ℕ) : Type 0 where
  pub equal : res.equal ≡ count 0 (in_order t verdict)
  pub partial : res.partial ≡ count 1 (in_order t verdict)
  pub different : res.different ≡ count 2 (in_order t verdict)
  pub whole : res.verdict ≡ largest (in_order t verdict)

-- the reported pair is the first in visiting order whose sets of some kind differ at some address, and the reported address is the lowest at which those of
-- either kind do
pub record FirstDifference (t : Tables) (res : Result) : Type 0 where
  pub root : Pair
  pub leaf : Pair
  pub paired : (root ∈ root_rows t) × (leaf ∈ groups t)
  pub reported_root : res.place.root ≡ pos root.row
  pub reported_leaf : res.place.leaf ≡ pos leaf.row
  pub address : Address res.place.address
  pub differs : (kind : WalkKind) × SetsDiffer kind t root leaf res.place.address
  pub lowest : (kind : WalkKind) (x : ℤ) → x <ℤ res.place.address → SameSets kind t root leaf x
  pub first : (q m : Pair) → q ∈ root_rows t → m ∈ groups t → VisitedBefore q m root leaf → (kind : WalkKind) (x : ℤ) → SameSets kind t q m x

-- demand 3 of a full result
pub record Demand3 (t : Tables) (res : Result) : Type 0 where
  pub counts : (spec impl : WalkKind → Visit → List Record) (verdict : WalkKind → Visit → ℕ) → VerdictsOfPairs t spec impl verdict → CountsOfPairs t res verdict
  pub total : res.equal + res.partial + res.different ≡ length (root_rows t) * length (groups t)
  -- reported equal exactly when for every root row, every group, every bit address and both kinds of walk the sets are the same
  pub equal : (res.verdict ≡ 0)
      ↔ ((r l : Pair) → r ∈ root_rows t → l ∈ groups t → (x : ℤ) → Address x → (kind : WalkKind) → SameSets kind t r l x)
  pub unequal : res.verdict ≢ 0 → FirstDifference t res
  -- where the graphs are reported equal, no place is
  pub none : res.verdict ≡ 0 → res.place ≡ nowhere

-- ---- partial by walks

-- one kind of walk by itself: every leaf bit that the implementation reaches from a root bit the specification reaches from that root bit too, the implementation
-- reaches something, and the two do not agree everywhere
pub record PartialFor (kind : WalkKind) (t : Tables) (r l : Pair) : Type 0 where
  pub within : (x y : ℤ) → InImpl kind t r l x y → InSpec kind t r l x y
  pub some : (x : ℤ) × (y : ℤ) × InImpl kind t r l x y
  pub unequal : ((x : ℤ) → SameSets kind t r l x) → ⊥

-- the pair: of each kind the two agree everywhere or that holds of it, and it holds of one kind at least
pub record PartialPair (t : Tables) (r l : Pair) : Type 0 where
  pub each : (kind : WalkKind) → ((x : ℤ) → SameSets kind t r l x) ⊎ PartialFor kind t r l
  pub some : (kind : WalkKind) × PartialFor kind t r l

-- the verdict of a kind, and the verdict on the pair, is partial exactly where that holds of it
pub record PartialByWalks (t : Tables) : Type 0 where
  pub of_kind : (kind : WalkKind) (r l : Pair) → r ∈ root_rows t → l ∈ groups t
      → (kind_verdict (finding_of t (record { root = r; leaf = l })) kind ≡ 1) ↔ PartialFor kind t r l
  pub of_pair : (r l : Pair) → r ∈ root_rows t → l ∈ groups t → (verdict_of (finding_of t (record { root = r; leaf = l })) ≡ 1) ↔ PartialPair t r l

-- x is the lowest root bit from which something specified is not reached by a kind of walk; below it both kinds reach the same
pub record MissingFrom (t : Tables) (r l : Pair) (x : ℤ) : Type 0 where
  pub kind : WalkKind
  pub leaf_bit : ℤ
  pub specified : InSpec kind t r l x leaf_bit
  pub missing : InImpl kind t r l x leaf_bit → ⊥
  pub below : (other : WalkKind) (z : ℤ) → z <ℤ x → SameSets other t r l z
