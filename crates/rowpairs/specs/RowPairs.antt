-- The pairs of one root row for a kind of walk: swept, found and held. Assumes nothing.
use Rattle.std.specs.Prelude.{◌≡◌, Bool, true, false, List, ℕ, ◌+◌, ◌*◌, ◌/◌, ◌≤◌, ◌<◌, ℤ, length}
use Rattle.model.specs.declared.WalkKind.{WalkKind}
use Rattle.model.specs.Limits.{pair_width, max_pairs}
use Rattle.model.specs.Compare.{Tables, kind_verdict}
use Rattle.model.specs.Verdicts.{lowest}
use Rattle.grouping.specs.Links.{group_count, group_row}
use Rattle.pathlimit.specs.Inputs.{Ready}
use Rattle.pairs.specs.Found.{finding_at, Rooms, PairReady}
use Rattle.reporting.specs.Lines.{SmallLengths}
use Rattle.totals.specs.declared.Found.{Found}
use Rattle.totals.specs.Kept.{IsFinding}
use Rattle.holding.specs.Held.{held_width, HeldAt}

-- ---- swept

-- both graphs can be swept from the roots of root row i: t gives the tables of a comparison for its leaf pairs
pub record RowSweepable (t : List ℤ → Tables) (i : ℕ) (specPlan implPlan : List ℕ) (specState implState spare : List ℤ) : Type 0 where
  pub leaf_pairs : List ℤ
  pub links : List ℕ
  pub ready : Ready (t leaf_pairs) specPlan implPlan links
  pub rooms : Rooms specState implState spare
  pub row : i < length (t leaf_pairs).root_pairs / pair_width

-- both are swept for this kind of walk: the pairs of root row i can be found, whichever leaf pairs the graphs are planned for
abbrev pub RowSwept : WalkKind → (List ℤ → Tables) → ℕ → List ℕ → List ℕ → List ℤ → List ℤ → List ℤ → Type 0
RowSwept kind t i specPlan implPlan specState implState spare =
    (leaf_pairs : List ℤ) (links : List ℕ) → Ready (t leaf_pairs) specPlan implPlan links
    → PairReady kind (t leaf_pairs) i specPlan implPlan links specState implState spare

-- ---- found for a kind of walk, and held

-- the pairs of root row i and the first n groups are equal for this kind
abbrev pub EqualBefore : WalkKind → Tables → ℕ → List ℕ → ℕ → Type 0
EqualBefore kind t i links n = (group : ℕ) → group < n → kind_verdict (finding_at t i (group_row links group)) kind ≡ 0

-- what is held of a group is what is found for this kind of its pair with root row i. Its lowest address is among it where one is asked for at the beginning of the row
-- and the pairs before it in the row are equal for this kind: that of a later one is not kept
pub record HeldGroup (kind : WalkKind) (t : Tables) (i : ℕ) (links : List ℕ) (asked : Bool) (held : List ℤ) (group : ℕ) : Type 0 where
  pub there : held_width * group + held_width ≤ length held
  pub found : Found
  pub at : HeldAt held group found
  pub is : IsFinding kind (finding_at t i (group_row links group)) false found
  pub address : asked ≡ true → EqualBefore kind t i links group
      → found.address ≡ lowest ((finding_at t i (group_row links group)).spec kind) ((finding_at t i (group_row links group)).impl kind)
  pub few : SmallLengths found.lengths

-- so it is of the first n groups
abbrev pub HeldGroups : WalkKind → Tables → ℕ → List ℕ → Bool → List ℤ → ℕ → Type 0
HeldGroups kind t i links asked held n = (group : ℕ) → group < n → HeldGroup kind t i links asked held group

-- and of all
abbrev pub HeldRow : WalkKind → Tables → ℕ → List ℕ → Bool → List ℤ → Type 0
HeldRow kind t i links asked held = HeldGroups kind t i links asked held (group_count links)

-- room for what is held of all groups of a root row
abbrev pub HeldRoom : List ℤ → Type 0
HeldRoom held = held_width * max_pairs ≤ length held

-- the pairs of some root row can be found, and held: t gives the tables of a comparison for its root pairs
pub record RowHoldable (t : List ℤ → Tables) (specPlan implPlan links : List ℕ) (specState implState spare held : List ℤ) : Type 0 where
  pub kind : WalkKind
  pub root_pairs : List ℤ
  pub row : ℕ
  pub ready : PairReady kind (t root_pairs) row specPlan implPlan links specState implState spare
  pub room : HeldRoom held

-- they are held, whichever kind and root row the graphs were swept for and from
abbrev pub PairsHeld : (List ℤ → Tables) → List ℕ → List ℕ → List ℕ → List ℤ → List ℤ → List ℤ → Bool → List ℤ → Type 0
PairsHeld t specPlan implPlan links specState implState spare asked held' =
    (kind : WalkKind) (root_pairs : List ℤ) (i : ℕ) → PairReady kind (t root_pairs) i specPlan implPlan links specState implState spare
    → HeldRow kind (t root_pairs) i links asked held'

-- what finding the pairs of root row i starts from: plans and links, and room for the sweeps, for a list and for what is held
pub record RowReady (t : Tables) (i : ℕ) (specPlan implPlan links : List ℕ) (specState implState spare held : List ℤ) : Type 0 where
  pub ready : Ready t specPlan implPlan links
  pub rooms : Rooms specState implState spare
  pub room : HeldRoom held
  pub row : i < length t.root_pairs / pair_width
