-- What is found of a pair for a kind of walk, and what it is found from: both graphs planned, and swept for the kind from the roots of its root row. Assumes nothing.
use Rattle.std.specs.Prelude.{◌≡◌, Bool, List, ℕ, ◌*◌, ◌/◌, ◌<◌, ℤ, nat_abs, length}
use Rattle.model.specs.declared.WalkKind.{WalkKind}
use Rattle.model.specs.Limits.{pair_width, max_paths}
use Rattle.model.specs.Compare.{Tables, Visit, Finding, finding_of}
use Rattle.tables.specs.Tables.{pair_at}
use Rattle.grouping.specs.Links.{group_count, group_row}
use Rattle.pathlimit.specs.Inputs.{Ready}
use Rattle.sorting.specs.Rows.{row_width}
use Rattle.reporting.specs.Lines.{SmallLengths}
use Rattle.arrivals.specs.State.{state_room}
use Rattle.arrivals.specs.Sweep.{Swept}
use Rattle.totals.specs.declared.Found.{Found}
use Rattle.totals.specs.Kept.{IsFinding}

-- root row i with the group of leaf row j
abbrev pub visit_at : Tables → ℕ → ℕ → Visit
visit_at t i j = record { root = pair_at t.root_pairs i; leaf = pair_at t.leaf_pairs j }

-- and its finding
abbrev pub finding_at : Tables → ℕ → ℕ → Finding
finding_at t i j = finding_of t (visit_at t i j)

-- room for the sweeps of both graphs and for a list
pub record Rooms (specState implState spare : List ℤ) : Type 0 where
  pub spec : length specState ≡ state_room
  pub impl : length implState ≡ state_room
  pub list : length spare ≡ row_width * max_paths

-- what the pairs of root row i start from: both graphs swept for this kind of walk from the roots of the row
pub record PairReady (kind : WalkKind) (t : Tables) (i : ℕ) (specPlan implPlan links : List ℕ) (specState implState spare : List ℤ) : Type 0 where
  pub ready : Ready t specPlan implPlan links
  pub rooms : Rooms specState implState spare
  pub row : i < length t.root_pairs / pair_width
  pub spec : Swept kind t.spec_nodes t.spec_edges specPlan (nat_abs (pair_at t.root_pairs i).spec) specState
  pub impl : Swept kind t.impl_nodes t.impl_edges implPlan (nat_abs (pair_at t.root_pairs i).impl) implState

-- what is found of root row i and the group of leaf row j is their finding for this kind, whose lists have at most 1,024 records, and the next pair of the root row can be found
pub record PairFound (kind : WalkKind) (t : Tables) (i j : ℕ) (specPlan implPlan links : List ℕ) (specState implState spare : List ℤ) (asked : Bool) (r : Found) : Type 0 where
  pub ready : PairReady kind t i specPlan implPlan links specState implState spare
  pub found : IsFinding kind (finding_at t i j) asked r
  pub few : SmallLengths r.lengths

-- ---- whichever the root pairs: t gives the tables of a comparison for its root pairs

-- leaf row j is the lowest of a group, in a comparison whose graphs are swept from the roots of some root row
pub record Findable (t : List ℤ → Tables) (j : ℕ) (specPlan implPlan links : List ℕ) (specState implState spare : List ℤ) : Type 0 where
  pub kind : WalkKind
  pub root_pairs : List ℤ
  pub root_row : ℕ
  pub ready : PairReady kind (t root_pairs) root_row specPlan implPlan links specState implState spare
  pub group : ℕ
  pub there : group < group_count links
  pub lowest : j ≡ group_row links group

-- the pair of the group of leaf row j is found, whichever kind and root row the graphs were swept for and from
abbrev pub FoundAnyRoot : (List ℤ → Tables) → ℕ → List ℕ → List ℕ → List ℕ → List ℤ → List ℤ → List ℤ → List ℤ → List ℤ → List ℤ → Bool → Found → Type 0
FoundAnyRoot t j specPlan implPlan links specState implState spare specState' implState' spare' asked r =
    (kind : WalkKind) (root_pairs : List ℤ) (i : ℕ) → PairReady kind (t root_pairs) i specPlan implPlan links specState implState spare
    → PairFound kind (t root_pairs) i j specPlan implPlan links specState' implState' spare' asked r
