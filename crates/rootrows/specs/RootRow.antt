-- The pairs of one root row, held for each kind of walk and kept together. Assumes nothing.
use Rattle.std.specs.Prelude.{◌≡◌, Bool, true, List, ◌++◌, map, ℕ, ◌+◌, ◌/◌, ◌≤◌, ◌<◌, ℤ, length}
use Rattle.model.specs.declared.WalkKind.TheVariants.{Reading, Writing}
use Rattle.model.specs.Limits.{pair_width}
use Rattle.model.specs.Compare.{Tables, spec_graph, impl_graph, groups, Finding, finding_of}
use Rattle.model.specs.Taken.{AllOpen}
use Rattle.tables.specs.Tables.{pair_at}
use Rattle.grouping.specs.Links.{Linked}
use Rattle.pathlimit.specs.Inputs.{Inputs}
use Rattle.reporting.specs.Lines.{max_visits}
use Rattle.totals.specs.declared.Kept.{Kept}
use Rattle.totals.specs.Kept.{KeptOf, is_asked}
use Rattle.rowpairs.specs.RowPairs.{HeldRow}

-- the findings of root row i
abbrev pub row_findings : Tables → ℕ → List Finding
row_findings t i = map (finding_of t) (map (λ l. record { root = pair_at t.root_pairs i; leaf = l }) (groups t))

-- findings are kept that, with those of one more root row, are at most 1,000,000
pub record RowRoom (t : Tables) (lines : List ℕ) (k : Kept) : Type 0 where
  pub fs : List Finding
  pub kept : KeptOf fs lines k
  pub few : length fs + length (groups t) ≤ max_visits

-- root row i is kept: whatever findings were kept, those of the row are kept behind them
abbrev pub RowKept : Tables → ℕ → List ℕ → Kept → List ℕ → Kept → Type 0
RowKept t i lines k lines' k' = (fs : List Finding) → KeptOf fs lines k → KeptOf (fs ++ row_findings t i) lines' k'

-- where `plain`, every node of both graphs may be read and written
abbrev pub Plain : Tables → Bool → Type 0
Plain t plain = plain ≡ true → AllOpen (spec_graph t) × AllOpen (impl_graph t)

-- ---- kept

-- inputs whose groups are linked, and a root row of theirs
pub record RowLinked (t : Tables) (i : ℕ) (links : List ℕ) : Type 0 where
  pub inputs : Inputs t
  pub linked : Linked t.leaf_pairs links
  pub row : i < length t.root_pairs / pair_width

-- what is held of root row i for reading and for writing can be kept behind k
pub record RowKeepable (i : ℕ) (links : List ℕ) (reading writing : List ℤ) (lines : List ℕ) (k : Kept) : Type 0 where
  pub tables : Tables
  pub ready : RowLinked tables i links
  pub read : HeldRow Reading tables i links (is_asked k) reading
  pub written : HeldRow Writing tables i links (is_asked k) writing
  pub room : RowRoom tables lines k

-- root row i is kept, whichever tables it is of
abbrev pub HeldKept : ℕ → List ℕ → List ℤ → List ℤ → List ℕ → Kept → List ℕ → Kept → Type 0
HeldKept i links reading writing lines k lines' k' =
    (t : Tables) → RowLinked t i links → HeldRow Reading t i links (is_asked k) reading → HeldRow Writing t i links (is_asked k) writing → RowKept t i lines k lines' k'
