-- The comparison of two graphs: groups of leaf rows, pairs in visiting order, and the full result. Assumes nothing.
use Rattle.std.specs.Prelude.{Bool, not, cond, ◌&&◌, ℕ, suc, max, eqb, ltb, ℤ, pos, negsuc}
use mathlib.Core.List.{List, [], ◌∷◌, map, flat_map}
use Rattle.std.proofs.Math.Option.{Option, none, some}
use Rattle.std.specs.Int.Signed.{lt_z}
use Rattle.integers.specs.Integers.{eq_z, min_z}
use Rattle.lists.specs.Lists.{keep, any}
use Rattle.model.specs.declared.WalkKind.{WalkKind}
use Rattle.model.specs.declared.WalkKind.TheVariants.{Reading, Writing}
use Rattle.model.specs.Rows.{Pair, pair_rows}
use Rattle.model.specs.Graph.{Graph, graph_of}
use Rattle.model.specs.Bitmapping.{Record}
use Rattle.model.specs.Runs.{list_of}
use Rattle.model.specs.Groups.{Bank, group_list}
use Rattle.model.specs.Verdicts.{verdict, lowest}

-- the six tables of a comparison; root pairs and leaf pairs are together the pairing
pub record Tables : Type 0 where
  pub spec_nodes : List ℤ
  pub spec_edges : List ℤ
  pub impl_nodes : List ℤ
  pub impl_edges : List ℤ
  pub root_pairs : List ℤ
  pub leaf_pairs : List ℤ

-- the two graphs, and the rows of the pairing
abbrev pub spec_graph : Tables → Graph
spec_graph t = graph_of t.spec_nodes t.spec_edges

abbrev pub impl_graph : Tables → Graph
impl_graph t = graph_of t.impl_nodes t.impl_edges

abbrev pub root_rows : Tables → List Pair
root_rows t = pair_rows t.root_pairs

abbrev pub leaf_rows : Tables → List Pair
leaf_rows t = pair_rows t.leaf_pairs

-- ---- groups: the leaf rows with one specification leaf, each of which gives a bank

-- leaf row q has the specification leaf of leaf row p
unfoldable pub same_spec : Pair → Pair → Bool
same_spec p q = eq_z q.spec p.spec

-- the group of leaf row l among the leaf rows: those with its specification leaf, neighbours or not
unfoldable pub group : List Pair → Pair → List Pair
group rows l = keep (same_spec l) rows

-- the bank of a leaf row: its implementation leaf, which begins at leaf bit `at` of the specification leaf
abbrev pub bank_of : Pair → Bank
bank_of p = record { leaf = p.impl; at = p.at }

-- the banks of the group of leaf row l
abbrev pub banks : Tables → Pair → List Bank
banks t l = map bank_of (group (leaf_rows t) l)

-- leaf row p is the lowest of its group: no earlier row has its specification leaf
unfoldable pub is_lowest : List Pair → Pair → Bool
is_lowest rows p = not (any (λ q. ltb q.row p.row && same_spec p q) rows)

-- the rows among them that are the lowest of their groups, in their order
unfoldable pub lowest_rows : List Pair → List Pair
lowest_rows rows = keep (is_lowest rows) rows

-- the groups, each by its lowest row
abbrev pub groups : Tables → List Pair
groups t = lowest_rows (leaf_rows t)

-- ---- visits

-- a visit, or a pair where verdicts and counts are meant: one root row with one group, which is told by its lowest row
pub record Visit : Type 0 where
  pub root : Pair
  pub leaf : Pair

-- visiting order: root row by root row, within it group by group
unfoldable pub visits : List Pair → List Pair → List Visit
visits roots leaves = flat_map (λ r. map (λ l. record { root = r; leaf = l }) leaves) roots

-- all visits of a comparison: each root row with each group
abbrev pub all_visits : Tables → List Visit
all_visits t = visits (root_rows t) (groups t)

-- what a visit finds: for each kind of walk the bitmapping list of the specification leaf and the list of the group
pub record Finding : Type 0 where
  pub visit : Visit
  pub spec : WalkKind → List Record
  pub impl : WalkKind → List Record

-- the two lists of a visit for a kind of walk
abbrev pub spec_list : Tables → Visit → WalkKind → List Record
spec_list t v kind = list_of kind (spec_graph t) v.root.spec v.leaf.spec

abbrev pub impl_list : Tables → Visit → WalkKind → List Record
impl_list t v kind = group_list kind (impl_graph t) v.root.impl (banks t v.leaf)

-- the finding of a visit
unfoldable pub finding_of : Tables → Visit → Finding
finding_of t v = record { visit = v; spec = spec_list t v; impl = impl_list t v }

-- what all visits find, in visiting order
unfoldable pub findings : Tables → List Finding
findings t = map (finding_of t) (all_visits t)

-- the verdict on a pair for one kind of walk
unfoldable pub kind_verdict : Finding → WalkKind → ℕ
kind_verdict f kind = verdict (f.spec kind) (f.impl kind)

-- the verdict on a pair: the worse of the two kinds' (document 02, item 7)
unfoldable pub verdict_of : Finding → ℕ
verdict_of f = max (kind_verdict f Reading) (kind_verdict f Writing)

-- the lower of two addresses that are there: each is −1 where there is none
unfoldable pub lower_of : ℤ → ℤ → ℤ
lower_of a b = cond (lt_z a (pos 0)) b (cond (lt_z b (pos 0)) a (min_z a b))

-- the lowest bit address at which the leaf bits of either kind differ; −1 where they differ nowhere
unfoldable pub lowest_of : Finding → ℤ
lowest_of f = lower_of (lowest (f.spec Reading) (f.impl Reading)) (lowest (f.spec Writing) (f.impl Writing))

-- how often a number stands in a list; of verdicts, how often one was given
unfoldable pub count : ℕ → List ℕ → ℕ
count v [] = 0
count v (x ∷ t) = cond (eqb x v) (suc (count v t)) (count v t)

-- the largest verdict given
unfoldable pub largest : List ℕ → ℕ
largest [] = 0
largest (x ∷ t) = max x (largest t)

-- the first pair in visiting order whose verdict is not 0
unfoldable pub first_unequal : List Finding → Option Finding
first_unequal [] = none
first_unequal (f ∷ t) = cond (eqb (verdict_of f) 0) (first_unequal t) (some f)

-- a place in the comparison: root row, lowest leaf row of the group, and bit address
pub record Place : Type 0 where
  pub root : ℤ
  pub leaf : ℤ
  pub address : ℤ

-- no place: −1 three times
abbrev pub nowhere : Place
nowhere = record { root = negsuc 0; leaf = negsuc 0; address = negsuc 0 }

-- the place of the first unequal pair
unfoldable pub place_of : Option Finding → Place
place_of none = nowhere
place_of (some f) = record { root = pos f.visit.root.row; leaf = pos f.visit.leaf.row; address = lowest_of f }

-- the full result: the counts of equal, partial and different pairs, the whole verdict, and the place of the first unequal pair
pub record Result : Type 0 where
  pub equal : ℕ
  pub partial : ℕ
  pub different : ℕ
  pub verdict : ℕ
  pub place : Place

-- the full result of the findings of all visits
unfoldable pub result_of : List Finding → Result
result_of fs =
    record { equal = count 0 (map verdict_of fs); partial = count 1 (map verdict_of fs); different = count 2 (map verdict_of fs); verdict = largest (map verdict_of fs); place = place_of (first_unequal fs) }
