-- The checks of walk and list settle their conditions: a graph, a root and a leaf of it, and the room for the output.
use mathlib.Core.Path.{sym, subst}
use mathlib.Core.Bool.{not}
use mathlib.Core.Logic.Iff
use mathlib.Core.List.Memᴰ
use mathlib.Core.List.{List, [], ◌∷◌, flat_map}
use Prim.Native.Nat.{ℕ}
use lib.IntN.{ℤ}
use lib.ListN.{length}
use Rattle.model.specs.declared.WalkKind.{WalkKind}
use Rattle.model.specs.Limits.{max_paths}
use Rattle.model.specs.Graph.{Graph, graph_of}
use Rattle.model.specs.Paths.{Root, Leaf, ManyPaths}
use Rattle.model.specs.Runs.{paths, list_of}
use Rattle.model.specs.Refusals.{refuse, ◌next◌, graph_conditions, named_conditions, output_conditions, single_conditions}
use Rattle.model.specs.Checks.{when, ◌then◌, is_root, is_leaf, many_paths, check_graph, check_named, check_output, check_single}
use Rattle.model.specs.Calls.{leaf_bits, numbers_of, walk_answer, list_answer}
use Rattle.lists.specs.Lists.{◌∈◌, Distinct, none, more}
use Rattle.lists.proofs.Decisions.{Decides, decides_as, test_stable, decides_not, decides_lt}
use Rattle.model.proofs.Settled.{Settled, settled_next, settled_when, Exact, answer-exact}
use Rattle.model.proofs.Paths.{many-paths}
use Rattle.model.proofs.GraphChecks.{is_root?, is_leaf?, graph_settled}
use Rattle.model.specs.Taken.{Taken}
use Rattle.model.proofs.Taken.{graph-taken, taken-fit}

-- the test for more than 1,024 paths to leaves of a taken graph
pub many_paths? : {g : Graph} {r : ℤ} {ls : List ℤ} → Taken g → ((l : ℤ) → l ∈ ls → Leaf g l) → Distinct ls → Decides (ManyPaths g r ls) (many_paths g r ls)
unfolding many_paths
many_paths? {g} {r} {ls} k f once =
    decides_as (Iff.symm (many-paths (λ l m. taken-fit k (f l m)) once k.distinct)) (decides_lt max_paths (length (flat_map (paths g r) ls)))

-- and to one leaf
pub many_paths_one? : {g : Graph} {r l : ℤ} → Taken g → Leaf g l → Decides (ManyPaths g r (l ∷ [])) (many_paths g r (l ∷ []))
many_paths_one? {g} k f = many_paths? k (λ m i. subst (Leaf g) (sym (Memᴰ.eq_of_singleton i)) f) (more Memᴰ.not-nil none)

-- the checks of a named root and leaf of a taken graph settle their conditions
pub named_settled : {g : Graph} (r l : ℤ) → Taken g → Settled (check_named g r l) (named_conditions g r l)
unfolding check_named named_conditions
named_settled {g} r l k =
    let leaf = when (not (is_leaf g l)) 7 5 0 in
    let many = when (many_paths g r (l ∷ [])) 10 1 0 in
    let Leafless = refuse 7 5 0 (Leaf g l → ⊥) in
    let Many = refuse 10 1 0 (ManyPaths g r (l ∷ [])) in
    let noRoot = settled_when 7 4 0 (decides_not (is_root? g r)) in
    let noLeaf = settled_when 7 5 0 (decides_not (is_leaf? g l)) in
    let fromLeaf = settled_next leaf many Leafless Many noLeaf (λ h. settled_when 10 1 0 (many_paths_one? k (test_stable (is_leaf? g l) h.0))) in
    settled_next (when (not (is_root g r)) 7 4 0) (leaf then many) (refuse 7 4 0 (Root g r → ⊥)) (Leafless next Many) noRoot (λ h. fromLeaf)

-- the check of the output's length settles its condition
pub output_settled : (output room : ℕ) → Settled (check_output output room) (output_conditions output room)
unfolding check_output output_conditions
output_settled output room = settled_when 11 7 0 (decides_lt room output)

asked_settled : {g : Graph} (r l : ℤ) (output room : ℕ) → Taken g
    → Settled (check_named g r l then check_output output room) (named_conditions g r l next output_conditions output room)
asked_settled {g} r l output room k =
    settled_next (check_named g r l) (check_output output room) (named_conditions g r l) (output_conditions output room)
    (named_settled r l k)
    (λ h. output_settled output room)

-- the check of walk and of list settles their conditions
pub single_settled : (ns es : List ℤ) (r l : ℤ) (output room : ℕ)
    → Settled (check_single ns es r l output room) (single_conditions ns es r l output room)
unfolding check_single single_conditions
single_settled ns es r l output room =
    let g = graph_of ns es in
    let asked = check_named g r l then check_output output room in
    let Asked = named_conditions g r l next output_conditions output room in
    settled_next (check_graph 0 ns es) asked (graph_conditions 0 ns es) Asked
    (graph_settled 0 ns es)
    (λ h. asked_settled r l output room (graph-taken 0 ns es h))

-- walk refuses exactly with the refusal of the first condition that holds, and gives the leaf bits exactly when none holds
pub walk-exact : (kind : WalkKind) (ns es : List ℤ) (r l x : ℤ) (room : ℕ)
    → Exact (walk_answer kind ns es r l x room) (leaf_bits kind (graph_of ns es) r l x)
    (single_conditions ns es r l (length (leaf_bits kind (graph_of ns es) r l x)) room)
unfolding walk_answer
walk-exact kind ns es r l x room =
    let out = leaf_bits kind (graph_of ns es) r l x in
    let size = length out in
    answer-exact out (check_single ns es r l size room) (single_conditions ns es r l size room) (single_settled ns es r l size room)

-- list refuses exactly with the refusal of the first condition that holds, and gives the bitmapping list exactly when none holds
pub list-exact : (kind : WalkKind) (ns es : List ℤ) (r l : ℤ) (room : ℕ)
    → Exact (list_answer kind ns es r l room) (list_of kind (graph_of ns es) r l)
    (single_conditions ns es r l (length (numbers_of (list_of kind (graph_of ns es) r l))) room)
unfolding list_answer
list-exact kind ns es r l room =
    let out = list_of kind (graph_of ns es) r l in
    let size = length (numbers_of out) in
    answer-exact out (check_single ns es r l size room) (single_conditions ns es r l size room) (single_settled ns es r l size room)
