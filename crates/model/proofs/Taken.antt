-- What a graph that meets no condition for a refusal has, and the range of its bit addresses and bit offsets.
use mathlib.Core.Path.{◌≡◌, refl, sym, ap, subst}
use mathlib.Core.Logic.{◌≢◌, inl, inr, ⊎_elim}
use mathlib.Core.List.{List, flat_map}
use mathlib.Core.Option.{none}
use Prim.Native.Nat.{ℕ, suc, ◌+◌, ◌*◌, ◌%◌, ◌≤◌}
use native.Mathlib.Nat.{mul-le-mul}
use native.Mathlib.Omega.{arith}
use lib.IntN.{ℤ, pos, negsuc, neg_ℤ, ◌+ℤ◌, ◌*ℤ◌}
use lib.Signed.{◌≤ℤ◌}
use lib.ListN.{length}
use Rattle.integers.proofs.Linear.{plus, minus, ints, sum, diff, neg}
use Rattle.integers.proofs.Products.{times, times_bound}
use Rattle.integers.proofs.Tests.{le?, eq?, leb?}
use Rattle.lists.proofs.Decisions.{test_stable}
use Rattle.lists.specs.Lists.{◌∈◌}
use Rattle.lists.proofs.Places.{get_d_in}
use Rattle.model.specs.declared.WalkKind.{WalkKind}
use Rattle.model.specs.Limits.{node_width, edge_width, max_nodes, max_edges, max_units, max_bits, last_address}
use Rattle.model.specs.Rows.{Node, Edge, node_rows, edge_rows}
use Rattle.model.specs.Graph.{Graph, graph_of, NodeRow, no_node, node, block, first_bit, last_bit, bit_offset}
use Rattle.model.specs.Runs.{Between}
use Rattle.model.specs.Walk.{StandsOn}
use Rattle.model.specs.Paths.{Leaf, Cycle, LongChain}
use Rattle.model.specs.Refusals.{NoneHolds, refuse, ◌next◌, Kind, AddressUnit, Access, BadNode, unknown_kind, unknown_unit, unknown_access, low_base, low_range, high_end, LowOffset, HighOffset, low_offset, high_offset, BadShape, broken, too_many, shape_conditions, node_conditions, edge_conditions, row_conditions, graph_conditions}
use Rattle.model.specs.Checks.{check_shape}
use Rattle.model.specs.Taken.{Taken, GoodShape, TakenTables}
use Rattle.model.proofs.Settled.{Settled, none-next, none_flat_map}
use Rattle.model.proofs.Paths.{Fit, edges-distinct}
use Rattle.model.proofs.GraphChecks.{shape_settled, is_kind?, is_unit?, is_access?, GoodOffset, offset?, edges-good, edges_end}

-- ---- a graph that meets no condition is taken

-- a node row's node is one of the table
pub node_in_lem : (g : Graph) (v : ℤ) → NodeRow g v → node g v ∈ g.nodes
unfolding node
node_in_lem g (pos v) r = get_d_in g.nodes v no_node (omega (arith, ints, r.high))
node_in_lem g (negsuc v) r = absurd (omega (arith, ints, r.low))

-- where no condition of a node row holds, none is bad
nodes-good : (t : ℕ) (g : Graph) → NoneHolds (flat_map (node_conditions t) g.nodes) → (v : ℤ) → NodeRow g v → BadNode (node g v) → ⊥
unfolding node_conditions
nodes-good t g h v r = ((none_flat_map (node_conditions t) g.nodes).0 h (node g v) (node_in_lem g v r)).0

-- where no condition of an edge row holds, its offset is in range, and it starts at no block
module _ (t : ℕ) (g : Graph) (h : NoneHolds (flat_map (edge_conditions t g) g.edges)) where
  edges_offset : (e : Edge) → e ∈ g.edges → (LowOffset g e → ⊥) × (HighOffset g e → ⊥)
  edges_offset e m =
      let good = edges-good t g h e m in
      (λ k. good (low_offset k), λ k. good (high_offset k))

  edges-from : (e : Edge) → e ∈ g.edges → (node g e.from).kind ≢ block
  unfolding edge_conditions
  edges-from e m = ((none_flat_map (edge_conditions t g) g.edges).0 h e m).1.0

-- a graph that meets no condition is taken
pub graph-taken : (t : ℕ) (ns es : List ℤ) → NoneHolds (graph_conditions t ns es) → Taken (graph_of ns es)
unfolding row_conditions graph_conditions graph_of shape_conditions
graph-taken t ns es h =
    let g = graph_of ns es in
    let Chains = refuse 5 t 0 (Cycle g) next refuse 6 t 0 (LongChain g) in
    let Nodes = flat_map (node_conditions t) (node_rows ns) in
    let Edges = flat_map (edge_conditions (suc t) g) (edge_rows es) in
    let all = (none-next (Nodes next Edges) Chains).0 h.1.1 in
    let rows = (none-next Nodes Edges).0 all.0 in
    record {
      acyclic = all.1.0;
      short = all.1.1.0;
      good = nodes-good t g rows.0;
      ends = edges_end (suc t) g rows.1;
      offsets = edges_offset (suc t) g rows.1;
      from_no_block = edges-from (suc t) g rows.1;
      distinct = edges-distinct es;
    }

-- a table whose shape is not bad has a good one
shape_good : (width most : ℕ) (xs : List ℤ) → (BadShape width most xs → ⊥) → GoodShape width most xs
shape_good width most xs n =
    record {
      whole = test_stable (eq? (length xs % width) 0) (λ k. n (broken k));
      few = test_stable (leb? (length xs) (width * most)) (λ k. n (too_many k));
    }

-- a shape that is not refused is good
pub shape_taken : (t width most : ℕ) (xs : List ℤ) → check_shape t width most xs ≡ none → GoodShape width most xs
unfolding shape_conditions
shape_taken t width most xs e =
    let good : NoneHolds (shape_conditions t width most xs) = subst (λ c. Settled c (shape_conditions t width most xs)) e (shape_settled t width most xs) in
    shape_good width most xs good.0

-- the tables of a graph that meets no condition are taken
pub tables-taken : (t : ℕ) (ns es : List ℤ) → NoneHolds (graph_conditions t ns es) → TakenTables ns es
unfolding row_conditions graph_conditions shape_conditions
tables-taken t ns es h =
    record { graph = graph-taken t ns es h; nodes = shape_good node_width max_nodes ns h.0; edges = shape_good edge_width max_edges es h.1.0 }

-- ---- leaves

-- no edge leaves a leaf
pub taken-leaf-ends : {g : Graph} {l : ℤ} → Taken g → Leaf g l → (e : Edge) → e ∈ g.edges → e.from ≢ l
taken-leaf-ends {g} k f e m q = k.from_no_block e m (subst (λ (v : ℤ). (node g v).kind ≡ block) (sym q) f.kind)

-- paths of a taken graph end at any leaf of it
pub taken-fit : {g : Graph} {l : ℤ} → Taken g → Leaf g l → Fit g l
taken-fit k f = record { short = k.short; ends = taken-leaf-ends k f }

-- ---- the numbers of a node

-- the numbers of a node that is not bad
pub record Bounds (n : Node) : Type 0 where
  pub kind : Kind n.kind
  pub unit : AddressUnit n.unit
  pub access : Access n.access
  pub base : pos 0 ≤ℤ n.base
  pub range : pos 1 ≤ℤ n.range
  pub end : (n.base +ℤ n.range) ≤ℤ pos max_units

-- a node that is not bad keeps its bounds
pub node_bounds : {n : Node} → (BadNode n → ⊥) → Bounds n
node_bounds {n} f = record {
  kind = test_stable (is_kind? n.kind) (λ k. f (unknown_kind k));
  unit = test_stable (is_unit? n.unit) (λ k. f (unknown_unit k));
  access = test_stable (is_access? n.access) (λ k. f (unknown_access k));
  base = test_stable (le? (pos 0) n.base) (λ k. f (low_base k));
  range = test_stable (le? (pos 1) n.range) (λ k. f (low_range k));
  end = test_stable (le? (n.base +ℤ n.range) (pos max_units)) (λ k. f (high_end k));
}

-- every node of a taken graph keeps them
pub taken_bounds : {g : Graph} {v : ℤ} → Taken g → NodeRow g v → Bounds (node g v)
taken_bounds {v} k r = node_bounds (k.good v r)

-- the size of an address unit, on the parts: 8 to 128 bits
pub record UnitSize (u : ℤ) : Type 0 where
  pub sign : minus u ≡ 0
  pub least : 8 ≤ plus u
  pub most : plus u ≤ 128

unit-is : {u : ℤ} (n : ℕ) → 8 ≤ n → n ≤ 128 → u ≡ pos n → UnitSize u
unit-is n h k e = subst UnitSize (sym e) (record { sign = refl; least = h; most = k })

-- every address unit has such a size
pub unit_size : {u : ℤ} → AddressUnit u → UnitSize u
unit_size (inl e) = unit-is 8 (omega arith) (omega arith) e
unit_size (inr (inl e)) = unit-is 16 (omega arith) (omega arith) e
unit_size (inr (inr (inl e))) = unit-is 32 (omega arith) (omega arith) e
unit_size (inr (inr (inr (inl e)))) = unit-is 64 (omega arith) (omega arith) e
unit_size (inr (inr (inr (inr e)))) = unit-is 128 (omega arith) (omega arith) e

-- a number that is not negative has no part below 0
sign_none : (x : ℤ) → pos 0 ≤ℤ x → minus x ≡ 0
sign_none (pos a) h = refl
sign_none (negsuc a) h = absurd (omega (arith, ints))

-- the parts of a number within a bound on either side
pub parts_within : (A : ℕ) (x : ℤ) → neg_ℤ (pos A) ≤ℤ x → x ≤ℤ pos A → (plus x ≤ A) × (minus x ≤ A)
parts_within A (pos a) h k = omega (arith, ints)
parts_within A (negsuc a) h k = omega (arith, ints, neg (pos A))

-- ---- bit addresses and bit offsets

end_sign : {n : Node} → Bounds n → minus (n.base +ℤ n.range) ≡ 0
end_sign {n} b = sign_none (n.base +ℤ n.range) (omega (arith, ints, b.base, b.range, sum n.base n.range))

-- a node within its bounds has bits
pub bounds_full : {n : Node} → Bounds n → first_bit n ≤ℤ last_bit n
unfolding first_bit last_bit
bounds_full {n} b =
    let u = unit_size b.unit in
    let end = n.base +ℤ n.range in
    let below = sign_none n.base b.base in
    let apart = sign_none n.range (omega (arith, ints, b.range)) in
    let high = end_sign b in
    let split : plus end ≡ plus n.base + plus n.range = omega (arith, sum n.base n.range) in
    let some : 1 ≤ plus n.range = omega (arith, ints, b.range) in
    let wide : 1 * 8 ≤ plus n.range * plus n.unit = mul-le-mul some u.least in
    omega (
      arith,
      ints,
      diff (end *ℤ n.unit) (pos 1),
      times n.base n.unit u.sign,
      times end n.unit u.sign,
      ap (λ (k : ℕ). k * plus n.unit) split,
      ap (λ (k : ℕ). k * plus n.unit) high,
    )

-- the bits of a node within its bounds lie in 0 .. last_address
pub bounds_address : {n : Node} {a : ℤ} → Bounds n → Between (first_bit n) (last_bit n) a → (pos 0 ≤ℤ a) × (a ≤ℤ last_address)
unfolding first_bit last_bit
bounds_address {n} {a} b s =
    let u = unit_size b.unit in
    let end = n.base +ℤ n.range in
    let below = sign_none n.base b.base in
    let high = end_sign b in
    let most = times_bound max_units 128 end n.unit (omega (arith, ints, b.end)) (omega arith) u.sign u.most in (
      omega (arith, ints, s.above, times n.base n.unit u.sign, ap (λ (k : ℕ). k * plus n.unit) below),
      omega (arith, ints, s.below, most.0, diff (end *ℤ n.unit) (pos 1)),
    )

-- every bit address of a taken graph lies in 0 .. last_address
pub taken-address : {kind : WalkKind} {g : Graph} {v a : ℤ} → Taken g → NodeRow g v → StandsOn kind (node g v) a → (pos 0 ≤ℤ a) × (a ≤ℤ last_address)
taken-address k r s = bounds_address (taken_bounds k r) (record { above = s.above; below = s.below })

-- every offset of a taken graph lies within ±max_units
pub taken_units : {g : Graph} {e : Edge} → Taken g → e ∈ g.edges → GoodOffset g e
taken_units {g} {e} k m = test_stable (offset? g e) (⊎_elim (k.offsets e m).0 (k.offsets e m).1)

-- every bit offset of a taken graph lies within ±max_bits
pub taken-offset : {g : Graph} {e : Edge} → Taken g → e ∈ g.edges → (neg_ℤ (pos max_bits) ≤ℤ bit_offset g e) × (bit_offset g e ≤ℤ pos max_bits)
unfolding bit_offset
taken-offset {g} {e} k m =
    let u = unit_size (taken_bounds k (k.ends e m).1).unit in
    let units = taken_units k m in
    let o = parts_within max_units e.offset units.0 units.1 in
    let most = times_bound max_units 128 e.offset (node g e.to).unit o.0 o.1 u.sign u.most in
    (omega (arith, ints, most.1, neg (pos max_bits)), omega (arith, ints, most.0))
