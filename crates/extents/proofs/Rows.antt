-- Rows of taken tables: what the code asks of a row of a node table and of an edge table.
use mathlib.Core.Path.{◌≡◌, refl, sym, ap, subst, ◌∙◌}
use mathlib.Core.Bool.{Bool}
use mathlib.Core.List.{List, []}
use mathlib.Core.Logic.{◌↔◌}
use Prim.Native.Nat.{ℕ, ◌+◌, ◌*◌, ◌≤◌, ◌<◌}
use native.Mathlib.Omega.{arith}
use lib.Dec.{leb}
use lib.IntN.{ℤ, pos, negsuc, neg_ℤ, ◌*ℤ◌}
use lib.Signed.{◌≤ℤ◌}
use lib.ListN.{length, get_or-eq_default}
use mir.Syntax.{w64}
use mir.Val.{SFits, to_z, of_z}
use mir.Facts.{to_z-of_z}
use Rattle.integers.proofs.Linear.{ints}
use Rattle.integers.proofs.Tests.{Test, passed, failed, leb?}
use Rattle.lists.specs.Lists.{◌∈◌}
use Rattle.model.specs.Rows.{Node, node_rows}
use Rattle.model.specs.Limits.{node_width, edge_width, max_units}
use Rattle.model.specs.Graph.{graph_of, NodeRow as IsNode, no_node, node, read_write, first_bit, last_bit, bit_offset}
use Rattle.model.specs.Refusals.{AddressUnit, BadNode, unknown_kind, unknown_unit, unknown_access, low_base, low_range, high_end}
use Rattle.model.specs.declared.WalkKind.{WalkKind}
use Rattle.model.specs.Runs.{is_open}
use Rattle.model.specs.Taken.{AllOpen, TakenTables}
use Rattle.model.proofs.Taken.{node_bounds, taken_units}
use Rattle.tables.specs.declared.NodeRow.{NodeRow}
use Rattle.tables.specs.Tables.{node_at, edge_at, node_of}
use Rattle.tables.proofs.Rows.{nodes_length, node_at_lem, edge_member}
use Rattle.runs.specs.Clipping.{SmallOffset, SmallExtent}
use Rattle.extents.specs.Extents.{ExtentOf, OpenExtent, GoodRow}
use Rattle.extents.proofs.Bounds.{extent_read, offset-small}

-- a node row of taken tables is there, and keeps the limits
pub node-good : {ns es : List ℤ} {v : ℕ} → TakenTables ns es → IsNode (graph_of ns es) (pos v) → GoodRow ns v
unfolding graph_of
node-good {ns} {es} {v} k r =
    let there : node_width * v + node_width ≤ length ns = omega (arith, ints, r.high, nodes_length ns) in
    record { there = there; good = subst (λ n. BadNode n → ⊥) (node_at_lem ns es v there) (k.graph.good (pos v) r) }

-- it is a node of any graph with this node table
pub node_limits : {ns : List ℤ} {v : ℕ} → GoodRow ns v → (es : List ℤ) → BadNode (node (graph_of ns es) (pos v)) → ⊥
node_limits {ns} {v} r es b = r.good (subst BadNode (node_at_lem ns es v r.there) b)

-- an edge row that is there is an edge of the graph
pub edge_in : (ns es : List ℤ) (e : ℕ) → edge_width * e + edge_width ≤ length es → edge_at es e ∈ (graph_of ns es).edges
unfolding graph_of
edge_in ns es e h = edge_member es e (omega arith)

module _ {ns es : List ℤ} (k : TakenTables ns es) (e : ℕ) (h : edge_width * e + edge_width ≤ length es) where
  -- the node that an edge of taken tables enters is a node row
  pub to_row : IsNode (graph_of ns es) (edge_at es e).to
  to_row = (k.graph.ends (edge_at es e) (edge_in ns es e h)).1

  -- that row keeps the limits
  pub to-good : {t : ℕ} → pos t ≡ (edge_at es e).to → GoodRow ns t
  to-good p = node-good k (subst (IsNode (graph_of ns es)) (sym p) to_row)

  -- its first and last bit are those of the node that the edge enters
  pub to_extent : {kind : WalkKind} {t : ℕ} {low high : ℤ} → pos t ≡ (edge_at es e).to → OpenExtent kind (node (graph_of ns es) (pos t)) low high
      → OpenExtent kind (node (graph_of ns es) (edge_at es e).to) low high
  to_extent p x = rw p at x

  -- and they are small
  pub to-small : {kind : WalkKind} {low high : ℤ} → OpenExtent kind (node (graph_of ns es) (edge_at es e).to) low high → SmallExtent low high
  to-small x = extent_read (node (graph_of ns es) (edge_at es e).to) (k.graph.good (edge_at es e).to to_row) x

  -- the bit offset of an edge of taken tables is small
  pub edge_small : {o : ℤ} → o ≡ bit_offset (graph_of ns es) (edge_at es e) → SmallOffset o
  edge_small p = subst SmallOffset (sym p) (offset-small k.graph (edge_in ns es e h))

  -- the offset o of the edge and the unit u of the node entered, as they were read
  module _ {o u : ℤ} {t : ℕ} (offset : o ≡ (edge_at es e).offset) (to : pos t ≡ (edge_at es e).to) (unit : u ≡ (node_at ns t).unit) where
    -- they keep the limits
    pub offset_limits : (neg_ℤ (pos max_units) ≤ℤ o) × (o ≤ℤ pos max_units) × AddressUnit u
    offset_limits =
        let limits = taken_units k.graph (edge_in ns es e h) in
        rw (offset, unit) (limits.0, limits.1, (node_bounds (to-good to).good).unit)

    -- and give the bit offset
    pub offset_read : o *ℤ u ≡ bit_offset (graph_of ns es) (edge_at es e)
    unfolding bit_offset
    offset_read = cc (node_at_lem ns es t (to-good to).there)

-- ---- node rows as they were read

-- the number of a row does not matter to its limits
bad_renumbered : {v : ℕ} (r : NodeRow) → BadNode (node_of 0 r) → BadNode (node_of v r)
bad_renumbered r (unknown_kind h) = unknown_kind h
bad_renumbered r (unknown_unit h) = unknown_unit h
bad_renumbered r (unknown_access h) = unknown_access h
bad_renumbered r (low_base h) = low_base h
bad_renumbered r (low_range h) = low_range h
bad_renumbered r (high_end h) = high_end h

module _ {ns : List ℤ} {v : ℕ} (good : GoodRow ns v) (r : NodeRow) (read : node_of v r ≡ node_at ns v) where
  -- a row that keeps the limits does so as it was read
  pub row-good : BadNode (node_of 0 r) → ⊥
  row-good b = good.good (subst BadNode read (bad_renumbered r b))

  -- its first and last bit are those of the node
  pub row_extent : (es : List ℤ) {first last : ℤ} → first ≡ first_bit (node_of 0 r) → last ≡ last_bit (node_of 0 r)
      → ExtentOf (node (graph_of ns es) (pos v)) first last
  unfolding first_bit last_bit
  row_extent es p q =
      let e : node_of v r ≡ node (graph_of ns es) (pos v) = read ∙ sym (node_at_lem ns es v good.there) in
      record { first = p ∙ ap first_bit e; last = q ∙ ap last_bit e }

  -- and so is whether it is open
  pub row_open : (kind : WalkKind) (es : List ℤ) → is_open kind (node_of v r) ≡ is_open kind (node (graph_of ns es) (pos v))
  row_open kind es = ap (is_open kind) (read ∙ sym (node_at_lem ns es v good.there))

-- ---- tables whose nodes may all be read and written

-- every row may be read and written exactly where every node of a graph with these rows may: what stands for a row that is not there may
pub all-rows_open : (ns : List ℤ)
    → ((w : ℕ) → node_width * w + node_width ≤ length ns → (node_at ns w).access ≡ read_write) ↔ ((es : List ℤ) → AllOpen (graph_of ns es))
unfolding node graph_of
all-rows_open ns = (λ h es v. forth h es v, λ h w there. ap (λ (n : Node). n.access) (sym (node_at_lem ns [] w there)) ∙ h [] (pos w))
  where
    there? : (es : List ℤ) (w : ℕ) → ((w : ℕ) → node_width * w + node_width ≤ length ns → (node_at ns w).access ≡ read_write) → (b : Bool)
        → Test (node_width * w + node_width ≤ length ns) (length ns < node_width * w + node_width) b → (node (graph_of ns es) (pos w)).access ≡ read_write
    there? es w h b (passed t) = ap (λ (n : Node). n.access) (node_at_lem ns es w t) ∙ h w t
    there? es w h b (failed t) = ap (λ (n : Node). n.access) (get_or-eq_default (node_rows ns) no_node (omega (arith, nodes_length ns)))

    forth : ((w : ℕ) → node_width * w + node_width ≤ length ns → (node_at ns w).access ≡ read_write) → (es : List ℤ) (v : ℤ) → (node (graph_of ns es) v).access ≡ read_write
    forth h es (pos w) = there? es w h (leb (node_width * w + node_width) (length ns)) (leb? (node_width * w + node_width) (length ns))
    forth h es (negsuc w) = refl

-- a number whose bits are those of 0 is 0
pub bits_zero : {z : ℤ} → SFits w64 z → of_z w64 z ≡ 0 → z ≡ pos 0
bits_zero f e = sym (to_z-of_z f) ∙ ap (to_z w64) e
