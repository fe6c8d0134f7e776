-- The rows of a leaf: what its reference brings, its bit addresses counted from the leaf's first bit, is the reached set.
use mathlib.Core.Path.{◌≡◌, sym, ap, subst}
use mathlib.Core.Bool.{true, false}
use mathlib.Core.List.Memᴰ
use mathlib.Core.List.{List, []}
use mathlib.Core.Logic.Iff
use mathlib.Core.Logic.{◌↔◌}
use Prim.Native.Nat.{ℕ, ◌≤◌, ◌<◌, ◌^◌}
use native.Mathlib.Omega.{arith}
use lib.IntN.{ℤ, pos, ◌+ℤ◌, +ℤ-neg_ℤ_cancel}
use lib.Signed.{◌≤ℤ◌}
use lib.ListN.{length, take, length-map, length-take}
use lib.Seq.{take_all}
use Rattle.integers.proofs.Linear.{ints, diff, neg}
use Rattle.model.specs.declared.WalkKind.{WalkKind}
use Rattle.model.specs.Limits.{max_chain, last_address}
use Rattle.model.specs.Rows.{Edge, node_rows}
use Rattle.model.specs.Graph.{graph_of, node, first_bit}
use Rattle.model.specs.Walk.{Walk, Reached}
use Rattle.model.specs.Runs.{shift}
use Rattle.model.proofs.Paths.{way-short}
use Rattle.model.proofs.Walks.{reached-arrival}
use Rattle.tables.specs.Tables.{edge_at}
use Rattle.tables.proofs.Limits.{first-address}
use Rattle.runs.specs.Clipping.{SmallRun, SmallOffset}
use Rattle.runs.proofs.Runs.{shift-last}
use Rattle.extents.specs.Extents.{GoodRow}
use Rattle.extents.proofs.Rows.{node-good}
use Rattle.reach.specs.Counting.{path_count}
use Rattle.entering.proofs.Counts.{count-way}
use Rattle.listing.proofs.Appending.{append_none}
use Rattle.forward.specs.Forward.{planned_count, planned_of}
use Rattle.references.specs.References.{Reference, Brings, shifted, InOwner}
use Rattle.references.proofs.Bringing.{shifted_brings}
use Rattle.entering.specs.Entering.{Covered}
use Rattle.arrivals.specs.State.{is_met, reference_at, root_in, kind_in}
use Rattle.arrivals.specs.Sweep.{done_of, RightMark, Gatherable, Gathered, Swept, Appendable, LeafAppended}
use Rattle.arrivals.proofs.Relisting.{row_number}
use Rattle.arrivals.proofs.Settled.{not_both, covered-way, settled}

-- all edges of a plan are its first ones
passed-all : (es : List ℤ) (plan : List ℕ) → done_of es plan (planned_count plan) ≡ planned_of es plan
passed-all es plan =
    let front = take (planned_count plan) plan in
    take_all (planned_count plan) (planned_of es plan) (omega (arith, length-map front (edge_at es), length-take (planned_count plan) plan))

-- what the mark of a leaf brings, with bit addresses that count from the leaf's first bit
abbrev pub leaf_part : List ℤ → List ℤ → ℕ → List ℤ → Reference
leaf_part ns es leaf s = shifted (first_bit (node (graph_of ns es) (pos leaf))) (reference_at s leaf)

module _ {ns es : List ℤ} {plan : List ℕ} {leaf : ℕ} {s : List ℤ} {n : ℕ} (o : Appendable ns es plan leaf s n) where
  -- the leaf is a node row
  leaf-number : leaf < length (node_rows ns)
  leaf-number = row_number ns es o.block.row

  pub leaf-good : GoodRow ns leaf
  leaf-good = node-good o.state.state.tables o.block.row

  -- all edges that enter it are passed
  leaf-covered : Covered es (done_of es plan (planned_count plan)) (pos leaf)
  leaf-covered = subst (λ (done : List Edge). Covered es done (pos leaf)) (sym (passed-all es plan)) o.covered

  -- what arrives there is what its mark brings
  leaf_settled : (x b : ℤ) → Walk (kind_in s) (graph_of ns es) (root_in s) x (pos leaf) b
      ↔ ((is_met s leaf ≡ true) × Brings (kind_in s) (graph_of ns es) (root_in s) (reference_at s leaf) x b)
  leaf_settled = settled o.state.state leaf leaf-number leaf-covered

  -- where nothing is marked nothing is reached: no row is appended
  pub leaf-unmet : {kind : WalkKind} {root : ℕ} → Swept kind ns es plan root s → is_met s leaf ≡ false → LeafAppended kind (graph_of ns es) (pos root) (pos leaf) s s n n
  leaf-unmet w unmet =
      record {
        rows = [];
        appended = append_none s n;
        exact = λ x y. (
          λ h. absurd (Memᴰ.not-nil h.1),
          λ r. absurd (not_both ((leaf_settled x r.arrival).0 (rw (w.by, w.from) r.walk)).0 unmet),
        );
        full = λ q j. absurd (Memᴰ.not-nil j);
        few = omega arith;
      }

  module _ (met : is_met s leaf ≡ true) where
    -- its mark
    mark : RightMark (kind_in s) (graph_of ns es) (root_in s) (done_of es plan (planned_count plan)) s leaf
    mark = o.state.state.marks leaf leaf-number

    in_owner : InOwner (graph_of ns es) (reference_at s leaf)
    in_owner = mark.in_owner met

    -- the first bit of the leaf
    pub first_small : (pos 0 ≤ℤ first_bit (node (graph_of ns es) (pos leaf))) × (first_bit (node (graph_of ns es) (pos leaf)) ≤ℤ last_address)
    first_small = first-address (o.state.state.tables.graph.good (pos leaf) o.block.row)

    -- the reference, as it is read, can be shifted by a small number
    pub part_movable : {f : Reference} {o : ℤ} → f ≡ reference_at s leaf → pos 0 ≤ℤ o → o ≤ℤ last_address → SmallRun f.run × SmallOffset o
    part_movable {f} {o} read low high = (
      subst (λ (e : Reference). SmallRun e.run) (sym read) in_owner.small,
      record { low = omega (arith, ints, low, neg (pos (2 ^ 62))); high = omega (arith, ints, high) },
    )

    -- shifted so it lies where it did
    part_lying : InOwner (graph_of ns es) (leaf_part ns es leaf s)
    unfolding shift
    part_lying =
        let r = (reference_at s leaf).run in
        let first = first_bit (node (graph_of ns es) (pos leaf)) in
        let inside = mark.inside met in
        let small = in_owner.small in
        let low = diff r.low first in
        let high = diff r.high first in
        let last = shift-last first r in
        record {
          row = in_owner.row;
          small = record {
            root = small.root;
            low = omega (arith, ints, inside.0);
            full = omega (arith, ints, small.full);
            high = omega (arith, ints, small.high, first_small.0);
            last = omega (arith, ints, last, small.last);
          };
          above = in_owner.above;
          below = omega (arith, ints, last, in_owner.below);
        }

    -- no fewer paths lead to the leaf than to the owner
    part_few : path_count (graph_of ns es) (root_in s) (reference_at s leaf).owner ≤ path_count (graph_of ns es) (root_in s) (pos leaf)
    part_few =
        let w = o.state.state in
        let (p, way) = mark.way met in
        count-way w.tables.graph.acyclic w.tables.graph.short w.root.unentered way

    -- it brings exactly what is reached
    part_reached : (x y : ℤ) → Brings (kind_in s) (graph_of ns es) (root_in s) (leaf_part ns es leaf s) x y ↔ Reached (kind_in s) (graph_of ns es) (root_in s) (pos leaf) x y
    part_reached x y =
        let first = first_bit (node (graph_of ns es) (pos leaf)) in
        let back = shifted_brings (kind_in s) (graph_of ns es) (root_in s) first (reference_at s leaf) x y in (
          λ h. record {
            arrival = y +ℤ first;
            walk = (leaf_settled x (y +ℤ first)).1 (met, back.0 h);
            leaf_bit = sym (+ℤ-neg_ℤ_cancel y first);
          },
          λ r. back.1 ((leaf_settled x (y +ℤ first)).0 (subst (λ (b : ℤ). Walk (kind_in s) (graph_of ns es) (root_in s) x (pos leaf) b) (reached-arrival r) r.walk)).1,
        )

    -- with f as it is read
    module _ {f : Reference} (read : f ≡ leaf_part ns es leaf s) where
      -- its rows can be gathered
      pub part_gatherable : Gatherable ns es plan f max_chain s n
      part_gatherable =
          let w = o.state.state in
          let (p, way) = mark.way met in
          subst (λ (e : Reference). Gatherable ns es plan e max_chain s n) (sym read)
          record {
            passed = planned_count plan;
            sweeping = w;
            in_owner = part_lying;
            met = mark.owner met;
            covered = covered-way w way leaf-covered;
            deep = λ p y. way-short w.tables.graph.short y;
            behind = o.behind;
            room = omega (arith, o.room, part_few, ap (λ (r : ℤ). path_count (graph_of ns es) r (pos leaf)) o.state.from);
          }

      -- and are those of the leaf
      pub part_appended : {kind : WalkKind} {root : ℕ} {u : List ℤ} {m : ℕ} → Swept kind ns es plan root s → Gathered (kind_in s) (graph_of ns es) (root_in s) f s u n m
          → LeafAppended kind (graph_of ns es) (pos root) (pos leaf) s u n m
      part_appended {u = u} {m = m} w h =
          let g = graph_of ns es in
          rw (← w.by, ← w.from)
          record {
            rows = h.rows;
            appended = h.appended;
            exact = λ x y.
                Iff.trans (h.exact x y)
                (subst (λ (e : Reference). Brings (kind_in s) g (root_in s) e x y ↔ Reached (kind_in s) g (root_in s) (pos leaf) x y) (sym read) (part_reached x y));
            full = h.full;
            few = omega (arith, h.few, ap (λ (e : Reference). path_count g (root_in s) e.owner) read, part_few);
          }
