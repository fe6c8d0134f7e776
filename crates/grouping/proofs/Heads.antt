-- The heads of the specification leaves of all leaf rows: set to the number of rows, then moved to a row.
use mathlib.Core.Path.{◌≡◌, sym, ap, ◌∙◌}
use mathlib.Core.Bool.{Bool, true, false}
use mathlib.Core.List.{List}
use mathlib.Core.Logic.{◌≢◌}
use Prim.Native.Nat.{ℕ, suc, ◌+◌, ◌*◌, ◌/◌, ◌≤◌, ◌<◌}
use native.Mathlib.Omega.{arith}
use lib.Dec.{eqb}
use lib.IntN.{ℤ, pos}
use lib.Signed.{◌≤ℤ◌}
use lib.ListN.{length, get_or, set, replicate, get_or-replicate}
use lib.Seq.{get_or-set_same, get_or-set_other}
use Rattle.integers.proofs.Linear.{ints}
use Rattle.integers.proofs.Tests.{Test, passed, failed, eq?}
use Rattle.model.specs.Limits.{pair_width}
use Rattle.model.specs.Rows.{pair_rows}
use Rattle.model.specs.Compare.{same_spec}
use Rattle.tables.specs.Tables.{pair_at}
use Rattle.tables.proofs.Rows.{pairs_length, pair_member}
use Rattle.pairing.specs.Pairs.{node_columns}
use Rattle.reach.specs.Links.{first_row}
use Rattle.reach.proofs.FirstRow.{first_row_end}
use Rattle.grouping.specs.Passes.{LeavesWithin, HeadsFrom}
use Rattle.grouping.proofs.Rows.{first-own, first-other}

module _ (pairs : List ℤ) where
  -- what reading the specification leaf of a row asks: its column names a node, the numbers of the row stand in the table, and the leaf is not negative
  pub leaf-read : {nodes : ℕ} → LeavesWithin pairs nodes → (k : ℕ) → k < length pairs / pair_width
      → (0 < node_columns) × (pair_width * k + pair_width ≤ length pairs) × (pos 0 ≤ℤ (pair_at pairs k).spec)
  leaf-read w k h = (omega arith, omega (arith, h), (w (pair_at pairs k) (pair_member pairs k h)).low)

  -- as an index it is below the number of nodes
  pub leaf-below : {nodes : ℕ} → LeavesWithin pairs nodes → (k v : ℕ) → k < length pairs / pair_width → pos v ≡ (pair_at pairs k).spec → v < nodes
  leaf-below w k v h q = omega (arith, ints, q, (w (pair_at pairs k) (pair_member pairs k h)).high)

  -- behind the last row there is none: where every head is the number of rows, each is as it is from there on
  pub heads_begun : (nodes : ℕ) → LeavesWithin pairs nodes → HeadsFrom pairs (length pairs / pair_width) (replicate nodes (length pairs / pair_width))
  heads_begun nodes w =
      let count = length pairs / pair_width in
      record {
        each = λ j v h q.
            get_or-replicate nodes v count 0 (leaf-below w j v h q)
            ∙ sym (first_row_end (same_spec (pair_at pairs j)) count (pair_rows pairs) (omega (arith, pairs_length pairs)) ∙ pairs_length pairs);
      }

  -- ---- heads that move on by one row

  -- row k becomes the head of its leaf
  pub heads_move : {head : List ℕ} (k v : ℕ) → k < length pairs / pair_width → v < length head → pos v ≡ (pair_at pairs k).spec → HeadsFrom pairs (suc k) head
      → HeadsFrom pairs k (set head v k)
  heads_move {head} k v h b q s = record { each = λ j u i r. go j u i r (eqb u v) (eq? u v) }
    where
      go : (j u : ℕ) → j < length pairs / pair_width → pos u ≡ (pair_at pairs j).spec → (t : Bool) → Test (u ≡ v) (u ≢ v) t
          → get_or (set head v k) u 0 ≡ first_row (same_spec (pair_at pairs j)) k (pair_rows pairs)
      go j u i r true (passed e) =
          rw e (get_or-set_same head v k 0 b) ∙ sym (first-own pairs k h (pair_at pairs j) (sym q ∙ ap pos (sym e) ∙ r))
      go j u i r false (failed n) =
          get_or-set_other head v u k 0 n
          ∙ s.each j u i r
          ∙ sym (first-other pairs k h (pair_at pairs j) (λ z. let y : pos v ≡ pos u = q ∙ z ∙ sym r in n (omega (arith, ints, y))))
