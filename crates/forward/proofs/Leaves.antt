-- The nodes in a column of a pair table, and the marks of those in its first rows.
use mathlib.Core.Path.{◌≡◌, sym, ap, ◌∙◌}
use mathlib.Core.Bool.{Bool, true, false, true≢false}
use mathlib.Core.List.{List}
use mathlib.Core.Logic.{◌≢◌, ◌⊎◌, inl, inr, ⊎_elim}
use Prim.Native.Nat.{ℕ, ◌+◌, ◌/◌, ◌<◌}
use native.Mathlib.Omega.{arith}
use lib.Dec.{eqb}
use lib.IntN.{ℤ, pos}
use lib.ListN.{length, get_or, set}
use Rattle.integers.proofs.Linear.{ints}
use Rattle.integers.proofs.Tests.{Test, passed, failed, eq?}
use Rattle.lists.specs.Lists.{◌∈◌}
use Rattle.lists.proofs.Membership.{map_in, map_out}
use Rattle.model.specs.Limits.{pair_width}
use Rattle.model.specs.Rows.{pair_rows}
use Rattle.depth.specs.Passes.{Within}
use Rattle.tables.specs.Tables.{pair_at}
use Rattle.pairing.specs.Pairs.{node_in}
use Rattle.tables.proofs.Rows.{pair_member, pair_own}
use Rattle.forward.specs.Forward.{nodes_in}
use Rattle.forward.specs.Passes.{Marking, Markable}
use Rattle.forward.proofs.Marks.{mark_set}

module _ (pairs : List ℤ) (column : ℕ) where
  -- the node of each row is one in the column
  row_in : (k : ℕ) → k < length pairs / pair_width → node_in column (pair_at pairs k) ∈ nodes_in column pairs
  row_in k h = map_in (node_in column) (pair_member pairs k h)

  -- v is the node of one of the first k rows
  abbrev InRows : ℕ → ℤ → Type 0
  InRows k v = (q : ℕ) × (q < k) × (v ≡ node_in column (pair_at pairs q))

  -- exactly those nodes are marked
  abbrev pub RowsMarked : List Bool → ℕ → Type 0
  RowsMarked marks k = Marking marks (InRows k)

  -- the node of a row has a mark
  pub row_within : {marks : List Bool} → Markable pairs column marks → (k : ℕ) → k < length pairs / pair_width → Within (length marks) (node_in column (pair_at pairs k))
  row_within m k h = m.within (node_in column (pair_at pairs k)) (row_in k (omega arith))

  -- before the first row
  pub rows_start : {marks : List Bool} → Markable pairs column marks → RowsMarked marks 0
  rows_start m = record { each = λ v. (λ h. absurd (true≢false (sym h ∙ m.blank v)), λ w. absurd (omega (arith, w.1))) }

  -- the node of the next row is marked
  pub rows_next : {marks : List Bool} {k : ℕ} (i : ℕ) → pos i ≡ node_in column (pair_at pairs k) → i < length marks → RowsMarked marks k
      → RowsMarked (set marks i true) (k + 1)
  rows_next {marks} {k} i q h r =
      record {
        each = λ v. (
          λ m.
              ⊎_elim (λ e. (k, omega arith, ap pos e ∙ q)) (λ n. let w = (r.each v).0 n in (w.0, omega (arith, w.1), w.2))
              ((mark_set marks i v h).0 m),
          λ w. (mark_set marks i v h).1 (earlier v w (eqb w.0 k) (eq? w.0 k)),
        );
      }
    where
      earlier : (v : ℕ) (w : InRows (k + 1) (pos v)) (t : Bool) → Test (w.0 ≡ k) (w.0 ≢ k) t → (v ≡ i) ⊎ (get_or marks v false ≡ true)
      earlier v w true (passed e) = inl (let z : pos v ≡ pos i = w.2 ∙ ap (λ j. node_in column (pair_at pairs j)) e ∙ sym q in omega (arith, ints, z))
      earlier v w false (failed n) = inr ((r.each v).1 (w.0, omega (arith, w.1, n), w.2))

  -- behind the last row
  pub rows_end : {marks : List Bool} {k : ℕ} → k ≡ length pairs / pair_width → RowsMarked marks k → Marking marks (λ v. v ∈ nodes_in column pairs)
  rows_end e r =
      record {
        each = λ v. (
          λ h. let w = (r.each v).0 h in rw w.2 (row_in w.0 (omega (arith, w.1))),
          λ m.
              let w = map_out (node_in column) (pair_rows pairs) m in
              let own = pair_own pairs w.1 in
              (r.each v).1 (w.0.row, omega (arith, own.0), w.2 ∙ ap (node_in column) own.1),
        );
      }
