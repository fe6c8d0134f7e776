-- What is known of a swept state without a look into it: its root, its kind of walk, its free row, and that it may change from there on.
use mathlib.Core.Path.{◌≡◌, sym, ap, ◌∙◌, subst}
use mathlib.Core.List.{List}
use Prim.Native.Nat.{ℕ, ◌+◌, ◌*◌, ◌≤◌, ◌<◌}
use native.Mathlib.Omega.{arith}
use lib.IntN.{ℤ, pos, nat_abs}
use lib.Signed.{◌≤ℤ◌}
use lib.ListN.{length, get_or}
use Rattle.integers.proofs.Linear.{ints}
use Rattle.model.specs.declared.WalkKind.{WalkKind}
use Rattle.model.specs.Limits.{max_paths}
use Rattle.model.specs.Graph.{graph_of}
use Rattle.model.specs.Paths.{Root}
use Rattle.model.specs.Taken.{TakenTables}
use Rattle.sorting.specs.Rows.{row_width}
use Rattle.arrivals.specs.State.{free_at, free_row, Agree}
use Rattle.arrivals.specs.Sweep.{Swept}
use Rattle.arrivals.proofs.Agreeing.{agree_root, agree_kind, agree_free, sweeping-agrees}

module _ {kind : WalkKind} {ns es : List ℤ} {plan : List ℕ} {root : ℕ} {s : List ℤ} (w : Swept kind ns es plan root s) where
  -- the tables are taken, and the root is one of them
  pub swept_tables : TakenTables ns es
  swept_tables = w.state.tables

  pub swept_root : Root (graph_of ns es) (pos root)
  swept_root = subst (Root (graph_of ns es)) w.from w.state.root

  -- it is the only one
  pub swept_same : {meant : WalkKind} {other : ℕ} → Swept meant ns es plan other s → root ≡ other
  swept_same v = ap nat_abs (sym w.from ∙ v.from)

  -- the free row can be read
  pub swept_free : (free_at < length s) × (pos 0 ≤ℤ get_or s free_at (pos 0))
  swept_free = (omega (arith, w.state.room), omega (arith, ints, w.state.free_number))

  -- and from it on there is room for a list
  pub swept_room : row_width * (free_row s + max_paths) ≤ length s
  swept_room = omega (arith, w.state.room, w.state.free_high)

  -- a state that is the same in front of the free row is swept too, and free from the same row on
  pub swept_agrees : {t : List ℤ} → Agree (free_row s) s t → Swept kind ns es plan root t × (free_row t ≡ free_row s)
  swept_agrees a =
      (record { from = agree_root w.state.free_low a ∙ w.from; by = agree_kind w.state.free_low a ∙ w.by; state = sweeping-agrees w.state a }, agree_free w.state.free_low a)
