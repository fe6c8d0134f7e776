-- The rows of each group, linked by one pass from the last row to the first.
use mathlib.Core.Path.{◌≡◌, refl, subst, ◌∙◌}
use mathlib.Core.Bool.{Bool, true, false}
use mathlib.Core.List.{List}
use mathlib.Core.Logic.{◌≢◌}
use Prim.Native.Nat.{ℕ, suc, ◌+◌, ◌/◌, ◌≤◌, ◌<◌}
use native.Mathlib.Omega.{arith}
use lib.Dec.{eqb}
use lib.IntN.{ℤ, pos}
use lib.ListN.{length, get_or, set, length-set}
use lib.Seq.{get_or-set_same, get_or-set_other}
use Rattle.integers.proofs.Tests.{Test, passed, failed, eq?}
use Rattle.model.specs.Limits.{pair_width}
use Rattle.model.specs.Rows.{pair_rows}
use Rattle.model.specs.Compare.{same_spec}
use Rattle.tables.specs.Tables.{pair_at}
use Rattle.reach.specs.Links.{first_row}
use Rattle.grouping.specs.Links.{next_at, link_room, next_row}
use Rattle.grouping.specs.Passes.{HeadsFrom, Headed, RowsLinked}
use Rattle.grouping.proofs.Heads.{heads_move}

module _ (pairs : List ℤ) where
  -- the state between two turns: rows k and on are passed
  pub record Linking (nodes : ℕ) (head links : List ℕ) (k : ℕ) : Type 0 where
    pub within : k ≤ length pairs / pair_width
    pub size : length head ≡ nodes
    pub room : length links ≡ link_room
    pub heads : HeadsFrom pairs k head
    pub nexts : (j : ℕ) → k ≤ j → j < length pairs / pair_width → next_row links j ≡ first_row (same_spec (pair_at pairs j)) (suc j) (pair_rows pairs)

  -- the state at a row written otherwise
  pub linking_at : {nodes : ℕ} {head links : List ℕ} {i : ℕ} (k : ℕ) → i ≡ k → Linking nodes head links i → Linking nodes head links k
  linking_at {nodes} {head} {links} k e s = subst (λ (j : ℕ). Linking nodes head links j) e s

  -- before the first turn
  pub link_start : {head links : List ℕ} → Headed pairs (length pairs / pair_width) head links → Linking (length head) head links (length pairs / pair_width)
  link_start c = record { within = omega arith; size = refl; room = c.room; heads = c.heads; nexts = λ j h b. absurd (omega (arith, h, b)) }

  -- one turn: the link of row k is the head of its leaf, and the row becomes that head
  pub link_next : {nodes : ℕ} {head links : List ℕ} {k : ℕ} (v : ℕ) → v < length head → next_at + k < length links → pos v ≡ (pair_at pairs k).spec
      → Linking nodes head links (suc k) → Linking nodes (set head v k) (set links (next_at + k) (get_or head v 0)) k
  link_next {head = head} {links} {k} v b room q s =
      record {
        within = omega (arith, s.within);
        size = length-set head v k ∙ s.size;
        room = length-set links (next_at + k) (get_or head v 0) ∙ s.room;
        heads = heads_move pairs k v (omega (arith, s.within)) b q s.heads;
        nexts = λ j h i. go j h i (eqb j k) (eq? j k);
      }
    where
      -- the links, by whether it is that of the row
      go : (j : ℕ) → k ≤ j → j < length pairs / pair_width → (t : Bool) → Test (j ≡ k) (j ≢ k) t
          → next_row (set links (next_at + k) (get_or head v 0)) j ≡ first_row (same_spec (pair_at pairs j)) (suc j) (pair_rows pairs)
      go j h i true (passed e) =
          rw e (get_or-set_same links (next_at + k) (get_or head v 0) 0 room ∙ s.heads.each k v (omega (arith, s.within)) q)
      go j h i false (failed n) =
          get_or-set_other links (next_at + k) (next_at + j) (get_or head v 0) 0 (λ e. n (omega (arith, e))) ∙ s.nexts j (omega (arith, h, n)) i

  -- behind the last turn
  pub link_end : {nodes : ℕ} {head links : List ℕ} → Linking nodes head links 0 → RowsLinked pairs head links
  link_end s = record { heads = s.heads; nexts = λ j h. s.nexts j (omega arith) h }
