-- A run and one bit address keep the laws of walkers.
use Rattle.std.specs.Prelude as std
use mathlib.Core.Path.{◌≡◌, refl, sym}
use mathlib.Core.Bool.{true}
use Rattle.lists.specs.Lists.{◌∈◌}
use Rattle.model.specs.declared.Bits.{Bits}
use Rattle.model.specs.declared.WalkKind.{WalkKind}
use Rattle.model.specs.Rows.{Edge}
use Rattle.model.specs.Graph.{Graph}
use Rattle.model.specs.Runs.{across}
use Rattle.model.specs.Calls.{stands_on}
use Rattle.model.specs.Taken.{Taken}
use Rattle.model.proofs.Taken.{taken-fit}
use Rattle.runs.specs.declared.Run.{Run as Held}
use Rattle.runs.specs.Clipping.{run_of, living, living_of, SmallRun}
use Rattle.extents.specs.Extents.{SmallAddress}
use Rattle.extents.proofs.Bounds.{left_small}
use Rattle.listing.specs.Listing.{run_row, run_rows, runs_over, arrival_row, arrival_rows, arrivals_over, Crossed, WalkerLaws}
use Rattle.listing.proofs.Runs.{rows-leaf, rows_end, rows_onward, over_dead, over_left, over_nothing}
use Rattle.listing.proofs.Arrivals.{arrivals-leaf, arrivals_end, arrivals_onward, arrivals-over_dead}
use Rattle.listing.proofs.Small.{small-some}

-- a run may stand where it is small
pub run_laws : WalkerLaws {X = Held} (λ r. SmallRun (run_of r)) (λ kind n r. SmallRun (run_of r)) (λ n r. run_row n (run_of r))
    (λ kind k g v l r. run_rows kind k g v l (run_of r)) (λ kind k g l r e. runs_over kind k g l (run_of r) e)
run_laws =
    record {
      small = λ kind n r s. s;
      at_leaf = λ kind k g v l r s. rows-leaf kind g v l (run_of r) (small-some s) k;
      at_end = λ kind k g v l r s. rows_end kind g v l (run_of r) (small-some s) k;
      onward = λ kind k g v l r s. rows_onward kind g v l (run_of r) (small-some s) k;
      dead = λ kind k g l r e taken leaf z. over_dead kind (taken-fit taken leaf) k (run_of r) e z;
    }

-- what the step over an edge leaves of a run
pub run_crossed : (kind : WalkKind) {g : Graph} {e : Edge} → Taken g → e ∈ g.edges → (r : Held) → SmallRun (run_of r) → (o : std.Option Held)
    → living_of o ≡ living (across kind g e (run_of r))
    → Crossed {X = Held} (λ kind n r. SmallRun (run_of r)) (λ kind k g v l r. run_rows kind k g v l (run_of r)) (λ kind k g l r e. runs_over kind k g l (run_of r) e) kind g e r o
run_crossed kind {g} {e} taken m r s std.None q = λ k l. sym (over_nothing kind k g l (run_of r) e q)
run_crossed kind {g} {e} taken m r s (std.Some h) q = (left_small taken m kind s q, λ k l. over_left kind k g l (run_of r) e q refl)

-- an address may stand where the clip of one bit address takes it
pub address_laws : WalkerLaws {X = Bits} (λ a. SmallAddress a.0) (λ kind n a. (stands_on kind n a.0 ≡ true) × SmallAddress a.0) (λ n a. arrival_row n a.0)
    (λ kind k g v l a. arrival_rows kind k g v l a.0) (λ kind k g l a e. arrivals_over kind k g l a.0 e)
address_laws =
    record {
      small = λ kind n a s. s.1;
      at_leaf = λ kind k g v l a s. arrivals-leaf kind g v l a.0 k s.0;
      at_end = λ kind k g v l a s. arrivals_end kind g v l a.0 k s.0;
      onward = λ kind k g v l a s. arrivals_onward kind g v l a.0 k s.0;
      dead = λ kind k g l a e taken leaf z. arrivals-over_dead kind (taken-fit taken leaf) k a.0 e z;
    }
