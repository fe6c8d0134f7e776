-- Listing and walking can start from the counts of the paths to a named leaf.
use mathlib.Core.Path.{◌≡◌}
use mathlib.Core.List.{List}
use Prim.Native.Nat.{ℕ, ◌*◌, ◌≤◌}
use lib.IntN.{ℤ, pos}
use lib.ListN.{length}
use Rattle.model.specs.Limits.{record_width, max_paths}
use Rattle.model.specs.Graph.{graph_of}
use Rattle.model.specs.Calls.{full}
use Rattle.tables.proofs.Checks.{checked}
use Rattle.reach.specs.Counting.{counts_over}
use Rattle.listing.specs.Listing.{Ready}
use Rattle.asked.specs.Asking.{check_asked}
use Rattle.asked.proofs.Answers.{asked-tables, asked-root, asked-leaf, asked-few}

-- where what a call is asked for is taken, with the counts of the paths to the leaf, listing and walking can start
pub asked-ready : (ns es : List ℤ) (r l : ℤ) → full tt ≡ checked (check_asked ns es r l) → (root leaf : ℕ) → pos root ≡ r → pos leaf ≡ l
    → (old : List ℕ) {counts : List ℕ} {work : List ℤ} → counts ≡ counts_over (graph_of ns es) l old → record_width * max_paths ≤ length work
    → Ready ns es root leaf counts work
asked-ready ns es r l taken root leaf same last old counted room =
    record {
      tables = asked-tables ns es r l taken;
      row = rw same (asked-root ns es r l taken).row;
      block = rw last (asked-leaf ns es r l taken);
      old_counts = old;
      counted = rw last counted;
      few = rw (same, last) (asked-few ns es r l taken);
      room = room;
    }
