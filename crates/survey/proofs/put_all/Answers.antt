-- The work areas are new, and have their room.
use lib.IntN.{ℤ, pos}
use lib.ListN.{length-replicate}
use borrow.Author.Rules.{rules}
use native.Mathlib.Omega.{arith}
use Prim.Native.Nat.{◌*◌}
use Rattle.model.specs.Limits.{max_pairs}
use Rattle.arrivals.specs.State.{state_room}
use Rattle.holding.specs.Held.{held_width}
use Rattle.survey.proofs.put_all.Goals as goal

pub put_rows-requires : goal.put_rows-requires
put_rows-requires c =
    let state = length-replicate {A = ℤ} state_room (pos 0) in
    let held = length-replicate {A = ℤ} (held_width * max_pairs) (pos 0) in
    (c.requires.0, record { spec = state; impl = state; list = search rules }, omega (arith, held), omega (arith, held), λ e. c.is_plain-plain.ensures.0 e c.args.spec_edges.now c.args.impl_edges.now, c.requires.1, c.requires.2)
