-- The edge is written as a part of the table. The rows are below 2^63, so that their casts keep them.
use mathlib.Core.List.{[], ◌∷◌}
use native.Mathlib.Omega.{arith}
use lib.IntN.{pos}
use mir.Syntax.{w64}
use mir.Facts.{to_z-of_z, to_z_pos}
use Rattle.sheettables.proofs.Stores.{put_mid-sets}
use Rattle.sheettables.proofs.put_edge.Goals as goal

pub returns : goal.returns
returns c =
    let a = c.args in
    put_mid-sets a.edges.now a.at (pos a.from ∷ pos a.to ∷ a.base ∷ [])
    (rw (to_z_pos w64 {n = a.from} c.requires.1, to_z_pos w64 {n = a.to} c.requires.2, to_z-of_z c.ranges.base) at c.copy_from_slice.ensures.after) (omega arith) (omega arith)
