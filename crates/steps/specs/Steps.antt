-- What the step over an edge leaves of a run, bit by bit. Assumes nothing.
use Rattle.std.specs.Prelude.{Option}
use Rattle.std.specs.Prelude.{◌+ℤ◌}
use Rattle.model.specs.declared.WalkKind.{WalkKind}
use Rattle.model.specs.Rows.{Edge}
use Rattle.model.specs.Graph.{Graph, node, bit_offset}
use Rattle.model.specs.Walk.{StandsOn}
use Rattle.model.specs.Runs.{Run, InRun, Joins}
use Rattle.runs.specs.Clipping.{ExactlyOrNone}
use Rattle.runs.specs.declared.Run.{Run as Held}

-- over edge e: of the run's bits less the bit offset those that the node entered holds, each with its root bit, or nothing
abbrev pub Stepped : WalkKind → Graph → Edge → Run → Option Held → Type 0
Stepped kind g e before =
    ExactlyOrNone (λ b. InRun before (b +ℤ bit_offset g e) × StandsOn kind (node g e.to) b)
    (λ x b. Joins before x (b +ℤ bit_offset g e) × StandsOn kind (node g e.to) b)
