use mathlib.Core.Bool.{true}
use mathlib.Core.Path.{◌∙◌}
use Prim.Native.Nat.{◌<◌}
use native.Mathlib.Omega.{arith}
use lib.ListN.{length, length-set}
use Rattle.integers.proofs.Linear.{ints}
use Rattle.depth.specs.Passes.{Within}
use Rattle.tables.specs.Tables.{pair_at}
use Rattle.pairing.specs.Pairs.{node_in}
use Rattle.forward.proofs.Leaves.{row_within, rows_next, rows_end}
use Rattle.forward.proofs.mark_leaves.Goals.{After-pair_node, In-loop-k}
use Rattle.forward.proofs.mark_leaves.Goals as goal

-- the node of the row has a mark
turn_within : (k : In-loop-k)
    → Within (length k.args.marks.now) (node_in k.args.column (pair_at k.args.pairs.now k.loop-k.k))
turn_within k =
    row_within k.args.pairs.now k.args.column k.requires k.loop-k.k k.loop-k-test.true

-- so its index is one of the marks
turn-index : (k : After-pair_node) → k.pair_node.result < length k.loop-k.marks
turn-index k = omega (arith, ints, k.pair_node.ensures, (turn_within (goal.at.bounds-marks-pair_node k).In-loop-k).high, k.loop-k.invariant.0)

pub pair_node-requires : goal.pair_node-requires
pair_node-requires c = (c.requires.in_pair, omega (arith, c.loop-k-test.true), (turn_within (goal.at.pair_node-requires c).In-loop-k).low)

pub bounds-marks-pair_node : goal.bounds-marks-pair_node
bounds-marks-pair_node c = omega (arith, turn-index (goal.at.bounds-marks-pair_node c).After-pair_node)

pub loop-k-preserved : goal.loop-k-preserved
loop-k-preserved c =
    let v = c.pair_node.result in (
      length-set c.loop-k.marks v true ∙ c.loop-k.invariant.0,
      rows_next c.args.pairs.now c.args.column v c.pair_node.ensures (turn-index (goal.at.loop-k-preserved c).After-pair_node) c.loop-k.invariant.1,
    )

pub returns : goal.returns
returns c =
    rows_end c.args.pairs.now c.args.column (omega (arith, c.loop-k-test.false)) c.loop-k.invariant.1
