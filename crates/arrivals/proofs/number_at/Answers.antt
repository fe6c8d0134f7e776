-- The number is not negative, so that the cast keeps it.
use borrow.Author.Rules.{rules}
use lib.IntN.{pos}
use lib.ListN.{get_or}
use mir.Syntax.{w64}
use mir.Val.{SFits}
use Rattle.tables.proofs.Cells.{index_fits, index_same}
use Rattle.arrivals.proofs.number_at.Goals as goal

pub overflow_cast-result : goal.overflow_cast-result
overflow_cast-result c =
    let fits : SFits w64 (get_or c.args.state.now c.args.at (pos 0)) = search rules in
    index_fits fits c.requires.1

pub returns : goal.returns
returns c =
    let fits : SFits w64 (get_or c.args.state.now c.args.at (pos 0)) = search rules in
    index_same fits c.requires.1
