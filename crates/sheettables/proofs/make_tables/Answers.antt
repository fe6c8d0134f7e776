-- Where the lines are few, all of them are kept, and the initiators are marked.
use mathlib.Core.List.{List}
use native.Mathlib.Omega.{arith}
use lib.ListN.{length}
use Rattle.model.specs.Sheet.{SheetLine}
use Rattle.sheettables.specs.Kept.{Kept}
use Rattle.sheettables.specs.Made.{Tabled}
use Rattle.sheettables.proofs.Lines.{lines-numbered, kept-many, kept-few, kept-all}
use Rattle.sheettables.proofs.Ranges.{marked-spaced}
use Rattle.sheettables.proofs.Answers.{made-many, refusal_left}
use Rattle.sheettables.proofs.make_tables.Goals.{After-mark_initiators}
use Rattle.sheettables.proofs.make_tables.Goals as goal

pub returns-then-lines : goal.returns-then-lines
returns-then-lines c =
    let a = c.args in
    λ ls k. refusal_left a.nodes.now a.edges.now (made-many ls (length a.nodes.now) (length a.edges.now) (kept-many k c.if-lines.true))

pub mark_initiators-requires : goal.mark_initiators-requires
mark_initiators-requires c = let k = c.requires.1 in (lines-numbered k.good (kept-all k c.if-lines.false), omega arith)

-- what is kept, with the spaces that were marked
tabled : (m : After-mark_initiators) {ls : List SheetLine}
    → let a = m.args in
    Kept ls a.lines.now a.sizes.now → Tabled ls a.lines.now m.mark_initiators.new.spaces a.sizes.now
tabled m k =
    let few = m.if-lines.false in
    let all = kept-all k few in
    record { good = k.good; few = kept-few k few; lines = all; spaces = rw m.mark_initiators.ensures (marked-spaced k.good all); sizes = k.sizes }

pub put_tables-requires : goal.put_tables-requires
put_tables-requires c =
    let w = c.requires in
    (w.0, tabled (goal.at.put_tables-requires c).After-mark_initiators w.1)

pub returns : goal.returns
returns c = λ ls k. c.put_tables.ensures ls (tabled (goal.at.returns c).After-mark_initiators k)
