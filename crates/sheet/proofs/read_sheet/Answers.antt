-- The text is checked, its lines are read, and the tables are made of them.
use mathlib.Core.Path.{refl}
use mathlib.Core.List.{map}
use native.Mathlib.Omega.{arith}
use Rattle.std.proofs.lemmas.Result.{err_from_is_err_and}
use Rattle.model.specs.SheetFile.{line_of_row, lines_read}
use Rattle.sheet.proofs.Promises.{sized_none, stored_within, read_checked, read-lines, promise_refused, promise_made}
use Rattle.sheet.proofs.read_sheet.Goals as goal

pub returns-in_err-check_text : goal.returns-in_err-check_text
returns-in_err-check_text c =
    let p = err_from_is_err_and c.from_residual.result c.from_residual.ensures.1 in
    let s = c.args in
    rw (p.1, p.2) (promise_refused s.text.now s.nodes.now s.edges.now refl (read_checked s.text.now c.in_err-check_text.ensures))

pub read_lines-requires : goal.read_lines-requires
read_lines-requires c = (omega arith, sized_none)

pub returns-in_err-n : goal.returns-in_err-n
unfolding lines_read
returns-in_err-n c =
    let p = err_from_is_err_and c.from_residual-in_err-n.result c.from_residual-in_err-n.ensures.1 in
    let s = c.args in
    rw (p.1, p.2) (promise_refused s.text.now s.nodes.now s.edges.now refl (read-lines s.text.now c.in_ok-check_text.ensures c.in_err-n.ensures))

pub slice_bounds-lines-end : goal.slice_bounds-lines-end
slice_bounds-lines-end c = stored_within c.in_ok-n.ensures.stands

pub make_tables-requires : goal.make_tables-requires
make_tables-requires c = let g = c.in_ok-n.ensures in (map line_of_row g.done, g.kept)

pub returns : goal.returns
unfolding lines_read
returns c =
    let g = c.in_ok-n.ensures in
    let s = c.args in
    promise_made s.text.now s.nodes.now s.edges.now (map line_of_row g.done) (read-lines s.text.now c.in_ok-check_text.ensures g.read)
    (c.make_tables.ensures (map line_of_row g.done) g.kept)
