-- The pair is counted; where any of its lists has a record its line is measured and its number stored, whatever findings were kept before.
use mathlib.Core.Path.{◌≡◌, sym, ◌∙◌}
use native.Mathlib.Omega.{arith}
use borrow.Author.Rules.{rules}
use mir.Syntax.{w64}
use mir.Val.{SFits, to_z, of_z}
use mir.Facts.{to_z-of_z}
use Rattle.model.specs.Compare.{lower_of}
use Rattle.reporting.proofs.Lines.{number_short}
use Rattle.totals.proofs.Results.{asked-before}
use Rattle.totals.proofs.Keeping.{line-none, line-some, found-count, found_bare, found-verdict, kept-bytes, kept_small, found-result, kept-none, kept-some}
use Rattle.totals.proofs.with_pair.Goals.{After-with_found-result}
use Rattle.totals.proofs.with_pair.Goals as goal

pub with_found-result-requires : goal.with_found-result-requires
with_found-result-requires c =
    let pre = c.requires in
    (kept_small pre.room.kept (omega (arith, pre.room.few)), pre.place.root, pre.place.leaf)

-- the address that is kept is the lower of the two kinds'
address : (w : After-with_found-result) → let a = w.args in
    to_z w64 (of_z w64 w.lower_of-address.result) ≡ lower_of a.reading.address a.writing.address
address w =
    let a = w.args in
    let fits : SFits w64 w.lower_of-address.result = search rules in
    let reading : SFits w64 a.reading.address = search rules in
    let writing : SFits w64 a.writing.address = search rules in
    to_z-of_z fits ∙ (simp (to_z-of_z, reading, writing) at w.lower_of-address.ensures)

pub returns-then-record_count-eq0 : goal.returns-then-record_count-eq0
returns-then-record_count-eq0 c =
    let a = c.args in
    record {
      kept = λ fs f i j is at p.
          kept-none p f
          (c.with_found-result.ensures ∙ found-result f a.root_row a.leaf_row _ i j (c.higher-verdict.ensures ∙ found-verdict is at) (address (goal.at.returns-then-record_count-eq0 c).After-with_found-result) is at p)
          (line-none (found_bare is at (omega (arith, c.record_count.ensures, c.if-record_count-eq0.true))));
      asked = λ e. let q = asked-before _ _ _ _ _ c.with_found-result.ensures e in (q.0, sym c.higher-verdict.ensures ∙ q.1);
    }

pub overflow_add-result : goal.overflow_add-result
overflow_add-result c =
    let room = c.requires.room in
    omega (arith, room.kept.count, room.few)

pub overflow_add-result-2 : goal.overflow_add-result-2
overflow_add-result-2 c =
    let room = c.requires.room in
    omega (arith, c.line_length.ensures, number_short c.line_number-number.result, kept-bytes room.kept, room.few)

pub returns : goal.returns
returns c =
    let a = c.args in
    record {
      kept = λ fs f i j is at p.
          let worse = c.higher-verdict.ensures ∙ found-verdict is at in
          rw (c.hold_line.ensures, c.line_length.ensures)
          (kept-some p f (c.with_found-result.ensures ∙ found-result f a.root_row a.leaf_row _ i j worse (address (goal.at.returns c).After-with_found-result) is at p) c.line_number-number.result
          (c.line_number-number.ensures ∙ line-some f a.root_row a.leaf_row _ i j worse is at (λ e. c.if-record_count-eq0.false (omega (arith, found-count is at, c.record_count.ensures, e)))));
      asked = λ e. let q = asked-before _ _ _ _ _ c.with_found-result.ensures e in (q.0, sym c.higher-verdict.ensures ∙ q.1);
    }
