-- At the end of the text no space stands.
use mathlib.Core.Path.{refl}
use borrow.Author.Tests.{le-ltb}
use lib.ListN.{length, drop_of_length-le}
use lib.Seq.{drop-cons}
use Rattle.cursor.specs.Parts.{blank_first}
use Rattle.cursor.proofs.is_blank.Goals as goal

pub returns-then-at-text : goal.returns-then-at-text
unfolding blank_first
returns-then-at-text c = let s = c.args in rw (drop-cons s.text.now s.at 0 c.if-at-text.true) refl

pub returns-else-at-text : goal.returns-else-at-text
unfolding blank_first
returns-else-at-text c =
    let s = c.args in
    rw (le-ltb s.at (length s.text.now) c.if-at-text.false, drop_of_length-le s.text.now {i = s.at} c.if-at-text.false) refl
