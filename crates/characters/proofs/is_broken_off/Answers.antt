-- The last byte decides.
use mathlib.Core.Path.{sym}
use native.Mathlib.Omega.{arith}
use Rattle.characters.proofs.Text.{broken-none, broken-last}
use Rattle.characters.proofs.is_broken_off.Goals as goal

pub returns-in-empty : goal.returns-in-empty
returns-in-empty c = let s = c.args in sym (broken-none s.text.now (omega arith))

pub returns-in-len1-up : goal.returns-in-len1-up
returns-in-len1-up c = let s = c.args in sym (broken-last s.text.now (omega arith))
