use mathlib.Core.Path.{◌≡◌, refl}
use mathlib.Core.Bool.{Bool, true, false, not, ◌&&◌}
use Rattle.cursor.proofs.Parts.{line-empty}
use Rattle.sides.proofs.is_table_end.Goals as goal

-- The first line is empty where a line feed comes first.

and-not-last : (b : Bool) → b ≡ (b && not false)
and-not-last true = refl
and-not-last false = refl

pub returns-then-not-last : goal.returns-then-not-last
returns-then-not-last c = rw (c.if-not-last.true, line-empty c.args.text.now c.args.at c.requires) (and-not-last _)
