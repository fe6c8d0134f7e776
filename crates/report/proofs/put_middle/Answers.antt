-- The text in the code is the text of the report, byte for byte.
use native.Mathlib.Omega.{arith}
use Rattle.model.specs.Bytes.{bytes}
use Rattle.report.proofs.put_middle.Goals as goal

pub put_text-requires : goal.put_text-requires
unfolding bytes
put_text-requires c = omega (arith, c.requires)

pub returns : goal.returns
unfolding bytes
returns c = c.put_text.ensures
