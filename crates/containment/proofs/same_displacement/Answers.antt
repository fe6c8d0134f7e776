-- The test on the bits is that on the numbers.
use Rattle.integers.proofs.Range.{bits_test}
use borrow.Author.Rules.{rules}
use Rattle.containment.proofs.same_displacement.Goals as goal

pub returns : goal.returns
returns c = search (rules, bits_test)
