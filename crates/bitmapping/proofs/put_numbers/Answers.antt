-- Where the numbers fit all are copied, else none.
use Prim.Native.Nat.{ℕ, ◌+◌, ◌*◌}
use lib.IntN.{ℤ, pos}
use lib.ListN.{get_or}
use Rattle.bitmapping.proofs.Copying.{copied_none, copied_all}
use Rattle.bitmapping.proofs.put_numbers.Goals.{Start}
use Rattle.bitmapping.proofs.put_numbers.Goals as goal

-- the numbers that are copied
abbrev number : Start → ℕ → ℤ
number s i = get_or s.args.from.now (s.args.first + s.args.step * i) (pos 0)

pub returns-then-out-n : goal.returns-then-out-n
returns-then-out-n c = copied_none (number (goal.at.returns-then-out-n c).Start) c.args.n c.args.out.now c.args.count c.if-out-n.true

pub returns : goal.returns
returns c = copied_all (number (goal.at.returns c).Start) c.args.n c.args.out.now c.args.count c.if-out-n.false c.copy_numbers.ensures
