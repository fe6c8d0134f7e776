use Rattle.std.proofs.Common.{◌≡◌, ◌∙◌, ap, List, [], ◌++◌, length, take, drop, arith, add-one}
use mathlib.Core.List.{append-nil}
use lib.ListN.{drop_of_length-le}
use lib.Seq.{length-take-le}
use Rattle.records.specs.declared.Record.{Record}
use Rattle.records.proofs.Putting.{put_none, put_more}
use Rattle.records.proofs.put_records.Goals as goal

pub loop-i-init : goal.loop-i-init
loop-i-init c = put_none c.args.numbers.now (take c.args.n c.args.out.now)

pub loop-i-preserved : goal.loop-i-preserved
loop-i-preserved c =
    rw (add-one, c.loop-i.invariant, c.record_at.ensures) (put_more c.args.numbers.now (take c.args.n c.args.out.now) c.loop-i.i (omega arith))

pub returns : goal.returns
returns c =
    let front = take c.args.n c.args.out.now in
    let size : length front ≡ c.args.n = length-take-le c.args.n c.args.out.now c.requires.1 in
    let all : c.loop-i.i ≡ c.args.n = omega arith in
    let none : drop c.loop-i.i front ≡ [] = drop_of_length-le front {i = c.loop-i.i} (omega arith) in
    ap (λ (l : List Record). l ++ drop c.args.n c.args.out.now) (c.loop-i.invariant ∙ rw (none, all) (append-nil _))
