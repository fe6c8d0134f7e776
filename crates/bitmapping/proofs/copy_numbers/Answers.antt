use mathlib.Core.Path.{◌≡◌, refl, ap, ◌∙◌}
use mathlib.Core.List.{List, [], ◌++◌, append-nil}
use Prim.Native.Nat.{ℕ, ◌+◌, ◌*◌}
use native.Mathlib.Omega.{arith}
use borrow.Author.Rules.{rules}
use lib.IntN.{ℤ, pos}
use lib.ListN.{length, get_or, take, drop, drop_of_length-le}
use lib.Seq.{length-take-le}
use mir.Syntax.{w64}
use mir.Val.{SFits}
use mir.Facts.{to_z-of_z}
use Rattle.reach.specs.Counting.{values_of}
use Rattle.bitmapping.proofs.Copying.{values-more}
use Rattle.bitmapping.proofs.copy_numbers.Goals as goal

pub loop-k-init : goal.loop-k-init
unfolding values_of
loop-k-init c = refl

pub loop-k-preserved : goal.loop-k-preserved
loop-k-preserved c =
    let number : ℕ → ℤ = λ i. get_or c.args.from.now (c.args.first + c.args.step * i) (pos 0) in
    let f : SFits w64 (number c.loop-k.k) = search rules in
    rw (to_z-of_z f, c.loop-k.invariant) (values-more number c.loop-k.k (take c.args.n c.args.to.now) (omega arith))

pub returns : goal.returns
returns c =
    let front = take c.args.n c.args.to.now in
    let size : length front ≡ c.args.n = length-take-le c.args.n c.args.to.now c.requires.1 in
    let all : c.loop-k.k ≡ c.args.n = omega arith in
    let none : drop c.loop-k.k front ≡ [] = drop_of_length-le front {i = c.loop-k.k} (omega arith) in
    ap (λ (l : List ℤ). l ++ drop c.args.n c.args.to.now) (c.loop-k.invariant ∙ rw (none, all) (append-nil _))
