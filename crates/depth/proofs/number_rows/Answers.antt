use mathlib.Core.Path.{◌≡◌, refl, sym, ap, ◌∙◌}
use mathlib.Core.List.{◌++◌}
use native.Mathlib.Omega.{arith}
use lib.ListN.{set, take, drop}
use lib.Seq.{sets, length-take-le}
use Rattle.depth.specs.Passes.{up_to}
use Rattle.depth.proofs.Stores.{sets_front, sets_over, up_to_length, up_to_more}
use Rattle.depth.proofs.number_rows.Goals as goal

pub loop-i-init : goal.loop-i-init
unfolding up_to
loop-i-init c = refl

pub loop-i-preserved : goal.loop-i-preserved
loop-i-preserved c =
    let n = c.args.count in
    ap (λ r. set r c.loop-i.i c.loop-i.i) c.loop-i.invariant ∙ up_to_more (take n c.args.rows.now) c.loop-i.i

pub returns : goal.returns
returns c =
    let n = c.args.count in
    let rows = c.args.rows.now in
    let size = length-take-le n rows c.requires in
    let long = up_to_length n in
    let all : c.loop-i.i ≡ n = omega (arith, size) in
    ap (λ r. r ++ drop n rows) (c.loop-i.invariant ∙ ap (λ k. sets (take n rows) 0 (up_to k)) all ∙ sets_over (take n rows) (up_to n) (omega (arith, size, long)))
    ∙ sym (sets_front rows (up_to n) (omega (arith, long)) ∙ ap (λ k. up_to n ++ drop k rows) long)
