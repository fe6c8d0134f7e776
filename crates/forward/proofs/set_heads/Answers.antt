-- The heads are filled.
use mathlib.Core.Path.{◌≡◌, ap, ◌∙◌}
use native.Mathlib.Omega.{arith}
use borrow.Author.Rules.{rules}
use Prim.Native.Nat.{◌+◌, ◌-◌}
use lib.ListN.{length, take, drop, replicate, length-take, length-drop}
use Rattle.forward.specs.Forward.{head_at}
use Rattle.forward.proofs.Links.{heads-filled}
use Rattle.forward.proofs.set_heads.Goals as goal

pub returns : goal.returns
returns c =
    let count = c.args.count in
    let plan = c.args.plan.now in
    let part : length (take (head_at + count - head_at) (drop head_at plan)) ≡ count =
    omega (arith, c.requires, length-take (head_at + count - head_at) (drop head_at plan), length-drop head_at plan) in
    heads-filled count c.args.value (head_at + count - head_at) plan c.fill.new.self c.requires (omega arith)
    (c.fill.ensures.after (λ y e. search rules) ∙ ap (λ n. replicate n c.args.value) part)
