-- Each return is the case of its test. One more than a last bit fits because it lies below 2^62.
use mathlib.Core.Path.{refl}
use native.Mathlib.Omega.{arith}
use borrow.Author.Rules.{rules}
use lib.IntN.{pos, ◌+ℤ◌}
use mir.Syntax.{w64}
use mir.Val.{SFits}
use mir.Facts.{to_z-of_z}
use Rattle.integers.proofs.Linear.{ints, sum}
use Rattle.integers.proofs.Range.{fits64}
use Rattle.model.specs.Bitmapping.{Record}
use Rattle.verdicts.specs.Records.{SmallRootBits}
use Rattle.verdicts.specs.OnePass.{ends, lowest_from}
use Rattle.verdicts.proofs.lower_end.Goals as goal

-- one more than the last bit of a small record
past : {r : Record} → SmallRootBits r → SFits w64 (r.last +ℤ pos 1)
past {r} h = fits64 (omega (arith, ints, h.low, h.full, h.high, sum r.last (pos 1)))

pub overflow_add-r : goal.overflow_add-r
overflow_add-r c =
    let f : SFits w64 c.args.r.last = search rules in
    let g : SFits w64 c.args.s.last = search rules in
    let p = past c.requires.0 in
    let q = past c.requires.1 in
    simp to_z-of_z (search rules)

pub returns-then-r-s : goal.returns-then-r-s
unfolding ends lowest_from
returns-then-r-s c =
    let f : SFits w64 c.args.r.last = search rules in
    let g : SFits w64 c.args.s.last = search rules in
    let e = simp (to_z-of_z, f, g) at c.if-r-s.true in
    let p = past c.requires.0 in
    let q = past c.requires.1 in
    let h = simp to_z-of_z at c.lower.ensures in
    rw e h

pub overflow_add-s : goal.overflow_add-s
overflow_add-s c =
    let f : SFits w64 c.args.r.last = search rules in
    let g : SFits w64 c.args.s.last = search rules in
    let p = past c.requires.0 in
    let q = past c.requires.1 in
    simp to_z-of_z (search rules)

pub returns-then-s-r : goal.returns-then-s-r
unfolding ends lowest_from
returns-then-s-r c =
    let f : SFits w64 c.args.r.last = search rules in
    let g : SFits w64 c.args.s.last = search rules in
    let d = simp (to_z-of_z, f, g) at c.if-r-s.false in
    let e = simp (to_z-of_z, f, g) at c.if-s-r.true in
    let p = past c.requires.0 in
    let q = past c.requires.1 in
    let h = simp to_z-of_z at c.lower-then-s-r.ensures in
    rw (d, e) h

pub returns-else-s-r : goal.returns-else-s-r
unfolding ends lowest_from
returns-else-s-r c =
    let f : SFits w64 c.args.r.last = search rules in
    let g : SFits w64 c.args.s.last = search rules in
    let d = simp (to_z-of_z, f, g) at c.if-r-s.false in
    let e = simp (to_z-of_z, f, g) at c.if-s-r.false in
    rw (d, e) refl
