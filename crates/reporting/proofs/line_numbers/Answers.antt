-- Each of the seven numbers fits an i64, whatever the number that they are taken out of.
use mathlib.Core.Path.{refl}
use Prim.Native.Nat.{◌/◌, ◌%◌}
use native.Mathlib.Omega.{arith}
use borrow.Author.Rules.{rules}
use mir.Syntax.{w64}
use mir.Val.{Fits}
use mir.Facts.{to_z_pos}
use Rattle.model.specs.Limits.{root_stride}
use Rattle.reporting.specs.Lines.{length_stride, verdict_stride, line_numbers}
use Rattle.reporting.proofs.line_numbers.Goals as goal

pub returns : goal.returns
unfolding line_numbers
returns c =
    let n = c.args.number in
    let fits : Fits w64 n = search rules in
    let read = n / length_stride / length_stride in
    let judged = read / length_stride / length_stride in
    rw (
      to_z_pos w64 {n = judged / verdict_stride / root_stride} (omega (arith, fits.fits)),
      to_z_pos w64 {n = judged / verdict_stride % root_stride} (omega arith),
      to_z_pos w64 {n = judged % verdict_stride} (omega arith),
      to_z_pos w64 {n = read / length_stride % length_stride} (omega arith),
      to_z_pos w64 {n = read % length_stride} (omega arith),
      to_z_pos w64 {n = n / length_stride % length_stride} (omega arith),
      to_z_pos w64 {n = n % length_stride} (omega arith),
    )
    refl
