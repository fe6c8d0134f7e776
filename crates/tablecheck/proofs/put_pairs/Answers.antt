-- The lines that are held are those of all pairs; else they are written by the survey.
use mathlib.Core.Path.{sym, subst}
use Prim.Native.Nat.{◌≤◌}
use lib.ListN.{length}
use Rattle.model.specs.Bytes.{Bytes}
use Rattle.tablecheck.proofs.put_pairs.Goals as goal

pub returns-then-count-lines : goal.returns-then-count-lines
returns-then-count-lines c =
    rw (sym (c.requires.0.held c.if-count-lines.true)) c.put_lines.ensures

pub put_lines-requires : goal.put_lines-requires
put_lines-requires c =
    (c.if-count-lines.true, subst (λ (b : Bytes). length b ≤ length c.args.out.now) (sym (c.requires.0.held c.if-count-lines.true)) c.requires.1)
