use mathlib.Core.Path.{◌≡◌, sym, ◌∙◌}
use mathlib.Core.Bool.{Bool, true, false, cond}
use mathlib.Core.List.{List}
use Prim.Native.Nat.{ℕ, suc, ◌+◌, ◌<◌}
use native.Mathlib.Numerals.{add-one}
use native.Mathlib.Omega.{arith}
use borrow.Author.Tests.{eq-eqb, ne_eqb}
use lib.Dec.{eqb}
use lib.ListN.{length, drop, get_or}
use Rattle.model.specs.Bytes.{line_feed}
use Rattle.model.specs.MapFile.{feeds}
use Rattle.model.specs.Reader.{allowed, check_bytes}
use Rattle.characters.proofs.Text.{bytes-none, bytes-bad, bytes_goes, feeds_goes}
use Rattle.characters.proofs.check_bytes.Invariants.{Left}
use Rattle.characters.proofs.check_bytes.Goals.{then-b-eq10, else-b-eq10}
use Rattle.characters.proofs.check_bytes.Goals as goal

-- a byte that is allowed is passed
left_goes : {text : List ℕ} {line at : ℕ} → Left text line at → at < length text → allowed (get_or text at 0) ≡ true
    → (next : ℕ) → next ≡ cond (eqb (get_or text at 0) line_feed) (suc line) line → Left text next (at + 1)
left_goes {text} {line} {at} l h ok next e = go (eqb (get_or text at 0) line_feed) (l.same ∙ bytes_goes text at h line ok) (feeds_goes text at h) e
  where
    go : (b : Bool) → check_bytes 1 text ≡ check_bytes (cond b (suc line) line) (drop (at + 1) text)
        → feeds (drop at text) ≡ cond b (suc (feeds (drop (at + 1) text))) (feeds (drop (at + 1) text))
        → next ≡ cond b (suc line) line → Left text next (at + 1)
    go true p q r = record { low = omega (arith, l.low, r); same = rw r p; lines = omega (arith, l.lines, q, r) }
    go false p q r = record { low = omega (arith, l.low, r); same = rw r p; lines = omega (arith, l.lines, q, r) }

pub returns-then-not-is_allowed : goal.returns-then-not-is_allowed
returns-then-not-is_allowed c =
    c.loop-b.invariant.same ∙ bytes-bad c.args.text.now c.loop-b.b-index (omega arith) c.loop-b.line
    (sym c.is_allowed.ensures ∙ c.if-not-is_allowed.true)

pub loop-b-preserved : goal.loop-b-preserved
loop-b-preserved c =
    left_goes c.loop-b.invariant (omega arith) (sym c.is_allowed.ensures ∙ c.if-not-is_allowed.false) c.if-b-eq10.line
    (elim c.if-b-eq10.branch [
      | then-b-eq10 w ↦ rw (eq-eqb _ _ w.if-b-eq10.true) (w.line-is ∙ add-one c.loop-b.line)
      | else-b-eq10 w ↦ rw (ne_eqb _ _ w.if-b-eq10.false) w.line-is
    ])

pub returns : goal.returns
returns c = let w = bytes-none c.args.text.now c.loop-b.b-index c.loop-b.line c.loop-b-test.false in
    (c.loop-b.invariant.same ∙ w.0, omega (arith, c.loop-b.invariant.lines, w.1))
