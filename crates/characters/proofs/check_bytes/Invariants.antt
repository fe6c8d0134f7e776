-- Invariant: the bytes from this one on, where `line` goes on, give what the whole text gives, and so do their line feeds.
use mathlib.Core.Path.{◌≡◌}
use mathlib.Core.List.{List}
use Prim.Native.Nat.{ℕ, suc, ◌+◌, ◌≤◌}
use lib.ListN.{drop}
use Rattle.model.specs.MapFile.{feeds}
use Rattle.model.specs.Reader.{check_bytes}
use Rattle.characters.proofs.check_bytes.Given as goal

-- what is left from a place on gives what the whole text gives
pub record Left (text : List ℕ) (line at : ℕ) : Type 0 where
  pub low : line ≤ at + 1
  pub same : check_bytes 1 text ≡ check_bytes line (drop at text)
  pub lines : line + feeds (drop at text) ≡ suc (feeds text)

abbrev pub invariant-loop-b : goal.invariant-loop-b
invariant-loop-b l = Left l.text l.line l.b-index
