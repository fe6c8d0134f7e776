-- The lines from a place of the text on: the first of them, and the place where the next one starts.
use mathlib.Core.Path.{◌≡◌, refl, sym, ap, ◌∙◌}
use mathlib.Core.Bool.{true}
use mathlib.Core.List.{[], ◌∷◌}
use Prim.Native.Nat.{ℕ, suc, ◌+◌, ◌≤◌, ◌<◌}
use native.Mathlib.Numerals.{add-one}
use native.Mathlib.Omega.{arith}
use lib.ListN.{length, drop, get_or, length-drop, drop_of_length-le}
use lib.Seq.{drop-cons}
use Rattle.lists.specs.Lists.{is_nil}
use Rattle.model.specs.Bytes.{Bytes}
use Rattle.model.specs.MapFile.{lines}
use Rattle.cursor.specs.declared.Cursor.{Cursor}
use Rattle.cursor.specs.Parts.{first_line, later_lines}
use Rattle.cursor.specs.Given.{Stands}
use Rattle.cursor.proofs.Parts.{lines-first, line-empty, later_shorter}

module _ (text : Bytes) (k : ℕ) where
  -- at the end of the text no line is left
  pub lines_none : length text ≤ k → lines (drop k text) ≡ []
  unfolding lines
  lines_none h = rw (drop_of_length-le text {i = k} h) refl

  -- before it there is a first line, and then the later ones
  pub lines_more : k < length text → lines (drop k text) ≡ first_line (drop k text) ∷ lines (later_lines (drop k text))
  lines_more h = rw (drop-cons text k 0 h) (lines-first (get_or text k 0) (drop (suc k) text))

  -- the next line starts behind this one
  pub later_behind : {n : ℕ} {d : Cursor} → k < length text → Stands text (later_lines (drop k text)) n d → k < d.at
  later_behind {n} {d} h s =
      let shorter : length (later_lines (drop k text)) ≤ length (drop (suc k) text) = rw (drop-cons text k 0 h) (later_shorter (get_or text k 0) (drop (suc k) text)) in
      omega (arith, shorter, length-drop (suc k) text, ap length s.before, length-drop d.at text, s.within)

  -- behind an empty line
  pub later_empty : k < length text → is_nil (first_line (drop k text)) ≡ true → later_lines (drop k text) ≡ drop (k + 1) text
  unfolding later_lines
  later_empty h e = rw (drop-cons text k 0 h, sym (line-empty text k h) ∙ e, add-one k) refl
