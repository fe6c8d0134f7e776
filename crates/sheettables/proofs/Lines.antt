-- The lines of a good sheet: what their numbers keep, where these stand among the numbers of all lines, and how many of them are kept.
use mathlib.Core.Path.{◌≡◌, refl, sym, ap, subst, ◌∙◌}
use mathlib.Core.List.{List, [], ◌∷◌, flat_map}
use Prim.Native.Nat.{ℕ, zero, suc, ◌+◌, ◌*◌, ◌≤◌, ◌<◌}
use native.Mathlib.Omega.{arith}
use lib.IntN.{ℤ, pos}
use lib.Signed.{◌<ℤ◌}
use lib.ListN.{length, get_or, take, length-take}
use lib.Seq.{take_all}
use Rattle.integers.proofs.Linear.{ints}
use Rattle.integers.proofs.Tests.{lt?}
use Rattle.lists.specs.Lists.{◌∈◌}
use Rattle.lists.proofs.Places.{get_d_in}
use Rattle.lists.proofs.Decisions.{test_stable}
use Rattle.model.specs.Limits.{edge_width, max_edges}
use Rattle.model.specs.Sheet.{SheetLine, SheetNumber, no_initiator, no_block, low_size, GoodSheet}
use Rattle.sheettables.specs.Kept.{line_numbers, line_room, Kept}
use Rattle.sheettables.specs.Parts.{line_count, Numbered}
use Rattle.sheettables.proofs.Numbers.{number_stable}

-- ---- a line of a good sheet

module _ {ls : List SheetLine} (good : GoodSheet ls) {s : SheetLine} (m : s ∈ ls) where
  -- its initiator and its block are numbers of a sheet
  pub good-initiator : SheetNumber s.initiator
  good-initiator = number_stable s.initiator (λ n. good.good s m (no_initiator n))

  pub good-block : SheetNumber s.block
  good-block = number_stable s.block (λ n. good.good s m (no_block n))

  -- its size is above 0
  pub good-size : pos 0 <ℤ s.size
  good-size = test_stable (lt? (pos 0) s.size) (λ h. good.good s m (low_size (omega (arith, ints))))

-- ---- the numbers of all lines

-- what stands for a line that is not there
abbrev pub no_line : SheetLine
no_line = record { initiator = pos 0; block = pos 0; base = pos 0; size = pos 0 }

-- three numbers a line
pub lines_length : (ls : List SheetLine) → length (flat_map line_numbers ls) ≡ edge_width * length ls
unfolding flat_map line_numbers
lines_length [] = refl
lines_length (s ∷ ls) = omega (arith, lines_length ls)

-- initiator, block and base of a line stand at the places of line k
pub record LineAt (lines : List ℤ) (k : ℕ) (s : SheetLine) : Type 0 where
  pub initiator : get_or lines (edge_width * k) (pos 0) ≡ s.initiator
  pub block : get_or lines (edge_width * k + 1) (pos 0) ≡ s.block
  pub base : get_or lines (edge_width * k + 2) (pos 0) ≡ s.base

-- so do those of each line
pub line_at : (ls : List SheetLine) (k : ℕ) → k < length ls → LineAt (flat_map line_numbers ls) k (get_or ls k no_line)
unfolding flat_map line_numbers
line_at [] k h = absurd (omega arith)
line_at (s ∷ ls) zero h = record { initiator = refl; block = refl; base = refl }
line_at (s ∷ ls) (suc k) h = later (line_at ls k (omega arith))
  where
    later : LineAt (flat_map line_numbers ls) k (get_or ls k no_line) → LineAt (flat_map line_numbers (s ∷ ls)) (suc k) (get_or ls k no_line)
    later w =
        let first : edge_width * suc k ≡ suc (suc (suc (edge_width * k))) = omega arith in
        let second : edge_width * suc k + 1 ≡ suc (suc (suc (edge_width * k + 1))) = omega arith in
        let third : edge_width * suc k + 2 ≡ suc (suc (suc (edge_width * k + 2))) = omega arith in
        let all = flat_map line_numbers (s ∷ ls) in
        record {
          initiator = ap (λ n. get_or all n (pos 0)) first ∙ w.initiator;
          block = ap (λ n. get_or all n (pos 0)) second ∙ w.block;
          base = ap (λ n. get_or all n (pos 0)) third ∙ w.base;
        }

module _ {ls : List SheetLine} {lines : List ℤ} (good : GoodSheet ls) (e : lines ≡ flat_map line_numbers ls) where
  -- as many lines as there are
  pub lines-count : line_count lines ≡ length ls
  lines-count = let long : length lines ≡ edge_width * length ls = ap length e ∙ lines_length ls in omega arith

  -- the numbers of line k, which is one of the lines
  pub line_kept : (k : ℕ) → k < length ls → LineAt lines k (get_or ls k no_line) × (get_or ls k no_line ∈ ls)
  line_kept k h = (subst (λ l. LineAt l k (get_or ls k no_line)) (sym e) (line_at ls k h), get_d_in ls k no_line h)

  -- their initiators and blocks are numbers of a sheet
  pub lines-numbered : Numbered lines
  lines-numbered =
      record {
        initiator = λ k h. let w = line_kept k (within h) in subst SheetNumber (sym w.0.initiator) (good-initiator good w.1);
        block = λ k h. let w = line_kept k (within h) in subst SheetNumber (sym w.0.block) (good-block good w.1);
      }
    where
      within : {k : ℕ} → k < line_count lines → k < length ls
      within h = omega (arith, lines-count)

-- ---- the lines that are kept

module _ {ls : List SheetLine} {lines sizes : List ℤ} (k : Kept ls lines sizes) where
  -- how many numbers are kept
  kept_length : length lines ≡ length (take line_room (flat_map line_numbers ls))
  kept_length = ap length k.lines

  -- where they have more numbers than an edge table may, there are more lines than edges
  pub kept-many : edge_width * max_edges < length lines → max_edges < length ls
  kept-many h = omega (arith, kept_length, length-take line_room (flat_map line_numbers ls), lines_length ls)

  -- where not, there are no more lines than edges, and all are kept
  pub kept-few : length lines ≤ edge_width * max_edges → length ls ≤ max_edges
  kept-few h = omega (arith, kept_length, length-take line_room (flat_map line_numbers ls), lines_length ls)

  pub kept-all : length lines ≤ edge_width * max_edges → lines ≡ flat_map line_numbers ls
  kept-all h = k.lines ∙ take_all line_room (flat_map line_numbers ls) (omega (arith, lines_length ls, kept-few h))
