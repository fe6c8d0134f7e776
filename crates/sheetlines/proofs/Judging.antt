-- 17 and 18 of a line of a sheet, as the code judges them.
use mathlib.Core.Path.{◌≡◌, refl, sym, ap, subst, ◌∙◌}
use mathlib.Core.Bool.{Bool, true, false, cond}
use mathlib.Core.List.{List, [], map}
use mathlib.Core.Option.{Option, none, some}
use Prim.Native.Nat.{ℕ, ◌<◌}
use native.Mathlib.Omega.{arith}
use lib.Dec.{T}
use lib.IntN.{ℤ, pos, nat_abs}
use lib.ListN.{get_or}
use lib.Seq.{get_or-take}
use lib.Signed.{◌≤ℤ◌}
use mir.Syntax.{w64}
use mir.Val.{SFits}
use Rattle.integers.proofs.Linear.{ints, sum}
use Rattle.integers.proofs.Range.{fits64}
use Rattle.integers.proofs.Tests.{passed, failed}
use Rattle.lists.specs.Lists.{any}
use Rattle.lists.proofs.Decisions.{Decides, test_stable}
use Rattle.lists.proofs.Places.{map_at}
use Rattle.model.specs.Limits.{sheet_numbers}
use Rattle.model.specs.Sheet.{SheetLine, BadLine, no_block, OtherSize}
use Rattle.model.specs.SheetFile.{line_of_row, good_line, clashes_with, check_sheet_line, check_sheet_row}
use Rattle.model.specs.Reader.{RowCheck, bad, good, judged}
use Rattle.columns.specs.declared.Columns.{Columns}
use Rattle.columns.specs.Given.{column_list, GoodColumns}
use Rattle.sides.specs.Given.{numbers_at}
use Rattle.sheettables.proofs.Numbers.{number-below}
use Rattle.sheetlines.specs.Given.{is_other, check_line_by}
use Rattle.filerules.proofs.Sheets.{number?, bad?, other?}
use Rattle.sheetlaws.proofs.Lines.{LineBounds, line_bounds}
use Rattle.filerules.proofs.Options.{none-some}

-- ---- a value line

-- the line at the columns of a row
pub line-columns : {cs : Columns} → GoodColumns cs → cs.count ≡ 4 → (row : List ℤ)
    → line_of_row (numbers_at (column_list cs) row)
    ≡ record { initiator = get_or row (get_or cs.at 0 0) (pos 0); block = get_or row (get_or cs.at 1 0) (pos 0); base = get_or row (get_or cs.at 2 0) (pos 0); size = get_or row (get_or cs.at 3 0) (pos 0) }
unfolding line_of_row
line-columns {cs} g e row = rw (at 0 (omega arith), at 1 (omega arith), at 2 (omega arith), at 3 (omega arith)) refl
  where
    at : (j : ℕ) → j < 4 → get_or (numbers_at (column_list cs) row) j (pos 0) ≡ get_or row (get_or cs.at j 0) (pos 0)
    at j h =
        map_at (λ c. get_or row c (pos 0)) (column_list cs) j (pos 0) 0 (omega (arith, g.whole, e))
        ∙ ap (λ (c : ℕ). get_or row c (pos 0)) (get_or-take cs.count cs.at j 0 (omega (arith, e)))

-- what a test decides does not hold where it fails
fails : {P : Type 0} {t : Bool} → Decides P t → t ≡ false → P → ⊥
fails (passed p) e q = let z : T true = tt in subst T e z
fails (failed n) e q = n q

-- the block of a good line has a place among the sizes
pub block_index : (s : SheetLine) → good_line s ≡ true → (pos 0 ≤ℤ s.block) × (nat_abs s.block < sheet_numbers)
block_index s e = let n = test_stable (number? s.block) (λ h. fails (bad? s) (rw e refl) (no_block h)) in (n.0, number-below n)

module _ (sizes : List ℤ) {s : SheetLine} (r : List ℤ) (is : s ≡ line_of_row r) where
  -- the check of the line gives 17
  pub check-range : good_line s ≡ false → check_line_by sizes [] r ≡ some 17
  unfolding check_line_by
  check-range e = rw (← is, e) refl

  module _ (e : good_line s ≡ true) where
    -- 18
    pub check-other : is_other (get_or sizes (nat_abs s.block) (pos 0)) s.size ≡ true → check_line_by sizes [] r ≡ some 18
    unfolding check_line_by
    check-other q = rw (← is, e, q) refl

    -- nothing
    pub check-taken : is_other (get_or sizes (nat_abs s.block) (pos 0)) s.size ≡ false → check_line_by sizes [] r ≡ none
    unfolding check_line_by
    check-taken q = rw (← is, e, q) refl

-- ---- a line that is taken

bad-good : {k : ℕ} {r : List ℤ} → bad k ≡ good r → ⊥
bad-good e = let z : ◌≡◌ {A = ℕ} 0 1 = cc in omega arith

-- its row is given, and meets no condition
pub judged_out : (check : RowCheck) (before : List (List ℤ)) (o : Option (List ℤ)) {r : List ℤ} → judged check before o ≡ good r → (o ≡ some r) × (check before r ≡ none)
unfolding judged
judged_out check before none e = absurd (bad-good e)
judged_out check before (some q) {r} e = go (check before q) refl e
  where
    go : (k : Option ℕ) → check before q ≡ k → elim k [ none ↦ good q | some number ↦ bad number ] ≡ good r → (some q ≡ some r) × (check before r ≡ none)
    go none i e = let same : q ≡ r = cc in (ap some same, subst (λ (z : List ℤ). check before z ≡ none) same i)
    go (some number) i e = absurd (bad-good e)

-- of such a line neither 17 nor 18 holds
pub good_checked : (done : List (List ℤ)) (r : List ℤ) → check_sheet_row done r ≡ none → (BadLine (line_of_row r) → ⊥) × (OtherSize (map line_of_row done) (line_of_row r) → ⊥)
unfolding check_sheet_row check_sheet_line
good_checked done r e = go (good_line s) (any (clashes_with s) (map line_of_row done)) refl refl e
  where
    s : SheetLine
    s = line_of_row r

    go : (g o : Bool) → good_line s ≡ g → any (clashes_with s) (map line_of_row done) ≡ o → cond {A = Option ℕ} g (cond o (some 18) none) (some 17) ≡ none
        → (BadLine s → ⊥) × (OtherSize (map line_of_row done) s → ⊥)
    go true true p q e = absurd (none-some (sym e))
    go true false p q e = (fails (bad? s) (rw p refl), fails (other? (map line_of_row done) s) q)
    go false o p q e = absurd (none-some (sym e))

-- it keeps its limits
pub taken_bounds : (sizes : List ℤ) (o : Option (List ℤ)) {r : List ℤ} → judged (check_line_by sizes) [] o ≡ good r → LineBounds (line_of_row r)
unfolding check_line_by
taken_bounds sizes o {r} e =
    line_bounds (fails (bad? s) (rw (go (good_line s) (is_other (get_or sizes (nat_abs s.block) (pos 0)) s.size) (judged_out (check_line_by sizes) [] o e).1) refl))
  where
    s : SheetLine
    s = line_of_row r

    go : (g b : Bool) → cond {A = Option ℕ} g (cond b (some 18) none) (some 17) ≡ none → g ≡ true
    go true b q = refl
    go false b q = absurd (none-some (sym q))

-- its block has a place among the sizes
pub block-below : {s : SheetLine} → LineBounds s → nat_abs s.block < sheet_numbers
block-below b = number-below b.block

-- block and size are numbers of 64 bits
pub block-fits : {s : SheetLine} → LineBounds s → SFits w64 s.block
block-fits {s} b = fits64 (omega (arith, ints, b.block.0, b.block.1), omega (arith, ints, b.block.0, b.block.1))

pub size_fits : {s : SheetLine} → LineBounds s → SFits w64 s.size
size_fits {s} b = fits64 (omega (arith, ints, b.base, b.size, b.end, sum s.base s.size), omega (arith, ints, b.size))
