-- What is kept of lines: three numbers each, behind those of the lines before, and the size of each block by its number.
use mathlib.Core.Path.{◌≡◌, refl, sym, ap, subst, ◌∙◌}
use mathlib.Core.Bool.{Bool, true, false, cond}
use mathlib.Core.Logic.{◌≢◌, ◌⊎◌, inl, inr, ⊎_elim, ◌↔◌}
use mathlib.Core.List.Memᴰ
use mathlib.Core.List.{List, [], ◌∷◌, ◌++◌, map}
use mathlib.Core.Option.{Option, none, some}
use Prim.Native.Nat.{ℕ, ◌+◌, ◌≤◌, ◌<◌}
use native.Mathlib.Omega.{arith}
use borrow.Rule.Slice.PartMut.{put_mid}
use lib.Dec.{eqb}
use lib.IntN.{ℤ, pos, nat_abs}
use lib.Signed.{◌≤ℤ◌, yes_non_neg, pos-nat_abs}
use lib.ListN.{set, get_or, length-set}
use lib.Seq.{get_or-set_same, get_or-set_other}
use Rattle.std.proofs.lemmas.Slice.{put_mid-paste}
use Rattle.integers.specs.Integers.{eq_z}
use Rattle.integers.proofs.Linear.{ints}
use Rattle.integers.proofs.Tests.{Test, passed, failed, eq_z?, eq_z→eq, eq?, is_false}
use Rattle.lists.specs.Lists.{◌∈◌, any}
use Rattle.lists.proofs.Decisions.{decides_and, decides_not, decides_as, test_stable}
use Rattle.model.specs.Limits.{sheet_numbers}
use Rattle.model.specs.Sheet.{SheetLine, BadLine, OtherSize, GoodSheet, size_of}
use Rattle.model.specs.SheetFile.{line_of_row, good_line, clashes_with, check_sheet_line, check_sheet_row}
use Rattle.filerules.proofs.Sheets.{other?}
use Rattle.tables.proofs.Limits.{decides_same}
use Rattle.sheetlaws.proofs.Lines.{good-line, good-size}
use Rattle.sides.specs.Given.{Appended}
use Rattle.sides.proofs.RowLines.{append_all}
use Rattle.sheettables.specs.Kept.{line_room, line_numbers, Sized}
use Rattle.sheetlines.specs.Given.{is_other, check_line_by}
use Rattle.sheetlines.proofs.Judging.{block_index}

-- the three numbers of a line are appended, where the room lasts for them
pub line-appended : (kept : List ℤ) (n : ℕ) (s : SheetLine) {row : List ℤ} {width : ℕ} → n + 3 ≤ line_room → row ≡ s.initiator ∷ s.block ∷ s.base ∷ [] → width ≡ 3
    → Appended line_room (line_numbers s) kept (put_mid n width kept row) n (n + 3)
unfolding line_numbers
line-appended kept n s {row} {width} h e w = rw (put_mid-paste n width kept row (line_numbers s) 3 e (sym w) refl) (append_all line_room n (line_numbers s) kept h)

-- ---- one line more

-- a good sheet with one line more that neither 17 nor 18 is given for
pub good_more : {ls : List SheetLine} {s : SheetLine} → GoodSheet ls → (BadLine s → ⊥) → (OtherSize ls s → ⊥) → GoodSheet (ls ++ (s ∷ []))
good_more {ls} {s} g fine same =
    record {
      good = λ l m. ⊎_elim (g.good l) (λ k b. fine (subst BadLine (Memᴰ.eq_of_singleton k) b)) (Memᴰ.append_cases ls m);
      sizes = λ e l m n. both (Memᴰ.append_cases ls m) (Memᴰ.append_cases ls n);
    }
  where
    own : (e : SheetLine) → e ∈ ls → e.block ≡ s.block → e.size ≡ s.size
    own e m q = test_stable (eq_z? e.size s.size) (λ n. same (e, m, q, n))

    both : {e l : SheetLine} → (e ∈ ls) ⊎ (e ∈ (s ∷ [])) → (l ∈ ls) ⊎ (l ∈ (s ∷ [])) → e.block ≡ l.block → e.size ≡ l.size
    both {e} {l} (inl m) (inl n) q = g.sizes e l m n q
    both {e} {l} (inl m) (inr n) q = let i = Memᴰ.eq_of_singleton n in own e m (q ∙ ap (λ (z : SheetLine). z.block) i) ∙ ap (λ (z : SheetLine). z.size) (sym i)
    both {e} {l} (inr m) (inl n) q = let i = Memᴰ.eq_of_singleton m in ap (λ (z : SheetLine). z.size) i ∙ sym (own l n (sym q ∙ ap (λ (z : SheetLine). z.block) i))
    both {e} {l} (inr m) (inr n) q = ap (λ (z : SheetLine). z.size) (Memᴰ.eq_of_singleton m ∙ sym (Memᴰ.eq_of_singleton n))

-- a line of another block does not move a size
size-behind : (ls : List SheetLine) (s : SheetLine) (m : ℤ) → s.block ≢ m → size_of (ls ++ (s ∷ [])) m ≡ size_of ls m
unfolding size_of
size-behind [] s m n = rw (is_false (eq_z s.block m) (λ t. n (eq_z→eq s.block m t))) refl
size-behind (l ∷ ls) s m n = ap (λ (z : ℤ). cond (eq_z l.block m) l.size z) (size-behind ls s m n)

-- a size that is there is that of a line
size-line : (ls : List SheetLine) (m : ℤ) → size_of ls m ≢ pos 0 → (e : SheetLine) × (e ∈ ls) × (e.block ≡ m) × (size_of ls m ≡ e.size)
unfolding size_of
size-line [] m n = absurd (n refl)
size-line (l ∷ ls) m n = go (eq_z l.block m) (eq_z? l.block m) n (size-line ls m)
  where
    go : (b : Bool) → Test (l.block ≡ m) (l.block ≢ m) b → cond b l.size (size_of ls m) ≢ pos 0
        → (size_of ls m ≢ pos 0 → (e : SheetLine) × (e ∈ ls) × (e.block ≡ m) × (size_of ls m ≡ e.size))
        → (e : SheetLine) × (e ∈ (l ∷ ls)) × (e.block ≡ m) × (cond b l.size (size_of ls m) ≡ e.size)
    go true (passed q) n rec = (l, Memᴰ.head refl, q, refl)
    go false (failed q) n rec = let w = rec n in (w.0, Memᴰ.tail w.1, w.2, w.3)

-- the sizes with that of one line more
pub sized_more : {ls : List SheetLine} (s : SheetLine) {sizes : List ℤ} → Sized ls sizes → GoodSheet (ls ++ (s ∷ []))
    → Sized (ls ++ (s ∷ [])) (set sizes (nat_abs s.block) s.size)
sized_more {ls} s {sizes} z g =
    record {
      whole = length-set sizes (nat_abs s.block) s.size ∙ z.whole;
      size = λ m h. go m h (eqb m (nat_abs s.block)) (eq? m (nat_abs s.block));
    }
  where
    here : s ∈ (ls ++ (s ∷ []))
    here = Memᴰ.append_right ls (Memᴰ.head refl)

    own : pos (nat_abs s.block) ≡ s.block
    own = pos-nat_abs s.block (yes_non_neg (good-line g here).block.0)

    go : (m : ℕ) → m < sheet_numbers → (b : Bool) → Test (m ≡ nat_abs s.block) (m ≢ nat_abs s.block) b
        → get_or (set sizes (nat_abs s.block) s.size) m (pos 0) ≡ size_of (ls ++ (s ∷ [])) (pos m)
    go m h true (passed e) =
        ap (λ (k : ℕ). get_or (set sizes (nat_abs s.block) s.size) k (pos 0)) e
        ∙ get_or-set_same sizes (nat_abs s.block) s.size (pos 0) (omega (arith, z.whole, e))
        ∙ sym (good-size g here)
        ∙ ap (size_of (ls ++ (s ∷ []))) (sym (ap pos e ∙ own))
    go m h false (failed n) =
        get_or-set_other sizes (nat_abs s.block) m s.size (pos 0) n
        ∙ z.size m h
        ∙ sym (size-behind ls s (pos m) (λ q. n (ap nat_abs (sym q))))

-- ---- 18 by the sizes that are known

module _ {ls earlier : List SheetLine} {sizes : List ℤ} (g : GoodSheet ls) (z : Sized ls sizes) (members : (e : SheetLine) → (e ∈ earlier) ↔ (e ∈ ls)) where
  other-same : (s : SheetLine) → good_line s ≡ true
      → ((get_or sizes (nat_abs s.block) (pos 0) ≢ pos 0) × (get_or sizes (nat_abs s.block) (pos 0) ≢ s.size)) ↔ OtherSize earlier s
  other-same s e =
      rw known (
        λ h. let w = size-line ls s.block h.0 in (w.0, (members w.0).1 w.1, w.2, λ q. h.1 (w.3 ∙ q)),
        λ w. let m = (members w.0).0 w.1 in let q = ap (size_of ls) (sym w.2) ∙ good-size g m in
            (λ i. low (good-line g m).size (sym q ∙ i), λ i. w.3 (sym q ∙ i)),
      )
    where
      known : get_or sizes (nat_abs s.block) (pos 0) ≡ size_of ls s.block
      known = z.size (nat_abs s.block) (block_index s e).1 ∙ ap (size_of ls) (pos-nat_abs s.block (yes_non_neg (block_index s e).0))

      low : {n : ℤ} → pos 1 ≤ℤ n → n ≡ pos 0 → ⊥
      low h i = omega (arith, ints, h, i)

  -- 17 and 18 by the sizes are 17 and 18 by the lines
  pub check-same : (done : List (List ℤ)) → map line_of_row done ≡ earlier → (r : List ℤ) → check_line_by sizes [] r ≡ check_sheet_row done r
  unfolding check_line_by check_sheet_row check_sheet_line
  check-same done e r = rw e (go (good_line (line_of_row r)) refl)
    where
      s : SheetLine
      s = line_of_row r

      flags : good_line s ≡ true → is_other (get_or sizes (nat_abs s.block) (pos 0)) s.size ≡ any (clashes_with s) earlier
      flags q =
          decides_same
          (decides_as (other-same s q)
          (decides_and (decides_not (eq_z? (get_or sizes (nat_abs s.block) (pos 0)) (pos 0))) (decides_not (eq_z? (get_or sizes (nat_abs s.block) (pos 0)) s.size))))
          (other? earlier s)

      go : (b : Bool) → good_line s ≡ b
          → cond {A = Option ℕ} b (cond (is_other (get_or sizes (nat_abs s.block) (pos 0)) s.size) (some 18) none) (some 17)
          ≡ cond b (cond (any (clashes_with s) earlier) (some 18) none) (some 17)
      go true q = ap (λ (b : Bool). cond {A = Option ℕ} b (some 18) none) (flags q)
      go false q = refl
