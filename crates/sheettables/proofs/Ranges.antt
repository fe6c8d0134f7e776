-- Spaces and sizes: what marking leaves, and that both are above 0 exactly at the numbers that the lines have.
use mathlib.Core.Path.{◌≡◌, refl, sym, ap, subst, ◌∙◌}
use mathlib.Core.Bool.{Bool, true, false, cond}
use mathlib.Core.List.Memᴰ
use mathlib.Core.List.{List, [], ◌∷◌, ◌++◌, map, flat_map}
use mathlib.Core.Logic.{◌≢◌, ⊎_elim}
use Prim.Native.Nat.{ℕ, zero, suc, ◌*◌, ◌≤◌, ◌<◌}
use native.Mathlib.Omega.{arith}
use lib.IntN.{ℤ, pos, nat_abs}
use lib.Signed.{◌<ℤ◌}
use lib.ListN.{length, get_or, set, take, replicate, length-set, length-replicate, get_or-replicate}
use lib.Seq.{get_or-set_same, get_or-set_other, take-suc, take_all}
use Rattle.integers.specs.Integers.{eq_z}
use Rattle.integers.proofs.Linear.{ints}
use Rattle.integers.proofs.Tests.{Test, passed, failed, eq_z?}
use Rattle.lists.specs.Lists.{◌∈◌}
use Rattle.lists.proofs.Membership.{map_out}
use Rattle.model.specs.Limits.{edge_width, sheet_numbers, sheet_bytes}
use Rattle.model.specs.Sheet.{SheetLine, SheetNumber, GoodSheet, size_of}
use Rattle.sheettables.specs.Kept.{line_numbers, Sized}
use Rattle.sheettables.specs.Parts.{line_count, index_at, marked}
use Rattle.sheettables.specs.Made.{space_of, Spaced}
use Rattle.sheettables.proofs.Numbers.{number_index}
use Rattle.sheettables.proofs.Lines.{good-initiator, good-block, good-size, no_line, lines-count, line_kept}
use Rattle.sheettables.proofs.Members.{Ranged}

-- ---- spaces, marked line by line

-- marking keeps the length
marked_length : (lines old : List ℤ) (k : ℕ) → length (marked lines k old) ≡ length old
unfolding marked
marked_length lines old zero = refl
marked_length lines old (suc k) = length-set (marked lines k old) (index_at lines (edge_width * k)) (pos sheet_bytes) ∙ marked_length lines old k

-- the space where the last line has the number, and where it has not
module _ (s : SheetLine) where
  space-last : (ls : List SheetLine) → space_of (ls ++ (s ∷ [])) s.initiator ≡ pos sheet_bytes
  unfolding space_of
  space-last [] = go (eq_z s.initiator s.initiator) (eq_z? s.initiator s.initiator)
    where
      go : (b : Bool) → Test (s.initiator ≡ s.initiator) (s.initiator ≢ s.initiator) b → cond b (pos sheet_bytes) (pos 0) ≡ pos sheet_bytes
      go true t = refl
      go false (failed n) = absurd (n refl)
  space-last (u ∷ ls) = go (eq_z u.initiator s.initiator) (space-last ls)
    where
      go : (b : Bool) → space_of (ls ++ (s ∷ [])) s.initiator ≡ pos sheet_bytes → cond b (pos sheet_bytes) (space_of (ls ++ (s ∷ [])) s.initiator) ≡ pos sheet_bytes
      go true e = refl
      go false e = e

  space-other : (ls : List SheetLine) {n : ℤ} → s.initiator ≢ n → space_of (ls ++ (s ∷ [])) n ≡ space_of ls n
  unfolding space_of
  space-other [] {n} d = go (eq_z s.initiator n) (eq_z? s.initiator n)
    where
      go : (b : Bool) → Test (s.initiator ≡ n) (s.initiator ≢ n) b → cond b (pos sheet_bytes) (pos 0) ≡ pos 0
      go true (passed e) = absurd (d e)
      go false t = refl
  space-other (u ∷ ls) {n} d = ap (cond (eq_z u.initiator n) (pos sheet_bytes)) (space-other ls d)

module _ {ls : List SheetLine} {lines : List ℤ} (good : GoodSheet ls) (e : lines ≡ flat_map line_numbers ls) (v : ℕ) (h : v < sheet_numbers) where
  -- the first k lines are marked
  space-marked : (k : ℕ) → k ≤ length ls → get_or (marked lines k (replicate sheet_numbers (pos 0))) v (pos 0) ≡ space_of (take k ls) (pos v)
  unfolding marked space_of
  space-marked zero l = get_or-replicate sheet_numbers v (pos 0) (pos 0) h
  space-marked (suc k) l = go (eq_z s.initiator (pos v)) (eq_z? s.initiator (pos v)) (space-marked k (omega arith))
    where
      s : SheetLine
      s = get_or ls k no_line

      spaces : List ℤ
      spaces = marked lines k (replicate sheet_numbers (pos 0))

      place : ℕ
      place = index_at lines (edge_width * k)

      number : pos place ≡ s.initiator
      number = let w = line_kept good e k (omega arith) in ap (λ z. pos (nat_abs z)) w.0.initiator ∙ number_index (good-initiator good w.1)

      long : length spaces ≡ sheet_numbers
      long = marked_length lines (replicate sheet_numbers (pos 0)) k ∙ length-replicate sheet_numbers (pos 0)

      go : (b : Bool) → Test (s.initiator ≡ pos v) (s.initiator ≢ pos v) b → get_or spaces v (pos 0) ≡ space_of (take k ls) (pos v)
          → get_or (set spaces place (pos sheet_bytes)) v (pos 0) ≡ space_of (take (suc k) ls) (pos v)
      go true (passed q) rec =
          let same : place ≡ v = ap nat_abs (number ∙ q) in
          ap (λ n. get_or (set spaces n (pos sheet_bytes)) v (pos 0)) same
          ∙ get_or-set_same spaces v (pos sheet_bytes) (pos 0) (omega (arith, long))
          ∙ sym (space-last s (take k ls))
          ∙ ap (space_of (take k ls ++ (s ∷ []))) q
          ∙ ap (λ l. space_of l (pos v)) (sym (take-suc ls k no_line (omega arith)))
      go false (failed d) rec =
          get_or-set_other spaces place v (pos sheet_bytes) (pos 0) (λ q. d (sym number ∙ ap pos (sym q)))
          ∙ rec
          ∙ sym (space-other s (take k ls) d)
          ∙ ap (λ l. space_of l (pos v)) (sym (take-suc ls k no_line (omega arith)))

-- what marking all lines leaves
pub marked-spaced : {ls : List SheetLine} {lines : List ℤ} → GoodSheet ls → lines ≡ flat_map line_numbers ls
    → Spaced ls (marked lines (line_count lines) (replicate sheet_numbers (pos 0)))
marked-spaced {ls} {lines} good e =
    record {
      whole = marked_length lines (replicate sheet_numbers (pos 0)) (line_count lines) ∙ length-replicate sheet_numbers (pos 0);
      space =
          λ v h. ap (λ k. get_or (marked lines k (replicate sheet_numbers (pos 0))) v (pos 0)) (lines-count good e)
          ∙ space-marked good e v h (length ls) (omega arith)
          ∙ ap (λ l. space_of l (pos v)) (take_all (length ls) ls (omega arith));
    }

-- ---- the range of a number: that of the first line that has it

module _ (number range : SheetLine → ℤ) where
  abbrev range_of : List SheetLine → ℤ → ℤ
  range_of [] n = pos 0
  range_of (s ∷ ls) n = cond (eq_z (number s) n) (range s) (range_of ls n)

  -- a number with a range is one of the lines'
  range_member : (ls : List SheetLine) {n : ℤ} → pos 0 <ℤ range_of ls n → n ∈ map number ls
  range_member [] h = absurd (omega (arith, ints))
  range_member (s ∷ ls) {n} h = go (eq_z (number s) n) (eq_z? (number s) n) h (range_member ls)
    where
      go : (b : Bool) → Test (number s ≡ n) (number s ≢ n) b → pos 0 <ℤ cond b (range s) (range_of ls n) → (pos 0 <ℤ range_of ls n → n ∈ map number ls)
          → n ∈ (number s ∷ map number ls)
      go true (passed e) k rec = Memᴰ.head (sym e)
      go false t k rec = Memᴰ.tail (rec k)

  -- a number of the lines has the range of one of them
  member_range : (ls : List SheetLine) {n : ℤ} → n ∈ map number ls → (s : SheetLine) × (s ∈ ls) × (range_of ls n ≡ range s)
  member_range [] m = absurd (Memᴰ.not-nil m)
  member_range (s ∷ ls) {n} m = go (eq_z (number s) n) (eq_z? (number s) n) (member_range ls)
    where
      go : (b : Bool) → Test (number s ≡ n) (number s ≢ n) b → (n ∈ map number ls → (u : SheetLine) × (u ∈ ls) × (range_of ls n ≡ range u))
          → (u : SheetLine) × (u ∈ (s ∷ ls)) × (cond b (range s) (range_of ls n) ≡ range u)
      go true t rec = (s, Memᴰ.head refl, refl)
      go false (failed d) rec =
          let w = rec (⊎_elim (λ q. absurd (d (sym q))) (λ k. k) (Memᴰ.cases_cons m)) in (w.0, Memᴰ.tail w.1, w.2)

  -- so the ranges are above 0 exactly at the numbers of the lines, where each line has a range
  ranges_ranged : (ls : List SheetLine) (ranges : List ℤ) → ((s : SheetLine) → s ∈ ls → SheetNumber (number s)) → ((s : SheetLine) → s ∈ ls → pos 0 <ℤ range s)
      → ((v : ℕ) → v < sheet_numbers → get_or ranges v (pos 0) ≡ range_of ls (pos v)) → Ranged (map number ls) ranges
  ranges_ranged ls ranges numbers above each =
      record {
        within = λ y m. let w = map_out number ls m in subst SheetNumber (sym w.2) (numbers w.0 w.1);
        on =
            λ v h m. let w = member_range ls m in
            subst (λ z. pos 0 <ℤ z) (sym (each v h ∙ w.2)) (above w.0 w.1);
        only = λ v h k. range_member ls (subst (λ z. pos 0 <ℤ z) (each v h) k);
      }

-- ---- those of initiators and of blocks

-- spaces are such ranges, and sizes
space-range : (ls : List SheetLine) (n : ℤ) → space_of ls n ≡ range_of (λ s. s.initiator) (λ s. pos sheet_bytes) ls n
unfolding space_of
space-range [] n = refl
space-range (s ∷ ls) n = ap (cond (eq_z s.initiator n) (pos sheet_bytes)) (space-range ls n)

size-range : (ls : List SheetLine) (n : ℤ) → size_of ls n ≡ range_of (λ s. s.block) (λ s. s.size) ls n
unfolding size_of
size-range [] n = refl
size-range (s ∷ ls) n = ap (cond (eq_z s.block n) s.size) (size-range ls n)

-- the initiators of the lines are those with a space, and each space is 2^48 bytes
pub space_on : (ls : List SheetLine) {n : ℤ} → n ∈ map (λ s. s.initiator) ls → space_of ls n ≡ pos sheet_bytes
space_on ls {n} m = space-range ls n ∙ (member_range (λ s. s.initiator) (λ s. pos sheet_bytes) ls m).2

pub spaces_ranged : {ls : List SheetLine} {spaces : List ℤ} → GoodSheet ls → Spaced ls spaces → Ranged (map (λ s. s.initiator) ls) spaces
spaces_ranged {ls} {spaces} good w =
    ranges_ranged (λ s. s.initiator) (λ s. pos sheet_bytes) ls spaces (λ s m. good-initiator good m) (λ s m. omega (arith, ints))
    (λ v h. w.space v h ∙ space-range ls (pos v))

-- the blocks of the lines are those with a size
pub sizes_ranged : {ls : List SheetLine} {sizes : List ℤ} → GoodSheet ls → Sized ls sizes → Ranged (map (λ s. s.block) ls) sizes
sizes_ranged {ls} {sizes} good w =
    ranges_ranged (λ s. s.block) (λ s. s.size) ls sizes (λ s m. good-block good m) (λ s m. good-size good m) (λ v h. w.size v h ∙ size-range ls (pos v))
