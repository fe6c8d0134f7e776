-- Marks: what is read where one was stored, and elsewhere.
use mathlib.Core.Path.{◌≡◌, refl, ap, sym, ◌∙◌}
use mathlib.Core.Bool.{Bool, true, false}
use mathlib.Core.Logic.{◌≢◌}
use mathlib.Core.List.{List}
use Prim.Native.Nat.{ℕ, ◌+◌, ◌*◌, ◌≤◌, ◌<◌}
use native.Mathlib.Nat.{add-zero}
use native.Mathlib.Omega.{arith}
use borrow.Author.Tests.{eqb-false}
use lib.Dec.{T, eqb, ltb, ltb→lt}
use lib.IntN.{ℤ, pos, negsuc, nat_abs}
use lib.Signed.{le_z, ◌≤ℤ◌}
use lib.ListN.{length, get_or, set, length-set}
use lib.Seq.{get_or-set_same, get_or-set_other}
use Rattle.integers.proofs.Range.{le_z_true}
use Rattle.integers.proofs.Tests.{Test, passed, failed, eq?}
use Rattle.model.specs.declared.WalkKind.{WalkKind}
use Rattle.model.specs.declared.WalkKind.TheVariants.{Reading, Writing}
use Rattle.model.specs.Limits.{max_nodes}
use Rattle.references.specs.References.{Reference}
use Rattle.arrivals.specs.State.{mark_width, Mark, mark_number, mark_at, set_mark, marked, is_met, reference_at, is_listed, list_row, free_at, free_row, root_in, kind_at, kind_of, kind_number, kind_in}
use Rattle.arrivals.specs.Moves.{Blank}

-- the owner is the first number of a mark
pub owner-number : (s : List ℤ) (v : ℕ) → get_or s (mark_width * v) (pos 0) ≡ mark_number s v 0
owner-number s v = rw add-zero

-- six numbers stored one after another are a mark
pub mark_stored :
    (s : List ℤ) (v : ℕ) (m : Mark) {owner root low high row count : ℤ}
    → owner ≡ m.owner → root ≡ m.root → low ≡ m.low → high ≡ m.high → row ≡ m.row → count ≡ m.count
    → set (set (set (set (set (set s (mark_width * v) owner) (mark_width * v + 1) root) (mark_width * v + 2) low) (mark_width * v + 3) high) (mark_width * v + 4) row) (mark_width * v + 5) count
    ≡ set_mark s v m
mark_stored s v m o d l h p c = cc (add-zero (mark_width * v))

-- it is not negative where something has arrived
pub owner-low : (s : List ℤ) (v : ℕ) → is_met s v ≡ true → pos 0 ≤ℤ get_or s (mark_width * v) (pos 0)
owner-low s v e = rw (owner-number s v) (le_z_true (pos 0) (mark_number s v 0) e)

-- storing a mark leaves the length
pub mark_length : (s : List ℤ) (v : ℕ) (m : Mark) → length (set_mark s v m) ≡ length s
mark_length s v m = simp length-set

-- and every number that is none of the mark's
pub mark_elsewhere : (s : List ℤ) (v j : ℕ) (m : Mark) → ((k : ℕ) → k < mark_width → j ≢ mark_width * v + k) → get_or (set_mark s v m) j (pos 0) ≡ get_or s j (pos 0)
mark_elsewhere s v j m n =
    let owner : j ≢ mark_width * v + 0 = n 0 (omega arith) in
    let root : j ≢ mark_width * v + 1 = n 1 (omega arith) in
    let low : j ≢ mark_width * v + 2 = n 2 (omega arith) in
    let high : j ≢ mark_width * v + 3 = n 3 (omega arith) in
    let row : j ≢ mark_width * v + 4 = n 4 (omega arith) in
    let count : j ≢ mark_width * v + 5 = n 5 (omega arith) in
    rw (get_or-set_other, get_or-set_other, get_or-set_other, get_or-set_other, get_or-set_other, get_or-set_other)

-- such as those behind the marks
pub mark_behind : (s : List ℤ) (v j : ℕ) (m : Mark) → v < max_nodes → free_at ≤ j → get_or (set_mark s v m) j (pos 0) ≡ get_or s j (pos 0)
mark_behind s v j m h k = mark_elsewhere s v j m (λ n l e. omega arith)

pub mark_free : (s : List ℤ) (v : ℕ) (m : Mark) → v < max_nodes → free_row (set_mark s v m) ≡ free_row s
mark_free s v m h = ap nat_abs (mark_behind s v free_at m h (omega arith))

pub mark_root : (s : List ℤ) (v : ℕ) (m : Mark) → v < max_nodes → root_in (set_mark s v m) ≡ root_in s
mark_root s v m h = mark_behind s v (free_at + 1) m h (omega arith)

pub mark_kind : (s : List ℤ) (v : ℕ) (m : Mark) → v < max_nodes → kind_in (set_mark s v m) ≡ kind_in s
mark_kind s v m h = ap kind_of (mark_behind s v kind_at m h (omega arith))

-- the number that a state has for a kind stands for it
pub kind-number : (kind : WalkKind) → kind_of (kind_number kind) ≡ kind
unfolding kind_of kind_number
kind-number Reading = refl
kind-number Writing = refl

-- ---- the mark of another node

module _ (s : List ℤ) (v w : ℕ) (m : Mark) (other : w ≢ v) where
  -- its numbers stay
  pub number-other : (k : ℕ) → k < mark_width → mark_number (set_mark s v m) w k ≡ mark_number s w k
  number-other k h = mark_elsewhere s v (mark_width * w + k) m (λ n l e. other (omega arith))

  -- so do the whole mark and what is read of it
  pub mark_other : mark_at (set_mark s v m) w ≡ mark_at s w
  mark_other =
      let owner = number-other 0 (omega arith) in
      let root = number-other 1 (omega arith) in
      let low = number-other 2 (omega arith) in
      let high = number-other 3 (omega arith) in
      let row = number-other 4 (omega arith) in
      let count = number-other 5 (omega arith) in
      cc

  pub met-other : is_met (set_mark s v m) w ≡ is_met s w
  met-other = ap (λ (x : Mark). le_z (pos 0) x.owner) mark_other

  pub reference-other : reference_at (set_mark s v m) w ≡ reference_at s w
  reference-other = ap (λ (x : Mark). record { owner = x.owner; run = record { root = x.root; low = x.low; high = x.high } }) mark_other

  pub listed-other : is_listed (set_mark s v m) w ≡ is_listed s w
  listed-other = ap (λ (x : Mark). le_z (pos 0) x.row) mark_other

  pub list_row-other : list_row (set_mark s v m) w ≡ list_row s w
  list_row-other = ap (λ (x : Mark). nat_abs x.row) mark_other

-- ---- the mark that was stored

-- two numbers of one mark stand apart
numbers_apart : (n k l : ℕ) → eqb k l ≡ false → n + k ≢ n + l
numbers_apart n k l t e = eqb-false k l t (omega arith)

-- a number of a mark stands in a state that has room for the mark
number-inside : (n k l : ℕ) → n + mark_width ≤ l → T (ltb k mark_width) → n + k < l
number-inside n k l h t = omega (arith, ltb→lt k mark_width t)

module _ (s : List ℤ) (v : ℕ) (m : Mark) (room : mark_width * v + mark_width ≤ length s) where
  -- it is read again, whole
  pub mark_same : mark_at (set_mark s v m) v ≡ m
  mark_same = search (get_or-set_same, get_or-set_other, length-set, numbers_apart, number-inside)

  -- number by number
  pub owner-same : mark_number (set_mark s v m) v 0 ≡ m.owner
  owner-same = ap (λ (x : Mark). x.owner) mark_same

  pub row_same : mark_number (set_mark s v m) v 4 ≡ m.row
  row_same = ap (λ (x : Mark). x.row) mark_same

  -- and by what the numbers say
  pub met-same : is_met (set_mark s v m) v ≡ le_z (pos 0) m.owner
  met-same = ap (le_z (pos 0)) owner-same

  pub listed_same : is_listed (set_mark s v m) v ≡ le_z (pos 0) m.row
  listed_same = ap (le_z (pos 0)) row_same

-- the reference of a stored mark
pub reference-same : (s : List ℤ) (v : ℕ) (f : Reference) (row count : ℤ) → mark_width * v + mark_width ≤ length s → reference_at (set_mark s v (marked f row count)) v ≡ f
reference-same s v f row count h =
    ap (λ (x : Mark). record { owner = x.owner; run = record { root = x.root; low = x.low; high = x.high } }) (mark_same s v (marked f row count) h)

-- ---- marks without an owner

-- with the next node the first v + 1 nodes are blank
pub blank-next : (s : List ℤ) (v : ℕ) → mark_width * v < length s → Blank v s → Blank (v + 1) (set s (mark_width * v) (negsuc 0))
blank-next s v h b w k = go (eqb w v) (eq? w v)
  where
    go : (t : Bool) → Test (w ≡ v) (w ≢ v) t → is_met (set s (mark_width * v) (negsuc 0)) w ≡ false
    go true (passed e) =
        let none : mark_number (set s (mark_width * v) (negsuc 0)) v 0 ≡ negsuc 0 =
        sym (owner-number (set s (mark_width * v) (negsuc 0)) v) ∙ get_or-set_same s (mark_width * v) (negsuc 0) (pos 0) h in
        rw (e, none)
    go false (failed n) =
        ap (le_z (pos 0)) (get_or-set_other s (mark_width * v) (mark_width * w + 0) (negsuc 0) (pos 0) (λ e. n (omega arith))) ∙ b w (omega arith)
