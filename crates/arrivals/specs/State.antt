-- The work space of a sweep, one slice of numbers: a mark for each node, and the arena, in which the lists of owners are stored. Assumes nothing.
use Rattle.std.specs.Prelude.{◌≡◌, Bool, cond, List, ℕ, ◌+◌, ◌*◌, ◌/◌, ◌<◌, ℤ, pos, negsuc, nat_abs, length, get_or, set}
use Rattle.std.specs.Int.Signed.{le_z}
use Rattle.integers.specs.Integers.{eq_z}
use Rattle.model.specs.declared.WalkKind.{WalkKind}
use Rattle.model.specs.declared.WalkKind.TheVariants.{Reading, Writing}
use Rattle.model.specs.Limits.{max_nodes, max_paths}
use Rattle.sorting.specs.Rows.{row_width}
use Rattle.references.specs.References.{Reference}

-- numbers of a mark
abbrev pub mark_width : ℕ
mark_width = 6

-- behind the marks: from which row on the arena is free, the root, and the kind of walk
abbrev pub free_at : ℕ
free_at = mark_width * max_nodes

abbrev pub root_at : ℕ
root_at = mark_width * max_nodes + 1

abbrev pub kind_at : ℕ
kind_at = root_at + 1

-- rows are counted from the front of the slice: the first of the arena, and how many are stored at most. Behind these there is room for the rows of one list
abbrev pub arena_row : ℕ
arena_row = kind_at / row_width + 1

abbrev pub arena_rows : ℕ
arena_rows = 1536

abbrev pub state_room : ℕ
state_room = row_width * (arena_row + arena_rows + max_paths)

-- the mark of a node: its reference, and the first row and the number of records of its list. The owner is −1 where nothing has arrived, and the row
-- below 0 where no list is stored; the number is then a guess at how many records it would have
pub record Mark : Type 0 where
  pub owner : ℤ
  pub root : ℤ
  pub low : ℤ
  pub high : ℤ
  pub row : ℤ
  pub count : ℤ

-- the row of a mark where the node has no list yet
abbrev pub not_listed : ℤ
not_listed = negsuc 0

-- the row of a mark where the node has no list, since there is no room for it
abbrev pub no_room : ℤ
no_room = negsuc 1

-- number k of the mark of node v
abbrev pub mark_number : List ℤ → ℕ → ℕ → ℤ
mark_number s v k = get_or s (mark_width * v + k) (pos 0)

-- the mark of node v
abbrev pub mark_at : List ℤ → ℕ → Mark
mark_at s v =
    record {
      owner = mark_number s v 0;
      root = mark_number s v 1;
      low = mark_number s v 2;
      high = mark_number s v 3;
      row = mark_number s v 4;
      count = mark_number s v 5;
    }

-- the state with m as the mark of node v
abbrev pub set_mark : List ℤ → ℕ → Mark → List ℤ
set_mark s v m =
    set (set (set (set (set (set s (mark_width * v + 0) m.owner) (mark_width * v + 1) m.root) (mark_width * v + 2) m.low)
    (mark_width * v + 3) m.high) (mark_width * v + 4) m.row) (mark_width * v + 5) m.count

-- something has arrived at v
abbrev pub is_met : List ℤ → ℕ → Bool
is_met s v = le_z (pos 0) (mark_number s v 0)

-- the reference of node v
abbrev pub reference_at : List ℤ → ℕ → Reference
reference_at s v = record { owner = mark_number s v 0; run = record { root = mark_number s v 1; low = mark_number s v 2; high = mark_number s v 3 } }

-- a mark with this reference, row and count
abbrev pub marked : Reference → ℤ → ℤ → Mark
marked f row count = record { owner = f.owner; root = f.run.root; low = f.run.low; high = f.run.high; row = row; count = count }

-- a list is stored for node v
abbrev pub is_listed : List ℤ → ℕ → Bool
is_listed s v = le_z (pos 0) (mark_number s v 4)

-- first row and number of records of the list of v
abbrev pub list_row : List ℤ → ℕ → ℕ
list_row s v = nat_abs (mark_number s v 4)

abbrev pub count_of : List ℤ → ℕ → ℕ
count_of s v = nat_abs (mark_number s v 5)

-- the row from which on the arena is free
abbrev pub free_row : List ℤ → ℕ
free_row s = nat_abs (get_or s free_at (pos 0))

-- the root
abbrev pub root_in : List ℤ → ℤ
root_in s = get_or s root_at (pos 0)

-- a kind of walk as the number that a state has for it: 0 of those that read, 1 of those that write
unfoldable pub kind_number : WalkKind → ℤ
kind_number Reading = pos 0
kind_number Writing = pos 1

-- the kind of walk that a number stands for
unfoldable pub kind_of : ℤ → WalkKind
kind_of n = cond (eq_z n (pos 0)) Reading Writing

-- the kind of walk
abbrev pub kind_in : List ℤ → WalkKind
kind_in s = kind_of (get_or s kind_at (pos 0))

-- two states of one length that have the same numbers in front of row n
pub record Agree (n : ℕ) (s t : List ℤ) : Type 0 where
  pub long : length t ≡ length s
  pub same : (j : ℕ) → j < row_width * n → get_or t j (pos 0) ≡ get_or s j (pos 0)
