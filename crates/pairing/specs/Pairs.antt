-- The rows of a pair table, as the code reads them, and their checks. Assumes nothing.
use Rattle.std.specs.Prelude.{◌≡◌, Bool, false, not, cond, ◌||◌, List, ℕ, ◌≤◌, ◌<◌, eqb, ℤ, length, get_or}
use Rattle.std.proofs.Math.Option.{Option}
use Rattle.model.specs.Rows.{Pair, pair_rows}
use Rattle.model.specs.Compare.{Tables}
use Rattle.model.specs.Refusals.{Refusal}
use Rattle.model.specs.Checks.{when, ◌then◌, first_refusal, good_at, same_root, same_impl, check_pair}

-- the columns of a pair row that name a node: 0 that of the specification, 1 that of the implementation
abbrev pub node_columns : ℕ
node_columns = 2

-- the node in a column of a pair row
abbrev pub node_in : ℕ → Pair → ℤ
node_in column p = cond (eqb column 0) p.spec p.impl

-- when two rows are the same: as root rows where a specification node may stand once, and else as leaf rows
abbrev pub same_by : Bool → Pair → Pair → Bool
same_by specOnce = cond specOnce same_root same_impl

-- refusals 7, 16 and 8 of a pair table, whose nodes are to pass these tests
abbrev pub check_pairs : ℕ → (ℤ → Bool) → (ℤ → Bool) → ℤ → (Pair → Pair → Bool) → List ℤ → Option Refusal
check_pairs t spec impl most same ps = first_refusal (check_pair t spec impl most same (pair_rows ps)) (pair_rows ps)

-- the six tables
abbrev pub tables_of : List ℤ → List ℤ → List ℤ → List ℤ → List ℤ → List ℤ → Tables
tables_of sn se mn me rp lp = record { spec_nodes = sn; spec_edges = se; impl_nodes = mn; impl_edges = me; root_pairs = rp; leaf_pairs = lp }

-- ---- marks of the nodes that earlier rows have

-- marks for so many nodes, none of them set
pub record Unmarked (count : ℕ) (marks : List Bool) : Type 0 where
  pub room : count ≤ length marks
  pub unset : (v : ℕ) → v < count → get_or marks v false ≡ false

-- ---- the checks of a row whose nodes pass their tests

-- refusal 16 of row p
abbrev pub check_at : ℕ → ℤ → Pair → Option Refusal
check_at t most p = when (not (good_at most p)) 16 t p.row

-- refusal 8 of row k, whose nodes have these marks
abbrev pub check_marks : ℕ → ℕ → Bool → Bool → Option Refusal
check_marks t k specMark implMark = when (specMark || implMark) 8 t k

-- refusal 16, then 8 of row p
abbrev pub check_row : ℕ → ℤ → Bool → Bool → Pair → Option Refusal
check_row t most specMark implMark p = check_at t most p then check_marks t p.row specMark implMark
