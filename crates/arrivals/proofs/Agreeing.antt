-- A sweep's state depends on the numbers before the free part of the arena alone.
use mathlib.Core.Path.{◌≡◌, refl, sym, ap, ◌∙◌, subst}
use mathlib.Core.List.{List, ◌++◌, map}
use Prim.Native.Nat.{ℕ, zero, suc, ◌+◌, ◌-◌, ◌*◌, ◌≤◌, ◌<◌}
use native.Mathlib.Omega.{arith}
use lib.IntN.{ℤ, pos, nat_abs}
use lib.Signed.{le_z}
use lib.ListN.{length, get_or, take, drop}
use lib.Seq.{get_or-take, get_or-drop, drop_at, length-take-le}
use lib.ListN.{get_or-append}
use Rattle.integers.proofs.Linear.{ints}
use Rattle.model.specs.declared.WalkKind.{WalkKind}
use Rattle.model.specs.Limits.{max_nodes}
use Rattle.model.specs.Rows.{node_rows}
use Rattle.model.specs.Graph.{Graph, graph_of, NodeRow}
use Rattle.model.specs.Taken.{TakenTables}
use Rattle.tables.proofs.Rows.{nodes_length}
use Rattle.sorting.specs.declared.Row.{Row}
use Rattle.sorting.specs.Rows.{row_width, rows_of, numbers_of}
use Rattle.sorting.proofs.Tables.{rows_of_written}
use Rattle.normalisation.specs.Merging.{of_displacement, displaced_of}
use Rattle.listing.specs.Listing.{Appended}
use Rattle.listing.proofs.Appending.{append_length}
use Rattle.references.specs.References.{records_at}
use Rattle.arrivals.specs.State.{mark_width, free_at, arena_row, mark_number, is_met, reference_at, is_listed, list_row, count_of, free_row, root_in, kind_at, kind_of, kind_in, Agree}
use Rattle.arrivals.specs.Sweep.{Listed, Sweeping}
use Rattle.arrivals.proofs.Relisting.{listed_moved, relisted_sweeping}

-- what agrees in front of a row agrees in front of a row before
pub agree_less : {n m : ℕ} {s t : List ℤ} → m ≤ n → Agree n s t → Agree m s t
agree_less h a = record { long = a.long; same = λ j k. a.same j (omega (arith, h, k)) }

pub agree_trans : {n : ℕ} {s t u : List ℤ} → Agree n s t → Agree n t u → Agree n s u
agree_trans a b = record { long = b.long ∙ a.long; same = λ j k. b.same j k ∙ a.same j k }

-- states of one length with the same front agree
pub agree_front : (n : ℕ) {s t : List ℤ} → length t ≡ length s → take (row_width * n) t ≡ take (row_width * n) s → Agree n s t
agree_front n {s} {t} long front =
    record {
      long = long;
      same = λ j h.
          sym (get_or-take (row_width * n) t j (pos 0) h) ∙ ap (λ (l : List ℤ). get_or l j (pos 0)) front ∙ get_or-take (row_width * n) s j (pos 0) h;
    }

-- the root, the kind of walk and the used part are the same
pub agree_root : {n : ℕ} {s t : List ℤ} → arena_row ≤ n → Agree n s t → root_in t ≡ root_in s
agree_root h a = a.same 12001 (omega (arith, h))

pub agree_kind : {n : ℕ} {s t : List ℤ} → arena_row ≤ n → Agree n s t → kind_in t ≡ kind_in s
agree_kind h a = ap kind_of (a.same kind_at (omega (arith, h)))

pub agree_free : {n : ℕ} {s t : List ℤ} → arena_row ≤ n → Agree n s t → free_row t ≡ free_row s
agree_free h a = ap nat_abs (a.same 12000 (omega (arith, h)))

-- rows that have the same numbers are the same
rows_agree : (n : ℕ) (s t : List ℤ) → ((j : ℕ) → j < row_width * n → get_or t j (pos 0) ≡ get_or s j (pos 0)) → rows_of t n ≡ rows_of s n
unfolding rows_of
rows_agree zero s t e = refl
rows_agree (suc n) s t e =
    let p = e 0 (omega arith) in
    let q = e 1 (omega arith) in
    let r = e 2 (omega arith) in
    let rest = rows_agree n (drop row_width s) (drop row_width t) (λ j h. get_or-drop row_width t j (pos 0) ∙ e (row_width + j) (omega (arith, h)) ∙ sym (get_or-drop row_width s j (pos 0))) in
    rw (p, q, r, rest) refl

-- so are records in front of the row
pub agree_records : {n : ℕ} {s t : List ℤ} (p c : ℕ) → p + c ≤ n → Agree n s t → records_at t p c ≡ records_at s p c
agree_records {n} {s} {t} p c h a =
    ap (map of_displacement)
    (rows_agree c (drop (row_width * p) s) (drop (row_width * p) t)
    (λ j k. get_or-drop (row_width * p) t j (pos 0) ∙ a.same (row_width * p + j) (omega (arith, h, k)) ∙ sym (get_or-drop (row_width * p) s j (pos 0))))

-- rows appended behind the first n leave what stands in front
pub appended-agrees : {rows : List Row} {s t : List ℤ} {n m : ℕ} → row_width * (n + length rows) ≤ length s → Appended rows s t n m → Agree n s t
appended-agrees {rows} {s} {t} {n} k a =
    record {
      long = append_length k a;
      same = λ j h.
          ap (λ l. get_or l j (pos 0)) a.numbers
          ∙ get_or-append (take (row_width * n) s) (numbers_of rows ++ drop (row_width * (n + length rows)) s) (pos 0) j
          (omega (arith, h, length-take-le (row_width * n) s (omega (arith, k))))
          ∙ get_or-take (row_width * n) s j (pos 0) h;
    }

-- and are the rows from there on
pub appended-records : {rows : List Row} {s t : List ℤ} {n m : ℕ} → row_width * n ≤ length s → Appended rows s t n m
    → records_at t n (m - n) ≡ map of_displacement rows
appended-records {rows} {s} {t} {n} {m} k a =
    let behind = drop (row_width * (n + length rows)) s in
    let part = ap (drop (row_width * n)) a.numbers ∙ drop_at (take (row_width * n) s) (numbers_of rows ++ behind) (row_width * n) (length-take-le (row_width * n) s k) in
    ap (λ l. displaced_of l (m - n)) part ∙ ap (map of_displacement) (rows_of_written rows behind (m - n) (omega (arith, a.count)))

-- ---- the facts of a sweep

module _ {n : ℕ} {s t : List ℤ} (low : arena_row ≤ n) (a : Agree n s t) where
  mark_agrees : (v k : ℕ) → v < max_nodes → k < mark_width → mark_number t v k ≡ mark_number s v k
  mark_agrees v k h j = a.same (mark_width * v + k) (omega (arith, h, j, low))

  -- the mark of a node is the same
  pub met-agrees : (v : ℕ) → v < max_nodes → is_met t v ≡ is_met s v
  met-agrees v h = ap (le_z (pos 0)) (mark_agrees v 0 h (omega arith))

  pub reference-agrees : (v : ℕ) → v < max_nodes → reference_at t v ≡ reference_at s v
  reference-agrees v h =
      rw (mark_agrees v 0 h (omega arith), mark_agrees v 1 h (omega arith), mark_agrees v 2 h (omega arith), mark_agrees v 3 h (omega arith)) refl

  pub listed-agrees : (v : ℕ) → v < max_nodes → is_listed t v ≡ is_listed s v
  listed-agrees v h = ap (le_z (pos 0)) (mark_agrees v 4 h (omega arith))

  list_row-agrees : (v : ℕ) → v < max_nodes → list_row t v ≡ list_row s v
  list_row-agrees v h = ap nat_abs (mark_agrees v 4 h (omega arith))

  -- so is its list, where it lies in front of the row
  list-agrees : {kind : WalkKind} {g : Graph} {r : ℤ} (v : ℕ) → v < max_nodes → free_row s ≤ n → Listed kind g r s v → Listed kind g r t v
  list-agrees v h u l =
      listed_moved (list_row-agrees v h) (mark_agrees v 5 h (omega arith)) (omega (arith, agree_free low a))
      (agree_records (list_row s v) (count_of s v) (omega (arith, l.within, u)) a) l

-- a node row of taken tables is one of 2,000
pub row-few : {ns es : List ℤ} {v : ℕ} → TakenTables ns es → NodeRow (graph_of ns es) (pos v) → v < max_nodes
unfolding graph_of
row-few {ns} {es} {v} w r = let h = w.nodes.few in omega (arith, ints, r.high, nodes_length ns)

pub rows_few : {ns es : List ℤ} {v : ℕ} → TakenTables ns es → v < length (node_rows ns) → v < max_nodes
rows_few {ns} {es} {v} w r = let h = w.nodes.few in omega (arith, r, nodes_length ns)

-- a state that agrees in front of the free part is swept as far
pub sweeping-agrees : {ns es : List ℤ} {plan : List ℕ} {i : ℕ} {s t : List ℤ} → Sweeping ns es plan i s → Agree (free_row s) s t → Sweeping ns es plan i t
sweeping-agrees {ns} {es} {s} {t} w a =
    let low = w.free_low in
    let used = agree_free low a in
    let few : (v : ℕ) → v < length (node_rows ns) → v < max_nodes = λ v h. rows_few w.tables h in
    relisted_sweeping
    (record {
      long = a.long;
      root = agree_root low a;
      kind = agree_kind low a;
      references = λ v h. reference-agrees low a v (few v h);
      free_number = ap pos used ∙ w.free_number ∙ sym (a.same free_at (omega (arith, low)));
      free_low = omega (arith, low, used);
      free_high = omega (arith, w.free_high, used);
      root_listed = λ o r q.
          listed-agrees low a r (row-few w.tables (subst (NodeRow (graph_of ns es)) (sym q) w.root.row)) ∙ w.root_listed o r q;
      listed = λ v h m l.
          list-agrees low a v (few v h) (omega arith) ((w.marks v h).listed m (sym (listed-agrees low a v (few v h)) ∙ l));
    })
    w
