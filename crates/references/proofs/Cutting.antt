-- Records as runs, and what a reference takes of them: what the records of a list have then, as sets, and how many they are.
use mathlib.Core.Path.{◌≡◌, refl, sym, ap, subst, ◌∙◌}
use mathlib.Core.Bool.{Bool, true, false, not, cond}
use mathlib.Core.List.Memᴰ
use mathlib.Core.List.{List, [], ◌∷◌, map, flat_map}
use mathlib.Core.Logic.{◌↔◌, ⊎_elim}
use Prim.Native.Nat.{◌≤◌}
use native.Mathlib.Omega.{arith}
use lib.Dec.{T, T_not}
use lib.IntN.{ℤ, ◌-ℤ◌}
use lib.Signed.{◌≤ℤ◌}
use lib.ListN.{length, length-append}
use Rattle.integers.proofs.Linear.{ints, sum, diff}
use Rattle.integers.proofs.Tests.{test?, is_true, is_false}
use Rattle.lists.specs.Lists.{◌∈◌}
use Rattle.lists.proofs.Membership.{cond_out, cond_false, map_in, map_out, flat_map_in, flat_map_out}
use Rattle.model.specs.declared.WalkKind.{WalkKind}
use Rattle.model.specs.Graph.{Graph}
use Rattle.model.specs.Walk.{Walk}
use Rattle.model.specs.Bitmapping.{Record, Has}
use Rattle.model.specs.Runs.{Run, Joins, empty}
use Rattle.model.proofs.Normalisation.{Held}
use Rattle.model.proofs.Steps.{empty-none, empty_not}
use Rattle.sorting.specs.declared.Row.{Row}
use Rattle.normalisation.specs.Merging.{by_displacement, of_displacement}
use Rattle.runs.specs.Clipping.{SmallRun}
use Rattle.references.specs.References.{Reference, Brings, record_run, run_record, cut_run, cut_row, cut_rows, SmallRecord}
use Rattle.references.proofs.Bringing.{narrowed-joins}

-- ---- records and runs

-- a record has root bit x with y exactly where its run joins x to y
pub record_run-joins : (s : Record) (x y : ℤ) → Has s x y ↔ Joins (record_run s) x y
record_run-joins s x y =
    let low = diff s.first s.displacement in
    let high = diff s.last s.displacement in
    let apart = diff x y in
    let over = diff x s.first in
    let under = diff y (s.first -ℤ s.displacement) in
    (λ h. omega (arith, ints), λ j. omega (arith, ints))

-- and so has the record of a run
pub run_record_joins : (r : Run) (x y : ℤ) → Has (run_record r) x y ↔ Joins r x y
run_record_joins r x y =
    let displacement = diff r.root r.low in
    let apart = diff x y in
    let over = diff x r.root in
    let under = diff y r.low in
    let size = diff r.high r.low in
    let last = sum r.root (r.high -ℤ r.low) in
    (λ h. omega (arith, ints), λ j. omega (arith, ints))

-- the record of a run that has bits is not empty
run_record_full : (r : Run) → r.low ≤ℤ r.high → (run_record r).first ≤ℤ (run_record r).last
run_record_full r h = omega (arith, ints, h, diff r.high r.low, sum r.root (r.high -ℤ r.low))

-- the run of a small record is small
pub record_run-small : {s : Record} → SmallRecord s → SmallRun (record_run s)
record_run-small {s} within =
    let low = diff s.first s.displacement in
    let high = diff s.last s.displacement in
    let size = diff (s.last -ℤ s.displacement) (s.first -ℤ s.displacement) in
    let last = sum s.first ((s.last -ℤ s.displacement) -ℤ (s.first -ℤ s.displacement)) in
    record {
      root = within.low;
      low = within.above;
      full = omega (arith, ints, within.full);
      high = within.below;
      last = omega (arith, ints, within.high);
    }

-- ---- one record

-- the record cut by a reference
abbrev cut_record : Reference → Record → Record
cut_record f s = run_record (cut_run f s)

-- it has root bit x with b exactly where the record has x with a bit address of the owner that the reference joins to b
pub cut_has : (f : Reference) (s : Record) (x b : ℤ) → Has (cut_record f s) x b ↔ ((y : ℤ) × Has s x y × Joins f.run y b)
cut_has f s x b =
    let cut = run_record_joins (cut_run f s) x b in
    let narrowed = narrowed-joins f.run (record_run s) x b in (
      λ h. let (y, j, k) = narrowed.0 (cut.0 h) in (y, (record_run-joins s x y).1 j, k),
      λ (y, h, k). cut.1 (narrowed.1 (y, (record_run-joins s x y).0 h, k)),
    )

-- where nothing is left of the record, there is no row
pub cut-none : (f : Reference) (s : Record) → T (empty (cut_run f s)) → cut_row f s ≡ []
unfolding cut_row
cut-none f s t = rw (is_true (empty (cut_run f s)) t) refl

-- where something is, its row is the only one
pub cut_left : (f : Reference) (s : Record) → T (not (empty (cut_run f s))) → cut_row f s ≡ by_displacement (cut_record f s) ∷ []
unfolding cut_row
cut_left f s t = rw (is_false (empty (cut_run f s)) (T_not (empty (cut_run f s)) t)) refl

-- a row of it is that of the record cut, which then has a bit
cut-row_out : (f : Reference) (s : Record) {w : Row} → w ∈ cut_row f s → (of_displacement w ≡ cut_record f s) × ((cut_record f s).first ≤ℤ (cut_record f s).last)
unfolding cut_row
cut-row_out f s {w} m =
    let r = cut_run f s in
    let found : T (not (empty r)) × (w ∈ (by_displacement (run_record r) ∷ [])) =
    ⊎_elim (λ h. absurd (Memᴰ.not-nil h.1)) (λ h. h) (cond_out (empty r) (test? (empty r)) m) in
    (ap of_displacement (Memᴰ.eq_of_singleton found.1), run_record_full r (empty_not r found.0))

-- where the record cut has a bit, its row is there
cut-row_in : (f : Reference) (s : Record) (x b : ℤ) → Has (cut_record f s) x b → by_displacement (cut_record f s) ∈ cut_row f s
unfolding cut_row
cut-row_in f s x b h =
    let r = cut_run f s in
    cond_false [] (empty r) (test? (empty r)) (λ t. empty-none r b t ((run_record_joins r x b).0 h).inside) (Memᴰ.head refl)

-- and it is one row at most
pub cut-row-few : (f : Reference) (s : Record) → length (cut_row f s) ≤ 1
unfolding cut_row
cut-row-few f s = go (empty (cut_run f s))
  where
    go : (t : Bool) → length (cond t [] (by_displacement (cut_record f s) ∷ [])) ≤ 1
    go true = omega arith
    go false = omega arith

-- ---- the records of a list

-- a record among the rows is that of a record of the list, cut, and has a bit
cut-rows_out : (f : Reference) (l : List Record) {q : Record} → q ∈ map of_displacement (cut_rows f l)
    → (s : Record) × (s ∈ l) × (q ≡ cut_record f s) × ((cut_record f s).first ≤ℤ (cut_record f s).last)
unfolding cut_rows
cut-rows_out f l m =
    let w = map_out of_displacement (flat_map (cut_row f) l) m in
    let u = flat_map_out (cut_row f) l w.1 in
    let v = cut-row_out f u.0 u.2 in
    (u.0, u.1, w.2 ∙ v.0, v.1)

-- a record of the list that has a bit, cut, is among the rows
cut-rows_in : (f : Reference) {l : List Record} {s : Record} (x b : ℤ) → s ∈ l → Has (cut_record f s) x b → cut_record f s ∈ map of_displacement (cut_rows f l)
unfolding cut_rows
cut-rows_in f {l} {s} x b m h = map_in of_displacement (flat_map_in (cut_row f) m (cut-row_in f s x b h))

-- no record among the rows is empty
pub cut-rows-full : (f : Reference) (l : List Record) (q : Record) → q ∈ map of_displacement (cut_rows f l) → q.first ≤ℤ q.last
cut-rows-full f l q m =
    let (s, n, e, full) = cut-rows_out f l m in
    subst (λ (z : Record). z.first ≤ℤ z.last) (sym e) full

-- there are no more rows than records
pub cut-rows-few : (f : Reference) (l : List Record) → length (cut_rows f l) ≤ length l
unfolding cut_rows flat_map
cut-rows-few f [] = omega arith
cut-rows-few f (s ∷ l) = omega (arith, length-append (cut_row f s) (cut_rows f l), cut-row-few f s, cut-rows-few f l)

-- by a list that has exactly what arrives at the owner, the rows have exactly what the reference brings
pub cut-rows_brings : (kind : WalkKind) (g : Graph) (r : ℤ) (f : Reference) (l : List Record) → ((x b : ℤ) → Held l x b ↔ Walk kind g r x f.owner b) → (x b : ℤ)
    → Held (map of_displacement (cut_rows f l)) x b ↔ Brings kind g r f x b
cut-rows_brings kind g r f l arrives x b = (
  λ (q, m, h).
      let (s, n, e, full) = cut-rows_out f l m in
      let (y, k, j) = (cut_has f s x b).0 (subst (λ (z : Record). Has z x b) e h) in
      record { at = y; walk = (arrives x y).0 (s, n, k); joins = j },
  λ h.
      let (s, n, k) = (arrives x h.at).1 h.walk in
      let cut = (cut_has f s x b).1 (h.at, k, h.joins) in
      (cut_record f s, cut-rows_in f x b n cut, cut),
)
