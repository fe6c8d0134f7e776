-- The rows of one bank after the other: none at first, and with one more bank what is reached in it is added.
use mathlib.Core.Path.{◌≡◌, sym, ap, ap₂, ◌∙◌, subst}
use mathlib.Core.List.Memᴰ
use mathlib.Core.List.{List, [], ◌∷◌, ◌++◌, map, map-append}
use mathlib.Core.Logic.Iff
use mathlib.Core.Logic.{◌↔◌, ⊎_elim, ⊎_map}
use Prim.Native.Nat.{ℕ, ◌+◌, ◌-◌, ◌*◌, ◌^◌, ◌≤◌}
use native.Mathlib.Omega.{arith}
use lib.IntN.{ℤ, pos, ◌-ℤ◌}
use lib.ListN.{length, drop, length-map}
use lib.Seq.{drop-drop}
use Rattle.integers.proofs.Linear.{ints, neg, diff}
use Rattle.lists.specs.Lists.{◌∈◌}
use Rattle.lists.proofs.Membership.{map_in}
use Rattle.model.specs.declared.WalkKind.{WalkKind}
use Rattle.model.specs.Quantities.{Subtractable}
use Rattle.model.specs.Graph.{graph_of, node, first_bit}
use Rattle.model.specs.Paths.{Leaf}
use Rattle.model.specs.Bitmapping.{Record}
use Rattle.model.specs.Groups.{Bank, BankReached, raised_by}
use Rattle.model.proofs.Records.{has_at}
use Rattle.model.proofs.Taken.{taken-address}
use Rattle.model.proofs.Walks.{walk_start, walk_end}
use Rattle.model.proofs.Groups.{raised-some, raised-full, bank_lower, group-more, group-paths-more}
use Rattle.tables.proofs.Limits.{first-address}
use Rattle.extents.specs.Extents.{SmallAddress}
use Rattle.reach.specs.Counting.{path_count}
use Rattle.sorting.specs.Rows.{row_width, rows_of, rows_from}
use Rattle.sorting.proofs.Tables.{rows_of_add, rows_from_none, rows_from_length}
use Rattle.normalisation.specs.Merging.{of_displacement}
use Rattle.listing.specs.Listing.{Appended}
use Rattle.listing.proofs.Appending.{append_length}
use Rattle.references.specs.References.{records_at}
use Rattle.arrivals.specs.State.{free_row, Agree}
use Rattle.arrivals.specs.Sweep.{HasSome, Swept, Appendable, LeafAppended}
use Rattle.arrivals.proofs.Agreeing.{agree_less, agree_trans, agree_records, appended-agrees, appended-records}
use Rattle.arrivals.proofs.Gathering.{some_append}
use Rattle.arrivals.proofs.Swept.{swept_tables, swept_root, swept_same, swept_room, swept_agrees}
use Rattle.groups.specs.Banks.{raised_row, Raisable, bank_with, Gathering}
use Rattle.groups.proofs.Raising.{raised-records}

-- before the first bank there is no row
pub gathering-start : {kind : WalkKind} {ns es : List ℤ} {plan : List ℕ} {root : ℕ} {s : List ℤ} {n : ℕ} → Swept kind ns es plan root s → n ≡ free_row s → Gathering kind ns es plan root [] s n
gathering-start {s = s} {n = n} w at =
    record {
      state = w;
      leaves = λ b m. absurd (Memᴰ.not-nil m);
      behind = omega (arith, at);
      within = omega (arith, at, swept_room w);
      exact = λ x y. (λ (q, m, h). absurd (none q m), λ (b, m, h). absurd (Memᴰ.not-nil m));
      full = λ q m. absurd (none q m);
      few = omega (arith, at);
    }
  where
    none : (q : Record) → q ∈ records_at s (free_row s) (n - free_row s) → ⊥
    none q m = Memᴰ.not-nil (subst (λ (l : List Record). q ∈ l) (ap (map of_displacement) (rows_from_none s (free_row s) n (omega (arith, at)))) m)

-- the records of rows f to m are those up to row n and those from there on
records_split : (t : List ℤ) (f n m : ℕ) → f ≤ n → n ≤ m → records_at t f (m - f) ≡ records_at t f (n - f) ++ records_at t n (m - n)
records_split t f n m h k =
    let all : m - f ≡ (n - f) + (m - n) = omega arith in
    let cut : row_width * f + row_width * (n - f) ≡ row_width * n = omega arith in
    let rest = drop (row_width * f) t in
    ap (λ (c : ℕ). map of_displacement (rows_of rest c)) all
    ∙ ap (map of_displacement) (rows_of_add rest (n - f) (m - n))
    ∙ map-append of_displacement (rows_of rest (n - f)) (rows_of (drop (row_width * (n - f)) rest) (m - n))
    ∙ ap (λ (l : List ℤ). records_at t f (n - f) ++ map of_displacement (rows_of l (m - n))) (drop-drop (row_width * (n - f)) (row_width * f) t ∙ ap (λ (c : ℕ). drop c t) cut)

-- one more bank, whose leaf's rows are appended
module _ {kind : WalkKind} {ns es : List ℤ} {plan : List ℕ} {root leaf : ℕ} {s t : List ℤ} {n m : ℕ} (o : Appendable ns es plan leaf s n) (w : Swept kind ns es plan root s)
    (a : LeafAppended kind (graph_of ns es) (pos root) (pos leaf) s t n m) {at : ℤ} (small : SmallAddress at)
  where
    -- there is room for them
    leaf_room : row_width * (n + length a.rows) ≤ length s
    leaf_room = omega (arith, o.room, a.few, ap (λ (r : ℕ). path_count (graph_of ns es) (pos r) (pos leaf)) (swept_same w o.state))

    leaf-records : records_at t n (m - n) ≡ map of_displacement a.rows
    leaf-records = appended-records (omega (arith, leaf_room)) a.appended

    -- root bits and leaf bits are small, so that a displacement less `at` is a number of 64 bits
    leaf-fits : (q : Record) → q ∈ map of_displacement a.rows → Subtractable q.displacement at
    leaf-fits q k =
        let g = graph_of ns es in
        let taken = (swept_tables w).graph in
        let bit = q.first -ℤ q.displacement in
        let reached = (a.exact q.first bit).0 (q, k, has_at q q.first (omega (arith, ints)) (a.full q k)) in
        let x = taken-address taken (swept_root w).row (walk_start reached.walk) in
        let stands = walk_end reached.walk in
        let y = taken-address taken o.block.row stands in
        let first = first-address (taken.good (pos leaf) o.block.row) in
        let parts = diff q.displacement at in
        let low = diff q.first q.displacement in
        let high = diff reached.arrival (first_bit (node g (pos leaf))) in
        record {
          low = omega (arith, ints, x, y, first, stands.above, reached.leaf_bit, parts, low, high, small.low, small.high, neg (pos (2 ^ 63)));
          high = omega (arith, ints, x, y, first, stands.above, reached.leaf_bit, parts, low, high, small.low, small.high);
        }

    -- they can be raised
    pub leaf_raisable : Raisable at t n m
    leaf_raisable =
        let count = a.appended.count in
        record {
          order = omega arith;
          within = omega (arith, leaf_room, append_length leaf_room a.appended);
          fits = λ r k. leaf-fits (of_displacement r) (subst (λ (l : List Record). of_displacement r ∈ l) leaf-records (map_in of_displacement k));
        }

    -- and are then those of the bank
    module _ {banks : List Bank} {u : List ℤ} (v : Gathering kind ns es plan root banks s n) (r : Appended (map (raised_row at) (rows_from t n m)) t u n m) where
      raised-room : row_width * (n + length (map (raised_row at) (rows_from t n m))) ≤ length t
      raised-room =
          omega (arith, length-map (rows_from t n m) (raised_row at), rows_from_length t n m, leaf_raisable.order, leaf_raisable.within)

      -- what stands in front is as it was
      kept : Agree n s u
      kept = agree_trans (appended-agrees leaf_room a.appended) (appended-agrees raised-room r)

      swept : Swept kind ns es plan root u × (free_row u ≡ free_row s)
      swept = swept_agrees w (agree_less v.behind kept)

      -- the records of the banks so far, and those of the bank
      abbrev bank_rows : List Record
      bank_rows = map (raised_by at) (map of_displacement a.rows)

      behind : records_at u n (m - n) ≡ bank_rows
      behind =
          appended-records (omega (arith, raised-room)) r ∙ raised-records at (rows_from t n m) ∙ ap (map (raised_by at)) leaf-records

      records : records_at u (free_row u) (m - free_row u) ≡ records_at s (free_row s) (n - free_row s) ++ bank_rows
      records =
          ap (λ (f : ℕ). records_at u f (m - f)) swept.1
          ∙ records_split u (free_row s) n m v.behind leaf_raisable.order
          ∙ ap₂ (λ (k l : List Record). k ++ l) (agree_records (free_row s) (n - free_row s) (omega (arith, v.behind)) kept) behind

      -- what the bank has
      bank_exact : (x y : ℤ) → HasSome bank_rows x y ↔ BankReached kind (graph_of ns es) (pos root) (bank_with leaf at) x y
      bank_exact x y =
          Iff.trans (raised-some at (map of_displacement a.rows) x y) (Iff.trans (a.exact x (y -ℤ at)) (bank_lower (bank_with leaf at) x y))

      pub gathering-more : Gathering kind ns es plan root (banks ++ (bank_with leaf at ∷ [])) u m
      unfolding path_count
      gathering-more =
          let g = graph_of ns es in
          record {
            state = swept.0;
            leaves = λ b k.
                ⊎_elim (λ j. v.leaves b j) (λ j. subst (λ (c : Bank). Leaf g c.leaf) (sym (Memᴰ.eq_of_singleton j)) o.block)
                (Memᴰ.append_cases banks k);
            behind = omega (arith, swept.1, v.behind, leaf_raisable.order);
            within = omega (arith, leaf_raisable.within, append_length raised-room r);
            exact = λ x y.
                let before = v.exact x y in
                let added = bank_exact x y in
                rw records
                (Iff.trans (some_append (records_at s (free_row s) (n - free_row s)) bank_rows x y)
                (Iff.trans (⊎_map before.0 added.0, ⊎_map before.1 added.1) (group-more banks (bank_with leaf at) x y)));
            full = λ q k.
                ⊎_elim (λ j. v.full q j) (λ j. raised-full at (map of_displacement a.rows) a.full q j)
                (Memᴰ.append_cases (records_at s (free_row s) (n - free_row s)) (subst (λ (l : List Record). q ∈ l) records k));
            few = omega (arith, swept.1, v.few, a.few, a.appended.count, group-paths-more g (pos root) banks (bank_with leaf at));
          }
