-- Rows made a list where they stand, and the list of what a reference brings: its rows are gathered behind the used part of the arena.
use mathlib.Core.Path.{◌≡◌, refl, sym, ap, ◌∙◌, subst}
use mathlib.Core.List.{List, map}
use mathlib.Core.Logic.{◌↔◌}
use Prim.Native.Nat.{ℕ, ◌+◌, ◌-◌, ◌*◌, ◌≤◌}
use native.Mathlib.Omega.{arith}
use lib.IntN.{ℤ, pos, ◌-ℤ◌}
use lib.Signed.{◌≤ℤ◌}
use lib.ListN.{length, take, length-append, length-map, get_or-append}
use lib.Seq.{get_or-take, drop_at, length-take-le}
use borrow.Rule.Slice.PartMut.{mid_of, put_mid}
use Rattle.integers.proofs.Linear.{ints}
use Rattle.lists.specs.Lists.{◌∈◌}
use Rattle.model.specs.declared.WalkKind.{WalkKind}
use Rattle.model.specs.Graph.{Graph, graph_of}
use Rattle.model.specs.Bitmapping.{Record}
use Rattle.model.specs.Runs.{normal}
use Rattle.model.proofs.Records.{has_at}
use Rattle.model.proofs.Taken.{taken-address}
use Rattle.model.proofs.Walks.{walk_start}
use Rattle.model.proofs.Normalisation.{normal_has, normal-list, normal_length}
use Rattle.reach.specs.Counting.{path_count}
use Rattle.sorting.specs.Rows.{row_width, Ascending}
use Rattle.sorting.proofs.Halves.{part_lent, part_length, part_back}
use Rattle.normalisation.specs.Merging.{AllSmallLast, by_displacement, of_displacement, displaced_of, sorted_by_displacement}
use Rattle.normalisation.proofs.Sorted.{by-displacement_members, by-displacement-ascending}
use Rattle.listing.proofs.Appending.{append_length}
use Rattle.references.specs.References.{Reference, Brings, records_at}
use Rattle.arrivals.specs.declared.ListRows.{ListRows}
use Rattle.arrivals.specs.State.{free_row, root_in, kind_in, Agree}
use Rattle.arrivals.specs.Sweep.{HasSome, Gathered, Normalisable, Normalised, Makeable, Made}
use Rattle.arrivals.proofs.Agreeing.{agree_trans, appended-agrees, appended-records}

-- ---- rows made a list where they stand

module _ {s spare : List ℤ} {n m : ℕ} (o : Normalisable s spare n m) where
  -- the part from row n on, as it is lent
  abbrev part : List ℤ
  part = mid_of (row_width * n) (length s - row_width * n) s

  -- its records
  lent : displaced_of part (m - n) ≡ records_at s n (m - n)
  lent = ap (λ l. displaced_of l (m - n)) (part_lent (row_width * n) s)

  -- they can be merged there
  pub part_mergeable : (row_width * (m - n) ≤ length part) × (row_width * (m - n) ≤ length spare) × AllSmallLast (displaced_of part (m - n))
  part_mergeable =
      (omega (arith, o.order, o.within, part_length (row_width * n) s), o.spare_room, subst AllSmallLast (sym lent) o.small)

  -- that part put back merged
  pub part_normalised : (p : List ℤ) (k : ℕ) → length p ≡ length part → k ≡ length (normal (displaced_of part (m - n)))
      → displaced_of p k ≡ sorted_by_displacement (normal (displaced_of part (m - n)))
      → Normalised s (put_mid (row_width * n) (length s - row_width * n) s p) n m (record { row = n; count = k })
  part_normalised p k long count merged =
      let front = length-take-le (row_width * n) s (omega (arith, o.order, o.within)) in
      subst (λ (u : List ℤ). Normalised s u n m (record { row = n; count = k })) (sym (part_back (row_width * n) s p))
      record {
        at = refl;
        agrees = record {
          long = omega (arith, length-append (take (row_width * n) s) p, front, long, part_length (row_width * n) s, o.order, o.within);
          same = λ j l. get_or-append (take (row_width * n) s) p (pos 0) j (omega (arith, front)) ∙ get_or-take (row_width * n) s j (pos 0) l;
        };
        count = count ∙ ap (λ l. length (normal l)) lent;
        records = ap (λ l. displaced_of l k) (drop_at (take (row_width * n) s) p (row_width * n) front) ∙ merged ∙ ap (λ l. sorted_by_displacement (normal l)) lent;
      }

-- ---- the list of a reference

module _ {ns es : List ℤ} {plan : List ℕ} {f : Reference} {n m : ℕ} {s t spare : List ℤ} (o : Makeable ns es plan f s spare) (at : n ≡ free_row s)
    (h : Gathered (kind_in s) (graph_of ns es) (root_in s) f s t n m)
  where
    -- there is room for the rows
    room : row_width * (n + length h.rows) ≤ length s
    room = omega (arith, at, o.gatherable.room, h.few)

    -- they are small: each has its last bit, which walks from the root
    small : AllSmallLast (map of_displacement h.rows)
    small q k =
        let w = o.gatherable.sweeping in
        let full = h.full q k in
        let last = (h.exact q.last (q.last -ℤ q.displacement)).0 (q, k, has_at q q.last full (omega (arith, ints))) in
        let stands = taken-address w.tables.graph w.root.row (walk_start last.walk) in
        record { full = full; high = omega (arith, ints, stands.1) }

    -- so that they can be made a list
    pub gathered_normalisable : Normalisable t spare n m
    gathered_normalisable =
        let count = h.appended.count in
        record {
          order = omega arith;
          within = omega (arith, room, append_length room h.appended);
          spare_room = omega (arith, h.few, o.few, o.spare_room);
          small = rw (appended-records (omega (arith, room)) h.appended) small;
        }

    -- and are the list of the reference then
    pub list-made : {u : List ℤ} {p : ListRows} → Normalised t u n m p → Made (kind_in s) (graph_of ns es) (root_in s) f s u p
    list-made {u} q =
        let records = appended-records (omega (arith, room)) h.appended in
        record {
          at = q.at ∙ at;
          agrees = subst (λ k. Agree k s u) (sym q.at) (agree_trans (appended-agrees room h.appended) q.agrees);
          made = map of_displacement h.rows;
          exact = h.exact;
          full = h.full;
          few = omega (arith, length-map h.rows of_displacement, h.few);
          count = q.count ∙ ap (λ l. length (normal l)) records;
          records = q.records ∙ ap (λ l. sorted_by_displacement (normal l)) records;
        }

module _ {kind : WalkKind} {g : Graph} {r : ℤ} {f : Reference} {old new : List ℤ} {p : ListRows} (m : Made kind g r f old new p) where
  -- the list has no more records than paths lead to the owner
  pub made-few : p.count ≤ path_count g r f.owner
  made-few = omega (arith, m.count, normal_length m.made, m.few)

  -- they have exactly what the reference brings
  pub made-exact : (x b : ℤ) → HasSome (records_at new p.row p.count) x b ↔ Brings kind g r f x b
  made-exact x b =
      let kept = normal_has m.made x b in (
        λ (q, j, has).
            (m.exact x b).0
            (kept.0 (q, (by-displacement_members (normal m.made)).0 (subst (λ (l : List Record). q ∈ l) m.records j), has)),
        λ y.
            let (q, j, has) = kept.1 ((m.exact x b).1 y) in
            (q, subst (λ (l : List Record). q ∈ l) (sym m.records) ((by-displacement_members (normal m.made)).1 j), has),
      )

  -- none is empty
  pub made-full : (q : Record) → q ∈ records_at new p.row p.count → q.first ≤ℤ q.last
  made-full q j = (normal-list m.made m.full).full q ((by-displacement_members (normal m.made)).0 (rw m.records at j))

  -- and they are sorted
  pub made-ascending : Ascending (map by_displacement (records_at new p.row p.count))
  made-ascending = rw m.records (by-displacement-ascending (normal m.made))
