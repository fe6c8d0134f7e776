-- The rows of a root and a leaf stand for precisely the leaf bits that single walks give, each once, and those of one place are, in ascending order,
-- what walk writes for the address there.
use mathlib.Core.Path.{◌≡◌, sym, subst, ◌∙◌}
use mathlib.Core.List.{List}
use mathlib.Core.Logic.Iff
use mathlib.Core.Logic.{◌↔◌}
use Prim.Native.Nat.{ℕ, ◌<◌}
use native.Mathlib.Omega.{arith}
use lib.Dec.{eqb, eqb→eq, eqb_refl}
use lib.IntN.{ℤ, pos}
use lib.ListN.{length, get_or}
use Rattle.integers.proofs.Linear.{ints}
use Rattle.lists.specs.Lists.{◌∈◌, keep, Distinct, none, more}
use Rattle.lists.proofs.Membership.{keep_in, keep_out, map_in, map_out}
use Rattle.lists.proofs.Distinct.{distinct_length, keep-distinct, map_distinct, flat_map_distinct}
use Rattle.model.specs.declared.WalkKind.{WalkKind}
use Rattle.model.specs.Graph.{Graph}
use Rattle.model.specs.Walk.{Reached}
use Rattle.model.specs.Bitmapping.{Record, Has, Ordered}
use Rattle.model.specs.Bitmapping as bitmapping
use Rattle.model.specs.Runs.{list_of}
use Rattle.model.specs.Calls.{ascending, leaf_bits}
use Rattle.batches.specs.Batch.{BatchRow, rows_in, batch_rows, bits_at, batch_of}
use Rattle.model.proofs.Records.{before_irrefl, has_near, touch_near}
use Rattle.model.proofs.Paths.{Fit}
use Rattle.model.proofs.Uniqueness.{list-touch}
use Rattle.model.proofs.ListLaw.{list_of_reached, list-reached}
use Rattle.model.proofs.WalkCall.{Ascending, nil, cons, ascending_members, ascending-ordered, ascending_unique, leaf_bits-reached, leaf_bits-ascending}
use Rattle.batches.proofs.Rows.{row_same, rows_in_lem, rows-distinct, batch_has}

-- a list in order has no record twice
ordered-distinct : {l : List Record} → Ordered l → Distinct l
ordered-distinct bitmapping.none = none
ordered-distinct (bitmapping.more before rest) = more (λ m. before_irrefl (before _ m)) (ordered-distinct rest)

-- an ascending list has no number twice
ascending-distinct : {l : List ℤ} → Ascending l → Distinct l
ascending-distinct nil = none
ascending-distinct (cons {x = x} low rest) = more (λ m. let h = low x m in omega (arith, ints)) (ascending-distinct rest)

module _ (kind : WalkKind) {g : Graph} (r l : ℤ) (f : Fit g l) (xs : List ℤ) where
  -- a row stands there for precisely the leaf bits that the single walk gives
  pub batch-reached : (t : BatchRow) → t ∈ batch_of kind g r l xs ↔ ((t.place < length xs) × Reached kind g r l (get_or xs t.place (pos 0)) t.bit)
  unfolding batch_of
  batch-reached t =
      let have = batch_has (list_of kind g r l) xs t in
      let same = list-reached {kind = kind} {r = r} f (get_or xs t.place (pos 0)) t.bit in
      (λ m. let (h, k) = have.0 m in (h, same.1 k), λ (h, k). have.1 (h, same.0 k))

  -- each row stands there once: two records of a list that have a root bit with one leaf bit are one
  pub batch-once : Distinct (batch_of kind g r l xs)
  unfolding batch_of batch_rows
  batch-once =
      let list = list_of_reached {kind = kind} {r = r} f in
      flat_map_distinct (λ s. rows_in s 0 xs) (λ s. rows-distinct s 0 xs)
      (λ s u m n t i j.
      let v = (rows_in_lem s 0 xs t).0 i in
      let w = (rows_in_lem u 0 xs t).0 j in
      let e : w.index ≡ v.index = omega (arith, v.place, w.place) in
      list-touch list list m n (touch_near (has_near v.has) (subst (λ (k : ℕ). Has u (get_or xs k (pos 0)) t.bit) e w.has)))
      (ordered-distinct list.ordered)

  -- the rows of one place
  module _ (p : ℕ) (h : p < length xs) where
    -- they have precisely the leaf bits that the address there reaches
    bits-reached : (y : ℤ) → y ∈ bits_at p (batch_of kind g r l xs) ↔ Reached kind g r l (get_or xs p (pos 0)) y
    unfolding bits_at
    bits-reached y = (
      λ m.
          let (t, k, e) = map_out (λ (t : BatchRow). t.bit) (keep (λ t. eqb t.place p) (batch_of kind g r l xs)) m in
          let (i, q) = keep_out (λ t. eqb t.place p) (batch_of kind g r l xs) k in
          let w = ((batch-reached t).0 i).1 in
          subst (λ (z : ℤ). Reached kind g r l (get_or xs p (pos 0)) z) (sym e) (subst (λ (k : ℕ). Reached kind g r l (get_or xs k (pos 0)) t.bit) (eqb→eq t.place p q) w),
      λ w. map_in (λ (t : BatchRow). t.bit) (keep_in (λ t. eqb t.place p) (eqb_refl p) ((batch-reached (record { place = p; bit = y })).1 (h, w))),
    )

    -- each once
    bits-once : Distinct (bits_at p (batch_of kind g r l xs))
    unfolding bits_at
    bits-once =
        let at : (t : BatchRow) → t ∈ keep (λ t. eqb t.place p) (batch_of kind g r l xs) → t.place ≡ p =
        λ t m. eqb→eq t.place p (keep_out (λ t. eqb t.place p) (batch_of kind g r l xs) m).1 in
        map_distinct (λ (t : BatchRow). t.bit) (λ t u m n e. row_same (at t m ∙ sym (at u n)) e) (keep-distinct (λ t. eqb t.place p) batch-once)

    -- in ascending order they are the leaf bits that walk writes
    pub batch-walk : ascending (bits_at p (batch_of kind g r l xs)) ≡ leaf_bits kind g r l (get_or xs p (pos 0))
    batch-walk =
        ascending_unique (ascending-ordered (bits_at p (batch_of kind g r l xs))) (leaf_bits-ascending kind g r l (get_or xs p (pos 0)))
        (λ y. Iff.trans (ascending_members (bits_at p (batch_of kind g r l xs))) (Iff.trans (bits-reached y) (Iff.symm (leaf_bits-reached f))))

    -- and as many: the order loses none
    pub batch-walk_length : length (bits_at p (batch_of kind g r l xs)) ≡ length (leaf_bits kind g r l (get_or xs p (pos 0)))
    batch-walk_length =
        let bits = bits_at p (batch_of kind g r l xs) in
        let walk = leaf_bits kind g r l (get_or xs p (pos 0)) in
        let same : (y : ℤ) → y ∈ bits ↔ y ∈ walk = λ y. Iff.trans (bits-reached y) (Iff.symm (leaf_bits-reached f)) in
        omega (
          arith,
          distinct_length bits-once walk (λ y m. (same y).0 m),
          distinct_length (ascending-distinct (leaf_bits-ascending kind g r l (get_or xs p (pos 0)))) bits (λ y m. (same y).1 m),
        )
