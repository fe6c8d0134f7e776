-- Marks of the nodes that earlier rows of a pair table have, and the check of the rows one by one with them.
use mathlib.Core.Path.{◌≡◌, refl, sym, ap, subst, ◌∙◌}
use mathlib.Core.Bool.{Bool, true, false, ◌&&◌, ◌||◌}
use mathlib.Core.Logic.{◌≢◌, ◌⊎◌, inl, inr, ⊎_elim}
use mathlib.Core.List.{List}
use mathlib.Core.Option.{Option}
use Prim.Native.Nat.{ℕ, suc, ◌+◌, ◌*◌, ◌≤◌, ◌<◌}
use native.Mathlib.Numerals.{add-one}
use native.Mathlib.Omega.{arith}
use lib.Dec.{T, eqb}
use lib.IntN.{ℤ, pos}
use lib.Signed.{◌≤ℤ◌, ◌<ℤ◌}
use lib.ListN.{length, get_or, set, drop, replicate, length-set, length-replicate, get_or-replicate}
use lib.Seq.{get_or-set_same, get_or-set_other}
use Rattle.integers.proofs.Linear.{ints}
use Rattle.integers.proofs.Tests.{Test, passed, failed, eq?, is_true, T_true, and_out}
use Rattle.lists.specs.Lists.{any}
use Rattle.lists.proofs.Decisions.{Decides, decides_as, decides_or}
use Rattle.model.specs.Limits.{pair_width}
use Rattle.model.specs.Rows.{Pair, pairs_from, pair_rows}
use Rattle.model.specs.Refusals.{Refusal, PairedBefore}
use Rattle.model.specs.Checks.{when, ◌then◌, clashes, check_pair}
use Rattle.model.specs.Calls.{refused, full}
use Rattle.model.specs.Answers.{numbered}
use Rattle.model.proofs.Pairing.{same_root?, same_impl?, paired_before?}
use Rattle.tables.specs.Tables.{pair_at}
use Rattle.tables.proofs.Limits.{decides_same}
use Rattle.tables.proofs.Checks.{checked, Left, left_none, left_on, left_stops}
use Rattle.tables.proofs.Rows.{pairs-rest, pairs_end, pair_member, pair_own}
use Rattle.pairing.specs.Classes.{has_class}
use Rattle.pairing.specs.Pairs.{same_by, check_pairs, Unmarked, check_at, check_row}
use Rattle.pairing.proofs.Classes.{class_index}
use Rattle.pairing.proofs.Pairs.{pair_refused, pair_classed}

-- ---- marks of one side: node_of q is the node of row q

-- a node of the first k rows
abbrev pub Among : (ℕ → ℤ) → ℕ → ℤ → Type 0
Among node_of k v = (q : ℕ) × (q < k) × (node_of q ≡ v)

-- marks that are all false are not set
pub unmarked_zeros : (n : ℕ) {count : ℕ} → count ≤ n → Unmarked count (replicate n false)
unmarked_zeros n h = record { room = omega (arith, length-replicate {A = Bool} n false); unset = λ v k. get_or-replicate n v false false (omega (arith, k)) }

-- the mark of a node that a row has decides whether it may stand once
mark_told : {P : Type 0} (once : Bool) → P → Decides (T once × P) once
mark_told true p = passed (tt, p)
mark_told false p = failed (λ w. w.0)

-- of so many nodes exactly those of the first k rows are marked where a node may stand once, and else none
pub record Marked (once : Bool) (node_of : ℕ → ℤ) (count k : ℕ) (marks : List Bool) : Type 0 where
  pub room : count ≤ length marks
  pub each : (v : ℕ) → v < count → Decides (T once × Among node_of k (pos v)) (get_or marks v false)

module _ {once : Bool} {node_of : ℕ → ℤ} {count : ℕ} where
  -- before the first row no node is marked
  marked-none : {marks : List Bool} → Unmarked count marks → Marked once node_of count 0 marks
  marked-none {marks} u =
      record {
        room = u.room;
        each = λ v h.
            subst (λ (t : Bool). Decides (T once × Among node_of 0 (pos v)) t) (sym (u.unset v h))
            (failed (λ w. omega (arith, w.1.1)));
      }

  -- the node of the next row gets its mark
  marked_more : {k : ℕ} {marks : List Bool} (i : ℕ) → pos i ≡ node_of k → i < count → Marked once node_of count k marks
      → Marked once node_of count (suc k) (set marks i once)
  marked_more {k} {marks} i e h m =
      record { room = omega (arith, m.room, length-set marks i once); each = λ v j. go v (eqb i v) (eq? i v) (m.each v j) }
    where
      earlier : (v : ℕ) → i ≢ v → Among node_of (suc k) (pos v) → Among node_of k (pos v)
      earlier v n w = go (eqb w.0 k) (eq? w.0 k)
        where
          go : (t : Bool) → Test (w.0 ≡ k) (w.0 ≢ k) t → Among node_of k (pos v)
          go true (passed q) = absurd (n (let r : pos i ≡ pos v = e ∙ ap node_of (sym q) ∙ w.2 in omega (arith, ints, r)))
          go false (failed q) = (w.0, omega (arith, w.1, q), w.2)

      go : (v : ℕ) (t : Bool) → Test (i ≡ v) (i ≢ v) t → Decides (T once × Among node_of k (pos v)) (get_or marks v false)
          → Decides (T once × Among node_of (suc k) (pos v)) (get_or (set marks i once) v false)
      go v true (passed q) d =
          subst (λ (c : Bool). Decides (T once × Among node_of (suc k) (pos v)) c)
          (sym (ap (λ j. get_or (set marks i once) j false) (sym q) ∙ get_or-set_same marks i once false (omega (arith, h, m.room))))
          (mark_told once (k, omega arith, sym e ∙ ap pos q))
      go v false (failed n) d =
          subst (λ (c : Bool). Decides (T once × Among node_of (suc k) (pos v)) c) (sym (get_or-set_other marks i v once false (λ q. n (sym q))))
          (decides_as (λ w. (w.0, (w.1.0, omega (arith, w.1.1), w.1.2)), λ w. (w.0, earlier v n w.1)) d)

-- ---- both sides

-- two rows are the same: a specification node in common, where it may stand once, or an implementation node
abbrev SameBy : Bool → Pair → Pair → Type 0
SameBy specOnce q p = (T specOnce × (q.spec ≡ p.spec)) ⊎ (q.impl ≡ p.impl)

-- the test on two rows decides it
same_by? : (specOnce : Bool) (q p : Pair) → Decides (SameBy specOnce q p) (same_by specOnce q p)
same_by? true q p = decides_as (λ c. ⊎_elim (λ e. inl (tt, e)) inr c, λ c. ⊎_elim (λ e. inl e.1) inr c) (same_root? q p)
same_by? false q p = decides_as (inr, λ c. ⊎_elim (λ e. absurd e.0) (λ e. e) c) (same_impl? q p)

module _ (ps : List ℤ) where
  -- the specification's and the implementation's node of row k
  abbrev pub spec_at : ℕ → ℤ
  spec_at k = (pair_at ps k).spec

  abbrev pub impl_at : ℕ → ℤ
  impl_at k = (pair_at ps k).impl

  -- an earlier row is the same as row k exactly where one of its two nodes is marked
  before-marked : {specOnce : Bool} {specs impls k : ℕ} {specMarks implMarks : List Bool} → Marked specOnce spec_at specs k specMarks
      → Marked true impl_at impls k implMarks
      → pair_width * k + pair_width ≤ length ps → (s i : ℕ) → pos s ≡ spec_at k → pos i ≡ impl_at k → s < specs → i < impls
      → any (clashes (same_by specOnce) (pair_at ps k)) (pair_rows ps) ≡ (get_or specMarks s false) || (get_or implMarks i false)
  before-marked {specOnce} {k} m n there s i q r h j =
      decides_same (paired_before? (same_by? specOnce) (pair_rows ps) (pair_at ps k))
      (decides_as (λ c. ⊎_elim spec_row impl_row c, marks) (decides_or (m.each s h) (n.each i j)))
    where
      Before : Type 0
      Before = PairedBefore (SameBy specOnce) (pair_rows ps) (pair_at ps k)

      spec_row : T specOnce × Among spec_at k (pos s) → Before
      spec_row (o, w) =
          record { earlier = pair_at ps w.0; row = pair_member ps w.0 (omega (arith, w.1)); before = w.1; same = inl (o, w.2 ∙ q) }

      impl_row : T true × Among impl_at k (pos i) → Before
      impl_row (o, w) = record { earlier = pair_at ps w.0; row = pair_member ps w.0 (omega (arith, w.1)); before = w.1; same = inr (w.2 ∙ r) }

      marks : Before → (T specOnce × Among spec_at k (pos s)) ⊎ (T true × Among impl_at k (pos i))
      marks b =
          let own = sym (pair_own ps b.row).1 in
          ⊎_elim (λ e. inl (e.0, (b.earlier.row, b.before, ap (λ p. p.spec) own ∙ e.1 ∙ sym q)))
          (λ e. inr (tt, (b.earlier.row, b.before, ap (λ p. p.impl) own ∙ e ∙ sym r)))
          b.same

-- ---- the rows, one by one

module _ (ps : List ℤ) (t wanted : ℕ) (most : ℤ) (specOnce : Bool) (specClass implClass : List ℕ) where
  -- the check of a row
  abbrev check_of : Pair → Option Refusal
  check_of = check_pair t (has_class specClass wanted) (has_class implClass wanted) most (same_by specOnce) (pair_rows ps)

  -- the state between two turns: the first k rows are not refused, and their nodes have their marks
  pub record Passed (specMarks implMarks : List Bool) (k : ℕ) : Type 0 where
    pub within : pair_width * k ≤ length ps
    pub left : Left check_of (pair_rows ps) (pairs_from k (drop (pair_width * k) ps))
    pub specs : Marked specOnce (spec_at ps) (length specClass) k specMarks
    pub impls : Marked true (impl_at ps) (length implClass) k implMarks

  -- before the first turn
  pub passed_start : {specMarks implMarks : List Bool} → Unmarked (length specClass) specMarks → Unmarked (length implClass) implMarks
      → Passed specMarks implMarks 0
  passed_start u w =
      record { within = omega arith; left = refl; specs = marked-none u; impls = marked-none w }

module _ {ps : List ℤ} {t wanted : ℕ} {most : ℤ} {specOnce : Bool} {specClass implClass : List ℕ} {specMarks implMarks : List Bool} {k : ℕ}
    (p : Passed ps t wanted most specOnce specClass implClass specMarks implMarks k)
  where
    -- the tests on the nodes of a row, and on those of row k
    abbrev spec_test : ℤ → Bool
    spec_test = has_class specClass wanted

    abbrev impl_test : ℤ → Bool
    impl_test = has_class implClass wanted

    abbrev both_test : Bool
    both_test = spec_test (spec_at ps k) && impl_test (impl_at ps k)

    -- behind the last row none is refused
    pub passed_end : length ps < pair_width * k + pair_width → full tt ≡ checked (check_pairs t spec_test impl_test most (same_by specOnce) ps)
    passed_end h = left_none _ _ p.left (pairs_end ps k h)

    module _ (there : pair_width * k + pair_width ≤ length ps) where
      -- a row with a node that has not the wanted class is refused
      pub passed-refused : both_test ≡ false → refused (numbered 7 t k) ≡ checked (check_pairs t spec_test impl_test most (same_by specOnce) ps)
      passed-refused e =
          left_stops _ _ p.left (pairs-rest ps k there) (pair_refused t spec_test impl_test most (same_by specOnce) (pair_rows ps) (pair_at ps k) e)

      module _ (good : both_test ≡ true) where
        tests : T (spec_test (spec_at ps k)) × T (impl_test (impl_at ps k))
        tests = and_out (spec_test (spec_at ps k)) (impl_test (impl_at ps k)) (T_true both_test good)

        -- the nodes of a row that have the wanted class are among those with a class
        pub spec_classed : (pos 0 ≤ℤ spec_at ps k) × (spec_at ps k <ℤ pos (length specClass))
        spec_classed = class_index specClass wanted (spec_at ps k) (is_true (spec_test (spec_at ps k)) tests.0)

        pub impl_classed : (pos 0 ≤ℤ impl_at ps k) × (impl_at ps k <ℤ pos (length implClass))
        impl_classed = class_index implClass wanted (impl_at ps k) (is_true (impl_test (impl_at ps k)) tests.1)

        module _ (s i : ℕ) (q : pos s ≡ spec_at ps k) (r : pos i ≡ impl_at ps k) where
          spec-below : s < length specClass
          spec-below = omega (arith, ints, q, spec_classed.1)

          impl-below : i < length implClass
          impl-below = omega (arith, ints, r, impl_classed.1)

          -- so both have a mark
          pub nodes-marked : (s < length specMarks) × (i < length implMarks)
          nodes-marked = (omega (arith, spec-below, p.specs.room), omega (arith, impl-below, p.impls.room))

          -- what is left of the check of the row, by the marks of its nodes
          abbrev row_check : Option Refusal
          row_check = check_row t most (get_or specMarks s false) (get_or implMarks i false) (pair_at ps k)

          -- the marks tell whether an earlier row is the same
          row_left : check_pair t spec_test impl_test most (same_by specOnce) (pair_rows ps) (pair_at ps k) ≡ row_check
          row_left =
              pair_classed t spec_test impl_test most (same_by specOnce) (pair_rows ps) (pair_at ps k) good
              ∙ ap (λ b. check_at t most (pair_at ps k) then when b 8 t k) (before-marked ps p.specs p.impls there s i q r spec-below impl-below)

          -- a row that is refused gives the answer
          pub passed_stops : {x : Refusal} → refused x ≡ checked row_check → refused x ≡ checked (check_pairs t spec_test impl_test most (same_by specOnce) ps)
          passed_stops e = left_stops _ _ p.left (pairs-rest ps k there) (e ∙ ap checked (sym row_left))

          -- a row that is not refused is left behind, and its nodes get their marks
          pub passed-next : full tt ≡ checked row_check
              → Passed ps t wanted most specOnce specClass implClass (set specMarks s specOnce) (set implMarks i true) (k + 1)
          passed-next e =
              rw add-one
              (record {
                within = omega arith;
                left = left_on _ _ p.left (pairs-rest ps k there) (e ∙ ap checked (sym row_left));
                specs = marked_more s q spec-below p.specs;
                impls = marked_more i r impl-below p.impls;
              })
