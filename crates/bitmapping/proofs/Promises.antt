-- What list and walk promise, in each of their outcomes: what they are asked for is refused, the output is too long, or it fits.
use Rattle.std.specs.Prelude.{Err, Result}
use mathlib.Core.Path.{◌≡◌, refl, sym, ap, subst, ◌∙◌}
use mathlib.Core.Logic.{◌↔◌}
use mathlib.Core.List.{List}
use mathlib.Core.Option.{Option, none, some}
use Prim.Native.Nat.{ℕ}
use native.Mathlib.Omega.{arith}
use lib.IntN.{ℤ}
use lib.ListN.{length}
use Rattle.lists.specs.Lists.{◌∈◌}
use Rattle.model.specs.declared.WalkKind.{WalkKind}
use Rattle.model.specs.Graph.{graph_of}
use Rattle.model.specs.Walk.{Reached}
use Rattle.model.specs.Bitmapping.{Record, IsBitmappingList}
use Rattle.model.specs.Runs.{list_of}
use Rattle.model.specs.Calls.{Answer, refused, full, answer, length_of, buffer_after, leaf_bits, walk_answer, walk_gives, walk_after}
use Rattle.model.specs.Calls.{numbers_of, list_answer, numbers_answer, list_gives, list_after}
use Rattle.model.specs.Refusals.{Refusal}
use Rattle.model.specs.Answers.{refusal_of, written_answer}
use Rattle.model.specs.declared.Reason.{Reason}
use Rattle.model.proofs.Taken.{taken-fit}
use Rattle.model.proofs.ListLaw.{list_of_reached}
use Rattle.model.proofs.WalkCall.{nil, cons, leaf_bits-reached, leaf_bits-ascending}
use Rattle.model.proofs.WalkCall as call
use Rattle.tables.proofs.Checks.{checked}
use Rattle.bitmapping.specs.Promises as promises
use Rattle.bitmapping.specs.Promises.{ListStands, ListPromise, Ascending, more, WalkStands, WalkPromise}
use Rattle.asked.specs.Asking.{check_asked}
use Rattle.bitmapping.specs.Copying.{Copied}
use Rattle.asked.proofs.Answers.{asked-tables, asked-leaf, single-refused, single_passes, single_given}

-- the length of the output, and the numbers of the records, of an answer
answer_length : {A : Type 0} (c : Option Refusal) (out : List A) → length_of (answer c out) ≡ answer c (length out)
unfolding answer length_of
answer_length none out = refl
answer_length (some q) out = refl

answer-numbers : (c : Option Refusal) (out : List Record) → numbers_answer (answer c out) ≡ answer c (numbers_of out)
unfolding answer numbers_answer
answer-numbers none out = refl
answer-numbers (some q) out = refl

-- ---- list

module _ (kind : WalkKind) (ns es : List ℤ) (r l : ℤ) where
  -- the records that list gives are the bitmapping list
  pub list_given : (room : ℕ) (records : List Record) → list_answer kind ns es r l room ≡ full records → IsBitmappingList kind (graph_of ns es) r l records
  unfolding list_answer
  list_given room records e =
      let g = graph_of ns es in
      let given = single_given (list_of kind g r l) ns es r l (length (numbers_of (list_of kind g r l))) room e in
      subst (IsBitmappingList kind g r l) given.1 (list_of_reached (taken-fit (asked-tables ns es r l given.0).graph (asked-leaf ns es r l given.0)))

  module _ (old : List ℤ) where
    -- what the answer and the buffer are fixes what stands there
    list_promise : (given : Result ℕ Reason) (new : List ℤ) → written_answer given ≡ list_gives kind ns es r l old → new ≡ list_after kind ns es r l old
        → ListPromise kind ns es r l old given new
    unfolding list_gives list_after length_of buffer_after numbers_answer
    list_promise given new a b = record { answer = a; buffer = b; reached = λ n e. go n (list_answer kind ns es r l (length old)) refl (sym a ∙ e) b }
      where
        go : (n : ℕ) (x : Answer (List Record)) → list_answer kind ns es r l (length old) ≡ x → length_of x ≡ full n → new ≡ buffer_after (numbers_answer x) old
            → ListStands kind (graph_of ns es) r l n old new
        go n (refused q) h k c = let z : ◌≡◌ {A = ℕ} 0 1 = cc in absurd (omega arith)
        go n (full records) h k c = record { records = records; count = cc; stands = c; reached = list_given (length old) records h }

    -- what it is asked for is refused
    pub list-refused : (reason : Reason) → refused (refusal_of reason) ≡ checked (check_asked ns es r l) → ListPromise kind ns es r l old (Err reason) old
    unfolding list_answer list_gives list_after length_of buffer_after numbers_answer
    list-refused reason e =
        let out = list_of kind (graph_of ns es) r l in
        let stops = single-refused out ns es r l (length (numbers_of out)) (length old) e in
        list_promise (Err reason) old (sym (ap length_of stops)) (sym (ap (λ a. buffer_after (numbers_answer a) old) stops))

    -- it is taken, and the numbers of the records are copied where they fit
    pub list-taken : full tt ≡ checked (check_asked ns es r l) → {records : ℕ} {new : List ℤ} {given : Result ℕ Reason} → records ≡ length (list_of kind (graph_of ns es) r l)
        → Copied (numbers_of (list_of kind (graph_of ns es) r l)) records old given new → ListPromise kind ns es r l old given new
    unfolding list_answer list_gives list_after
    list-taken taken {given = given} count c =
        let out = list_of kind (graph_of ns es) r l in
        let passes = single_passes out ns es r l (length (numbers_of out)) (length old) taken in
        list_promise given _ (rw (passes, answer_length, ← count) c.answers) (rw (passes, answer-numbers) c.buffer)

-- ---- walk

-- a list that is ascending in the model's terms is
ascending-same : {bits : List ℤ} → call.Ascending bits → Ascending bits
ascending-same nil = promises.none
ascending-same (cons low rest) = more low (ascending-same rest)

module _ (kind : WalkKind) (ns es : List ℤ) (r l x : ℤ) where
  -- the leaf bits that walk gives are those that the address reaches
  pub walk_given : (room : ℕ) (bits : List ℤ) → walk_answer kind ns es r l x room ≡ full bits → (y : ℤ) → (y ∈ bits) ↔ Reached kind (graph_of ns es) r l x y
  unfolding walk_answer
  walk_given room bits e y =
      let g = graph_of ns es in
      let given = single_given (leaf_bits kind g r l x) ns es r l (length (leaf_bits kind g r l x)) room e in
      subst (λ (found : List ℤ). (y ∈ found) ↔ Reached kind g r l x y) given.1
      (leaf_bits-reached (taken-fit (asked-tables ns es r l given.0).graph (asked-leaf ns es r l given.0)))

  -- and ascending
  pub walk-ascending : (room : ℕ) (bits : List ℤ) → walk_answer kind ns es r l x room ≡ full bits → Ascending bits
  unfolding walk_answer
  walk-ascending room bits e =
      let g = graph_of ns es in
      let given = single_given (leaf_bits kind g r l x) ns es r l (length (leaf_bits kind g r l x)) room e in
      subst Ascending given.1 (ascending-same (leaf_bits-ascending kind g r l x))

  module _ (old : List ℤ) where
    -- what the answer and the buffer are fixes what stands there
    walk_promise : (given : Result ℕ Reason) (new : List ℤ) → written_answer given ≡ walk_gives kind ns es r l x old → new ≡ walk_after kind ns es r l x old
        → WalkPromise kind ns es r l x old given new
    unfolding walk_gives walk_after length_of buffer_after
    walk_promise given new a b = record { answer = a; buffer = b; reached = λ n e. go n (walk_answer kind ns es r l x (length old)) refl (sym a ∙ e) b }
      where
        go : (n : ℕ) (w : Answer (List ℤ)) → walk_answer kind ns es r l x (length old) ≡ w → length_of w ≡ full n → new ≡ buffer_after w old
            → WalkStands kind (graph_of ns es) r l x n old new
        go n (refused q) h k c = let z : ◌≡◌ {A = ℕ} 0 1 = cc in absurd (omega arith)
        go n (full bits) h k c =
            record { bits = bits; count = cc; stands = c; reached = walk_given (length old) bits h; ascending = walk-ascending (length old) bits h }

    -- what it is asked for is refused
    pub walk_refused : (reason : Reason) → refused (refusal_of reason) ≡ checked (check_asked ns es r l)
        → WalkPromise kind ns es r l x old (Err reason) old
    unfolding walk_answer walk_gives walk_after length_of buffer_after
    walk_refused reason e =
        let out = leaf_bits kind (graph_of ns es) r l x in
        let stops = single-refused out ns es r l (length out) (length old) e in
        walk_promise (Err reason) old (sym (ap length_of stops)) (sym (ap (λ a. buffer_after a old) stops))

    -- it is taken, and the leaf bits are copied where they fit
    pub walk-taken : full tt ≡ checked (check_asked ns es r l) → {bits : ℕ} {new : List ℤ} {given : Result ℕ Reason} → bits ≡ length (leaf_bits kind (graph_of ns es) r l x)
        → Copied (leaf_bits kind (graph_of ns es) r l x) bits old given new → WalkPromise kind ns es r l x old given new
    unfolding walk_answer walk_gives walk_after
    walk-taken taken {given = given} count c =
        let out = leaf_bits kind (graph_of ns es) r l x in
        let passes = single_passes out ns es r l (length out) (length old) taken in
        walk_promise given _ (rw (passes, answer_length) (rw count at c.answers)) (rw passes c.buffer)
