-- The bitmapping list that is asked for: refused, or given.
use Rattle.std.specs.Prelude.{Err, Ok}
use mathlib.Core.Path.{◌≡◌, refl, ap, ◌∙◌}
use mathlib.Core.List.{List, map}
use mathlib.Core.Option.{Option, none, some}
use Prim.Native.Nat.{ℕ, ◌*◌, ◌≤◌}
use native.Mathlib.Omega.{arith}
use lib.IntN.{ℤ}
use lib.ListN.{length, take, length-take, length-map}
use Rattle.model.specs.declared.WalkKind.{WalkKind}
use Rattle.model.specs.Limits.{record_width, max_paths}
use Rattle.model.specs.Graph.{graph_of, node}
use Rattle.model.specs.Runs.{list_of, runs}
use Rattle.model.specs.Runs as runs
use Rattle.model.specs.Refusals.{Refusal}
use Rattle.model.specs.Calls.{refused, full, answer, numbers_of}
use Rattle.model.specs.Answers.{refusal_of}
use Rattle.model.specs.declared.Reason.{Reason}
use Rattle.model.proofs.Normalisation.{normal_length}
use Rattle.model.proofs.Walks.{runs-within-paths}
use Rattle.normalisation.proofs.Normalising.{numbers_length}
use Rattle.tables.proofs.Checks.{checked}
use Rattle.asked.specs.Asking.{check_asked, ListedAsked}
use Rattle.asked.proofs.Answers.{asked-few}

-- the answer of a check, with a result
module _ {A : Type 0} (a : A) where
  given_refused : (c : Option Refusal) {x : Refusal} → (refused x ≡ checked c → refused x ≡ answer c a) × (refused x ≡ answer c a → refused x ≡ checked c)
  unfolding answer
  given_refused none = (λ e. let z : ◌≡◌ {A = ℕ} 0 1 = cc in absurd (omega arith), λ e. let z : ◌≡◌ {A = ℕ} 0 1 = cc in absurd (omega arith))
  given_refused (some y) = (λ e. cc, λ e. cc)

  given_full : (c : Option Refusal) {b : A} → full b ≡ answer c a → (full tt ≡ checked c) × (b ≡ a)
  unfolding answer
  given_full none e = (refl, cc)
  given_full (some y) e = let z : ◌≡◌ {A = ℕ} 0 1 = cc in absurd (omega arith)

  given_taken : (c : Option Refusal) → full tt ≡ checked c → full a ≡ answer c a
  unfolding answer
  given_taken none e = refl
  given_taken (some y) e = let z : ◌≡◌ {A = ℕ} 0 1 = cc in absurd (omega arith)

module _ (kind : WalkKind) (ns es : List ℤ) (r l : ℤ) where
  abbrev list_length : ℕ
  list_length = length (list_of kind (graph_of ns es) r l)

  -- ---- refused

  -- what is asked for is refused
  pub listed-refused : (reason : Reason) (work : List ℤ) → refused (refusal_of reason) ≡ checked (check_asked ns es r l) → ListedAsked kind ns es r l (Err reason) work
  listed-refused reason work e =
      record { answers = (given_refused list_length (check_asked ns es r l)).0 e; numbers = λ n k. let z : ◌≡◌ {A = ℕ} 0 1 = cc in absurd (omega arith) }

  -- and then with this refusal
  pub refused-listed : {reason : Reason} {work : List ℤ} → ListedAsked kind ns es r l (Err reason) work → refused (refusal_of reason) ≡ checked (check_asked ns es r l)
  refused-listed p = (given_refused list_length (check_asked ns es r l)).1 p.answers

  -- ---- given

  -- what is asked for is taken, and listed
  pub listed_given : {n : ℕ} {work : List ℤ} → full tt ≡ checked (check_asked ns es r l) → n ≡ length (list_of kind (graph_of ns es) r l)
      → take (record_width * n) work ≡ numbers_of (list_of kind (graph_of ns es) r l) → ListedAsked kind ns es r l (Ok n) work
  listed_given taken count numbers =
      record {
        answers = ap full count ∙ given_taken list_length (check_asked ns es r l) taken;
        numbers = λ m e. let same = count_same e in rw (← same) numbers;
      }
    where
      count_same : {n m : ℕ} → full n ≡ full m → n ≡ m
      count_same e = cc

  -- and then these are the records
  module _ {n : ℕ} {work : List ℤ} (p : ListedAsked kind ns es r l (Ok n) work) where
    pub given_asked : full tt ≡ checked (check_asked ns es r l)
    given_asked = (given_full list_length (check_asked ns es r l) p.answers).0

    pub given_count : n ≡ length (list_of kind (graph_of ns es) r l)
    given_count = (given_full list_length (check_asked ns es r l) p.answers).1

    pub given_numbers : take (record_width * n) work ≡ numbers_of (list_of kind (graph_of ns es) r l)
    given_numbers = p.numbers n refl

    -- so there is room for them
    pub given_room : record_width * n ≤ length work
    given_room =
        omega (arith, length-take (record_width * n) work, ap length given_numbers, numbers_length (list_of kind (graph_of ns es) r l), given_count)

  -- a list has no more records than there are paths
  pub list-few : full tt ≡ checked (check_asked ns es r l) → length (list_of kind (graph_of ns es) r l) ≤ max_paths
  unfolding list_of
  list-few taken =
      let g = graph_of ns es in
      let records = runs.record_of (node g l) in
      omega (arith, asked-few ns es r l taken, runs-within-paths kind g r l, length-map (runs kind g r l) records, normal_length (map records (runs kind g r l)))
