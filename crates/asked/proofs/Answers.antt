-- The answer of a call that is asked for a root and a leaf: the checks one after the other, and then the length of its output.
use Rattle.std.specs.Prelude.{Err, Result}
use mathlib.Core.Path.{◌≡◌, refl, sym, ◌∙◌}
use mathlib.Core.List.{List}
use mathlib.Core.Option.{Option, none, some}
use Prim.Native.Nat.{ℕ, ◌≤◌, ◌<◌}
use native.Mathlib.Omega.{arith}
use borrow.Author.Tests.{lt-ltb, le-ltb}
use lib.IntN.{ℤ}
use lib.ListN.{length}
use Rattle.model.specs.Limits.{max_paths}
use Rattle.model.specs.Graph.{graph_of}
use Rattle.model.specs.Paths.{Root, Leaf}
use Rattle.model.specs.Runs.{paths}
use Rattle.model.specs.Refusals.{Refusal}
use Rattle.model.specs.Checks.{when, ◌then◌, check_graph, check_named, check_output, check_single}
use Rattle.model.specs.Calls.{refused, full, answer}
use Rattle.model.specs.Answers.{numbered, refusal_of}
use Rattle.model.specs.declared.Reason.{Reason}
use Rattle.model.specs.Taken.{TakenTables}
use Rattle.tables.proofs.Checks.{checked, then_on, then_stops}
use Rattle.depth.proofs.GraphCheck.{checked_taken}
use Rattle.named.specs.Naming.{Counted}
use Rattle.named.proofs.Answers.{then_both, named-root, named-leaf, named-few}
use Rattle.asked.specs.Asking.{check_asked}

-- ---- what a call is asked for

module _ (ns es : List ℤ) (r l : ℤ) (old new : List ℕ) where
  -- its graph is refused
  pub asked-refused : (reason : Reason) → refused (refusal_of reason) ≡ checked (check_graph 0 ns es)
      → Counted (check_asked ns es r l) ns es l old (Err reason) new
  unfolding check_asked
  asked-refused reason e =
      record {
        answers = then_stops (check_graph 0 ns es) (check_named (graph_of ns es) r l) e;
        counted = λ q. absurd (let z : ◌≡◌ {A = ℕ} 0 1 = cc in omega arith);
      }

  -- its graph is taken: the rest is up to the root and the leaf
  pub asked-named : {given : Result (Unit {0}) Reason} → full tt ≡ checked (check_graph 0 ns es) → Counted (check_named (graph_of ns es) r l) ns es l old given new
      → Counted (check_asked ns es r l) ns es l old given new
  unfolding check_asked
  asked-named e c =
      record { answers = c.answers ∙ sym (then_on (check_graph 0 ns es) (check_named (graph_of ns es) r l) e); counted = c.counted }

-- what is asked for is taken
module _ (ns es : List ℤ) (r l : ℤ) (taken : full tt ≡ checked (check_asked ns es r l)) where
  pub asked_parts : (full tt ≡ checked (check_graph 0 ns es)) × (full tt ≡ checked (check_named (graph_of ns es) r l))
  unfolding check_asked
  asked_parts = then_both (check_graph 0 ns es) (check_named (graph_of ns es) r l) taken

  -- the tables of the graph are taken
  pub asked-tables : TakenTables ns es
  asked-tables = checked_taken 0 ns es asked_parts.0

  -- the named root is one
  pub asked-root : Root (graph_of ns es) r
  asked-root = named-root (graph_of ns es) r l asked_parts.1

  -- the named leaf is one
  pub asked-leaf : Leaf (graph_of ns es) l
  asked-leaf = named-leaf (graph_of ns es) r l asked_parts.1

  -- there are no more paths than the limit
  pub asked-few : length (paths (graph_of ns es) r l) ≤ max_paths
  asked-few = named-few (graph_of ns es) r l asked_parts.1

-- ---- the answer of the call

module _ {A : Type 0} (a : A) where
  -- the refusal of the first of two checks is the answer
  answer_stops : (c d : Option Refusal) {x : Refusal} → refused x ≡ checked c → answer (c then d) a ≡ refused x
  unfolding answer ◌then◌
  answer_stops none d e = let z : ◌≡◌ {A = ℕ} 0 1 = cc in absurd (omega arith)
  answer_stops (some y) d e = cc

  -- a check that gives no refusal leaves the answer to the next
  answer_passes : (c d : Option Refusal) → full tt ≡ checked c → answer (c then d) a ≡ answer d a
  unfolding answer ◌then◌
  answer_passes none d e = refl
  answer_passes (some y) d e = let z : ◌≡◌ {A = ℕ} 0 1 = cc in absurd (omega arith)

  -- where a result is given, the first of two checks gave no refusal, and the result is that of the call
  answer_given : (c d : Option Refusal) {x : A} → answer (c then d) a ≡ full x → (full tt ≡ checked c) × (a ≡ x)
  unfolding answer ◌then◌
  answer_given none none e = (refl, cc)
  answer_given none (some y) e = let z : ◌≡◌ {A = ℕ} 0 1 = cc in absurd (omega arith)
  answer_given (some y) d e = let z : ◌≡◌ {A = ℕ} 0 1 = cc in absurd (omega arith)

  module _ (ns es : List ℤ) (r l : ℤ) (size room : ℕ) where
    -- the check of the call is that of what it is asked for, then that of its output
    single-asked : answer (check_single ns es r l size room) a ≡ answer (check_asked ns es r l then check_output size room) a
    unfolding check_single check_asked ◌then◌
    single-asked = go (check_graph 0 ns es)
      where
        go : (c : Option Refusal) → answer (c then (check_named (graph_of ns es) r l then check_output size room)) a
            ≡ answer ((c then check_named (graph_of ns es) r l) then check_output size room) a
        go none = refl
        go (some x) = refl

    -- what it is asked for is refused
    pub single-refused : {x : Refusal} → refused x ≡ checked (check_asked ns es r l) → answer (check_single ns es r l size room) a ≡ refused x
    single-refused e = single-asked ∙ answer_stops (check_asked ns es r l) (check_output size room) e

    -- what it is asked for is taken: the rest is up to its output
    pub single_passes : full tt ≡ checked (check_asked ns es r l) → answer (check_single ns es r l size room) a ≡ answer (check_output size room) a
    single_passes e = single-asked ∙ answer_passes (check_asked ns es r l) (check_output size room) e

    -- its output is too long
    pub single-long : full tt ≡ checked (check_asked ns es r l) → room < size → answer (check_single ns es r l size room) a ≡ refused (numbered 11 7 0)
    unfolding answer check_output when
    single-long e h = single_passes e ∙ rw (lt-ltb room size h)

    -- its output fits
    pub single-full : full tt ≡ checked (check_asked ns es r l) → size ≤ room → answer (check_single ns es r l size room) a ≡ full a
    unfolding answer check_output when
    single-full e h = single_passes e ∙ rw (le-ltb room size h)

    -- where it gives a result, what it is asked for is taken, and the result is its own
    pub single_given : {x : A} → answer (check_single ns es r l size room) a ≡ full x → (full tt ≡ checked (check_asked ns es r l)) × (a ≡ x)
    single_given e = answer_given (check_asked ns es r l) (check_output size room) (sym single-asked ∙ e)
