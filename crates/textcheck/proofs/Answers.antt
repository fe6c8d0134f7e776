-- From the reader and the check of tables to the answer of the text check.
use Rattle.std.specs.Prelude.{Result, Ok, Err}
use mathlib.Core.Path.{◌≡◌, refl, subst, ap, ◌∙◌}
use Prim.Native.Nat.{ℕ, ◌≤◌}
use native.Mathlib.Omega.{arith}
use lib.IntN.{ℤ}
use lib.ListN.{length, drop, length-append}
use mathlib.Core.List.{List}
use Rattle.model.specs.Bytes.{Bytes}
use Rattle.model.specs.Compare.{Tables}
use Rattle.model.specs.Calls.{Answer, refused, full, length_of, buffer_after}
use Rattle.model.specs.Answers.{refusal_of}
use Rattle.model.specs.Reader.{read_map}
use Rattle.model.specs.TextCheck.{Reported, check_read, text_answer, report_of, text_gives, text_after}
use Rattle.model.specs.declared.Reason.{Reason}
use Rattle.mapfile.specs.declared.Sizes.{Sizes}
use Rattle.mapfile.specs.Tables.{Stored}
use Rattle.mapfile.specs.Given.{front, TablesRead, ReadGiven}
use Rattle.mapfile.proofs.Cut.{front-answers}
use Rattle.tablecheck.specs.declared.Reported.{Reported as Given}
use Rattle.tablecheck.specs.Outcomes.{measured_of, outcome_answer, Gives}
use Rattle.textcheck.specs.Fronts.{WithinSizes}
use Rattle.textcheck.specs.Lengths.{length_alone}

-- what is stored lies within the slice
stored_within : {numbers before after : List ℤ} {n : ℕ} → Stored numbers before after n → n ≤ length after
stored_within {numbers} {before} {n} s = omega (arith, s.count, ap length s.stands ∙ length-append numbers (drop n before))

-- what the reader gives where it does not refuse
pub given_tables : {z : Sizes} (text : Bytes) (before after : Tables) (r : Result Sizes Reason) → ReadGiven text before after r → r ≡ Ok z
    → TablesRead text before after z
given_tables text before after r g e = subst (λ (x : Result Sizes Reason). ReadGiven text before after x) e g

module _ {text : Bytes} where
  -- the tables that were read lie within the slices
  pub read-within : {before after : Tables} {z : Sizes} → TablesRead text before after z → WithinSizes after z
  read-within r = record {
    spec_nodes = stored_within r.spec_nodes;
    spec_edges = stored_within r.spec_edges;
    impl_nodes = stored_within r.impl_nodes;
    impl_edges = stored_within r.impl_edges;
    root_pairs = stored_within r.root_pairs;
    leaf_pairs = stored_within r.leaf_pairs;
  }

  -- the check of the tables that were read is that of the text
  pub read_gives : {before after : Tables} {z : Sizes} {report out : Bytes} {o : Result Given Reason} → TablesRead text before after z
      → Gives (check_read (length report) (full (front after z))) report out o → Gives (text_answer (length report) text) report out o
  read_gives {report} {out} {o} r g = subst (λ a. Gives a report out o) (front-answers r (length report)) g

-- a refusal of the reader is that of the text check, and the buffer is untouched
pub read-refused : {r : Reason} (text report : Bytes) → read_map text ≡ refused (refusal_of r)
    → Gives (text_answer (length report) text) report report (Err r)
unfolding text_answer check_read measured_of report_of buffer_after
read-refused text report e = rw e (record { answers = refl; buffer = refl })

-- the length alone is that of the report
length-alone : (a : Answer Reported) → length_alone (measured_of a) ≡ length_of (report_of a)
unfolding length_alone measured_of length_of report_of
length-alone (refused r) = refl
length-alone (full c) = refl

-- the length alone of an outcome is that of its answer
pub gives_length : {a : Answer Reported} {before after : Bytes} {o : Result Given Reason} → Gives a before after o → length_alone (outcome_answer o) ≡ length_of (report_of a)
gives_length {a} g = ap length_alone g.answers ∙ length-alone a

module _ (text : Bytes) {report after : Bytes} {o : Result Given Reason} (g : Gives (text_answer (length report) text) report after o) where
  -- what the text check returns
  pub given_length : length_alone (outcome_answer o) ≡ text_gives text report
  unfolding text_gives
  given_length = gives_length g

  -- and what its buffer holds afterwards
  pub given_buffer : after ≡ text_after text report
  unfolding text_after
  given_buffer = g.buffer
