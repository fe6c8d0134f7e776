-- The text check answers exactly: it refuses with the refusal of the first condition that holds, text, tables, output, and reports
-- exactly when none holds. Demand 3 holds of what it reports.
use mathlib.Core.Path.{◌≡◌, refl, sym, ap, subst, ◌∙◌}
use mathlib.Core.List.{List}
use mathlib.Core.Option.{Option, none, some}
use Prim.Native.Nat.{ℕ}
use native.Mathlib.Omega.{arith}
use lib.ListN.{length}
use Rattle.model.specs.Bytes.{Bytes}
use Rattle.model.specs.MapFile.{file_conditions}
use Rattle.model.specs.FileRules.{KeepsRules, TablesOf}
use Rattle.model.specs.Compare.{Tables, findings, result_of}
use Rattle.model.specs.Refusals.{Refusal, Condition, NoneHolds, ◌next◌, compare_conditions, output_conditions}
use Rattle.model.specs.Checks.{◌then◌, check_tables, check_output}
use Rattle.model.specs.Calls.{Answer, refused, full}
use Rattle.model.specs.Report.{report}
use Rattle.model.specs.Reader.{read_map}
use Rattle.model.specs.TextCheck.{Reported, reported_of, check_read, text_answer, report_conditions, text_conditions}
use Rattle.model.specs.Demands.{Demand3}
use Rattle.model.proofs.Checks.{answer_only}
use Rattle.model.proofs.Settled.{Settled, none-next, settled_next, Exact}
use Rattle.model.proofs.SingleChecks.{output_settled}
use Rattle.model.proofs.Pairing.{compare_settled}
use Rattle.model.proofs.Demand.{compare_full, demand3}
use Rattle.filerules.proofs.Refusals.{refusal_in, answer-refusal, read_settles, settled_answers}
use Rattle.filerules.proofs.Tables.{read_keeps, rules-conditions, rules_unique}

-- the check of tables that were read, with room for so many bytes of report
check_reported : ℕ → Tables → Option Refusal
check_reported room t = check_tables t then check_output (length (report (findings t))) room

reported_settles : (room : ℕ) (t : Tables) → Settled (check_reported room t) (report_conditions room t)
unfolding check_reported report_conditions
reported_settles room t =
    let size = length (report (findings t)) in
    settled_next (check_tables t) (check_output size room) (compare_conditions t) (output_conditions size room) (compare_settled t) (λ h. output_settled size room)

-- what was read, refused or not, with the conditions of the file before
read_next : (room : ℕ) (t : Tables) (given : Answer Tables) → ((u : Tables) → given ≡ full u → u ≡ t) → (cs : List Condition)
    → Settled (refusal_in given) cs → Settled (refusal_in (check_read room given)) (cs next report_conditions room t)
unfolding check_read ◌then◌ check_reported
read_next room t (refused r) same cs s = settled_next (some r) (check_reported room t) cs (report_conditions room t) s (λ h. reported_settles room t)
read_next room t (full u) same cs s =
    let all = settled_next none (check_reported room t) cs (report_conditions room t) s (λ h. reported_settles room t) in
    let e : refusal_in (check_read room (full u)) ≡ check_reported room t =
    answer-refusal (check_reported room u) (reported_of (findings u)) ∙ ap (check_reported room) (same u refl) in
    subst (λ (c : Option Refusal). Settled c (cs next report_conditions room t)) (sym e) all

module _ (room : ℕ) (text : Bytes) (t : Tables) (tables : TablesOf text t) where
  -- what the reader gives are the tables of the text
  read-tables : (u : Tables) → read_map text ≡ full u → u ≡ t
  read-tables u e = tables u ((read_keeps text u).0 e)

  -- the text check settles its conditions
  pub text_settles : Settled (refusal_in (text_answer room text)) (text_conditions room text t)
  unfolding text_answer text_conditions
  text_settles = read_next room t (read_map text) read-tables (file_conditions text) (read_settles text)

  -- where the answer is full, it is the report on the tables of the text
  full_reported : (given : Answer Tables) → ((u : Tables) → given ≡ full u → u ≡ t) → (x : Reported) → check_read room given ≡ full x → x ≡ reported_of (findings t)
  unfolding check_read check_reported
  full_reported (refused r) same x e = cc
  full_reported (full u) same x e = sym (answer_only (reported_of (findings u)) (check_reported room u) e) ∙ ap (λ (w : Tables). reported_of (findings w)) (same u refl)

  -- the text check refuses exactly with the refusal of the first condition that holds, and gives the report on the tables of the text
  -- exactly when none holds
  pub text-exact : Exact (text_answer room text) (reported_of (findings t)) (text_conditions room text t)
  unfolding text_answer
  text-exact =
      let both = settled_answers (text_answer room text) (text_conditions room text t) text_settles in
      record {
        refuses = both.refuses;
        gives = (
          λ e. both.gives.0 (reported_of (findings t), e),
          λ h. let w = both.gives.1 h in w.1 ∙ ap full (full_reported (read_map text) read-tables w.0 w.1),
        );
      }

-- ---- demand 3

-- a text that keeps the file rules, and whose tables and report meet no condition, has a full answer: the report of exactly these tables; and
-- demand 3 holds of the result that it states
pub text-demand : (room : ℕ) (text : Bytes) (t : Tables) → KeepsRules text t → NoneHolds (report_conditions room t)
    → (text_answer room text ≡ full (reported_of (findings t))) × Demand3 t (result_of (findings t))
unfolding text_conditions report_conditions
text-demand room text t keeps unmet =
    let tables = ((none-next (compare_conditions t) (output_conditions (length (report (findings t))) room)).0 unmet).0 in (
      (text-exact room text t (λ u k. rules_unique text u t k keeps)).gives.1
          ((none-next (file_conditions text) (report_conditions room t)).1 ((rules-conditions text).0 (t, keeps), unmet)),
      demand3 t tables (result_of (findings t)) (compare_full t tables),
    )

-- tables that were checked with a full answer were read
checked_read : (room : ℕ) (given : Answer Tables) (c : Reported) → check_read room given ≡ full c → (t : Tables) × (given ≡ full t)
unfolding check_read
checked_read room (refused r) c e = absurd (let z : ◌≡◌ {A = ℕ} 0 1 = cc in omega arith)
checked_read room (full t) c e = (t, refl)

-- and a text has a full answer only there: it keeps the file rules with some tables, and these and their report meet no condition
pub text-demand_only : (room : ℕ) (text : Bytes) (c : Reported) → text_answer room text ≡ full c
    → (t : Tables) × (KeepsRules text t × NoneHolds (report_conditions room t))
unfolding text_answer text_conditions
text-demand_only room text c e =
    let w = checked_read room (read_map text) c e in
    let t = w.0 in
    let keeps = (read_keeps text t).0 w.1 in
    let settles = text_settles room text t (λ u k. rules_unique text u t k keeps) in
    let none = (settled_answers (text_answer room text) (text_conditions room text t) settles).gives.0 (c, e) in
    (t, (keeps, ((none-next (file_conditions text) (report_conditions room t)).0 none).1))
