-- What a check answers, and how it ended: 15 exactly for a number outside 0..15, and else as the text check answers.
use mathlib.Core.Path.{◌≡◌, refl, ap, ◌∙◌}
use mathlib.Core.List.{List}
use mathlib.Core.Logic.{◌↔◌}
use mathlib.Core.Option.{Option, none, some}
use Prim.Native.Nat.{ℕ, ◌≤◌, ◌<◌}
use native.Mathlib.Omega.{arith}
use lib.ListN.{length}
use Rattle.model.specs.Limits.{count_kinds}
use Rattle.model.specs.Compare.{Tables, Finding, findings, result_of}
use Rattle.model.specs.FileRules.{KeepsRules, TablesOf}
use Rattle.model.specs.Refusals.{Refusal, NoneHolds}
use Rattle.model.specs.Checks.{◌then◌, check_tables, check_output}
use Rattle.model.specs.Calls.{Answer, refused, full, answer}
use Rattle.model.specs.Report.{report}
use Rattle.model.specs.Reader.{read_map}
use Rattle.model.specs.TextCheck.{Reported, reported_of, check_read, text_answer, report_conditions}
use Rattle.model.specs.Tally.{Check, Caller, tally_conditions, caller_of, answer_to, tally_answer, ending_of, ending}
use Rattle.model.proofs.Folds.{whole-low}
use Rattle.model.proofs.Tally.{caller-none, caller-within, caller-known}
use Rattle.model.proofs.Settled.{Exact, exact-first, exact_after}
use Rattle.filerules.proofs.TextCheck.{text-exact, text-demand}

-- ---- what a check answers

-- a caller is answered by the text check
pub answer-caller : (c : Check) {k : ℕ} → caller_of c.caller ≡ some k → tally_answer c ≡ text_answer (length c.report) c.text
unfolding tally_answer answer_to
answer-caller c e = rw e

-- a number outside 0..15 is refused with 15
pub answer-outside : (c : Check) → caller_of c.caller ≡ none → tally_answer c ≡ refused (record { number = 15; table = 7; row = 0 })
unfolding tally_answer answer_to
answer-outside c e = rw e

-- the check refuses exactly with the refusal of the first condition that holds, 15 before any other, and gives the report on the tables of the text
-- exactly when none holds
pub tally-exact : (c : Check) (t : Tables) → TablesOf c.text t → Exact (tally_answer c) (reported_of (findings t)) (tally_conditions c t)
unfolding tally_conditions
tally-exact c t tables = go (caller_of c.caller) refl
  where
    go : (o : Option ℕ) → caller_of c.caller ≡ o → Exact (tally_answer c) (reported_of (findings t)) (tally_conditions c t)
    go none e = rw (answer-outside c e) (exact-first 15 7 0 (reported_of (findings t)) _ ((caller-none c.caller).0 e))
    go (some k) e =
        rw (answer-caller c e)
        (exact_after 15 7 0 (λ outside. outside (caller-within c.caller k e)) (text-exact (length c.report) c.text t tables))

-- ---- how it ended

-- the whole verdict of a report is at most 2
abbrev Low : Answer Reported → Type 0
Low (full x) = x.verdict ≤ 2
Low (refused r) = Unit {0}

checked_low : (o : Option Refusal) (fs : List Finding) → Low (answer o (reported_of fs))
unfolding answer reported_of
checked_low none fs = whole-low fs
checked_low (some r) fs = tt

read_low : (room : ℕ) (given : Answer Tables) → Low (check_read room given)
unfolding check_read
read_low room (refused r) = tt
read_low room (full t) = checked_low (check_tables t then check_output (length (report (findings t))) room) (findings t)

to_low_lem : (o : Option ℕ) (a : Answer Reported) → Low a → Low (answer_to o a)
unfolding answer_to
to_low_lem none a h = tt
to_low_lem (some k) a h = h

answer-low : (c : Check) → Low (tally_answer c)
unfolding tally_answer text_answer
answer-low c = to_low_lem (caller_of c.caller) (text_answer (length c.report) c.text) (read_low (length c.report) (read_map c.text))

-- every check ends in one of four ways
pub ending-kind : (c : Check) → ending c < count_kinds
unfolding ending_of
ending-kind c = go (tally_answer c) (answer-low c)
  where
    go : (a : Answer Reported) → Low a → ending_of a < count_kinds
    go (refused r) h = omega arith
    go (full x) h = omega (arith, h)

-- it ended as refused exactly if it was refused
pub ending-refused : (c : Check) → (ending c ≡ 3) ↔ ((r : Refusal) × (tally_answer c ≡ refused r))
unfolding ending_of
ending-refused c = go (tally_answer c) (answer-low c)
  where
    go : (a : Answer Reported) → Low a → (ending_of a ≡ 3) ↔ ((r : Refusal) × (a ≡ refused r))
    go (refused r) h = (λ e. (r, refl), λ w. refl)
    go (full x) h = (λ e. absurd (omega (arith, h, e)), λ w. absurd (let e = w.1 in let z : ◌≡◌ {A = ℕ} 0 1 = cc in omega arith))

-- a caller's check of a text that keeps the file rules, and whose tables and report meet no condition, ended by the whole verdict of the result of
-- which the text check promises demand 3
pub ending-verdict : (c : Check) (t : Tables) → Caller c.caller → KeepsRules c.text t → NoneHolds (report_conditions (length c.report) t)
    → ending c ≡ (result_of (findings t)).verdict
unfolding ending_of reported_of
ending-verdict c t known keeps unmet =
    let w = caller-known c.caller known in
    ap ending_of (answer-caller c w.1 ∙ (text-demand (length c.report) c.text t keeps unmet).0)
