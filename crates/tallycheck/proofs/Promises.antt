-- From what the parts of a check give to what the check promises.
use Rattle.std.specs.Prelude.{Result, Ok, Err}
use Rattle.std.specs.Prelude as std
use mathlib.Core.Path.{◌≡◌, refl, sym, ap, subst, ◌∙◌}
use mathlib.Core.List.{List}
use mathlib.Core.Option.{Option, none, some}
use Prim.Native.Nat.{ℕ}
use lib.IntN.{ℤ}
use lib.ListN.{length}
use Rattle.model.specs.Bytes.{Bytes}
use Rattle.model.specs.Calls.{Answer, length_of, buffer_after}
use Rattle.model.specs.TextCheck.{Reported, text_answer, report_of, text_gives, text_after}
use Rattle.model.specs.Tally.{Check, Caller, caller_of, answer_to, tally_answer, tally_gives, tally_after, ending, one_more_for, counts_after}
use Rattle.model.specs.declared.Reason.TheVariants as reason
use Rattle.model.proofs.Tally.{caller-some, caller-none, caller-known}
use Rattle.tablecheck.specs.declared.Reported.{Reported as Given}
use Rattle.tablecheck.specs.Outcomes.{measured_of, Gives}
use Rattle.textcheck.specs.Promises.{as_it_is, TextPromise}
use Rattle.textcheck.proofs.Promises.{text_promise}
use Rattle.tallylaws.proofs.Answers.{answer-caller, answer-outside}
use Rattle.tallylaws.proofs.Counts.{after_outside}
use Rattle.tally.specs.Callers.{caller_named, OneOfSixteen}
use Rattle.tallycheck.specs.Promises.{OutsideAnswered, TallyPromise}
use Rattle.model.specs.declared.Reason.{Reason}

-- ---- who asks

-- a number outside 0..15 is refused with 15, and the buffer is untouched
pub outside_gives : (a : Answer Reported) (report : Bytes) → Gives (answer_to none a) report report (Err reason.NoCaller)
unfolding answer_to measured_of report_of buffer_after
outside_gives a report = record { answers = refl; buffer = refl }

-- a caller is answered by the text check
pub caller_gives : (k : ℕ) {a : Answer Reported} {before after : Bytes} {o : Result Given Reason} → Gives a before after o → Gives (answer_to (some k) a) before after o
unfolding answer_to
caller_gives k g = g

-- the caller that has the number is one of sixteen
pub asks_sixteen : (w : std.Option ℕ) (z : ℤ) → caller_named w ≡ caller_of z → OneOfSixteen w
asks_sixteen (std.Some k) z e = ((caller-some z k).0 (sym e)).1
asks_sixteen std.None z e = tt

-- what the one who has the number is given is what the check gives
pub asks_gives : (c : Check) (o : Option ℕ) {after : Bytes} {x : Result Given Reason} → o ≡ caller_of c.caller
    → Gives (answer_to o (text_answer (length c.report) c.text)) c.report after x → Gives (tally_answer c) c.report after x
unfolding tally_answer
asks_gives c o {after} {x} e g = subst (λ (p : Option ℕ). Gives (answer_to p (text_answer (length c.report) c.text)) c.report after x) e g

-- and the record with one more where it ended is the record after the check
pub asks_counts : (c : Check) (counts : List ℕ) {o : Option ℕ} {v : ℕ} → o ≡ caller_of c.caller → v ≡ ending c → one_more_for o v counts ≡ counts_after c counts
unfolding counts_after
asks_counts c counts e f = rw (e, f)

-- ---- the promise

-- a check whose answer, buffer and counts are those defined keeps the promise
module _ (c : Check) (counts : List ℕ) {report : Bytes} {given : Answer ℕ} {counted : List ℕ} (answer : given ≡ tally_gives c) (buffer : report ≡ tally_after c)
    (tally : counted ≡ counts_after c counts) where
  caller_promised : Caller c.caller → TextPromise as_it_is c.text c.report report given
  unfolding tally_gives tally_after text_gives text_after
  caller_promised known =
      let same = answer-caller c (caller-known c.caller known).1 in
      text_promise as_it_is c.text c.report (answer ∙ ap (λ (a : Answer Reported). length_of (report_of a)) same)
      (buffer ∙ ap (λ (a : Answer Reported). buffer_after (report_of a) c.report) same)

  outside_promised : (Caller c.caller → ⊥) → OutsideAnswered c counts report given counted
  unfolding tally_gives tally_after length_of report_of buffer_after
  outside_promised outside =
      let same = answer-outside c ((caller-none c.caller).1 outside) in
      record {
        answer = answer ∙ ap (λ (a : Answer Reported). length_of (report_of a)) same;
        buffer = buffer ∙ ap (λ (a : Answer Reported). buffer_after (report_of a) c.report) same;
        tally = tally ∙ after_outside c counts outside;
      }

  pub tally_promise : TallyPromise c counts report given counted
  tally_promise = record { answer = answer; buffer = buffer; tally = tally; caller = caller_promised; outside = outside_promised }
