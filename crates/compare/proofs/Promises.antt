-- The answer of a comparison, by what the checks of its tables give, keeps its promise.
use Rattle.std.specs.Prelude.{Err, Ok, Result}
use mathlib.Core.Path.{◌≡◌, refl, ap, ◌∙◌}
use mathlib.Core.Option.{none, some}
use Rattle.model.specs.Compare.{Tables, findings, result_of}
use Rattle.model.specs.Checks.{check_tables}
use Rattle.model.specs.Calls.{full, answer, compare_answer}
use Rattle.model.specs.Answers.{refusal_of, compared_answer, comparison_result}
use Rattle.model.specs.declared.Reason.{Reason}
use Rattle.model.specs.declared.Comparison.{Comparison}
use Rattle.model.proofs.Demand.{compare_full, demand3, partial-by-walks}
use Rattle.compare.specs.Promises.{ComparePromise}

module _ {t : Tables} where
  -- an answer that is the one defined keeps the promise
  answer_promise : {r : Result Comparison Reason} → compared_answer r ≡ compare_answer t → ComparePromise t r
  answer_promise e = record {
    answer = e;
    demand = λ h. (result_of (findings t), e ∙ compare_full t h, demand3 t h (result_of (findings t)) (compare_full t h));
    partial = partial-by-walks t;
  }

  -- the refusal of tables that are refused
  pub promise_refused : {reason : Reason} → check_tables t ≡ some (refusal_of reason) → ComparePromise t (Err reason)
  unfolding compare_answer answer
  promise_refused e = answer_promise (rw e refl)

  -- the full result of others
  pub promise_full : {c : Comparison} → check_tables t ≡ none → comparison_result c ≡ result_of (findings t) → ComparePromise t (Ok c)
  unfolding compare_answer answer
  promise_full e same = answer_promise (rw e (ap full same))
