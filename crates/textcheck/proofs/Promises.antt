-- What a call that checks a text promises follows from its answer and its buffer.
use mathlib.Core.Path.{◌≡◌, refl, sym, ap, ◌∙◌}
use mathlib.Core.Bool.{Bool, true, false, cond}
use mathlib.Core.Logic.{◌≢◌, ⊎_elim}
use mathlib.Core.List.Memᴰ
use mathlib.Core.List.{List, [], ◌∷◌, ◌++◌, append_assoc, map, flat_map}
use Prim.Native.Nat.{ℕ, suc}
use native.Mathlib.Omega.{arith}
use lib.Dec.{eqb}
use lib.IntN.{ℤ}
use Rattle.integers.proofs.Tests.{Test, passed, failed, eq?}
use Rattle.lists.proofs.Membership.{map_out}
use lib.ListN.{length}
use Rattle.model.specs.Bytes.{Bytes, bytes, line_feed, shown, spaced}
use Rattle.model.specs.Compare.{Tables, Finding, findings, result_of}
use Rattle.model.specs.Refusals.{NoneHolds, compare_conditions, output_conditions}
use Rattle.model.specs.Calls.{Answer, length_of, buffer_after}
use Rattle.model.specs.MapFile.{feeds}
use Rattle.model.specs.Report.{line_of, finding_line, report, result_line}
use Rattle.model.specs.TextCheck.{report_conditions, reported_of, report_of, text_gives, text_after}
use Rattle.model.specs.Demands.{PartialByWalks}
use Rattle.model.proofs.Settled.{none-next}
use Rattle.model.proofs.Demand.{partial-by-walks}
use Rattle.filerules.proofs.Splits.{Lacks}
use Rattle.filerules.proofs.Fields.{spaced_out}
use Rattle.filerules.proofs.Words.{shown_word, word_lacks_feed}
use Rattle.filerules.proofs.TextCheck.{text-demand}
use Rattle.textcheck.specs.Promises.{LastLine, TextPromise}

-- ---- the last line

-- bytes that lack line feeds have none
lacking_feeds : (b : Bytes) → Lacks line_feed b → feeds b ≡ 0
unfolding feeds
lacking_feeds [] h = refl
lacking_feeds (c ∷ b) h = go (eqb c line_feed) (eq? c line_feed) (lacking_feeds b (λ m. h (Memᴰ.tail m)))
  where
    go : (e : Bool) → Test (c ≡ line_feed) (c ≢ line_feed) e → feeds b ≡ 0 → cond e (suc (feeds b)) (feeds b) ≡ 0
    go true (passed e) rest = absurd (h (Memᴰ.head (sym e)))
    go false (failed n) rest = rest

-- numbers with spaces between them are within one line
numbers-single : (vs : List ℤ) → feeds (spaced (map shown vs)) ≡ 0
numbers-single vs = lacking_feeds (spaced (map shown vs)) lacks
  where
    lacks : Lacks line_feed (spaced (map shown vs))
    lacks m = ⊎_elim (λ e. omega arith) (λ w. let v = map_out shown vs w.1 in word_lacks_feed (rw v.2 (shown_word v.0)) w.2) (spaced_out line_feed (map shown vs) m)

-- the names above the result line, and the line feed that ends them
names_end : bytes "\nverdict equal partial different root leaf address\n" ≡ bytes "\nverdict equal partial different root leaf address" ++ (line_feed ∷ [])
unfolding bytes
names_end = refl

-- what begins behind the names is a line of numbers, and the last
names-before : (fs : List Finding) (vs : List ℤ) → result_line (result_of fs) ≡ line_of vs → LastLine (report fs) (result_line (result_of fs))
unfolding report line_of
names-before fs vs e =
    let names = bytes "root leaf verdict rspec rimpl wspec wimpl\n" in
    let lines = flat_map finding_line fs in
    let above = bytes "\nverdict equal partial different root leaf address" in
    let line = result_line (result_of fs) in
    record {
      upper = names ++ lines ++ above;
      words = spaced (map shown vs);
      begins = ap (λ (b : Bytes). names ++ lines ++ b ++ line) names_end ∙ ap (λ (b : Bytes). b ++ line) (sym (append_assoc (names ++ lines) above (line_feed ∷ [])))
          ∙ append_assoc (names ++ lines ++ above) (line_feed ∷ []) line;
      ends = e;
      single = numbers-single vs;
    }

-- the report's last line states the result
pub report-ends : (fs : List Finding) → LastLine (report fs) (result_line (result_of fs))
unfolding result_line
report-ends fs = names-before fs _ refl

-- ---- the promise

-- where tables and report meet no condition, partial says of each pair what it says by walks
report-partial : (room : ℕ) (t : Tables) → NoneHolds (report_conditions room t) → PartialByWalks t
unfolding report_conditions
report-partial room t unmet = partial-by-walks t ((none-next (compare_conditions t) (output_conditions (length (report (findings t))) room)).0 unmet).0

-- a call whose answer and buffer are those defined keeps the promise
pub text_promise : {A : Type 0} (form : Answer ℕ → A) (text before : Bytes) {after : Bytes} {given : A} → given ≡ form (text_gives text before)
    → after ≡ text_after text before → TextPromise form text before after given
unfolding text_gives text_after length_of report_of buffer_after reported_of
text_promise form text before e b =
    record {
      answer = e;
      buffer = b;
      demand = λ t keeps unmet. let demand = text-demand (length before) text t keeps unmet in (
        e ∙ ap (λ a. form (length_of (report_of a))) demand.0,
        record {
          stands = b ∙ ap (λ a. buffer_after (report_of a) before) demand.0;
          last_line = report-ends (findings t);
          demand3 = demand.1;
          partial = report-partial (length before) t unmet;
        },
      );
    }
