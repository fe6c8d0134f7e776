-- The call that reads a sheet answers exactly: it refuses with the refusal of the first condition that holds, text, lines, output, and gives its lines'
-- tables exactly when none holds.
use mathlib.Core.Path.{◌≡◌, refl, sym, ap, subst, ◌∙◌}
use mathlib.Core.List.{List}
use mathlib.Core.Option.{Option, none, some}
use Prim.Native.Nat.{ℕ, ◌<◌}
use lib.Dec.{ltb}
use lib.ListN.{length}
use Rattle.lists.proofs.Decisions.{decides_lt}
use Rattle.model.specs.Limits.{max_edges}
use Rattle.model.specs.Bytes.{Bytes}
use Rattle.model.specs.Refusals.{Refusal, Condition, NoneHolds, refuse, ◌next◌, output_conditions}
use Rattle.model.specs.Checks.{when, ◌then◌, check_output}
use Rattle.model.specs.Calls.{Answer, refused, full}
use Rattle.model.specs.Sheet.{SheetLine, sheet_nodes, sheet_edges}
use Rattle.model.specs.SheetFile.{KeepsSheet, LinesOf, sheet_file_conditions, read_sheet}
use Rattle.model.specs.SheetCall.{made_conditions, check_made, made, made_of, sheet_answer, sheet_conditions}
use Rattle.model.proofs.Checks.{answer_only}
use Rattle.model.proofs.Settled.{Settled, none-next, settled_next, settled_when, Exact}
use Rattle.model.proofs.SingleChecks.{output_settled}
use Rattle.filerules.proofs.Refusals.{refusal_in, answer-refusal, settled_answers}
use Rattle.filerules.proofs.Sheets.{sheet_keeps, sheet_unique, sheet_settles, sheet-conditions}

-- the check of the lines settles their conditions
made_settles : (node_room edge_room : ℕ) (ls : List SheetLine) → Settled (check_made node_room edge_room ls) (made_conditions node_room edge_room ls)
unfolding check_made made_conditions
made_settles node_room edge_room ls =
    let nodes = length (sheet_nodes ls) in
    let edges = length (sheet_edges ls) in
    settled_next (when (ltb max_edges (length ls)) 1 1 0) (check_output nodes node_room then check_output edges edge_room) (refuse 1 1 0 (max_edges < length ls))
    (output_conditions nodes node_room next output_conditions edges edge_room)
    (settled_when 1 1 0 (decides_lt max_edges (length ls)))
    (λ h. settled_next (check_output nodes node_room) (check_output edges edge_room) (output_conditions nodes node_room) (output_conditions edges edge_room)
    (output_settled nodes node_room) (λ k. output_settled edges edge_room))

module _ (node_room edge_room : ℕ) (ls : List SheetLine) where
  -- what was read, refused or not, with the conditions of the text before
  made-next : (given : Answer (List SheetLine)) → ((ks : List SheetLine) → given ≡ full ks → ks ≡ ls) → (cs : List Condition) → Settled (refusal_in given) cs
      → Settled (refusal_in (made_of node_room edge_room given)) (cs next made_conditions node_room edge_room ls)
  unfolding made_of made ◌then◌
  made-next (refused r) same cs s =
      settled_next (some r) (check_made node_room edge_room ls) cs (made_conditions node_room edge_room ls) s (λ h. made_settles node_room edge_room ls)
  made-next (full ks) same cs s =
      let all = settled_next none (check_made node_room edge_room ls) cs (made_conditions node_room edge_room ls) s (λ h. made_settles node_room edge_room ls) in
      let e : refusal_in (made_of node_room edge_room (full ks)) ≡ check_made node_room edge_room ls =
      answer-refusal (check_made node_room edge_room ks) ks ∙ ap (check_made node_room edge_room) (same ks refl) in
      subst (λ (c : Option Refusal). Settled c (cs next made_conditions node_room edge_room ls)) (sym e) all

  -- where the answer is full, it has the lines of the text
  made-full : (given : Answer (List SheetLine)) → ((ks : List SheetLine) → given ≡ full ks → ks ≡ ls) → (x : List SheetLine)
      → made_of node_room edge_room given ≡ full x → x ≡ ls
  unfolding made_of made
  made-full (refused r) same x e = cc
  made-full (full ks) same x e = sym (answer_only ks (check_made node_room edge_room ks) e) ∙ same ks refl

  module _ (text : Bytes) (lines : LinesOf text ls) where
    -- what the reader gives are the lines of the text
    read-lines : (ks : List SheetLine) → read_sheet text ≡ full ks → ks ≡ ls
    read-lines ks e = lines ks ((sheet_keeps text ks).0 e)

    -- the call refuses exactly with the refusal of the first condition that holds, and gives the lines of the text exactly when none holds
    pub sheet_exact : Exact (sheet_answer node_room edge_room text) ls (sheet_conditions node_room edge_room text ls)
    unfolding sheet_answer sheet_conditions
    sheet_exact =
        let settles = made-next (read_sheet text) read-lines (sheet_file_conditions text) (sheet_settles text) in
        let both = settled_answers (sheet_answer node_room edge_room text) (sheet_conditions node_room edge_room text ls) settles in
        record {
          refuses = both.refuses;
          gives = (
            λ e. both.gives.0 (ls, e),
            λ h. let w = both.gives.1 h in w.1 ∙ ap full (made-full (read_sheet text) read-lines w.0 w.1),
          );
        }

-- a text that keeps the rules, and whose tables meet no condition, has a full answer: its lines
pub sheet_full : (node_room edge_room : ℕ) (text : Bytes) (ls : List SheetLine) → KeepsSheet text ls → NoneHolds (made_conditions node_room edge_room ls)
    → sheet_answer node_room edge_room text ≡ full ls
unfolding sheet_conditions
sheet_full node_room edge_room text ls keeps unmet =
    (sheet_exact node_room edge_room ls text (λ ks k. sheet_unique text ks ls k keeps)).gives.1
    ((none-next (sheet_file_conditions text) (made_conditions node_room edge_room ls)).1 ((sheet-conditions text).0 (ls, keeps), unmet))
