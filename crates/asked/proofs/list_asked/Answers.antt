-- What is asked for is refused, or it is listed.
use mathlib.Core.Path.{◌≡◌, refl}
use lib.IntN.{pos, nat_abs}
use lib.ListN.{replicate}
use mir.Syntax.{w64}
use mir.Val.{to_z, of_z}
use mir.Facts.{to_z-of_z}
use Rattle.std.proofs.lemmas.Result.{err_from_is_err_and}
use Rattle.model.specs.Limits.{max_nodes}
use Rattle.model.specs.Calls.{full}
use Rattle.tables.proofs.Cells.{index_fits, index_same}
use Rattle.tables.proofs.Checks.{checked}
use Rattle.asked.specs.Asking.{check_asked}
use Rattle.asked.proofs.Answers.{asked-root, asked-leaf}
use Rattle.asked.proofs.Counts.{asked-ready}
use Rattle.asked.proofs.Listed.{listed-refused, listed_given}
use Rattle.asked.proofs.list_asked.Goals.{In_ok-check_asked}
use Rattle.asked.proofs.list_asked.Goals as goal

taken : (c : In_ok-check_asked) → let a = c.args in
    full tt ≡ checked (check_asked a.nodes.now a.edges.now a.root a.leaf)
taken c = simp (to_z-of_z, c.ranges.root, c.ranges.leaf) at c.in_ok-check_asked.ensures.answers

root-same : (c : In_ok-check_asked) → let a = c.args in pos (nat_abs (to_z w64 (of_z w64 a.root))) ≡ a.root
root-same c = index_same c.ranges.root (asked-root _ _ _ _ (taken c)).row.low

leaf-same : (c : In_ok-check_asked) → let a = c.args in pos (nat_abs (to_z w64 (of_z w64 a.leaf))) ≡ a.leaf
leaf-same c = index_same c.ranges.leaf (asked-leaf _ _ _ _ (taken c)).row.low

pub returns-in_err-check_asked : goal.returns-in_err-check_asked
returns-in_err-check_asked c =
    let p = err_from_is_err_and c.from_residual.result c.from_residual.ensures.1 in
    rw (p.1, p.2)
    (listed-refused _ _ _ _ _ _ _ (simp (to_z-of_z, c.ranges.root, c.ranges.leaf) at c.in_err-check_asked.ensures.answers))

pub overflow_cast-root : goal.overflow_cast-root
overflow_cast-root c = index_fits c.ranges.root (asked-root _ _ _ _ (taken c)).row.low

pub overflow_cast-leaf : goal.overflow_cast-leaf
overflow_cast-leaf c = index_fits c.ranges.leaf (asked-leaf _ _ _ _ (taken c)).row.low

pub list_pair-requires : goal.list_pair-requires
list_pair-requires c =
    let h = (goal.at.list_pair-requires c).In_ok-check_asked in
    asked-ready c.args.nodes.now c.args.edges.now c.args.root c.args.leaf (taken h) _ _ (root-same h) (leaf-same h) (replicate max_nodes 0)
    (simp (to_z-of_z, c.ranges.leaf) at (c.in_ok-check_asked.ensures.counted refl))
    c.requires

pub returns : goal.returns
returns c =
    let h = (goal.at.returns c).In_ok-check_asked in
    listed_given _ _ _ _ _ (taken h) (rw (root-same h, leaf-same h) at c.list_pair.ensures.value) (rw (root-same h, leaf-same h) at c.list_pair.ensures.work_after)
