-- The names, the lines of the pairs and the result, each behind what stands already.
use mathlib.Core.Path.{◌≡◌}
use mathlib.Core.List.{◌++◌, flat_map}
use Prim.Native.Nat.{ℕ, ◌+◌, ◌-◌, ◌≤◌}
use native.Mathlib.Omega.{arith}
use lib.ListN.{length, take, drop, length-append}
use Rattle.model.specs.Bytes.{Bytes}
use Rattle.model.specs.Compare.{findings}
use Rattle.model.specs.Report.{finding_line}
use Rattle.model.specs.Answers.{comparison_result}
use Rattle.pairing.specs.Pairs.{tables_of}
use Rattle.report.specs.Put.{Put}
use Rattle.report.proofs.Tail.{tail_length, put_tail, put_length}
use Rattle.reporting.specs.Lines.{result_lines}
use Rattle.reporting.proofs.Parts.{heading, heading_length, report_parts, report_length}
use Rattle.tablecheck.proofs.put_report.Goals.{After-put_pairs, Start}
use Rattle.tablecheck.proofs.put_report.Goals as goal

-- the lines of the pairs
abbrev lines : Start → Bytes
lines s =
    let a = s.args in
    flat_map finding_line
    (findings (tables_of a.spec_nodes.now a.spec_edges.now a.impl_nodes.now a.impl_edges.now a.root_pairs.now a.leaf_pairs.now))

-- the names, the lines and the result fit
room : (s : Start) → 42 + length (lines s) + length (result_lines (comparison_result s.args.kept.result)) ≤ length s.args.out.now
room s = omega (arith, report_length (lines s) (comparison_result s.args.kept.result), s.requires.2)

module _ (p : After-put_pairs) where
  abbrev first : Bytes
  first = p.put_heading-at.new.out

  abbrev at : ℕ
  at = p.put_heading-at.result

  abbrev joined : Bytes
  joined = take at first ++ (p.put_pairs.new.out ++ drop (length first - at) (drop at first))

  done : Put (heading ++ lines (goal.at.After-put_pairs p).Start) p.args.out.now joined (at + p.put_pairs.result)
  done = put_tail p.put_heading-at.ensures p.put_pairs.ensures

  done-count : at + p.put_pairs.result ≡ 42 + length (lines (goal.at.After-put_pairs p).Start)
  done-count = omega (arith, done.count, heading_length, length-append heading (lines (goal.at.After-put_pairs p).Start))

  done-length : length joined ≡ length p.args.out.now
  done-length = put_length done (omega (arith, done.count, done-count, room (goal.at.After-put_pairs p).Start))

pub put_heading-at-requires : goal.put_heading-at-requires
put_heading-at-requires c = omega (arith, heading_length, room (goal.at.put_heading-at-requires c).Start)

pub slice_bounds-put_pairs-count : goal.slice_bounds-put_pairs-count
slice_bounds-put_pairs-count c = omega (arith, c.put_heading-at.ensures.count, c.put_heading-at.auto.out, heading_length, room (goal.at.slice_bounds-put_pairs-count c).Start)

pub slice_bounds-put_pairs-start : goal.slice_bounds-put_pairs-start
slice_bounds-put_pairs-start c = omega (arith, c.put_heading-at.ensures.count, c.put_heading-at.auto.out, heading_length, room (goal.at.slice_bounds-put_pairs-start c).Start)

pub put_pairs-requires : goal.put_pairs-requires
put_pairs-requires c = (
  c.requires.0,
  rw (tail_length c.put_heading-at.new.out c.put_heading-at.result)
      (omega (arith, c.put_heading-at.ensures.count, c.put_heading-at.auto.out, heading_length, room (goal.at.put_pairs-requires c).Start)),
)

pub overflow_add-at : goal.overflow_add-at
overflow_add-at c =
    omega (arith, done-count (goal.at.overflow_add-at c).After-put_pairs, room (goal.at.overflow_add-at c).Start)

pub slice_bounds-put_ending-count : goal.slice_bounds-put_ending-count
slice_bounds-put_ending-count c = omega (arith, done-count (goal.at.slice_bounds-put_ending-count c).After-put_pairs, done-length (goal.at.slice_bounds-put_ending-count c).After-put_pairs, room (goal.at.slice_bounds-put_ending-count c).Start)

pub slice_bounds-put_ending-start : goal.slice_bounds-put_ending-start
slice_bounds-put_ending-start c = omega (arith, done-count (goal.at.slice_bounds-put_ending-start c).After-put_pairs, done-length (goal.at.slice_bounds-put_ending-start c).After-put_pairs, room (goal.at.slice_bounds-put_ending-start c).Start)

pub put_ending-requires : goal.put_ending-requires
put_ending-requires c =
    (c.requires.1, rw (tail_length (joined (goal.at.put_ending-requires c).After-put_pairs) (at (goal.at.put_ending-requires c).After-put_pairs + c.put_pairs.result)) (omega (arith, done-count (goal.at.put_ending-requires c).After-put_pairs, done-length (goal.at.put_ending-requires c).After-put_pairs, room (goal.at.put_ending-requires c).Start)))

pub overflow_add-result : goal.overflow_add-result
overflow_add-result c =
    omega (arith, done-count (goal.at.overflow_add-result c).After-put_pairs, c.put_ending.ensures.count, room (goal.at.overflow_add-result c).Start)

pub returns : goal.returns
returns c =
    rw (report_parts (lines (goal.at.returns c).Start) (comparison_result c.args.kept.result)) (put_tail (done (goal.at.returns c).After-put_pairs) c.put_ending.ensures)
