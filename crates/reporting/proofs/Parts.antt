-- The report in its parts, and how long it is.
use mathlib.Core.Path.{◌≡◌, refl, ap, ◌∙◌}
use mathlib.Core.List.{List, [], ◌++◌, map, append_assoc, flat_map}
use Prim.Native.Nat.{◌+◌, ◌≤◌}
use native.Mathlib.Omega.{arith}
use lib.ListN.{length, length-append, length-map}
use Rattle.lists.proofs.Membership.{map_out}
use Rattle.model.specs.Bytes.{Bytes, bytes}
use Rattle.model.specs.Compare.{Finding, verdict_of, count, Result, result_of}
use Rattle.model.specs.Report.{finding_line, result_line, report}
use Rattle.model.proofs.Folds.{counts-total, verdict-low}
use Rattle.reporting.specs.Lines.{result_numbers, result_lines, report_from, max_visits, SmallResult}
use Rattle.reporting.proofs.Lines.{line-short}

-- the texts of the report
abbrev pub heading : Bytes
heading = bytes "root leaf verdict rspec rimpl wspec wimpl\n"

abbrev pub middle : Bytes
middle = bytes "\nverdict equal partial different root leaf address\n"

-- the lengths of the texts
pub heading_length : length heading ≡ 42
unfolding bytes
heading_length = refl

pub middle_length : length middle ≡ 51
unfolding bytes
middle_length = refl

-- the result, below its names
pub result_parts : (r : Result) → result_lines r ≡ middle ++ result_line r
unfolding result_lines
result_parts r = refl

pub result_length : (r : Result) → length (result_lines r) ≡ 51 + length (result_line r)
result_length r = ap length (result_parts r) ∙ length-append middle (result_line r) ∙ omega (arith, middle_length)

-- the names and the lines of the pairs, then the result
pub report_parts : (lines : Bytes) (r : Result) → report_from lines r ≡ (heading ++ lines) ++ result_lines r
unfolding report_from
report_parts lines r = simp append_assoc

pub report_length : (lines : Bytes) (r : Result) → length (report_from lines r) ≡ 42 + length lines + length (result_lines r)
report_length lines r =
    ap length (report_parts lines r) ∙ length-append (heading ++ lines) (result_lines r)
    ∙ omega (arith, length-append heading lines, heading_length)

-- a report is as much longer than one without lines as its lines are
pub report-size : (lines : Bytes) (r : Result) → length (report_from lines r) ≡ length (report_from [] r) + length lines
report-size lines r = omega (arith, report_length lines r, report_length [] r)

-- the line of the result is short
pub result-short : (r : Result) → length (result_line r) ≤ 155
unfolding result_line
result-short r = line-short (result_numbers r)

-- a report without lines is its texts and that line, and short
pub fixed_length : (r : Result) → length (report_from [] r) ≡ 93 + length (result_line r)
fixed_length r = omega (arith, report_length [] r, result_length r)

pub fixed_short : (r : Result) → length (report_from [] r) ≤ 248
fixed_short r = omega (arith, fixed_length r, result-short r)

-- the report of the findings is made from their lines and their full result
pub report-from : (fs : List Finding) → report_from (flat_map finding_line fs) (result_of fs) ≡ report fs
unfolding report_from result_lines report
report-from fs = simp append_assoc

-- the counts of at most 1,000,000 findings are small
pub result-small : (fs : List Finding) → length fs ≤ max_visits → SmallResult (result_of fs)
unfolding result_of
result-small fs h =
    let total : count 0 (map verdict_of fs) + count 1 (map verdict_of fs) + count 2 (map verdict_of fs) ≡ length fs =
    counts-total (map verdict_of fs) (λ v m. let w = map_out verdict_of fs m in rw w.2 (verdict-low w.0)) ∙ length-map fs verdict_of in
    record { equal = omega arith; partial = omega arith; different = omega arith }
