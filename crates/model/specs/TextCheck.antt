-- The text check, its answer in C, and what mapcheck prints. Assumes nothing.
use Rattle.std.specs.Prelude.{List, ℕ, ◌+◌, ◌*◌, ℤ, pos, neg_ℤ, length}
use Rattle.model.specs.Limits.{report_room}
use Rattle.model.specs.Bytes.{Bytes}
use Rattle.model.specs.MapFile.{file_conditions}
use Rattle.model.specs.Reader.{read_map}
use Rattle.model.specs.Compare.{Tables, Finding, findings, result_of}
use Rattle.model.specs.Refusals.{Condition, ◌next◌, compare_conditions, output_conditions}
use Rattle.model.specs.Checks.{◌then◌, check_tables, check_output}
use Rattle.model.specs.Calls.{Answer, refused, full, answer, length_of, buffer_after}
use Rattle.model.specs.Report.{report, refusal_report}

-- ---- text check: map file in, report out

-- a report, with the whole verdict that it states
pub record Reported : Type 0 where
  pub verdict : ℕ
  pub report : Bytes

-- the report of the findings of all visits
unfoldable pub reported_of : List Finding → Reported
reported_of fs = record { verdict = (result_of fs).verdict; report = report fs }

-- the check of the tables that were read, with room for so many bytes of report
unfoldable pub check_read : ℕ → Answer Tables → Answer Reported
check_read room (refused r) = refused r
check_read room (full t) = answer (check_tables t then check_output (length (report (findings t))) room) (reported_of (findings t))

-- the text check with a report buffer of so many bytes
unfoldable pub text_answer : ℕ → Bytes → Answer Reported
text_answer room text = check_read room (read_map text)

-- the report that it writes
unfoldable pub report_of : Answer Reported → Answer Bytes
report_of (refused r) = refused r
report_of (full c) = full c.report

-- what the text check returns, the report's length, and what its report buffer holds afterwards
unfoldable pub text_gives : Bytes → Bytes → Answer ℕ
text_gives text buffer = length_of (report_of (text_answer (length buffer) text))

unfoldable pub text_after : Bytes → Bytes → Bytes
text_after text buffer = buffer_after (report_of (text_answer (length buffer) text)) buffer

-- the conditions that the tables of a text and their report may meet, with room for so many bytes of report
unfoldable pub report_conditions : ℕ → Tables → List Condition
report_conditions room t = compare_conditions t next output_conditions (length (report (findings t))) room

-- the conditions of the text check, in order: text, tables, output. t are the tables of the text (FileRules.TablesOf)
unfoldable pub text_conditions : ℕ → Bytes → Tables → List Condition
text_conditions room text t = file_conditions text next report_conditions room t

-- ---- the answer through C linkage: the report's length, or −(number × 100,000,000 + table × 10,000,000 + row)

-- an answer as one number; what the call through C linkage returns is coded (text_gives text buffer), its report buffer afterwards text_after
unfoldable pub coded : Answer ℕ → ℤ
coded (full n) = pos n
coded (refused r) = neg_ℤ (pos (r.number * 100000000 + r.table * 10000000 + r.row))

-- ---- mapcheck: what it prints for its input

-- the report, or the refusal as two lines
unfoldable pub printed_of : Answer Reported → Bytes
printed_of (refused r) = refusal_report r
printed_of (full c) = c.report

-- what is printed for a text
unfoldable pub printed : Bytes → Bytes
printed text = printed_of (text_answer report_room text)
