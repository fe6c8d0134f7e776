-- The number and the values that documents 01 and 02 give for each case of an answer. Every contract uses these; that of batch has its values in crate batches. Assumes nothing.
use Rattle.std.specs.Prelude.{ℕ, Ok, Err}
use Rattle.std.specs.Prelude as std
use Rattle.model.specs.declared.Reason.{Reason}
use Rattle.model.specs.declared.Reason.TheVariants as reason
use Rattle.model.specs.declared.Verdict.{Verdict}
use Rattle.model.specs.declared.Verdict.TheVariants as verdicts
use Rattle.model.specs.declared.Comparison.{Comparison}
use Rattle.model.specs.Compare.{Result}
use Rattle.model.specs.Refusals.{Refusal}
use Rattle.model.specs.Calls.{Answer, refused, full}
use Rattle.model.specs.SheetCall.{TableLengths}
use Rattle.model.specs.declared.SheetSizes.{SheetSizes}

-- a refusal by its number, table and row
abbrev pub numbered : ℕ → ℕ → ℕ → Refusal
numbered n t r = record { number = n; table = t; row = r }

-- number, table and row of a refusal
abbrev pub refusal_of : Reason → Refusal
refusal_of (reason.Shape t) = numbered 1 t 0
refusal_of (reason.Node t r) = numbered 2 t r
refusal_of (reason.Edge t r) = numbered 3 t r
refusal_of (reason.FromBlock t r) = numbered 4 t r
refusal_of (reason.Cycle t) = numbered 5 t 0
refusal_of (reason.LongChain t) = numbered 6 t 0
refusal_of (reason.NotRootOrLeaf t r) = numbered 7 t r
refusal_of (reason.PairedBefore t r) = numbered 8 t r
refusal_of (reason.NoPair t) = numbered 9 t 0
refusal_of (reason.ManyPaths t r) = numbered 10 t r
refusal_of reason.LongOutput = numbered 11 7 0
refusal_of (reason.Characters l) = numbered 12 6 l
refusal_of (reason.Names l) = numbered 13 6 l
refusal_of (reason.Values l) = numbered 14 6 l
refusal_of reason.NoCaller = numbered 15 7 0
refusal_of (reason.At t r) = numbered 16 t r
refusal_of (reason.SheetRange l) = numbered 17 6 l
refusal_of (reason.OtherSize l) = numbered 18 6 l
refusal_of reason.LongBatch = numbered 19 7 0

-- verdict 0 equal, 1 partial, 2 different
abbrev pub verdict_number : Verdict → ℕ
verdict_number verdicts.Equal = 0
verdict_number verdicts.Partial = 1
verdict_number verdicts.Different = 2

-- taken, or refused
abbrev pub checked_answer : std.Result (Unit {0}) Reason → Answer (Unit {0})
checked_answer (Ok _) = full tt
checked_answer (Err r) = refused (refusal_of r)

-- how many were written, or refused
abbrev pub written_answer : std.Result ℕ Reason → Answer ℕ
written_answer (Ok n) = full n
written_answer (Err r) = refused (refusal_of r)

-- counts, whole verdict and place of a comparison
abbrev pub comparison_result : Comparison → Result
comparison_result c =
    record { equal = c.equal; partial = c.partial; different = c.different; verdict = verdict_number c.verdict; place = record { root = c.root; leaf = c.leaf; address = c.address } }

-- the full result, or refused
abbrev pub compared_answer : std.Result Comparison Reason → Answer Result
compared_answer (Ok c) = full (comparison_result c)
compared_answer (Err r) = refused (refusal_of r)

-- how many numbers the two tables of a sheet have, or refused
abbrev pub sheet_read_answer : std.Result SheetSizes Reason → Answer TableLengths
sheet_read_answer (Ok z) = full (record { nodes = z.nodes; edges = z.edges })
sheet_read_answer (Err r) = refused (refusal_of r)
