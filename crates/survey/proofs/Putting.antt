-- Lines that are written root row by root row, each row's into what remains of the buffer.
use mathlib.Core.Path.{◌≡◌, sym, ap, subst, ◌∙◌}
use mathlib.Core.List.{List, [], ◌++◌, append_assoc, append-nil, flat_map}
use Prim.Native.Nat.{ℕ, ◌+◌, ◌-◌, ◌/◌, ◌≤◌, ◌<◌}
use native.Mathlib.Omega.{arith}
use lib.ListN.{length, take, drop, length-append}
use Rattle.model.specs.Bytes.{Bytes}
use Rattle.model.specs.Limits.{pair_width, max_pairs}
use Rattle.model.specs.Compare.{Tables, Finding, findings}
use Rattle.model.specs.Report.{finding_line}
use Rattle.report.specs.Put.{Put}
use Rattle.report.proofs.Tail.{put_none, put_tail, put_length}
use Rattle.reporting.specs.Lines.{lines_of}
use Rattle.reporting.proofs.Lines.{flat_map_append}
use Rattle.pathlimit.specs.Inputs.{Inputs}
use Rattle.totals.specs.declared.Kept.{Kept}
use Rattle.totals.specs.Kept.{KeptOf}
use Rattle.rootrows.specs.RootRow.{row_findings}
use Rattle.rootrows.proofs.Passing.{row_count}
use Rattle.survey.proofs.Passing.{findings_left, findings-all, findings-next, findings-none, groups-few}

-- the lines of the root rows before row i are written: with those of the root rows that are left they are the lines of all
pub record Putting (t : Tables) (i : ℕ) (old out : Bytes) (at : ℕ) : Type 0 where
  pub done : Bytes
  pub put : Put done old out at
  pub split : done ++ flat_map finding_line (findings_left t i) ≡ flat_map finding_line (findings t)

-- before the first root row
pub putting_start : (t : Tables) (old : Bytes) → Putting t 0 old old 0
putting_start t old = record { done = []; put = put_none old; split = ap (flat_map finding_line) (findings-all t) }

module _ (t : Tables) (i : ℕ) {old out : Bytes} {at : ℕ} (p : Putting t i old out at) where
  -- a buffer with room for the lines of all keeps its length
  pub putting_length : length (flat_map finding_line (findings t)) ≤ length old → length out ≡ length old
  putting_length room =
      put_length p.put (omega (arith, length-append p.done (flat_map finding_line (findings_left t i)), ap length p.split, room))

  -- behind the last root row the lines of all are written
  pub putting_end : length t.root_pairs / pair_width ≤ i → Put (flat_map finding_line (findings t)) old out at
  unfolding flat_map
  putting_end h =
      let none = ap (λ (l : List Finding). p.done ++ flat_map finding_line l) (findings-none t i h) in
      subst (λ (l : Bytes). Put l old out at) (sym (append-nil p.done) ∙ sym none ∙ p.split) p.put

  module _ (inputs : Inputs t) (h : i < length t.root_pairs / pair_width) {lines : List ℕ} {k : Kept} (kept : KeptOf (row_findings t i) lines k)
      (room : max_pairs ≤ length lines) where
    -- the lines of root row i are held
    pub row-held : k.count ≤ length lines
    row-held = omega (arith, kept.count, row_count t i, groups-few inputs, room)

    -- and come next
    next : (p.done ++ lines_of (take k.count lines)) ++ flat_map finding_line (findings_left t (i + 1)) ≡ flat_map finding_line (findings t)
    next =
        rw (kept.held row-held)
        (append_assoc p.done (flat_map finding_line (row_findings t i)) (flat_map finding_line (findings_left t (i + 1)))
        ∙ ap (λ (l : Bytes). p.done ++ l)
        (sym (flat_map_append finding_line (row_findings t i) (findings_left t (i + 1))) ∙ ap (flat_map finding_line) (sym (findings-next t i h)))
        ∙ p.split)

    -- there is room for them
    pub row_fits : length (flat_map finding_line (findings t)) ≤ length old → at + length (lines_of (take k.count lines)) ≤ length old
    row_fits all =
        let line = lines_of (take k.count lines) in
        omega (arith, p.put.count, length-append p.done line, length-append (p.done ++ line) (flat_map finding_line (findings_left t (i + 1))), ap length next, all)

    -- once they are written, row i + 1 is next
    pub putting_on : {tail : Bytes} {n : ℕ} → Put (lines_of (take k.count lines)) (take (length out - at) (drop at out)) tail n
        → Putting t (i + 1) old (take at out ++ (tail ++ drop (length out - at) (drop at out))) (at + n)
    putting_on q = record { done = p.done ++ lines_of (take k.count lines); put = put_tail p.put q; split = next }
