use mathlib.Core.Path.{◌≡◌, sym, subst, ◌∙◌}
use lib.Pointwise.{bytes_decides}
use mathlib.Core.Bool.{true}
use mathlib.Core.List.{List}
use Prim.Native.Nat.{ℕ, ◌≤◌}
use native.Mathlib.Omega.{arith}
use lib.ListN.{length, drop}
use Rattle.cursor.specs.Parts.{first_field}
use Rattle.cursor.proofs.Fields.{end_within, end_part}
use Rattle.columns.proofs.Names.{NameBehind, name_left, name_here, name_next}
use Rattle.columns.proofs.column_of.Goals.{In-loop-i, After-field_end-end, After-eq}
use Rattle.columns.proofs.column_of.Goals as goal

-- this field and those behind it are left
left : (l : In-loop-i) → let s = l.args in NameBehind s.text.now s.name.now s.from l.loop-i.at l.loop-i.i
left l = l.loop-i.invariant.more (omega arith)

-- the field ends in the text
within : (c : After-field_end-end) → c.field_end-end.result ≤ length c.args.text.now
within c = end_within c.args.text.now c.loop-i.at c.field_end-end.result (left (goal.at.After-field_end-end c).In-loop-i).within c.field_end-end.ensures

-- the test of the field
tested : (c : After-eq) → let s = c.args in
    (c.eq.result ≡ true → s.name.now ≡ first_field (drop c.loop-i.at s.text.now))
    × (s.name.now ≡ first_field (drop c.loop-i.at s.text.now) → c.eq.result ≡ true)
tested c =
    let s = c.args in
    subst (λ (part : List ℕ). (c.eq.result ≡ true → s.name.now ≡ part) × (s.name.now ≡ part → c.eq.result ≡ true))
    (end_part s.text.now c.loop-i.at c.field_end-end.result (left (goal.at.After-eq c).In-loop-i).within c.field_end-end.ensures)
    (let d = bytes_decides _ _ in (λ e. d.0 (sym c.eq.ensures ∙ e), λ e. c.eq.ensures ∙ d.1 e))

pub loop-i-init : goal.loop-i-init
loop-i-init c = name_left c.args.text.now c.args.name.now c.args.from c.requires.0

pub field_end-end-requires : goal.field_end-end-requires
field_end-end-requires c = (left (goal.at.field_end-end-requires c).In-loop-i).within

pub slice_bounds-eq-end : goal.slice_bounds-eq-end
slice_bounds-eq-end c = within (goal.at.slice_bounds-eq-end c).After-field_end-end

pub returns-then-eq : goal.returns-then-eq
returns-then-eq c =
    (name_here (left (goal.at.returns-then-eq c).In-loop-i) (tested (goal.at.returns-then-eq c).After-eq) c.if-eq.true, omega arith)

pub overflow_add-at : goal.overflow_add-at
overflow_add-at c = omega (arith, within (goal.at.overflow_add-at c).After-field_end-end, c.well_formed)

pub loop-i-preserved : goal.loop-i-preserved
loop-i-preserved c =
    name_next (left (goal.at.loop-i-preserved c).In-loop-i) (tested (goal.at.loop-i-preserved c).After-eq) c.field_end-end.result c.field_end-end.ensures
    c.if-eq.false

pub returns : goal.returns
returns c = omega (arith, c.loop-i.invariant.none (omega arith))
