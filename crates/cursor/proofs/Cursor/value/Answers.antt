-- The number counts where another field follows, or where none does.
use mathlib.Core.Path.{◌≡◌, refl, ap, ◌∙◌}
use mathlib.Core.Bool.{Bool, true, false, not, beq}
use borrow.Author.Rules.{rules}
use mir.Syntax.{w64}
use mir.Val.{SFits}
use mir.Facts.{to_z-of_z}
use Rattle.values.specs.Given.{signed_value}
use Rattle.cursor.proofs.Fields.{given_within, given_inner, given_last, given_next, given_later}
use Rattle.cursor.proofs.Cursor.value.Goals as goal

-- of two truth values that differ one is the other's contrary
contrary : (a b : Bool) → beq a b ≡ false → a ≡ not b
contrary true true h = cc
contrary true false h = refl
contrary false true h = refl
contrary false false h = cc

pub past-requires : goal.past-requires
past-requires c =
    given_within c.args.text.now c.args.self.at c.requires.within c.read_field-field.ensures

pub returns-then-last : goal.returns-then-last
returns-then-last c =
    let given = c.read_field-field.ensures in
    let fits : SFits w64 c.in_ok-field.field-0 = search rules in
    let more = contrary _ _ c.if-field-last.false ∙ ap not c.if-last.true in
    rw (c.if-last.true, to_z-of_z fits) (
      given_last c.args.text.now c.args.self.at c.requires.within given more (ap signed_value c.in_ok-field.was),
      given_later c.args.text.now c.args.self.at c.requires.within given c.args.self.line c.past.result more c.past.ensures,
    )

pub returns-else-last : goal.returns-else-last
returns-else-last c =
    let given = c.read_field-field.ensures in
    let fits : SFits w64 c.in_ok-field.field-0 = search rules in
    let more = contrary _ _ c.if-field-last.false ∙ ap not c.if-last.false in
    rw (c.if-last.false, to_z-of_z fits) (
      given_inner c.args.text.now c.args.self.at c.requires.within given more (ap signed_value c.in_ok-field.was),
      given_next c.args.text.now c.args.self.at c.requires.within given c.args.self.line c.past.result more c.past.ensures,
    )
