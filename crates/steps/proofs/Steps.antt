-- The step over an edge leaves exactly the bits that it should.
use Rattle.std.specs.Prelude.{Option}
use mathlib.Core.Path.{◌≡◌, ap, ◌∙◌}
use lib.IntN.{ℤ}
use Rattle.model.specs.declared.WalkKind.{WalkKind}
use Rattle.model.specs.Rows.{Edge}
use Rattle.model.specs.Graph.{Graph, node, first_bit, bit_offset}
use Rattle.model.specs.Runs.{Run, last_open, shift, clip, across}
use Rattle.model.proofs.Steps.{across-bits, across-joins}
use Rattle.runs.specs.Clipping.{living, living_of}
use Rattle.runs.proofs.Runs.{left_exact, clip-read}
use Rattle.steps.specs.Steps.{Stepped}
use Rattle.runs.specs.declared.Run.{Run as Held}

-- what is left of the shifted run, clipped at the node entered, is what is left of the run over the edge: exactly the bits that it should, each with its root bit
pub step_returns : (kind : WalkKind) (g : Graph) (e : Edge) (r : Run) (c : Option Held) (s : Run) (first last : ℤ) → living_of c ≡ living (clip first last s)
    → first ≡ first_bit (node g e.to) → last ≡ last_open kind (node g e.to) → s ≡ shift (bit_offset g e) r
    → (living_of c ≡ living (across kind g e r)) × Stepped kind g e r c
unfolding across
step_returns kind g e r c s first last q f l p =
    let left : living_of c ≡ living (across kind g e r) = q ∙ ap living (clip-read f l p) in
    (left, left_exact (across kind g e r) c (across-bits g e r) (across-joins g e r) left)
