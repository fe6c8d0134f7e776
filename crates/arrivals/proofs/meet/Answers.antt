-- By cases: nothing had arrived at v; the same reference had; another one had.
use mathlib.Core.Path.{◌≡◌, sym, ap, ◌∙◌}
use mathlib.Core.Bool.{true}
use mathlib.Core.List.{List, []}
use Prim.Native.Nat.{◌+◌, ◌*◌, ◌≤◌}
use native.Mathlib.Omega.{arith}
use lib.IntN.{ℤ, pos}
use lib.ListN.{length}
use mir.Syntax.{w64}
use mir.Val.{to_z, of_z}
use Rattle.model.specs.Graph.{graph_of}
use Rattle.references.specs.References.{Reference, reference_of, own, same_reference}
use Rattle.references.proofs.Bringing.{same_reference-derived}
use Rattle.arrivals.specs.State.{mark_width, set_mark, marked, is_met, reference_at, not_listed}
use Rattle.arrivals.proofs.Moves.{own-owner, meeting-first, meeting-same, meeting-other}
use Rattle.arrivals.proofs.meet.Goals.{After-rows_met-rows, After-eq, Else-not-is_met, Start}
use Rattle.arrivals.proofs.meet.Goals as goal

-- the rows that were counted, as the code holds them
abbrev rows : After-rows_met-rows → ℤ
rows r = to_z w64 (of_z w64 r.rows_met-rows.result)

-- the reference to all that arrives at v
abbrev all : Start → List ℤ → Reference
all s es = own (graph_of s.args.nodes.now es) (pos s.args.v)

pub rows_met-rows-requires : goal.rows_met-rows-requires
rows_met-rows-requires c = let p = c.requires in (omega (arith, p.1, p.2), omega (arith, p.2, p.3))

mark-there : (s : Start) → mark_width * s.args.v + mark_width ≤ length s.args.state.now
mark-there s = omega (arith, s.requires.1, s.requires.2)

pub is_met-requires : goal.is_met-requires
is_met-requires c = mark-there (goal.at.is_met-requires c).Start

pub put_mark-requires : goal.put_mark-requires
put_mark-requires c = (mark-there (goal.at.put_mark-requires c).Start, c.requires.3)

pub returns-then-not-is_met : goal.returns-then-not-is_met
returns-then-not-is_met c = (
  rows (goal.at.returns-then-not-is_met c).After-rows_met-rows,
  λ es.
      c.put_mark.ensures
      ∙ sym
      (meeting-first c.args.state.now c.args.v (all (goal.at.returns-then-not-is_met c).Start es) (reference_of c.args.f) (rows (goal.at.returns-then-not-is_met c).After-rows_met-rows)
      (sym c.is_met.ensures ∙ c.if-not-is_met.true)),
)

-- something has arrived at v
met : (c : Else-not-is_met) → let s = c.args in is_met s.state.now s.v ≡ true
met c = sym c.is_met.ensures ∙ c.if-not-is_met.false

pub reference_at-requires : goal.reference_at-requires
reference_at-requires c = (mark-there (goal.at.reference_at-requires c).Start, met c)

-- the test compares the reference of v with the one that has come
compared : (c : After-eq) → c.eq.result ≡ same_reference (reference_at c.args.state.now c.args.v) (reference_of c.args.f)
compared c =
    c.eq.ensures
    ∙ same_reference-derived c.reference_at.result c.args.f
    ∙ ap (λ (x : Reference). same_reference x (reference_of c.args.f)) c.reference_at.ensures

pub returns-then-eq : goal.returns-then-eq
returns-then-eq c = (
  pos 0,
  λ es.
      sym
      (meeting-same c.args.state.now c.args.v (all (goal.at.returns-then-eq c).Start es) (reference_of c.args.f) (pos 0) (met (goal.at.returns-then-eq c).Else-not-is_met)
      (sym (compared (goal.at.returns-then-eq c).After-eq) ∙ c.if-eq.true)),
)

pub put_mark-requires-2 : goal.put_mark-requires-2
put_mark-requires-2 c =
    (mark-there (goal.at.put_mark-requires-2 c).Start, omega (arith, own-owner (graph_of c.args.nodes.now []) (c.own_reference.ensures []), c.requires.1))

pub returns : goal.returns
returns c = (
  rows (goal.at.returns c).After-rows_met-rows,
  λ es.
      c.put_mark-2.ensures
      ∙ ap (λ (x : Reference). set_mark c.args.state.now c.args.v (marked x not_listed (rows (goal.at.returns c).After-rows_met-rows))) (c.own_reference.ensures es)
      ∙ sym
      (meeting-other c.args.state.now c.args.v (all (goal.at.returns c).Start es) (reference_of c.args.f) (rows (goal.at.returns c).After-rows_met-rows) (met (goal.at.returns c).Else-not-is_met)
      (sym (compared (goal.at.returns c).After-eq) ∙ c.if-eq.false)),
)
