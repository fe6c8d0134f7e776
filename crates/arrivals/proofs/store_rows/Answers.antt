-- The rows fit or they do not; the numbers stored are below 2^63.
use mathlib.Core.Path.{sym, ap, ◌∙◌}
use mathlib.Core.List.{List, []}
use Prim.Native.Nat.{◌<◌}
use native.Mathlib.Omega.{arith}
use lib.IntN.{ℤ, pos}
use mir.Facts.{to_z_pos}
use mir.Syntax.{w64}
use Rattle.model.specs.Limits.{max_nodes}
use Rattle.model.specs.Graph.{graph_of}
use Rattle.references.specs.References.{Reference, own}
use Rattle.arrivals.specs.State.{set_mark, marked, no_room}
use Rattle.arrivals.proofs.Moves.{own-owner, storing-full, rows_stored}
use Rattle.arrivals.proofs.store_rows.Goals.{After-own_reference-all, Start}
use Rattle.arrivals.proofs.store_rows.Goals as goal

-- the reference to all that arrives at v
abbrev all : Start → List ℤ → Reference
all s es = own (graph_of s.args.nodes.now es) (pos s.args.v)

owner-row : (c : After-own_reference-all) → c.own_reference-all.result.owner < max_nodes
owner-row c =
    omega (arith, own-owner (graph_of c.args.nodes.now []) (c.own_reference-all.ensures []), c.requires.row)

pub put_mark-requires : goal.put_mark-requires
put_mark-requires c = (omega (arith, c.requires.row, c.requires.room), owner-row (goal.at.put_mark-requires c).After-own_reference-all)

pub returns-then-used-k-gt-ARENA_END : goal.returns-then-used-k-gt-ARENA_END
returns-then-used-k-gt-ARENA_END c = λ es.
    c.put_mark.ensures
    ∙ ap (λ (x : Reference). set_mark c.args.state.now c.args.v (marked x no_room (pos 0))) (c.own_reference-all.ensures es)
    ∙ sym (storing-full (all (goal.at.returns-then-used-k-gt-ARENA_END c).Start es) c.args.v c.args.used c.args.k c.args.state.now (omega arith))

pub put_mark-requires-2 : goal.put_mark-requires-2
put_mark-requires-2 c = (omega (arith, c.requires.row, c.requires.room), owner-row (goal.at.put_mark-requires-2 c).After-own_reference-all)

pub returns : goal.returns
returns c = λ es.
    rows_stored
    (all (goal.at.returns c).Start es)
    c.args.v
    c.args.used
    c.args.k
    c.args.state.now
    c.put_mark-2.ensures
    (c.own_reference-all.ensures es)
    (to_z_pos w64 (omega arith))
    (to_z_pos w64 (omega arith))
    (to_z_pos w64 (omega arith))
    (omega arith)
