-- The root is marked where it is open to the kind, and nothing is stored where it is closed.
use mathlib.Core.Path.{sym, ◌∙◌}
use mathlib.Core.List.{List, []}
use native.Mathlib.Omega.{arith}
use lib.IntN.{ℤ, pos}
use mir.Facts.{to_z_pos}
use mir.Syntax.{w64}
use Rattle.model.specs.Graph.{graph_of}
use Rattle.references.specs.References.{Reference, own}
use Rattle.arrivals.proofs.Moves.{own-owner, root-closed, root_open}
use Rattle.arrivals.proofs.mark_root.Goals.{Start}
use Rattle.arrivals.proofs.mark_root.Goals as goal

-- all bits of the root
abbrev all : Start → List ℤ → Reference
all s es = own (graph_of s.args.nodes.now es) (pos s.args.root)

pub returns-then-not-is_open : goal.returns-then-not-is_open
returns-then-not-is_open c es =
    root-closed (all (goal.at.returns-then-not-is_open c).Start es) c.args.root c.args.state.now (sym (c.is_open.ensures es) ∙ c.if-not-is_open.true)

pub put_mark-requires : goal.put_mark-requires
put_mark-requires c =
    omega (arith, own-owner (graph_of c.args.nodes.now []) (c.own_reference.ensures []), c.requires.1, c.requires.2)

pub returns : goal.returns
returns c es =
    root_open (all (goal.at.returns c).Start es) c.args.root c.args.state.now (sym (c.is_open.ensures es) ∙ c.if-not-is_open.false) c.put_mark.ensures
    (c.own_reference.ensures es) (to_z_pos w64 (omega arith))
