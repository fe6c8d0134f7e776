-- The numbers of a small run's record are numbers of 64 bits.
use mathlib.Core.List.{[]}
use lib.IntN.{pos}
use borrow.Author.Rules.{rules}
use mir.Syntax.{w64}
use mir.Val.{SFits}
use mir.Facts.{to_z-of_z}
use Rattle.model.specs.Graph.{graph_of, node}
use Rattle.runs.specs.Clipping.{run_of}
use Rattle.extents.proofs.Rows.{node_limits}
use Rattle.listing.proofs.Small.{low_small, displacement_movable, size_movable, last_addable, row-numbers}
use Rattle.listing.proofs.RunWalker.leaf_row.Goals as goal

pub leaf_bit-bit-requires : goal.leaf_bit-bit-requires
leaf_bit-bit-requires c = let p = c.requires in (p.0, low_small p.1)

pub less-requires : goal.less-requires
less-requires c =
    displacement_movable c.requires.1 (node (graph_of c.args.nodes.now []) (pos c.args.leaf)) (node_limits c.requires.0 []) (c.leaf_bit-bit.ensures [])

pub less-requires-2 : goal.less-requires-2
less-requires-2 c = size_movable c.requires.1

pub plus-requires : goal.plus-requires
plus-requires c = last_addable c.requires.1 c.less-2.ensures

pub returns : goal.returns
returns c es =
    let f : SFits w64 c.less.result.0 = search rules in
    let g : SFits w64 c.args.self.root.0 = search rules in
    let h : SFits w64 c.plus.result.0 = search rules in
    rw (to_z-of_z f, to_z-of_z g, to_z-of_z h)
    (row-numbers (node (graph_of c.args.nodes.now es) (pos c.args.leaf)) (run_of c.args.self) (c.leaf_bit-bit.ensures es) c.less.ensures
    c.less-2.ensures c.plus.ensures)
