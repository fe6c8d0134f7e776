-- Each table is the front of its slice.
use mathlib.Core.Path.{sym}
use lib.Seq.{length-take-le}
use Rattle.textcheck.proofs.check_front.Goals as goal

pub slice_bounds-check_tables-end : goal.slice_bounds-check_tables-end
slice_bounds-check_tables-end c = sym (length-take-le c.args.sizes.spec_nodes c.args.spec_nodes.now c.requires.spec_nodes)

pub slice_bounds-check_tables-end-2 : goal.slice_bounds-check_tables-end-2
slice_bounds-check_tables-end-2 c = sym (length-take-le c.args.sizes.spec_edges c.args.spec_edges.now c.requires.spec_edges)

pub slice_bounds-check_tables-end-3 : goal.slice_bounds-check_tables-end-3
slice_bounds-check_tables-end-3 c = sym (length-take-le c.args.sizes.impl_nodes c.args.impl_nodes.now c.requires.impl_nodes)

pub slice_bounds-check_tables-end-4 : goal.slice_bounds-check_tables-end-4
slice_bounds-check_tables-end-4 c = sym (length-take-le c.args.sizes.impl_edges c.args.impl_edges.now c.requires.impl_edges)

pub slice_bounds-check_tables-end-5 : goal.slice_bounds-check_tables-end-5
slice_bounds-check_tables-end-5 c = sym (length-take-le c.args.sizes.root_pairs c.args.root_pairs.now c.requires.root_pairs)

pub slice_bounds-check_tables-end-6 : goal.slice_bounds-check_tables-end-6
slice_bounds-check_tables-end-6 c = sym (length-take-le c.args.sizes.leaf_pairs c.args.leaf_pairs.now c.requires.leaf_pairs)
