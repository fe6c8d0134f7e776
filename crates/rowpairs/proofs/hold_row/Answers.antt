-- The graphs are swept for the kind, and the pairs of the row are held.
use Rattle.rowpairs.proofs.hold_row.Goals as goal

pub hold_pairs-requires : goal.hold_pairs-requires
hold_pairs-requires c =
    record { kind = c.args.kind; root_pairs = c.args.root_pairs.now; row = c.args.root_row; ready = c.sweep_row.ensures _ _ c.requires.ready; room = c.requires.room }

pub returns : goal.returns
returns c =
    c.hold_pairs.ensures _ _ _ (c.sweep_row.ensures _ _ c.requires.ready)
