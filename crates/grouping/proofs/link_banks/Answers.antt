-- What the passes leave is put together.
use mathlib.Core.Path.{refl, ◌∙◌}
use Prim.Native.Nat.{◌/◌}
use lib.ListN.{length, length-replicate}
use Rattle.model.specs.Limits.{pair_width, max_nodes}
use Rattle.grouping.proofs.Heads.{heads_begun}
use Rattle.grouping.proofs.Joined.{links_headed, links-linked}
use Rattle.grouping.proofs.link_banks.Goals as goal

pub link_rows-requires : goal.link_rows-requires
link_rows-requires c =
    let pairs = c.args.pairs.now in
    links_headed pairs c.requires (length-replicate max_nodes (length pairs / pair_width)) refl (heads_begun pairs max_nodes c.requires.within)

pub returns : goal.returns
returns c =
    rw c.store_groups.ensures
    (links-linked c.args.pairs.now c.requires.few (c.link_rows.auto.links ∙ c.requires.room) c.link_rows.ensures)
