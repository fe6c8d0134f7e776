-- A group of one bank that begins at 0.
use mathlib.Core.List.{[]}
use Rattle.arrivals.proofs.Swept.{swept_free}
use Rattle.groups.proofs.Gathering.{gathering-start}
use Rattle.groups.proofs.Joining.{zero_small, askable_appendable, askable_joinable, one_answered}
use Rattle.groups.proofs.list_at.Goals as goal

pub free_row-first-requires : goal.free_row-first-requires
free_row-first-requires c = swept_free c.requires.state

pub append_bank-n-requires : goal.append_bank-n-requires
append_bank-n-requires c =
    (askable_appendable c.requires c.free_row-first.ensures, zero_small c.leaf_bit.ensures)

pub join_banks-requires : goal.join_banks-requires
join_banks-requires c =
    let o = c.requires in
    askable_joinable o (c.append_bank-n.ensures o.kind o.root [] (gathering-start o.state c.free_row-first.ensures))

pub returns : goal.returns
returns c kind root w =
    one_answered c.args.leaf c.leaf_bit.ensures
    (c.join_banks.ensures kind c.args.nodes.now c.args.edges.now c.args.plan.now root _ (c.append_bank-n.ensures kind root [] (gathering-start w c.free_row-first.ensures)))
