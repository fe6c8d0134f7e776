use mathlib.Core.Path.{◌≡◌, refl, subst, ◌∙◌, sym}
use Prim.Native.Nat.{ℕ, ◌*◌, ◌≤◌, ◌<◌}
use native.Mathlib.Omega.{arith}
use lib.ListN.{length}
use Rattle.model.specs.declared.WalkKind.TheVariants.{Reading, Writing}
use Rattle.model.specs.Limits.{pair_width, max_pairs}
use Rattle.model.specs.Compare.{kind_verdict}
use Rattle.grouping.specs.Links.{group_count, Linked}
use Rattle.grouping.proofs.Passing.{groups-few, group-there}
use Rattle.pathlimit.proofs.Inputs.{root-row-below, leaf-row-below}
use Rattle.pairs.specs.Found.{finding_at}
use Rattle.rowpairs.proofs.Holds.{group-held, held_found, equal-more}
use Rattle.totals.proofs.Keeping.{found-verdict}
use Rattle.rootrows.proofs.Passing.{pair-room, pair_passed, pairs-passed}
use Rattle.rootrows.proofs.Rows.{equal_kinds}
use Rattle.rootrows.proofs.keep_pairs.Goals.{At-loop-group, In-loop-group}
use Rattle.rootrows.proofs.keep_pairs.Goals as goal

-- the links of groups
linked : (l : At-loop-group) → Linked l.requires.tables.leaf_pairs l.args.links.now
linked l = l.requires.ready.linked

few : (l : At-loop-group) → length l.requires.tables.leaf_pairs ≤ pair_width * max_pairs
few l = l.requires.ready.inputs.leaf_shape.few

-- the group of a turn is there
there : (c : In-loop-group) → c.loop-group.group < group_count c.args.links.now
there c = omega (arith, c.loop-group-test.true, c.group_count-group-end.ensures)

pub group_count-group-end-requires : goal.group_count-group-end-requires
group_count-group-end-requires c = c.requires.ready.linked.room

pub loop-group-init : goal.loop-group-init
loop-group-init c = (λ t k a b. (λ e kind group h. absurd (omega arith), λ fs p. record { fs = fs; kept = p; split = refl }), λ a. a, refl)

pub group_row-leaf_row-requires : goal.group_row-leaf_row-requires
group_row-leaf_row-requires c = omega (arith, there c, groups-few (linked (goal.at.group_row-leaf_row-requires c).At-loop-group) (few (goal.at.group_row-leaf_row-requires c).At-loop-group), (linked (goal.at.group_row-leaf_row-requires c).At-loop-group).room)

pub held_at-read-requires : goal.held_at-read-requires
held_at-read-requires c = group-held (c.requires.read c.loop-group.group (there (goal.at.held_at-read-requires c).In-loop-group))

pub held_at-written-requires : goal.held_at-written-requires
held_at-written-requires c = group-held (c.requires.written c.loop-group.group (there (goal.at.held_at-written-requires c).In-loop-group))

pub with_pair-kept-requires : goal.with_pair-kept-requires
with_pair-kept-requires c =
    let k = c.requires.ready in
    let i = c.loop-group.invariant.0 _ k c.requires.read c.requires.written in
    let a = held_found (c.requires.read c.loop-group.group (there (goal.at.with_pair-kept-requires c).In-loop-group)) c.group_row-leaf_row.ensures (λ e. (c.loop-group.invariant.1 e, i.0 e Reading)) c.held_at-read.ensures in
    let b = held_found (c.requires.written c.loop-group.group (there (goal.at.with_pair-kept-requires c).In-loop-group)) c.group_row-leaf_row.ensures (λ e. (c.loop-group.invariant.1 e, i.0 e Writing)) c.held_at-written.ensures in
    record {
      room = pair-room c.requires.tables (linked (goal.at.with_pair-kept-requires c).At-loop-group) c.args.root_row c.loop-group.group (there (goal.at.with_pair-kept-requires c).In-loop-group) c.requires.room i.1;
      place = record {
        root = omega (arith, root-row-below k.inputs c.args.root_row k.row);
        leaf = omega (arith, leaf-row-below k.inputs c.group_row-leaf_row.result (omega (arith, c.group_row-leaf_row.ensures, group-there (linked (goal.at.with_pair-kept-requires c).At-loop-group) c.loop-group.group (there (goal.at.with_pair-kept-requires c).In-loop-group))));
      };
      read = a.1;
      written = b.1;
    }

pub loop-group-preserved : goal.loop-group-preserved
loop-group-preserved c =
    let a = c.args in (
      λ t k read written.
          let i = c.loop-group.invariant.0 t k read written in
          let reading = (held_found (read c.loop-group.group (there (goal.at.loop-group-preserved c).In-loop-group)) c.group_row-leaf_row.ensures (λ e. (c.loop-group.invariant.1 e, i.0 e Reading)) c.held_at-read.ensures).0 in
          let writing = (held_found (written c.loop-group.group (there (goal.at.loop-group-preserved c).In-loop-group)) c.group_row-leaf_row.ensures (λ e. (c.loop-group.invariant.1 e, i.0 e Writing)) c.held_at-written.ensures).0 in (
            λ e kind.
                let q = c.with_pair-kept.ensures.asked e in
                equal-more kind t a.root_row a.links.now c.loop-group.group (i.0 q.0 kind)
                (subst (λ (n : ℕ). kind_verdict (finding_at t a.root_row n) kind ≡ 0) c.group_row-leaf_row.ensures (equal_kinds _ (sym (found-verdict reading writing) ∙ q.1) kind)),
            λ fs p. pair_passed t k.linked a.root_row c.loop-group.group (there (goal.at.loop-group-preserved c).In-loop-group) c.group_row-leaf_row.ensures (i.1 fs p) reading writing c.with_pair-kept.ensures,
          ),
      λ e. c.loop-group.invariant.1 (c.with_pair-kept.ensures.asked e).0,
      c.with_pair-kept.auto.lines ∙ c.loop-group.invariant.2,
    )

pub shape_of-lines : goal.shape_of-lines
shape_of-lines c = c.loop-group.invariant.2

pub returns : goal.returns
returns c t k read written fs p =
    pairs-passed t k.linked c.args.root_row c.loop-group.group (omega (arith, c.loop-group-test.false, c.group_count-group-end.ensures))
    ((c.loop-group.invariant.0 t k read written).1 fs p)
