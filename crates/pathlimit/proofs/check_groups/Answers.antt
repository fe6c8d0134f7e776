use mathlib.Core.Path.{◌≡◌, ap, ◌∙◌}
use mathlib.Core.List.{◌∷◌}
use Rattle.std.proofs.lemmas.Result.{err_from_is_err_and}
use Prim.Native.Nat.{suc, ◌+◌, ◌*◌, ◌/◌, ◌<◌}
use native.Mathlib.Numerals.{add-one}
use native.Mathlib.Omega.{arith}
use lib.ListN.{length, get_or, drop, drop_of_length-le}
use Rattle.model.specs.Limits.{pair_width, root_stride}
use Rattle.model.specs.Rows.{pair_rows}
use Rattle.model.specs.Compare.{lowest_rows}
use Rattle.depth.specs.Passes.{Within}
use Rattle.tables.specs.Tables.{pair_at}
use Rattle.tables.proofs.Rows.{pair_member}
use Rattle.tables.proofs.Checks.{checked, left_none, left_on, left_stops}
use Rattle.grouping.specs.Links.{group_count}
use Rattle.grouping.proofs.Passing.{group-there, group-next, pass_start}
use Rattle.pathlimit.specs.Checks.{check_counts, check_group}
use Rattle.pathlimit.proofs.Leaves.{within_index, group_checked}
use Rattle.pathlimit.proofs.check_groups.Goals.{After-group_total-impl_count, After-group_row-leaf_row, After-spec_node-spec_leaf, In-loop-k}
use Rattle.pathlimit.proofs.check_groups.Goals as goal

-- the group of a turn is there
there : (t : In-loop-k) → t.loop-k.k < group_count t.args.links.now
there t = omega (arith, t.loop-k-test.true, t.group_count-k-end.ensures)

-- so is its lowest row
row-there : (g : After-group_row-leaf_row) → g.group_row-leaf_row.result < length g.args.leaf_pairs.now / pair_width
row-there g =
    omega (arith, g.group_row-leaf_row.ensures, group-there g.requires.sums.linked g.loop-k.k (there (goal.at.spec_node-spec_leaf-requires g).In-loop-k))

-- whose specification leaf has a count
within : (g : After-group_row-leaf_row)
    → let a = g.args in Within (length a.spec_counts.now) (pair_at a.leaf_pairs.now g.group_row-leaf_row.result).spec
within g =
    g.requires.within (pair_at g.args.leaf_pairs.now g.group_row-leaf_row.result) (pair_member g.args.leaf_pairs.now g.group_row-leaf_row.result (row-there g))

spec-index : (n : After-spec_node-spec_leaf) → n.spec_node-spec_leaf.result < length n.args.spec_counts.now
spec-index n = within_index n.spec_node-spec_leaf.result (within (goal.at.overflow_mul-place n).After-group_row-leaf_row) n.spec_node-spec_leaf.ensures

-- it is the next of the groups that are left
next : (g : After-group_row-leaf_row)
    → let a = g.args in
    drop g.loop-k.k (lowest_rows (pair_rows a.leaf_pairs.now))
    ≡ pair_at a.leaf_pairs.now g.group_row-leaf_row.result ∷ drop (suc g.loop-k.k) (lowest_rows (pair_rows a.leaf_pairs.now))
next g =
    rw g.group_row-leaf_row.ensures (group-next g.requires.sums.linked g.loop-k.k (there (goal.at.spec_node-spec_leaf-requires g).In-loop-k))

-- what the counts of the group say is its check
group-check : (k : After-group_total-impl_count)
    → let a = k.args in
    check_counts (a.root_row * root_stride + k.group_row-leaf_row.result) (get_or a.spec_counts.now k.spec_node-spec_leaf.result 0) k.group_total-impl_count.result
    ≡ check_group (pair_rows a.leaf_pairs.now) a.spec_counts.now a.impl_counts.now a.root_row (pair_at a.leaf_pairs.now k.group_row-leaf_row.result)
group-check k =
    let a = k.args in
    group_checked (pair_rows a.leaf_pairs.now) a.spec_counts.now a.impl_counts.now a.root_row (pair_at a.leaf_pairs.now k.group_row-leaf_row.result)
    k.spec_node-spec_leaf.result k.group_total-impl_count.result k.spec_node-spec_leaf.ensures k.group_total-impl_count.ensures

pub spec_node-spec_leaf-requires : goal.spec_node-spec_leaf-requires
spec_node-spec_leaf-requires c = (omega (arith, row-there c), (within c).low)

pub overflow_mul-place : goal.overflow_mul-place
overflow_mul-place c = let k = c.requires in omega (arith, k.row)

pub overflow_add-place : goal.overflow_add-place
overflow_add-place c = let k = c.requires in omega (arith, k.row, k.sums.rows, row-there (goal.at.overflow_add-place c).After-group_row-leaf_row)

pub group_total-impl_count-requires : goal.group_total-impl_count-requires
group_total-impl_count-requires c =
    let k = c.requires.sums in
    (k, rw c.group_row-leaf_row.ensures (pass_start k.linked c.loop-k.k (there (goal.at.group_total-impl_count-requires c).In-loop-k)), row-there (goal.at.group_total-impl_count-requires c).After-group_row-leaf_row)

pub offset_bounds-spec_counts-spec_leaf : goal.offset_bounds-spec_counts-spec_leaf
offset_bounds-spec_counts-spec_leaf c = omega (arith, spec-index (goal.at.offset_bounds-spec_counts-spec_leaf c).After-spec_node-spec_leaf)

pub bounds-spec_counts-spec_leaf : goal.bounds-spec_counts-spec_leaf
bounds-spec_counts-spec_leaf c = spec-index (goal.at.bounds-spec_counts-spec_leaf c).After-spec_node-spec_leaf

pub returns-in_err-check_counts : goal.returns-in_err-check_counts
returns-in_err-check_counts c =
    let a = c.args in
    let p = err_from_is_err_and c.from_residual.result c.from_residual.ensures.1 in
    rw (p.1, p.2)
    (left_stops (check_group (pair_rows a.leaf_pairs.now) a.spec_counts.now a.impl_counts.now a.root_row) (lowest_rows (pair_rows a.leaf_pairs.now)) c.loop-k.invariant
    (next (goal.at.returns-in_err-check_counts c).After-group_row-leaf_row)
    (c.in_err-check_counts.ensures ∙ ap checked (group-check (goal.at.returns-in_err-check_counts c).After-group_total-impl_count)))

pub loop-k-preserved : goal.loop-k-preserved
loop-k-preserved c =
    rw add-one (left_on _ _ c.loop-k.invariant (next (goal.at.loop-k-preserved c).After-group_row-leaf_row) (c.in_ok-check_counts.ensures ∙ ap checked (group-check (goal.at.loop-k-preserved c).After-group_total-impl_count)))

pub returns : goal.returns
returns c =
    let linked = c.requires.sums.linked in
    left_none _ _ c.loop-k.invariant (drop_of_length-le (lowest_rows (pair_rows c.args.leaf_pairs.now)) {i = c.loop-k.k} (omega (arith, c.loop-k-test.false, c.group_count-k-end.ensures, linked.count)))
