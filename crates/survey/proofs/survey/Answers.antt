-- Where neither plan has an edge no finding has a record; else the work areas are new, and have their room.
use mathlib.Core.Path.{◌≡◌, ◌∙◌}
use mathlib.Core.List.{[]}
use native.Mathlib.Omega.{arith}
use lib.IntN.{ℤ, pos}
use lib.ListN.{length, length-replicate}
use borrow.Author.Rules.{rules}
use Rattle.model.specs.Compare.{Tables, groups}
use Rattle.pairing.specs.Pairs.{tables_of}
use Prim.Native.Nat.{◌*◌}
use Rattle.model.specs.Limits.{max_pairs}
use Rattle.arrivals.specs.State.{state_room}
use Rattle.holding.specs.Held.{held_width}
use Rattle.survey.proofs.Passing.{findings-count, findings-few, surveyed_bare}
use Rattle.survey.proofs.Unplanned.{findings_bare}
use Rattle.survey.proofs.survey.Goals.{After-group_count, Start}
use Rattle.survey.proofs.survey.Goals as goal

abbrev tables : Start → Tables
tables s =
    let a = s.args in
    tables_of a.spec_nodes.now a.spec_edges.now a.impl_nodes.now a.impl_edges.now a.root_pairs.now a.leaf_pairs.now

-- as many groups are counted as there are
counted : (c : After-group_count) → c.group_count.result ≡ length (groups (tables (goal.at.overflow_mul-root_pairs c).Start))
counted c = c.group_count.ensures ∙ c.requires.plans.linked.count

pub group_count-requires : goal.group_count-requires
group_count-requires c = c.requires.plans.linked.room

pub overflow_mul-root_pairs : goal.overflow_mul-root_pairs
overflow_mul-root_pairs c =
    rw (counted c) (omega (arith, findings-count (tables (goal.at.overflow_mul-root_pairs c).Start), findings-few c.requires.plans.inputs))

pub with_equal-requires : goal.with_equal-requires
with_equal-requires c =
    record { fs = []; lines = []; kept = c.no_pair.ensures []; few = rw (counted c) (omega (arith, findings-count (tables (goal.at.with_equal-requires c).Start), findings-few c.requires.plans.inputs)) }

pub returns-then-planned_count-eq0 : goal.returns-then-planned_count-eq0
returns-then-planned_count-eq0 c =
    surveyed_bare c.requires.plans.inputs
    (findings_bare c.requires (omega (arith, c.if-planned_count-eq0.true, c.planned_count.ensures, c.planned_count-2.ensures))) c.no_pair.ensures
    (rw (counted (goal.at.returns-then-planned_count-eq0 c).After-group_count) at c.with_equal.ensures)

pub found_of_all-requires : goal.found_of_all-requires
found_of_all-requires c =
    let state = length-replicate {A = ℤ} state_room (pos 0) in
    let held = length-replicate {A = ℤ} (held_width * max_pairs) (pos 0) in
    (c.requires, record { spec = state; impl = state; list = search rules }, omega (arith, held), omega (arith, held), λ e. c.is_plain-plain.ensures.0 e c.args.spec_edges.now c.args.impl_edges.now)
