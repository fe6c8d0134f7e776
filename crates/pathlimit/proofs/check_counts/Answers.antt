-- Each return is one case of check_counts.
use native.Mathlib.Omega.{arith}
use borrow.Author.Tests.{lt-ltb, le-ltb}
use Rattle.model.specs.Limits.{max_paths}
use Rattle.model.specs.Checks.{when, ◌then◌}
use Rattle.model.specs.Calls.{answer}
use Rattle.pathlimit.specs.Checks.{check_counts}
use Rattle.pathlimit.proofs.check_counts.Goals as goal

pub returns-then-spec_count-gt-MAX_PATHS : goal.returns-then-spec_count-gt-MAX_PATHS
unfolding answer when ◌then◌ check_counts
returns-then-spec_count-gt-MAX_PATHS c = rw (lt-ltb max_paths c.args.spec_count (omega (arith, c.if-spec_count-gt-MAX_PATHS.true)))

pub returns-then-impl_count-gt-MAX_PATHS : goal.returns-then-impl_count-gt-MAX_PATHS
unfolding answer when ◌then◌ check_counts
returns-then-impl_count-gt-MAX_PATHS c =
    let a = c.args in rw (le-ltb max_paths a.spec_count (omega (arith, c.if-spec_count-gt-MAX_PATHS.false)), lt-ltb max_paths a.impl_count (omega (arith, c.if-impl_count-gt-MAX_PATHS.true)))

pub returns : goal.returns
unfolding answer when ◌then◌ check_counts
returns c =
    let a = c.args in rw (le-ltb max_paths a.spec_count (omega (arith, c.if-spec_count-gt-MAX_PATHS.false)), le-ltb max_paths a.impl_count (omega (arith, c.if-impl_count-gt-MAX_PATHS.false)))
