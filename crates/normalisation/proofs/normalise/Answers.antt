-- The steps, one after the other, are normalisation.
use Prim.Native.Nat.{◌≤◌}
use native.Mathlib.Omega.{arith}
use Rattle.normalisation.proofs.Normalising.{Steps, merged-rows, sorted-small, normalised_count, normalised_numbers}
use Rattle.normalisation.proofs.normalise.Goals.{After-merge_touching-k, After-write_records}
use Rattle.normalisation.proofs.normalise.Goals as goal

-- the pass leaves n records at most
few : (c : After-merge_touching-k) → c.merge_touching-k.result ≤ c.args.n
few c =
    omega (arith, c.merge_touching-k.ensures.value, merged-rows c.sort_rows.new.t c.args.n)

pub merge_touching-k-requires : goal.merge_touching-k-requires
merge_touching-k-requires c =
    (omega (arith, c.sort_rows.auto.t), omega (arith, c.sort_rows.auto.spare), sorted-small _ _ _ c.sort_rows.ensures.t_after (omega arith) c.requires.2)

pub sort_rows-requires-2 : goal.sort_rows-requires-2
sort_rows-requires-2 c =
    let k = few (goal.at.sort_rows-requires-2 c).After-merge_touching-k in
    (omega (arith, k, c.merge_touching-k.auto.out, c.sort_rows.auto.spare), omega (arith, k, c.sort_rows.auto.t))

pub write_records-requires : goal.write_records-requires
write_records-requires c =
    let k = few (goal.at.write_records-requires c).After-merge_touching-k in (
      omega (arith, k, c.sort_rows-2.auto.t, c.merge_touching-k.auto.out, c.sort_rows.auto.spare),
      omega (arith, k, c.sort_rows-2.auto.spare, c.sort_rows.auto.t),
    )

-- what each call leaves
steps : (c : After-write_records) →
    Steps c.args.work.now c.args.n c.merge_touching-k.result c.write_records.new.out
steps c =
    record {
      small = c.requires.2;
      ordered = c.sort_rows.new.t;
      merging = c.merge_touching-k.new.out;
      listing = c.sort_rows-2.new.t;
      behind_merging = _;
      behind_listing = _;
      behind_out = _;
      sorts = c.sort_rows.ensures.t_after;
      count = c.merge_touching-k.ensures.value;
      merges = c.merge_touching-k.ensures.out_after;
      resorts = c.sort_rows-2.ensures.t_after;
      writes = c.write_records.ensures;
    }

pub returns : goal.returns
returns c = record {
  value = normalised_count (steps (goal.at.returns c).After-write_records);
  work_after = normalised_numbers (steps (goal.at.returns c).After-write_records);
  work_len_unchanged = (
    omega (arith, c.write_records.auto.out, c.sort_rows-2.auto.spare, c.sort_rows.auto.t),
    omega (arith, c.sort_rows-2.auto.t, c.merge_touching-k.auto.out, c.sort_rows.auto.spare),
  );
}
