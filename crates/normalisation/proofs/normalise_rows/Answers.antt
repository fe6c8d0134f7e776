-- The rows, sorted and merged, are those of the list.
use mathlib.Core.Path.{refl}
use native.Mathlib.Omega.{arith}
use Rattle.normalisation.proofs.Normalising.{sorted-small, displaced_count, displaced_records, displaced_none}
use Rattle.normalisation.proofs.normalise_rows.Goals as goal

pub returns-then-n-eq0 : goal.returns-then-n-eq0
returns-then-n-eq0 c = let (count, rows) = displaced_none _ _ c.if-n-eq0.true in record {
  value = count;
  result_after = rows;
  list_len_unchanged = (refl, refl);
}

pub rows_apart-from-requires : goal.rows_apart-from-requires
rows_apart-from-requires c =
    (omega (arith, c.if-n-eq0.false), omega (arith, c.sort_rows.auto.t), sorted-small _ _ _ c.sort_rows.ensures.t_after (omega (arith, c.if-n-eq0.false)) c.requires.2)

pub join_touching-requires : goal.join_touching-requires
join_touching-requires c =
    (omega (arith, c.sort_rows.auto.t), c.rows_apart-from.ensures, sorted-small _ _ _ c.sort_rows.ensures.t_after (omega (arith, c.if-n-eq0.false)) c.requires.2)

pub returns : goal.returns
returns c = record {
  value = displaced_count c.args.list.now c.args.n c.requires.2 c.sort_rows.new.t c.sort_rows.ensures.t_after _ c.join_touching.ensures.value;
  result_after = displaced_records c.args.list.now c.args.n c.requires.2 c.sort_rows.new.t c.sort_rows.ensures.t_after _ _ _ c.join_touching.ensures.value
      c.join_touching.ensures.t_after;
  list_len_unchanged = (omega (arith, c.join_touching.auto.t, c.sort_rows.auto.t), omega (arith, c.sort_rows.auto.spare));
}
