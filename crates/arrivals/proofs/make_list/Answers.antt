-- The rows of the reference are gathered behind the used part of the arena and made a list there.
use native.Mathlib.Omega.{arith}
use Rattle.integers.proofs.Linear.{ints}
use Rattle.arrivals.proofs.Making.{gathered_normalisable, list-made}
use Rattle.arrivals.proofs.make_list.Goals as goal

pub free_row-used-requires : goal.free_row-used-requires
free_row-used-requires c = let w = c.requires.gatherable.sweeping in (omega (arith, w.room), omega (arith, ints, w.free_number))

pub gather-n-requires : goal.gather-n-requires
gather-n-requires c = rw c.free_row-used.ensures c.requires.gatherable

pub normalise_between-requires : goal.normalise_between-requires
normalise_between-requires c =
    gathered_normalisable c.requires c.free_row-used.ensures c.gather-n.ensures

pub returns : goal.returns
returns c =
    list-made c.requires c.free_row-used.ensures c.gather-n.ensures c.normalise_between.ensures
