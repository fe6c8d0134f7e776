-- The buffers are fit for the rounds: the rows are numbered, and no mark is stamped.
use mathlib.Core.Path.{refl, ap, ◌∙◌}
use Prim.Native.Nat.{◌/◌}
use native.Mathlib.Omega.{arith}
use lib.ListN.{length, take}
use Rattle.model.specs.Limits.{edge_width, max_nodes}
use Rattle.depth.proofs.Stores.{up_to_take, zeros_at}
use Rattle.depth.proofs.order_edges.Goals as goal

pub peel-requires : goal.peel-requires
peel-requires c =
    let n = c.number_rows in
    let count = length c.args.edges.now / edge_width in
    record {
      table = c.requires.0;
      rows = ap (take count) n.ensures ∙ up_to_take c.args.rest.now count (omega (arith, c.requires.0.few, c.requires.1));
      long = omega (arith, n.auto.rows, c.requires.0.few, c.requires.1);
      nodes = refl;
      blank = λ v. zeros_at max_nodes v;
    }
