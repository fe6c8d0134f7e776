-- What is asked for is refused, or the address walks and the leaf bits are copied where they fit.
use Rattle.std.proofs.lemmas.Result.{err_from_is_err_and}
use mathlib.Core.Path.{◌≡◌, refl, sym}
use mathlib.Core.List.{List, map}
use Prim.Native.Nat.{◌*◌}
use native.Mathlib.Omega.{arith}
use lib.IntN.{ℤ, pos, nat_abs}
use lib.ListN.{length, take, replicate, length-replicate}
use mir.Syntax.{w64}
use mir.Val.{to_z, of_z}
use mir.Facts.{to_z-of_z}
use Rattle.model.specs.Limits.{record_width, max_nodes, max_paths}
use Rattle.model.specs.Graph.{graph_of}
use Rattle.model.specs.Calls.{full, numbers_of, leaf_bits}
use Rattle.tables.proofs.Cells.{index_fits, index_same}
use Rattle.tables.proofs.Checks.{checked}
use Rattle.listing.specs.Listing.{bit_record}
use Rattle.asked.specs.Asking.{check_asked}
use Rattle.bitmapping.proofs.Copying.{bits-room, spaced-bits}
use Rattle.asked.proofs.Answers.{asked-root, asked-leaf}
use Rattle.asked.proofs.Counts.{asked-ready}
use Rattle.bitmapping.proofs.Promises.{walk_refused, walk-taken}
use Rattle.bitmapping.proofs.walk.Goals.{After-walk_pair-bits, In_ok-check_asked}
use Rattle.bitmapping.proofs.walk.Goals as goal

taken : (c : In_ok-check_asked) → let a = c.args in
    full tt ≡ checked (check_asked a.nodes.now a.edges.now a.root a.leaf)
taken c = simp (to_z-of_z, c.ranges.root, c.ranges.leaf) at c.in_ok-check_asked.ensures.answers

root-same : (c : In_ok-check_asked) → let a = c.args in pos (nat_abs (to_z w64 (of_z w64 a.root))) ≡ a.root
root-same c = index_same c.ranges.root (asked-root _ _ _ _ (taken c)).row.low

leaf-same : (c : In_ok-check_asked) → let a = c.args in pos (nat_abs (to_z w64 (of_z w64 a.leaf))) ≡ a.leaf
leaf-same c = index_same c.ranges.leaf (asked-leaf _ _ _ _ (taken c)).row.low

-- the leaf bits
abbrev bits : After-walk_pair-bits → List ℤ
bits c = let a = c.args in leaf_bits a.kind (graph_of a.nodes.now a.edges.now) a.root a.leaf a.address

-- they were reached, and stand in front of `work`
bits-counted : (c : After-walk_pair-bits) → c.walk_pair-bits.result ≡ length (bits c)
bits-counted c =
    rw (root-same (goal.at.After-walk_pair-bits c).In_ok-check_asked, leaf-same (goal.at.After-walk_pair-bits c).In_ok-check_asked, to_z-of_z c.ranges.address) at c.walk_pair-bits.ensures.value

bits-reached : (c : After-walk_pair-bits) → take (record_width * c.walk_pair-bits.result) c.walk_pair-bits.new.work ≡ numbers_of (map bit_record (bits c))
bits-reached c =
    rw (root-same (goal.at.After-walk_pair-bits c).In_ok-check_asked, leaf-same (goal.at.After-walk_pair-bits c).In_ok-check_asked, to_z-of_z c.ranges.address) at c.walk_pair-bits.ensures.work_after

pub returns-in_err-check_asked : goal.returns-in_err-check_asked
returns-in_err-check_asked c =
    let p = err_from_is_err_and c.from_residual.result c.from_residual.ensures.1 in
    rw (p.1, p.2)
    (walk_refused _ _ _ _ _ _ _ c.in_err-check_asked.field-0.0 (simp (to_z-of_z, c.ranges.root, c.ranges.leaf) at c.in_err-check_asked.ensures.answers))

pub overflow_cast-root : goal.overflow_cast-root
overflow_cast-root c = index_fits c.ranges.root (asked-root _ _ _ _ (taken c)).row.low

pub overflow_cast-leaf : goal.overflow_cast-leaf
overflow_cast-leaf c = index_fits c.ranges.leaf (asked-leaf _ _ _ _ (taken c)).row.low

pub walk_pair-bits-requires : goal.walk_pair-bits-requires
walk_pair-bits-requires c =
    asked-ready c.args.nodes.now c.args.edges.now c.args.root c.args.leaf (taken (goal.at.walk_pair-bits-requires c).In_ok-check_asked) _ _ (root-same (goal.at.walk_pair-bits-requires c).In_ok-check_asked) (leaf-same (goal.at.walk_pair-bits-requires c).In_ok-check_asked) (replicate max_nodes 0)
    (simp (to_z-of_z, c.ranges.leaf) at (c.in_ok-check_asked.ensures.counted refl))
    (omega (arith, length-replicate {A = ℤ} (record_width * max_paths) (pos 0)))

pub returns : goal.returns
returns c =
    walk-taken _ _ _ _ _ _ _ (taken (goal.at.returns c).In_ok-check_asked) (bits-counted (goal.at.returns c).After-walk_pair-bits)
    (rw (spaced-bits c.walk_pair-bits.new.work (bits (goal.at.returns c).After-walk_pair-bits) c.walk_pair-bits.result (sym (bits-counted (goal.at.returns c).After-walk_pair-bits)) (bits-reached (goal.at.returns c).After-walk_pair-bits)) at c.put_numbers.ensures)

pub put_numbers-requires : goal.put_numbers-requires
put_numbers-requires c k h =
    omega (
      arith,
      h,
      bits-room c.walk_pair-bits.new.work (bits (goal.at.put_numbers-requires c).After-walk_pair-bits) c.walk_pair-bits.result (sym (bits-counted (goal.at.put_numbers-requires c).After-walk_pair-bits)) (bits-reached (goal.at.put_numbers-requires c).After-walk_pair-bits),
      c.walk_pair-bits.auto.work,
      length-replicate {A = ℤ} (record_width * max_paths) (pos 0),
    )
