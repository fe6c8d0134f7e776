-- What a read gives goes behind what was read before, and the reader loses both, one behind the other.
use Rattle.std.proofs.Common.{◌≡◌, ℕ, ◌+◌, ◌-◌, ◌≤◌, List, ◌++◌, Option, Some, None, length, take, drop, refl, sym, ap, ◌∙◌, append_assoc, arith, length-drop}
use Rattle.std.proofs.Math.Seq.{take-add, drop_at, length-take-le}
use Rattle.std.proofs.lemmas.List.{take-append-le}
use Rattle.std.proofs.lemmas.Slice.{take-put_mid_below}
use Rattle.std.specs.Io.KnownBytes.{Consumes}
use borrow.Rule.Slice.PartMut.{put_mid, post_of, same_len_mid}
use Rattle.input.proofs.read_input.Goals as goal

-- bytes that are taken one behind the other
consumes-then : (u v w : Option (List ℕ)) (a b : List ℕ) → Consumes u v a → Consumes v w b → Consumes u w (a ++ b)
consumes-then None v w a b x y = tt
consumes-then (Some xs) None w a b x y = absurd x
consumes-then (Some xs) (Some ys) None a b x y = y
consumes-then (Some xs) (Some ys) (Some zs) a b x y = x ∙ ap (λ (t : List ℕ). a ++ t) y ∙ sym (append_assoc a b zs)

-- the front of a buffer into whose part from a on was written: what stood before the part, and the first n bytes of the part
front-put : (a n k : ℕ) (xs ys : List ℕ) → a ≤ length xs → n ≤ length ys → take (a + n) (put_mid a k xs ys) ≡ take a xs ++ take n ys
front-put a n k xs ys h g =
    let below = take-put_mid_below a k xs ys a (omega arith) h in
    let behind = drop_at (take a xs) (ys ++ post_of a k xs) a (length-take-le a xs h) in
    take-add a n (put_mid a k xs ys) ∙ rw (below, behind) (rw take-append-le refl)

pub loop-at-preserved : goal.loop-at-preserved
loop-at-preserved g c =
    let at = c.loop-at.at in
    let text = c.loop-at.text in
    let n = c.in_ok-n.n in
    let buf = c.read.new.buf in
    let rest = length text - at in
    let inside : at ≤ length text = c.loop-at.invariant.0 in
    let few : n ≤ length buf = c.in_ok-n.ensures.bound.0 in
    let long = same_len_mid at rest text buf c.read.auto.buf in
    let room : length buf ≡ rest = c.read.auto.buf ∙ length-take-le rest (drop at text) (omega (arith, length-drop at text)) in
    (omega (arith, long, room, inside, few), long ∙ c.loop-at.invariant.1, rw (front-put at n rest text buf inside few) (consumes-then _ _ _ _ _ c.loop-at.invariant.2 c.in_ok-n.ensures.bytes.0))
