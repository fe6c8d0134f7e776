-- Writing into what remains of a buffer: a line at the front of its tail, or one byte, behind what is done already.
use mathlib.Core.Path.{◌≡◌, refl, sym, ap, ◌∙◌}
use mathlib.Core.List.{[], ◌∷◌, ◌++◌, append_assoc, append-nil}
use Prim.Native.Nat.{ℕ, suc, ◌+◌, ◌-◌, ◌≤◌, ◌<◌}
use native.Mathlib.Numerals.{add-one}
use native.Mathlib.Omega.{arith}
use lib.ListN.{length, take, drop, set, length-append, length-drop, drop_of_length-le}
use lib.Seq.{take_at, take_all, take-length, take-append-le, drop_at, drop-drop, drop-cons, set_at}
use Rattle.model.specs.Bytes.{Bytes}
use Rattle.report.specs.Put.{Put}

-- the tail of a buffer from `at`, as it is lent
pub tail_lent : (out : Bytes) (at : ℕ) → take (length out - at) (drop at out) ≡ drop at out
tail_lent out at = take_all (length out - at) (drop at out) (omega (arith, length-drop at out))

-- it is as long as what remains
pub tail_length : (out : Bytes) (at : ℕ) → length (take (length out - at) (drop at out)) ≡ length out - at
tail_length out at = ap length (tail_lent out at) ∙ length-drop at out

-- nothing is done yet
pub put_none : (old : Bytes) → Put [] old old 0
put_none old = record { count = refl; stands = refl }

-- a buffer keeps its length
pub put_length : {line old out : Bytes} {n : ℕ} → Put line old out n → length line ≤ length old → length out ≡ length old
put_length {line} {old} p h = ap length p.stands ∙ length-append line (drop (length line) old) ∙ omega (arith, length-drop (length line) old)

-- a line written at the front of the tail from `at`, where the first `at` bytes are done, stands behind them
pub put_tail : {done line old out tail : Bytes} {at n : ℕ} → Put done old out at → Put line (take (length out - at) (drop at out)) tail n
    → Put (done ++ line) old (take at out ++ (tail ++ drop (length out - at) (drop at out))) (at + n)
put_tail {done} {line} {old} {out} {tail} {at} {n} p q = record { count = counted; stands = standing }
  where
    counted : at + n ≡ length (done ++ line)
    counted = omega (arith, length-append done line, p.count, q.count)

    done_first : take at out ≡ done
    done_first = ap (take at) p.stands ∙ take_at done (drop (length done) old) at (sym p.count)

    rest_old : drop at out ≡ drop (length done) old
    rest_old = ap (drop at) p.stands ∙ drop_at done (drop (length done) old) at (sym p.count)

    none-behind : drop (length out - at) (drop at out) ≡ []
    none-behind = drop_of_length-le (drop at out) {i = length out - at} (omega (arith, length-drop at out))

    kept : drop (length line) (take (length out - at) (drop at out)) ≡ drop (length (done ++ line)) old
    kept = rw (tail_lent out at, rest_old, length-append done line) (drop-drop (length line) (length done) old)

    standing : take at out ++ (tail ++ drop (length out - at) (drop at out)) ≡ (done ++ line) ++ drop (length (done ++ line)) old
    standing =
        rw (done_first, none-behind, q.stands, kept, append-nil (line ++ drop (length (done ++ line)) old))
        (sym (append_assoc done line (drop (length (done ++ line)) old)))

-- a byte stored at `at`, where the first `at` bytes are done, stands behind them
pub put_byte : {done old out : Bytes} {at : ℕ} (x : ℕ) → Put done old out at → at < length old → Put (done ++ (x ∷ [])) old (set out at x) (at + 1)
put_byte {done} {old} {out} {at} x p h = record { count = omega (arith, length-append done (x ∷ []), p.count); stands = standing }
  where
    within : length done < length old
    within = omega (arith, p.count)

    standing : set out at x ≡ (done ++ (x ∷ [])) ++ drop (length (done ++ (x ∷ []))) old
    standing =
        rw (p.stands, length-append done (x ∷ []), add-one (length done), drop-cons old (length done) 0 within)
        (set_at done _ _ x at (sym p.count) ∙ sym (append_assoc done (x ∷ []) (drop (suc (length done)) old)))

-- a line written behind a first byte
pub put_behind : {line out tail : Bytes} {n : ℕ} (x : ℕ) → 0 < length out → Put line (take (length (set out 0 x) - 1) (drop 1 (set out 0 x))) tail n
    → Put (x ∷ line) out (take 1 (set out 0 x) ++ (tail ++ drop (length (set out 0 x) - 1) (drop 1 (set out 0 x)))) (1 + n)
put_behind {line} {out} {tail} x h q = put_tail (put_byte x (put_none out) h) q

-- what was put lies within the buffer
pub put_within : {line before after : Bytes} {n : ℕ} → Put line before after n → n ≤ length after
put_within {line} {before} p = omega (arith, p.count, ap length p.stands ∙ length-append line (drop (length line) before))

-- the front of the buffer, as long as what was put, is what was put
pub put_front : {line before after : Bytes} {n : ℕ} → Put line before after n → take n after ≡ line
put_front {line} {before} {after} p = ap (λ (k : ℕ). take k after) p.count ∙ ap (take (length line)) p.stands ∙ take-append-le (length line) line (drop (length line) before) (omega arith)
    ∙ take-length line
