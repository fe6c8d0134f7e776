-- Rows written in front of rows that stand behind them in a buffer already: the pass over a list writes on its way back.
use mathlib.Core.Path.{◌≡◌, sym, ap, ◌∙◌}
use mathlib.Core.List.{List, [], ◌++◌, append_assoc, append-nil}
use Prim.Native.Nat.{ℕ, ◌+◌, ◌-◌, ◌*◌, ◌≤◌}
use native.Mathlib.Omega.{arith}
use lib.IntN.{ℤ}
use lib.ListN.{length, take, drop, length-append, length-drop, drop_of_length-le}
use lib.Seq.{take_all, take-append-le, take-take, drop-drop, drop_at, length-take-le}
use Rattle.model.specs.Limits.{batch_width}
use Rattle.batches.specs.Batch.{BatchRow, batch_numbers}
use Rattle.batches.specs.Buffers.{rows_behind}
use Rattle.batches.proofs.Rows.{batch_numbers_length, batch_numbers_append}

-- the buffer keeps its length
pub behind_length : (b : ℕ) (ts : List BatchRow) (old : List ℤ) → batch_width * (b + length ts) ≤ length old → length (rows_behind b ts old) ≡ length old
behind_length b ts old h =
    let front = take (batch_width * b) old in
    let rest = drop (batch_width * (b + length ts)) old in
    omega (
      arith,
      length-append front (batch_numbers ts ++ rest),
      length-append (batch_numbers ts) rest,
      length-take-le (batch_width * b) old (omega arith),
      batch_numbers_length ts,
      length-drop (batch_width * (b + length ts)) old,
    )

-- the rows us stand behind b rows and those of ts; where ts are written to the front of what remains behind b rows, both stand there
pub behind_more : (b : ℕ) (ts us : List BatchRow) (old : List ℤ) {mid tail : List ℤ} → batch_width * (b + length (ts ++ us)) ≤ length old
    → mid ≡ rows_behind (b + length ts) us old
    → tail ≡ batch_numbers ts ++ drop (batch_width * length ts) (take (length mid - batch_width * b) (drop (batch_width * b) mid))
    → take (batch_width * b) mid ++ (tail ++ drop (length mid - batch_width * b) (drop (batch_width * b) mid)) ≡ rows_behind b (ts ++ us) old
behind_more b ts us old {mid} {tail} h e f =
    rw (front, none-behind, f, part, later) (ap (λ (l : List ℤ). take at old ++ l) (append-nil (batch_numbers ts ++ rest) ∙ joined))
  where
    at : ℕ
    at = batch_width * b

    both : length (ts ++ us) ≡ length ts + length us
    both = length-append ts us

    rest : List ℤ
    rest = batch_numbers us ++ drop (batch_width * (b + length ts + length us)) old

    before : length (take (batch_width * (b + length ts)) old) ≡ batch_width * (b + length ts)
    before = length-take-le (batch_width * (b + length ts)) old (omega (arith, both))

    front : take at mid ≡ take at old
    front =
        ap (take at) e ∙ take-append-le at (take (batch_width * (b + length ts)) old) rest (omega (arith, before))
        ∙ take-take at (batch_width * (b + length ts)) old (omega arith)

    none-behind : drop (length mid - at) (drop at mid) ≡ []
    none-behind = drop_of_length-le (drop at mid) {i = length mid - at} (omega (arith, length-drop at mid))

    part : take (length mid - at) (drop at mid) ≡ drop at mid
    part = take_all (length mid - at) (drop at mid) (omega (arith, length-drop at mid))

    later : drop (batch_width * length ts) (drop at mid) ≡ rest
    later =
        let behind : at + batch_width * length ts ≡ batch_width * (b + length ts) = omega arith in
        drop-drop (batch_width * length ts) at mid ∙ ap (λ (k : ℕ). drop k mid) behind ∙ ap (drop (batch_width * (b + length ts))) e
        ∙ drop_at (take (batch_width * (b + length ts)) old) rest (batch_width * (b + length ts)) before

    joined : batch_numbers ts ++ rest ≡ batch_numbers (ts ++ us) ++ drop (batch_width * (b + length (ts ++ us))) old
    joined =
        let all : batch_width * (b + length ts + length us) ≡ batch_width * (b + length (ts ++ us)) = omega (arith, both) in
        sym (append_assoc (batch_numbers ts) (batch_numbers us) (drop (batch_width * (b + length ts + length us)) old))
        ∙ ap (λ (l : List ℤ). l ++ drop (batch_width * (b + length ts + length us)) old) (sym (batch_numbers_append ts us))
        ∙ ap (λ (k : ℕ). batch_numbers (ts ++ us) ++ drop k old) all
