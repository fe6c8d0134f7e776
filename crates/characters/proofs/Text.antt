-- Refusal 12, byte by byte: what a pass over the text finds, and whether its last line has a line feed.
use mathlib.Core.Path.{◌≡◌, refl}
use mathlib.Core.Bool.{true, false, not, cond}
use mathlib.Core.List.{[], ◌∷◌}
use mathlib.Core.Option.{Option, none, some}
use Prim.Native.Nat.{ℕ, suc, ◌+◌, ◌-◌, ◌≤◌, ◌<◌}
use native.Mathlib.Numerals.{add-one}
use native.Mathlib.Omega.{arith}
use borrow.Author.Tests.{lt-ltb, le-ltb}
use lib.Dec.{eqb}
use lib.ListN.{length, drop, get_or, drop_of_length-le}
use lib.Seq.{drop-cons}
use Rattle.model.specs.Limits.{max_text}
use Rattle.model.specs.Bytes.{Bytes, line_feed}
use Rattle.model.specs.MapFile.{feeds}
use Rattle.model.specs.Refusals.{Refusal}
use Rattle.model.specs.Checks.{when, ◌then◌}
use Rattle.model.specs.Calls.{Answer, refused, full, answer}
use Rattle.model.specs.Answers.{numbered}
use Rattle.model.specs.Reader.{allowed, check_bytes, broken_off, check_text}

-- ---- a pass over the bytes from place k on, where line n begins or goes on

module _ (s : Bytes) (k : ℕ) where
  -- behind the last byte there is nothing to tell or to count
  pub bytes-none : (n : ℕ) → length s ≤ k → (check_bytes n (drop k s) ≡ none) × (feeds (drop k s) ≡ 0)
  unfolding check_bytes feeds
  bytes-none n h = rw (drop_of_length-le s {i = k} h) (refl, refl)

  module _ (h : k < length s) where
    -- a byte that is not allowed is told
    pub bytes-bad : (n : ℕ) → allowed (get_or s k 0) ≡ false → check_bytes n (drop k s) ≡ some (numbered 12 6 n)
    unfolding check_bytes when ◌then◌
    bytes-bad n e = rw (drop-cons s k 0 h, e) refl

    -- another is passed
    pub bytes_goes : (n : ℕ) → allowed (get_or s k 0) ≡ true
        → check_bytes n (drop k s) ≡ check_bytes (cond (eqb (get_or s k 0) line_feed) (suc n) n) (drop (k + 1) s)
    unfolding check_bytes when ◌then◌
    bytes_goes n e = rw (drop-cons s k 0 h, add-one k, e) refl

    -- and counted if it is a line feed
    pub feeds_goes : feeds (drop k s) ≡ cond (eqb (get_or s k 0) line_feed) (suc (feeds (drop (k + 1) s))) (feeds (drop (k + 1) s))
    unfolding feeds
    feeds_goes = rw (drop-cons s k 0 h, add-one k) refl

-- ---- the last line

-- a text that is not empty breaks off where its last byte is no line feed
pub broken-last : (s : Bytes) → 0 < length s → broken_off s ≡ not (eqb (get_or s (length s - 1) 0) line_feed)
unfolding broken_off
broken-last [] h = absurd (omega arith)
broken-last (c ∷ []) h = refl
broken-last (c ∷ d ∷ t) h =
    let e : suc (suc (length t)) - 1 ≡ suc (suc (length t) - 1) = omega arith in
    rw e (broken-last (d ∷ t) (omega arith))

-- the empty text does not break off
pub broken-none : (s : Bytes) → length s ≡ 0 → broken_off s ≡ false
unfolding broken_off
broken-none [] h = refl
broken-none (c ∷ t) h = absurd (omega arith)

-- ---- the whole text

-- the answer of a check
abbrev pub checked : Option Refusal → Answer (Unit {0})
checked o = answer o tt

module _ (s : Bytes) where
  -- its length comes first
  pub text-long : max_text < length s → refused (numbered 12 6 0) ≡ checked (check_text s)
  unfolding check_text when ◌then◌ answer
  text-long h = rw (lt-ltb max_text (length s) h)

  module _ (short : length s ≤ max_text) where
    -- then its bytes
    pub text-bytes : {r : Refusal} → check_bytes 1 s ≡ some r → refused r ≡ checked (check_text s)
    unfolding check_text when ◌then◌ answer
    text-bytes e = rw (le-ltb max_text (length s) short, e)

    module _ (clean : check_bytes 1 s ≡ none) where
      -- then its last line
      pub text-broken : broken_off s ≡ true → refused (numbered 12 6 (suc (feeds s))) ≡ checked (check_text s)
      unfolding check_text when ◌then◌ answer
      text-broken e = rw (le-ltb max_text (length s) short, clean, e)

      -- and then nothing is told
      pub text-taken : broken_off s ≡ false → full tt ≡ checked (check_text s)
      unfolding check_text when ◌then◌ answer
      text-taken e = rw (le-ltb max_text (length s) short, clean, e)
