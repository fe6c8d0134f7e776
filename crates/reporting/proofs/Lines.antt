-- A line as one number: what is packed into it is taken out of it again. How long lines are, and the lines of the first numbers of a list.
use mathlib.Core.Path.{◌≡◌, refl, ap, ◌∙◌}
use mathlib.Core.List.{List, [], ◌∷◌, ◌++◌, append-nil, append_assoc, map, flat_map}
use Prim.Native.Nat.{ℕ, ◌+◌, ◌-◌, ◌*◌, ◌/◌, ◌%◌, ◌≤◌, ◌<◌}
use native.Mathlib.Numerals.{add-one}
use native.Mathlib.Omega.{arith}
use lib.IntN.{ℤ, pos}
use lib.ListN.{length, take, drop, get_or, length-append}
use lib.Seq.{take-suc, take-add}
use Rattle.model.specs.Bytes.{blank, line_feed, shown, spaced}
use Rattle.model.specs.Answers.{verdict_number}
use Rattle.model.specs.Limits.{root_stride}
use Rattle.model.specs.Report.{line_of}
use Rattle.model.specs.declared.Verdict.{Verdict}
use Rattle.model.specs.declared.Verdict.TheVariants as verdicts
use Rattle.report.proofs.Lines.{shown-short}
use Rattle.reporting.specs.Lines.{length_stride, verdict_stride, with_lengths, without_lengths, line_numbers, line_of_number, lines_of}

-- ---- one number

-- two lengths that are put behind a number are taken from it again
lengths-taken : (n a b : ℕ) → a < length_stride → b < length_stride
    → (without_lengths (with_lengths n a b) ≡ n) × (with_lengths n a b / length_stride % length_stride ≡ a) × (with_lengths n a b % length_stride ≡ b)
lengths-taken n a b ha hb =
    let last : ((n * length_stride + a) * length_stride + b) / length_stride ≡ n * length_stride + a = omega arith in
    let both : (n * length_stride + a) / length_stride ≡ n = omega arith in
    let first : (n * length_stride + a) % length_stride ≡ a = omega arith in
    rw last (both, first, omega arith)

-- what is packed into a number is taken out of it again
pub number-line : (i j v a b c d : ℕ) → j < root_stride → v < verdict_stride → a < length_stride → b < length_stride → c < length_stride → d < length_stride
    → line_of_number (with_lengths (with_lengths ((i * root_stride + j) * verdict_stride + v) a b) c d)
    ≡ line_of (pos i ∷ pos j ∷ pos v ∷ pos a ∷ pos b ∷ pos c ∷ pos d ∷ [])
unfolding line_of_number line_numbers
number-line i j v a b c d hj hv ha hb hc hd =
    let judged = (i * root_stride + j) * verdict_stride + v in
    let reading = lengths-taken judged a b ha hb in
    let writing = lengths-taken (with_lengths judged a b) c d hc hd in
    let place : judged / verdict_stride ≡ i * root_stride + j = omega arith in
    let root : (i * root_stride + j) / root_stride ≡ i = omega arith in
    let leaf : (i * root_stride + j) % root_stride ≡ j = omega arith in
    let verdict : judged % verdict_stride ≡ v = omega arith in
    rw (writing.0, writing.1, writing.2, reading.0, reading.1, reading.2, place, root, leaf, verdict) refl

-- a verdict's number goes into it
pub verdict-small : (v : Verdict) → verdict_number v < verdict_stride
verdict-small verdicts.Equal = omega arith
verdict-small verdicts.Partial = omega arith
verdict-small verdicts.Different = omega arith

-- ---- lengths

-- fields, with their spaces, take at most 22 bytes a number
fields-short : (vs : List ℤ) → length (spaced (map shown vs)) ≤ 22 * length vs
unfolding spaced
fields-short [] = omega arith
fields-short (v ∷ []) = omega (arith, shown-short v)
fields-short (v ∷ w ∷ vs) =
    omega (arith, shown-short v, fields-short (w ∷ vs), length-append (shown v) (blank ∷ spaced (map shown (w ∷ vs))))

-- a line takes at most 22 bytes a number, and a line feed
pub line-short : (vs : List ℤ) → length (line_of vs) ≤ 22 * length vs + 1
unfolding line_of
line-short vs = omega (arith, fields-short vs, length-append (spaced (map shown vs)) (line_feed ∷ []))

-- the line of a number is short
pub number_short : (n : ℕ) → length (line_of_number n) ≤ 155
unfolding line_of_number line_numbers
number_short n = line-short (line_numbers n)

-- ---- the lines of the first numbers

module _ {A B : Type 0} (f : A → List B) where
  -- the images of two lists, one behind the other
  pub flat_map_append : (k l : List A) → flat_map f (k ++ l) ≡ flat_map f k ++ flat_map f l
  unfolding flat_map
  flat_map_append [] l = refl
  flat_map_append (x ∷ k) l = ap (λ (t : List B). f x ++ t) (flat_map_append k l) ∙ rw append_assoc refl

  -- the images of a list and of one more element
  pub flat_map_snoc : (l : List A) (x : A) → flat_map f (l ++ (x ∷ [])) ≡ flat_map f l ++ f x
  unfolding flat_map
  flat_map_snoc l x = flat_map_append l (x ∷ []) ∙ rw append-nil refl

-- no numbers have no lines
pub lines_none : lines_of [] ≡ []
unfolding lines_of flat_map
lines_none = refl

-- one number more is one line more
pub lines_snoc : (ns : List ℕ) (n : ℕ) → lines_of (ns ++ (n ∷ [])) ≡ lines_of ns ++ line_of_number n
unfolding lines_of
lines_snoc = flat_map_snoc line_of_number

pub lines_more : (ns : List ℕ) (i : ℕ) → i < length ns → lines_of (take (i + 1) ns) ≡ lines_of (take i ns) ++ line_of_number (get_or ns i 0)
lines_more ns i h = ap lines_of (rw (add-one i) (take-suc ns i 0 h)) ∙ lines_snoc (take i ns) (get_or ns i 0)

-- the lines of the first numbers are no longer than those of more
pub lines-within : (ns : List ℕ) (i n : ℕ) → i ≤ n → length (lines_of (take i ns)) ≤ length (lines_of (take n ns))
unfolding lines_of
lines-within ns i n h =
    let all : n ≡ i + (n - i) = omega arith in
    let rest = take (n - i) (drop i ns) in
    let e = ap lines_of (ap (λ (k : ℕ). take k ns) all ∙ take-add i (n - i) ns) ∙ flat_map_append line_of_number (take i ns) rest in
    omega (arith, ap length e, length-append (lines_of (take i ns)) (lines_of rest))
