-- The first line and the first field of what remains of a text: how they begin, how long they are, and what lies behind them.
use mathlib.Core.Path.{◌≡◌, refl, ap, subst}
use mathlib.Core.Bool.{Bool, true, false, cond}
use mathlib.Core.List.{[], ◌∷◌, ◌++◌}
use Prim.Native.Nat.{ℕ, suc, ◌+◌, ◌≤◌, ◌<◌}
use native.Mathlib.Numerals.{add-one}
use native.Mathlib.Omega.{arith}
use borrow.Author.Tests.{eqb-true}
use lib.Dec.{eqb}
use lib.ListN.{length, take, drop, get_or, length-append, length-drop, drop_of_length-le}
use lib.Seq.{drop-cons, take_at, drop_at}
use Rattle.lists.specs.Lists.{is_nil}
use Rattle.model.specs.Bytes.{Bytes, line_feed, blank}
use Rattle.model.specs.MapFile.{onto, lines}
use Rattle.model.specs.Reader.{fields_of}
use Rattle.cursor.specs.Parts.{first_line, later_lines, ends_field, first_field, behind_field, blank_first, followed, rest_of}

-- a byte is a space, a line feed or another
pub data Byte (c : ℕ) : Type 0 where
  space : eqb c blank ≡ true → eqb c line_feed ≡ false → Byte c
  feed : eqb c blank ≡ false → eqb c line_feed ≡ true → Byte c
  other : eqb c blank ≡ false → eqb c line_feed ≡ false → Byte c

-- which of the three it is
pub byte : (c : ℕ) → Byte c
byte c = go (eqb c blank) refl (eqb c line_feed) refl
  where
    go : (s : Bool) → eqb c blank ≡ s → (f : Bool) → eqb c line_feed ≡ f → Byte c
    go true p true q = absurd (omega (arith, eqb-true c blank p, eqb-true c line_feed q))
    go true p false q = space p q
    go false p true q = feed p q
    go false p false q = other p q

-- ---- the first field and what lies behind it

-- the field and what lies behind it are the text
pub field_split : (t : Bytes) → first_field t ++ behind_field t ≡ t
unfolding first_field behind_field
field_split [] = refl
field_split (c ∷ t) = go (ends_field c) (field_split t)
  where
    go : (e : Bool) → first_field t ++ behind_field t ≡ t → cond e [] (c ∷ first_field t) ++ cond e (c ∷ t) (behind_field t) ≡ c ∷ t
    go true h = refl
    go false h = ap {B = Bytes} (λ r. c ∷ r) h

-- the field is the front of the text
pub field_front : (t : Bytes) → take (length (first_field t)) t ≡ first_field t
field_front t = subst (λ (r : Bytes). take (length (first_field t)) r ≡ first_field t) (field_split t) (take_at (first_field t) (behind_field t) (length (first_field t)) refl)

-- what lies behind it is the rest
pub field_rest : (t : Bytes) → drop (length (first_field t)) t ≡ behind_field t
field_rest t = subst (λ (r : Bytes). drop (length (first_field t)) r ≡ behind_field t) (field_split t) (drop_at (first_field t) (behind_field t) (length (first_field t)) refl)

-- the field is no longer than the text
pub field_short : (t : Bytes) → length (first_field t) ≤ length t
field_short t = omega (arith, ap length (field_split t), length-append (first_field t) (behind_field t))

-- what lies behind the byte that ends it is no longer either
pub rest_shorter : (t : Bytes) → length (rest_of t) ≤ length t
rest_shorter t = omega (arith, ap length (field_split t), length-append (first_field t) (behind_field t), length-drop 1 (behind_field t))

-- ---- a field, byte by byte

module _ (s : Bytes) (k : ℕ) where
  -- at the end of the text the field is empty
  pub field_none : length s ≤ k → length (first_field (drop k s)) ≡ 0
  unfolding first_field
  field_none h = rw (drop_of_length-le s {i = k} h) refl

  -- a space or a line feed ends it
  pub field_ends : k < length s → ends_field (get_or s k 0) ≡ true → length (first_field (drop k s)) ≡ 0
  unfolding first_field
  field_ends h e = rw (drop-cons s k 0 h, e) refl

  -- another byte belongs to it
  pub field_goes : k < length s → ends_field (get_or s k 0) ≡ false → length (first_field (drop k s)) ≡ suc (length (first_field (drop (k + 1) s)))
  unfolding first_field
  field_goes h e = rw (drop-cons s k 0 h, add-one k, e) refl

-- ---- fields and lines

-- the fields of the first line are its first field and those behind it
pub fields-first : (t : Bytes) → fields_of (first_line t) ≡ first_field t ∷ cond (followed t) (fields_of (first_line (rest_of t))) []
unfolding fields_of onto first_line first_field behind_field blank_first ends_field
fields-first [] = refl
fields-first (c ∷ t) = go (byte c) (fields-first t)
  where
    go : Byte c → fields_of (first_line t) ≡ first_field t ∷ cond (followed t) (fields_of (first_line (rest_of t))) []
        → fields_of (first_line (c ∷ t)) ≡ first_field (c ∷ t) ∷ cond (followed (c ∷ t)) (fields_of (first_line (rest_of (c ∷ t)))) []
    go (space p q) h = simp (p, q)
    go (feed p q) h = simp (p, q)
    go (other p q) h = simp (p, q, h)

-- where another field follows, the later lines are those behind it
pub later_inner : (t : Bytes) → followed t ≡ true → later_lines (rest_of t) ≡ later_lines t
unfolding later_lines behind_field blank_first ends_field
later_inner [] e = refl
later_inner (c ∷ t) e = go (byte c) e (later_inner t)
  where
    go : Byte c → followed (c ∷ t) ≡ true → (followed t ≡ true → later_lines (rest_of t) ≡ later_lines t) → later_lines (rest_of (c ∷ t)) ≡ later_lines (c ∷ t)
    go (space p q) e h = simp (p, q)
    go (feed p q) e h = let z : false ≡ true = simp (p, q) at e in cc
    go (other p q) e h = simp (p, q) (h (simp (p, q) at e))

-- where no field follows, the later lines begin behind the line feed
pub later_last : (t : Bytes) → followed t ≡ false → rest_of t ≡ later_lines t
unfolding later_lines behind_field blank_first ends_field
later_last [] e = refl
later_last (c ∷ t) e = go (byte c) e (later_last t)
  where
    go : Byte c → followed (c ∷ t) ≡ false → (followed t ≡ false → rest_of t ≡ later_lines t) → rest_of (c ∷ t) ≡ later_lines (c ∷ t)
    go (space p q) e h = let z : true ≡ false = simp (p, q) at e in cc
    go (feed p q) e h = simp (p, q)
    go (other p q) e h = simp (p, q) (h (simp (p, q) at e))

-- a text that is not empty has a first line, and then the later ones
pub lines-first : (c : ℕ) (t : Bytes) → lines (c ∷ t) ≡ first_line (c ∷ t) ∷ lines (later_lines (c ∷ t))
unfolding lines onto first_line later_lines
lines-first c [] = go (eqb c line_feed)
  where
    go : (f : Bool) → cond f ([] ∷ []) (onto c []) ≡ cond f [] (c ∷ []) ∷ lines (cond f [] [])
    go true = refl
    go false = refl
lines-first c (d ∷ t) = go (eqb c line_feed) (lines-first d t)
  where
    go : (f : Bool) → lines (d ∷ t) ≡ first_line (d ∷ t) ∷ lines (later_lines (d ∷ t))
        → cond f ([] ∷ lines (d ∷ t)) (onto c (lines (d ∷ t))) ≡ cond f [] (c ∷ first_line (d ∷ t)) ∷ lines (cond f (d ∷ t) (later_lines (d ∷ t)))
    go true h = refl
    go false h = rw h

-- the first line is empty where a line feed comes first
pub line-empty : (s : Bytes) (k : ℕ) → k < length s → is_nil (first_line (drop k s)) ≡ eqb (get_or s k 0) line_feed
unfolding first_line is_nil
line-empty s k h = rw (drop-cons s k 0 h) (go (eqb (get_or s k 0) line_feed))
  where
    go : (b : Bool) → is_nil (cond b [] (get_or s k 0 ∷ first_line (drop (suc k) s))) ≡ b
    go true = refl
    go false = refl

-- the later lines are shorter than a text that is not empty
pub later_shorter : (c : ℕ) (t : Bytes) → length (later_lines (c ∷ t)) ≤ length t
unfolding later_lines
later_shorter c [] = go (eqb c line_feed)
  where
    go : (f : Bool) → length (cond {A = Bytes} f [] []) ≤ 0
    go true = omega arith
    go false = omega arith
later_shorter c (d ∷ t) = go (eqb c line_feed) (later_shorter d t)
  where
    go : (f : Bool) → length (later_lines (d ∷ t)) ≤ length t → length (cond f (d ∷ t) (later_lines (d ∷ t))) ≤ suc (length t)
    go true h = omega arith
    go false h = omega arith
