-- Bytes, and numbers written in decimal. Assumes nothing.
use Rattle.std.specs.Prelude.{Bool, true, false, cond, List, [], ◌∷◌, ◌++◌, ℕ, zero, suc, ◌+◌, ◌/◌, ◌%◌, ltb, eqb, ℤ, pos, negsuc}
use Prim.Native.String.{String, [] as []ˢ, ◌∷◌ as ◌∷ˢ◌}
use Prim.Native.Char.{code}

abbrev pub Bytes : Type 0
Bytes = List ℕ

-- the bytes of a quoted text, all of whose characters are below 128
unfoldable pub bytes : String → Bytes
bytes []ˢ = []
bytes (c ∷ˢ s) = code c ∷ bytes s

-- line feed, space and minus
abbrev pub line_feed : ℕ
line_feed = 10

abbrev pub blank : ℕ
blank = 32

abbrev pub dash : ℕ
dash = 45

-- the decimal digits of n, no leading zero, for n of at most k digits
unfoldable pub digits : ℕ → ℕ → Bytes
digits zero n = []
digits (suc k) n = elim (ltb n 10) [ true ↦ (48 + n) ∷ [] | false ↦ digits k (n / 10) ++ ((48 + n % 10) ∷ []) ]

-- a number of 64 bits, in decimal: a minus before it if negative, no leading zero, no −0
unfoldable pub shown : ℤ → Bytes
shown (pos n) = digits 20 n
shown (negsuc n) = dash ∷ digits 20 (suc n)

-- fields, with one space between them
unfoldable pub spaced : List Bytes → Bytes
spaced [] = []
spaced (f ∷ []) = f
spaced (f ∷ g ∷ fs) = f ++ blank ∷ spaced (g ∷ fs)

-- the two texts are the same
unfoldable pub same : Bytes → Bytes → Bool
same [] [] = true
same [] (y ∷ ys) = false
same (x ∷ xs) [] = false
same (x ∷ xs) (y ∷ ys) = let r = same xs ys in cond (eqb x y) r false
