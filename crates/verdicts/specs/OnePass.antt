-- The lowest address at which two lists differ, found in one pass over both: the least of a few candidates. Assumes nothing.
use Rattle.std.specs.Prelude.{Bool, false, cond, ◌&&◌, List, [], ◌∷◌, ◌++◌, ℤ, pos, negsuc, ◌+ℤ◌}
use Rattle.std.specs.Int.Signed.{lt_z}
use Rattle.integers.specs.Integers.{eq_z, min_z}
use Rattle.model.specs.Bitmapping.{Record}

-- ---- candidates

-- two records begin alike: at one bit, with one displacement
unfoldable pub aligned : Record → Record → Bool
aligned r s = eq_z r.first s.first && eq_z r.displacement s.displacement

-- of two records that begin alike and end apart: the bit past the end of the shorter
unfoldable pub ends : Record → Record → List ℤ
ends r s = cond (lt_z r.last s.last) ((r.last +ℤ pos 1) ∷ []) (cond (lt_z s.last r.last) ((s.last +ℤ pos 1) ∷ []) [])

-- while records begin alike, where they end apart; then where the first two begin that do not, or the first that only one list has
unfoldable pub candidates : List Record → List Record → List ℤ
candidates [] [] = []
candidates [] (s ∷ m) = s.first ∷ []
candidates (r ∷ l) [] = r.first ∷ []
candidates (r ∷ l) (s ∷ m) = let further = ends r s ++ candidates l m in cond (aligned r s) further (r.first ∷ s.first ∷ [])

-- the lists both begin, with records that begin alike
unfoldable pub heads_aligned : List Record → List Record → Bool
heads_aligned [] m = false
heads_aligned (r ∷ l) [] = false
heads_aligned (r ∷ l) (s ∷ m) = aligned r s

-- where a list begins
unfoldable pub starts : List Record → List ℤ
starts [] = []
starts (r ∷ l) = r.first ∷ []

-- ---- the least of them

-- the lower of a, which is −1 where there is none yet, and b
unfoldable pub lower : ℤ → ℤ → ℤ
lower a b = cond (lt_z a (pos 0)) b (min_z a b)

-- the lowest of a, which is −1 where there is none yet, and the numbers of a list
unfoldable pub lowest_from : ℤ → List ℤ → ℤ
lowest_from a [] = a
lowest_from a (b ∷ l) = lowest_from (lower a b) l

-- the lowest candidate; −1 where there is none
abbrev pub lowest_candidate : List Record → List Record → ℤ
lowest_candidate l m = lowest_from (negsuc 0) (candidates l m)
