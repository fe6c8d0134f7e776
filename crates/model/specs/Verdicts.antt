-- The verdict on two lists, and the lowest bit address at which they differ. Assumes nothing.
use Rattle.std.specs.Prelude.{◌≡◌, Bool, true, false, not, cond, ◌&&◌, ◌||◌, ◌≢◌, List, [], ◌∷◌, ◌++◌, ℕ, ℤ, pos, negsuc, ◌+ℤ◌, ◌-ℤ◌, ◌≤ℤ◌}
use Rattle.std.specs.Int.Signed.{le_z}
use Rattle.integers.specs.Integers.{eq_z, min_z}
use Rattle.lists.specs.Lists.{◌∈◌, keep, any, all, is_nil}
use Rattle.model.specs.Bitmapping.{Record}

-- ---- the comparing rules

-- first and last leaf bit of a record
abbrev pub first_leaf_bit : Record → ℤ
first_leaf_bit r = r.first -ℤ r.displacement

abbrev pub last_leaf_bit : Record → ℤ
last_leaf_bit r = r.last -ℤ r.displacement

-- the root bits of r are contained in the root bits of s, its leaf bits in the leaf bits of s (003, II), and its displacement is that of s
-- (document 02, item 1; 000, 4.2 no. 2: equal address alignment)
pub record Contained (r s : Record) : Type 0 where
  pub root_low : s.first ≤ℤ r.first
  pub root_high : r.last ≤ℤ s.last
  pub leaf_low : first_leaf_bit s ≤ℤ first_leaf_bit r
  pub leaf_high : last_leaf_bit r ≤ℤ last_leaf_bit s
  pub displacement : r.displacement ≡ s.displacement

-- partial: not equal, the implementation's list is not empty, and each of its records is contained in one specification record
pub record Partly (spec impl : List Record) : Type 0 where
  pub unequal : spec ≢ impl
  pub some : impl ≢ []
  pub each : (r : Record) → r ∈ impl → (s : Record) × (s ∈ spec) × Contained r s

-- Rules spec impl v: the comparing rules give the two lists verdict v: 0 equal, 1 partial, 2 different (000, 2.6.3; 003, II)
pub data Rules (spec impl : List Record) : ℕ → Type 0 where
  equal : spec ≡ impl → Rules spec impl 0
  partial : Partly spec impl → Rules spec impl 1
  different : spec ≢ impl → (Partly spec impl → ⊥) → Rules spec impl 2

-- ---- the verdict, computed

-- the two records are the same
unfoldable pub same_record : Record → Record → Bool
same_record r s = eq_z r.first s.first && eq_z r.last s.last && eq_z r.displacement s.displacement

-- the two lists are the same
unfoldable pub same_list : List Record → List Record → Bool
same_list [] [] = true
same_list [] (s ∷ t) = false
same_list (r ∷ q) [] = false
same_list (r ∷ q) (s ∷ t) = same_record r s && same_list q t

-- r is contained in s: it has the displacement of s, and its root bits are contained in those of s, and so its leaf bits
unfoldable pub contained : Record → Record → Bool
contained r s = eq_z r.displacement s.displacement && le_z s.first r.first && le_z r.last s.last

-- each implementation record is contained in one specification record
unfoldable pub all_contained : List Record → List Record → Bool
all_contained spec impl = all (λ r. any (contained r) spec) impl

-- the verdict on the lists of specification and implementation
unfoldable pub verdict : List Record → List Record → ℕ
verdict spec impl = cond (same_list spec impl) 0 (cond (not (is_nil impl) && all_contained spec impl) 1 2)

-- ---- the lowest differing bit address

-- root bit x is one of the record's
unfoldable pub has_bit : ℤ → Record → Bool
has_bit x r = le_z r.first x && le_z x r.last

-- every leaf bit that x has by l it has by m
unfoldable pub bits_within : ℤ → List Record → List Record → Bool
bits_within x l m = all (λ r. not (has_bit x r) || any (λ s. has_bit x s && eq_z r.displacement s.displacement) m) l

-- the leaf bits of x by l are not those by m
unfoldable pub differs_at : List Record → List Record → ℤ → Bool
differs_at l m x = not (bits_within x l m && bits_within x m l)

-- where the leaf bits can change: where a record begins, and past its end
unfoldable pub changes : List Record → List ℤ
changes [] = []
changes (r ∷ t) = r.first ∷ (r.last +ℤ pos 1) ∷ changes t

-- the least of a and the numbers of the list
unfoldable pub least : ℤ → List ℤ → ℤ
least a [] = a
least a (b ∷ t) = least (min_z a b) t

-- the least number of a list; −1 where it has none
unfoldable pub least_of : List ℤ → ℤ
least_of [] = negsuc 0
least_of (a ∷ t) = least a t

-- the lowest bit address at which the leaf bits by the two lists differ; −1 where they differ nowhere
unfoldable pub lowest : List Record → List Record → ℤ
lowest l m = least_of (keep (differs_at l m) (changes l ++ changes m))
