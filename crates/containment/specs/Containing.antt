-- Whether each record of one list is contained in one record of another, in one pass over both lists, sorted by displacement. Assumes nothing.
use Rattle.std.specs.Prelude.{Bool, true, false, cond, List, [], ◌∷◌}
use Rattle.model.specs.Bitmapping.{Record}
use Rattle.model.specs.Verdicts.{contained}

-- each record of m is contained in one record of l, where both are sorted by displacement: the first of l contains the first of m, which is then
-- done with; or else the first of l is done with: where each of m is contained in one of l, the first of l contains none of them
unfoldable pub contains_all : List Record → List Record → Bool
contains_all l [] = true
contains_all [] (r ∷ m) = false
contains_all (s ∷ l) (r ∷ m) = cond (contained r s) (contains_all (s ∷ l) m) (contains_all l (r ∷ m))
