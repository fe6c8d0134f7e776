-- A normal list kept as rows by displacement: the rows tell the list, and normalised they are the list.
use mathlib.Core.Path.{◌≡◌, sym, ap, subst, ◌∙◌}
use mathlib.Core.List.{List}
use lib.IntN.{ℤ}
use Rattle.lists.specs.Lists.{◌∈◌}
use Rattle.model.specs.Bitmapping.{Record, Has, IsListOf}
use Rattle.model.specs.Runs.{normal}
use Rattle.model.proofs.Records.{Near, touch_near, touch_is}
use Rattle.model.proofs.Uniqueness.{near_maximal}
use Rattle.model.proofs.Normalisation.{Held, normal_unique}
use Rattle.normalisation.specs.Merging.{sorted_by_displacement}
use Rattle.normalisation.specs.Records.{IsNormal}
use Rattle.normalisation.proofs.Sorted.{by-displacement_members}

-- a normal list is the list of what it has
pub normal-held : {l : List Record} → IsNormal l → IsListOf (Held l) l
normal-held {l} h =
    record {
      full = h.full;
      sound = λ s m x y k. (s, m, k);
      complete = λ x y k. k;
      maximal = λ s m. near_maximal (h.full s m) (own s m);
      ordered = h.ordered;
    }
  where
    own : (s : Record) → s ∈ l → (x y : ℤ) → Near s x y → Held l x y → Has s x y
    own s m x y b (t, p, k) = subst (λ (z : Record). Has z x y) (sym (h.apart s t m p ((touch_is s t).1 (touch_near b k)))) k

-- sorted by displacement and normalised, it is the list
pub displaced_normal : {l : List Record} → IsNormal l → normal (sorted_by_displacement l) ≡ l
displaced_normal {l} h =
    normal_unique (λ s m. h.full s ((by-displacement_members l).0 m))
    (λ x y. (λ (s, m, k). (s, (by-displacement_members l).0 m, k), λ (s, m, k). (s, (by-displacement_members l).1 m, k))) (normal-held h)

-- two normal lists whose rows are the same are the same
pub displaced_same : {l m : List Record} → IsNormal l → IsNormal m → sorted_by_displacement l ≡ sorted_by_displacement m → l ≡ m
displaced_same {l} {m} h k e = sym (displaced_normal h) ∙ ap normal e ∙ displaced_normal k
