-- Records of bit 0 alone, normalised: their displacements ascending, each once.
use mathlib.Core.Path.{◌≡◌, sym, ap, ◌∙◌}
use mathlib.Core.List.{List, map}
use native.Mathlib.Omega.{arith}
use lib.IntN.{ℤ}
use Rattle.integers.proofs.Linear.{ints}
use Rattle.lists.proofs.Membership.{map_in, map_out}
use Rattle.model.specs.Bitmapping.{Record, Ordered, none, more}
use Rattle.model.specs.Runs.{normal}
use Rattle.model.specs.Calls.{ascending}
use Rattle.model.proofs.Records.{touch_is}
use Rattle.model.proofs.Normalisation.{normal_unique}
use Rattle.model.proofs.WalkCall.{Ascending, nil, cons, ascending_members, ascending-ordered}
use Rattle.normalisation.specs.Merging.{AllSmallLast}
use Rattle.normalisation.specs.Records.{IsNormal}
use Rattle.normalisation.proofs.Displaced.{normal-held}
use Rattle.listing.specs.Listing.{bit_record}

-- they are small
pub bits_small : (l : List ℤ) → AllSmallLast (map bit_record l)
bits_small l s m = let e = (map_out bit_record l m).2 in rw e (record { full = omega (arith, ints); high = omega (arith, ints) })

bits-ordered : {l : List ℤ} → Ascending l → Ordered (map bit_record l)
bits-ordered nil = none
bits-ordered (cons {x = x} {l = l} low rest) =
    more {r = bit_record x} (λ s m. let (b, k, e) = map_out bit_record l m in rw e (record { first = omega (arith, ints); then = λ z. low b k })) (bits-ordered rest)

-- those of ascending numbers are a normal list
bits-list : {l : List ℤ} → Ascending l → IsNormal (map bit_record l)
bits-list {l} a =
    record {
      full = λ s m. (bits_small l s m).full;
      ordered = bits-ordered a;
      apart = λ r s m k t.
          let (b, i, e) = map_out bit_record l m in
          let (c, j, f) = map_out bit_record l k in
          let same : b ≡ c = sym (ap (λ (z : Record). z.displacement) e) ∙ ((touch_is r s).0 t).same ∙ ap (λ (z : Record). z.displacement) f in
          e ∙ ap bit_record same ∙ sym f;
    }

pub bits-normal : (l : List ℤ) → normal (map bit_record l) ≡ map bit_record (ascending l)
bits-normal l =
    normal_unique (λ s m. (bits_small l s m).full)
    (λ x y. (
      λ (s, m, h). let (b, k, e) = map_out bit_record l m in (s, rw e (map_in bit_record ((ascending_members l).1 k)), h),
      λ (s, m, h). let (b, k, e) = map_out bit_record (ascending l) m in (s, rw e (map_in bit_record ((ascending_members l).0 k)), h),
    ))
    (normal-held (bits-list (ascending-ordered l)))
