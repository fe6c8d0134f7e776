-- The fields of a line and the line that has them: what spaces part, and what is written with one space between.
use mathlib.Core.Path.{◌≡◌, refl, ap, subst, ◌∙◌}
use mathlib.Core.Logic.{◌≢◌, ◌⊎◌, inl, inr, ⊎_elim}
use mathlib.Core.List.Memᴰ
use mathlib.Core.List.{List, [], ◌∷◌, append-nil}
use Prim.Native.Nat.{ℕ}
use Rattle.lists.specs.Lists.{◌∈◌}
use Rattle.model.specs.Bytes.{Bytes, blank, spaced}
use Rattle.model.specs.MapFile.{onto}
use Rattle.model.specs.Reader.{fields_of}
use Rattle.filerules.proofs.Splits.{AllLack, Part, ends, goes, part, Parted, parted, part_parted, split_lack, split_behind}

fields-step : (c : ℕ) (t : Bytes) → Part blank c (fields_of t) (fields_of (c ∷ t))
unfolding fields_of
fields-step c t = part blank c (fields_of t)

-- every line has a field
fields_parted : (b : Bytes) → Parted (fields_of b)
unfolding fields_of
fields_parted [] = parted
fields_parted (c ∷ t) = part_parted (fields-step c t)

-- no field has a space
pub fields_lack : (b : Bytes) → AllLack blank (fields_of b)
unfolding fields_of
fields_lack b = split_lack blank fields_of fields-step (λ f m k. Memᴰ.not-nil (subst (λ (z : Bytes). blank ∈ z) (Memᴰ.eq_of_singleton m) k)) b

-- ---- a line is written of its fields

-- a byte before the first field is a byte before the line
spaced-onto : (c : ℕ) (fs : List Bytes) → Parted fs → spaced (onto c fs) ≡ c ∷ spaced fs
unfolding onto spaced
spaced-onto c fs (parted {p} {ps = []}) = refl
spaced-onto c fs (parted {p} {ps = g ∷ gs}) = refl

-- a space before the line is an empty field before the others
spaced-blank : (fs : List Bytes) → Parted fs → spaced ([] ∷ fs) ≡ blank ∷ spaced fs
unfolding spaced
spaced-blank fs (parted {p} {ps}) = refl

-- a line is written of its fields
pub spaced-fields : (b : Bytes) → spaced (fields_of b) ≡ b
unfolding fields_of spaced
spaced-fields [] = refl
spaced-fields (c ∷ t) = go (fields_of (c ∷ t)) (fields-step c t) (spaced-fields t)
  where
    go : (fs : List Bytes) → Part blank c (fields_of t) fs → spaced (fields_of t) ≡ t → spaced fs ≡ c ∷ t
    go fs (ends e) rec = spaced-blank (fields_of t) (fields_parted t) ∙ (cc)
    go fs (goes n) rec = spaced-onto c (fields_of t) (fields_parted t) ∙ ap {B = Bytes} (λ r. c ∷ r) rec

-- ---- a line has the fields of which it is written

fields_back : (f : Bytes) (fs : List Bytes) → AllLack blank (f ∷ fs) → fields_of (spaced (f ∷ fs)) ≡ f ∷ fs
unfolding spaced fields_of
fields_back f [] n = rw append-nil at (split_behind blank fields_of fields-step f [] [] [] (n f (Memᴰ.head refl)) refl)
fields_back f (g ∷ fs) n =
    let others = ap {B = List Bytes} (λ r. [] ∷ r) (fields_back g fs (λ h m. n h (Memᴰ.tail m))) in
    rw append-nil at (split_behind blank fields_of fields-step f (blank ∷ spaced (g ∷ fs)) [] (g ∷ fs) (n f (Memᴰ.head refl)) others)

-- the fields of a line that is written of fields without spaces, at least one, are these
pub fields-spaced : (fs : List Bytes) → fs ≢ [] → AllLack blank fs → fields_of (spaced fs) ≡ fs
fields-spaced [] n h = absurd (n refl)
fields-spaced (f ∷ fs) n h = fields_back f fs h

-- a byte of a line is a space, or in one of its fields
pub spaced_out : (c : ℕ) (fs : List Bytes) → c ∈ spaced fs → (c ≡ blank) ⊎ ((f : Bytes) × (f ∈ fs) × (c ∈ f))
unfolding spaced
spaced_out c [] m = absurd (Memᴰ.not-nil m)
spaced_out c (f ∷ []) m = inr (f, Memᴰ.head refl, m)
spaced_out c (f ∷ g ∷ fs) m =
    ⊎_elim (λ k. inr (f, Memᴰ.head refl, k)) (λ k. ⊎_elim inl (λ j. later (spaced_out c (g ∷ fs) j)) (Memᴰ.cases_cons k))
    (Memᴰ.append_cases f m)
  where
    later : (c ≡ blank) ⊎ ((h : Bytes) × (h ∈ (g ∷ fs)) × (c ∈ h)) → (c ≡ blank) ⊎ ((h : Bytes) × (h ∈ (f ∷ g ∷ fs)) × (c ∈ h))
    later (inl e) = inl e
    later (inr w) = inr (w.0, Memᴰ.tail w.1, w.2)
