-- A text split at each place of one byte, into fields at spaces or into lines at line feeds: what both have in common.
use mathlib.Core.Path.{◌≡◌, refl, sym, subst}
use mathlib.Core.Bool.{Bool, true, false, cond}
use mathlib.Core.Logic.{◌≢◌, ⊎_elim}
use mathlib.Core.List.Memᴰ
use mathlib.Core.List.{List, [], ◌∷◌, ◌++◌}
use Prim.Native.Nat.{ℕ}
use lib.Dec.{eqb}
use Rattle.integers.proofs.Tests.{Test, passed, failed, eq?}
use Rattle.lists.specs.Lists.{◌∈◌}
use Rattle.model.specs.Bytes.{Bytes}
use Rattle.model.specs.MapFile.{onto}

-- the byte is not in the text
abbrev pub Lacks : ℕ → Bytes → Type 0
Lacks c b = c ∈ b → ⊥

-- the parts ps with one byte more before them: the byte s ends an empty part, another byte goes into the first part
pub data Part (s c : ℕ) (ps : List Bytes) : List Bytes → Type 0 where
  ends : c ≡ s → Part s c ps ([] ∷ ps)
  goes : c ≢ s → Part s c ps (onto c ps)

-- a byte before the parts, as a split takes it
pub part : (s c : ℕ) (ps : List Bytes) → Part s c ps (cond (eqb c s) ([] ∷ ps) (onto c ps))
part s c ps = go (eqb c s) (eq? c s)
  where
    go : (b : Bool) → Test (c ≡ s) (c ≢ s) b → Part s c ps (cond b ([] ∷ ps) (onto c ps))
    go true (passed e) = ends e
    go false (failed n) = goes n

-- there is a part
pub data Parted : List Bytes → Type 0 where
  parted : {p : Bytes} {ps : List Bytes} → Parted (p ∷ ps)

onto_parted : (c : ℕ) (ps : List Bytes) → Parted (onto c ps)
unfolding onto
onto_parted c [] = parted
onto_parted c (p ∷ ps) = parted

-- a text that is not empty has a part
pub part_parted : {s c : ℕ} {ps qs : List Bytes} → Part s c ps qs → Parted qs
part_parted (ends e) = parted
part_parted {c} {ps} (goes n) = onto_parted c ps

-- no part has the byte
abbrev pub AllLack : ℕ → List Bytes → Type 0
AllLack s ps = (p : Bytes) → p ∈ ps → Lacks s p

onto_lack : (s c : ℕ) (ps : List Bytes) → c ≢ s → AllLack s ps → AllLack s (onto c ps)
unfolding onto
onto_lack s c [] n h p m k = absurd (n (sym (Memᴰ.eq_of_singleton (subst (λ (z : Bytes). s ∈ z) (Memᴰ.eq_of_singleton m) k))))
onto_lack s c (q ∷ qs) n h p m k = ⊎_elim here (λ j. h p (Memᴰ.tail j) k) (Memᴰ.cases_cons m)
  where
    here : p ≡ c ∷ q → ⊥
    here e = ⊎_elim (λ i. n (sym i)) (h q (Memᴰ.head refl)) (Memᴰ.cases_cons (subst (λ (z : Bytes). s ∈ z) e k))

part_lack : {s c : ℕ} {ps qs : List Bytes} → Part s c ps qs → AllLack s ps → AllLack s qs
part_lack {s} (ends e) h p m k = ⊎_elim (λ q. Memᴰ.not-nil (subst (λ (z : Bytes). s ∈ z) q k)) (λ j. h p j k) (Memᴰ.cases_cons m)
part_lack {s} {c} {ps} (goes n) h p m k = onto_lack s c ps n h p m k

module _ (s : ℕ) (split : Bytes → List Bytes) (step : (c : ℕ) (t : Bytes) → Part s c (split t) (split (c ∷ t))) where
  -- no part has the byte at which the text is split
  pub split_lack : AllLack s (split []) → (b : Bytes) → AllLack s (split b)
  split_lack h [] = h
  split_lack h (c ∷ t) = part_lack (step c t) (split_lack h t)

  -- bytes at which the text is not split go into the first part of what follows
  pub split_behind : (f t p : Bytes) (ps : List Bytes) → Lacks s f → split t ≡ p ∷ ps → split (f ++ t) ≡ (f ++ p) ∷ ps
  unfolding onto
  split_behind [] t p ps n e = e
  split_behind (c ∷ f) t p ps n e = go (split (c ∷ (f ++ t))) (step c (f ++ t)) (split_behind f t p ps (λ m. n (Memᴰ.tail m)) e)
    where
      go : (qs : List Bytes) → Part s c (split (f ++ t)) qs → split (f ++ t) ≡ (f ++ p) ∷ ps → qs ≡ (c ∷ (f ++ p)) ∷ ps
      go qs (ends q) rec = absurd (n (Memᴰ.head (sym q)))
      go qs (goes q) rec = rw rec
