-- The numbers on the sheet by their ranges: exactly those that the lines have, ascending, and the place of each is how many lie below it.
use mathlib.Core.Path.{◌≡◌, refl, sym, ap, subst, ◌∙◌}
use mathlib.Core.Bool.{Bool, true, false, cond}
use mathlib.Core.List.{List, [], ◌∷◌, ◌++◌, append_assoc, map, map-append, flat_map}
use mathlib.Core.List.Memᴰ
use mathlib.Core.Logic.{◌≢◌, ⊎_elim}
use Prim.Native.Nat.{ℕ, zero, suc, ◌≤◌, ◌<◌}
use native.Mathlib.Omega.{arith}
use lib.Dec.{T, ltb}
use lib.IntN.{ℤ, pos, nat_abs}
use lib.Signed.{◌<ℤ◌, lt_z_yes}
use lib.ListN.{length, get_or, length-map}
use Rattle.integers.specs.Integers.{eq_z}
use Rattle.integers.proofs.Linear.{ints}
use Rattle.integers.proofs.Tests.{Test, passed, failed, eq_z?, ltb?, eq_z_refl, is_true}
use Rattle.lists.specs.Lists.{◌∈◌}
use Rattle.lists.proofs.Membership.{map_in, map_out}
use Rattle.model.specs.Limits.{sheet_numbers}
use Rattle.model.specs.Sheet.{SheetNumber, place_among, byte_node}
use Rattle.model.specs.Calls.{ascending}
use Rattle.model.proofs.WalkCall.{Ascending, nil, cons, ascending_members, ascending-ordered, ascending_unique}
use Rattle.sheettables.specs.Parts.{is_present, present, nodes_of}
use Rattle.sheettables.proofs.Numbers.{number_index, number-below}

-- ---- lists

-- an ascending list with a number above all of it behind
ascending_snoc : {l : List ℤ} (x : ℤ) → Ascending l → ((y : ℤ) → y ∈ l → y <ℤ x) → Ascending (l ++ (x ∷ []))
ascending_snoc x nil h = cons (λ y m. absurd (Memᴰ.not-nil m)) nil
ascending_snoc x (cons {x = z} {l = l} low c) h =
    cons (λ y m. ⊎_elim (low y) (λ n. subst (λ u. z <ℤ u) (sym (Memᴰ.eq_of_singleton n)) (h z (Memᴰ.head refl))) (Memᴰ.append_cases l m))
    (ascending_snoc x c (λ y m. h y (Memᴰ.tail m)))

-- the place of a number behind a list that does not have it
place-behind : (x : ℤ) (l m : List ℤ) → (x ∈ l → ⊥) → place_among x (l ++ (x ∷ m)) ≡ length l
unfolding place_among
place-behind x [] m new = rw (is_true (eq_z x x) (eq_z_refl x))
place-behind x (y ∷ l) m new = go (eq_z x y) (eq_z? x y) (place-behind x l m (λ n. new (Memᴰ.tail n)))
  where
    go : (b : Bool) → Test (x ≡ y) (x ≢ y) b → place_among x (l ++ (x ∷ m)) ≡ length l → cond b 0 (suc (place_among x (l ++ (x ∷ m)))) ≡ suc (length l)
    go true (passed e) rec = absurd (new (Memᴰ.head e))
    go false (failed n) rec = ap suc rec

-- the lists of numbers, and of the same numbers as indices
flat_map_numbers : {B : Type 0} (f : ℕ → List B) (g : ℤ → List B) (l : List ℕ) → ((v : ℕ) → v ∈ l → f v ≡ g (pos v)) → flat_map f l ≡ flat_map g (map pos l)
unfolding flat_map
flat_map_numbers f g [] h = refl
flat_map_numbers f g (v ∷ l) h = cc (h v (Memᴰ.head refl), flat_map_numbers f g l (λ u m. h u (Memᴰ.tail m)))

-- ---- the numbers below n

module _ (ranges : List ℤ) where
  -- they lie below n, and have a range
  pub present_out : (n : ℕ) {v : ℕ} → v ∈ present ranges n → (v < n) × T (is_present ranges v)
  unfolding present
  present_out zero m = absurd (Memᴰ.not-nil m)
  present_out (suc n) {v} m = go (is_present ranges n) refl m (present_out n)
    where
      up : (v < n) × T (is_present ranges v) → (v < suc n) × T (is_present ranges v)
      up w = (omega (arith, w.0), w.1)

      go : (b : Bool) → is_present ranges n ≡ b → v ∈ cond b (present ranges n ++ (n ∷ [])) (present ranges n)
          → (v ∈ present ranges n → (v < n) × T (is_present ranges v)) → (v < suc n) × T (is_present ranges v)
      go true e k rec =
          ⊎_elim (λ j. up (rec j))
          (λ j. let same : v ≡ n = Memᴰ.eq_of_singleton j in (omega arith, subst (λ u. T (is_present ranges u)) (sym same) (subst T (sym e) tt)))
          (Memᴰ.append_cases (present ranges n) k)
      go false e k rec = up (rec k)

  -- a number with a range has those below it before it, and others behind it
  record Split (v n : ℕ) : Type 0 where
    behind : List ℕ
    split : present ranges n ≡ present ranges v ++ (v ∷ behind)

  present_split : (v n : ℕ) → v < n → is_present ranges v ≡ true → Split v n
  unfolding present
  present_split v zero h e = absurd (omega arith)
  present_split v (suc n) h e = go (ltb v n) (ltb? v n) (present_split v n)
    where
      more : (b : Bool) → Split v n → (rest : List ℕ) × (cond b (present ranges n ++ (n ∷ [])) (present ranges n) ≡ present ranges v ++ (v ∷ rest))
      more true w =
          (w.behind ++ (n ∷ []), ap (λ l. l ++ (n ∷ [])) w.split ∙ append_assoc (present ranges v) (v ∷ w.behind) (n ∷ []))
      more false w = (w.behind, w.split)

      go : (b : Bool) → Test (v < n) (n ≤ v) b → (v < n → is_present ranges v ≡ true → Split v n) → Split v (suc n)
      go true (passed k) rec = let w = more (is_present ranges n) (rec k e) in record { behind = w.0; split = w.1 }
      go false (failed k) rec =
          let same : n ≡ v = omega arith in
          let test : is_present ranges n ≡ true = ap (is_present ranges) same ∙ e in
          record { behind = []; split = rw (test) (ap (λ u. present ranges u ++ (u ∷ [])) same) }

  -- they are ascending
  present-ascending : (n : ℕ) → Ascending (map pos (present ranges n))
  unfolding present
  present-ascending zero = nil
  present-ascending (suc n) = go (is_present ranges n) (present-ascending n)
    where
      above : (y : ℤ) → y ∈ map pos (present ranges n) → y <ℤ pos n
      above y m =
          let w = map_out pos (present ranges n) m in
          let low = (present_out n w.1).0 in
          let e = w.2 in
          omega (arith, ints)

      go : (b : Bool) → Ascending (map pos (present ranges n)) → Ascending (map pos (cond b (present ranges n ++ (n ∷ [])) (present ranges n)))
      go true c = subst Ascending (sym (map-append pos (present ranges n) (n ∷ []))) (ascending_snoc (pos n) c above)
      go false c = c

  -- the place of a number with a range is how many lie below it
  present-place : (v n : ℕ) → v < n → is_present ranges v ≡ true → place_among (pos v) (map pos (present ranges n)) ≡ length (present ranges v)
  present-place v n h e =
      let w = present_split v n h e in
      let lower = present ranges v in
      ap (λ l. place_among (pos v) (map pos l)) w.split
      ∙ ap (place_among (pos v)) (map-append pos lower (v ∷ w.behind))
      ∙ place-behind (pos v) (map pos lower) (map pos w.behind) new
      ∙ length-map lower pos
    where
      new : pos v ∈ map pos (present ranges v) → ⊥
      new m = let u = map_out pos (present ranges v) m in let low = (present_out v u.1).0 in let q = u.2 in omega (arith, ints)

-- ---- the numbers of lines

-- the ranges are above 0 exactly at these numbers, each of which is one of a sheet
pub record Ranged (numbers ranges : List ℤ) : Type 0 where
  pub within : (y : ℤ) → y ∈ numbers → SheetNumber y
  pub on : (v : ℕ) → v < sheet_numbers → pos v ∈ numbers → pos 0 <ℤ get_or ranges v (pos 0)
  pub only : (v : ℕ) → v < sheet_numbers → pos 0 <ℤ get_or ranges v (pos 0) → pos v ∈ numbers

module _ {numbers ranges : List ℤ} (r : Ranged numbers ranges) where
  -- a number of the lines is on the sheet
  ranged_present : (v : ℕ) → v < sheet_numbers → pos v ∈ numbers → is_present ranges v ≡ true
  ranged_present v h m = is_true (is_present ranges v) (r.on v h m).lt

  -- the numbers on the sheet are those of the lines, ascending
  pub ranged_ascending : map pos (present ranges sheet_numbers) ≡ ascending numbers
  ranged_ascending = ascending_unique (present-ascending ranges sheet_numbers) (ascending-ordered numbers) (λ y. (there y, back y))
    where
      there : (y : ℤ) → y ∈ map pos (present ranges sheet_numbers) → y ∈ ascending numbers
      there y m =
          let w = map_out pos (present ranges sheet_numbers) m in
          let k = present_out ranges sheet_numbers w.1 in
          (ascending_members numbers).1 (Memᴰ.cast w.2 (r.only w.0 k.0 (lt_z_yes k.1)))

      back : (y : ℤ) → y ∈ ascending numbers → y ∈ map pos (present ranges sheet_numbers)
      back y m =
          let j = (ascending_members numbers).0 m in
          let n = r.within y j in
          let v = nat_abs y in
          let e = number_index n in
          let h = number-below n in
          let w = present_split ranges v sheet_numbers h (ranged_present v h (Memᴰ.cast e j)) in
          Memᴰ.cast (sym e) (map_in pos (subst (λ l. v ∈ l) (sym w.split) (Memᴰ.append_right (present ranges v) (Memᴰ.head refl))))

  -- the place of a number among those of the lines
  pub ranged_place : {y : ℤ} → y ∈ numbers → place_among y (ascending numbers) ≡ length (present ranges (nat_abs y))
  ranged_place {y} m =
      let n = r.within y m in
      let v = nat_abs y in
      let e = number_index n in
      let h = number-below n in
      ap (λ z. place_among z (ascending numbers)) (sym e)
      ∙ ap (place_among (pos v)) (sym ranged_ascending)
      ∙ present-place ranges v sheet_numbers h (ranged_present v h (Memᴰ.cast e m))

  -- how many they are
  pub ranged_length : length (ascending numbers) ≡ length (present ranges sheet_numbers)
  ranged_length = ap length (sym ranged_ascending) ∙ length-map (present ranges sheet_numbers) pos

  -- their node rows, where the range of each is known
  pub ranged_nodes : (kind : ℤ) (range : ℤ → ℤ) → ((v : ℕ) → v < sheet_numbers → pos v ∈ numbers → get_or ranges v (pos 0) ≡ range (pos v))
      → nodes_of kind ranges sheet_numbers ≡ flat_map (λ n. byte_node kind (range n)) (ascending numbers)
  unfolding nodes_of
  ranged_nodes kind range same =
      flat_map_numbers (λ v. byte_node kind (get_or ranges v (pos 0))) (λ n. byte_node kind (range n)) (present ranges sheet_numbers)
      (λ v m. let k = present_out ranges sheet_numbers m in ap (byte_node kind) (same v k.0 (r.only v k.0 (lt_z_yes k.1))))
      ∙ ap (flat_map (λ n. byte_node kind (range n))) ranged_ascending
