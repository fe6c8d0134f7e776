-- Marks: the nodes that are stamped after a pass over edge rows are those that one of the rows leaves.
use mathlib.Core.Path.{◌≡◌, refl, sym, ap, ◌∙◌}
use mathlib.Core.Bool.{Bool, true, false}
use mathlib.Core.Logic.{◌≢◌, ◌⊎◌, inl, inr, ⊎_elim}
use mathlib.Core.List.Memᴰ
use mathlib.Core.List.{List, [], ◌∷◌, ◌++◌, map}
use Prim.Native.Nat.{ℕ, ◌+◌, ◌≤◌, ◌<◌}
use native.Mathlib.Omega.{arith}
use borrow.Author.Tests.{eq-eqb, ne_eqb}
use lib.Dec.{eqb}
use lib.IntN.{ℤ, pos, nat_abs}
use lib.ListN.{length, get_or, set, take, length-set}
use lib.Seq.{get_or-set_same, get_or-set_other}
use Rattle.integers.proofs.Tests.{Test, passed, failed, eq?}
use Rattle.lists.specs.Lists.{◌∈◌}
use Rattle.tables.specs.Tables.{edge_at}
use Rattle.depth.specs.Passes.{stamped, enters_stamped}
use Rattle.depth.proofs.Stores.{take_more}

-- the node that edge row e leaves, as a place among the marks
abbrev pub start_of : List ℤ → ℕ → ℕ
start_of es e = nat_abs (edge_at es e).from

module _ (es : List ℤ) (stamp : ℕ) where
  module _ (marks : List ℕ) (e : ℕ) {v : ℕ} (q : pos v ≡ (edge_at es e).to) where
    -- an edge row whose node is stamped enters a stamped node
    pub enters_true : get_or marks v 0 ≡ stamp → enters_stamped es stamp marks e ≡ true
    unfolding enters_stamped
    enters_true h = eq-eqb (get_or marks (nat_abs (edge_at es e).to) 0) stamp (ap (λ n. get_or marks n 0) (sym (ap nat_abs q)) ∙ h)

    -- an edge row whose node is not stamped enters none
    pub enters_false : get_or marks v 0 ≢ stamp → enters_stamped es stamp marks e ≡ false
    unfolding enters_stamped
    enters_false h = ne_eqb (get_or marks (nat_abs (edge_at es e).to) 0) stamp (λ k. h (ap (λ n. get_or marks n 0) (ap nat_abs q) ∙ k))

  -- every node that one of the rows leaves is a place among the marks
  abbrev pub Starts : List ℕ → List ℕ → Type 0
  Starts rows marks = (e : ℕ) → e ∈ rows → start_of es e < length marks

  -- a pass keeps the number of marks
  pub stamped_length : (rows marks : List ℕ) → length (stamped es stamp rows marks) ≡ length marks
  unfolding stamped
  stamped_length [] marks = refl
  stamped_length (e ∷ rows) marks = stamped_length rows (set marks (start_of es e) stamp) ∙ length-set marks (start_of es e) stamp

  -- some rows, then others
  pub stamped_append : (xs ys marks : List ℕ) → stamped es stamp (xs ++ ys) marks ≡ stamped es stamp ys (stamped es stamp xs marks)
  unfolding stamped
  stamped_append [] ys marks = refl
  stamped_append (x ∷ xs) ys marks = stamped_append xs ys (set marks (start_of es x) stamp)

  -- one row more
  pub stamped-more : (rest marks : List ℕ) (i v : ℕ) → i < length rest → pos v ≡ (edge_at es (get_or rest i 0)).from
      → set (stamped es stamp (take i rest) marks) v stamp ≡ stamped es stamp (take (i + 1) rest) marks
  unfolding stamped
  stamped-more rest marks i v h q =
      ap (λ n. set (stamped es stamp (take i rest) marks) n stamp) (ap nat_abs q)
      ∙ sym (stamped_append (take i rest) (get_or rest i 0 ∷ []) marks)
      ∙ ap (λ l. stamped es stamp l marks) (sym (take_more rest i 0 h))

  starts-rest : {e : ℕ} {rows : List ℕ} (marks : List ℕ) → Starts (e ∷ rows) marks → Starts rows (set marks (start_of es e) stamp)
  starts-rest {e} marks within d m = omega (arith, within d (Memᴰ.tail m), length-set marks (start_of es e) stamp)

  -- a mark after one store: the stamp at its place, elsewhere as it was
  stored : (marks : List ℕ) (v w : ℕ) → v < length marks
      → ((w ≡ v) × (get_or (set marks v stamp) w 0 ≡ stamp)) ⊎ (get_or (set marks v stamp) w 0 ≡ get_or marks w 0)
  stored marks v w h = go (eqb w v) (eq? w v)
    where
      go : (b : Bool) → Test (w ≡ v) (w ≢ v) b
          → ((w ≡ v) × (get_or (set marks v stamp) w 0 ≡ stamp)) ⊎ (get_or (set marks v stamp) w 0 ≡ get_or marks w 0)
      go true (passed e) = inl (e, ap (λ n. get_or (set marks v stamp) n 0) e ∙ get_or-set_same marks v stamp 0 h)
      go false (failed n) = inr (get_or-set_other marks v w stamp 0 n)

  -- no mark gets above the stamp
  pub stamped-below : (rows marks : List ℕ) → Starts rows marks → ((v : ℕ) → get_or marks v 0 ≤ stamp)
      → (v : ℕ) → get_or (stamped es stamp rows marks) v 0 ≤ stamp
  unfolding stamped
  stamped-below [] marks within below v = below v
  stamped-below (e ∷ rows) marks within below v =
      stamped-below rows (set marks (start_of es e) stamp) (starts-rest marks within)
      (λ w. ⊎_elim (λ p. omega (arith, p.1)) (λ p. omega (arith, p, below w)) (stored marks (start_of es e) w (within e (Memᴰ.head refl)))) v

  -- a stamped node was stamped before, or one of the rows leaves it
  pub stamped_out : (rows marks : List ℕ) → Starts rows marks → (v : ℕ)
      → get_or (stamped es stamp rows marks) v 0 ≡ stamp → (get_or marks v 0 ≡ stamp) ⊎ (v ∈ map (start_of es) rows)
  unfolding stamped
  stamped_out [] marks within v q = inl q
  stamped_out (e ∷ rows) marks within v q =
      ⊎_elim (λ p. ⊎_elim (λ s. inr (Memᴰ.head s.0)) (λ s. inl (sym s ∙ p)) (stored marks (start_of es e) v (within e (Memᴰ.head refl))))
      (λ m. inr (Memᴰ.tail m))
      (stamped_out rows (set marks (start_of es e) stamp) (starts-rest marks within) v q)

  -- a stamped node stays stamped
  stamped_stays : (rows marks : List ℕ) → Starts rows marks → (v : ℕ) → get_or marks v 0 ≡ stamp → get_or (stamped es stamp rows marks) v 0 ≡ stamp
  unfolding stamped
  stamped_stays [] marks within v q = q
  stamped_stays (e ∷ rows) marks within v q =
      stamped_stays rows (set marks (start_of es e) stamp) (starts-rest marks within) v
      (⊎_elim (λ s. s.1) (λ s. s ∙ q) (stored marks (start_of es e) v (within e (Memᴰ.head refl))))

  -- a node that one of the rows leaves is stamped
  pub stamped_in : (rows marks : List ℕ) → Starts rows marks → (v : ℕ) → v ∈ map (start_of es) rows → get_or (stamped es stamp rows marks) v 0 ≡ stamp
  unfolding stamped
  stamped_in [] marks within v m = absurd (Memᴰ.not-nil m)
  stamped_in (e ∷ rows) marks within v m =
      let after = set marks (start_of es e) stamp in
      let same : get_or after (start_of es e) 0 ≡ stamp = get_or-set_same marks (start_of es e) stamp 0 (within e (Memᴰ.head refl)) in
      ⊎_elim (λ q. stamped_stays rows after (starts-rest marks within) v (ap (λ n. get_or after n 0) q ∙ same))
      (λ n. stamped_in rows after (starts-rest marks within) v n)
      (Memᴰ.cases_cons m)
