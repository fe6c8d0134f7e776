-- Where no specification leaf is named twice and every leaf row begins at 0, each leaf row is a group by itself, and what is found is the list of its specification leaf
-- and that of its implementation leaf.
use mathlib.Core.Path.{◌≡◌, refl, sym, ap, ap₂, ◌∙◌, fun_ext}
use mathlib.Core.Bool.{Bool, true, false, cond}
use mathlib.Core.List.Memᴰ
use mathlib.Core.List.{List, [], ◌∷◌, map}
use mathlib.Core.Logic.{◌⊎◌, inl, inr}
use Prim.Native.Nat.{◌<◌}
use native.Mathlib.Omega.{arith}
use lib.IntN.{ℤ, pos}
use Rattle.integers.proofs.Tests.{passed, failed}
use Rattle.lists.specs.Lists.{◌∈◌, keep}
use Rattle.lists.proofs.Membership.{keep_nil}
use Rattle.lists.proofs.Decisions.{Decides, decides_iff, decides_not}
use Rattle.lists.proofs.Places.{map_same}
use Rattle.model.specs.declared.WalkKind.{WalkKind}
use Rattle.model.specs.Rows.{Pair}
use Rattle.model.specs.Bitmapping.{Record}
use Rattle.model.specs.Runs.{list_of}
use Rattle.model.specs.Groups.{Bank, group_list}
use Rattle.model.specs.Compare.{Tables, impl_graph, root_rows, leaf_rows, same_spec, group, bank_of, banks, is_lowest, lowest_rows, groups, Visit, visits, Finding, spec_list, finding_of, findings}
use Rattle.model.proofs.Groups.{group_one}
use Rattle.model.proofs.Visits.{Ascends, none, more, RowBefore, pairs-ascending, visits_in}
use Rattle.model.proofs.GroupRows.{same_spec?, is_lowest?}

-- what a pair of one leaf on each side finds
abbrev pub pair_finding : Tables → Visit → Finding
pair_finding t v =
    record { visit = v; spec = spec_list t v; impl = λ kind. list_of kind (impl_graph t) v.root.impl v.leaf.impl }

-- no specification leaf is named twice
abbrev pub SpecOnce : List Pair → Type 0
SpecOnce rows = (p q : Pair) → p ∈ rows → q ∈ rows → p.spec ≡ q.spec → p ≡ q

-- all are kept where all pass the test
keep_all : {A : Type 0} (ok : A → Bool) (l : List A) → ((x : A) → x ∈ l → ok x ≡ true) → keep ok l ≡ l
unfolding keep
keep_all ok [] h = refl
keep_all ok (x ∷ l) h = rw (h x (Memᴰ.head refl)) (ap (λ m. x ∷ m) (keep_all ok l (λ y m. h y (Memᴰ.tail m))))

-- a test that decides what holds, or what does not
test_true : {P : Type 0} {b : Bool} → Decides P b → P → b ≡ true
test_true (passed q) p = refl
test_true (failed n) p = absurd (n p)

test_false : {P : Type 0} {b : Bool} → Decides P b → (P → ⊥) → b ≡ false
test_false (passed q) n = absurd (n q)
test_false (failed m) n = refl

-- a row is not before itself
row_apart : {p q : Pair} → p.row < q.row → p ≡ q → ⊥
row_apart {p} {q} h e = let z : p.row ≡ q.row = ap (λ (d : Pair). d.row) e in omega arith

-- of rows in order the group of one is the row itself
group-single : {rows : List Pair} → Ascends RowBefore rows → {l : Pair} → l ∈ rows → ((p : Pair) → p ∈ rows → p.spec ≡ l.spec → p ≡ l) → keep (same_spec l) rows ≡ l ∷ []
unfolding keep
group-single none m once = absurd (Memᴰ.not-nil m)
group-single (more {x} {l = rows} h a) {l} m once = go (Memᴰ.cases_cons m) (λ n. group-single a n (λ p i. once p (Memᴰ.tail i)))
  where
    -- behind the row there is none with its specification leaf
    rest : l ≡ x → keep (same_spec l) rows ≡ []
    rest e =
        keep_nil (same_spec l) rows (λ y n.
        (decides_iff (decides_not (same_spec? l y))).1 (λ s. row_apart (h y n) (sym (once y (Memᴰ.tail n) s ∙ e))))

    go : (l ≡ x) ⊎ (l ∈ rows) → (l ∈ rows → keep (same_spec l) rows ≡ l ∷ []) → cond (same_spec l x) (x ∷ keep (same_spec l) rows) (keep (same_spec l) rows) ≡ l ∷ []
    go (inl e) rec =
        rw (test_true (same_spec? l x) (ap (λ (d : Pair). d.spec) (sym e))) (ap₂ (λ (y : Pair) (ys : List Pair). y ∷ ys) (sym e) (rest e))
    go (inr n) rec = rw (test_false (same_spec? l x) (λ s. row_apart (h l n) (once x (Memᴰ.head refl) s))) (rec n)

module _ (t : Tables) (once : SpecOnce (leaf_rows t)) where
  -- every leaf row is a group
  pub groups-single : groups t ≡ leaf_rows t
  unfolding lowest_rows
  groups-single =
      keep_all (is_lowest (leaf_rows t)) (leaf_rows t) (λ p m. test_true (is_lowest? (leaf_rows t) p) (λ q n b e. row_apart b (once q p n m e)))

  -- of one bank
  pub banks-single : (l : Pair) → l ∈ leaf_rows t → banks t l ≡ bank_of l ∷ []
  unfolding group
  banks-single l m = ap (map bank_of) (group-single (pairs-ascending t.leaf_pairs) m (λ p n. once p l n m))

  -- and where all begin at 0, the findings are those of the pairs themselves
  pub findings-single : ((p : Pair) → p ∈ leaf_rows t → p.at ≡ pos 0) → findings t ≡ map (pair_finding t) (visits (root_rows t) (leaf_rows t))
  unfolding findings finding_of
  findings-single zero =
      ap (λ (ls : List Pair). map (finding_of t) (visits (root_rows t) ls)) groups-single
      ∙ map_same (finding_of t) (pair_finding t) (visits (root_rows t) (leaf_rows t)) (λ v m.
      let n = ((visits_in (root_rows t) (leaf_rows t)).0 m).1 in
      let bank : bank_of v.leaf ≡ record { leaf = v.leaf.impl; at = pos 0 } = ap (λ (a : ℤ). record { leaf = v.leaf.impl; at = a }) (zero v.leaf n) in
      let list : (kind : WalkKind) → group_list kind (impl_graph t) v.root.impl (banks t v.leaf) ≡ list_of kind (impl_graph t) v.root.impl v.leaf.impl =
      λ kind. ap (group_list kind (impl_graph t) v.root.impl) (banks-single v.leaf n ∙ ap (λ (b : Bank). b ∷ []) bank) ∙ group_one kind (impl_graph t) v.root.impl v.leaf.impl in
      ap (λ (lists : WalkKind → List Record). record { visit = v; spec = spec_list t v; impl = lists }) (fun_ext list))
