-- Demand 3 holds of every full result of compare: the counts, the whole verdict, the first unequal pair and its lowest address say of the
-- reached sets of the two graphs what they report. And a pair is partial exactly where its
-- reached sets are: `partial-by-walks`.
use mathlib.Core.Path.{◌≡◌, refl, sym, ap, ◌∙◌, subst}
use mathlib.Core.Bool.{Bool}
use mathlib.Core.List.Memᴰ
use mathlib.Core.List.{List, [], ◌∷◌, map, map-map}
use mathlib.Core.Logic.Iff
use mathlib.Core.Logic.{◌≢◌, ◌⊎◌, inl, inr, ⊎_elim, ◌↔◌}
use mathlib.Core.Option.{Option, none, some}
use Prim.Native.Nat.{ℕ, zero, suc, ◌+◌, ◌*◌, ◌≤◌, max}
use native.Mathlib.Omega.{arith}
use lib.Dec.{eqb}
use lib.IntN.{ℤ, negsuc, ◌-ℤ◌}
use lib.Signed.{◌≤ℤ◌, ◌<ℤ◌}
use lib.ListN.{length, length-map}
use Rattle.integers.proofs.Linear.{ints}
use Rattle.integers.proofs.Tests.{Test, passed, failed, eq?, min_is}
use Rattle.lists.specs.Lists.{◌∈◌}
use Rattle.lists.proofs.Membership.{map_in, map_out}
use Rattle.lists.proofs.Decisions.{test_stable}
use Rattle.lists.proofs.Places.{map_same}
use Rattle.model.specs.declared.WalkKind.{WalkKind}
use Rattle.model.specs.declared.WalkKind.TheVariants.{Reading, Writing}
use Rattle.model.specs.Rows.{Pair}
use Rattle.model.specs.Bitmapping.{Record, IsListOf}
use Rattle.model.specs.Groups.{Bank}
use Rattle.model.specs.Verdicts.{verdict, lowest}
use Rattle.model.specs.Compare.{Tables, root_rows, banks, groups, Visit, visits, Finding, spec_list, impl_list, finding_of, findings, kind_verdict, verdict_of, lower_of, lowest_of, count, largest, first_unequal, place_of, Result, result_of}
use Rattle.model.specs.Refusals.{NoneHolds, compare_conditions}
use Rattle.model.specs.Calls.{full, compare_answer}
use Rattle.model.specs.Demands.{Address, InSpec, InImpl, SameSets, SetsDiffer, VisitedBefore, worse, in_order, VerdictsOfPairs, FirstDifference, Demand3, PartialFor, PartialPair, PartialByWalks, MissingFrom}
use Rattle.model.proofs.Records.{has_at}
use Rattle.model.proofs.Walks.{reached-address}
use Rattle.model.proofs.Verdicts.{verdict-equal, verdict-partial, verdict-rules, rules_unique}
use Rattle.model.proofs.Containment.{contained-within}
use Rattle.model.proofs.Lowest.{HasSome, DifferOn, DifferAt, lowest?, lowest-agrees, lowest-same}
use Rattle.model.proofs.BothKinds.{of_kinds, worse_zero, lower-none, lower-first, lower_both}
use Rattle.model.proofs.Uniqueness.{list_unique}
use Rattle.model.proofs.ListLaw.{list_has, lists-same, list_of_reached}
use Rattle.model.proofs.Groups.{group-list}
use Rattle.model.proofs.Taken.{taken-fit, taken-address}
use Rattle.model.proofs.Visits.{Ascends, ascends_map, ascends_ahead, pairs-ascending, VisitBefore, visit-before_asym, visits_in, visits-ascending, visits_length}
use Rattle.model.proofs.Folds.{verdict-low, counts-total, largest-equal, FirstUnequal, first-unequal_in, FirstFound, first-unequal, place_none}
use Rattle.model.proofs.GroupRows.{group-leaf, groups-ascending}
use Rattle.model.proofs.Pairing.{bank_leaves, Comparable, compare_exact, compare_comparable}

-- the pair of a root row and a group
abbrev pair_of : Pair → Pair → Visit
pair_of r l = record { root = r; leaf = l }

-- a number that is at most 1 is 0 or 1
at_most_one : (v : ℕ) → v ≤ 1 → (v ≡ 0) ⊎ (v ≡ 1)
at_most_one zero le = inl refl
at_most_one (suc zero) le = inr refl
at_most_one (suc (suc v)) le = absurd (omega arith)

-- a number that is at most 1 and not 0 is 1
above_zero : (v : ℕ) → v ≤ 1 → v ≢ 0 → v ≡ 1
above_zero v le n = ⊎_elim (λ e. absurd (n e)) (λ e. e) (at_most_one v le)

-- where the larger of two numbers is 1 and the first is not, the second is
other_one : (v w : ℕ) → v ≢ 1 → max v w ≡ 1 → w ≡ 1
other_one v w n m = ⊎_elim (λ e. omega arith) (λ e. absurd (n e)) (at_most_one v (omega arith))

-- a list that is not empty has a record
list-some : (l : List Record) → l ≢ [] → (s : Record) × (s ∈ l)
list-some [] n = absurd (n refl)
list-some (s ∷ l) n = (s, Memᴰ.head refl)

-- a is the lowest address at which the sets of a pair differ for this kind of walk
record LowestFor (kind : WalkKind) (t : Tables) (r l : Pair) (a : ℤ) : Type 0 where
  address : Address a
  differs : SetsDiffer kind t r l a
  below : (x : ℤ) → x <ℤ a → SameSets kind t r l x

-- a is the lowest address at which they differ for either kind
record LowestDifference (t : Tables) (r l : Pair) (a : ℤ) : Type 0 where
  address : Address a
  differs : (kind : WalkKind) × SetsDiffer kind t r l a
  below : (kind : WalkKind) (x : ℤ) → x <ℤ a → SameSets kind t r l x

-- ---- one pair, for one kind of walk

module _ (kind : WalkKind) {t : Tables} (c : Comparable t) {r l : Pair} (p : r ∈ root_rows t) (q : l ∈ groups t) where
  -- the list of the specification leaf is that of its reached set, and the list of the group that of its banks' joined sets
  spec-list : IsListOf (InSpec kind t r l) (spec_list t (pair_of r l) kind)
  spec-list = list_of_reached (taken-fit c.spec (c.paired.leaves l (group-leaf t q)).nodes.0)

  impl-list : IsListOf (InImpl kind t r l) (impl_list t (pair_of r l) kind)
  impl-list = group-list (banks t l) (λ b m. taken-fit c.impl (bank_leaves t c.paired.leaves l b.leaf (map_in (λ (b : Bank). b.leaf) m)))

  -- an address from which a leaf bit is reached lies in 0 .. 2^55 − 1
  spec-address : {x y : ℤ} → InSpec kind t r l x y → Address x
  spec-address w = let a = taken-address c.spec (c.paired.roots r p).nodes.0.row (reached-address w) in record { low = a.0; high = a.1 }

  impl-address : {x y : ℤ} → InImpl kind t r l x y → Address x
  impl-address (b, m, w) = let a = taken-address c.impl (c.paired.roots r p).nodes.1.row (reached-address w.reached) in record { low = a.0; high = a.1 }

  -- sets that are the same at every address of that range are the same at every address: outside it both are empty
  same_everywhere : ((x : ℤ) → Address x → SameSets kind t r l x) → (x : ℤ) → SameSets kind t r l x
  same_everywhere h x y = (λ w. (h x (spec-address w) y).0 w, λ w. (h x (impl-address w) y).1 w)

  -- where the lists have the same leaf bits at x, the sets are the same there
  lists_agree : {x : ℤ} → ((y : ℤ) → HasSome (spec_list t (pair_of r l) kind) x y ↔ HasSome (impl_list t (pair_of r l) kind) x y) → SameSets kind t r l x
  lists_agree {x} h y = Iff.trans (list_has spec-list x y) (Iff.trans (h y) (Iff.symm (list_has impl-list x y)))

  -- where the lists differ, so do the sets
  lists_differ : {x : ℤ} → DifferAt (spec_list t (pair_of r l) kind) (impl_list t (pair_of r l) kind) x → SetsDiffer kind t r l x
  lists_differ {x} (y, d) = (y, go d)
    where
      go : DifferOn (spec_list t (pair_of r l) kind) (impl_list t (pair_of r l) kind) x y → (InSpec kind t r l x y × (InImpl kind t r l x y → ⊥)) ⊎ ((InSpec kind t r l x y → ⊥) × InImpl kind t r l x y)
      go (inl (w, n)) = inl ((list_has spec-list x y).1 w, λ k. n ((list_has impl-list x y).0 k))
      go (inr (n, w)) = inr (λ k. n ((list_has spec-list x y).0 k), (list_has impl-list x y).1 w)

  -- sets differ only at addresses of the range
  differ_address : {x : ℤ} → SetsDiffer kind t r l x → Address x
  differ_address (y, inl (w, n)) = spec-address w
  differ_address (y, inr (n, w)) = impl-address w

  -- the verdict on a pair is 0 exactly where its sets are the same everywhere
  pair_equal : (verdict (spec_list t (pair_of r l) kind) (impl_list t (pair_of r l) kind) ≡ 0) ↔ ((x : ℤ) → SameSets kind t r l x)
  pair_equal = Iff.trans (verdict-equal (spec_list t (pair_of r l) kind) (impl_list t (pair_of r l) kind)) (lists-same spec-list impl-list)

  -- the verdict on a pair is 1 exactly where it is partial by walks
  pair_partial : (verdict (spec_list t (pair_of r l) kind) (impl_list t (pair_of r l) kind) ≡ 1) ↔ PartialFor kind t r l
  pair_partial = Iff.trans (verdict-partial spec impl) (
    λ p.
        let (s, m) = list-some impl p.some in
        record {
          within = λ x y w. (list_has spec-list x y).1 ((contained-within spec-list impl_full).0 p.each x y ((list_has impl-list x y).0 w));
          some = (s.first, s.first -ℤ s.displacement, (list_has impl-list s.first (s.first -ℤ s.displacement)).1 (s, m, has_at s s.first (omega (arith, ints)) (impl_full s m)));
          unequal = λ same. p.unequal ((lists-same spec-list impl-list).1 same);
        },
    λ p.
        record {
          unequal = λ e. p.unequal ((lists-same spec-list impl-list).0 e);
          some = λ e. nothing e ((list_has impl-list p.some.0 p.some.1).0 p.some.2);
          each = (contained-within spec-list impl_full).1 (λ x y w. (list_has spec-list x y).0 (p.within x y ((list_has impl-list x y).1 w)));
        },
  )
    where
      spec : List Record
      spec = spec_list t (pair_of r l) kind

      impl : List Record
      impl = impl_list t (pair_of r l) kind

      impl_full : (s : Record) → s ∈ impl → s.first ≤ℤ s.last
      impl_full = impl-list.full

      nothing : {x y : ℤ} → impl ≡ [] → HasSome impl x y → ⊥
      nothing e w = Memᴰ.not-nil (subst (λ (m : List Record). w.0 ∈ m) e w.1)

  -- where the verdict on a pair is not 0, the reported address is the lowest at which its sets differ
  pair_lowest : verdict (spec_list t (pair_of r l) kind) (impl_list t (pair_of r l) kind) ≢ 0 → LowestFor kind t r l (lowest (spec_list t (pair_of r l) kind) (impl_list t (pair_of r l) kind))
  pair_lowest n =
      let d = lists_differ (test_stable (lowest? (spec_list t (pair_of r l) kind) (impl_list t (pair_of r l) kind)) (λ h. n (pair_equal.1 (λ x. lists_agree (h x))))) in
      record { address = differ_address d; differs = d; below = λ x h. lists_agree (lowest-agrees (spec_list t (pair_of r l) kind) (impl_list t (pair_of r l) kind) x h) }

  -- where it is 0, no address is reported for this kind
  pair_nowhere : verdict (spec_list t (pair_of r l) kind) (impl_list t (pair_of r l) kind) ≡ 0 → lowest (spec_list t (pair_of r l) kind) (impl_list t (pair_of r l) kind) ≡ negsuc 0
  pair_nowhere e =
      let same = (verdict-equal (spec_list t (pair_of r l) kind) (impl_list t (pair_of r l) kind)).0 e in
      ap (λ (m : List Record). lowest (spec_list t (pair_of r l) kind) m) (sym same) ∙ lowest-same (spec_list t (pair_of r l) kind)

-- ---- one pair, for both kinds

module _ {t : Tables} (c : Comparable t) {r l : Pair} (p : r ∈ root_rows t) (q : l ∈ groups t) where
  -- the verdict on the pair is 0 exactly where its sets are the same everywhere, for both kinds
  both_equal : (verdict_of (finding_of t (pair_of r l)) ≡ 0) ↔ ((kind : WalkKind) (x : ℤ) → SameSets kind t r l x)
  unfolding finding_of verdict_of kind_verdict
  both_equal =
      Iff.trans (worse_zero (kind_verdict (finding_of t (pair_of r l)))) (λ h kind. (pair_equal kind c p q).0 (h kind), λ h kind. (pair_equal kind c p q).1 (h kind))

  -- it is 1 exactly where the pair is partial by walks
  both_partial : (verdict_of (finding_of t (pair_of r l)) ≡ 1) ↔ PartialPair t r l
  unfolding finding_of verdict_of kind_verdict
  both_partial = (
    λ (e : max (verdict_for Reading) (verdict_for Writing) ≡ 1). record { each = each (of_kinds (λ kind. verdict_for kind ≤ 1) (omega arith) (omega arith)); some = some (eq? (verdict_for Reading) 1) e },
    λ h. let a = low (h.each Reading) in let b = low (h.each Writing) in reached h.some.0 ((pair_partial h.some.0 c p q).1 h.some.1) a b,
  )
    where
      verdict_for : WalkKind → ℕ
      verdict_for kind = verdict (spec_list t (pair_of r l) kind) (impl_list t (pair_of r l) kind)

      one : (kind : WalkKind) → verdict_for kind ≤ 1 → (b : Bool) → Test (verdict_for kind ≡ 0) (verdict_for kind ≢ 0) b → ((x : ℤ) → SameSets kind t r l x) ⊎ PartialFor kind t r l
      one kind le b (passed e) = inl ((pair_equal kind c p q).0 e)
      one kind le b (failed n) = inr ((pair_partial kind c p q).0 (above_zero (verdict_for kind) le n))

      each : ((kind : WalkKind) → verdict_for kind ≤ 1) → (kind : WalkKind) → ((x : ℤ) → SameSets kind t r l x) ⊎ PartialFor kind t r l
      each le kind = one kind (le kind) (eqb (verdict_for kind) 0) (eq? (verdict_for kind) 0)

      some : {b : Bool} → Test (verdict_for Reading ≡ 1) (verdict_for Reading ≢ 1) b → max (verdict_for Reading) (verdict_for Writing) ≡ 1 → (kind : WalkKind) × PartialFor kind t r l
      some (passed e) m = (Reading, (pair_partial Reading c p q).0 e)
      some (failed n) m = (Writing, (pair_partial Writing c p q).0 (other_one (verdict_for Reading) (verdict_for Writing) n m))

      low : {kind : WalkKind} → ((x : ℤ) → SameSets kind t r l x) ⊎ PartialFor kind t r l → verdict_for kind ≤ 1
      low {kind} (inl h) = let e = (pair_equal kind c p q).1 h in omega arith
      low {kind} (inr h) = let e = (pair_partial kind c p q).1 h in omega arith

      reached : (kind : WalkKind) → verdict_for kind ≡ 1 → verdict_for Reading ≤ 1 → verdict_for Writing ≤ 1 → max (verdict_for Reading) (verdict_for Writing) ≡ 1
      reached Reading e a b = omega arith
      reached Writing e a b = omega arith

  -- where it is not 0, the reported address is the lowest at which the sets of either kind differ: of a kind with verdict 0 they differ nowhere, and its address is
  -- none; of the other it is that kind's lowest, and of two kinds that differ the lower
  both_lowest : verdict_of (finding_of t (pair_of r l)) ≢ 0 → LowestDifference t r l (lowest_of (finding_of t (pair_of r l)))
  unfolding finding_of verdict_of kind_verdict lowest_of
  both_lowest n = go (eqb (verdict_for Reading) 0) (eqb (verdict_for Writing) 0) (eq? (verdict_for Reading) 0) (eq? (verdict_for Writing) 0)
    where
      verdict_for : WalkKind → ℕ
      verdict_for kind = verdict (spec_list t (pair_of r l) kind) (impl_list t (pair_of r l) kind)

      lowest_for : WalkKind → ℤ
      lowest_for kind = lowest (spec_list t (pair_of r l) kind) (impl_list t (pair_of r l) kind)

      Lowest : ℤ → Type 0
      Lowest a = LowestDifference t r l a

      -- one kind's lowest is the pair's where the other kind's sets are the same below it
      of_one : (kind : WalkKind) → LowestFor kind t r l (lowest_for kind) → ((other : WalkKind) (x : ℤ) → x <ℤ lowest_for kind → SameSets other t r l x) → Lowest (lowest_for kind)
      of_one kind d below = record { address = d.address; differs = (kind, d.differs); below = below }

      go : (a b : Bool) → Test (verdict_for Reading ≡ 0) (verdict_for Reading ≢ 0) a → Test (verdict_for Writing ≡ 0) (verdict_for Writing ≢ 0) b → Lowest (lower_of (lowest_for Reading) (lowest_for Writing))
      go a b (passed e) (passed d) = absurd (n (omega arith))
      go a b (passed e) (failed d) =
          let w = pair_lowest Writing c p q d in
          subst Lowest (sym (ap (λ (z : ℤ). lower_of z (lowest_for Writing)) (pair_nowhere Reading c p q e) ∙ lower-none (lowest_for Writing)))
          (of_one Writing w (of_kinds (λ other. (x : ℤ) → x <ℤ lowest_for Writing → SameSets other t r l x) (λ x h. (pair_equal Reading c p q).0 e x) w.below))
      go a b (failed e) (passed d) =
          let w = pair_lowest Reading c p q e in
          subst Lowest (sym (ap (λ (z : ℤ). lower_of (lowest_for Reading) z) (pair_nowhere Writing c p q d) ∙ lower-first (lowest_for Reading) w.address.low))
          (of_one Reading w (of_kinds (λ other. (x : ℤ) → x <ℤ lowest_for Reading → SameSets other t r l x) w.below (λ x h. (pair_equal Writing c p q).0 d x)))
      go a b (failed e) (failed d) =
          let r' = pair_lowest Reading c p q e in
          let w' = pair_lowest Writing c p q d in
          let m = min_is (lowest_for Reading) (lowest_for Writing) in
          subst Lowest (sym (lower_both (lowest_for Reading) (lowest_for Writing) r'.address.low w'.address.low))
          (⊎_elim (λ z. subst Lowest (sym z) (of_one Reading r' (of_kinds (λ other. (x : ℤ) → x <ℤ lowest_for Reading → SameSets other t r l x) r'.below (λ x h. w'.below x (omega (arith, ints, h, z, m.1))))))
          (λ z. subst Lowest (sym z) (of_one Writing w' (of_kinds (λ other. (x : ℤ) → x <ℤ lowest_for Writing → SameSets other t r l x) (λ x h. r'.below x (omega (arith, ints, h, z, m.0))) w'.below)))
          m.2)

-- ---- all pairs

-- the verdicts on all pairs, in visiting order
abbrev verdicts : Tables → List ℕ
verdicts t = map verdict_of (findings t)

module _ (t : Tables) where
  -- every pair has its finding
  finding_in : {r l : Pair} → r ∈ root_rows t → l ∈ groups t → finding_of t (record { root = r; leaf = l }) ∈ findings t
  unfolding findings
  finding_in p q = map_in (finding_of t) ((visits_in (root_rows t) (groups t)).1 (p, q))

  -- what holds of the finding of every pair holds of all findings
  finding_all : (P : Finding → Type 0) → ((r l : Pair) → r ∈ root_rows t → l ∈ groups t → P (finding_of t (record { root = r; leaf = l })))
      → (f : Finding) → f ∈ findings t → P f
  unfolding findings
  finding_all P h f m =
      let w = map_out (finding_of t) (visits (root_rows t) (groups t)) m in
      let v = (visits_in (root_rows t) (groups t)).0 w.1 in
      subst P (sym w.2) (h w.0.root w.0.leaf v.0 v.1)

  -- findings stand in visiting order
  findings-ascending : Ascends (λ d f. VisitBefore d.visit f.visit) (findings t)
  unfolding findings finding_of
  findings-ascending = ascends_map (finding_of t) (λ v w b. b) (visits-ascending (pairs-ascending t.root_pairs) (groups-ascending t))

  -- there is a finding for each root row with each group
  findings_length : length (findings t) ≡ length (root_rows t) * length (groups t)
  unfolding findings
  findings_length = length-map (visits (root_rows t) (groups t)) (finding_of t) ∙ visits_length (root_rows t) (groups t)

  -- the three counts are as many as there are pairs
  findings-total : count 0 (verdicts t) + count 1 (verdicts t) + count 2 (verdicts t) ≡ length (root_rows t) * length (groups t)
  findings-total = counts-total (verdicts t) range ∙ length-map (findings t) verdict_of ∙ findings_length
    where
      range : (v : ℕ) → v ∈ verdicts t → v ≤ 2
      range v m = let w = map_out verdict_of (findings t) m in rw w.2 (verdict-low w.0)

module _ {t : Tables} (c : Comparable t) where
  -- verdicts that the comparing rules give for any lists that are the bitmapping lists of the pairs are those of the findings: there
  -- are no other such lists, and the rules give one verdict
  verdicts_found : {spec impl : WalkKind → Visit → List Record} {given : WalkKind → Visit → ℕ} → VerdictsOfPairs t spec impl given → in_order t given ≡ verdicts t
  unfolding findings finding_of verdict_of kind_verdict
  verdicts_found {spec} {impl} {given} b =
      let all = visits (root_rows t) (groups t) in
      map_same (worse given) (λ v. verdict_of (finding_of t v)) all (λ v m. cc (same Reading v m, same Writing v m)) ∙ sym (map-map verdict_of (finding_of t) all)
    where
      same : (kind : WalkKind) (v : Visit) → v ∈ visits (root_rows t) (groups t) → given kind v ≡ verdict (spec_list t v kind) (impl_list t v kind)
      same kind v m =
          let w = (visits_in (root_rows t) (groups t)).0 m in
          cc (rules_unique (b.rules kind v m), list_unique (b.in_spec kind v m) (spec-list kind c w.0 w.1), list_unique (b.in_impl kind v m) (impl-list kind c w.0 w.1))

  -- the whole verdict is 0 exactly where the sets of every pair are the same at every address of the range
  whole-equal : (largest (verdicts t) ≡ 0) ↔ ((r l : Pair) → r ∈ root_rows t → l ∈ groups t → (x : ℤ) → Address x → (kind : WalkKind) → SameSets kind t r l x)
  whole-equal =
      Iff.trans (largest-equal (findings t)) (
        λ e r l p q x a kind. (both_equal c p q).0 (e (finding_of t (record { root = r; leaf = l })) (finding_in t p q)) kind x,
        λ h. finding_all t (λ f. verdict_of f ≡ 0) (λ r l p q. (both_equal c p q).1 (λ kind. same_everywhere kind c p q (λ x a. h r l p q x a kind))),
      )

  -- where the verdict of a finding is not 0, the lowest address of its lists is the lowest at which the sets of its pair differ
  finding_lowest : {f : Finding} → f ∈ findings t → verdict_of f ≢ 0
      → LowestDifference t f.visit.root f.visit.leaf (lowest_of f)
  unfolding finding_of
  finding_lowest {f} m =
      finding_all t (λ d. verdict_of d ≢ 0 → LowestDifference t d.visit.root d.visit.leaf (lowest_of d))
      (λ r l p q. both_lowest c p q) f m

  -- the first unequal finding is the first difference. Its sets differ, and first at the lowest address, as those of every pair with a verdict
  -- that is not 0 (both_lowest); a pair visited before it has its finding ahead of it, since findings stand in visiting order, and so
  -- has verdict 0 and the same sets everywhere (both_equal)
  first_difference : {f : Finding} (equal partial different whole : ℕ) → FirstUnequal (findings t) f
      → FirstDifference t (record { equal = equal; partial = partial; different = different; verdict = whole; place = place_of (some f) })
  unfolding finding_of place_of
  first_difference {f} equal partial different whole w =
      let m = first-unequal_in w in
      let low = finding_lowest m w.unequal in
      record {
        root = f.visit.root;
        leaf = f.visit.leaf;
        paired = finding_all t (λ d. (d.visit.root ∈ root_rows t) × (d.visit.leaf ∈ groups t)) (λ r l p q. (p, q)) f m;
        reported_root = refl;
        reported_leaf = refl;
        address = low.address;
        differs = low.differs;
        lowest = low.below;
        first = λ q m p n b. (both_equal c p n).0 (w.equal (finding_of t (record { root = q; leaf = m })) (ahead q m p n b));
      }
    where
      ahead : (q m : Pair) → q ∈ root_rows t → m ∈ groups t → VisitedBefore q m f.visit.root f.visit.leaf
          → finding_of t (record { root = q; leaf = m }) ∈ w.earlier
      ahead q m p n b =
          let order = rw w.split at (findings-ascending t) in
          ascends_ahead w.earlier w.later (λ d e. visit-before_asym d.visit e.visit) order (rw w.split at (finding_in t p n)) b

  -- where the whole verdict is not 0, the reported place is the first difference
  unequal_difference : largest (verdicts t) ≢ 0 → FirstDifference t (result_of (findings t))
  unfolding result_of
  unequal_difference n = go (first_unequal (findings t)) (first-unequal (findings t))
    where
      equal : ℕ
      equal = count 0 (verdicts t)

      partial : ℕ
      partial = count 1 (verdicts t)

      different : ℕ
      different = count 2 (verdicts t)

      whole : ℕ
      whole = largest (verdicts t)

      go : (o : Option Finding) → FirstFound (findings t) o
          → FirstDifference t (record { equal = equal; partial = partial; different = different; verdict = whole; place = place_of o })
      go none h = absurd (n ((largest-equal (findings t)).1 h))
      go (some f) h = first_difference equal partial different whole h

-- ---- the demand

-- there are such lists and verdicts: those of the findings, so that the counts of demand 3 are bound
pub verdicts_exist : (t : Tables) → NoneHolds (compare_conditions t)
    → VerdictsOfPairs t (λ kind v. (finding_of t v).spec kind) (λ kind v. (finding_of t v).impl kind) (λ kind v. kind_verdict (finding_of t v) kind)
unfolding finding_of kind_verdict
verdicts_exist t h =
    let c = compare_comparable t h in
    record {
      in_spec = λ kind v m. let w = (visits_in (root_rows t) (groups t)).0 m in spec-list kind c w.0 w.1;
      in_impl = λ kind v m. let w = (visits_in (root_rows t) (groups t)).0 m in impl-list kind c w.0 w.1;
      rules = λ kind v m. verdict-rules (spec_list t v kind) (impl_list t v kind);
    }

-- where no condition holds, compare gives its full result
pub compare_full : (t : Tables) → NoneHolds (compare_conditions t) → compare_answer t ≡ full (result_of (findings t))
compare_full t h = (compare_exact t).gives.1 h

-- demand 3 holds of the result
result-demand : {t : Tables} → Comparable t → Demand3 t (result_of (findings t))
unfolding result_of
result-demand {t} c =
    record {
      counts = λ spec impl given b. let e = verdicts_found c b in
          record { equal = ap (count 0) (sym e); partial = ap (count 1) (sym e); different = ap (count 2) (sym e); whole = ap largest (sym e) };
      total = findings-total t;
      equal = whole-equal c;
      unequal = unequal_difference c;
      none = place_none (findings t);
    }

-- demand 3 holds of every full result of compare
pub demand3 : (t : Tables) → NoneHolds (compare_conditions t) → (res : Result) → compare_answer t ≡ full res → Demand3 t res
demand3 t h res e = let q : result_of (findings t) ≡ res = cc (compare_full t h) in subst (Demand3 t) q (result-demand (compare_comparable t h))

-- partial by walks: of tables that compare refuses for nothing, the verdict of a kind is 1 exactly where all that the implementation reaches by it the
-- specification reaches, the implementation reaches something, and the two do not agree everywhere; and the verdict on a pair is 1 exactly where each kind is
-- equal or partial and one is partial
pub partial-by-walks : (t : Tables) → NoneHolds (compare_conditions t) → PartialByWalks t
unfolding finding_of kind_verdict
partial-by-walks t h =
    let c = compare_comparable t h in
    record { of_kind = λ kind r l p q. pair_partial kind c p q; of_pair = λ r l p q. both_partial c p q }

-- the lowest address at which the sets of a partial pair differ for either kind is the lowest from which something specified is not reached
pub partial-lowest : {t : Tables} {r l : Pair} {x : ℤ} (kind : WalkKind) → PartialPair t r l → SetsDiffer kind t r l x
    → ((other : WalkKind) (z : ℤ) → z <ℤ x → SameSets other t r l z) → MissingFrom t r l x
partial-lowest {t} {r} {l} {x} kind p (y, d) below = go (p.each kind) d
  where
    go : ((z : ℤ) → SameSets kind t r l z) ⊎ PartialFor kind t r l
        → (InSpec kind t r l x y × (InImpl kind t r l x y → ⊥)) ⊎ ((InSpec kind t r l x y → ⊥) × InImpl kind t r l x y) → MissingFrom t r l x
    go e (inl (w, n)) = record { kind = kind; leaf_bit = y; specified = w; missing = n; below = below }
    go (inl e) (inr (n, w)) = absurd (n ((e x y).1 w))
    go (inr e) (inr (n, w)) = absurd (n (e.within x y w))

-- of a partial pair there is such an address
pub partial-missing : (t : Tables) → NoneHolds (compare_conditions t) → (r l : Pair) → r ∈ root_rows t → l ∈ groups t → PartialPair t r l
    → (x : ℤ) × MissingFrom t r l x
partial-missing t h r l m n p =
    let c = compare_comparable t h in
    let low = both_lowest c m n (λ e. p.some.1.unequal ((both_equal c m n).0 e p.some.0)) in
    (lowest_of (finding_of t (record { root = r; leaf = l })), partial-lowest low.differs.0 p low.differs.1 low.below)
