-- One pass finds the lowest address: the lowest candidate is the lowest address at which two normal lists differ.
use mathlib.Core.Path.{◌≡◌, refl, sym, ◌∙◌, subst}
use mathlib.Core.Bool.{Bool, true, false, not, cond}
use mathlib.Core.Logic.{◌⊎◌, inl, inr, ⊎_elim, ◌↔◌}
use mathlib.Core.List.Memᴰ
use mathlib.Core.List.{List, [], ◌∷◌, ◌++◌}
use native.Mathlib.Omega.{arith}
use lib.Dec.{T, T_not}
use lib.IntN.{ℤ, pos, negsuc, ◌+ℤ◌, ◌-ℤ◌}
use lib.Signed.{le_z, lt_z, ◌≤ℤ◌, ◌<ℤ◌}
use Rattle.integers.specs.Integers.{min_z}
use Rattle.integers.proofs.Linear.{ints, sum}
use Rattle.integers.proofs.Tests.{Test, passed, failed, le?, lt?, eq_z?, min_is}
use Rattle.lists.specs.Lists.{◌∈◌}
use Rattle.lists.proofs.Decisions.{Decides, decides_as, decides_and}
use Rattle.lists.proofs.Membership.{cond_out, cond_true, cond_false}
use Rattle.model.specs.Bitmapping.{Record, Has, Before, Ordered, more}
use Rattle.model.specs.Runs.{before}
use Rattle.model.specs.Verdicts.{differs_at, lowest}
use Rattle.model.proofs.Records.{displacement_of, has_at, Touch, touch_is, Aligned, before?, before_irrefl, before_trans}
use Rattle.model.proofs.Lowest.{HasSome, DifferOn, DifferAt, differs_at_lem, agree_at, lowest-differs, lowest-least, lowest-nowhere}
use Rattle.normalisation.specs.Records.{IsNormal}
use Rattle.verdicts.specs.Records.{SmallRootBits, AllSmallRootBits}
use Rattle.verdicts.specs.OnePass.{aligned, ends, candidates, lower, lowest_from, lowest_candidate}

-- ---- normal lists

-- what follows the head of a normal list is normal
normal_tail : {r : Record} {l : List Record} → IsNormal (r ∷ l) → IsNormal l
normal_tail {r} {l} h =
    record { full = λ s m. h.full s (Memᴰ.tail m); ordered = rest h.ordered; apart = λ p q m n. h.apart p q (Memᴰ.tail m) (Memᴰ.tail n) }
  where
    rest : Ordered (r ∷ l) → Ordered l
    rest (more b o) = o

-- the head stands before all that follow it
normal-before : {r : Record} {l : List Record} → IsNormal (r ∷ l) → (s : Record) → s ∈ l → Before r s
normal-before {r} {l} h = first h.ordered
  where
    first : Ordered (r ∷ l) → (s : Record) → s ∈ l → Before r s
    first (more b o) = b

-- and touches none of them
normal-apart : {r : Record} {l : List Record} → IsNormal (r ∷ l) → (s : Record) → s ∈ l → Touch r s → ⊥
normal-apart {r} h s m t =
    let e : r ≡ s = h.apart r s (Memᴰ.head refl) (Memᴰ.tail m) ((touch_is r s).1 t) in
    before_irrefl (subst (Before r) (sym e) (normal-before h s m))

-- the head is not empty
normal-full : {r : Record} {l : List Record} → IsNormal (r ∷ l) → r.first ≤ℤ r.last
normal-full {r} h = h.full r (Memᴰ.head refl)

-- ---- what a list has, head and rest

has_head : {r : Record} {l : List Record} {x y : ℤ} → Has r x y → HasSome (r ∷ l) x y
has_head {r} h = (r, Memᴰ.head refl, h)

has_tail : {r : Record} {l : List Record} {x y : ℤ} → HasSome l x y → HasSome (r ∷ l) x y
has_tail w = (w.0, Memᴰ.tail w.1, w.2)

has_cases : {r : Record} {l : List Record} {x y : ℤ} → HasSome (r ∷ l) x y → Has r x y ⊎ HasSome l x y
has_cases {r} {l} {x} {y} w = go (Memᴰ.cases_cons w.1)
  where
    go : (w.0 ≡ r) ⊎ (w.0 ∈ l) → Has r x y ⊎ HasSome l x y
    go (inl e) = inl (subst (λ (s : Record). Has s x y) e w.2)
    go (inr m) = inr (w.0, m, w.2)

-- a normal list has nothing below the first bit of its head
has_above : {r : Record} {l : List Record} {x y : ℤ} → IsNormal (r ∷ l) → x <ℤ r.first → HasSome (r ∷ l) x y → ⊥
has_above {r} {l} {x} {y} L h w = go (has_cases w)
  where
    go : Has r x y ⊎ HasSome l x y → ⊥
    go (inl k) = omega (arith, ints)
    go (inr k) = omega (arith, ints, k.2.above, (normal-before L k.0 k.1).first)

-- ---- candidates

-- aligned decides whether two records begin alike
pub aligned? : (r s : Record) → Decides (Aligned r s) (aligned r s)
unfolding aligned
aligned? r s =
    decides_as (λ p. record { first = p.0; displacement = p.1 }, λ a. (a.first, a.displacement))
    (decides_and (eq_z? r.first s.first) (eq_z? r.displacement s.displacement))

-- which is the other way round the same
aligned_sym : {r s : Record} → Aligned r s → Aligned s r
aligned_sym a = record { first = sym a.first; displacement = sym a.displacement }

-- where one of two records ends before the other, past its end is in `ends`
ends_in : (r s : Record) → ((r.last <ℤ s.last) → (r.last +ℤ pos 1) ∈ ends r s) × ((s.last <ℤ r.last) → (s.last +ℤ pos 1) ∈ ends r s)
unfolding ends
ends_in r s = (
  λ h. cond_true shorter (lt_z r.last s.last) (lt? r.last s.last) (λ k. omega (arith, ints)) (Memᴰ.head refl),
  λ h.
      cond_false ((r.last +ℤ pos 1) ∷ []) (lt_z r.last s.last) (lt? r.last s.last) (λ k. omega (arith, ints))
      (cond_true [] (lt_z s.last r.last) (lt? s.last r.last) (λ k. omega (arith, ints)) (Memᴰ.head refl)),
)
  where
    shorter : List ℤ
    shorter = cond (lt_z s.last r.last) ((s.last +ℤ pos 1) ∷ []) []

-- c is past the end of the shorter of two records
abbrev Ending : Record → Record → ℤ → Type 0
Ending r s c = ((r.last <ℤ s.last) × (c ≡ r.last +ℤ pos 1)) ⊎ ((s.last <ℤ r.last) × (c ≡ s.last +ℤ pos 1))

-- there is no other
ends_out : (r s : Record) {c : ℤ} → c ∈ ends r s → Ending r s c
unfolding ends
ends_out r s {c} m = first (cond_out (lt_z r.last s.last) (lt? r.last s.last) m)
  where
    second : ((s.last <ℤ r.last) × (c ∈ ((s.last +ℤ pos 1) ∷ []))) ⊎ ((r.last ≤ℤ s.last) × (c ∈ [])) → Ending r s c
    second (inl p) = inr (p.0, Memᴰ.eq_of_singleton p.1)
    second (inr p) = absurd (Memᴰ.not-nil p.1)

    first : ((r.last <ℤ s.last) × (c ∈ ((r.last +ℤ pos 1) ∷ [])))
        ⊎ ((s.last ≤ℤ r.last) × (c ∈ cond (lt_z s.last r.last) ((s.last +ℤ pos 1) ∷ []) [])) → Ending r s c
    first (inl p) = inl (p.0, Memᴰ.eq_of_singleton p.1)
    first (inr p) = second (cond_out (lt_z s.last r.last) (lt? s.last r.last) p.1)

-- ---- below every candidate the lists agree

-- r and s begin alike and x is not past the end of s alone: a bit of r at x is one of s, and so for the lists that they begin
has_across : {r s : Record} {l m : List Record} {x y : ℤ} → Aligned r s → (s.last <ℤ r.last → x ≤ℤ s.last) → (HasSome l x y → HasSome m x y)
    → HasSome (r ∷ l) x y → HasSome (s ∷ m) x y
has_across {r} {s} {l} {m} {x} {y} a h rest w = go (has_cases w)
  where
    inside : x ≤ℤ r.last → (t : Bool) → Test (x ≤ℤ s.last) (s.last <ℤ x) t → x ≤ℤ s.last
    inside k true (passed p) = p
    inside k false (failed p) = h (omega (arith, ints))

    go : Has r x y ⊎ HasSome l x y → HasSome (s ∷ m) x y
    go (inl k) =
        has_head
        (record {
          above = omega (arith, ints, k.above, a.first);
          below = inside k.below (le_z x s.last) (le? x s.last);
          apart = k.apart ∙ a.displacement;
        })
    go (inr k) = has_tail (rest k)

-- by induction: no candidate lies between x and the bits that one list has at x
below_agree : {l m : List Record} → IsNormal l → IsNormal m → (x y : ℤ) → ((c : ℤ) → c ∈ candidates l m → x <ℤ c) → HasSome l x y ↔ HasSome m x y
unfolding candidates
below_agree {l = []} {m = []} L M x y b = (λ w. w, λ w. w)
below_agree {l = []} {m = s ∷ m} L M x y b =
    (λ w. absurd (Memᴰ.not-nil w.1), λ w. absurd (has_above M (b s.first (Memᴰ.head refl)) w))
below_agree {l = r ∷ l} {m = []} L M x y b =
    (λ w. absurd (has_above L (b r.first (Memᴰ.head refl)) w), λ w. absurd (Memᴰ.not-nil w.1))
below_agree {l = r ∷ l} {m = s ∷ m} L M x y b = go (aligned r s) (aligned? r s) (below_agree (normal_tail L) (normal_tail M) x y) b
  where
    go : (t : Bool) → Decides (Aligned r s) t → (((c : ℤ) → c ∈ candidates l m → x <ℤ c) → HasSome l x y ↔ HasSome m x y)
        → ((c : ℤ) → c ∈ cond t (ends r s ++ candidates l m) (r.first ∷ s.first ∷ []) → x <ℤ c) → HasSome (r ∷ l) x y ↔ HasSome (s ∷ m) x y
    go true (passed a) rest b =
        let e = rest (λ c k. b c (Memᴰ.append_right (ends r s) k)) in
        let past : (z : Record) → (z.last +ℤ pos 1) ∈ ends r s → x ≤ℤ z.last =
        λ z k. omega (arith, ints, b (z.last +ℤ pos 1) (Memᴰ.append_left (candidates l m) k), sum z.last (pos 1)) in
        (has_across a (λ h. past s ((ends_in r s).1 h)) e.0, has_across (aligned_sym a) (λ h. past r ((ends_in r s).0 h)) e.1)
    go false (failed n) rest b =
        (λ w. absurd (has_above L (b r.first (Memᴰ.head refl)) w), λ w. absurd (has_above M (b s.first (Memᴰ.tail (Memᴰ.head refl))) w))

-- ---- at the lowest candidate the lists differ

-- leaf bit y is had with root bit x by l and not by m
abbrev Alone : List Record → List Record → ℤ → ℤ → Type 0
Alone l m x y = HasSome l x y × (HasSome m x y → ⊥)

-- the first bit of a record that stands before every record of m is had by its own list alone
first_alone : {r : Record} {l m : List Record} → r.first ≤ℤ r.last → ((s : Record) → s ∈ m → Before r s)
    → Alone (r ∷ l) m r.first (r.first -ℤ r.displacement)
first_alone {r} {l} {m} n b = (has_head (has_at r r.first (omega (arith, ints)) n), λ w. clash w.0 (b w.0 w.1) w.2)
  where
    clash : (s : Record) → Before r s → Has s r.first (r.first -ℤ r.displacement) → ⊥
    clash s o h =
        let d : r.displacement ≡ s.displacement = sym (displacement_of r.first r.displacement) ∙ h.apart in
        let k : r.displacement <ℤ s.displacement = o.then (omega (arith, ints, o.first, h.above)) in
        omega (arith, ints)

-- of two records that begin alike, past the end of the shorter the longer has a bit that the shorter's list has not
end_alone : {r s : Record} {l m : List Record} → IsNormal (r ∷ l) → Aligned r s → r.last <ℤ s.last
    → Alone (s ∷ m) (r ∷ l) (r.last +ℤ pos 1) ((r.last +ℤ pos 1) -ℤ s.displacement)
end_alone {r} {s} {l} {m} L a h = (
  has_head (has_at s past (omega (arith, ints, a.first, normal-full L, sum r.last (pos 1))) (omega (arith, ints, sum r.last (pos 1)))),
  λ w. go (has_cases w),
)
  where
    past : ℤ
    past = r.last +ℤ pos 1

    go : Has r past (past -ℤ s.displacement) ⊎ HasSome l past (past -ℤ s.displacement) → ⊥
    go (inl k) = omega (arith, ints, k.below, sum r.last (pos 1))
    go (inr k) =
        normal-apart L k.0 k.1
        (record {
          same = a.displacement ∙ sym (displacement_of past s.displacement) ∙ k.2.apart;
          reaches = k.2.above;
          reached = omega (arith, ints, normal-full L, k.2.below, sum r.last (pos 1), sum k.0.last (pos 1));
        })

-- r and s begin alike and x is not past the first bit behind r: what l alone has at x, it has alone with r and s in front of the lists
alone_behind : {r s : Record} {l m : List Record} {x y : ℤ} → IsNormal (r ∷ l) → Aligned r s → (r.last <ℤ s.last → x ≤ℤ (r.last +ℤ pos 1))
    → Alone l m x y → Alone (r ∷ l) (s ∷ m) x y
alone_behind {r} {s} {l} {m} {x} {y} L a h p = (has_tail p.0, λ w. go (has_cases w))
  where
    q : Record
    q = p.0.0

    -- a bit of s at x: then r, which begins with s, and q would touch
    touching : Has s x y → (t : Bool) → Test (x ≤ℤ (r.last +ℤ pos 1)) ((r.last +ℤ pos 1) <ℤ x) t → Touch r q
    touching k true (passed u) =
        record {
          same = a.displacement ∙ sym k.apart ∙ p.0.2.apart;
          reaches = omega (arith, ints, p.0.2.above);
          reached = omega (arith, ints, a.first, k.above, p.0.2.below, sum q.last (pos 1));
        }
    touching k false (failed u) =
        let longer : r.last <ℤ s.last = omega (arith, ints, k.below, sum r.last (pos 1)) in
        absurd (omega (arith, ints, h longer))

    go : Has s x y ⊎ HasSome m x y → ⊥
    go (inl k) = normal-apart L q p.0.1 (touching k (le_z x (r.last +ℤ pos 1)) (le? x (r.last +ℤ pos 1)))
    go (inr k) = p.1 k

-- c is lower than or the same as each number of the list
abbrev AtMost : ℤ → List ℤ → Type 0
AtMost c l = (d : ℤ) → d ∈ l → c ≤ℤ d

-- what one list has alone is a difference
differ_left : {l m : List Record} {x y : ℤ} → Alone l m x y → DifferAt l m x
differ_left {y} p = (y, inl p)

differ_right : {l m : List Record} {x y : ℤ} → Alone m l x y → DifferAt l m x
differ_right {y} p = (y, inr (p.1, p.0))

module _ {r s : Record} {l m : List Record} {c : ℤ} (L : IsNormal (r ∷ l)) (M : IsNormal (s ∷ m)) where
  -- two records do not begin alike: the lower of their first bits is a difference
  differ_first : (Aligned r s → ⊥) → c ∈ (r.first ∷ s.first ∷ []) → c ≤ℤ r.first → c ≤ℤ s.first → DifferAt (r ∷ l) (s ∷ m) c
  differ_first n k p q = go (before r s) (before? r s)
    where
      before-all : {a b : Record} {t : List Record} → IsNormal (b ∷ t) → Before a b → (z : Record) → z ∈ (b ∷ t) → Before a z
      before-all {a} {b} {t} B o z w = ⊎_elim (λ e. subst (Before a) (sym e) o) (λ i. before_trans o (normal-before B z i)) (Memᴰ.cases_cons w)

      -- c is the first bit of the record that stands before the other
      lower-first : r.first ≤ℤ s.first → c ≡ r.first
      lower-first o = ⊎_elim (λ e. e) (λ i. let e = Memᴰ.eq_of_singleton i in omega (arith, ints)) (Memᴰ.cases_cons k)

      higher_first : s.first ≤ℤ r.first → c ≡ s.first
      higher_first o = ⊎_elim (λ e. omega (arith, ints)) (λ i. Memᴰ.eq_of_singleton i) (Memᴰ.cases_cons k)

      go : (t : Bool) → Test (Before r s) ((Aligned r s → ⊥) → Before s r) t → DifferAt (r ∷ l) (s ∷ m) c
      go true (passed o) = rw (lower-first o.first) (differ_left (first_alone (normal-full L) (before-all M o)))
      go false (failed f) = let o = f n in rw (higher_first o.first) (differ_right (first_alone (normal-full M) (before-all L o)))

  -- two records begin alike and end apart: past the end of the shorter is a difference
  differ_end : Aligned r s → c ∈ ends r s → DifferAt (r ∷ l) (s ∷ m) c
  differ_end a k = go (ends_out r s k)
    where
      go : Ending r s c → DifferAt (r ∷ l) (s ∷ m) c
      go (inl p) = rw p.1 (differ_right (end_alone L a p.0))
      go (inr p) = rw p.1 (differ_left (end_alone M (aligned_sym a) p.0))

  -- a difference behind two records that begin alike is one with them in front, where they end apart no lower
  differ_behind : Aligned r s → AtMost c (ends r s) → DifferAt l m c → DifferAt (r ∷ l) (s ∷ m) c
  differ_behind a b w = go w.1
    where
      go : DifferOn l m c w.0 → DifferAt (r ∷ l) (s ∷ m) c
      go (inl p) = differ_left (alone_behind L a (λ h. b (r.last +ℤ pos 1) ((ends_in r s).0 h)) p)
      go (inr p) = differ_right (alone_behind M (aligned_sym a) (λ h. b (s.last +ℤ pos 1) ((ends_in r s).1 h)) (p.1, p.0))

-- by induction: the lists differ at a candidate than which none is lower
candidate_differs : {l m : List Record} {c : ℤ} → IsNormal l → IsNormal m → c ∈ candidates l m → AtMost c (candidates l m) → DifferAt l m c
unfolding candidates
candidate_differs {l = []} {m = []} L M k b = absurd (Memᴰ.not-nil k)
candidate_differs {l = []} {m = s ∷ m} L M k b =
    rw (Memᴰ.eq_of_singleton k) (differ_right (first_alone (normal-full M) (λ z i. absurd (Memᴰ.not-nil i))))
candidate_differs {l = r ∷ l} {m = []} L M k b =
    rw (Memᴰ.eq_of_singleton k) (differ_left (first_alone (normal-full L) (λ z i. absurd (Memᴰ.not-nil i))))
candidate_differs {l = r ∷ l} {m = s ∷ m} {c} L M k b = go (aligned r s) (aligned? r s) (candidate_differs (normal_tail L) (normal_tail M)) k b
  where
    go : (t : Bool) → Decides (Aligned r s) t → (c ∈ candidates l m → AtMost c (candidates l m) → DifferAt l m c)
        → c ∈ cond t (ends r s ++ candidates l m) (r.first ∷ s.first ∷ []) → AtMost c (cond t (ends r s ++ candidates l m) (r.first ∷ s.first ∷ []))
        → DifferAt (r ∷ l) (s ∷ m) c
    go true (passed a) rest k b =
        ⊎_elim (differ_end L M a)
        (λ i. differ_behind L M a (λ d j. b d (Memᴰ.append_left (candidates l m) j)) (rest i (λ d j. b d (Memᴰ.append_right (ends r s) j))))
        (Memᴰ.append_cases (ends r s) k)
    go false (failed n) rest k b = differ_first L M n k (b r.first (Memᴰ.head refl)) (b s.first (Memᴰ.tail (Memᴰ.head refl)))

-- ---- the lowest candidate

-- the candidates of lists of small records are addresses
candidates-small : {l m : List Record} → AllSmallRootBits l → AllSmallRootBits m → AtMost (pos 0) (candidates l m)
unfolding candidates
candidates-small {l = []} {m = []} L M c k = absurd (Memᴰ.not-nil k)
candidates-small {l = []} {m = s ∷ m} L M c k = rw (Memᴰ.eq_of_singleton k) (M s (Memᴰ.head refl)).low
candidates-small {l = r ∷ l} {m = []} L M c k = rw (Memᴰ.eq_of_singleton k) (L r (Memᴰ.head refl)).low
candidates-small {l = r ∷ l} {m = s ∷ m} L M c k =
    go (aligned r s) (candidates-small (λ z i. L z (Memᴰ.tail i)) (λ z i. M z (Memᴰ.tail i)) c) k
  where
    P : SmallRootBits r
    P = L r (Memᴰ.head refl)

    Q : SmallRootBits s
    Q = M s (Memᴰ.head refl)

    past : Ending r s c → pos 0 ≤ℤ c
    past (inl p) = rw p.1 (omega (arith, ints, P.low, P.full, sum r.last (pos 1)))
    past (inr p) = rw p.1 (omega (arith, ints, Q.low, Q.full, sum s.last (pos 1)))

    go : (t : Bool) → (c ∈ candidates l m → pos 0 ≤ℤ c) → c ∈ cond t (ends r s ++ candidates l m) (r.first ∷ s.first ∷ []) → pos 0 ≤ℤ c
    go true rest k = ⊎_elim (λ i. past (ends_out r s i)) rest (Memᴰ.append_cases (ends r s) k)
    go false rest k =
        ⊎_elim (λ e. omega (arith, ints, P.low)) (λ i. let e : c ≡ s.first = Memᴰ.eq_of_singleton i in omega (arith, ints, Q.low))
        (Memᴰ.cases_cons k)

-- c is one of two addresses and above neither
abbrev LowerOf : ℤ → ℤ → ℤ → Type 0
LowerOf a b c = (c ≤ℤ a) × (c ≤ℤ b) × ((c ≡ a) ⊎ (c ≡ b))

-- so is the lower of them
lower-is : (a b : ℤ) → pos 0 ≤ℤ a → LowerOf a b (lower a b)
unfolding lower
lower-is a b h = go (lt_z a (pos 0)) (lt? a (pos 0))
  where
    go : (t : Bool) → Test (a <ℤ pos 0) (pos 0 ≤ℤ a) t → LowerOf a b (cond t b (min_z a b))
    go true (passed k) = absurd (omega (arith, ints))
    go false (failed k) = min_is a b

-- what holds of the head and of all that follows holds of every number of a list
each_of : (P : ℤ → Type 0) {a : ℤ} {l : List ℤ} → P a → ((d : ℤ) → d ∈ l → P d) → (d : ℤ) → d ∈ (a ∷ l) → P d
each_of P p f d k = ⊎_elim (λ e. subst P (sym e) p) (f d) (Memᴰ.cases_cons k)

-- the lowest of a list of addresses is one of them and above none
lowest-from : (a : ℤ) (l : List ℤ) → AtMost (pos 0) (a ∷ l) → (lowest_from a l ∈ (a ∷ l)) × AtMost (lowest_from a l) (a ∷ l)
unfolding lowest_from
lowest-from a [] h = (Memᴰ.head refl, λ d k. rw (Memᴰ.eq_of_singleton k) (omega (arith, ints)))
lowest-from a (b ∷ l) h = step (lower-is a b first) (lowest-from (lower a b) l)
  where
    first : pos 0 ≤ℤ a
    first = h a (Memᴰ.head refl)

    second : pos 0 ≤ℤ b
    second = h b (Memᴰ.tail (Memᴰ.head refl))

    among : {c z : ℤ} → (c ≡ a) ⊎ (c ≡ b) → (z ≡ c) ⊎ (z ∈ l) → z ∈ (a ∷ b ∷ l)
    among (inl p) (inl q) = Memᴰ.head (q ∙ p)
    among (inr p) (inl q) = Memᴰ.tail (Memᴰ.head (q ∙ p))
    among o (inr i) = Memᴰ.tail (Memᴰ.tail i)

    step : {c z : ℤ} → LowerOf a b c → (AtMost (pos 0) (c ∷ l) → (z ∈ (c ∷ l)) × AtMost z (c ∷ l))
        → (z ∈ (a ∷ b ∷ l)) × AtMost z (a ∷ b ∷ l)
    step {c} {z} w rest =
        let low : pos 0 ≤ℤ c = ⊎_elim (λ e. omega (arith, ints, first)) (λ e. omega (arith, ints, second)) w.2 in
        let (k, f) = rest (each_of (λ d. pos 0 ≤ℤ d) low (λ d i. h d (Memᴰ.tail (Memᴰ.tail i)))) in
        let under : z ≤ℤ c = f c (Memᴰ.head refl) in (
          among w.2 (Memᴰ.cases_cons k),
          each_of (λ d. z ≤ℤ d) (omega (arith, ints, w.0)) (each_of (λ d. z ≤ℤ d) (omega (arith, ints, w.1)) (λ d i. f d (Memᴰ.tail i))),
        )

-- a lowest candidate is the lowest address at which the lists differ
candidate_lowest : {l m : List Record} {c : ℤ} → IsNormal l → IsNormal m → c ∈ candidates l m → AtMost c (candidates l m) → c ≡ lowest l m
candidate_lowest {l} {m} {c} L M k b = go (le_z c (lowest l m)) (le? c (lowest l m))
  where
    at : T (differs_at l m c)
    at = (differs_at_lem l m c).1 (candidate_differs L M k b)

    go : (t : Bool) → Test (c ≤ℤ lowest l m) (lowest l m <ℤ c) t → c ≡ lowest l m
    go true (passed h) = omega (arith, ints, lowest-least l m c at)
    go false (failed h) =
        let same : T (not (differs_at l m (lowest l m))) =
        (agree_at l m (lowest l m)).1 (λ y. below_agree L M (lowest l m) y (λ d i. omega (arith, ints, b d i))) in
        absurd (T_not (differs_at l m (lowest l m)) same (lowest-differs l m c at))

-- The lowest candidate of two normal lists is the lowest address at which they differ.
-- The idea. Below the lowest candidate c the lists agree: a bit at x that one list alone has stands in a record that begins like none of the
-- other list at its place, and then a first bit at or below x is a candidate, or it stands past the end of the shorter of two records that
-- begin alike, and that is one. At c they differ. Where c is past the end of the shorter of two, the longer has the bit, and no record of the
-- shorter's list has it, for none touches the shorter. Where c is the first bit of a record that begins like none, no record at its place or
-- behind it in the other list has the bit, and one before it would be longer than its like, whose end would make a lower candidate.
-- Where there is no candidate, the lists differ nowhere and both answers are −1.
pub lowest_one_pass : {l m : List Record} → IsNormal l → IsNormal m → AllSmallRootBits l → AllSmallRootBits m → lowest_candidate l m ≡ lowest l m
unfolding lowest_from lower
lowest_one_pass {l} {m} L M P Q = go (candidates l m) refl
  where
    go : (cs : List ℤ) → candidates l m ≡ cs → lowest_from (negsuc 0) cs ≡ lowest l m
    go [] e =
        sym (lowest-nowhere l m (λ x. (agree_at l m x).1 (λ y. below_agree L M x y (λ c k. absurd (Memᴰ.not-nil (rw e at k))))))
    go (c ∷ cs) e =
        let (k, b) = lowest-from c cs (rw e at (candidates-small P Q)) in
        candidate_lowest L M (rw e k) (rw e b)
