-- Laws of single records: when two are equal, touch, lie one within the other or stand in order, and what the hull of two that touch has.
use mathlib.Core.Path.{◌≡◌, refl, sym, ◌∙◌, subst}
use mathlib.Core.Bool.{Bool, true, false, not, ◌&&◌, ◌||◌}
use mathlib.Core.Logic.{◌≢◌, ◌⊎◌, inl, inr, ◌↔◌}
use native.Mathlib.Omega.{arith}
use lib.Dec.{T, T_not}
use lib.IntN.{ℤ, pos, ◌+ℤ◌, ◌-ℤ◌}
use lib.Signed.{le_z, lt_z, ◌≤ℤ◌, ◌<ℤ◌, le_z_yes}
use Rattle.integers.specs.Integers.{eq_z, min_z, max_z}
use Rattle.integers.proofs.Linear.{ints, sum, diff}
use Rattle.integers.proofs.Tests.{Test, passed, failed, le?, lt?, eq_z?, test?, test_of, of_test, eq_z→eq, eq_z_refl, and_in, and_out, min_is, max_is}
use Rattle.model.specs.Bitmapping.{Record, Has, Before}
use Rattle.model.specs.Runs.{touch, hull, before}

-- equal fields make equal records
pub record_path : {r s : Record} → r.first ≡ s.first → r.last ≡ s.last → r.displacement ≡ s.displacement → r ≡ s
record_path p q e = λ i. record { first = p i; last = q i; displacement = e i }

-- the displacement between a root bit x and the leaf bit x − d is d
pub displacement_of : (x d : ℤ) → x -ℤ (x -ℤ d) ≡ d
displacement_of x d = omega (arith, ints, diff x d, diff x (x -ℤ d))

-- which leaf bit a record has with a root bit of its run
pub has_at : (r : Record) (x : ℤ) → r.first ≤ℤ x → x ≤ℤ r.last → Has r x (x -ℤ r.displacement)
has_at r x h k = record { above = h; below = k; apart = displacement_of x r.displacement }

-- ---- one within the other

-- s has all that r has
pub record Within (r s : Record) : Type 0 where
  pub same : r.displacement ≡ s.displacement
  pub first : s.first ≤ℤ r.first
  pub last : r.last ≤ℤ s.last

-- a record lies within itself
pub within_refl : (r : Record) → Within r r
within_refl r = record { same = refl; first = omega (arith, ints); last = omega (arith, ints) }

-- what lies within a record lies within all that the record lies within
pub within_trans : {r s t : Record} → Within r s → Within s t → Within r t
within_trans p q = record { same = p.same ∙ q.same; first = omega (arith, ints); last = omega (arith, ints) }

-- a bit of r is a bit of each record that r lies within
pub within_has : {r s : Record} {x y : ℤ} → Within r s → Has r x y → Has s x y
within_has w h = record { above = omega (arith, ints); below = omega (arith, ints); apart = h.apart ∙ w.same }

-- ---- two that touch

-- two records of one displacement touch or overlap: no bit lies between them
pub record Touch (r s : Record) : Type 0 where
  pub same : r.displacement ≡ s.displacement
  pub reaches : s.first ≤ℤ (r.last +ℤ pos 1)
  pub reached : r.first ≤ℤ (s.last +ℤ pos 1)

-- the test of touch decides it
pub touch_is : (r s : Record) → T (touch r s) ↔ Touch r s
unfolding touch
touch_is r s = (λ t. out (and_out (same && reaches) reached t), into)
  where
    same : Bool
    same = eq_z r.displacement s.displacement

    reaches : Bool
    reaches = le_z s.first (r.last +ℤ pos 1)

    reached : Bool
    reached = le_z r.first (s.last +ℤ pos 1)

    out : T (same && reaches) × T reached → Touch r s
    out p =
        let q = and_out same reaches p.0 in
        record { same = eq_z→eq r.displacement s.displacement q.0; reaches = le_z_yes q.1; reached = le_z_yes p.1 }

    equal : r.displacement ≡ s.displacement → T same
    equal e = subst (λ (d : ℤ). T (eq_z r.displacement d)) e (eq_z_refl r.displacement)

    into : Touch r s → T (touch r s)
    into t = and_in (same && reaches) reached (and_in same reaches (equal t.same) t.reaches.le) t.reached.le

-- the test of touch, for cases
pub touch? : (r s : Record) → Test (Touch r s) (Touch r s → ⊥) (touch r s)
touch? r s = go (touch r s) (test? (touch r s))
  where
    go : (b : Bool) → Test (T (touch r s)) (T (not (touch r s))) b → Test (Touch r s) (Touch r s → ⊥) b
    go true (passed h) = passed ((touch_is r s).0 h)
    go false (failed h) = failed (λ t. T_not (touch r s) h ((touch_is r s).1 t))

-- touch goes both ways
pub touch_sym : {r s : Record} → Touch r s → Touch s r
touch_sym t = record { same = sym t.same; reaches = t.reached; reached = t.reaches }

-- what touches a record touches every record around it
pub touch-within : {r j s : Record} → Within r j → Touch r s → Touch j s
touch-within {r} {j} {s} w t =
    record { same = sym w.same ∙ t.same; reaches = omega (arith, ints, sum r.last (pos 1), sum j.last (pos 1)); reached = omega (arith, ints) }

-- root bit x with leaf bit y is in the record, or next to it
pub record Near (s : Record) (x y : ℤ) : Type 0 where
  pub above : s.first ≤ℤ (x +ℤ pos 1)
  pub below : x ≤ℤ (s.last +ℤ pos 1)
  pub apart : x -ℤ y ≡ s.displacement

-- a bit of the record is in it or next to it
pub has_near : {s : Record} {x y : ℤ} → Has s x y → Near s x y
has_near {s} {x} h = record { above = omega (arith, ints, sum x (pos 1)); below = omega (arith, ints, sum s.last (pos 1)); apart = h.apart }

-- a record touches each that has a bit in it or next to it
pub touch_near : {r s : Record} {x y : ℤ} → Near r x y → Has s x y → Touch r s
touch_near {r} {s} {x} h k =
    record { same = sym h.apart ∙ k.apart; reaches = omega (arith, ints); reached = omega (arith, ints, sum x (pos 1), sum s.last (pos 1)) }

-- ---- the hull of two

-- the first of two lies within their hull
pub hull_left : (r s : Record) → Within r (hull r s)
unfolding hull
hull_left r s = record { same = refl; first = (min_is r.first s.first).0; last = (max_is r.last s.last).0 }

-- the second of two that touch lies within their hull
pub hull_right : {r s : Record} → Touch r s → Within s (hull r s)
unfolding hull
hull_right {r} {s} t = record { same = sym t.same; first = (min_is r.first s.first).1; last = (max_is r.last s.last).1 }

-- the record and the bits low .. high have a bit in common, where neither is empty
pub record Meets (r : Record) (low high : ℤ) : Type 0 where
  pub first : r.first ≤ℤ high
  pub last : low ≤ℤ r.last

-- what meets the hull of two that touch meets one of them
pub hull_meets : {r s : Record} {low high : ℤ} → Touch r s → low ≤ℤ high → Meets (hull r s) low high → Meets r low high ⊎ Meets s low high
unfolding hull
hull_meets {r} {s} {low} {high} t n m = go (min_is r.first s.first).2 (max_is r.last s.last).2
  where
    upper : r.first ≤ℤ high → low ≤ℤ s.last → (b : Bool) → Test (low ≤ℤ r.last) (r.last <ℤ low) b → Meets r low high ⊎ Meets s low high
    upper p q true (passed h) = inl (record { first = p; last = h })
    upper p q false (failed h) = inr (record { first = omega (arith, ints, sum r.last (pos 1)); last = q })

    lower : s.first ≤ℤ high → low ≤ℤ r.last → (b : Bool) → Test (low ≤ℤ s.last) (s.last <ℤ low) b → Meets r low high ⊎ Meets s low high
    lower p q true (passed h) = inr (record { first = p; last = h })
    lower p q false (failed h) = inl (record { first = omega (arith, ints, sum s.last (pos 1)); last = q })

    go : (min_z r.first s.first ≡ r.first) ⊎ (min_z r.first s.first ≡ s.first)
        → (max_z r.last s.last ≡ r.last) ⊎ (max_z r.last s.last ≡ s.last) → Meets r low high ⊎ Meets s low high
    go (inl p) (inl q) = inl (record { first = omega (arith, ints); last = omega (arith, ints) })
    go (inr p) (inr q) = inr (record { first = omega (arith, ints); last = omega (arith, ints) })
    go (inl p) (inr q) = upper (omega (arith, ints)) (omega (arith, ints)) (le_z low r.last) (le? low r.last)
    go (inr p) (inl q) = lower (omega (arith, ints)) (omega (arith, ints)) (le_z low s.last) (le? low s.last)

-- a record that touches s meets the bits of s with the one below and the one above
pub touch_meets : {r s : Record} → Touch r s → Meets r (s.first -ℤ pos 1) (s.last +ℤ pos 1)
touch_meets {r} {s} t = record { first = t.reached; last = omega (arith, ints, sum r.last (pos 1), diff s.first (pos 1)) }

-- and a record of one displacement with s that meets them touches s
pub meets_touch : {r s : Record} → r.displacement ≡ s.displacement → Meets r (s.first -ℤ pos 1) (s.last +ℤ pos 1) → Touch r s
meets_touch {r} {s} e m = record { same = e; reaches = omega (arith, ints, sum r.last (pos 1), diff s.first (pos 1)); reached = m.first }

-- ---- the order

-- no record stands before itself
pub before_irrefl : {r : Record} → Before r r → ⊥
before_irrefl {r} b = let h : r.displacement <ℤ r.displacement = b.then refl in omega (arith, ints)

-- what stands before a record stands before all that the record stands before
pub before_trans : {r s t : Record} → Before r s → Before s t → Before r t
before_trans {r} {s} {t} p q = record { first = omega (arith, ints); then = λ e. tie (p.then (omega (arith, ints))) (q.then (omega (arith, ints))) }
  where
    tie : r.displacement <ℤ s.displacement → s.displacement <ℤ t.displacement → r.displacement <ℤ t.displacement
    tie h k = omega (arith, ints)

-- two records begin alike: at one bit, with one displacement
pub record Aligned (r s : Record) : Type 0 where
  pub first : r.first ≡ s.first
  pub displacement : r.displacement ≡ s.displacement

-- two records that begin alike and are not empty touch
pub touch-aligned : {r s : Record} → r.first ≤ℤ r.last → s.first ≤ℤ s.last → Aligned r s → Touch r s
touch-aligned {r} {s} n m a =
    record { same = a.displacement; reaches = omega (arith, ints, sum r.last (pos 1)); reached = omega (arith, ints, sum s.last (pos 1)) }

-- the test of order, for cases: where it fails, the order is the other way, unless the two begin alike
pub before? : (r s : Record) → Test (Before r s) ((Aligned r s → ⊥) → Before s r) (before r s)
unfolding before
before? r s =
    go (lt_z r.first s.first) (eq_z r.first s.first) (lt_z r.displacement s.displacement)
    (lt? r.first s.first) (eq_z? r.first s.first) (lt? r.displacement s.displacement)
  where
    tie : s.displacement ≤ℤ r.displacement → (r.displacement ≡ s.displacement → ⊥) → (b : Bool)
        → Test (s.displacement <ℤ r.displacement) (r.displacement ≤ℤ s.displacement) b → s.displacement <ℤ r.displacement
    tie h n true (passed k) = k
    tie h n false (failed k) = absurd (n (omega (arith, ints)))

    go : (a b c : Bool) → Test (r.first <ℤ s.first) (s.first ≤ℤ r.first) a → Test (r.first ≡ s.first) (r.first ≢ s.first) b
        → Test (r.displacement <ℤ s.displacement) (s.displacement ≤ℤ r.displacement) c
        → Test (Before r s) ((Aligned r s → ⊥) → Before s r) (a || (b && c))
    go true b c (passed h) _ _ = passed (record { first = omega (arith, ints); then = λ e. absurd (omega (arith, ints)) })
    go false false c (failed h) (failed k) _ = failed (λ n. record { first = h; then = λ e. absurd (k e) })
    go false true true (failed h) (passed e) (passed k) = passed (record { first = omega (arith, ints); then = λ e'. k })
    go false true false (failed h) (passed e) (failed k) =
        failed (λ n. record {
          first = h;
          then = λ e'. tie k (λ d. n (record { first = e; displacement = d })) (lt_z s.displacement r.displacement) (lt? s.displacement r.displacement);
        })

-- the test of order decides it
pub before-is : (r s : Record) → T (before r s) ↔ Before r s
before-is r s = (test_of (before? r s), λ b. of_test (before? r s) (λ other. before_irrefl (before_trans b (other (λ a. apart b a)))))
  where
    apart : Before r s → Aligned r s → ⊥
    apart b a = let h : r.displacement <ℤ s.displacement = b.then (sym a.first) in omega (arith, ints)
