-- What is found for a kind of walk, held group by group.
use mathlib.Core.Path.{◌≡◌, refl, sym, subst}
use mathlib.Core.Bool.{Bool, true, true≢false, ◌&&◌}
use mathlib.Core.List.{List}
use mathlib.Core.Logic.{◌≢◌}
use Prim.Native.Nat.{ℕ, ◌+◌, ◌*◌, ◌≤◌, ◌<◌}
use native.Mathlib.Omega.{arith}
use lib.Dec.{eqb, ltb}
use lib.IntN.{ℤ}
use lib.ListN.{length}
use Rattle.integers.proofs.Tests.{Test, passed, failed, eq?, ltb?}
use Rattle.model.specs.declared.WalkKind.{WalkKind}
use Rattle.model.specs.Compare.{Tables, kind_verdict}
use Rattle.grouping.specs.Links.{group_row}
use Rattle.pairs.specs.Found.{finding_at}
use Rattle.reporting.specs.Lines.{SmallLengths}
use Rattle.totals.specs.declared.Found.{Found}
use Rattle.totals.specs.Kept.{IsFinding}
use Rattle.holding.specs.Held.{held_width, held_with, HeldAt, Held}
use Rattle.holding.proofs.Holding.{held-own, held-other, held_length}
use Rattle.rowpairs.specs.RowPairs.{EqualBefore, HeldGroup, HeldGroups}

-- a number below n + 1 that is not n is below n
below : (g n : ℕ) → g < n + 1 → (g ≡ n → ⊥) → g < n
below g n h p = go (ltb g n) (ltb? g n)
  where
    go : (b : Bool) → Test (g < n) (n ≤ g) b → g < n
    go b (passed t) = t
    go b (failed t) = absurd (p (omega arith))

-- what holds of the pairs before group n and of its own holds of those before the next
pub equal-more : (kind : WalkKind) (t : Tables) (i : ℕ) (links : List ℕ) (n : ℕ) → EqualBefore kind t i links n → kind_verdict (finding_at t i (group_row links n)) kind ≡ 0
    → EqualBefore kind t i links (n + 1)
equal-more kind t i links n before zero group h = go (eqb group n) (eq? group n)
  where
    go : (b : Bool) → Test (group ≡ n) (group ≢ n) b → kind_verdict (finding_at t i (group_row links group)) kind ≡ 0
    go b (passed p) = subst (λ (g : ℕ). kind_verdict (finding_at t i (group_row links g)) kind ≡ 0) (sym p) zero
    go b (failed p) = before group (below group n h p)

-- one more group is held behind the first n
pub held_more : (kind : WalkKind) (t : Tables) (i : ℕ) (links : List ℕ) (asked wanted : Bool) (held : List ℤ) (n : ℕ) (r : Found) {new : List ℤ} → held_width * n + held_width ≤ length held
    → HeldGroups kind t i links asked held n → (asked ≡ true → EqualBefore kind t i links n → wanted ≡ true) → IsFinding kind (finding_at t i (group_row links n)) wanted r
    → SmallLengths r.lengths → new ≡ held_with held n r → HeldGroups kind t i links asked new (n + 1)
held_more kind t i links asked wanted held n r {new} room before told is few e =
    subst (λ (h : List ℤ). HeldGroups kind t i links asked h (n + 1)) (sym e) (λ group h. go group h (eqb group n) (eq? group n))
  where
    own : HeldGroup kind t i links asked (held_with held n r) n
    own =
        record {
          there = omega (arith, room, held_length held n r);
          found = r;
          at = held-own held n r room;
          is = record { verdict = is.verdict; spec = is.spec; impl = is.impl; address = λ z. absurd (true≢false (sym z)) };
          address = λ a b. is.address (told a b);
          few = few;
        }

    go : (group : ℕ) → group < n + 1 → (b : Bool) → Test (group ≡ n) (group ≢ n) b → HeldGroup kind t i links asked (held_with held n r) group
    go group h b (passed p) = subst (λ (g : ℕ). HeldGroup kind t i links asked (held_with held n r) g) (sym p) own
    go group h b (failed p) =
        let old = before group (below group n h p) in
        record {
          there = omega (arith, old.there, held_length held n r);
          found = old.found;
          at = held-other held n group r p old.at;
          is = old.is;
          address = old.address;
          few = old.few;
        }

-- what is held of a group can be read
pub group-held : {kind : WalkKind} {t : Tables} {i : ℕ} {links : List ℕ} {asked : Bool} {held : List ℤ} {group : ℕ} → HeldGroup kind t i links asked held group → Held held group
group-held h = record { there = h.there; found = h.found; at = h.at }

-- what was read of it is what is found of its pair, with the address where one is still asked for
pub held_found : {kind : WalkKind} {t : Tables} {i j group : ℕ} {links : List ℕ} {first asked : Bool} {held : List ℤ} {r : Found} → HeldGroup kind t i links first held group
    → j ≡ group_row links group → (asked ≡ true → (first ≡ true) × EqualBefore kind t i links group) → ((f : Found) → HeldAt held group f → r ≡ f)
    → IsFinding kind (finding_at t i j) asked r × SmallLengths r.lengths
held_found {kind} {t} {i} {j} {group} {links} {asked = asked} {r = r} h at was told =
    let q = sym (told h.found h.at) in
    let own : IsFinding kind (finding_at t i (group_row links group)) asked h.found =
    record { verdict = h.is.verdict; spec = h.is.spec; impl = h.is.impl; address = λ a. h.address (was a).0 (was a).1 } in (
      subst (λ (f : Found). IsFinding kind (finding_at t i j) asked f) q (subst (λ (n : ℕ). IsFinding kind (finding_at t i n) asked h.found) (sym at) own),
      subst (λ (f : Found). SmallLengths f.lengths) q h.few,
    )

-- an address is still asked for behind an equal pair
pub still_true : {asked : Bool} {v : ℕ} → asked ≡ true → v ≡ 0 → asked && eqb v 0 ≡ true
still_true a e = rw (a, e) refl
