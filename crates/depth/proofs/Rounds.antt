-- Rounds that remove the edges that no edge left over follows: what is left over after so many rounds, and what they have removed.
use mathlib.Core.Path.{◌≡◌, refl, sym, ap, subst, ◌∙◌}
use mathlib.Core.Bool.{Bool, true, false}
use mathlib.Core.List.{List, [], ◌∷◌, ◌++◌, map, append_assoc, append-nil}
use Prim.Native.Nat.{ℕ, zero, suc, ◌+◌, ◌-◌, ◌≤◌, ◌<◌}
use native.Mathlib.Nat.{zero-add, suc-add}
use native.Mathlib.Omega.{arith}
use lib.Dec.{ltb}
use lib.ListN.{length, length-append}
use Rattle.integers.specs.Integers.{eq_z}
use Rattle.integers.proofs.Tests.{Test, passed, failed, ltb?}
use Rattle.lists.specs.Lists.{◌∈◌, keep, any}
use Rattle.model.specs.Rows.{Edge}
use Rattle.model.specs.Checks.{each, ending_at, followed, begins}
use Rattle.model.proofs.Chains.{followed_out}
use Rattle.depth.specs.Order.{lasts, peeled, edge_order}
use Rattle.depth.proofs.Keeping.{length_none, keep_both_length, keep_all}

-- ---- one round

-- no edge of none is followed
pub followed-none : followed [] ≡ []
unfolding followed ending_at keep
followed-none = refl

-- a round removes or leaves over each edge
pub round_length : (es : List Edge) → length (lasts es) + length (followed es) ≡ length es
unfolding lasts followed ending_at
round_length es =
    omega (arith, keep_both_length (λ (e : Edge). any (eq_z e.to) (each (map (λ (c : Edge). c.from) es))) es)

-- a round that leaves over as many edges as there are leaves all of them
pub round_stuck : (es : List Edge) → length es ≤ length (followed es) → followed es ≡ es
unfolding followed ending_at
round_stuck es h = keep_all (λ e. any (eq_z e.to) (each (map (λ c. c.from) es))) es h

-- and removes none
pub stuck_lasts : (es : List Edge) → followed es ≡ es → lasts es ≡ []
stuck_lasts es e = length_none (lasts es) (omega (arith, round_length es, ap length e))

-- ---- what is left over after so many rounds

-- none are left over of none
pub begins-none : (k : ℕ) → begins k [] ≡ []
unfolding begins
begins-none zero = refl
begins-none (suc k) = refl

-- the first round, then the others
pub begins-first : (k : ℕ) (es : List Edge) → begins (suc k) es ≡ begins k (followed es)
unfolding begins
begins-first k [] = sym (ap (begins k) followed-none ∙ begins-none k)
begins-first k (e ∷ es) = refl

-- no round leaves over all
pub begins-start : (es : List Edge) → begins 0 es ≡ es
unfolding begins
begins-start es = refl

-- the other rounds, then the last
pub begins-last : (k : ℕ) (es : List Edge) → begins (suc k) es ≡ followed (begins k es)
begins-last zero es = begins-first 0 es ∙ begins-start (followed es) ∙ ap followed (sym (begins-start es))
begins-last (suc k) es = begins-first (suc k) es ∙ begins-last k (followed es) ∙ ap followed (sym (begins-first k es))

-- some rounds, then others
pub begins_sum : (j k : ℕ) (es : List Edge) → begins (j + k) es ≡ begins k (begins j es)
begins_sum zero k es = ap (λ n. begins n es) (zero-add k) ∙ ap (begins k) (sym (begins-start es))
begins_sum (suc j) k es =
    ap (λ n. begins n es) (suc-add j k) ∙ begins-first (j + k) es ∙ begins_sum j k (followed es) ∙ ap (begins k) (sym (begins-first j es))

-- what is left over is of the list
pub begins_out : {e : Edge} (k : ℕ) (es : List Edge) → e ∈ begins k es → e ∈ es
begins_out {e} zero es m = subst (λ (l : List Edge). e ∈ l) (begins-start es) m
begins_out {e} (suc k) es m = begins_out k es (followed_out (begins k es) (subst (λ (l : List Edge). e ∈ l) (begins-last k es) m)).0

-- once none are left over, none are left over after more rounds
pub begins-over : (j k : ℕ) (es : List Edge) → j ≤ k → begins j es ≡ [] → begins k es ≡ []
begins-over j k es h e =
    let split : k ≡ j + (k - j) = omega arith in
    ap (λ n. begins n es) split ∙ begins_sum j (k - j) es ∙ ap (begins (k - j)) e ∙ begins-none (k - j)

-- a round that removes none leaves all over after any number of rounds
pub begins_stuck : (k : ℕ) (es : List Edge) → followed es ≡ es → begins k es ≡ es
begins_stuck zero es e = begins-start es
begins_stuck (suc k) es e = begins-first k es ∙ ap (begins k) e ∙ begins_stuck k es e

-- Where so many rounds as there are edges leave some over, any number of rounds does: each round removes an edge, until one removes none.
pub begins_drained : (n k : ℕ) (es : List Edge) → length es ≤ n → begins k es ≡ [] → begins n es ≡ []
begins_drained zero k es h e = begins-start es ∙ length_none es h
begins_drained (suc n) k es h e =
    let fewer : begins k (followed es) ≡ [] = sym (begins-first k es) ∙ begins-over k (suc k) es (omega arith) e in
    go (ltb (length (followed es)) (length es)) (ltb? (length (followed es)) (length es)) (λ l. begins_drained n k (followed es) l fewer)
  where
    go : (b : Bool) → Test (length (followed es) < length es) (length es ≤ length (followed es)) b
        → (length (followed es) ≤ n → begins n (followed es) ≡ []) → begins (suc n) es ≡ []
    go true (passed l) rec = begins-first n es ∙ rec (omega arith)
    go false (failed l) rec = ap (begins (suc n)) (sym (begins_stuck k es (round_stuck es l)) ∙ e) ∙ begins-none (suc n)

-- ---- what so many rounds have removed

-- none are removed of none
pub peeled-none : (k : ℕ) → peeled k [] ≡ []
unfolding peeled lasts keep
peeled-none zero = refl
peeled-none (suc k) = ap (peeled k) followed-none ∙ peeled-none k

-- some rounds, then others
pub peeled_sum : (j k : ℕ) (es : List Edge) → peeled (j + k) es ≡ peeled j es ++ peeled k (begins j es)
unfolding peeled
peeled_sum zero k es = ap (λ n. peeled n es) (zero-add k) ∙ ap (peeled k) (sym (begins-start es))
peeled_sum (suc j) k es =
    ap (λ n. peeled n es) (suc-add j k)
    ∙ ap (λ l. lasts es ++ l) (peeled_sum j k (followed es) ∙ ap (λ l. peeled j (followed es) ++ peeled k l) (sym (begins-first j es)))
    ∙ sym (append_assoc (lasts es) (peeled j (followed es)) (peeled k (begins (suc j) es)))

-- a round more
pub peeled-last : (k : ℕ) (es : List Edge) → peeled (suc k) es ≡ peeled k es ++ lasts (begins k es)
unfolding peeled
peeled-last k es =
    let more : suc k ≡ k + 1 = omega arith in ap (λ n. peeled n es) more ∙ peeled_sum k 1 es ∙ ap (λ l. peeled k es ++ l) (append-nil (lasts (begins k es)))

-- a round that removes none is followed by none that removes some
pub peeled_stuck : (k : ℕ) (es : List Edge) → followed es ≡ es → peeled k es ≡ []
unfolding peeled
peeled_stuck zero es e = refl
peeled_stuck (suc k) es e = rw (stuck_lasts es e, e) (peeled_stuck k es e)

-- what the rounds have removed and what they leave over are together as many as there were
pub peeled_length : (k : ℕ) (es : List Edge) → length (peeled k es) + length (begins k es) ≡ length es
unfolding peeled
peeled_length zero es = omega (arith, ap length (begins-start es))
peeled_length (suc k) es =
    omega (
      arith,
      length-append (lasts es) (peeled k (followed es)),
      ap length (begins-first k es),
      peeled_length k (followed es),
      round_length es,
    )

-- where rounds leave over what one round more leaves over, they have removed all that comes into the order
pub order-reached : (k : ℕ) (es : List Edge) → k ≤ length es → followed (begins k es) ≡ begins k es → edge_order es ≡ peeled k es
unfolding edge_order
order-reached k es h e =
    let split : length es ≡ k + (length es - k) = omega arith in
    ap (λ n. peeled n es) split
    ∙ peeled_sum k (length es - k) es
    ∙ ap (λ l. peeled k es ++ l) (peeled_stuck (length es - k) (begins k es) e)
    ∙ append-nil (peeled k es)
