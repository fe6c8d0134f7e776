-- A split of rows by a test, row by row: each row is kept at the front of the one buffer or moved behind the other.
use mathlib.Core.Path.{◌≡◌, refl, sym, ap, ◌∙◌}
use mathlib.Core.Bool.{Bool, true, false, not}
use mathlib.Core.List.{List, [], ◌∷◌, ◌++◌}
use Prim.Native.Nat.{ℕ, ◌+◌, ◌-◌, ◌<◌}
use native.Mathlib.Omega.{arith}
use lib.ListN.{length, get_or, set, take, length-append}
use lib.Seq.{sets, length-take-le}
use Rattle.lists.specs.Lists.{keep}
use Rattle.depth.specs.Passes.{SplitInto}
use Rattle.depth.proofs.Keeping.{keep_both_length, keep_pass, keep_fail}
use Rattle.depth.proofs.Stores.{sets_more, sets_past, take_more}

module _ (test : ℕ → Bool) (rest order : List ℕ) (at : ℕ) where
  -- before the first row
  pub split_start : SplitInto test 0 rest order at 0 rest order
  unfolding keep
  split_start = record { count = refl; front = refl; behind = refl }

  module _ (i : ℕ) {kept : ℕ} {rest' order' : List ℕ} (s : SplitInto test i rest order at kept rest' order')
      (h : i < length rest) where
    -- those that are kept and those that are moved are as many as were passed
    pub split_count : kept + length (keep (λ e. not (test e)) (take i rest)) ≡ i
    split_count = omega (arith, s.count, keep_both_length test (take i rest), length-take-le i rest (omega arith))

    -- the next row is as it was
    pub split_read : get_or rest' i 0 ≡ get_or rest i 0
    split_read =
        ap (λ l. get_or l i 0) s.front ∙ sets_past rest 0 (keep test (take i rest)) i 0 (omega (arith, s.count, split_count))

    -- the next row passes and is kept
    pub split_keep : test (get_or rest i 0) ≡ true → SplitInto test (i + 1) rest order at (kept + 1) (set rest' kept (get_or rest i 0)) order'
    split_keep e =
        let x = get_or rest i 0 in
        let passed = keep test (take i rest) in
        let kept_more : keep test (take (i + 1) rest) ≡ passed ++ (x ∷ []) = ap (keep test) (take_more rest i 0 h) ∙ keep_pass test (take i rest) x e in
        let gone_same : keep (λ d. not (test d)) (take (i + 1) rest) ≡ keep (λ d. not (test d)) (take i rest) =
        ap (keep (λ d. not (test d))) (take_more rest i 0 h) ∙ keep_fail (λ d. not (test d)) (take i rest) x (ap not e) in
        let place : kept ≡ 0 + length passed = omega (arith, s.count) in
        record {
          count = omega (arith, s.count, ap length kept_more, length-append passed (x ∷ []));
          front =
              ap (λ l. set l kept x) s.front
              ∙ ap (λ n. set (sets rest 0 passed) n x) place
              ∙ sets_more rest 0 passed x
              ∙ ap (sets rest 0) (sym kept_more);
          behind = s.behind ∙ ap (sets order at) (sym gone_same);
        }

    -- the next row fails and is moved
    pub split_move : test (get_or rest i 0) ≡ false → SplitInto test (i + 1) rest order at kept rest' (set order' (at + i - kept) (get_or rest i 0))
    split_move e =
        let x = get_or rest i 0 in
        let gone = keep (λ d. not (test d)) (take i rest) in
        let gone-more : keep (λ d. not (test d)) (take (i + 1) rest) ≡ gone ++ (x ∷ []) =
        ap (keep (λ d. not (test d))) (take_more rest i 0 h) ∙ keep_pass (λ d. not (test d)) (take i rest) x (ap not e) in
        let kept_same : keep test (take (i + 1) rest) ≡ keep test (take i rest) = ap (keep test) (take_more rest i 0 h) ∙ keep_fail test (take i rest) x e in
        let place : at + i - kept ≡ at + length gone = omega (arith, split_count) in
        record {
          count = s.count ∙ ap length (sym kept_same);
          front = s.front ∙ ap (sets rest 0) (sym kept_same);
          behind =
              ap (λ l. set l (at + i - kept) x) s.behind
              ∙ ap (λ n. set (sets order at gone) n x) place
              ∙ sets_more order at gone x
              ∙ ap (sets order at) (sym gone-more);
        }
