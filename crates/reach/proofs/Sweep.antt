-- One pass over edges counts something of every node. At its start a node has one; at any other it has, for each edge near it, what the far end of the
-- edge has. So it is with the paths from a node to a leaf, by the edges that leave the node, and with the paths from a root to a node, by the edges that
-- enter it. The count of a node is, at any time, that by its edges that are passed. When an edge is passed, all edges near its far end are, so that
-- node's count is complete, and adding it at the near end keeps the rule.
use mathlib.Core.Path.{◌≡◌, refl, sym, ap, ◌∙◌}
use mathlib.Core.Bool.{Bool, true, false, cond}
use mathlib.Core.List.Memᴰ
use mathlib.Core.List.{List, [], ◌∷◌, ◌++◌}
use mathlib.Core.Logic.{◌≢◌, ◌⊎◌, inl, inr, ⊎_elim}
use Prim.Native.Nat.{ℕ, ◌+◌, ◌≤◌, ◌<◌}
use native.Mathlib.Omega.{arith}
use lib.Dec.{eqb}
use lib.IntN.{ℤ, pos}
use lib.ListN.{length, get_or, set, replicate, length-set, length-replicate, length-append, get_or-replicate, get_or-append}
use lib.Seq.{get_or-set_same, get_or-set_other}
use Rattle.integers.specs.Integers.{eq_z}
use Rattle.integers.proofs.Linear.{ints}
use Rattle.integers.proofs.Tests.{Test, passed, failed, eq_z?, eq?, test_of}
use Rattle.lists.specs.Lists.{◌∈◌, keep, Distinct, none, more}
use Rattle.lists.proofs.Membership.{keep_in, keep_out}
use Rattle.lists.proofs.Distinct.{keep-distinct}
use Rattle.model.specs.Limits.{max_paths}
use Rattle.model.specs.Rows.{Edge}
use Rattle.depth.specs.Order.{Backward}
use Rattle.reach.specs.Counting.{stopped}
use Rattle.reach.proofs.Totals.{total, total-same}
use Rattle.reach.proofs.Counting.{stopped_sum}

-- ---- the edges of a pass, cut into those before and those ahead

-- these edges stand each once in an order, cut in two: those before, the last first, and those ahead
pub record CutBy (Order : List Edge → List Edge → Type 0) (graph before ahead : List Edge) : Type 0 where
  pub ordered : Order before ahead
  pub passed-once : Distinct before
  pub ahead_once : Distinct ahead
  pub apart : (e : Edge) → e ∈ before → e ∈ ahead → ⊥
  pub passed_in : (e : Edge) → e ∈ before → e ∈ graph
  pub ahead_in : (e : Edge) → e ∈ ahead → e ∈ graph
  pub whole : (e : Edge) → e ∈ graph → (e ∈ before) ⊎ (e ∈ ahead)

module _ {Order : List Edge → List Edge → Type 0} {graph : List Edge} where
  -- at the beginning all edges are ahead
  pub cut-start : {order : List Edge} → Order [] order → Distinct order → ((e : Edge) → e ∈ order → e ∈ graph)
      → ((e : Edge) → e ∈ graph → e ∈ order) → CutBy Order graph [] order
  cut-start b d into from =
      record {
        ordered = b;
        passed-once = none;
        ahead_once = d;
        apart = λ e m n. Memᴰ.not-nil m;
        passed_in = λ e m. absurd (Memᴰ.not-nil m);
        ahead_in = into;
        whole = λ e m. inr (from e m);
      }

  -- the first edge ahead is passed
  pub cut_on : {before ahead : List Edge} {e : Edge} → CutBy Order graph before (e ∷ ahead) → Order (e ∷ before) ahead → CutBy Order graph (e ∷ before) ahead
  cut_on {before} {ahead} {e} c b = go c.ahead_once
    where
      go : Distinct (e ∷ ahead) → CutBy Order graph (e ∷ before) ahead
      go (more new d) = record {
        ordered = b;
        passed-once = more (λ m. c.apart e m (Memᴰ.head refl)) c.passed-once;
        ahead_once = d;
        apart = λ f m n. ⊎_elim (λ q. new (Memᴰ.cast (sym q) n)) (λ k. c.apart f k (Memᴰ.tail n)) (Memᴰ.cases_cons m);
        passed_in = λ f m. ⊎_elim (λ q. c.ahead_in f (Memᴰ.head q)) (c.passed_in f) (Memᴰ.cases_cons m);
        ahead_in = λ f m. c.ahead_in f (Memᴰ.tail m);
        whole = λ f m.
            ⊎_elim (λ k. inl (Memᴰ.tail k)) (λ k. ⊎_elim (λ q. inl (Memᴰ.head q)) inr (Memᴰ.cases_cons k)) (c.whole f m);
      }

-- the edges of a graph in backward order
abbrev pub Cut : List Edge → List Edge → List Edge → Type 0
Cut graph before ahead = CutBy (Backward graph) graph before ahead

pub cut-next : {graph before ahead : List Edge} {e : Edge} → Cut graph before (e ∷ ahead) → Cut graph (e ∷ before) ahead
cut-next c = cut_on c c.ordered.1

-- ---- counts by the edges before

module _ (near far : Edge → ℤ) (count : ℤ → ℕ) (start : ℤ) where
  -- the rule of the counts
  pub record Counts (graph : List Edge) : Type 0 where
    pub once : Distinct graph
    pub one : count start ≡ 1
    pub bare : (e : Edge) → e ∈ graph → near e ≢ start
    pub step : (v : ℤ) → v ≢ start → count v ≡ total (λ e. count (far e)) (keep (λ e. eq_z (near e) v) graph)

  -- the count of v by the edges before; the start has its one from the beginning
  abbrev pub so_far : List Edge → ℤ → ℕ
  so_far before v = cond (eq_z v start) 1 (total (λ e. count (far e)) (keep (λ e. eq_z (near e) v) before))

  -- an edge near another node changes nothing
  so_far_other : (before : List Edge) (e : Edge) (v : ℤ) → near e ≢ v → so_far (e ∷ before) v ≡ so_far before v
  unfolding keep
  so_far_other before e v n = go (eq_z (near e) v) (eq_z? (near e) v)
    where
      kept : List Edge
      kept = keep (λ d. eq_z (near d) v) before

      go : (t : Bool) → Test (near e ≡ v) (near e ≢ v) t → cond (eq_z v start) 1 (total (λ d. count (far d)) (cond t (e ∷ kept) kept)) ≡ so_far before v
      go true (passed h) = absurd (n h)
      go false (failed h) = refl

  -- an edge near v, which is not the start, adds the count of its far end
  so_far_more : (before : List Edge) (e : Edge) → near e ≢ start → so_far (e ∷ before) (near e) ≡ so_far before (near e) + count (far e)
  unfolding keep
  so_far_more before e n = go (eq_z (near e) start) (eq_z? (near e) start) (eq_z (near e) (near e)) (eq_z? (near e) (near e))
    where
      kept : List Edge
      kept = keep (λ d. eq_z (near d) (near e)) before

      go : (s : Bool) → Test (near e ≡ start) (near e ≢ start) s → (t : Bool) → Test (near e ≡ near e) (near e ≢ near e) t
          → cond s 1 (total (λ d. count (far d)) (cond t (e ∷ kept) kept)) ≡ cond s 1 (total (λ d. count (far d)) kept) + count (far e)
      go true (passed h) t k = absurd (n h)
      go false (failed h) true (passed k) = omega arith
      go false (failed h) false (failed k) = absurd (k refl)

  -- where all edges near v are before, the count of v is complete
  so_far_all : {graph before : List Edge} → Counts graph → Distinct before → ((e : Edge) → e ∈ before → e ∈ graph) → (v : ℤ)
      → ((f : Edge) → f ∈ graph → near f ≡ v → f ∈ before) → so_far before v ≡ count v
  so_far_all {graph} {before} c d inside v h = go (eq_z v start) (eq_z? v start)
    where
      at : Edge → Bool
      at e = eq_z (near e) v

      same : total (λ e. count (far e)) (keep at before) ≡ total (λ e. count (far e)) (keep at graph)
      same =
          total-same (λ e. count (far e)) (keep-distinct at d) (keep-distinct at c.once)
          (λ e m. let w = keep_out at before m in keep_in at w.1 (inside e w.0))
          (λ e m. let w = keep_out at graph m in keep_in at w.1 (h e w.0 (test_of (eq_z? (near e) v) w.1)))

      go : (t : Bool) → Test (v ≡ start) (v ≢ start) t → cond t 1 (total (λ e. count (far e)) (keep at before)) ≡ count v
      go true (passed e) = sym c.one ∙ ap count (sym e)
      go false (failed n) = same ∙ sym (c.step v n)

-- ---- the counts of a pass

module _ (near far : Edge → ℤ) (count : ℤ → ℕ) (start n : ℕ) where
  -- the first n counts are stopped counts by the edges before
  pub record Swept (before : List Edge) (counts : List ℕ) : Type 0 where
    pub size : n ≤ length counts
    pub each : (v : ℕ) → v < n → get_or counts v 0 ≡ stopped (so_far near far count (pos start) before (pos v))

  -- before any edge: 1 at the start, 0 elsewhere
  pub swept_start : (old : List ℕ) → start < n → Swept [] (set (replicate n 0 ++ old) start 1)
  unfolding keep
  swept_start old h =
      record {
        size = omega (arith, length-set (replicate n 0 ++ old) start 1, size);
        each = λ v k. at v k (eqb v start) (eq? v start);
      }
    where
      size : n ≤ length (replicate n 0 ++ old)
      size = omega (arith, length-append (replicate n 0) old, length-replicate {A = ℕ} n 0)

      at : (v : ℕ) → v < n → (t : Bool) → Test (v ≡ start) (v ≢ start) t → get_or (set (replicate n 0 ++ old) start 1) v 0 ≡ stopped (cond t 1 0)
      at v k true (passed e) = rw e (get_or-set_same (replicate n 0 ++ old) start 1 0 (omega (arith, size)))
      at v k false (failed e) =
          get_or-set_other (replicate n 0 ++ old) start v 1 0 e
          ∙ get_or-append (replicate n 0) old 0 v (omega (arith, length-replicate {A = ℕ} n 0))
          ∙ get_or-replicate n v 0 0 k

  -- the counts of nodes are stopped
  pub swept_stopped : {before : List Edge} {counts : List ℕ} → Swept before counts → (v : ℕ) → v < n → get_or counts v 0 ≤ max_paths + 1
  swept_stopped s v h = omega (arith, s.each v h)

  module _ {graph before : List Edge} (c : Counts near far count (pos start) graph) (d : Distinct before) (inside : (e : Edge) → e ∈ before → e ∈ graph)
      {counts : List ℕ} (s : Swept before counts)
    where
      -- a node that only edges before are near has its count
      pub swept_whole : (v : ℕ) → v < n → ((f : Edge) → f ∈ graph → near f ≡ pos v → f ∈ before) → get_or counts v 0 ≡ stopped (count (pos v))
      swept_whole v h k = s.each v h ∙ ap stopped (so_far_all near far count (pos start) c d inside (pos v) k)

      module _ {e : Edge} (a b : ℕ) (own : e ∈ graph) (p : pos a ≡ near e) (q : pos b ≡ far e) (h : a < n) (k : b < n)
          (arranged : (f : Edge) → f ∈ graph → near f ≡ far e → f ∈ before)
        where
          -- one edge more: the count of its far end is complete, and is added at its near end
          pub swept_next : Swept (e ∷ before) (set counts a (stopped (get_or counts a 0 + get_or counts b 0)))
          swept_next = record { size = omega (arith, s.size, length-set counts a sum); each = λ v j. at v j (eqb v a) (eq? v a) }
            where
              sum : ℕ
              sum = stopped (get_or counts a 0 + get_or counts b 0)

              part : ℕ → ℕ
              part v = so_far near far count (pos start) before (pos v)

              complete : part b ≡ count (far e)
              complete = so_far_all near far count (pos start) c d inside (pos b) (λ f m r. arranged f m (r ∙ q)) ∙ ap count q

              added : so_far near far count (pos start) (e ∷ before) (pos a) ≡ part a + part b
              added =
                  ap (so_far near far count (pos start) (e ∷ before)) p
                  ∙ so_far_more near far count (pos start) before e (c.bare e own)
                  ∙ ap (λ w. so_far near far count (pos start) before w + count (far e)) (sym p)
                  ∙ ap (λ w. part a + w) (sym complete)

              at : (v : ℕ) → v < n → (t : Bool) → Test (v ≡ a) (v ≢ a) t
                  → get_or (set counts a sum) v 0 ≡ stopped (so_far near far count (pos start) (e ∷ before) (pos v))
              at v j true (passed r) =
                  rw r (get_or-set_same counts a sum 0 (omega (arith, s.size))
                  ∙ ap (λ w. stopped (w + get_or counts b 0)) (s.each a h)
                  ∙ ap (λ w. stopped (stopped (part a) + w)) (s.each b k)
                  ∙ stopped_sum (part a) (part b)
                  ∙ ap stopped (sym added))
              at v j false (failed r) =
                  get_or-set_other counts a v sum 0 r ∙ s.each v j
                  ∙ ap stopped (sym (so_far_other near far count (pos start) before e (pos v) (λ z. let y : pos a ≡ pos v = p ∙ z in r (omega (arith, ints, y)))))
