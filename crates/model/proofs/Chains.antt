-- Chains and cycles as computed, against the propositions: the edges that begin a way of so many edges, the test for a way of more than
-- 64 edges, and the test for a cycle.
use mathlib.Core.Path.{◌≡◌, refl, sym, ap, subst}
use mathlib.Core.Bool.{Bool, true, false, not, cond}
use mathlib.Core.List.Memᴰ
use mathlib.Core.List.{List, [], ◌∷◌, ◌++◌, map}
use mathlib.Core.Logic.{◌≢◌, ◌↔◌, ◌⊎◌, inl, inr, ⊎_elim}
use Prim.Native.Nat.{ℕ, zero, suc, ◌≤◌, ◌<◌}
use native.Mathlib.Omega.{arith}
use lib.Dec.{T, T_not}
use lib.IntN.{ℤ, pos}
use lib.Signed.{le_z, ◌≤ℤ◌, ◌<ℤ◌}
use lib.ListN.{length, take, length-append}
use Rattle.integers.specs.Integers.{eq_z}
use Rattle.integers.proofs.Linear.{ints}
use Rattle.integers.proofs.Tests.{Test, passed, failed, le?, test?, eq_z→eq, eq_z_refl}
use Rattle.lists.specs.Lists.{◌∈◌, any, is_nil, Distinct, none, more}
use Rattle.lists.proofs.Membership.{keep_in, keep_out, any_in, any_out, map_in, map_out, is_nil_no, is_nil_head, cond_out}
use Rattle.model.specs.Limits.{max_chain}
use Rattle.model.specs.Rows.{Edge}
use Rattle.model.specs.Graph.{Graph, NodeRow}
use Rattle.model.specs.Paths.{Way, stay, over, Cycle, LongChain}
use Rattle.model.specs.Checks.{each, ending_at, followed, begins, cyclic, deep}
use Rattle.lists.proofs.Decisions.{test_map, decides_as}
use Rattle.lists.proofs.Distinct.{distinct_length}

-- ---- each number once

-- a number that some number of the list equals is in the list
pub any-number : (x : ℤ) (l : List ℤ) → T (any (eq_z x) l) → x ∈ l
any-number x l t = let w = any_out (eq_z x) l t in Memᴰ.cast (eq_z→eq x w.0 w.2) w.1

-- a number of the list is equal to some number of it
pub number-any : {x : ℤ} {l : List ℤ} → x ∈ l → T (any (eq_z x) l)
number-any {x} m = any_in (eq_z x) m (eq_z_refl x)

-- each number of the list is kept
pub each_in : {x : ℤ} {l : List ℤ} → x ∈ l → x ∈ each l
unfolding each
each_in {x} (Memᴰ.head {x = y} {xs = t} e) = go (any (eq_z y) (each t)) (test? (any (eq_z y) (each t)))
  where
    go : (b : Bool) → Test (T (any (eq_z y) (each t))) (T (not (any (eq_z y) (each t)))) b → x ∈ cond b (each t) (y ∷ each t)
    go true (passed p) = Memᴰ.cast e (any-number y (each t) p)
    go false (failed p) = Memᴰ.head e
each_in {x} (Memᴰ.tail {x = y} {xs = t} m) = go (any (eq_z y) (each t)) (each_in m)
  where
    go : (b : Bool) → x ∈ each t → x ∈ cond b (each t) (y ∷ each t)
    go true k = k
    go false k = Memᴰ.tail k

-- and no other number
pub each_out : {x : ℤ} (l : List ℤ) → x ∈ each l → x ∈ l
unfolding each
each_out [] m = m
each_out (y ∷ t) m =
    ⊎_elim (λ c. Memᴰ.tail (each_out t c.1))
    (λ c. ⊎_elim (λ q. Memᴰ.head q) (λ k. Memᴰ.tail (each_out t k)) (Memᴰ.cases_cons c.1))
    (cond_out (any (eq_z y) (each t)) (test? (any (eq_z y) (each t))) m)

-- ---- the edges that an edge follows

-- an edge of the list that starts where e ends follows e
pub followed_in : {es : List Edge} {e f : Edge} → e ∈ es → f ∈ es → f.from ≡ e.to → e ∈ followed es
unfolding followed ending_at
followed_in {es} {e} {f} m n q =
    keep_in (λ d. any (eq_z d.to) (each (map (λ c. c.from) es))) (number-any (Memᴰ.cast (sym q) (each_in (map_in (λ c. c.from) n)))) m

-- an edge that is followed is of the list, and so is an edge that starts where it ends
pub followed_out : {e : Edge} (es : List Edge) → e ∈ followed es → (e ∈ es) × ((f : Edge) × (f ∈ es) × (f.from ≡ e.to))
unfolding followed ending_at
followed_out {e} es m =
    let starts = map (λ (c : Edge). c.from) es in
    let p = keep_out (λ d. any (eq_z d.to) (each starts)) es m in
    let w = map_out (λ (c : Edge). c.from) es (each_out starts (any-number e.to (each starts) p.1)) in
    (p.0, (w.0, w.1, sym w.2))

-- ---- chains of edges of a list

-- a chain of k + 1 edges of es that begins with e
pub data Chain (es : List Edge) : Edge → ℕ → Type 0 where
  one : {e : Edge} → e ∈ es → Chain es e zero
  link : {e f : Edge} {k : ℕ} → e ∈ es → f.from ≡ e.to → Chain es f k → Chain es e (suc k)

-- a chain begins with an edge of the list
pub chain_first : {es : List Edge} {e : Edge} {k : ℕ} → Chain es e k → e ∈ es
chain_first (one m) = m
chain_first (link m q c) = m

-- without its last edge a chain has edges that are followed
chain_shorter : {es : List Edge} {e : Edge} (k : ℕ) → Chain es e (suc k) → Chain (followed es) e k
chain_shorter zero (link m q c) = one (followed_in m (chain_first c) q)
chain_shorter (suc k) (link m q c) = link (followed_in m (chain_first c) q) q (chain_shorter k c)

-- after the last of a chain of edges that are followed there is an edge more
chain_longer : {es : List Edge} {e : Edge} {k : ℕ} → Chain (followed es) e k → Chain es e (suc k)
chain_longer {es} (one m) = let p = followed_out es m in link p.0 p.1.2 (one p.1.1)
chain_longer {es} (link m q c) = link (followed_out es m).0 q (chain_longer c)

chain-begins : (k : ℕ) (es : List Edge) {e : Edge} → Chain es e k → e ∈ begins k es
unfolding begins
chain-begins zero es c = chain_first c
chain-begins (suc k) [] c = chain_first c
chain-begins (suc k) (d ∷ t) c = chain-begins k (followed (d ∷ t)) (chain_shorter k c)

begins-chain : (k : ℕ) (es : List Edge) {e : Edge} → e ∈ begins k es → Chain es e k
unfolding begins
begins-chain zero es m = one m
begins-chain (suc k) [] m = absurd (Memᴰ.not-nil m)
begins-chain (suc k) (d ∷ t) m = chain_longer (begins-chain k (followed (d ∷ t)) m)

-- ---- ways

-- e begins a way of k + 1 edges: e, then as many as k
pub record BeginsWay (g : Graph) (e : Edge) (k : ℕ) : Type 0 where
  pub rest : List Edge
  pub to : ℤ
  pub count : length rest ≡ k
  pub way : Way g e.from (e ∷ rest) to

chain-way : {g : Graph} {e : Edge} {k : ℕ} → Chain g.edges e k → BeginsWay g e k
chain-way {e = e} (one m) = record { rest = []; to = e.to; count = refl; way = over e m refl stay }
chain-way {g} {e = e} (link {f = f} m q c) =
    let b = chain-way c in
    record {
      rest = f ∷ b.rest;
      to = b.to;
      count = ap suc b.count;
      way = over e m refl (subst (λ (v : ℤ). Way g v (f ∷ b.rest) b.to) q b.way);
    }

-- e and the first k edges of a way from where e ends are a chain
way-chain : {g : Graph} {w : ℤ} {p : List Edge} (e : Edge) → e ∈ g.edges → Way g e.to p w → (k : ℕ) → k ≤ length p → Chain g.edges e k
way-chain e m y zero h = one m
way-chain e m stay (suc k) h = absurd (omega arith)
way-chain e m (over f n q y) (suc k) h = link m q (way-chain f n y k (omega arith))

-- the first edge of a way of more than k edges is listed as one that begins a chain of k + 1
pub way-begins : {g : Graph} {v w : ℤ} {e : Edge} {p : List Edge} → Way g v (e ∷ p) w → (k : ℕ) → k ≤ length p → e ∈ begins k g.edges
way-begins {g} (over e m q y) k h = chain-begins k g.edges (way-chain e m y k h)

-- the edges listed as those that begin a chain of k + 1 edges are exactly those that begin a way of k + 1 edges
pub begins-way : (k : ℕ) (g : Graph) (e : Edge) → (e ∈ begins k g.edges) ↔ BeginsWay g e k
begins-way k g e = (λ m. chain-way (begins-chain k g.edges m), λ b. way-begins b.way k (omega (arith, b.count)))

-- the first k edges of a way are a way
pub way_take : {g : Graph} {v w : ℤ} {p : List Edge} → Way g v p w → (k : ℕ) → k ≤ length p
    → (u : ℤ) × Way g v (take k p) u × (length (take k p) ≡ k)
way_take {v} y zero h = (v, stay, refl)
way_take stay (suc k) h = absurd (omega arith)
way_take (over e m q y) (suc k) h = let r = way_take y k (omega arith) in (r.0, over e m q r.1, ap suc r.2)

-- two ways, one after the other
pub way_append : {g : Graph} {u v w : ℤ} {p q : List Edge} → Way g u p v → Way g v q w → Way g u (p ++ q) w
way_append stay z = z
way_append (over e m q y) z = over e m q (way_append y z)

-- ---- ways of more than k edges

-- some way has more than k edges
pub record Longer (g : Graph) (k : ℕ) : Type 0 where
  pub from : ℤ
  pub to : ℤ
  pub edges : List Edge
  pub long : k < length edges
  pub chain : Way g from edges to

begins_longer : (k : ℕ) (g : Graph) {e : Edge} → BeginsWay g e k → Longer g k
begins_longer k g {e} b = record { from = e.from; to = b.to; edges = e ∷ b.rest; long = omega (arith, b.count); chain = b.way }

longer_begins : {k : ℕ} {g : Graph} {v w : ℤ} {p : List Edge} → Way g v p w → k < length p → T (not (is_nil (begins k g.edges)))
longer_begins stay h = absurd (omega arith)
longer_begins {k} {g} (over e m q y) h = is_nil_no (begins k g.edges) (way-begins (over e m q y) k (omega arith))

-- some edge is listed as one that begins a chain of k + 1 exactly where some way has more than k edges
pub longer? : (k : ℕ) (g : Graph) → Test (Longer g k) (Longer g k → ⊥) (not (is_nil (begins k g.edges)))
longer? k g =
    let found = begins k g.edges in
    test_map (λ h. let w = is_nil_head found h in begins_longer k g ((begins-way k g w.0).0 w.1))
    (λ h c. T_not (not (is_nil found)) h (longer_begins c.chain c.long))
    (test? (not (is_nil found)))

-- ---- a chain of more than 64 edges

-- the test for a chain of more than 64 edges passes exactly where there is one
pub deep? : (g : Graph) → Test (LongChain g) (LongChain g → ⊥) (deep g)
unfolding deep
deep? g =
    let same : Longer g max_chain ↔ LongChain g = (
      λ c. record { from = c.from; to = c.to; edges = c.edges; long = c.long; chain = c.chain },
      λ c. record { from = c.from; to = c.to; edges = c.edges; long = c.long; chain = c.chain },
    ) in decides_as same (longer? max_chain g)

-- ---- more numbers than there are rows

-- some element stands twice
pub data Repeats {A : Type 0} : List A → Type 0 where
  here : {x : A} {l : List A} → x ∈ l → Repeats (x ∷ l)
  there : {x : A} {l : List A} → Repeats l → Repeats (x ∷ l)

-- no number of the list stands twice, or some does
pub distinct? : (l : List ℤ) → Distinct l ⊎ Repeats l
distinct? [] = inl none
distinct? (x ∷ l) = ⊎_elim (λ d. go (any (eq_z x) l) (test? (any (eq_z x) l)) d) (λ r. inr (there r)) (distinct? l)
  where
    go : (t : Bool) → Test (T (any (eq_z x) l)) (T (not (any (eq_z x) l))) t → Distinct l → Distinct (x ∷ l) ⊎ Repeats (x ∷ l)
    go true (passed h) d = inr (here (any-number x l h))
    go false (failed h) d = inl (more (λ m. T_not (any (eq_z x) l) h (number-any m)) d)

-- the numbers 0 .. n − 1
below : ℕ → List ℤ
below zero = []
below (suc n) = pos n ∷ below n

below_length : (n : ℕ) → length (below n) ≡ n
unfolding below
below_length zero = refl
below_length (suc n) = ap suc (below_length n)

below_in : (n : ℕ) (z : ℤ) → pos 0 ≤ℤ z → z <ℤ pos n → z ∈ below n
unfolding below
below_in zero z low high = absurd (omega (arith, ints))
below_in (suc n) z low high = go (le_z (pos n) z) (le? (pos n) z) (below_in n z low)
  where
    go : (t : Bool) → Test (pos n ≤ℤ z) (z <ℤ pos n) t → (z <ℤ pos n → z ∈ below n) → z ∈ (pos n ∷ below n)
    go true (passed h) rec = Memᴰ.head {x = pos n} (omega (arith, ints))
    go false (failed h) rec = Memᴰ.tail (rec h)

-- a list of more than n numbers, each of them in 0 .. n − 1, has one twice
pub pigeonhole : (n : ℕ) (l : List ℤ) → ((z : ℤ) → z ∈ l → (pos 0 ≤ℤ z) × (z <ℤ pos n)) → n < length l → Repeats l
pigeonhole n l rows long = ⊎_elim (λ d. absurd (crowded d)) (λ r. r) (distinct? l)
  where
    crowded : Distinct l → ⊥
    crowded d =
        let k = distinct_length d (below n) (λ z m. below_in n z (rows z m).0 (rows z m).1) in
        omega (arith, k, below_length n)

-- ---- cycles

-- the nodes that a way from v comes to, v the first of them
visited : ℤ → List Edge → List ℤ
visited v [] = v ∷ []
visited v (e ∷ p) = v ∷ visited e.to p

visited_length : (v : ℤ) (p : List Edge) → length (visited v p) ≡ suc (length p)
unfolding visited
visited_length v [] = refl
visited_length v (e ∷ p) = ap suc (visited_length e.to p)

-- a node that a way comes to, a way from the same start leads to
visited_way : {g : Graph} {v w x : ℤ} {p : List Edge} → Way g v p w → x ∈ visited v p → (q : List Edge) × Way g v q x
unfolding visited
visited_way {g} {v} stay m = ([], subst (λ (z : ℤ). Way g v [] z) (sym (Memᴰ.eq_of_singleton m)) stay)
visited_way {g} {v} (over e m q y) n =
    ⊎_elim (λ h. ([], subst (λ (z : ℤ). Way g v [] z) (sym h) stay)) (λ k. let r = visited_way y k in (e ∷ r.0, over e m q r.1))
    (Memᴰ.cases_cons n)

-- a way that comes to a node twice goes round a cycle
repeats_cycle : {g : Graph} {v w : ℤ} {p : List Edge} → Way g v p w → Repeats (visited v p) → Cycle g
unfolding visited
repeats_cycle stay (here m) = absurd (Memᴰ.not-nil m)
repeats_cycle stay (there r) = elim r [ ]
repeats_cycle {v} (over e m q y) (here n) =
    let r = visited_way y n in record { at = v; edges = e ∷ r.0; some = λ h. omega (arith, ap length h); closed = over e m q r.1 }
repeats_cycle (over e m q y) (there r) = repeats_cycle y r

some_length : (p : List Edge) → p ≢ [] → 1 ≤ length p
some_length [] h = absurd (h refl)
some_length (e ∷ p) h = omega arith

-- round a cycle n times: a way of n edges at least
rounds : {g : Graph} (c : Cycle g) (n : ℕ) → (p : List Edge) × Way g c.at p c.at × (n ≤ length p)
rounds c zero = ([], stay, omega arith)
rounds c (suc n) =
    let r = rounds c n in
    (c.edges ++ r.0, way_append c.closed r.1, omega (arith, r.2, some_length c.edges c.some, length-append c.edges r.0))

-- a cycle gives ways of any length
pub cycle_longer : {g : Graph} → Cycle g → (k : ℕ) → Longer g k
cycle_longer c k = let r = rounds c (suc k) in record { from = c.at; to = c.at; edges = r.0; long = r.2; chain = r.1 }

-- the ends of every edge are node rows
module _ (g : Graph) (rows : (e : Edge) → e ∈ g.edges → NodeRow g e.from × NodeRow g e.to) where
  -- a way from a node row comes to node rows alone
  visited_rows : {v w z : ℤ} {p : List Edge} → NodeRow g v → Way g v p w → z ∈ visited v p → NodeRow g z
  unfolding visited
  visited_rows h stay m = subst (λ (u : ℤ). NodeRow g u) (sym (Memᴰ.eq_of_singleton m)) h
  visited_rows h (over e m q y) n =
      ⊎_elim (λ k. subst (λ (u : ℤ). NodeRow g u) (sym k) h) (λ k. visited_rows (rows e m).1 y k) (Memᴰ.cases_cons n)

  -- a way of more edges than there are nodes goes round a cycle
  pub longer_cycle : {v w : ℤ} {p : List Edge} → Way g v p w → length g.nodes < length p → Cycle g
  longer_cycle stay h = absurd (omega arith)
  longer_cycle {v} {p = d ∷ p} (over e m q y) h =
      let first = subst (λ (u : ℤ). NodeRow g u) q (rows e m).0 in
      repeats_cycle (over e m q y)
      (pigeonhole (length g.nodes) (visited v (e ∷ p)) (λ z n. let r = visited_rows first (over e m q y) n in (r.low, r.high))
      (omega (arith, visited_length v (e ∷ p))))

  -- The test for a cycle passes exactly where there is one. A way of more edges than there are nodes comes to one of them twice, and
  -- its part between the two is a cycle. Going round a cycle often enough is a way of more edges than there are nodes.
  pub cyclic? : Test (Cycle g) (Cycle g → ⊥) (cyclic g)
  unfolding cyclic
  cyclic? = decides_as (λ c. longer_cycle c.chain c.long, λ c. cycle_longer c (length g.nodes)) (longer? (length g.nodes) g)
