-- The runs of the paths hold exactly what single walks reach, and a recursive account of the runs.
use mathlib.Core.Path.{◌≡◌, refl, sym, ap, ◌∙◌, subst, fun_ext}
use mathlib.Core.Bool.{Bool, true, false, not, cond}
use mathlib.Core.List.{List, [], ◌∷◌, map, map-map, flat_map}
use mathlib.Core.Logic.{◌↔◌}
use Prim.Native.Nat.{ℕ, zero, suc, ◌≤◌}
use native.Mathlib.Omega.{arith}
use lib.Dec.{T, not_T, T_not}
use lib.IntN.{ℤ, ◌+ℤ◌, ◌-ℤ◌, +ℤ-neg_ℤ_cancel, -ℤ-+ℤ_cancel}
use lib.Signed.{◌≤ℤ◌}
use lib.ListN.{length, length-map}
use Rattle.integers.specs.Integers.{eq_z}
use Rattle.integers.proofs.Linear.{ints, sum, diff}
use Rattle.integers.proofs.Tests.{Test, passed, failed, test?, is_true}
use Rattle.lists.specs.Lists.{◌∈◌, keep}
use Rattle.lists.proofs.Membership.{keep_in, keep_out, keep_nil, map_in, map_out}
use Rattle.model.specs.declared.WalkKind.{WalkKind}
use Rattle.model.specs.declared.WalkKind.TheVariants.{Reading, Writing}
use Rattle.model.specs.Limits.{max_chain}
use Rattle.model.specs.Rows.{Edge}
use Rattle.model.specs.Graph.{Graph, node, read_write, first_bit, bit_offset}
use Rattle.model.specs.Walk.{Open, StandsOn, Walk, stand, step, Reached}
use Rattle.model.specs.Paths.{Way, stay, over, LongChain}
use Rattle.model.specs.Bitmapping.{Record, Has}
use Rattle.model.specs.Runs.{Run, InRun, Joins, empty, whole, across, along, leaving, paths_within, paths, runs, record_of}
use Rattle.model.specs.Taken.{AllOpen}
use Rattle.lists.proofs.Kept.{keep_length, keep_flat_map}
use Rattle.model.proofs.Steps.{empty-none, empty_not, stands_between, whole-joins, across-bits, across-joins, along-empty, record_joins}
use Rattle.model.proofs.Paths.{Fit, onward, paths-sound, paths-complete, way-short}

-- ---- the walk along a path

-- Along g v p a b: bit address a at node v becomes b over the edges p, and a walk may stand on every node on the way
pub data Along (kind : WalkKind) (g : Graph) : ℤ → List Edge → ℤ → ℤ → Type 0 where
  halt : {v a : ℤ} → StandsOn kind (node g v) a → Along kind g v [] a a
  pass : {v a b : ℤ} {p : List Edge} (e : Edge) → StandsOn kind (node g v) a → Along kind g e.to p (a -ℤ bit_offset g e) b → Along kind g v (e ∷ p) a b

-- the path that a walk takes
pub record Route (kind : WalkKind) (g : Graph) (v a w b : ℤ) : Type 0 where
  pub path : List Edge
  pub way : Way g v path w
  pub along : Along kind g v path a b

-- a walk goes along some path
pub walk_route : {kind : WalkKind} {g : Graph} {v a w b : ℤ} → Walk kind g v a w b → Route kind g v a w b
walk_route (stand h) = record { path = []; way = stay; along = halt h }
walk_route (step e m q h w) =
    let t = walk_route w in
    record { path = e ∷ t.path; way = over e m q t.way; along = pass e h t.along }

-- and what goes along a path is a walk
pub route_walk : {kind : WalkKind} {g : Graph} {v a w b : ℤ} {p : List Edge} → Way g v p w → Along kind g v p a b → Walk kind g v a w b
route_walk stay (halt h) = stand h
route_walk (over e m q w) (pass d h t) = step e m q h (route_walk w t)

-- without a long chain a walk goes over at most 64 edges
pub walk-short : {kind : WalkKind} {g : Graph} {v a w b : ℤ} → (LongChain g → ⊥) → (x : Walk kind g v a w b) → length (walk_route x).path ≤ max_chain
walk-short short x = way-short short (walk_route x).way

-- where a walk starts, it stands
pub walk_start : {kind : WalkKind} {g : Graph} {v a w b : ℤ} → Walk kind g v a w b → StandsOn kind (node g v) a
walk_start (stand h) = h
walk_start (step e m q h w) = h

-- where a walk ends, it stands
pub walk_end : {kind : WalkKind} {g : Graph} {v a w b : ℤ} → Walk kind g v a w b → StandsOn kind (node g w) b
walk_end (stand h) = h
walk_end (step e m q h w) = walk_end w

-- ---- where every node may be read and written

-- a node that may be read and written is open to both kinds
pub access_open : (kind : WalkKind) {a : ℤ} → a ≡ read_write → Open kind a
access_open Reading e = λ k. omega (arith, ints)
access_open Writing e = λ k. omega (arith, ints)

-- there a walk of one kind is one of the other too
pub walk_any : {kind : WalkKind} (other : WalkKind) {g : Graph} {v a w b : ℤ} → AllOpen g → Walk kind g v a w b → Walk other g v a w b
walk_any other {v} all (stand h) = stand (record { access = access_open other (all v); above = h.above; below = h.below })
walk_any other {v} all (step e m q h w) = step e m q (record { access = access_open other (all v); above = h.above; below = h.below }) (walk_any other all w)

-- and what is reached by one kind is reached by the other
pub reached-any : {kind : WalkKind} (other : WalkKind) {g : Graph} {r l x y : ℤ} → AllOpen g → Reached kind g r l x y → Reached other g r l x y
reached-any other all h = record { arrival = h.arrival; walk = walk_any other all h.walk; leaf_bit = h.leaf_bit }

-- ---- the run of a path

along-start : {kind : WalkKind} {g : Graph} {v a b : ℤ} {p : List Edge} → Along kind g v p a b → StandsOn kind (node g v) a
along-start (halt h) = h
along-start (pass e h t) = h

along-none : {kind : WalkKind} {g : Graph} {v a b : ℤ} → Along kind g v [] a b → a ≡ b
along-none (halt h) = refl

along-rest : {kind : WalkKind} {g : Graph} {v a b : ℤ} {e : Edge} {p : List Edge} → Along kind g v (e ∷ p) a b → Along kind g e.to p (a -ℤ bit_offset g e) b
along-rest (pass e h t) = t

-- a run along a path joins root bit x to b exactly where the run at the start joins x to some address that walks along the path to b.
-- Edge by edge: over the first edge, what the run joins to c after it, it joined to c + bit offset before, and a walk may stand on both
-- (across-joins); the rest of the path is the law again, from the node entered
pub along-joins : {kind : WalkKind} (g : Graph) (v : ℤ) (p : List Edge) (r : Run) → ((a : ℤ) → InRun r a → StandsOn kind (node g v) a) → (x b : ℤ)
    → Joins (along kind g p r) x b ↔ ((a : ℤ) × Joins r x a × Along kind g v p a b)
unfolding along
along-joins g v [] r stands x b =
    (λ j. (b, j, halt (stands b j.inside)), λ w. subst (λ (a : ℤ). Joins r x a) (along-none w.2) w.1)
along-joins {kind} g v (e ∷ p) r stands x b = both (along-joins g e.to p (across kind g e r) (λ a i. ((across-bits g e r a).0 i).1) x b)
  where
    Here : Type 0
    Here = (a : ℤ) × Joins r x a × Along kind g v (e ∷ p) a b

    There : Type 0
    There = (c : ℤ) × Joins (across kind g e r) x c × Along kind g e.to p c b

    o : ℤ
    o = bit_offset g e

    backward : There → Here
    backward w =
        let a = w.0 +ℤ o in
        let j = (across-joins g e r x w.0).0 w.1 in
        (a, j.0, pass e (stands a j.0.inside) (subst (λ (c : ℤ). Along kind g e.to p c b) (sym (+ℤ-neg_ℤ_cancel w.0 o)) w.2))

    forward : Here → There
    forward w =
        let c = w.0 -ℤ o in
        let t = along-rest w.2 in
        (c, (across-joins g e r x c).1 (subst (λ (a : ℤ). Joins r x a) (sym (-ℤ-+ℤ_cancel w.0 o)) w.1, along-start t), t)

    both : Joins (along kind g p (across kind g e r)) x b ↔ There → Joins (along kind g p (across kind g e r)) x b ↔ Here
    both rec = (λ j. backward (rec.0 j), λ w. rec.1 (forward w))

-- ---- the runs of the paths, against the reached set

-- a run among the runs is the run of a path, and has a bit
pub runs_out : (kind : WalkKind) (g : Graph) (r l : ℤ) {s : Run} → s ∈ runs kind g r l
    → (p : List Edge) × (p ∈ paths g r l) × (s ≡ along kind g p (whole kind (node g r))) × T (not (empty s))
unfolding runs
runs_out kind g r l m =
    let k = keep_out (λ s. not (empty s)) (map (λ p. along kind g p (whole kind (node g r))) (paths g r l)) m in
    let w = map_out (λ p. along kind g p (whole kind (node g r))) (paths g r l) k.0 in
    (w.0, w.1, w.2, k.1)

-- the run of a path that has a bit is among the runs
pub runs_in : (kind : WalkKind) (g : Graph) (r l : ℤ) {p : List Edge} → p ∈ paths g r l → T (not (empty (along kind g p (whole kind (node g r)))))
    → along kind g p (whole kind (node g r)) ∈ runs kind g r l
unfolding runs
runs_in kind g r l m t = keep_in (λ s. not (empty s)) t (map_in (λ p. along kind g p (whole kind (node g r))) m)

whole-stands : {kind : WalkKind} (g : Graph) (v a : ℤ) → InRun (whole kind (node g v)) a → StandsOn kind (node g v) a
unfolding whole
whole-stands {kind} g v a i = (stands_between kind (node g v) a).1 (record { above = i.above; below = i.below })

-- what a record of the runs has is reached
pub runs-sound : {kind : WalkKind} (g : Graph) (r l x y : ℤ) (s : Record) → s ∈ map (record_of (node g l)) (runs kind g r l) → Has s x y → Reached kind g r l x y
runs-sound {kind} g r l x y s m h =
    let first = first_bit (node g l) in
    let u = map_out (record_of (node g l)) (runs kind g r l) m in
    let p = runs_out kind g r l u.1 in
    let j = (record_joins (node g l) u.0 x y).0 (subst (λ (t : Record). Has t x y) u.2 h) in
    let i = subst (λ (t : Run). Joins t x (y +ℤ first)) p.2 j in
    let w = (along-joins g r p.0 (whole kind (node g r)) (whole-stands g r) x (y +ℤ first)).0 i in
    let q = ((whole-joins (node g r) x w.0).0 w.1).0 in
    record {
      arrival = y +ℤ first;
      walk = route_walk (paths-sound p.1) (subst (λ (a : ℤ). Along kind g r p.0 a (y +ℤ first)) (sym q) w.2);
      leaf_bit = sym (+ℤ-neg_ℤ_cancel y first);
    }

-- a leaf bit counts from the first bit of the leaf
pub reached-arrival : {kind : WalkKind} {g : Graph} {r l x y : ℤ} (h : Reached kind g r l x y) → h.arrival ≡ y +ℤ first_bit (node g l)
reached-arrival {g} {l} {y} h = let first = first_bit (node g l) in omega (arith, ints, diff h.arrival first, sum y first)

-- what is reached, a record of the runs has
pub runs-complete : {kind : WalkKind} {g : Graph} {r l x y : ℤ} → Fit g l → Reached kind g r l x y
    → (s : Record) × (s ∈ map (record_of (node g l)) (runs kind g r l)) × Has s x y
runs-complete {kind} {g} {r} {l} {x} {y} f h =
    let t = walk_route h.walk in
    let run = along kind g t.path (whole kind (node g r)) in
    let i = (whole-joins (node g r) x x).1 (refl, walk_start h.walk) in
    let j = (along-joins g r t.path (whole kind (node g r)) (whole-stands g r) x h.arrival).1 (x, i, t.along) in
    let m = runs_in kind g r l (paths-complete f t.way) (not_T (empty run) (λ e. empty-none run h.arrival e j.inside)) in
    (record_of (node g l) run, map_in (record_of (node g l)) m, (record_joins (node g l) run x y).1 (subst (λ (b : ℤ). Joins run x b) (reached-arrival h) j))

-- the reached set of a root and a leaf is what the records of its runs have
pub runs-reached : {kind : WalkKind} {g : Graph} {r l : ℤ} → Fit g l → (x y : ℤ)
    → Reached kind g r l x y ↔ ((s : Record) × (s ∈ map (record_of (node g l)) (runs kind g r l)) × Has s x y)
runs-reached {g} {r} {l} f x y = (runs-complete f, λ w. runs-sound g r l x y w.0 w.1 w.2)

-- no record of the runs is empty
pub runs-full : (kind : WalkKind) (g : Graph) (r l : ℤ) (s : Record) → s ∈ map (record_of (node g l)) (runs kind g r l) → s.first ≤ℤ s.last
unfolding record_of
runs-full kind g r l s m =
    let u = map_out (record_of (node g l)) (runs kind g r l) m in
    let t = u.0 in
    let h = empty_not t (runs_out kind g r l u.1).3 in
    subst (λ (s : Record). s.first ≤ℤ s.last) (sym u.2) (omega (arith, ints, diff t.high t.low, sum t.root (t.high -ℤ t.low)))

-- there are no more runs than paths
pub runs-within-paths : (kind : WalkKind) (g : Graph) (r l : ℤ) → length (runs kind g r l) ≤ length (paths g r l)
unfolding runs
runs-within-paths kind g r l =
    let all = map (λ p. along kind g p (whole kind (node g r))) (paths g r l) in
    omega (arith, keep_length (λ s. not (empty s)) all, length-map (paths g r l) (λ p. along kind g p (whole kind (node g r))))

-- a root bit that reaches stands on the root: from an address outside it there is no walk
pub reached-address : {kind : WalkKind} {g : Graph} {r l x y : ℤ} → Reached kind g r l x y → StandsOn kind (node g r) x
reached-address h = walk_start h.walk

-- ---- the runs, edge by edge

-- the runs along the paths from run r, but for the empty ones
abbrev pub full_runs : WalkKind → Graph → Run → List (List Edge) → List Run
full_runs kind g r ps = keep (λ s. not (empty s)) (map (λ p. along kind g p r) ps)

-- those along all paths over at most k edges from v to l, from run r at v
unfoldable pub runs_from : WalkKind → ℕ → Graph → ℤ → ℤ → Run → List Run
runs_from kind k g v l r = full_runs kind g r (paths_within k g v l)

-- from an empty run there is none
pub runs-empty : (kind : WalkKind) (k : ℕ) (g : Graph) (v l : ℤ) (r : Run) → T (empty r) → runs_from kind k g v l r ≡ []
unfolding runs_from
runs-empty kind k g v l r t =
    keep_nil (λ s. not (empty s)) (map (λ p. along kind g p r) (paths_within k g v l)) (λ s m. not_T (not (empty s)) (λ n. T_not (empty s) n (is-empty s m)))
  where
    is-empty : (s : Run) → s ∈ map (λ p. along kind g p r) (paths_within k g v l) → T (empty s)
    is-empty s m = let w = map_out (λ p. along kind g p r) (paths_within k g v l) m in subst (λ (s : Run). T (empty s)) (sym w.2) (along-empty kind g w.0 r t)

stay_or : (kind : WalkKind) (g : Graph) (r : Run) → T (not (empty r)) → (b : Bool) (ps : List (List Edge))
    → full_runs kind g r (cond b ([] ∷ []) ps) ≡ cond b (r ∷ []) (full_runs kind g r ps)
unfolding keep along
stay_or kind g r t true ps = rw (is_true (not (empty r)) t)
stay_or kind g r t false ps = refl

-- over no edge: the run itself, at the leaf
pub runs-stay : (kind : WalkKind) (g : Graph) (v l : ℤ) (r : Run) → T (not (empty r)) → runs_from kind zero g v l r ≡ cond (eq_z v l) (r ∷ []) []
unfolding runs_from paths_within keep
runs-stay kind g v l r t = stay_or kind g r t (eq_z v l) []

-- over at most one more edge: the run itself at the leaf, elsewhere the runs from each node entered, but for an empty run entering.
-- The paths are those that begin with each edge that leaves v; along such a path the run is the run across the edge, then along the rest;
-- and from an empty run nothing is kept (runs-empty), so leaving it out changes nothing
pub runs-step : (kind : WalkKind) (k : ℕ) (g : Graph) (v l : ℤ) (r : Run) → T (not (empty r))
    → runs_from kind (suc k) g v l r
    ≡ cond (eq_z v l) (r ∷ []) (flat_map (λ e. cond (empty (across kind g e r)) [] (runs_from kind k g e.to l (across kind g e r))) (leaving g v))
unfolding runs_from paths_within along
runs-step kind k g v l r t =
    stay_or kind g r t (eq_z v l) (flat_map (onward k g l) (leaving g v)) ∙ ap {B = List Run} (λ s. cond (eq_z v l) (r ∷ []) s) (each_edge ∙ each_entered)
  where
    unless_empty : (e : Edge) (b : Bool) → Test (T (empty (across kind g e r))) (T (not (empty (across kind g e r)))) b
        → runs_from kind k g e.to l (across kind g e r) ≡ cond b [] (runs_from kind k g e.to l (across kind g e r))
    unless_empty e true (passed h) = runs-empty kind k g e.to l (across kind g e r) h
    unless_empty e false (failed h) = refl

    entered : Edge → List Run
    entered e = cond (empty (across kind g e r)) [] (runs_from kind k g e.to l (across kind g e r))

    over_edge : (e : Edge) → full_runs kind g r (onward k g l e) ≡ entered e
    over_edge e =
        ap (λ (s : List Run). keep (λ s. not (empty s)) s) (map-map (λ p. along kind g p r) (λ p. e ∷ p) (paths_within k g e.to l))
        ∙ unless_empty e (empty (across kind g e r)) (test? (empty (across kind g e r)))

    each_edge : full_runs kind g r (flat_map (onward k g l) (leaving g v)) ≡ flat_map (λ e. full_runs kind g r (onward k g l e)) (leaving g v)
    each_edge = keep_flat_map (λ s. not (empty s)) (λ p. along kind g p r) (onward k g l) (leaving g v)

    each_entered : flat_map (λ e. full_runs kind g r (onward k g l e)) (leaving g v) ≡ flat_map entered (leaving g v)
    each_entered = ap (λ (f : Edge → List Run). flat_map f (leaving g v)) (fun_ext over_edge)
