-- A state with the references of another is swept as far, whichever lists it keeps.
use mathlib.Core.Path.{◌≡◌, sym, ap, ◌∙◌, subst}
use mathlib.Core.Bool.{true}
use mathlib.Core.List.{List, map}
use mathlib.Core.Logic.{◌↔◌}
use Prim.Native.Nat.{ℕ, ◌+◌, ◌≤◌, ◌<◌}
use native.Mathlib.Omega.{arith}
use lib.IntN.{ℤ, pos, nat_abs}
use lib.Signed.{le_z, ◌≤ℤ◌}
use lib.ListN.{length, get_or}
use Rattle.integers.proofs.Linear.{ints}
use Rattle.lists.specs.Lists.{◌∈◌}
use Rattle.model.specs.declared.WalkKind.{WalkKind}
use Rattle.model.specs.Limits.{max_paths}
use Rattle.model.specs.Rows.{Edge, node_rows}
use Rattle.model.specs.Graph.{Graph, graph_of, NodeRow, node, first_bit, last_bit}
use Rattle.model.specs.Walk.{Walk}
use Rattle.model.specs.Paths.{Root, Way}
use Rattle.model.specs.Bitmapping.{Record}
use Rattle.reach.specs.Counting.{path_count}
use Rattle.sorting.specs.Rows.{Ascending}
use Rattle.normalisation.specs.Merging.{by_displacement}
use Rattle.references.specs.References.{Reference, Brings, InOwner, records_at}
use Rattle.arrivals.specs.State.{mark_number, is_met, reference_at, is_listed, list_row, count_of, free_at, arena_row, arena_rows, free_row, root_in, kind_in}
use Rattle.arrivals.specs.Sweep.{HasSome, Came, Listed, RightMark, OpenRoot, Sweeping}

-- ---- node rows

-- a node row of the graph, by its number
pub row_number : (ns es : List ℤ) {v : ℕ} → NodeRow (graph_of ns es) (pos v) → v < length (node_rows ns)
unfolding graph_of
row_number ns es {v} row = omega (arith, ints, row.high)

pub number-row : (ns es : List ℤ) {v : ℕ} → v < length (node_rows ns) → NodeRow (graph_of ns es) (pos v)
unfolding graph_of
number-row ns es {v} h = record { low = omega (arith, ints); high = omega (arith, ints, h) }

-- ---- other lists

-- a list stays that of its node where its row, its number of records and the records stay
pub listed_moved : {kind : WalkKind} {g : Graph} {r : ℤ} {s t : List ℤ} {v : ℕ} → list_row t v ≡ list_row s v → mark_number t v 5 ≡ mark_number s v 5 → free_row s ≤ free_row t
    → records_at t (list_row s v) (count_of s v) ≡ records_at s (list_row s v) (count_of s v) → Listed kind g r s v → Listed kind g r t v
listed_moved {kind} {g} {r} {s} {t} {v} row number more same h =
    record {
      counted = subst (λ (z : ℤ). pos (nat_abs z) ≡ z) (sym number) h.counted;
      behind = omega (arith, row, h.behind);
      within = omega (arith, row, count, more, h.within);
      exact = λ x b. subst (λ (l : List Record). HasSome l x b ↔ Walk kind g r x (pos v) b) (sym records) (h.exact x b);
      full = λ q k. h.full q (subst (λ (l : List Record). q ∈ l) records k);
      few = omega (arith, count, h.few);
      ascending = subst (λ (l : List Record). Ascending (map by_displacement l)) (sym records) h.ascending;
    }
  where
    count : count_of t v ≡ count_of s v
    count = ap nat_abs number

    records : records_at t (list_row t v) (count_of t v) ≡ records_at s (list_row s v) (count_of s v)
    records = ap (λ p. records_at t p (count_of t v)) row ∙ ap (λ c. records_at t (list_row s v) c) count ∙ same

-- a state with the length, the root, the kind of walk and the references of another, whose lists are right
pub record Relisted (ns es : List ℤ) (s t : List ℤ) : Type 0 where
  pub long : length t ≡ length s
  pub root : root_in t ≡ root_in s
  pub kind : kind_in t ≡ kind_in s
  pub references : (v : ℕ) → v < length (node_rows ns) → reference_at t v ≡ reference_at s v
  pub free_number : pos (free_row t) ≡ get_or t free_at (pos 0)
  pub free_low : arena_row ≤ free_row t
  pub free_high : free_row t ≤ arena_row + arena_rows
  pub root_listed : OpenRoot ns es s → (r : ℕ) → pos r ≡ root_in s → is_listed t r ≡ true
  pub listed : (v : ℕ) → v < length (node_rows ns) → is_met s v ≡ true → is_listed t v ≡ true → Listed (kind_in s) (graph_of ns es) (root_in s) t v

module _ {ns es s t : List ℤ} (c : Relisted ns es s t) where
  -- the same nodes are marked
  pub relisted_met : (v : ℕ) → v < length (node_rows ns) → is_met t v ≡ is_met s v
  relisted_met v h = ap (λ (f : Reference). le_z (pos 0) f.owner) (c.references v h)

  -- the mark of a node stays right
  relisted_marked : {done : List Edge} (v : ℕ) → v < length (node_rows ns) → RightMark (kind_in s) (graph_of ns es) (root_in s) done s v
      → RightMark (kind_in s) (graph_of ns es) (root_in s) done t v
  relisted_marked {done} v h m =
      let g = graph_of ns es in
      let same : reference_at s v ≡ reference_at t v = sym (c.references v h) in
      let owners : (reference_at t v).owner ≡ (reference_at s v).owner = ap (λ (f : Reference). f.owner) (c.references v h) in
      let met : is_met t v ≡ true → is_met s v ≡ true = λ q. sym (relisted_met v h) ∙ q in
      record {
        unmet = λ q. m.unmet (sym (relisted_met v h) ∙ q);
        access = λ q. m.access (met q);
        in_owner = λ q. subst (λ (f : Reference). InOwner g f) same (m.in_owner (met q));
        inside = λ q.
            subst (λ (f : Reference). (first_bit (node g (pos v)) ≤ℤ f.run.low) × (f.run.high ≤ℤ last_bit (node g (pos v)))) same (m.inside (met q));
        owner = λ q k p.
            let at : pos k ≡ (reference_at s v).owner = p ∙ owners in
            relisted_met k (row_number ns es (subst (NodeRow g) (sym at) (m.in_owner (met q)).row)) ∙ m.owner (met q) k at;
        way = λ q. subst (λ (f : Reference). (p : List Edge) × Way g f.owner p (pos v)) same (m.way (met q));
        itself = λ q p. c.references v h ∙ m.itself (met q) (sym owners ∙ p);
        other = λ q n x b. subst (λ (f : Reference). Came (kind_in s) g (root_in s) done (pos v) x b ↔ Brings (kind_in s) g (root_in s) f x b) same (m.other (met q) (λ p. n (owners ∙ p)) x b);
        listed = λ q. c.listed v h (met q);
      }

  -- the state is swept as far
  pub relisted_sweeping : {plan : List ℕ} {i : ℕ} → Sweeping ns es plan i s → Sweeping ns es plan i t
  relisted_sweeping {plan} {i} w =
      let g = graph_of ns es in
      let root : root_in s ≡ root_in t = sym c.root in
      let start : (r : ℕ) → pos r ≡ root_in t → pos r ≡ root_in s = λ r p. p ∙ c.root in
      let before : OpenRoot ns es t → OpenRoot ns es s = λ o. rw (← c.kind, ← c.root) o in
      let number : (r : ℕ) → pos r ≡ root_in s → r < length (node_rows ns) = λ r p. row_number ns es (subst (NodeRow g) (sym p) w.root.row) in
      record {
        tables = w.tables;
        planned = w.planned;
        room = c.long ∙ w.room;
        free_number = c.free_number;
        free_low = c.free_low;
        free_high = c.free_high;
        root = subst (Root g) root w.root;
        root_met = λ o r p. relisted_met r (number r (start r p)) ∙ w.root_met (before o) r (start r p);
        root_own = λ o r p. ap (λ (f : Reference). f.owner) (c.references r (number r (start r p))) ∙ w.root_own (before o) r (start r p);
        root_listed = λ o r p. c.root_listed (before o) r (start r p);
        few = λ e m. subst (λ (r : ℤ). path_count g r e.to ≤ max_paths) root (w.few e m);
        marks = λ v h. rw (c.kind, c.root) (relisted_marked v h (w.marks v h));
      }
