-- The step of a sweep over one edge of the plan, and its start.
-- An edge of the plan leaves a node all of whose entering edges are passed, so what arrives there is settled: what its mark brings, or nothing where it has
-- none. What comes over the edge is then what that mark brings, carried over the edge. At the node entered, what has come with the edge is what had come
-- before and what comes over the edge: the carried reference alone where nothing had come or the same; where another had, the node is its own owner, of
-- which nothing is to be shown but that it is marked. To a node that is closed to the walks nothing comes, so its mark stays; and no edge enters the root.
use mathlib.Core.Path.{◌≡◌, refl, sym, ap, subst, ◌∙◌}
use mathlib.Core.Bool.{Bool, true, false, not, cond}
use mathlib.Core.List.Memᴰ
use mathlib.Core.List.{List, [], ◌∷◌, ◌++◌, map}
use mathlib.Core.Logic.{◌≢◌, ◌↔◌, ◌⊎◌, inl, inr, ⊎_elim}
use mathlib.Core.Option.{Option, none, some}
use Prim.Native.Nat.{ℕ, ◌+◌, ◌*◌, ◌≤◌, ◌<◌}
use native.Mathlib.Omega.{arith}
use lib.Dec.{T, eqb}
use lib.IntN.{ℤ, pos, nat_abs, ◌+ℤ◌}
use lib.Signed.{le_z, ◌≤ℤ◌}
use lib.ListN.{length, get_or, take, drop, set, length-append, length-drop, length-set, get_or-append}
use lib.Seq.{length-take-le, get_or-take, get_or-set_same, get_or-set_other, drop-set-lt, drop_at}
use Rattle.integers.proofs.Linear.{ints, diff}
use Rattle.integers.proofs.Tests.{Test, passed, failed, eq?, is_true, T_true}
use Rattle.lists.specs.Lists.{◌∈◌}
use Rattle.lists.proofs.Decisions.{Decides, decides_iff}
use Rattle.model.specs.declared.WalkKind.{WalkKind}
use Rattle.model.specs.Limits.{edge_width, max_nodes, max_paths}
use Rattle.model.specs.Rows.{Edge, node_rows}
use Rattle.model.specs.Graph.{Graph, graph_of, NodeRow, node, first_bit, last_bit, bit_offset}
use Rattle.model.specs.Walk.{Open, StandsOn, Walk}
use Rattle.model.specs.Paths.{Root, Way, stay}
use Rattle.model.specs.Bitmapping.{Record, Has}
use Rattle.sorting.specs.declared.Row.{Row}
use Rattle.sorting.specs.Rows.{row_width, numbers_of, Ascending, none, more}
use Rattle.sorting.proofs.Tables.{rows_of_written}
use Rattle.normalisation.specs.Merging.{by_displacement, of_displacement, displaced_of}
use Rattle.tables.specs.Tables.{edge_at}
use Rattle.tables.proofs.Rows.{edges_length}
use Rattle.extents.proofs.Rows.{edge_in}
use Rattle.extents.proofs.Bounds.{offset-small}
use Rattle.runs.specs.Clipping.{SmallRun}
use Rattle.model.proofs.Steps.{open?}
use Rattle.reach.specs.Counting.{path_count}
use Rattle.reach.proofs.Counting.{count-leaf}
use Rattle.entering.proofs.Counts.{count_edge}
use Rattle.entering.proofs.Walks.{walk-root}
use Rattle.entering.proofs.Ways.{way_onward, way_back}
use Rattle.forward.specs.Forward.{planned_count, planned_of}
use Rattle.model.specs.Runs.{is_open}
use Rattle.extents.specs.Extents.{bits_of}
use Rattle.references.specs.References.{Reference, own, Brings, through, is_none, unless_none, InOwner, same_reference, records_at}
use Rattle.references.proofs.Bringing.{bits-joins, through_brings, none_brings, through_lying, through-inside, own_lying, same-reference-is}
use Rattle.arrivals.specs.State.{mark_width, Mark, mark_number, mark_at, set_mark, marked, free_at, root_at, kind_at, arena_row, state_room, is_met, reference_at, list_row, count_of, free_row, root_in, kind_number, kind_of, kind_in, not_listed}
use Rattle.arrivals.specs.Sweep.{done_of, Came, HasSome, Listed, RightMark, OpenRoot, Sweeping, Sweepable}
use Rattle.arrivals.specs.Moves.{Crossable, crossing, meeting, Ownable, ListMade, Blank, root_marked, begun}
use Rattle.arrivals.proofs.Marks.{mark_same, mark_other, mark_behind, mark_length, mark_free, mark_root, mark_kind, kind-number, met-other, reference-other, listed-other, list_row-other, number-other, met-same, reference-same, listed_same}
use Rattle.arrivals.proofs.Agreeing.{row-few, rows_few}
use Rattle.arrivals.proofs.Relisting.{listed_moved}
use Rattle.arrivals.proofs.Settled.{not_both, front_in, next-covered, done_next, settled}

-- ---- what comes over an edge

-- the reference that is brought over an edge, where something has arrived at the node that it leaves
crossing-met : (g : Graph) (e : Edge) (f : Reference) (s : List ℤ) (from : ℕ) → pos from ≡ e.from → is_met s from ≡ true
    → crossing g e f s ≡ unless_none (through (bit_offset g e) f (reference_at s from))
crossing-met g e f s from p m = let q : nat_abs e.from ≡ from = ap nat_abs (sym p) in rw (q, m)

-- the same once that node may have been given a list
pub crossing_stored : {ns es : List ℤ} {plan : List ℕ} {old new : List ℤ} {from : ℕ} (g : Graph) (e : Edge) (f : Reference) → pos from ≡ e.from → is_met old from ≡ true
    → ListMade ns es plan from old new → crossing g e f new ≡ crossing g e f old
crossing_stored {old = old} {new} {from} g e f p m made =
    crossing-met g e f new from p made.met
    ∙ ap (λ (r : Reference). unless_none (through (bit_offset g e) f r)) made.reference
    ∙ sym (crossing-met g e f old from p m)

-- none where it has no bit address
unless-none : (f : Reference) → unless_none f ≡ none → T (is_none f)
unless-none f e = go (is_none f) e
  where
    go : (t : Bool) → cond t none (some f) ≡ none → T t
    go true q = tt
    go false q = let z : ◌≡◌ {A = ℕ} 0 1 = cc in absurd (omega arith)

-- else itself
unless_some : (f h : Reference) → unless_none f ≡ some h → (h ≡ f) × T (not (is_none f))
unless_some f h e = go (is_none f) e
  where
    go : (t : Bool) → cond t none (some f) ≡ some h → (h ≡ f) × T (not t)
    go true q = let z : ◌≡◌ {A = ℕ} 0 1 = cc in absurd (omega arith)
    go false q = let z : h ≡ f = cc in (z, tt)

-- of what arrives, by u, at the node that an edge leaves: what comes over the edge
abbrev carried : Graph → Edge → Reference → Reference
carried g e u = through (bit_offset g e) (own g e.to) u

-- by a walk of this kind root bit x comes over edge e, with bit address b of the node that it enters
record ComesOver (kind : WalkKind) (g : Graph) (r : ℤ) (e : Edge) (x b : ℤ) : Type 0 where
  stands : StandsOn kind (node g e.to) b
  walk : Walk kind g r x e.from (b +ℤ bit_offset g e)

-- ---- marks that stay

-- the bit addresses of f are some of v's
abbrev Inside : Graph → ℤ → Reference → Type 0
Inside g v f = (first_bit (node g v) ≤ℤ f.run.low) × (f.run.high ≤ℤ last_bit (node g v))

-- so are all bit addresses of v
own-inside : (g : Graph) (v : ℤ) → Inside g v (own g v)
unfolding bits_of
own-inside g v = omega (arith, ints)

-- and those that come over an edge to the node that it enters
carried_inside : (g : Graph) (e : Edge) (u : Reference) → Inside g e.to (carried g e u)
carried_inside g e u =
    let all = own-inside g e.to in
    let part = through-inside (bit_offset g e) (own g e.to) u in
    (omega (arith, ints, all.0, part.0), omega (arith, ints, all.1, part.1))

-- a mark says the same after further edges, where nothing comes over them to its node
marked_further : {kind : WalkKind} {g : Graph} {r : ℤ} {done more : List Edge} {s : List ℤ} {v : ℕ} → ((x b : ℤ) → Came kind g r more (pos v) x b ↔ Came kind g r done (pos v) x b)
    → RightMark kind g r done s v → RightMark kind g r more s v
marked_further c m =
    record {
      unmet = λ h x b k. m.unmet h x b ((c x b).0 k);
      access = m.access;
      in_owner = m.in_owner;
      inside = m.inside;
      owner = m.owner;
      way = m.way;
      itself = m.itself;
      other = λ h n x b. (λ k. (m.other h n x b).0 ((c x b).0 k), λ k. (c x b).1 ((m.other h n x b).1 k));
      listed = m.listed;
    }

-- ---- one mark stored

-- a mark without a list
abbrev bare : Reference → ℤ → Mark
bare f rows = marked f not_listed rows

module _ (s : List ℤ) (to : ℕ) (m : Mark) (low : to < max_nodes) (room : length s ≡ state_room) where
  -- records in the arena stay
  records-stay : (p c : ℕ) → arena_row ≤ p → records_at (set_mark s to m) p c ≡ records_at s p c
  records-stay p c h =
      let past : (k : ℕ) → k < mark_width → mark_width * to + k < row_width * p = λ k j. omega arith in
      let owner = past 0 (omega arith) in
      let root = past 1 (omega arith) in
      let first = past 2 (omega arith) in
      let last = past 3 (omega arith) in
      let row = past 4 (omega arith) in
      let count = past 5 (omega arith) in
      let same : drop (row_width * p) (set_mark s to m) ≡ drop (row_width * p) s = simp (drop-set-lt {A = ℤ} (row_width * p)) in
      ap (λ (l : List ℤ). displaced_of l c) same

  module _ (owner : pos 0 ≤ℤ m.owner) where
    -- something has arrived at the node
    met_stored : is_met (set_mark s to m) to ≡ true
    met_stored = met-same s to m (omega arith) ∙ is_true (le_z (pos 0) m.owner) owner.le

    -- and still has where it had
    met_stays : (k : ℕ) → is_met s k ≡ true → is_met (set_mark s to m) k ≡ true
    met_stays k e = go (eqb k to) (eq? k to)
      where
        go : (t : Bool) → Test (k ≡ to) (k ≢ to) t → is_met (set_mark s to m) k ≡ true
        go true (passed q) = rw q met_stored
        go false (failed n) = met-other s to k m n ∙ e

    -- the marks of other nodes say what they said
    marked_elsewhere : {kind : WalkKind} {g : Graph} {r : ℤ} {done : List Edge} {v : ℕ} → v ≢ to → RightMark kind g r done s v → RightMark kind g r done (set_mark s to m) v
    marked_elsewhere {kind} {g} {r} {done} {v} n k =
        let met : is_met (set_mark s to m) v ≡ true → is_met s v ≡ true = λ z. sym (met-other s to v m n) ∙ z in
        let same : reference_at (set_mark s to m) v ≡ reference_at s v = reference-other s to v m n in
        let same-owner : (reference_at (set_mark s to m) v).owner ≡ (reference_at s v).owner = ap (λ (f : Reference). f.owner) same in
        record {
          unmet = λ z. k.unmet (sym (met-other s to v m n) ∙ z);
          access = λ z. k.access (met z);
          in_owner = λ z. rw same (k.in_owner (met z));
          inside = λ z. subst (Inside g (pos v)) (sym same) (k.inside (met z));
          owner = λ z j q. met_stays j (k.owner (met z) j (q ∙ same-owner));
          way = λ z. rw same-owner (k.way (met z));
          itself = λ z q. same ∙ k.itself (met z) (sym same-owner ∙ q);
          other = λ z q x b. rw same (k.other (met z) (λ j. q (same-owner ∙ j)) x b);
          listed = λ z q.
              let l = k.listed (met z) (sym (listed-other s to v m n) ∙ q) in
              listed_moved (list_row-other s to v m n) (number-other s to v m n 5 (omega arith)) (omega (arith, mark_free s to m low))
              (records-stay (list_row s v) (count_of s v) l.behind) l;
        }

-- such a mark is right where the node is open to the walks, and its reference brings what has come, or is all that arrives
marked_stored : {kind : WalkKind} {g : Graph} {r : ℤ} {done : List Edge} (s : List ℤ) (to : ℕ) (f : Reference) (rows : ℤ) → to < max_nodes → length s ≡ state_room → Open kind (node g (pos to)).access
    → InOwner g f → Inside g (pos to) f
    → ((k : ℕ) → pos k ≡ f.owner → is_met (set_mark s to (bare f rows)) k ≡ true)
    → (p : List Edge) × Way g f.owner p (pos to)
    → (f.owner ≡ pos to → f ≡ own g (pos to))
    → (f.owner ≢ pos to → (x b : ℤ) → Came kind g r done (pos to) x b ↔ Brings kind g r f x b)
    → RightMark kind g r done (set_mark s to (bare f rows)) to
marked_stored {kind} {g} {r} {done} s to f rows low room access in_owner inside owned way itself other =
    let m = bare f rows in
    let same : reference_at (set_mark s to m) to ≡ f = reference-same s to f not_listed rows (omega arith) in
    let owner : (reference_at (set_mark s to m) to).owner ≡ f.owner = ap (λ (k : Reference). k.owner) same in
    record {
      unmet = λ z. absurd (not_both (met_stored s to m low room in_owner.row.low) z);
      access = λ z. access;
      in_owner = λ z. subst (InOwner g) (sym same) in_owner;
      inside = λ z. subst (Inside g (pos to)) (sym same) inside;
      owner = λ z k q. owned k (q ∙ owner);
      way = λ z. subst (λ (o : ℤ). (p : List Edge) × Way g o p (pos to)) (sym owner) way;
      itself = λ z q. same ∙ itself (sym owner ∙ q);
      other = λ z n x b. subst (λ (k : Reference). Came kind g r done (pos to) x b ↔ Brings kind g r k x b) (sym same) (other (λ q. n (owner ∙ q)) x b);
      listed = λ z q. absurd (not_both q (listed_same s to m (omega arith)));
    }

-- ---- the next edge of the plan

-- edge i of a plan
abbrev pub next_edge : List ℤ → List ℕ → ℕ → Edge
next_edge es plan i = edge_at es (get_or plan i 0)

module _ {ns es : List ℤ} {plan : List ℕ} {i : ℕ} {s : List ℤ} (w : Sweeping ns es plan i s) (there : i < planned_count plan) where
  -- its row is there
  pub next_row_lem : edge_width * get_or plan i 0 + edge_width ≤ length es
  next_row_lem = omega (arith, w.planned.there i there, edges_length es)

  -- it is an edge of the graph
  next_in : next_edge es plan i ∈ (graph_of ns es).edges
  next_in = edge_in ns es (get_or plan i 0) next_row_lem

  -- the nodes that it joins are node rows
  pub next-from : {from : ℕ} → pos from ≡ (next_edge es plan i).from → NodeRow (graph_of ns es) (pos from)
  next-from p = rw p (w.tables.graph.ends (next_edge es plan i) next_in).0

  pub next-to : {to : ℕ} → pos to ≡ (next_edge es plan i).to → NodeRow (graph_of ns es) (pos to)
  next-to p = rw p (w.tables.graph.ends (next_edge es plan i) next_in).1

  -- a node row stands in the node table
  row-there : {v : ℕ} → NodeRow (graph_of ns es) (pos v) → v < length (node_rows ns)
  unfolding graph_of
  row-there r = omega (arith, ints, r.high)

  -- with it, what has come had come before, or comes over it
  came_next : {kind : WalkKind} {g : Graph} {r v x b : ℤ} → Came kind g r (done_of es plan (i + 1)) v x b
      → Came kind g r (done_of es plan i) v x b ⊎ (((next_edge es plan i).to ≡ v) × ComesOver kind g r (next_edge es plan i) x b)
  came_next {kind} {g} {r} {v} {x} {b} c = ⊎_elim before last ((done_next w there c.over).0 c.among)
    where
      before : c.over ∈ done_of es plan i → Came kind g r (done_of es plan i) v x b ⊎ (((next_edge es plan i).to ≡ v) × ComesOver kind g r (next_edge es plan i) x b)
      before m = inl (record { stands = c.stands; over = c.over; among = m; enters = c.enters; walk = c.walk })

      last : c.over ≡ next_edge es plan i → Came kind g r (done_of es plan i) v x b ⊎ (((next_edge es plan i).to ≡ v) × ComesOver kind g r (next_edge es plan i) x b)
      last q =
          let enters : (next_edge es plan i).to ≡ v = ap (λ (f : Edge). f.to) (sym q) ∙ c.enters in
          let stands : StandsOn kind (node g (next_edge es plan i).to) b = subst (λ (z : ℤ). StandsOn kind (node g z) b) (sym enters) c.stands in
          inr (enters, record { stands = stands; walk = subst (λ (f : Edge). Walk kind g r x f.from (b +ℤ bit_offset g f)) q c.walk })

  -- what had come before has come
  came_before : {kind : WalkKind} {g : Graph} {r v x b : ℤ} → Came kind g r (done_of es plan i) v x b → Came kind g r (done_of es plan (i + 1)) v x b
  came_before c =
      record { stands = c.stands; over = c.over; among = (done_next w there c.over).1 (inl c.among); enters = c.enters; walk = c.walk }

  -- so has what comes over it
  came_over : {kind : WalkKind} {g : Graph} {r x b : ℤ} → ComesOver kind g r (next_edge es plan i) x b → Came kind g r (done_of es plan (i + 1)) (next_edge es plan i).to x b
  came_over c =
      record { stands = c.stands; over = next_edge es plan i; among = (done_next w there (next_edge es plan i)).1 (inr refl); enters = refl; walk = c.walk }

  -- to other nodes nothing comes over it
  came_elsewhere : {kind : WalkKind} {g : Graph} {r v : ℤ} → (next_edge es plan i).to ≢ v → (x b : ℤ)
      → Came kind g r (done_of es plan (i + 1)) v x b ↔ Came kind g r (done_of es plan i) v x b
  came_elsewhere n x b = (λ c. ⊎_elim (λ k. k) (λ k. absurd (n k.0)) (came_next c), came_before)

  -- a sweep goes on with the same state where its marks say what has come with the next edge
  sweeping-marks : ((v : ℕ) → v < length (node_rows ns) → RightMark (kind_in s) (graph_of ns es) (root_in s) (done_of es plan (i + 1)) s v) → Sweeping ns es plan (i + 1) s
  sweeping-marks m =
      record {
        tables = w.tables;
        planned = w.planned;
        room = w.room;
        free_number = w.free_number;
        free_low = w.free_low;
        free_high = w.free_high;
        root = w.root;
        root_met = w.root_met;
        root_own = w.root_own;
        root_listed = w.root_listed;
        few = w.few;
        marks = m;
      }

  -- as they do where nothing comes over it
  sweeping-nowhere : ((x b : ℤ) → ComesOver (kind_in s) (graph_of ns es) (root_in s) (next_edge es plan i) x b → ⊥) → Sweeping ns es plan (i + 1) s
  sweeping-nowhere n =
      sweeping-marks (λ v h.
      marked_further (λ x b. (λ c. ⊎_elim (λ k. k) (λ k. absurd (n x b k.1)) (came_next c), came_before)) (w.marks v h))

  -- nothing does where it enters a node that is closed to the walks
  sweeping-closed : (Open (kind_in s) (node (graph_of ns es) (next_edge es plan i).to).access → ⊥) → Sweeping ns es plan (i + 1) s
  sweeping-closed n = sweeping-nowhere (λ x b c. n c.stands.access)

  -- marks of the nodes that it does not enter do
  marked-apart : {to v : ℕ} → pos to ≡ (next_edge es plan i).to → v < length (node_rows ns) → v ≢ to
      → RightMark (kind_in s) (graph_of ns es) (root_in s) (done_of es plan (i + 1)) s v
  marked-apart {to} {v} enters h n =
      let apart : (next_edge es plan i).to ≢ pos v = λ q. let z : pos to ≡ pos v = enters ∙ q in let y : v ≡ to = cc in n y in
      marked_further (came_elsewhere apart) (w.marks v h)

  -- a sweep goes on where a mark is stored of the node that it enters, which says what has come there
  sweeping_stored : (to : ℕ) (m : Mark) → pos to ≡ (next_edge es plan i).to → pos 0 ≤ℤ m.owner
      → RightMark (kind_in s) (graph_of ns es) (root_in s) (done_of es plan (i + 1)) (set_mark s to m) to → Sweeping ns es plan (i + 1) (set_mark s to m)
  sweeping_stored to m enters owner here =
      let g = graph_of ns es in
      let t = set_mark s to m in
      let low = row-few w.tables (next-to enters) in
      let used : free_row t ≡ free_row s = mark_free s to m low in
      let root : root_in t ≡ root_in s = mark_root s to m low in
      let kind : kind_in t ≡ kind_in s = mark_kind s to m low in
      let before : OpenRoot ns es t → OpenRoot ns es s = λ o. rw (← kind, ← root) o in
      let apart : (r : ℕ) → pos r ≡ root_in t → r ≢ to = λ r q e.
      w.root.unentered (next_edge es plan i) next_in (sym enters ∙ ap pos (sym e) ∙ q ∙ root) in
      let stays : (r : ℕ) → pos r ≡ root_in t → mark_at t r ≡ mark_at s r = λ r q. mark_other s to r m (apart r q) in
      record {
        tables = w.tables;
        planned = w.planned;
        room = mark_length s to m ∙ w.room;
        free_number = ap pos used ∙ w.free_number ∙ sym (mark_behind s to free_at m low (omega arith));
        free_low = omega (arith, used, w.free_low);
        free_high = omega (arith, used, w.free_high);
        root = rw root w.root;
        root_met = λ o r q. ap (λ (k : Mark). le_z (pos 0) k.owner) (stays r q) ∙ w.root_met (before o) r (q ∙ root);
        root_own = λ o r q. ap (λ (k : Mark). k.owner) (stays r q) ∙ w.root_own (before o) r (q ∙ root);
        root_listed = λ o r q. ap (λ (k : Mark). le_z (pos 0) k.row) (stays r q) ∙ w.root_listed (before o) r (q ∙ root);
        few = λ e k. rw root (w.few e k);
        marks = λ v h. rw (kind, root) (go v h low (eqb v to) (eq? v to));
      }
    where
      go : (v : ℕ) → v < length (node_rows ns) → to < max_nodes → (t : Bool) → Test (v ≡ to) (v ≢ to) t
          → RightMark (kind_in s) (graph_of ns es) (root_in s) (done_of es plan (i + 1)) (set_mark s to m) v
      go v h low true (passed q) = rw q here
      go v h low false (failed n) = marked_elsewhere s to m low w.room owner n (marked-apart enters h n)

  module _ (from : ℕ) (leaves : pos from ≡ (next_edge es plan i).from) where
    -- the mark of the node that it leaves
    source : RightMark (kind_in s) (graph_of ns es) (root_in s) (done_of es plan i) s from
    source = w.marks from (row-there (next-from leaves))

    -- what arrives there is settled
    from_settled : (x b : ℤ)
        → Walk (kind_in s) (graph_of ns es) (root_in s) x (next_edge es plan i).from b ↔ ((is_met s from ≡ true) × Brings (kind_in s) (graph_of ns es) (root_in s) (reference_at s from) x b)
    from_settled x b =
        subst (λ (z : ℤ). Walk (kind_in s) (graph_of ns es) (root_in s) x z b ↔ ((is_met s from ≡ true) × Brings (kind_in s) (graph_of ns es) (root_in s) (reference_at s from) x b)) leaves
        (settled w from (row-there (next-from leaves)) (rw leaves (next-covered w there)) x b)

    -- where nothing has arrived there, nothing comes over it
    pub sweeping-unmet : is_met s from ≡ false → Sweeping ns es plan (i + 1) s
    sweeping-unmet e =
        sweeping-nowhere (λ x b c.
        not_both ((from_settled x (b +ℤ bit_offset (graph_of ns es) (next_edge es plan i))).0 c.walk).0 e)

    module _ (met : is_met s from ≡ true) where
      -- else what comes over it is some of what the mark there brings, carried over it
      comes_brought : (x b : ℤ) → ComesOver (kind_in s) (graph_of ns es) (root_in s) (next_edge es plan i) x b
          → Brings (kind_in s) (graph_of ns es) (root_in s) (carried (graph_of ns es) (next_edge es plan i) (reference_at s from)) x b
      comes_brought x b c =
          let g = graph_of ns es in
          let o = bit_offset g (next_edge es plan i) in
          let n = node g (next_edge es plan i).to in
          (through_brings (kind_in s) g (root_in s) o (own g (next_edge es plan i).to) (reference_at s from) x b).1
          (b, (bits-joins n b b).1 (refl, record { above = c.stands.above; below = c.stands.below }), ((from_settled x (b +ℤ o)).0 c.walk).1)

      -- where that has no bit address, nothing
      pub sweeping_nothing : crossing (graph_of ns es) (next_edge es plan i) (own (graph_of ns es) (next_edge es plan i).to) s ≡ none → Sweeping ns es plan (i + 1) s
      sweeping_nothing e =
          let g = graph_of ns es in
          let f = carried g (next_edge es plan i) (reference_at s from) in
          let empty : T (is_none f) = unless-none f (sym (crossing-met g (next_edge es plan i) (own g (next_edge es plan i).to) s from leaves met) ∙ e) in
          sweeping-nowhere (λ x b c. none_brings (kind_in s) g (root_in s) f x b empty (comes_brought x b c))

      module _ (to : ℕ) (f : Reference) (rows : ℤ) (enters : pos to ≡ (next_edge es plan i).to)
          (brought : crossing (graph_of ns es) (next_edge es plan i) (own (graph_of ns es) (next_edge es plan i).to) s ≡ some f)
        where
          -- what is brought over it
          brought_is : (f ≡ carried (graph_of ns es) (next_edge es plan i) (reference_at s from))
              × T (not (is_none (carried (graph_of ns es) (next_edge es plan i) (reference_at s from))))
          brought_is =
              let g = graph_of ns es in
              unless_some (carried g (next_edge es plan i) (reference_at s from)) f
              (sym (crossing-met g (next_edge es plan i) (own g (next_edge es plan i).to) s from leaves met) ∙ brought)

          -- its owner is that of the node that it leaves
          brought_owner : f.owner ≡ (reference_at s from).owner
          brought_owner = ap (λ (k : Reference). k.owner) brought_is.0

          -- it lies where that reference does
          pub brought_lying : InOwner (graph_of ns es) f
          brought_lying =
              let g = graph_of ns es in
              let small = (own_lying w.tables (w.tables.graph.ends (next_edge es plan i) next_in).1).small in
              subst (InOwner g) (sym brought_is.0) (through_lying (own g (next_edge es plan i).to) (offset-small w.tables.graph next_in) small (source.in_owner met) brought_is.1)

          -- and its bit addresses are some of the node entered
          brought_inside : Inside (graph_of ns es) (pos to) f
          brought_inside =
              let g = graph_of ns es in
              let inside : Inside g (next_edge es plan i).to (carried g (next_edge es plan i) (reference_at s from)) = carried_inside g (next_edge es plan i) (reference_at s from) in
              subst (λ (z : ℤ). Inside g z f) (sym enters) (subst (Inside g (next_edge es plan i).to) (sym brought_is.0) inside)

          -- it leads on to the node entered
          brought_way : (p : List Edge) × Way (graph_of ns es) f.owner p (pos to)
          brought_way =
              let k = source.way met in
              (k.0 ++ (next_edge es plan i ∷ []), rw (brought_owner, enters) (way_onward k.1 next_in (sym leaves)))

          -- which is another
          brought_apart : f.owner ≢ pos to
          brought_apart q =
              let k = source.way met in
              way_back w.tables.graph.acyclic next_in
              (subst (λ (z : ℤ). Way (graph_of ns es) z k.0 (next_edge es plan i).from) (sym brought_owner ∙ q ∙ enters) (rw leaves at k.1))

          module _ (access : Open (kind_in s) (node (graph_of ns es) (next_edge es plan i).to).access) where
            -- the node entered is open to the walks, as the edge has it
            entered_open : Open (kind_in s) (node (graph_of ns es) (pos to)).access
            entered_open = subst (λ (z : ℤ). Open (kind_in s) (node (graph_of ns es) z).access) (sym enters) access

            -- to an open node all of that comes
            over_brings : (x b : ℤ) → ComesOver (kind_in s) (graph_of ns es) (root_in s) (next_edge es plan i) x b ↔ Brings (kind_in s) (graph_of ns es) (root_in s) f x b
            over_brings x b = rw brought_is.0 (comes_brought x b, comes)
              where
                comes : Brings (kind_in s) (graph_of ns es) (root_in s) (carried (graph_of ns es) (next_edge es plan i) (reference_at s from)) x b
                    → ComesOver (kind_in s) (graph_of ns es) (root_in s) (next_edge es plan i) x b
                comes k =
                    let g = graph_of ns es in
                    let o = bit_offset g (next_edge es plan i) in
                    let n = node g (next_edge es plan i).to in
                    let (y, j, h) = (through_brings (kind_in s) g (root_in s) o (own g (next_edge es plan i).to) (reference_at s from) x b).0 k in
                    let (same, inside) = (bits-joins n y b).0 j in
                    let stands : StandsOn (kind_in s) n b = record { access = access; above = inside.above; below = inside.below } in
                    record { stands = stands; walk = subst (λ (z : ℤ). Walk (kind_in s) g (root_in s) x (next_edge es plan i).from (z +ℤ o)) same ((from_settled x (y +ℤ o)).1 (met, h)) }

            -- so it is what has come, where nothing had come before, or what comes again
            came_brings : ((x b : ℤ) → Came (kind_in s) (graph_of ns es) (root_in s) (done_of es plan i) (pos to) x b → Brings (kind_in s) (graph_of ns es) (root_in s) f x b) → (x b : ℤ)
                → Came (kind_in s) (graph_of ns es) (root_in s) (done_of es plan (i + 1)) (pos to) x b ↔ Brings (kind_in s) (graph_of ns es) (root_in s) f x b
            came_brings before x b = (
              λ c. ⊎_elim (before x b) (λ k. (over_brings x b).0 k.1) (came_next c),
              λ k. subst (λ (z : ℤ). Came (kind_in s) (graph_of ns es) (root_in s) (done_of es plan (i + 1)) z x b) (sym enters) (came_over ((over_brings x b).1 k)),
            )

            -- the first reference that comes to a node is its mark
            marked-first : is_met s to ≡ false
                → RightMark (kind_in s) (graph_of ns es) (root_in s) (done_of es plan (i + 1)) (set_mark s to (bare f rows)) to
            marked-first e =
                let m = bare f rows in
                let low = row-few w.tables (next-to enters) in
                let none = (w.marks to (row-there (next-to enters))).unmet e in
                marked_stored s to f rows low w.room entered_open brought_lying brought_inside
                (λ k q. met_stays s to m low w.room brought_lying.row.low k (source.owner met k (q ∙ brought_owner))) brought_way
                (λ q. absurd (brought_apart q)) (λ n. came_brings (λ x b c. absurd (none x b c)))

            -- where the same comes again the mark stays
            marked_again : is_met s to ≡ true → reference_at s to ≡ f → RightMark (kind_in s) (graph_of ns es) (root_in s) (done_of es plan (i + 1)) s to
            marked_again e same =
                let old = w.marks to (row-there (next-to enters)) in
                record {
                  unmet = λ z. absurd (not_both e z);
                  access = old.access;
                  in_owner = old.in_owner;
                  inside = old.inside;
                  owner = old.owner;
                  way = old.way;
                  itself = old.itself;
                  other = λ z n x b.
                      subst (λ (k : Reference). Came (kind_in s) (graph_of ns es) (root_in s) (done_of es plan (i + 1)) (pos to) x b ↔ Brings (kind_in s) (graph_of ns es) (root_in s) k x b)
                      (sym same)
                      (came_brings (λ x b c. subst (λ (k : Reference). Brings (kind_in s) (graph_of ns es) (root_in s) k x b) same ((old.other z n x b).0 c)) x b);
                  listed = old.listed;
                }

            -- where unlike references meet, the node is its own owner
            marked-owner : RightMark (kind_in s) (graph_of ns es) (root_in s) (done_of es plan (i + 1)) (set_mark s to (bare (own (graph_of ns es) (pos to)) rows)) to
            marked-owner =
                let g = graph_of ns es in
                let all = own g (pos to) in
                let row = next-to enters in
                let m = bare all rows in
                marked_stored s to all rows (row-few w.tables row) w.room entered_open (own_lying w.tables row) (own-inside g (pos to))
                (λ k q. let z : k ≡ to = cc in rw z (met_stored s to m (row-few w.tables row) w.room row.low)) ([], stay) (λ q. refl) (λ n. absurd (n refl))

            -- what has come over the edge is met with at the node that it enters
            pub sweeping-met : Sweeping ns es plan (i + 1) (meeting s to (own (graph_of ns es) (pos to)) f rows)
            sweeping-met = go (is_met s to) refl (same_reference (reference_at s to) f) refl
              where
                again : is_met s to ≡ true → reference_at s to ≡ f → (v : ℕ) → v < length (node_rows ns) → (t : Bool) → Test (v ≡ to) (v ≢ to) t
                    → RightMark (kind_in s) (graph_of ns es) (root_in s) (done_of es plan (i + 1)) s v
                again e q v h true (passed z) = rw z (marked_again e q)
                again e q v h false (failed n) = marked-apart enters h n

                go : (a : Bool) → is_met s to ≡ a → (c : Bool) → same_reference (reference_at s to) f ≡ c
                    → Sweeping ns es plan (i + 1)
                    (cond a (cond c s (set_mark s to (bare (own (graph_of ns es) (pos to)) rows))) (set_mark s to (bare f rows)))
                go true e true q =
                    let same = (same-reference-is (reference_at s to) f).0 (T_true (same_reference (reference_at s to) f) q) in
                    sweeping-marks (λ v h. again e same v h (eqb v to) (eq? v to))
                go true e false q = sweeping_stored to (bare (own (graph_of ns es) (pos to)) rows) enters (next-to enters).low marked-owner
                go false e c q = sweeping_stored to (bare f rows) enters brought_lying.row.low (marked-first e)

-- what stands behind the marks stays
meeting-behind : (s : List ℤ) (to : ℕ) (all f : Reference) (rows : ℤ) → to < max_nodes → (j : ℕ) → free_at ≤ j
    → get_or (meeting s to all f rows) j (pos 0) ≡ get_or s j (pos 0)
meeting-behind s to all f rows low j h = go (is_met s to) (same_reference (reference_at s to) f)
  where
    go : (a c : Bool) → get_or (cond a (cond c s (set_mark s to (bare all rows))) (set_mark s to (bare f rows))) j (pos 0) ≡ get_or s j (pos 0)
    go true true = refl
    go true false = mark_behind s to j (bare all rows) low h
    go false c = mark_behind s to j (bare f rows) low h

-- such as the root and the kind of walk
pub meeting-root : (s : List ℤ) (to : ℕ) (all f : Reference) (rows : ℤ) → to < max_nodes → root_in (meeting s to all f rows) ≡ root_in s
meeting-root s to all f rows low = meeting-behind s to all f rows low root_at (omega arith)

pub meeting-kind : (s : List ℤ) (to : ℕ) (all f : Reference) (rows : ℤ) → to < max_nodes → kind_in (meeting s to all f rows) ≡ kind_in s
meeting-kind s to all f rows low = ap kind_of (meeting-behind s to all f rows low kind_at (omega arith))

-- ---- the next edge as the code reads it

module _ {ns es : List ℤ} {plan : List ℕ} {i : ℕ} {s : List ℤ} (w : Sweeping ns es plan i s) (there : i < planned_count plan) where
  module _ {e : ℕ} (row : e ≡ get_or plan i 0) where
    -- its numbers are there, and the nodes that it joins are no negative numbers
    pub next_readable : (edge_width * e + edge_width ≤ length es) × (pos 0 ≤ℤ (edge_at es e).from) × (pos 0 ≤ℤ (edge_at es e).to)
    next_readable =
        let ends = w.tables.graph.ends (next_edge es plan i) (next_in w there) in
        subst (λ (k : ℕ). (edge_width * k + edge_width ≤ length es) × (pos 0 ≤ℤ (edge_at es k).from) × (pos 0 ≤ℤ (edge_at es k).to)) (sym row)
        (next_row_lem w there, ends.0.low, ends.1.low)

    -- the nodes that were read are those that it joins
    pub from-read : {from : ℕ} → pos from ≡ (edge_at es e).from → pos from ≡ (next_edge es plan i).from
    from-read {from} q = subst (λ (k : ℕ). pos from ≡ (edge_at es k).from) row q

    pub to_read : {to : ℕ} → pos to ≡ (edge_at es e).to → pos to ≡ (next_edge es plan i).to
    to_read {to} q = subst (λ (k : ℕ). pos to ≡ (edge_at es k).to) row q

    module _ {to : ℕ} {f : Reference} (enters : pos to ≡ (next_edge es plan i).to) (all : f ≡ own (graph_of ns es) (pos to)) where
      -- what has arrived may be taken over it
      pub next_crossable : Crossable ns es e f s
      next_crossable =
          let g = graph_of ns es in
          record {
            tables = w.tables;
            there = next_readable.0;
            small = subst (λ (k : Reference). SmallRun k.run) (sym all) (own_lying w.tables (next-to w there enters)).small;
            marks = omega (arith, w.room);
            source = λ u q m. ((w.marks u (row-there w there (next-from w there (from-read q)))).in_owner m).small;
          }

      -- what the code says comes over it
      pub crossing-read : {o : Option Reference} → o ≡ crossing (graph_of ns es) (edge_at es e) f s
          → crossing (graph_of ns es) (next_edge es plan i) (own (graph_of ns es) (next_edge es plan i).to) s ≡ o
      crossing-read q =
          let g = graph_of ns es in
          let same : f ≡ own g (next_edge es plan i).to = all ∙ ap (own g) enters in
          sym (q ∙ ap (λ (k : Reference). crossing g (edge_at es e) k s) same
          ∙ ap (λ (k : ℕ). crossing g (edge_at es k) (own g (next_edge es plan i).to) s) row)

  -- whether the node that it enters is open to the walks, as the code has looked
  module _ {to : ℕ} {kind : WalkKind} {looked : Bool} (enters : pos to ≡ (next_edge es plan i).to) (same : kind ≡ kind_in s)
      (look : looked ≡ is_open kind (node (graph_of ns es) (pos to)))
    where
      look_decides : Decides (Open (kind_in s) (node (graph_of ns es) (next_edge es plan i).to).access) looked
      look_decides = rw (look, same, enters) (open? (kind_in s) (node (graph_of ns es) (next_edge es plan i).to))

      pub may_enter : looked ≡ true → Open (kind_in s) (node (graph_of ns es) (next_edge es plan i).to).access
      may_enter e = (decides_iff look_decides).0 (T_true looked e)

      -- where it is closed nothing comes to it
      pub sweeping_barred : looked ≡ false → Sweeping ns es plan (i + 1) s
      sweeping_barred e = sweeping-closed w there (λ o. not_both (is_true looked ((decides_iff look_decides).1 o)) e)

  -- it stands in the plan
  next-passed : next_edge es plan i ∈ planned_of es plan
  next-passed = front_in (i + 1) (planned_of es plan) ((done_next w there (next_edge es plan i)).1 (inr refl))

  -- a list may be made of the node that it leaves: no more paths lead there than to the node that it enters
  pub next_ownable : {from : ℕ} {spare : List ℤ} → pos from ≡ (next_edge es plan i).from → is_met s from ≡ true → row_width * max_paths ≤ length spare
      → Ownable ns es plan from s spare
  next_ownable {from} leaves met room =
      let g = graph_of ns es in
      let fewer = count_edge w.tables.graph.acyclic w.tables.graph.short w.root.unentered (next_edge es plan i) (next_in w there) in
      record {
        passed = i;
        sweeping = w;
        row = row-there w there (next-from w there leaves);
        met = met;
        covered = rw leaves (next-covered w there);
        few = omega (arith, ap (path_count g (root_in s)) leaves, fewer, w.few (next_edge es plan i) next-passed);
        spare_room = room;
      }

-- ---- the start

-- the row of the root's list
abbrev root_row : Reference → Row
root_row all = record { first = pos 0; second = all.run.low; third = all.run.high }

-- the state with the root's mark, where it has one, and then with that row
abbrev root_written : Bool → Reference → ℕ → List ℤ → List ℤ
root_written met all root s =
    take (row_width * arena_row) (root_marked met all root s) ++ (numbers_of (root_row all ∷ []) ++ drop (row_width * arena_row + row_width) (root_marked met all root s))

-- and with the row from which on the arena is free, and with the root
abbrev root_free : Bool → Reference → ℕ → List ℤ → List ℤ
root_free met all root s = set (root_written met all root s) free_at (pos (arena_row + 1))

abbrev root_stored : Bool → Reference → ℕ → List ℤ → List ℤ
root_stored met all root s = set (root_free met all root s) root_at (pos root)

-- a mark or none, the length stays
root_length : (met : Bool) (all : Reference) (root : ℕ) (s : List ℤ) → length (root_marked met all root s) ≡ length s
root_length true all root s = mark_length s root (marked all (pos arena_row) (pos 1))
root_length false all root s = refl

module _ (kind : WalkKind) (met : Bool) (all : Reference) (root : ℕ) (s : List ℤ) (low : root < max_nodes) (room : length s ≡ state_room) where
  -- the lengths of what is written
  front_length : length (take (row_width * arena_row) (root_marked met all root s)) ≡ row_width * arena_row
  front_length = length-take-le (row_width * arena_row) (root_marked met all root s) (omega (arith, root_length met all root s))

  written_length : length (root_written met all root s) ≡ state_room
  unfolding numbers_of
  written_length =
      let t = root_marked met all root s in
      omega (
        arith,
        length-append (take (row_width * arena_row) t) (numbers_of (root_row all ∷ []) ++ drop (row_width * arena_row + row_width) t),
        length-drop (row_width * arena_row + row_width) t,
        front_length,
        root_length met all root s,
      )

  stored_length : length (root_stored met all root s) ≡ state_room
  stored_length =
      length-set (root_free met all root s) root_at (pos root) ∙ length-set (root_written met all root s) free_at (pos (arena_row + 1)) ∙ written_length

  -- the length stays
  begun_length : length (begun kind met all root s) ≡ state_room
  begun_length = length-set (root_stored met all root s) kind_at (kind_number kind) ∙ stored_length

  -- the root is stored
  begun-root : root_in (begun kind met all root s) ≡ pos root
  begun-root =
      get_or-set_other (root_stored met all root s) kind_at root_at (kind_number kind) (pos 0) (λ e. omega arith)
      ∙ get_or-set_same (root_free met all root s) root_at (pos root) (pos 0)
      (omega (arith, length-set (root_written met all root s) free_at (pos (arena_row + 1)), written_length))

  -- and the kind of walk
  begun-kind : kind_in (begun kind met all root s) ≡ kind
  begun-kind =
      ap kind_of (get_or-set_same (root_stored met all root s) kind_at (kind_number kind) (pos 0) (omega (arith, stored_length))) ∙ kind-number kind

  -- one row of the arena is used
  begun-free : get_or (begun kind met all root s) free_at (pos 0) ≡ pos (arena_row + 1)
  begun-free =
      get_or-set_other (root_stored met all root s) kind_at free_at (kind_number kind) (pos 0) (λ e. omega arith)
      ∙ get_or-set_other (root_free met all root s) root_at free_at (pos root) (pos 0) (λ e. omega arith)
      ∙ get_or-set_same (root_written met all root s) free_at (pos (arena_row + 1)) (pos 0) (omega (arith, written_length))

  -- the marks are those with the root's
  begun-number : (j : ℕ) → j < free_at → get_or (begun kind met all root s) j (pos 0) ≡ get_or (root_marked met all root s) j (pos 0)
  begun-number j h =
      let t = root_marked met all root s in
      get_or-set_other (root_stored met all root s) kind_at j (kind_number kind) (pos 0) (λ e. omega arith)
      ∙ get_or-set_other (root_free met all root s) root_at j (pos root) (pos 0) (λ e. omega arith)
      ∙ get_or-set_other (root_written met all root s) free_at j (pos (arena_row + 1)) (pos 0) (λ e. omega arith)
      ∙ get_or-append (take (row_width * arena_row) t) (numbers_of (root_row all ∷ []) ++ drop (row_width * arena_row + row_width) t) (pos 0) j (omega (arith, front_length))
      ∙ get_or-take (row_width * arena_row) t j (pos 0) (omega arith)

  begun_mark : (v : ℕ) → v < max_nodes → mark_at (begun kind met all root s) v ≡ mark_at (root_marked met all root s) v
  begun_mark v h =
      let number : (k : ℕ) → k < mark_width → mark_number (begun kind met all root s) v k ≡ mark_number (root_marked met all root s) v k = λ k l.
      begun-number (mark_width * v + k) (omega arith) in
      let owner = number 0 (omega arith) in
      let root = number 1 (omega arith) in
      let first = number 2 (omega arith) in
      let last = number 3 (omega arith) in
      let row = number 4 (omega arith) in
      let count = number 5 (omega arith) in
      cc

  -- the list of the root is its row
  begun-records : records_at (begun kind met all root s) arena_row 1 ≡ of_displacement (root_row all) ∷ []
  begun-records =
      let t = root_marked met all root s in
      let rest = drop (row_width * arena_row + row_width) t in
      let part : drop (row_width * arena_row) (begun kind met all root s) ≡ numbers_of (root_row all ∷ []) ++ rest =
      drop-set-lt (row_width * arena_row) (root_stored met all root s) kind_at (kind_number kind) (omega arith)
      ∙ drop-set-lt (row_width * arena_row) (root_free met all root s) root_at (pos root) (omega arith)
      ∙ drop-set-lt (row_width * arena_row) (root_written met all root s) free_at (pos (arena_row + 1)) (omega arith)
      ∙ drop_at (take (row_width * arena_row) t) (numbers_of (root_row all ∷ []) ++ rest) (row_width * arena_row) front_length in
      ap (λ (l : List ℤ). displaced_of l 1) part ∙ ap (map of_displacement) (rows_of_written (root_row all ∷ []) rest 1 refl)

-- a record of all bits of a root that is open to the walks, with displacement 0, has what arrives at the root
root-exact : {kind : WalkKind} {g : Graph} {r : ℤ} → Root g r → Open kind (node g r).access → (x b : ℤ)
    → HasSome (of_displacement (root_row (own g r)) ∷ []) x b ↔ Walk kind g r x r b
unfolding bits_of
root-exact {kind} {g} {r} root access x b =
    let walks = walk-root {kind = kind} {g = g} {r = r} root.unentered x b in
    let apart = diff x b in (
      λ (q, m, h).
          let k = subst (λ (z : Record). Has z x b) (Memᴰ.eq_of_singleton m) h in
          let e : x ≡ b = omega (arith, ints, k.apart) in
          walks.1 (e, record { access = access; above = omega (arith, ints, k.above); below = omega (arith, ints, k.below) }),
      λ y.
          let (e, k) = walks.0 y in (
            of_displacement (root_row (own g r)),
            Memᴰ.head refl,
            record { above = omega (arith, ints, k.above); below = omega (arith, ints, k.below); apart = omega (arith, ints) },
          ),
    )

module _ {ns es : List ℤ} {plan : List ℕ} {root : ℕ} {old spare : List ℤ} (a : Sweepable ns es plan root old spare) (kind : WalkKind) (s : List ℤ)
    (room : length s ≡ state_room) (blank : Blank (length (node_rows ns)) s)
  where
    -- the root has a mark
    root-low : root < max_nodes
    root-low = row-few a.tables a.start.row

    -- the state in which the sweep begins, with the root marked or not
    abbrev first : Bool → List ℤ
    first met = begun kind met (own (graph_of ns es) (pos root)) root s

    -- the root is the one given, and so is the kind of walk
    pub start-root : (met : Bool) → root_in (begun kind met (own (graph_of ns es) (pos root)) root s) ≡ pos root
    start-root met = begun-root kind met (own (graph_of ns es) (pos root)) root s root-low room

    pub start-kind : (met : Bool) → kind_in (begun kind met (own (graph_of ns es) (pos root)) root s) ≡ kind
    start-kind met = begun-kind kind met (own (graph_of ns es) (pos root)) root s root-low room

    -- where the root is marked: its mark
    root_mark : mark_at (first true) root ≡ marked (own (graph_of ns es) (pos root)) (pos arena_row) (pos 1)
    root_mark =
        let all = own (graph_of ns es) (pos root) in
        begun_mark kind true all root s root-low room root root-low ∙ mark_same s root (marked all (pos arena_row) (pos 1)) (omega (arith, root-low))

    root-reference : reference_at (first true) root ≡ own (graph_of ns es) (pos root)
    root-reference = ap (λ (q : Mark). record { owner = q.owner; run = record { root = q.root; low = q.low; high = q.high } }) root_mark

    root-met : is_met (first true) root ≡ true
    root-met = ap (λ (q : Mark). le_z (pos 0) q.owner) root_mark ∙ is_true (le_z (pos 0) (pos root)) a.start.row.low.le

    module _ (access : Open kind (node (graph_of ns es) (pos root)).access) where
      -- its list
      root-listed : Listed kind (graph_of ns es) (pos root) (first true) root
      root-listed =
          let g = graph_of ns es in
          let all = own g (pos root) in
          let t = first true in
          let row : list_row t root ≡ arena_row = ap (λ (q : Mark). nat_abs q.row) root_mark in
          let count : count_of t root ≡ 1 = ap (λ (q : Mark). nat_abs q.count) root_mark in
          let used : free_row t ≡ arena_row + 1 = ap nat_abs (begun-free kind true all root s root-low room) in
          let records : records_at t (list_row t root) (count_of t root) ≡ of_displacement (root_row all) ∷ [] =
          ap (λ (p : ℕ). records_at t p (count_of t root)) row ∙ ap (records_at t arena_row) count ∙ begun-records kind true all root s root-low room in
          let number : mark_number t root 5 ≡ pos 1 = ap (λ (q : Mark). q.count) root_mark in
          record {
            counted = ap pos count ∙ sym number;
            behind = omega (arith, row);
            within = omega (arith, row, count, used);
            exact = λ x b. subst (λ (l : List Record). HasSome l x b ↔ Walk kind g (pos root) x (pos root) b) (sym records) (root-exact a.start access x b);
            full = λ q m.
                let e : q ≡ of_displacement (root_row all) = Memᴰ.eq_of_singleton (subst (λ (l : List Record). q ∈ l) records m) in
                rw e (own_lying a.tables a.start.row).small.full;
            few = omega (arith, count, count-leaf g (pos root));
            ascending = subst (λ (l : List Record). Ascending (map by_displacement l)) (sym records) (more (λ y m. absurd (Memᴰ.not-nil m)) none);
          }

      -- its mark is right before any edge is passed
      marked-root : RightMark kind (graph_of ns es) (pos root) (done_of es plan 0) (first true) root
      marked-root =
          let g = graph_of ns es in
          let all = own g (pos root) in
          let same = root-reference in
          let owner : (reference_at (first true) root).owner ≡ pos root = ap (λ (f : Reference). f.owner) root-reference in
          record {
            unmet = λ z. absurd (not_both root-met z);
            access = λ z. access;
            in_owner = λ z. subst (InOwner g) (sym same) (own_lying a.tables a.start.row);
            inside = λ z. subst (Inside g (pos root)) (sym same) (own-inside g (pos root));
            owner = λ z k q. let e : pos k ≡ pos root = q ∙ owner in let h : k ≡ root = cc in rw h root-met;
            way = λ z. subst (λ (o : ℤ). (p : List Edge) × Way g o p (pos root)) (sym owner) ([], stay);
            itself = λ z q. same;
            other = λ z n. absurd (n owner);
            listed = λ z q. root-listed;
          }

    -- so is one of a node that is not marked: nothing has come
    marked-blank : (met : Bool) (v : ℕ) → is_met (first met) v ≡ false → RightMark kind (graph_of ns es) (pos root) (done_of es plan 0) (first met) v
    marked-blank met v unmet =
        record {
          unmet = λ z x b c. Memᴰ.not-nil c.among;
          access = λ z. absurd (not_both z unmet);
          in_owner = λ z. absurd (not_both z unmet);
          inside = λ z. absurd (not_both z unmet);
          owner = λ z. absurd (not_both z unmet);
          way = λ z. absurd (not_both z unmet);
          itself = λ z. absurd (not_both z unmet);
          other = λ z. absurd (not_both z unmet);
          listed = λ z. absurd (not_both z unmet);
        }

    -- no node is marked at first but the root
    first-blank : (met : Bool) (v : ℕ) → v < length (node_rows ns) → is_met (root_marked met (own (graph_of ns es) (pos root)) root s) v ≡ false → is_met (first met) v ≡ false
    first-blank met v h unmet =
        ap (λ (q : Mark). le_z (pos 0) q.owner) (begun_mark kind met (own (graph_of ns es) (pos root)) root s root-low room v (rows_few a.tables h)) ∙ unmet

    -- the sweep starts where all marks are right, and the root has its mark where it is open to the walks
    sweeping-first : (met : Bool)
        → (Open kind (node (graph_of ns es) (pos root)).access → mark_at (first met) root ≡ marked (own (graph_of ns es) (pos root)) (pos arena_row) (pos 1))
        → ((v : ℕ) → v < length (node_rows ns) → RightMark kind (graph_of ns es) (pos root) (done_of es plan 0) (first met) v)
        → Sweeping ns es plan 0 (first met)
    sweeping-first met mark marks =
        let g = graph_of ns es in
        let all = own g (pos root) in
        let t = first met in
        let number : get_or t free_at (pos 0) ≡ pos (arena_row + 1) = begun-free kind met all root s root-low room in
        let used : free_row t ≡ arena_row + 1 = ap nat_abs number in
        let is-root : (r : ℕ) → pos r ≡ root_in t → r ≡ root = λ r q. let e : pos r ≡ pos root = q ∙ start-root met in cc in
        let may-start : OpenRoot ns es t → Open kind (node g (pos root)).access = λ o.
        subst (λ (k : WalkKind). Open k (node g (pos root)).access) (start-kind met) (subst (λ (r : ℤ). Open (kind_in t) (node g r).access) (start-root met) o) in
        record {
          tables = a.tables;
          planned = a.planned;
          room = begun_length kind met all root s root-low room;
          free_number = ap pos used ∙ sym number;
          free_low = omega (arith, used);
          free_high = omega (arith, used);
          root = rw (start-root met) a.start;
          root_met = λ o r q. rw (is-root r q) (ap (λ (k : Mark). le_z (pos 0) k.owner) (mark (may-start o)) ∙ is_true (le_z (pos 0) (pos root)) a.start.row.low.le);
          root_own = λ o r q. rw (is-root r q) (ap (λ (k : Mark). k.owner) (mark (may-start o)));
          root_listed = λ o r q. rw (is-root r q) (ap (λ (k : Mark). le_z (pos 0) k.row) (mark (may-start o)));
          few = λ e k. rw (start-root met) (a.few e k);
          marks = λ v h. rw (start-kind met, start-root met) (marks v h);
        }

    -- so it starts
    pub sweeping-start : Sweeping ns es plan 0 (begun kind (is_open kind (node (graph_of ns es) (pos root))) (own (graph_of ns es) (pos root)) root s)
    sweeping-start = go (is_open kind (node (graph_of ns es) (pos root))) (open? kind (node (graph_of ns es) (pos root)))
      where
        marked_start : Open kind (node (graph_of ns es) (pos root)).access → (v : ℕ) → v < length (node_rows ns) → (t : Bool) → Test (v ≡ root) (v ≢ root) t
            → RightMark kind (graph_of ns es) (pos root) (done_of es plan 0) (first true) v
        marked_start o v h true (passed q) = rw q (marked-root o)
        marked_start o v h false (failed n) =
            marked-blank true v (first-blank true v h (met-other s root v (marked (own (graph_of ns es) (pos root)) (pos arena_row) (pos 1)) n ∙ blank v h))

        go : (b : Bool) → Decides (Open kind (node (graph_of ns es) (pos root)).access) b → Sweeping ns es plan 0 (first b)
        go true (passed o) = sweeping-first true (λ z. root_mark) (λ v h. marked_start o v h (eqb v root) (eq? v root))
        go false (failed n) = sweeping-first false (λ z. absurd (n z)) (λ v h. marked-blank false v (first-blank false v h (blank v h)))
