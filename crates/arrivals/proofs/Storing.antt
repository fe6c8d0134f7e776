-- The list of a node that is its own owner: its rows are gathered behind the used part of the arena, merged, and stored where there is room.
use mathlib.Core.Path.{◌≡◌, refl, sym, ap, ◌∙◌, subst}
use mathlib.Core.Bool.{Bool, true, false, cond}
use mathlib.Core.List.{List, map}
use mathlib.Core.Logic.Iff
use mathlib.Core.Logic.{◌≢◌, ◌↔◌}
use Prim.Native.Nat.{ℕ, ◌+◌, ◌*◌, ◌≤◌, ◌<◌}
use native.Mathlib.Omega.{arith}
use lib.Dec.{eqb, ltb}
use lib.IntN.{ℤ, pos, nat_abs}
use lib.Signed.{le_z}
use lib.ListN.{length, get_or, drop, set, length-drop, length-set}
use lib.Seq.{ext_get_or, get_or-drop, get_or-set_same, get_or-set_other, drop-set-lt}
use Rattle.integers.proofs.Linear.{ints}
use Rattle.integers.proofs.Tests.{Test, passed, failed, eq?, ltb?}
use Rattle.lists.specs.Lists.{◌∈◌}
use Rattle.model.specs.Limits.{max_nodes, max_paths}
use Rattle.model.specs.Rows.{node_rows}
use Rattle.model.specs.Graph.{graph_of, NodeRow}
use Rattle.model.specs.Walk.{Walk}
use Rattle.model.specs.Bitmapping.{Record}
use Rattle.model.proofs.Paths.{way-short}
use Rattle.extents.proofs.Rows.{node-good}
use Rattle.reach.specs.Counting.{path_count}
use Rattle.sorting.specs.Rows.{row_width, Ascending}
use Rattle.normalisation.specs.Merging.{by_displacement, displaced_of}
use Rattle.references.specs.References.{Reference, own, Brings, InOwner, records_at}
use Rattle.references.proofs.Bringing.{own_brings, own_lying}
use Rattle.entering.specs.Entering.{Covered}
use Rattle.arrivals.specs.declared.ListRows.{ListRows}
use Rattle.arrivals.specs.State.{mark_width, Mark, mark_number, mark_at, set_mark, marked, is_met, reference_at, is_listed, list_row, count_of, free_at, root_at, kind_at, arena_row, arena_rows, state_room, free_row, root_in, kind_of, kind_in, Agree, no_room}
use Rattle.arrivals.specs.Sweep.{HasSome, done_of, Listed, Sweeping, Makeable, Made}
use Rattle.arrivals.specs.Moves.{Storable, storing, Ownable, ListMade}
use Rattle.arrivals.proofs.Relisting.{row_number, number-row, listed_moved, Relisted, relisted_met, relisted_sweeping}
use Rattle.arrivals.proofs.Marks.{mark_same, mark_other, mark_behind, mark_length, mark_root, mark_kind}
use Rattle.arrivals.proofs.Agreeing.{agree_root, agree_kind, agree_free, met-agrees, reference-agrees, listed-agrees, rows_few, sweeping-agrees}
use Rattle.arrivals.proofs.Settled.{not_both}
use Rattle.arrivals.proofs.Making.{made-few, made-exact, made-full, made-ascending}

-- ---- one mark stored

-- the state with m as the mark of v and rows used up to `used`: the other marks, the root, the kind of walk and the rows of the arena stay
pub record Remarked (v : ℕ) (m : Mark) (used : ℕ) (s t : List ℤ) : Type 0 where
  pub long : length t ≡ length s
  pub root : root_in t ≡ root_in s
  pub kind : kind_in t ≡ kind_in s
  pub number : get_or t free_at (pos 0) ≡ pos used
  pub same : mark_at t v ≡ m
  pub other : (w : ℕ) → w < max_nodes → w ≢ v → mark_at t w ≡ mark_at s w
  pub behind : (n : ℕ) → row_width * arena_row ≤ n → drop n t ≡ drop n s

module _ (s : List ℤ) (v : ℕ) (m : Mark) (row : v < max_nodes) (room : length s ≡ state_room) where
  -- the numbers behind the marks stay
  mark_drop : (n : ℕ) → free_at ≤ n → drop n (set_mark s v m) ≡ drop n s
  mark_drop n h =
      ext_get_or (pos 0) (drop n (set_mark s v m)) (drop n s) (simp length-drop (rw (mark_length s v m) refl)) (λ i k.
      get_or-drop n (set_mark s v m) i (pos 0) ∙ mark_behind s v (n + i) m row (omega arith) ∙ sym (get_or-drop n s i (pos 0)))

  -- a mark stored
  pub remarked_mark : (used : ℕ) → get_or s free_at (pos 0) ≡ pos used → Remarked v m used s (set_mark s v m)
  remarked_mark used e =
      record {
        long = mark_length s v m;
        root = mark_root s v m row;
        kind = mark_kind s v m row;
        number = mark_behind s v free_at m row (omega arith) ∙ e;
        same = mark_same s v m (omega (arith, room));
        other = λ w h n. mark_other s v w m n;
        behind = λ n h. mark_drop n (omega arith);
      }

  -- a mark stored, and more rows used
  pub remarked_free : (used : ℕ) → Remarked v m used s (set (set_mark s v m) free_at (pos used))
  remarked_free used =
      let t = set_mark s v m in
      let long = mark_length s v m in
      record {
        long = length-set t free_at (pos used) ∙ long;
        root = get_or-set_other t free_at root_at (pos used) (pos 0) (λ e. omega arith) ∙ mark_root s v m row;
        kind = ap kind_of (get_or-set_other t free_at kind_at (pos used) (pos 0) (λ e. omega arith)) ∙ mark_kind s v m row;
        number = get_or-set_same t free_at (pos used) (pos 0) (omega (arith, long, room));
        same = free_other v row ∙ mark_same s v m (omega (arith, room));
        other = λ w h n. free_other w h ∙ mark_other s v w m n;
        behind = λ n h. drop-set-lt n t free_at (pos used) (omega arith) ∙ mark_drop n (omega arith);
      }
    where
      -- no mark has the number of rows
      free_other : (w : ℕ) → w < max_nodes → mark_at (set (set_mark s v m) free_at (pos used)) w ≡ mark_at (set_mark s v m) w
      free_other w h =
          let number : (k : ℕ) → k < mark_width → get_or (set (set_mark s v m) free_at (pos used)) (mark_width * w + k) (pos 0) ≡ get_or (set_mark s v m) (mark_width * w + k) (pos 0) =
          λ k l. get_or-set_other (set_mark s v m) free_at (mark_width * w + k) (pos used) (pos 0) (λ e. omega arith) in
          let owner = number 0 (omega arith) in
          let root = number 1 (omega arith) in
          let low = number 2 (omega arith) in
          let high = number 3 (omega arith) in
          let row = number 4 (omega arith) in
          let count = number 5 (omega arith) in
          cc

-- a node that is its own owner and has no list is given a mark with the same reference: the state keeps all but the list
module _ {ns es : List ℤ} {plan : List ℕ} {i v used : ℕ} {s t : List ℤ} {m : Mark} (w : Sweeping ns es plan i s) (c : Remarked v m used s t)
    (reference : reference_at s v ≡ record { owner = m.owner; run = record { root = m.root; low = m.low; high = m.high } }) (unlisted : is_listed s v ≡ false)
    (more : free_row s ≤ used) (room : used ≤ arena_row + arena_rows)
    (list : le_z (pos 0) m.row ≡ true → Listed (kind_in s) (graph_of ns es) (root_in s) t v)
  where
    -- what is so of v, and of the other nodes with the mark that they had, is so of all
    mark_cases : (P : ℕ → Type 0) → P v → ((x : ℕ) → mark_at t x ≡ mark_at s x → P x) → (x : ℕ) → x < length (node_rows ns) → P x
    mark_cases P self others x h = go (eqb x v) (eq? x v)
      where
        go : (b : Bool) → Test (x ≡ v) (x ≢ v) b → P x
        go true (passed e) = subst P (sym e) self
        go false (failed n) = others x (c.other x (rows_few w.tables h) n)

    -- the references are those of before, and the lists are right
    pub remarked_relisted : Relisted ns es s t
    remarked_relisted =
        let after : free_row t ≡ used = ap nat_abs c.number in
        let of : Mark → Reference = λ m. record { owner = m.owner; run = record { root = m.root; low = m.low; high = m.high } } in
        record {
          long = c.long;
          root = c.root;
          kind = c.kind;
          references = mark_cases (λ x. reference_at t x ≡ reference_at s x) (ap of c.same ∙ sym reference) (λ x e. ap of e);
          free_number = ap pos after ∙ sym c.number;
          free_low = omega (arith, after, more, w.free_low);
          free_high = omega (arith, after, room);
          root_listed = λ o r p.
              mark_cases (λ x. is_listed s x ≡ true → is_listed t x ≡ true) (λ q. absurd (not_both q unlisted))
              (λ x e q. ap (λ (m : Mark). le_z (pos 0) m.row) e ∙ q) r (row_number ns es (subst (NodeRow (graph_of ns es)) (sym p) w.root.row))
              (w.root_listed o r p);
          listed = λ x h.
              mark_cases (λ x. x < length (node_rows ns) → is_met s x ≡ true → is_listed t x ≡ true → Listed (kind_in s) (graph_of ns es) (root_in s) t x)
              (λ k n q. list (sym (ap (λ (m : Mark). le_z (pos 0) m.row) c.same) ∙ q))
              (λ x e k n q.
              let old = (w.marks x k).listed n (sym (ap (λ (m : Mark). le_z (pos 0) m.row) e) ∙ q) in
              listed_moved (ap (λ (m : Mark). nat_abs m.row) e) (ap (λ (m : Mark). m.count) e) (omega (arith, after, more))
              (ap (λ l. displaced_of l (count_of s x)) (c.behind (row_width * list_row s x) (omega (arith, old.behind)))) old)
              x h h;
        }

-- ---- the list of an owner
--
-- Gathering and merging write behind the used part of the arena alone, so that the state is swept as far as before (sweeping-agrees). The mark that is then
-- stored has the reference that the node had; the lists of the others lie in front of the rows that were written, and the node's own list, where there is
-- room for it, has what its reference brings: all that arrives there. So the state is still swept as far (relisted_sweeping).

-- where nothing is done all stays
pub unstored_same : {ns es : List ℤ} {plan : List ℕ} {v : ℕ} {s spare : List ℤ} → Ownable ns es plan v s spare → ListMade ns es plan v s s
unstored_same o = record { met = o.met; reference = refl; root = refl; kind = refl; sweeping = λ i w. w }

-- a node whose reference f, as it is read, has the node itself as owner
module _ {ns es : List ℤ} {plan : List ℕ} {v : ℕ} {s spare : List ℤ} (o : Ownable ns es plan v s spare) {f : Reference}
    (read : f ≡ reference_at s v) (owner : f.owner ≡ pos v)
  where
    -- it is the reference to all that arrives there
    ownable_own : f ≡ own (graph_of ns es) (pos v)
    ownable_own = read ∙ (o.sweeping.marks v o.row).itself o.met (sym (ap (λ (f : Reference). f.owner) read) ∙ owner)

    -- its list can be made
    pub ownable_makeable : Makeable ns es plan f s spare
    ownable_makeable =
        let w = o.sweeping in
        let few = subst (λ (w : ℤ). path_count (graph_of ns es) (root_in s) w ≤ max_paths) (sym owner) o.few in
        record {
          gatherable = record {
            passed = o.passed;
            sweeping = w;
            in_owner = subst (InOwner (graph_of ns es)) (sym ownable_own) (own_lying w.tables (number-row ns es o.row));
            met = λ k e. let same : v ≡ k = omega (arith, ints, e, owner) in subst (λ n. is_met s n ≡ true) same o.met;
            covered = subst (Covered es (done_of es plan o.passed)) (sym owner) o.covered;
            deep = λ p y. way-short w.tables.graph.short y;
            behind = omega arith;
            room = omega (arith, w.room, w.free_high, few);
          };
          few = few;
          spare_room = o.spare_room;
        }

    module _ {u : List ℤ} {p : ListRows} (q : Made (kind_in s) (graph_of ns es) (root_in s) f s u p) where
      low : arena_row ≤ p.row
      low = omega (arith, q.at, o.sweeping.free_low)

      swept : {i : ℕ} → Sweeping ns es plan i s → Sweeping ns es plan i u
      swept w = sweeping-agrees w (subst (λ n. Agree n s u) q.at q.agrees)

      -- the records may become its list
      pub stored_storable : Storable ns v p.row p.count u
      stored_storable =
          let w = o.sweeping in
          record {
            good = node-good w.tables (number-row ns es o.row);
            row = rows_few w.tables o.row;
            room = q.agrees.long ∙ w.room;
            few = omega (arith, q.at, w.free_high, made-few q, ownable_makeable.few);
          }

      -- the list that is stored is that of v
      stored_listed : (z : List ℤ) → Remarked v (marked (own (graph_of ns es) (pos v)) (pos p.row) (pos p.count)) (p.row + p.count) u z
          → Listed (kind_in u) (graph_of ns es) (root_in u) z v
      stored_listed z c =
          let g = graph_of ns es in
          let row : list_row z v ≡ p.row = ap (λ (m : Mark). nat_abs m.row) c.same in
          let number : mark_number z v 5 ≡ pos p.count = ap (λ (m : Mark). m.count) c.same in
          let count : count_of z v ≡ p.count = ap nat_abs number in
          let after : free_row z ≡ p.row + p.count = ap nat_abs c.number in
          let root : root_in s ≡ root_in u = sym (agree_root low q.agrees) in
          let kind : kind_in s ≡ kind_in u = sym (agree_kind low q.agrees) in
          let records : records_at z (list_row z v) (count_of z v) ≡ records_at u p.row p.count =
          ap (λ n. records_at z n (count_of z v)) row
          ∙ ap (λ n. records_at z p.row n) count
          ∙ ap (λ l. displaced_of l p.count) (c.behind (row_width * p.row) (omega (arith, low))) in
          let brings : (x b : ℤ) → Brings (kind_in s) g (root_in s) f x b ↔ Walk (kind_in s) g (root_in s) x (pos v) b =
          λ x b. subst (λ (e : Reference). Brings (kind_in s) g (root_in s) e x b ↔ Walk (kind_in s) g (root_in s) x (pos v) b) (sym ownable_own) (own_brings (kind_in s) g (root_in s) (pos v) x b) in
          record {
            counted = ap pos count ∙ sym number;
            behind = omega (arith, row, low);
            within = omega (arith, row, count, after);
            exact = λ x b.
                subst (λ (l : List Record). HasSome l x b ↔ Walk (kind_in u) g (root_in u) x (pos v) b) (sym records)
                (rw (← kind, ← root) (Iff.trans (made-exact q x b) (brings x b)));
            full = λ d j. made-full q d (subst (λ (l : List Record). d ∈ l) records j);
            few = subst (λ (r : ℤ). count_of z v ≤ path_count g r (pos v)) root
                (subst (λ (w : ℤ). count_of z v ≤ path_count g (root_in s) w) owner (omega (arith, count, made-few q)));
            ascending = subst (λ (l : List Record). Ascending (map by_displacement l)) (sym records) (made-ascending q);
          }

      -- v stays marked, and the state is what it was after as many edges
      stored_relisted : (z : List ℤ) → ((i : ℕ) → Sweeping ns es plan i u → Relisted ns es u z) → ListMade ns es plan v s z
      stored_relisted z relisted =
          let c = relisted o.passed (swept o.sweeping) in
          record {
            met = relisted_met c v o.row ∙ met-agrees low q.agrees v (rows_few o.sweeping.tables o.row) ∙ o.met;
            reference = c.references v o.row ∙ reference-agrees low q.agrees v (rows_few o.sweeping.tables o.row);
            root = c.root ∙ agree_root low q.agrees;
            kind = c.kind ∙ agree_kind low q.agrees;
            sweeping = λ i w. relisted_sweeping (relisted i (swept w)) (swept w);
          }

      -- the list is stored where there is room
      pub storing-made : is_listed s v ≡ false → ListMade ns es plan v s (storing (own (graph_of ns es) (pos v)) v p.row p.count u)
      storing-made unlisted = go (ltb (arena_row + arena_rows) (p.row + p.count)) (ltb? (arena_row + arena_rows) (p.row + p.count))
        where
          row : v < max_nodes
          row = rows_few o.sweeping.tables o.row

          reference : reference_at u v ≡ own (graph_of ns es) (pos v)
          reference = reference-agrees low q.agrees v row ∙ sym read ∙ ownable_own

          none : is_listed u v ≡ false
          none = listed-agrees low q.agrees v row ∙ unlisted

          room : length u ≡ state_room
          room = q.agrees.long ∙ o.sweeping.room

          free-before : free_row u ≡ p.row
          free-before = agree_free low q.agrees ∙ sym q.at

          number : get_or u free_at (pos 0) ≡ pos p.row
          number = q.agrees.same free_at (omega (arith, low)) ∙ sym (ap pos q.at ∙ o.sweeping.free_number)

          go : (b : Bool) → Test (arena_row + arena_rows < p.row + p.count) (p.row + p.count ≤ arena_row + arena_rows) b
              → ListMade ns es plan v s (cond b (set_mark u v (marked (own (graph_of ns es) (pos v)) no_room (pos 0)))
              (set (set_mark u v (marked (own (graph_of ns es) (pos v)) (pos p.row) (pos p.count))) free_at (pos (p.row + p.count))))
          go true (passed h) =
              let m = marked (own (graph_of ns es) (pos v)) no_room (pos 0) in
              let c = remarked_mark u v m row room p.row number in
              stored_relisted (set_mark u v m) (λ i w.
              remarked_relisted w c reference none (omega (arith, free-before)) (omega (arith, q.at, o.sweeping.free_high)) (λ q. absurd (not_both q refl)))
          go false (failed h) =
              let m = marked (own (graph_of ns es) (pos v)) (pos p.row) (pos p.count) in
              let c = remarked_free u v m row room (p.row + p.count) in
              let z = set (set_mark u v m) free_at (pos (p.row + p.count)) in
              stored_relisted z (λ i w. remarked_relisted w c reference none (omega (arith, free-before)) h (λ q. stored_listed z c))
