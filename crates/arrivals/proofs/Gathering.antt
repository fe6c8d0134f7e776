-- Gathering the rows of what a reference brings: by the list of its owner, or edge by edge through those that enter the owner.
use mathlib.Core.Path.{◌≡◌, refl, sym, ap, ◌∙◌, subst}
use mathlib.Core.Bool.{Bool, true, false, not, cond}
use mathlib.Core.List.Memᴰ
use mathlib.Core.List.{List, [], ◌∷◌, ◌++◌, map, map-append, append-nil, append_assoc}
use mathlib.Core.Logic.Iff
use mathlib.Core.Logic.{◌↔◌, ◌⊎◌, ◌≢◌, inl, inr, ⊎_elim}
use mathlib.Core.Option.{Option, none, some}
use Prim.Native.Nat.{ℕ, suc, ◌+◌, ◌-◌, ◌*◌, ◌≤◌, ◌<◌}
use native.Mathlib.Omega.{arith}
use lib.Dec.{T}
use lib.IntN.{ℤ, pos, nat_abs, ◌+ℤ◌, ◌-ℤ◌}
use lib.Signed.{◌≤ℤ◌, yes_non_neg, pos-nat_abs}
use lib.ListN.{length, get_or, drop, length-append, length-map}
use Rattle.integers.proofs.Linear.{ints}
use Rattle.integers.proofs.Tests.{eq_z?, test_of}
use Rattle.integers.proofs.Range.{le_z_true}
use Rattle.lists.specs.Lists.{◌∈◌, keep}
use Rattle.model.specs.declared.WalkKind.{WalkKind}
use Rattle.model.specs.Limits.{edge_width, max_nodes}
use Rattle.model.specs.Rows.{Edge, node_rows, edge_rows}
use Rattle.model.specs.Graph.{Graph, graph_of, NodeRow, node, bit_offset}
use Rattle.model.specs.Walk.{Open, Walk}
use Rattle.model.specs.Paths.{Way, stay, over}
use Rattle.model.specs.Bitmapping.{Record}
use Rattle.model.specs.Runs.{Run, Joins}
use Rattle.model.proofs.Chains.{way_append}
use Rattle.model.proofs.Walks.{walk_start, walk_end}
use Rattle.model.proofs.Records.{has_at}
use Rattle.model.proofs.Taken.{taken-address}
use Rattle.tables.specs.Tables.{edge_at}
use Rattle.tables.proofs.Rows.{edges_length, edges_at}
use Rattle.reach.specs.Counting.{path_count}
use Rattle.reach.specs.Links.{first_row}
use Rattle.reach.proofs.Totals.{total}
use Rattle.reach.proofs.FirstRow.{first_row-from, first_row_passes, first_row-none, first_row-keep}
use Rattle.entering.specs.Entering.{enters, entering, Covered}
use Rattle.entering.proofs.Walks.{walk-entering, walk-way, entering_in, entering_out}
use Rattle.extents.specs.Extents.{bits_of}
use Rattle.extents.proofs.Rows.{edge_in}
use Rattle.extents.proofs.Bounds.{offset-small}
use Rattle.entering.proofs.Ways.{way_onward}
use Rattle.entering.proofs.Counts.{count-entering, count-way}
use Rattle.sorting.specs.declared.Row.{Row}
use Rattle.sorting.specs.Rows.{row_width, rows_of}
use Rattle.sorting.proofs.Tables.{rows_of_length}
use Rattle.normalisation.specs.Merging.{of_displacement}
use Rattle.listing.specs.Listing.{Appended}
use Rattle.listing.proofs.Appending.{append_none, append_append}
use Rattle.forward.specs.Forward.{head_at, next_at}
use Rattle.references.specs.References.{Reference, Brings, InOwner, SmallRecord, through, is_none, records_at, cut_rows, Cuttable}
use Rattle.references.proofs.Bringing.{own_lying, lying_stands, through_brings, through_lying}
use Rattle.references.proofs.Cutting.{cut-rows_brings, cut-rows-full, cut-rows-few}
use Rattle.arrivals.specs.State.{mark_width, arena_row, mark_number, is_met, reference_at, is_listed, list_row, count_of, root_in, kind_in, Agree}
use Rattle.arrivals.specs.Sweep.{HasSome, done_of, Listed, RightMark, Sweeping, Gatherable, Gathered}
use Rattle.arrivals.specs.Moves.{Crossable, crossing}
use Rattle.arrivals.proofs.Agreeing.{agree_root, agree_kind, agree_free, agree_less, appended-agrees, sweeping-agrees, row-few}
use Rattle.arrivals.proofs.Settled.{not_both, done-closed, covered-way, met-root, settled}

-- ---- rows of two lists

-- what a list of records has, or another has
pub some_append : (k l : List Record) (x y : ℤ) → HasSome (k ++ l) x y ↔ (HasSome k x y ⊎ HasSome l x y)
some_append k l x y = (
  λ w. ⊎_elim (λ m. inl (w.0, m, w.2)) (λ m. inr (w.0, m, w.2)) (Memᴰ.append_cases k w.1),
  ⊎_elim (λ w. (w.0, Memᴰ.append_left l w.1, w.2)) (λ w. (w.0, Memᴰ.append_right k w.1, w.2)),
)

total_snoc : {A : Type 0} (h : A → ℕ) (l : List A) (x : A) → total h (l ++ (x ∷ [])) ≡ total h l + h x
total_snoc h [] x = omega arith
total_snoc h (y ∷ l) x = omega (arith, total_snoc h l x)

total-front : {A : Type 0} (h : A → ℕ) (k l : List A) → total h k ≤ total h (k ++ l)
total-front h [] l = omega arith
total-front h (y ∷ k) l = omega (arith, total-front h k l)

-- a way over no edge stays where it is
way-none : {g : Graph} {v w : ℤ} {p : List Edge} → Way g v p w → length p ≤ 0 → v ≡ w
way-none stay h = refl
way-none (over e m q w) h = absurd (omega (arith, h))

-- a number that is not negative is the one that its size is
pub nonneg_abs : {z : ℤ} → pos 0 ≤ℤ z → pos (nat_abs z) ≡ z
nonneg_abs {z} h = pos-nat_abs z (yes_non_neg h)

-- so many records are read from a state
records_length : (s : List ℤ) (p c : ℕ) → length (records_at s p c) ≡ c
records_length s p c = length-map (rows_of (drop (row_width * p) s) c) of_displacement ∙ rows_of_length (drop (row_width * p) s) c

module _ {ns es : List ℤ} {plan : List ℕ} {f : Reference} {left : ℕ} {s : List ℤ} {n : ℕ} (k : Gatherable ns es plan f left s n) where
  -- the owner as the code has it
  module _ (o : ℕ) (q : pos o ≡ f.owner) where
    owner-row : NodeRow (graph_of ns es) (pos o)
    owner-row = subst (λ (v : ℤ). NodeRow (graph_of ns es) v) (sym q) k.in_owner.row

    pub owner-few : o < max_nodes
    owner-few = row-few k.sweeping.tables owner-row

    owner-below : o < length (node_rows ns)
    unfolding graph_of
    owner-below = omega (arith, ints, owner-row.high)

    owner_mark : RightMark (kind_in s) (graph_of ns es) (root_in s) (done_of es plan k.passed) s o
    owner_mark = k.sweeping.marks o owner-below

    -- it is open to the walks
    pub owner_open : Open (kind_in s) (node (graph_of ns es) f.owner).access
    owner_open = subst (λ (v : ℤ). Open (kind_in s) (node (graph_of ns es) v).access) q (owner_mark.access (k.met o q))

    -- the first edge that enters the owner
    pub head_is : get_or plan (head_at + o) 0 ≡ first_row (enters f.owner) 0 (edge_rows es)
    head_is = k.sweeping.planned.heads o owner-below ∙ ap (λ (v : ℤ). first_row (enters v) 0 (edge_rows es)) q

    -- ---- by a list

    module _ (y : is_listed s o ≡ true) where
      pub owner-list : Listed (kind_in s) (graph_of ns es) (root_in s) s o
      owner-list = owner_mark.listed (k.met o q) y

      -- where it stands can be read
      pub list_readable : (mark_width * o + mark_width ≤ length s) × (pos 0 ≤ℤ mark_number s o 4) × (pos 0 ≤ℤ mark_number s o 5)
      list_readable = (omega (arith, owner-few, k.sweeping.room), le_z_true (pos 0) (mark_number s o 4) y, omega (arith, ints, owner-list.counted))

      list-exact : (x b : ℤ) → HasSome (records_at s (list_row s o) (count_of s o)) x b ↔ Walk (kind_in s) (graph_of ns es) (root_in s) x f.owner b
      list-exact x b =
          subst (λ (v : ℤ). HasSome (records_at s (list_row s o) (count_of s o)) x b ↔ Walk (kind_in s) (graph_of ns es) (root_in s) x v b) q (owner-list.exact x b)

      -- its records have bits of the root, and bit addresses of the owner
      module _ (z : Record) (m : z ∈ records_at s (list_row s o) (count_of s o)) where
        first_walks : Walk (kind_in s) (graph_of ns es) (root_in s) z.first f.owner (z.first -ℤ z.displacement)
        first_walks = (list-exact z.first (z.first -ℤ z.displacement)).0 (z, m, has_at z z.first (omega (arith, ints)) (owner-list.full z m))

        last-walks : Walk (kind_in s) (graph_of ns es) (root_in s) z.last f.owner (z.last -ℤ z.displacement)
        last-walks = (list-exact z.last (z.last -ℤ z.displacement)).0 (z, m, has_at z z.last (owner-list.full z m) (omega (arith, ints)))

        list_inside : ((bits_of (node (graph_of ns es) (root_in s))).low ≤ℤ z.first) × (z.last ≤ℤ (bits_of (node (graph_of ns es) (root_in s))).high)
        unfolding bits_of
        list_inside = ((walk_start first_walks).above, (walk_start last-walks).below)

        list-within : SmallRecord z
        list-within =
            let taken = k.sweeping.tables.graph in
            let last = taken-address taken k.sweeping.root.row (walk_start last-walks) in
            let high = taken-address taken k.in_owner.row (walk_end last-walks) in
            record {
              full = owner-list.full z m;
              low = (taken-address taken k.sweeping.root.row (walk_start first_walks)).0;
              high = omega (arith, ints, last.1);
              above = (taken-address taken k.in_owner.row (walk_end first_walks)).0;
              below = omega (arith, ints, high.1);
            }

      -- no more than paths lead to the owner
      list-few : count_of s o ≤ path_count (graph_of ns es) (root_in s) f.owner
      list-few = subst (λ (v : ℤ). count_of s o ≤ path_count (graph_of ns es) (root_in s) v) q owner-list.few

      -- with all bits of the root as they are read
      pub list_cuttable : {all : Run} → all ≡ bits_of (node (graph_of ns es) (root_in s)) → Cuttable f all.low all.high s (list_row s o) (count_of s o) n
      list_cuttable e =
          let root = (own_lying k.sweeping.tables k.sweeping.root.row).small in
          rw e
          record {
            small = k.in_owner.small;
            root = (
              record { low = root.low; high = omega (arith, ints, root.full, root.high) },
              record { low = omega (arith, ints, root.full, root.low); high = root.high },
            );
            before = omega (arith, owner-list.within, k.behind);
            room = omega (arith, list-few, k.room);
            ascending = owner-list.ascending;
            inside = list_inside;
            within = list-within;
          }

      -- gathered by the list
      pub list_gathered : {t : List ℤ} {m : ℕ} → Appended (cut_rows f (records_at s (list_row s o) (count_of s o))) s t n m
          → Gathered (kind_in s) (graph_of ns es) (root_in s) f s t n m
      list_gathered a =
          let l = records_at s (list_row s o) (count_of s o) in
          record {
            rows = cut_rows f l;
            appended = a;
            exact = cut-rows_brings (kind_in s) (graph_of ns es) (root_in s) f l list-exact;
            full = cut-rows-full f l;
            few = omega (arith, list-few, cut-rows-few f l, records_length s (list_row s o) (count_of s o));
          }

    -- ---- through edges

    -- the owner has no list: it is not the root
    module _ (y : is_listed s o ≡ false) where
      pub owner-other : root_in s ≢ f.owner
      owner-other e = not_both (k.sweeping.root_listed (met-root k.sweeping o owner-below (k.met o q) (e ∙ sym q)) o (q ∙ sym e)) y

      -- so where no edge is left nothing arrives
      pub none_left : left ≡ 0 → Gathered (kind_in s) (graph_of ns es) (root_in s) f s s n n
      none_left z =
          record {
            rows = [];
            appended = append_none s n;
            exact = λ x b. (λ w. absurd (Memᴰ.not-nil w.1), λ w. absurd (nothing w.walk));
            full = λ r m. absurd (Memᴰ.not-nil m);
            few = omega arith;
          }
        where
          nothing : {x b : ℤ} → Walk (kind_in s) (graph_of ns es) (root_in s) x f.owner b → ⊥
          nothing w = let p = walk-way w in owner-other (way-none p.1 (omega (arith, z, k.deep p.0 p.1)))

-- over one of these edges, by a walk of this kind, root bit x comes to bit address b of the reference
pub record Over (kind : WalkKind) (g : Graph) (r : ℤ) (f : Reference) (edges : List Edge) (x b : ℤ) : Type 0 where
  pub at : ℤ
  pub joins : Joins f.run at b
  pub edge : Edge
  pub among : edge ∈ edges
  pub walk : Walk kind g r x edge.from (at +ℤ bit_offset g edge)

-- the state between two turns at edge e: of the edges that enter the owner those before row `from` are done, and the rows behind the first n have exactly
-- what comes over them
pub record Through (ns es : List ℤ) (f : Reference) (s : List ℤ) (n : ℕ) (t : List ℤ) (m e : ℕ) : Type 0 where
  pub before : List Edge
  pub from : ℕ
  pub at : e ≡ first_row (enters f.owner) from (edge_rows es)
  pub rest : before ++ keep (enters f.owner) (drop from (edge_rows es)) ≡ entering (graph_of ns es) f.owner
  pub rows : List Row
  pub written : Appended rows s t n m
  pub exact : (x b : ℤ) → HasSome (map of_displacement rows) x b ↔ Over (kind_in s) (graph_of ns es) (root_in s) f before x b
  pub full : (q : Record) → q ∈ map of_displacement rows → q.first ≤ℤ q.last
  pub few : length rows ≤ total (λ e. path_count (graph_of ns es) (root_in s) e.from) before

-- before the first turn
pub through-start : {ns es : List ℤ} {f : Reference} (s : List ℤ) (n : ℕ) → Through ns es f s n s n (first_row (enters f.owner) 0 (edge_rows es))
unfolding graph_of entering
through-start s n =
    record {
      before = [];
      from = 0;
      at = refl;
      rest = refl;
      rows = [];
      written = append_none s n;
      exact = λ x b. (λ w. absurd (Memᴰ.not-nil w.1), λ w. absurd (Memᴰ.not-nil w.among));
      full = λ r m. absurd (Memᴰ.not-nil m);
      few = omega arith;
    }

module _ {ns es : List ℤ} {plan : List ℕ} {f : Reference} {left : ℕ} {s : List ℤ} {n : ℕ} (k : Gatherable ns es plan f left s n) (other : root_in s ≢ f.owner)
    {t : List ℤ} {m e : ℕ} (w : Through ns es f s n t m e)
  where
    -- the paths over the edges that enter the owner are those to the owner
    paths-all : path_count (graph_of ns es) (root_in s) f.owner ≡ total (λ e. path_count (graph_of ns es) (root_in s) e.from) (entering (graph_of ns es) f.owner)
    paths-all = let h = k.sweeping.tables.graph in count-entering h.acyclic h.short other

    paths-before : total (λ e. path_count (graph_of ns es) (root_in s) e.from) w.before ≤ path_count (graph_of ns es) (root_in s) f.owner
    paths-before =
        let h : Edge → ℕ = λ e. path_count (graph_of ns es) (root_in s) e.from in
        let behind = keep (enters f.owner) (drop w.from (edge_rows es)) in
        omega (arith, paths-all, ap (total h) w.rest, total-front h w.before behind)

    pub through-agrees : Agree n s t
    through-agrees = appended-agrees (omega (arith, k.room, w.few, paths-before)) w.written

    pub through-sweeping : Sweeping ns es plan k.passed t
    through-sweeping = sweeping-agrees k.sweeping (agree_less k.behind through-agrees)

    low : arena_row ≤ n
    low = omega (arith, k.sweeping.free_low, k.behind)

    pub through-root : root_in t ≡ root_in s
    through-root = agree_root low through-agrees

    through-kind : kind_in t ≡ kind_in s
    through-kind = agree_kind low through-agrees

    -- behind the last turn the rows of all edges that enter the owner are gathered
    pub through_end : length (edge_rows es) ≤ e → Gathered (kind_in s) (graph_of ns es) (root_in s) f s t n m
    through_end h =
        record {
          rows = w.rows;
          appended = w.written;
          exact = λ x b. Iff.trans (w.exact x b) (arrives x b);
          full = w.full;
          few = omega (arith, w.few, paths-before);
        }
      where
        all : w.before ≡ entering (graph_of ns es) f.owner
        all =
            sym (append-nil w.before)
            ∙ ap (λ l. w.before ++ l) (sym (first_row-none (enters f.owner) w.from (edge_rows es) (omega (arith, h, w.at))))
            ∙ w.rest

        arrives : (x b : ℤ) → Over (kind_in s) (graph_of ns es) (root_in s) f w.before x b ↔ Brings (kind_in s) (graph_of ns es) (root_in s) f x b
        arrives x b = (
          λ y.
              let i = entering_out (graph_of ns es) f.owner (subst (λ (l : List Edge). y.edge ∈ l) all y.among) in
              let c = walk-entering {kind = kind_in s} {g = graph_of ns es} other x y.at in
              let access = owner_open k (nat_abs f.owner) (nonneg_abs k.in_owner.row.low) in
              record { at = y.at; walk = c.1 (lying_stands access k.in_owner y.at b y.joins, (y.edge, i.0, i.1, y.walk)); joins = y.joins },
          λ y.
              let i = ((walk-entering {kind = kind_in s} {g = graph_of ns es} other x y.at).0 y.walk).1 in
              record {
                at = y.at;
                joins = y.joins;
                edge = i.0;
                among = subst (λ (l : List Edge). i.0 ∈ l) (sym all) (entering_in (graph_of ns es) i.1 i.2);
                walk = i.3;
              },
        )

    -- ---- a turn

    module _ (h : e < length (edge_rows es)) where
      -- the edge, which enters the owner
      abbrev edge : Edge
      edge = edge_at es e

      there : edge_width * e + edge_width ≤ length es
      there = omega (arith, h, edges_length es)

      at_edge : get_or (edge_rows es) e edge ≡ edge
      at_edge = edges_at es e edge there

      edge_enters : edge.to ≡ f.owner
      unfolding enters
      edge_enters =
          test_of (eq_z? edge.to f.owner)
          (subst (λ (d : Edge). T (enters f.owner d)) (ap (λ i. get_or (edge_rows es) i edge) (sym w.at) ∙ at_edge)
          (first_row_passes (enters f.owner) edge w.from (edge_rows es) (omega (arith, h, w.at))))

      edge_inside : edge ∈ edge_rows es
      unfolding graph_of
      edge_inside = edge_in ns es e there

      -- the next one
      pub next-is : get_or plan (next_at + e) 0 ≡ first_row (enters f.owner) (suc e) (edge_rows es)
      next-is = k.sweeping.planned.nexts e h ∙ ap (λ (v : ℤ). first_row (enters v) (suc e) (edge_rows es)) edge_enters

      pub next_onward : e < get_or plan (next_at + e) 0
      next_onward = omega (arith, next-is, first_row-from (enters f.owner) (suc e) (edge_rows es) (omega (arith, h)))

      turn_rest : (w.before ++ (edge ∷ [])) ++ keep (enters f.owner) (drop (suc e) (edge_rows es)) ≡ entering (graph_of ns es) f.owner
      turn_rest =
          let ok = enters f.owner in
          let edges = edge_rows es in
          let here = first_row ok w.from edges in
          let first : get_or edges here edge ≡ edge = ap (λ i. get_or edges i edge) (sym w.at) ∙ at_edge in
          let behind : keep ok (drop (suc here) edges) ≡ keep ok (drop (suc e) edges) = ap (λ i. keep ok (drop (suc i) edges)) (sym w.at) in
          let kept : keep ok (drop w.from edges) ≡ edge ∷ keep ok (drop (suc e) edges) =
          first_row-keep ok edge w.from edges (omega (arith, h, w.at)) ∙ cc (first, behind) in
          append_assoc w.before (edge ∷ []) (keep ok (drop (suc e) edges)) ∙ ap (λ l. w.before ++ l) (sym kept) ∙ w.rest

      -- the paths so far and those over the edge are no more than all
      turn_paths : total (λ e. path_count (graph_of ns es) (root_in s) e.from) w.before + path_count (graph_of ns es) (root_in s) edge.from
          ≤ path_count (graph_of ns es) (root_in s) f.owner
      turn_paths =
          let c : Edge → ℕ = λ e. path_count (graph_of ns es) (root_in s) e.from in
          let behind = keep (enters f.owner) (drop (suc e) (edge_rows es)) in
          omega (
            arith,
            paths-all,
            ap (total c) turn_rest,
            total-front c (w.before ++ (edge ∷ [])) behind,
            total_snoc c w.before edge,
          )

      pub turn_done : edge ∈ done_of es plan k.passed
      turn_done = k.covered edge edge_inside edge_enters

      -- the node that the edge leaves, as the code has it
      abbrev source : ℕ
      source = nat_abs edge.from

      from_row_lem : NodeRow (graph_of ns es) edge.from
      unfolding graph_of
      from_row_lem = (k.sweeping.tables.graph.ends edge edge_inside).0

      pub source_is : pos source ≡ edge.from
      source_is = nonneg_abs from_row_lem.low

      source-below : source < length (node_rows ns)
      unfolding graph_of
      source-below = omega (arith, ints, from_row_lem.high, source_is)

      source_mark : RightMark (kind_in t) (graph_of ns es) (root_in t) (done_of es plan k.passed) t source
      source_mark = through-sweeping.marks source source-below

      source-covered : Covered es (done_of es plan k.passed) (pos source)
      source-covered = subst (λ (v : ℤ). Covered es (done_of es plan k.passed) v) (sym source_is) (done-closed through-sweeping edge turn_done)

      -- what comes over the edge, of what arrives at that node
      abbrev part : Reference
      part = through (bit_offset (graph_of ns es) edge) f (reference_at t source)

      -- it is what the reference has over the edge
      over_edge : (x b : ℤ) → Over (kind_in s) (graph_of ns es) (root_in s) f (edge ∷ []) x b ↔ ((is_met t source ≡ true) × Brings (kind_in s) (graph_of ns es) (root_in s) part x b)
      over_edge x b =
          let g = graph_of ns es in
          let u = through_brings (kind_in s) g (root_in s) (bit_offset g edge) f (reference_at t source) x b in (
            λ y.
                let c = y.at +ℤ bit_offset g edge in
                let here = subst (λ (d : Edge). Walk (kind_in s) g (root_in s) x d.from (y.at +ℤ bit_offset g d)) (Memᴰ.eq_of_singleton y.among) y.walk in
                let z = (settled through-sweeping source source-below source-covered x c).0 (from_here c here) in
                (z.0, u.1 (y.at, y.joins, brings_here c z.1)),
            λ y.
                let (at, j, h) = u.0 y.1 in
                let c = at +ℤ bit_offset g edge in
                record {
                  at = at;
                  joins = j;
                  edge = edge;
                  among = Memᴰ.head refl;
                  walk = from-there c ((settled through-sweeping source source-below source-covered x c).1 (y.0, brings_there c h));
                },
          )
        where
          from_here : (c : ℤ) → Walk (kind_in s) (graph_of ns es) (root_in s) x edge.from c → Walk (kind_in t) (graph_of ns es) (root_in t) x (pos source) c
          from_here c y = rw (through-kind, through-root, source_is) y

          from-there : (c : ℤ) → Walk (kind_in t) (graph_of ns es) (root_in t) x (pos source) c → Walk (kind_in s) (graph_of ns es) (root_in s) x edge.from c
          from-there c y = rw (← through-kind, ← through-root, ← source_is) y

          brings_here : (c : ℤ) → Brings (kind_in t) (graph_of ns es) (root_in t) (reference_at t source) x c → Brings (kind_in s) (graph_of ns es) (root_in s) (reference_at t source) x c
          brings_here c y = rw (← through-kind, ← through-root) y

          brings_there : (c : ℤ) → Brings (kind_in s) (graph_of ns es) (root_in s) (reference_at t source) x c → Brings (kind_in t) (graph_of ns es) (root_in t) (reference_at t source) x c
          brings_there c y = rw (through-kind, through-root) y

      -- over one more edge
      over-more : (x b : ℤ) → Over (kind_in s) (graph_of ns es) (root_in s) f (w.before ++ (edge ∷ [])) x b
          ↔ (Over (kind_in s) (graph_of ns es) (root_in s) f w.before x b ⊎ Over (kind_in s) (graph_of ns es) (root_in s) f (edge ∷ []) x b)
      over-more x b = (
        λ y.
            ⊎_elim (λ m. inl (record { at = y.at; joins = y.joins; edge = y.edge; among = m; walk = y.walk }))
            (λ m. inr (record { at = y.at; joins = y.joins; edge = y.edge; among = m; walk = y.walk })) (Memᴰ.append_cases w.before y.among),
        ⊎_elim (λ y. record { at = y.at; joins = y.joins; edge = y.edge; among = Memᴰ.append_left (edge ∷ []) y.among; walk = y.walk })
            (λ y. record { at = y.at; joins = y.joins; edge = y.edge; among = Memᴰ.append_right w.before y.among; walk = y.walk }),
      )

      -- where nothing comes over the edge, the turn at the next edge can begin
      pub turn_nothing : ((x b : ℤ) → is_met t source ≡ true → Brings (kind_in s) (graph_of ns es) (root_in s) part x b → ⊥)
          → Through ns es f s n t m (first_row (enters f.owner) (suc e) (edge_rows es))
      turn_nothing nowhere =
          record {
            before = w.before ++ (edge ∷ []);
            from = suc e;
            at = refl;
            rest = turn_rest;
            rows = w.rows;
            written = w.written;
            exact = λ x b. (
              λ y. (over-more x b).1 (inl ((w.exact x b).0 y)),
              λ y. (w.exact x b).1 (⊎_elim (λ z. z) (λ z. let c = (over_edge x b).0 z in absurd (nowhere x b c.0 c.1)) ((over-more x b).0 y)),
            );
            full = w.full;
            few = omega (arith, w.few, total_snoc (λ e. path_count (graph_of ns es) (root_in s) e.from) w.before edge);
          }

      -- where something comes, once its rows are gathered
      module _ (met : is_met t source ≡ true) (full : T (not (is_none part))) where
        source_lying : InOwner (graph_of ns es) (reference_at t source)
        source_lying = source_mark.in_owner met

        source-way : (p : List Edge) × Way (graph_of ns es) (reference_at t source).owner p edge.from
        source-way = subst (λ (v : ℤ). (p : List Edge) × Way (graph_of ns es) (reference_at t source).owner p v) source_is (source_mark.way met)

        -- no more paths lead to the owner of the part than over the edge
        part_paths : path_count (graph_of ns es) (root_in s) part.owner ≤ path_count (graph_of ns es) (root_in s) edge.from
        part_paths =
            let c = k.sweeping.tables.graph in
            count-way c.acyclic c.short k.sweeping.root.unentered source-way.1

        pub part_gatherable : 0 < left → Gatherable ns es plan part (left - 1) t m
        part_gatherable h =
            record {
              passed = k.passed;
              sweeping = through-sweeping;
              in_owner = through_lying f (offset-small k.sweeping.tables.graph inside) k.in_owner.small source_lying full;
              met = source_mark.owner met;
              covered = covered-way through-sweeping source-way.1 (done-closed through-sweeping edge turn_done);
              deep = λ p y. deeper p (subst (λ (r : ℤ). Way (graph_of ns es) r p part.owner) through-root y);
              behind = omega (arith, k.behind, w.written.count, agree_free low through-agrees);
              room = subst (λ (r : ℤ). row_width * (m + path_count (graph_of ns es) r part.owner) ≤ length t) (sym through-root)
                  (omega (arith, k.room, w.few, w.written.count, turn_paths, part_paths, through-agrees.long));
            }
          where
            inside : edge ∈ (graph_of ns es).edges
            inside = edge_in ns es e there

            deeper : (p : List Edge) → Way (graph_of ns es) (root_in s) p part.owner → length p ≤ left - 1
            deeper p y =
                let q = source-way.0 in
                let z = way_onward (way_append y source-way.1) inside refl in
                let d = k.deep ((p ++ q) ++ (edge ∷ [])) (subst (λ (v : ℤ). Way (graph_of ns es) (root_in s) ((p ++ q) ++ (edge ∷ [])) v) edge_enters z) in
                omega (arith, d, length-append (p ++ q) (edge ∷ []), length-append p q)

        pub turn_part : {u : List ℤ} {m' : ℕ} → Gathered (kind_in t) (graph_of ns es) (root_in t) part t u m m'
            → Through ns es f s n u m' (first_row (enters f.owner) (suc e) (edge_rows es))
        turn_part {u} {m'} a =
            record {
              before = w.before ++ (edge ∷ []);
              from = suc e;
              at = refl;
              rest = turn_rest;
              rows = w.rows ++ a.rows;
              written = append_append (omega (arith, k.room, size, more, part_paths, turn_paths, w.few)) w.written a.appended;
              exact = λ x b. (
                λ y. (over-more x b).1 (⊎_elim (λ z. inl ((w.exact x b).0 z)) (λ z. inr ((over_edge x b).1 (met, (own x b).0 z))) ((some_append (map of_displacement w.rows) (map of_displacement a.rows) x b).0 ((split x b).0 y))),
                λ y. (split x b).1 ((some_append (map of_displacement w.rows) (map of_displacement a.rows) x b).1
                    (⊎_elim (λ z. inl ((w.exact x b).1 z)) (λ z. inr ((own x b).1 ((over_edge x b).0 z).1)) ((over-more x b).0 y))),
              );
              full = λ q y.
                  ⊎_elim (w.full q) (a.full q)
                  (Memᴰ.append_cases (map of_displacement w.rows) (subst (λ (l : List Record). q ∈ l) (map-append of_displacement w.rows a.rows) y));
              few = omega (arith, size, more, part_paths, w.few, total_snoc (λ e. path_count (graph_of ns es) (root_in s) e.from) w.before edge);
            }
          where
            size : length (w.rows ++ a.rows) ≡ length w.rows + length a.rows
            size = length-append w.rows a.rows

            more : length a.rows ≤ path_count (graph_of ns es) (root_in s) part.owner
            more = subst (λ (r : ℤ). length a.rows ≤ path_count (graph_of ns es) r part.owner) through-root a.few

            own : (x b : ℤ) → HasSome (map of_displacement a.rows) x b ↔ Brings (kind_in s) (graph_of ns es) (root_in s) part x b
            own x b = rw (← through-kind, ← through-root) (a.exact x b)

            split : (x b : ℤ) → HasSome (map of_displacement (w.rows ++ a.rows)) x b ↔ HasSome (map of_displacement w.rows ++ map of_displacement a.rows) x b
            split x b =
                let e = map-append of_displacement w.rows a.rows in (
                  λ y. subst (λ (l : List Record). HasSome l x b) e y,
                  λ y. subst (λ (l : List Record). HasSome l x b) (sym e) y,
                )

      -- what the code asks of the edge
      pub turn_crossable : Crossable ns es e f t
      turn_crossable =
          record {
            tables = k.sweeping.tables;
            there = there;
            small = k.in_owner.small;
            marks = omega (arith, through-sweeping.room);
            source = λ u q y.
                let z : u ≡ source = ap nat_abs q in
                (subst (λ (v : ℕ). InOwner (graph_of ns es) (reference_at t v)) (sym z) (source_mark.in_owner (subst (λ (v : ℕ). is_met t v ≡ true) z y))).small;
          }

NoneOf : Option Reference → Type 0
NoneOf none = Unit {0}
NoneOf (some x) = ⊥

none-some : {x : Reference} → none ≡ some x → ⊥
unfolding NoneOf
none-some q = subst NoneOf q tt

or_else : Reference → Option Reference → Reference
or_else x none = x
or_else x (some y) = y

some_same : {x y : Reference} → some x ≡ some y → x ≡ y
unfolding or_else
some_same {x} q = ap (or_else x) q

-- what an edge brings is what comes through it, where something has arrived at the node that it leaves
pub crossing_part : (g : Graph) (e : Edge) (f p : Reference) (s : List ℤ) → some p ≡ crossing g e f s
    → (is_met s (nat_abs e.from) ≡ true) × (T (not (is_none (through (bit_offset g e) f (reference_at s (nat_abs e.from)))))) × (p ≡ through (bit_offset g e) f (reference_at s (nat_abs e.from)))
crossing_part g e f p s q =
    go (is_met s (nat_abs e.from)) (is_none (through (bit_offset g e) f (reference_at s (nat_abs e.from)))) q
  where
    go : (a b : Bool) → some p ≡ cond a (cond b none (some (through (bit_offset g e) f (reference_at s (nat_abs e.from))))) none
        → (a ≡ true) × T (not b) × (p ≡ through (bit_offset g e) f (reference_at s (nat_abs e.from)))
    go true true q = absurd (none-some (sym q))
    go true false q = (refl, tt, some_same q)
    go false b q = absurd (none-some (sym q))

-- and nothing, where it brings none
pub crossing_nothing : (g : Graph) (e : Edge) (f : Reference) (s : List ℤ) → none ≡ crossing g e f s → is_met s (nat_abs e.from) ≡ true
    → T (is_none (through (bit_offset g e) f (reference_at s (nat_abs e.from))))
crossing_nothing g e f s q m =
    go (is_met s (nat_abs e.from)) (is_none (through (bit_offset g e) f (reference_at s (nat_abs e.from)))) q m
  where
    go : (a b : Bool) → none ≡ cond a (cond b none (some (through (bit_offset g e) f (reference_at s (nat_abs e.from))))) none → a ≡ true → T b
    go true true q m = tt
    go true false q m = absurd (none-some q)
    go false b q m = absurd (not_both m refl)
