-- The edges that can still reach the leaf, linked by one pass from the last edge to the first.
use mathlib.Core.Path.{◌≡◌, refl, sym, ap, subst, ◌∙◌}
use mathlib.Core.Bool.{Bool, true, false, cond}
use mathlib.Core.List.{List, ◌++◌, map}
use mathlib.Core.Logic.{◌≢◌}
use Prim.Native.Nat.{ℕ, suc, ◌/◌, ◌≤◌, ◌<◌}
use native.Mathlib.Omega.{arith}
use lib.Dec.{T, ltb, eqb}
use lib.IntN.{ℤ, pos}
use lib.ListN.{length, get_or, drop, set, replicate, length-set, length-replicate, length-append, length-drop, length-map, get_or-replicate, get_or-append}
use lib.Seq.{get_or-set_same, get_or-set_other, drop-set-lt, drop_at}
use Rattle.integers.specs.Integers.{eq_z}
use Rattle.integers.proofs.Linear.{ints}
use Rattle.integers.proofs.Tests.{Test, passed, failed, eq_z?, eq?, ltb?, is_true, is_false, of_test, test_of, and_in, and_out}
use Rattle.lists.proofs.Places.{map_at}
use Rattle.model.specs.Limits.{node_width, edge_width}
use Rattle.model.specs.Rows.{Edge, edge_rows}
use Rattle.model.specs.Graph.{graph_of}
use Rattle.model.specs.Taken.{TakenTables}
use Rattle.tables.specs.Tables.{edge_at}
use Rattle.tables.proofs.Rows.{nodes_length, edges_length, edges_at}
use Rattle.reach.specs.Links.{first_row, count_at, matters, heads_of, nexts_of, Linked, Linkable}
use Rattle.reach.proofs.Values.{front_same, values-front}
use Rattle.reach.proofs.FirstRow.{first_row-step, first_row_end}
use Rattle.reach.proofs.Ends.{Ends, edge_ends, from-below}

-- ---- which edges matter

-- an edge that matters for v leaves v
pub matters-from : (counts : List ℕ) (v : ℤ) (e : Edge) → T (matters counts v e) → e.from ≡ v
unfolding matters
matters-from counts v e t = test_of (eq_z? e.from v) (and_out (eq_z e.from v) (ltb 0 (count_at counts e.to)) t).0

-- so an edge that leaves another node does not
matters-other : (counts : List ℕ) (v : ℤ) (e : Edge) → e.from ≢ v → matters counts v e ≡ false
matters-other counts v e n = is_false (matters counts v e) (λ t. n (matters-from counts v e t))

-- nor does one that enters a node whose count is 0
matters_dead : (counts : List ℕ) (v : ℤ) (e : Edge) → count_at counts e.to ≡ 0 → matters counts v e ≡ false
unfolding matters
matters_dead counts v e z =
    is_false (matters counts v e)
    (λ t. let k = test_of (ltb? 0 (count_at counts e.to)) (and_out (eq_z e.from v) (ltb 0 (count_at counts e.to)) t).1 in omega (arith, k))

-- every other does
matters_live : (counts : List ℕ) (e : Edge) → 0 < count_at counts e.to → matters counts e.from e ≡ true
unfolding matters
matters_live counts e h =
    is_true (matters counts e.from e)
    (and_in (eq_z e.from e.from) (ltb 0 (count_at counts e.to)) (of_test (eq_z? e.from e.from) (λ n. n refl))
    (of_test (ltb? 0 (count_at counts e.to)) (λ k. omega (arith, h, k))))

-- the count of a node, by its index
count_at_index : (counts : List ℕ) {v : ℤ} (i : ℕ) → pos i ≡ v → count_at counts v ≡ get_or counts i 0
unfolding count_at
count_at_index counts i e = ap (count_at counts) (sym e)

-- ---- one pass from the last edge to the first

module _ (ns es : List ℤ) (counts : List ℕ) where
  -- the first edge from row k on that leaves v and matters
  abbrev pub first_from : ℤ → ℕ → ℕ
  first_from v k = first_row (matters counts v) k (edge_rows es)

  -- row k, where it is an edge row
  first_step : (v : ℤ) (k : ℕ) (t : Bool) → k < length es / edge_width → matters counts v (edge_at es k) ≡ t → first_from v k ≡ cond t k (first_from v (suc k))
  first_step v k t h e =
      first_row-step (matters counts v) (edge_at es k) k (edge_rows es) (omega (arith, edges_length es))
      ∙ ap (λ d. cond (matters counts v d) k (first_from v (suc k))) (edges_at es k (edge_at es k) (omega arith))
      ∙ ap (λ s. cond s k (first_from v (suc k))) e

  -- the state between two turns: rows k and on are passed; past the nodes and the edges stands what stood there at the start
  pub record Linking (head₀ next₀ head next : List ℕ) (k : ℕ) : Type 0 where
    pub tables : TakenTables ns es
    pub within : k ≤ length es / edge_width
    pub node_room : length ns / node_width ≤ length head
    pub edge_room : length es / edge_width ≤ length next
    pub heads : (v : ℕ) → v < length ns / node_width → get_or head v 0 ≡ first_from (pos v) k
    pub nexts : (e : ℕ) → k ≤ e → e < length es / edge_width → get_or next e 0 ≡ first_from (edge_at es e).from (suc e)
    pub head_size : length head ≡ length head₀
    pub next_size : length next ≡ length next₀
    pub head_kept : drop (length ns / node_width) head ≡ drop (length ns / node_width) head₀
    pub next_kept : drop (length es / edge_width) next ≡ drop (length es / edge_width) next₀

  -- the state at a row written otherwise
  pub linking_at : {head₀ next₀ head next : List ℕ} {i : ℕ} (k : ℕ) → i ≡ k → Linking head₀ next₀ head next i → Linking head₀ next₀ head next k
  linking_at {head₀} {next₀} {head} {next} k e s = subst (λ (j : ℕ). Linking head₀ next₀ head next j) e s

  -- before the first turn every head is the number of edges
  pub link_start : {head next : List ℕ} → Linkable ns es counts head next
      → Linking (replicate (length ns / node_width) (length es / edge_width) ++ drop (length ns / node_width) head) next
      (replicate (length ns / node_width) (length es / edge_width) ++ drop (length ns / node_width) head) next (length es / edge_width)
  link_start {head} {next} c =
      let n = length ns / node_width in
      let m = length es / edge_width in
      record {
        tables = c.tables;
        within = omega arith;
        node_room =
            omega
            (arith, length-append (replicate n m) (drop n head), length-replicate n m, length-drop n head, c.node_room, nodes_length ns);
        edge_room = omega (arith, c.edge_room, edges_length es);
        heads = λ v h.
            get_or-append (replicate n m) (drop n head) 0 v (omega (arith, length-replicate n m))
            ∙ get_or-replicate n v m 0 h
            ∙ sym (first_row_end (matters counts (pos v)) m (edge_rows es) (omega (arith, edges_length es)) ∙ edges_length es);
        nexts = λ e h k. absurd (omega arith);
        head_size = refl;
        next_size = refl;
        head_kept = refl;
        next_kept = refl;
      }

  module _ {head₀ next₀ head next : List ℕ} {k : ℕ} (s : Linking head₀ next₀ head next (suc k)) (from to : ℕ)
      (q : pos from ≡ (edge_at es k).from) (r : pos to ≡ (edge_at es k).to)
    where
      ends : Ends ns es k
      ends = edge_ends ns es s.tables k (omega (arith, s.within))

      -- the edge's link is the head of the node that it leaves
      link_nexts : (e : ℕ) → k ≤ e → e < length es / edge_width → get_or (set next k (get_or head from 0)) e 0 ≡ first_from (edge_at es e).from (suc e)
      link_nexts e h j = go (eqb e k) (eq? e k)
        where
          go : (t : Bool) → Test (e ≡ k) (e ≢ k) t → get_or (set next k (get_or head from 0)) e 0 ≡ first_from (edge_at es e).from (suc e)
          go true (passed z) =
              rw z (get_or-set_same next k (get_or head from 0) 0 (omega (arith, s.edge_room))
              ∙ s.heads from (from-below ends from q)
              ∙ ap (λ v. first_from v (suc k)) q)
          go false (failed z) = get_or-set_other next k e (get_or head from 0) 0 z ∙ s.nexts e (omega arith) j

      -- heads of other nodes stay
      head_other : (v : ℕ) → v ≢ from → first_from (pos v) k ≡ first_from (pos v) (suc k)
      head_other v n =
          first_step (pos v) k false (omega (arith, s.within))
          (matters-other counts (pos v) (edge_at es k) (λ z. let y : pos from ≡ pos v = q ∙ z in n (omega (arith, ints, y))))

      -- a turn in which the heads become head'
      link_next : (head' : List ℕ) → length head' ≡ length head → drop (length ns / node_width) head' ≡ drop (length ns / node_width) head
          → ((v : ℕ) → v < length ns / node_width → get_or head' v 0 ≡ first_from (pos v) k)
          → Linking head₀ next₀ head' (set next k (get_or head from 0)) k
      link_next head' l d h =
          let edge = length-set next k (get_or head from 0) in
          record {
            tables = s.tables;
            within = omega (arith, s.within);
            node_room = omega (arith, l, s.node_room);
            edge_room = omega (arith, edge, s.edge_room);
            heads = h;
            nexts = link_nexts;
            head_size = l ∙ s.head_size;
            next_size = edge ∙ s.next_size;
            head_kept = d ∙ s.head_kept;
            next_kept = drop-set-lt (length es / edge_width) next k (get_or head from 0) (omega (arith, s.within)) ∙ s.next_kept;
          }

      -- an edge that enters a node whose count is 0 is left out
      pub link_dead : get_or counts to 0 ≡ 0 → Linking head₀ next₀ head (set next k (get_or head from 0)) k
      link_dead z =
          link_next head refl refl
          (λ v h. s.heads v h
          ∙ sym (first_step (pos v) k false (omega (arith, s.within)) (matters_dead counts (pos v) (edge_at es k) (count_at_index counts to r ∙ z))))

      -- any other becomes the head of the node that it leaves
      pub link_live : get_or counts to 0 ≢ 0 → Linking head₀ next₀ (set head from k) (set next k (get_or head from 0)) k
      link_live z =
          link_next (set head from k) (length-set head from k) (drop-set-lt (length ns / node_width) head from k (from-below ends from q))
          (λ v h. at v h (eqb v from) (eq? v from))
        where
          live : matters counts (pos from) (edge_at es k) ≡ true
          live =
              ap (λ v. matters counts v (edge_at es k)) q
              ∙ matters_live counts (edge_at es k) (rw (count_at_index counts to r) (omega (arith, z)))

          at : (v : ℕ) → v < length ns / node_width → (t : Bool) → Test (v ≡ from) (v ≢ from) t → get_or (set head from k) v 0 ≡ first_from (pos v) k
          at v h true (passed y) =
              rw y
              (get_or-set_same head from k 0 (omega (arith, s.node_room, from-below ends from q))
              ∙ sym (first_step (pos from) k true (omega (arith, s.within)) live))
          at v h false (failed y) = get_or-set_other head from v k 0 y ∙ s.heads v h ∙ sym (head_other v y)

  -- behind the last turn
  pub link_end : {head₀ next₀ head next : List ℕ} (old : List ℕ) → Linking head₀ next₀ head next 0
      → head₀ ≡ replicate (length ns / node_width) (length es / edge_width) ++ drop (length ns / node_width) old → Linked counts (graph_of ns es) old next₀ head next
  unfolding graph_of heads_of nexts_of
  link_end {head₀} {next₀} {head} {next} old s z =
      let n = length ns / node_width in
      let m = length es / edge_width in
      record {
        heads =
            values-front (λ v. first_from (pos v) 0) 0 n head s.node_room s.heads
            ∙ ap (λ t. heads_of counts (edge_rows es) n ++ t)
            (s.head_kept ∙ ap (drop n) z ∙ drop_at (replicate n m) (drop n old) n (length-replicate n m))
            ∙ ap (λ k. heads_of counts (edge_rows es) k ++ drop k old) (sym (nodes_length ns));
        nexts =
            front_same 0 next (nexts_of counts (edge_rows es)) m (length-map (edge_rows es) link ∙ edges_length es) s.edge_room at
            ∙ ap (λ t. nexts_of counts (edge_rows es) ++ t) s.next_kept
            ∙ ap (λ k. nexts_of counts (edge_rows es) ++ drop k next₀) (sym (edges_length es));
      }
    where
      link : Edge → ℕ
      link e = first_from e.from (suc e.row)

      at : (e : ℕ) → e < length es / edge_width → get_or next e 0 ≡ get_or (map link (edge_rows es)) e 0
      at e h =
          s.nexts e (omega arith) h
          ∙ sym (map_at link (edge_rows es) e 0 (edge_at es e) (omega (arith, edges_length es)) ∙ ap link (edges_at es e (edge_at es e) (omega arith)))
