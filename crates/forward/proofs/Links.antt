-- The edges that enter each node, linked by one pass from the last edge to the first.
use Rattle.std.proofs.Common.{add-zero}
use Rattle.std.proofs.lemmas.List.{get_or-drop, get_or-append_right}
use Rattle.std.proofs.lemmas.Slice.{take-put_mid, take-put_mid_below, drop-put_mid}
use borrow.Rule.Slice.PartMut.{put_mid, same_len_mid}
use mathlib.Core.Path.{◌≡◌, refl, sym, ap, subst, ◌∙◌}
use mathlib.Core.Bool.{Bool, true, false, cond}
use mathlib.Core.List.{List}
use mathlib.Core.Logic.{◌≢◌, inl, inr, ⊎_elim}
use Prim.Native.Nat.{ℕ, suc, ◌+◌, ◌-◌, ◌/◌, ◌≤◌, ◌<◌}
use native.Mathlib.Omega.{arith}
use lib.Dec.{eqb}
use lib.IntN.{ℤ, pos}
use lib.ListN.{length, get_or, set, take, drop, replicate, length-set, length-take, length-drop, length-replicate, get_or-replicate}
use lib.Seq.{get_or-take, get_or-set_same, get_or-set_other}
use Rattle.integers.specs.Integers.{eq_z}
use Rattle.integers.proofs.Linear.{ints}
use Rattle.integers.proofs.Tests.{Test, passed, failed, eq_z?, eq?, is_true, is_false, of_test, test_of}
use Rattle.model.specs.Limits.{node_width, edge_width, max_nodes, max_edges}
use Rattle.model.specs.Rows.{edge_rows}
use Rattle.model.specs.Taken.{TakenTables}
use Rattle.tables.specs.Tables.{edge_at}
use Rattle.tables.proofs.Rows.{nodes_length, edges_length, edges_at}
use Rattle.reach.specs.Links.{first_row}
use Rattle.reach.proofs.FirstRow.{first_row-step, first_row_end}
use Rattle.reach.proofs.Ends.{edge_ends, to_below}
use Rattle.entering.specs.Entering.{enters}
use Rattle.forward.specs.Forward.{head_at, next_at, count_at, plan_room}
use Rattle.forward.specs.Passes.{SameBut, HeadsSet, Linkable, EnteringLinked}

-- ---- lists that differ in a part alone

-- a list and itself
same_start : (a b : ℕ) (l : List ℕ) → SameBut a b l l
same_start a b l = record { size = refl; others = λ i h. refl }

module _ {a : ℕ} {l m : List ℕ} where
  -- a store in the part
  same_set : {b : ℕ} (i x : ℕ) → a ≤ i → i < b → SameBut a b l m → SameBut a b l (set m i x)
  same_set i x low high s =
      record {
        size = length-set m i x ∙ s.size;
        others = λ j h. get_or-set_other m i j x 0 (λ e. ⊎_elim (λ k. omega (arith, k)) (λ k. omega (arith, k)) h) ∙ s.others j h;
      }

  -- the part is within a wider one
  same_wider : {b : ℕ} (c : ℕ) → b ≤ c → SameBut a b l m → SameBut a c l m
  same_wider c h s = record { size = s.size; others = λ j k. s.others j (⊎_elim inl (λ n. inr (omega (arith, h, n))) k) }

  -- one change after another
  same_then : {b : ℕ} {n : List ℕ} → SameBut a b l m → SameBut a b m n → SameBut a b l n
  same_then s t = record { size = t.size ∙ s.size; others = λ j k. t.others j k ∙ s.others j k }

-- ---- heads that are all set to a value

-- their part of the plan is filled
pub heads-filled : (count value k : ℕ) (plan ys : List ℕ) → head_at + count ≤ length plan → k ≡ count → ys ≡ replicate count value
    → HeadsSet count value plan (put_mid head_at k plan ys)
heads-filled count value k plan ys room e f =
    let all = put_mid head_at k plan ys in
    let long : length ys ≡ count = ap length f ∙ length-replicate count value in
    let inside : head_at ≤ length plan = omega arith in
    record {
      each = λ v h.
          sym (get_or-take (head_at + length ys) all (head_at + v) 0 (omega (arith, h, long)))
          ∙ ap (λ l. get_or l (head_at + v) 0) (take-put_mid head_at k plan ys (head_at + length ys) refl inside)
          ∙ get_or-append_right (take head_at plan) ys head_at (head_at + v) 0 (omega (arith, inside, length-take head_at plan)) (omega arith)
          ∙ ap (λ l. get_or l (head_at + v - head_at) 0) f
          ∙ get_or-replicate count (head_at + v - head_at) value 0 (omega (arith, h));
      same = record {
        size = same_len_mid head_at k plan ys (omega (arith, room, e, long, length-take k (drop head_at plan), length-drop head_at plan));
        others = λ i h.
            ⊎_elim
            (λ low.
            sym (get_or-take head_at all i 0 low)
            ∙ ap (λ l. get_or l i 0) (take-put_mid_below head_at k plan ys head_at (omega arith) inside)
            ∙ get_or-take head_at plan i 0 low)
            (λ high.
            at i all
            ∙ ap (λ l. get_or l 0 0) (drop-put_mid head_at k plan ys i (omega (arith, high, e)) inside (omega (arith, long, e)))
            ∙ sym (at i plan))
            h;
      };
    }
  where
    -- what stands at a place is the first of what stands from there on
    at : (i : ℕ) (l : List ℕ) → get_or l i 0 ≡ get_or (drop i l) 0 0
    at i l = sym (get_or-drop i l 0 0 ∙ ap (λ j. get_or l j 0) (add-zero i))

-- ---- one pass from the last edge to the first

module _ (ns es : List ℤ) where
  -- the first edge from row k on that enters v
  abbrev first_from : ℤ → ℕ → ℕ
  first_from v k = first_row (enters v) k (edge_rows es)

  -- row k, where it is an edge row
  first_step : (v : ℤ) (k : ℕ) (t : Bool) → k < length es / edge_width → enters v (edge_at es k) ≡ t → first_from v k ≡ cond t k (first_from v (suc k))
  first_step v k t h e =
      first_row-step (enters v) (edge_at es k) k (edge_rows es) (omega (arith, edges_length es))
      ∙ ap (λ d. cond (enters v d) k (first_from v (suc k))) (edges_at es k (edge_at es k) (omega arith))
      ∙ ap (λ s. cond s k (first_from v (suc k))) e

  -- it is the first that enters its own node
  first-own : (v : ℤ) (k : ℕ) → k < length es / edge_width → (edge_at es k).to ≡ v → first_from v k ≡ k
  unfolding enters
  first-own v k h q = first_step v k true h (is_true (eq_z (edge_at es k).to v) (of_test (eq_z? (edge_at es k).to v) (λ n. n q)))

  -- and does not enter any other
  first-other : (v : ℤ) (k : ℕ) → k < length es / edge_width → (edge_at es k).to ≢ v → first_from v k ≡ first_from v (suc k)
  unfolding enters
  first-other v k h n = first_step v k false h (is_false (eq_z (edge_at es k).to v) (λ t. n (test_of (eq_z? (edge_at es k).to v) t)))

  -- the state between two turns: rows k and on are passed
  pub record Linking (start plan : List ℕ) (k : ℕ) : Type 0 where
    pub tables : TakenTables ns es
    pub within : k ≤ length es / edge_width
    pub room : length plan ≡ plan_room
    pub heads : (v : ℕ) → v < length ns / node_width → get_or plan (head_at + v) 0 ≡ first_from (pos v) k
    pub nexts : (e : ℕ) → k ≤ e → e < length es / edge_width → get_or plan (next_at + e) 0 ≡ first_from (edge_at es e).to (suc e)
    pub same : SameBut head_at count_at start plan

  -- the state at a row written otherwise
  pub linking_at : {start plan : List ℕ} {i : ℕ} (k : ℕ) → i ≡ k → Linking start plan i → Linking start plan k
  linking_at {start} {plan} k e s = subst (λ (j : ℕ). Linking start plan j) e s

  -- before the first turn every head is the number of edges
  pub link_start : {old plan : List ℕ} → Linkable ns es old → HeadsSet (length ns / node_width) (length es / edge_width) old plan → Linking plan plan (length es / edge_width)
  link_start {plan = plan} c h =
      record {
        tables = c.tables;
        within = omega arith;
        room = h.same.size ∙ c.room;
        heads = λ v k.
            h.each v k ∙ sym (first_row_end (enters (pos v)) (length es / edge_width) (edge_rows es) (omega (arith, edges_length es)) ∙ edges_length es);
        nexts = λ e k j. absurd (omega (arith, k, j));
        same = same_start head_at count_at plan;
      }

  module _ {start plan : List ℕ} {k : ℕ} (s : Linking start plan (suc k)) (to : ℕ) (q : pos to ≡ (edge_at es k).to) where
    -- the edge of a turn is a row, and it enters a node
    row_within : (k < length es / edge_width) × (k < max_edges)
    row_within = (omega (arith, s.within), omega (arith, s.within, s.tables.edges.few))

    -- nodes have their heads before the links
    node-within : (v : ℕ) → v < length ns / node_width → v < max_nodes
    node-within v h = omega (arith, s.tables.nodes.few)

    -- so has the node that the edge enters
    to-within : (to < length ns / node_width) × (to < max_nodes)
    to-within =
        let h = to_below (edge_ends ns es s.tables k row_within.0) to q in
        (h, node-within to h)

    -- the plan has a place for its head and for its link
    pub link_within : (head_at + to < length plan) × (next_at + k < length plan)
    link_within = (omega (arith, s.room, to-within), omega (arith, s.room, row_within))

    -- the plan once the edge's link is the head of the node that it enters, then once the edge is that head
    abbrev linked : List ℕ
    linked = set plan (next_at + k) (get_or plan (head_at + to) 0)

    abbrev headed : List ℕ
    headed = set linked (head_at + to) k

    -- the heads, by whether it is that of the node that the edge enters
    head_at_lem : (v : ℕ) → v < length ns / node_width → (t : Bool) → Test (v ≡ to) (v ≢ to) t → get_or headed (head_at + v) 0 ≡ first_from (pos v) k
    head_at_lem v h true (passed e) =
        rw e
        (get_or-set_same linked (head_at + to) k 0 (omega (arith, link_within.0, length-set plan (next_at + k) (get_or plan (head_at + to) 0)))
        ∙ sym (first-own (pos to) k row_within.0 (sym q)))
    head_at_lem v h false (failed n) =
        get_or-set_other linked (head_at + to) (head_at + v) k 0 (λ e. n (omega (arith, e)))
        ∙ get_or-set_other plan (next_at + k) (head_at + v) (get_or plan (head_at + to) 0) 0 (λ e. omega (arith, e, node-within v h))
        ∙ s.heads v h
        ∙ sym (first-other (pos v) k row_within.0 (λ z. let y : pos to ≡ pos v = q ∙ z in n (omega (arith, ints, y))))

    -- the links, by whether it is that of the edge
    next-at : (e : ℕ) → k ≤ e → e < length es / edge_width → (t : Bool) → Test (e ≡ k) (e ≢ k) t → get_or headed (next_at + e) 0 ≡ first_from (edge_at es e).to (suc e)
    next-at e h j t w = get_or-set_other linked (head_at + to) (next_at + e) k 0 (λ z. omega (arith, z, to-within)) ∙ go t w
      where
        go : (t : Bool) → Test (e ≡ k) (e ≢ k) t → get_or (set plan (next_at + k) (get_or plan (head_at + to) 0)) (next_at + e) 0 ≡ first_from (edge_at es e).to (suc e)
        go true (passed z) =
            rw z
            (get_or-set_same plan (next_at + k) (get_or plan (head_at + to) 0) 0 link_within.1
            ∙ s.heads to to-within.0
            ∙ ap (λ v. first_from v (suc k)) q)
        go false (failed z) =
            get_or-set_other plan (next_at + k) (next_at + e) (get_or plan (head_at + to) 0) 0 (λ y. z (omega (arith, y))) ∙ s.nexts e (omega (arith, h, z)) j

    -- one turn
    pub link_next : Linking start (set (set plan (next_at + k) (get_or plan (head_at + to) 0)) (head_at + to) k) k
    link_next =
        let x = get_or plan (head_at + to) 0 in
        record {
          tables = s.tables;
          within = omega (arith, s.within);
          room = length-set linked (head_at + to) k ∙ length-set plan (next_at + k) x ∙ s.room;
          heads = λ v h. head_at_lem v h (eqb v to) (eq? v to);
          nexts = λ e h j. next-at e h j (eqb e k) (eq? e k);
          same = same_set (head_at + to) k (omega arith) (omega (arith, to-within)) (same_set (next_at + k) x (omega arith) (omega (arith, row_within)) s.same);
        }

  -- behind the last turn
  pub link_end : {old start plan : List ℕ} → HeadsSet (length ns / node_width) (length es / edge_width) old start → Linking start plan 0 → EnteringLinked ns es old plan
  link_end h s =
      record {
        heads = λ v k. s.heads v (omega (arith, k, nodes_length ns));
        nexts = λ e k. s.nexts e (omega arith) (omega (arith, k, edges_length es));
        same = same_then (same_wider count_at (omega (arith, s.tables.nodes.few)) h.same) s.same;
      }
