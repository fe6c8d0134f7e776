-- The pass over the edges of taken tables in backward order, turn by turn, over the lists that the code has.
use mathlib.Core.Path.{◌≡◌, refl, sym, ap, ◌∙◌}
use mathlib.Core.List.Memᴰ
use mathlib.Core.List.{List, ◌++◌}
use mathlib.Core.Logic.{⊎_elim}
use Prim.Native.Nat.{ℕ, ◌+◌, ◌/◌, ◌≤◌, ◌<◌}
use native.Mathlib.Omega.{arith}
use lib.IntN.{ℤ, pos}
use lib.ListN.{length, get_or, take, drop, set, replicate, length-set, length-replicate}
use lib.Seq.{drop-set-lt, drop_at}
use Rattle.integers.proofs.Linear.{ints}
use Rattle.model.specs.Limits.{node_width, edge_width, max_paths}
use Rattle.model.specs.Rows.{edge_rows}
use Rattle.model.specs.Graph.{graph_of}
use Rattle.model.specs.Paths.{Leaf}
use Rattle.model.specs.Runs.{leaving}
use Rattle.model.proofs.Paths.{edges-distinct}
use Rattle.model.proofs.Taken.{taken-fit}
use Rattle.tables.specs.Tables.{edge_at}
use Rattle.tables.proofs.Rows.{nodes_length}
use Rattle.reach.specs.Counting.{path_count, stopped, counts_of, counts_over, Countable}
use Rattle.reach.proofs.Sweep.{Counts, Swept, swept_start, swept_stopped, swept_whole, swept_next}
use Rattle.reach.proofs.Counting.{count-leaf, count-step}
use Rattle.reach.proofs.Values.{values-front}
use Rattle.reach.proofs.Turns.{Between, between_start, between_next, between_end, turn, turn_ends, turn_from, turn_to}
use Rattle.reach.proofs.Ends.{Ends, from-below, to_below, row_below}

-- the leaf is a node row
pub leaf-below : (ns es : List ℤ) (leaf : ℕ) → Leaf (graph_of ns es) (pos leaf) → leaf < length ns / node_width
leaf-below ns es leaf b = omega (arith, ints, row_below ns es b.row)

-- counts before the pass: 1 at the leaf, 0 at the other nodes, and past them what stood there
abbrev pub begun : ℕ → ℕ → List ℕ → List ℕ
begun n leaf old = set (replicate n 0 ++ drop n old) leaf 1

begun_kept : (n leaf : ℕ) (old : List ℕ) → leaf < n → drop n (begun n leaf old) ≡ drop n old
begun_kept n leaf old h =
    drop-set-lt n (replicate n 0 ++ drop n old) leaf 1 h ∙ drop_at (replicate n 0) (drop n old) n (length-replicate n 0)

module _ (ns es : List ℤ) (order : List ℕ) (leaf : ℕ) where
  -- what is counted of node v: its paths to the leaf
  abbrev paths_from : ℤ → ℕ
  paths_from v = path_count (graph_of ns es) v (pos leaf)

  -- the state between two turns: the counts are those by the edges before, and past the nodes' counts stands what stood there at the start
  pub record Passed (start counts : List ℕ) (i : ℕ) : Type 0 where
    pub block : Leaf (graph_of ns es) (pos leaf)
    pub at : Between ns es order i
    pub swept : Swept (λ e. e.from) (λ e. e.to) paths_from leaf (length ns / node_width) at.before counts
    pub size : length counts ≡ length start
    pub kept : drop (length ns / node_width) counts ≡ drop (length ns / node_width) start

  -- before the first turn
  pub pass_start : {old : List ℕ} → Countable ns es order leaf old → Passed (begun (length ns / node_width) leaf old) (begun (length ns / node_width) leaf old) 0
  pass_start {old} c =
      record {
        block = c.block;
        at = between_start ns es order c.tables c.backward;
        swept = swept_start (λ e. e.from) (λ e. e.to) paths_from leaf (length ns / node_width) (drop (length ns / node_width) old) (leaf-below ns es leaf c.block);
        size = refl;
        kept = refl;
      }

  module _ {start counts : List ℕ} {i : ℕ} (p : Passed start counts i) where
    -- the counts of nodes are stopped
    pub turn_stopped : (v : ℕ) → v < length ns / node_width → get_or counts v 0 ≤ max_paths + 1
    turn_stopped = swept_stopped (λ e. e.from) (λ e. e.to) paths_from leaf (length ns / node_width) p.swept

    -- the paths from a node go on from the edges that leave it
    counts-leaving : Counts (λ e. e.from) (λ e. e.to) paths_from (pos leaf) (edge_rows es)
    unfolding graph_of leaving
    counts-leaving =
        let fit = taken-fit p.at.tables.graph p.block in
        record { once = edges-distinct es; one = count-leaf (graph_of ns es) (pos leaf); bare = fit.ends; step = λ v n. count-step fit n }

    module _ (from to : ℕ) (h : i < length (take (length es / edge_width) order))
        (q : pos from ≡ (edge_at es (get_or (take (length es / edge_width) order) i 0)).from)
        (r : pos to ≡ (edge_at es (get_or (take (length es / edge_width) order) i 0)).to)
      where
        ends : Ends ns es (get_or (take (length es / edge_width) order) i 0)
        ends = turn_ends ns es order p.at h

        -- the count of the node that the edge enters is added to that of the node that it leaves
        pub pass_next : Passed start (set counts from (stopped (get_or counts from 0 + get_or counts to 0))) (i + 1)
        pass_next =
            let sum = stopped (get_or counts from 0 + get_or counts to 0) in
            let f = from-below ends from q in
            let t = turn ns es order p.at h in
            let c = t.cut in
            record {
              block = p.block;
              at = between_next ns es order p.at h;
              swept =
                  swept_next (λ e. e.from) (λ e. e.to) paths_from leaf (length ns / node_width) counts-leaving c.passed-once c.passed_in p.swept from to
                  (c.ahead_in t.edge (Memᴰ.head refl)) (turn_from ns es order p.at from h q) (turn_to ns es order p.at to h r) f
                  (to_below ends to r) c.ordered.0;
              size = length-set counts from sum ∙ p.size;
              kept = drop-set-lt (length ns / node_width) counts from sum f ∙ p.kept;
            }

    -- behind the last turn
    pub pass_end : (old : List ℕ) → length (take (length es / edge_width) order) ≤ i → start ≡ begun (length ns / node_width) leaf old → counts ≡ counts_over (graph_of ns es) (pos leaf) old
    unfolding graph_of counts_over counts_of
    pass_end old h e =
        let n = length ns / node_width in
        let g = graph_of ns es in
        let c = between_end ns es order p.at h in
        values-front (λ v. stopped (paths_from (pos v))) 0 n counts p.swept.size
        (λ v k. swept_whole (λ e. e.from) (λ e. e.to) paths_from leaf n counts-leaving c.passed-once c.passed_in p.swept v k
        (λ f m q. ⊎_elim (λ j. j) (λ j. absurd (Memᴰ.not-nil j)) (c.whole f m)))
        ∙ ap (λ t. counts_of g (pos leaf) n ++ t) (p.kept ∙ ap (drop n) e ∙ begun_kept n leaf old (leaf-below ns es leaf p.block))
        ∙ ap (λ k. counts_of g (pos leaf) k ++ drop k old) (sym (nodes_length ns))
