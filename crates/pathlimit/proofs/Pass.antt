-- The pass over the edges of a plan, each behind all edges that enter the node it leaves, counts the paths from a root, turn by turn, over the lists that
-- the code has.
use mathlib.Core.Path.{◌≡◌, refl, sym, ap, ◌∙◌}
use mathlib.Core.List.Memᴰ
use mathlib.Core.List.{List, [], ◌∷◌}
use mathlib.Core.Logic.{⊎_elim}
use Prim.Native.Nat.{ℕ, ◌+◌, ◌/◌, ◌≤◌, ◌<◌}
use native.Mathlib.Numerals.{add-one}
use native.Mathlib.Omega.{arith}
use lib.IntN.{ℤ, pos}
use lib.ListN.{length, get_or, set, take, drop, length-set, length-map, length-take}
use lib.Seq.{get_or-take}
use Rattle.integers.proofs.Linear.{ints}
use Rattle.lists.proofs.Places.{map_at}
use Rattle.model.specs.Limits.{node_width, max_paths}
use Rattle.model.specs.Rows.{Edge, edge_rows}
use Rattle.model.specs.Graph.{graph_of}
use Rattle.tables.specs.Tables.{edge_at}
use Rattle.tables.proofs.Rows.{nodes_length, edges_length}
use Rattle.model.proofs.Paths.{edges-distinct}
use Rattle.reach.specs.Counting.{path_count, stopped}
use Rattle.reach.proofs.Counting.{count-leaf}
use Rattle.reach.proofs.Ends.{Ends, edge_ends, from-below, to_below, row_below}
use Rattle.reach.proofs.Pass.{begun}
use Rattle.reach.proofs.Sweep.{CutBy, cut-start, cut_on, Counts, Swept, swept_start, swept_stopped, swept_whole, swept_next}
use Rattle.reach.proofs.Turns.{drop_head}
use Rattle.entering.specs.Entering.{enters, entering}
use Rattle.entering.proofs.Counts.{count-entering}
use Rattle.forward.specs.Forward.{Forward, planned_count, planned_of}
use Rattle.pathlimit.specs.Counting.{Countable, Counted}

module _ (ns es : List ℤ) (plan : List ℕ) (root : ℕ) where
  -- what is counted of node v: its paths from the root
  abbrev paths_to : ℤ → ℕ
  paths_to v = path_count (graph_of ns es) (pos root) v

  -- the edges of the plan, cut into those before and those ahead
  abbrev PlanCut : List Edge → List Edge → Type 0
  PlanCut before ahead = CutBy (Forward (edge_rows es)) (planned_of es plan) before ahead

  -- the state between two turns: i edges are passed, and the counts are those by the edges before
  pub record Passed (start counts : List ℕ) (i : ℕ) : Type 0 where
    pub before : List Edge
    pub ahead : List Edge
    pub cut : PlanCut before ahead
    pub left : i + length ahead ≡ planned_count plan
    pub rows : drop i (planned_of es plan) ≡ ahead
    pub swept : Swept (λ e. e.to) (λ e. e.from) paths_to root (length ns / node_width) before counts
    pub size : length counts ≡ length start

  module _ {old : List ℕ} (c : Countable ns es plan root old) where
    -- the paths to a node come over the edges that enter it
    counts-entering : Counts (λ e. e.to) (λ e. e.from) paths_to (pos root) (edge_rows es)
    unfolding graph_of entering enters
    counts-entering =
        let k = c.tables.graph in
        record {
          once = edges-distinct es;
          one = count-leaf (graph_of ns es) (pos root);
          bare = c.top.unentered;
          step = λ v n. count-entering k.acyclic k.short (λ e. n (sym e));
        }

    -- the plan has as many edges as it says
    passed_length : length (planned_of es plan) ≡ planned_count plan
    passed_length =
        length-map (take (planned_count plan) plan) (edge_at es) ∙ omega (arith, length-take (planned_count plan) plan, c.planned.few, c.planned.room)

    -- the root is a node row
    pub root_below : root < length ns / node_width
    root_below = omega (arith, ints, row_below ns es c.top.row)

    -- there is a count for each node
    pub count_room : length ns / node_width ≤ length old
    count_room = omega (arith, c.room, nodes_length ns)

    -- before the first turn
    pub pass_start : Passed (begun (length ns / node_width) root old) (begun (length ns / node_width) root old) 0
    pass_start =
        record {
          before = [];
          ahead = planned_of es plan;
          cut = cut-start c.planned.forward c.planned.distinct (λ e m. m) (λ e m. m);
          left = omega (arith, passed_length);
          rows = refl;
          swept = swept_start (λ e. e.to) (λ e. e.from) paths_to root (length ns / node_width) (drop (length ns / node_width) old) root_below;
          size = refl;
        }

    module _ {start counts : List ℕ} {i : ℕ} (p : Passed start counts i) where
      -- the counts of nodes are stopped
      pub turn_stopped : (v : ℕ) → v < length ns / node_width → get_or counts v 0 ≤ max_paths + 1
      turn_stopped = swept_stopped (λ e. e.to) (λ e. e.from) paths_to root (length ns / node_width) p.swept

      module _ (h : i < planned_count plan) where
        -- the plan has a row for the turn
        pub turn_within : i < length plan
        turn_within = omega (arith, h, c.planned.few, c.planned.room)

        -- the ends of its edge are nodes
        pub turn_ends : Ends ns es (get_or plan i 0)
        turn_ends = edge_ends ns es c.tables (get_or plan i 0) (omega (arith, c.planned.there i h, edges_length es))

        module _ (from to : ℕ) (q : pos from ≡ (edge_at es (get_or plan i 0)).from) (r : pos to ≡ (edge_at es (get_or plan i 0)).to) where
          -- the count of the node that the edge leaves is added to that of the node that it enters
          pub pass_next : Passed start (set counts to (stopped (get_or counts to 0 + get_or counts from 0))) (i + 1)
          pass_next = go p.ahead p.cut p.left p.rows
            where
              go : (ahead : List Edge) → PlanCut p.before ahead → i + length ahead ≡ planned_count plan → drop i (planned_of es plan) ≡ ahead
                  → Passed start (set counts to (stopped (get_or counts to 0 + get_or counts from 0))) (i + 1)
              go [] cut left rows = absurd (omega arith)
              go (e ∷ rest) cut left rows =
                  let w = drop_head e (planned_of es plan) i rows in
                  let front : i < length (take (planned_count plan) plan) = omega (arith, h, length-take (planned_count plan) plan, c.planned.few, c.planned.room) in
                  let own : e ≡ edge_at es (get_or plan i 0) =
                  sym w.1 ∙ map_at (edge_at es) (take (planned_count plan) plan) i e 0 front ∙ ap (edge_at es) (get_or-take (planned_count plan) plan i 0 h) in
                  record {
                    before = e ∷ p.before;
                    ahead = rest;
                    cut = cut_on cut cut.ordered.1;
                    left = omega (arith, left);
                    rows = rw add-one w.2;
                    swept =
                        swept_next (λ e. e.to) (λ e. e.from) paths_to root (length ns / node_width) counts-entering cut.passed-once
                        (λ f m. c.planned.inside f (cut.passed_in f m)) p.swept to from
                        (c.planned.inside e (cut.ahead_in e (Memᴰ.head refl))) (r ∙ ap (λ d. d.to) (sym own)) (q ∙ ap (λ d. d.from) (sym own))
                        (to_below turn_ends to r) (from-below turn_ends from q) cut.ordered.0;
                    size = length-set counts to _ ∙ p.size;
                  }

      -- behind the last turn
      pub pass_end : planned_count plan ≤ i → Counted ns es plan root counts
      pass_end h = go p.ahead p.cut p.left
        where
          go : (ahead : List Edge) → PlanCut p.before ahead → i + length ahead ≡ planned_count plan → Counted ns es plan root counts
          go (e ∷ rest) cut left = absurd (omega arith)
          go [] cut left = record {
            each = λ v k w.
                swept_whole (λ e. e.to) (λ e. e.from) paths_to root (length ns / node_width) counts-entering cut.passed-once (λ f m. c.planned.inside f (cut.passed_in f m))
                p.swept v (omega (arith, k, nodes_length ns))
                (λ f m e. ⊎_elim (λ j. j) (λ j. absurd (Memᴰ.not-nil j)) (cut.whole f (w f m e)));
          }
