-- The order of the edges of taken tables from the leaves up; where a pass over them stands between two turns, and the edge of a turn.
use mathlib.Core.Path.{◌≡◌, refl, sym, ap, subst, ◌∙◌}
use mathlib.Core.List.Memᴰ
use mathlib.Core.List.{List, [], ◌∷◌, ◌++◌, map}
use mathlib.Core.Logic.{⊎_elim}
use Prim.Native.Nat.{ℕ, zero, suc, ◌+◌, ◌/◌, ◌<◌, ◌≤◌}
use native.Mathlib.Nat.{le_antisymm}
use native.Mathlib.Numerals.{add-one}
use native.Mathlib.Omega.{arith}
use lib.IntN.{ℤ, pos}
use lib.ListN.{length, get_or, take, drop, length-map}
use lib.Seq.{take_at}
use Rattle.lists.specs.Lists.{Distinct}
use Rattle.model.specs.Limits.{edge_width}
use Rattle.lists.proofs.Distinct.{distinct_length}
use Rattle.model.specs.Rows.{Edge, edge_rows}
use Rattle.model.specs.Graph.{graph_of}
use Rattle.model.specs.Taken.{TakenTables}
use Rattle.model.proofs.Paths.{edges-distinct}
use Rattle.depth.specs.Order.{edge_order}
use Rattle.depth.proofs.Order.{order-backward, order_members, order-distinct}
use Rattle.tables.specs.Tables.{edge_at}
use Rattle.tables.proofs.Rows.{edges_length, edge_own}
use Rattle.reach.proofs.Sweep.{Cut, cut-start, cut-next}
use Rattle.reach.proofs.Ends.{Ends, edge_ends}

-- what stands at a place, and behind it, where a list from there on is known
pub drop_head : {A : Type 0} (d : A) (l : List A) (i : ℕ) {x : A} {rest : List A} → drop i l ≡ x ∷ rest
    → (i < length l) × (get_or l i d ≡ x) × (drop (suc i) l ≡ rest)
drop_head d [] zero e = absurd (let z : ◌≡◌ {A = ℕ} 0 1 = cc in omega arith)
drop_head d [] (suc i) e = absurd (let z : ◌≡◌ {A = ℕ} 0 1 = cc in omega arith)
drop_head d (y ∷ l) zero e = (omega arith, cc, cc)
drop_head d (y ∷ l) (suc i) e = let w = drop_head d l i e in (omega (arith, w.0), w.1, w.2)

-- the order from the leaves up has each edge of a taken graph once, behind all edges that leave the node it enters
pub order-cut : (ns es : List ℤ) → TakenTables ns es → Cut (edge_rows es) [] (edge_order (edge_rows es))
unfolding graph_of
order-cut ns es k =
    let same = order_members k.graph in
    cut-start (order-backward (edge_rows es)) (order-distinct (edges-distinct es)) (λ e m. (same e).0 m) (λ e m. (same e).1 m)

-- an order that has each edge once has as many
pub cut_length : {graph order : List Edge} → Distinct graph → Cut graph [] order → length order ≡ length graph
cut_length {graph} {order} d c =
    le_antisymm (distinct_length c.ahead_once graph c.ahead_in)
    (distinct_length d order (λ e m. ⊎_elim (λ j. absurd (Memᴰ.not-nil j)) (λ j. j) (c.whole e m)))

-- a buffer that holds the rows of that order in front, whatever stands behind them
pub order-front : (ns es : List ℤ) (order rest : List ℕ) → TakenTables ns es → order ≡ map (λ e. e.row) (edge_order (edge_rows es)) ++ rest
    → take (length (edge_rows es)) order ≡ map (λ e. e.row) (edge_order (edge_rows es))
order-front ns es order rest k e =
    ap (take (length (edge_rows es))) e
    ∙ take_at (map (λ e. e.row) (edge_order (edge_rows es))) rest (length (edge_rows es))
    (length-map (edge_order (edge_rows es)) (λ e. e.row) ∙ cut_length (edges-distinct es) (order-cut ns es k))

module _ (ns es : List ℤ) (order : List ℕ) where
  -- an order that begins with the rows of the edges has a row for each edge
  pub rows_length : TakenTables ns es → take (length (edge_rows es)) order ≡ map (λ e. e.row) (edge_order (edge_rows es))
      → length (take (length es / edge_width) order) ≡ length es / edge_width
  rows_length k backward =
      ap (λ n. length (take n order)) (sym (edges_length es))
      ∙ ap length backward
      ∙ length-map (edge_order (edge_rows es)) (λ e. e.row)
      ∙ cut_length (edges-distinct es) (order-cut ns es k)
      ∙ edges_length es

  -- between two turns: i edges are passed, and those ahead stand in the order from place i on
  pub record Between (i : ℕ) : Type 0 where
    pub tables : TakenTables ns es
    pub before : List Edge
    pub ahead : List Edge
    pub cut : Cut (edge_rows es) before ahead
    pub size : length (take (length es / edge_width) order) ≡ length es / edge_width
    pub left : i + length ahead ≡ length es / edge_width
    pub rows : drop i (take (length es / edge_width) order) ≡ map (λ e. e.row) ahead

  -- before the first turn
  abbrev pub between_start : TakenTables ns es → take (length (edge_rows es)) order ≡ map (λ e. e.row) (edge_order (edge_rows es)) → Between 0
  between_start k backward =
      record {
        tables = k;
        before = [];
        ahead = edge_order (edge_rows es);
        cut = order-cut ns es k;
        size = rows_length k backward;
        left = omega (arith, cut_length (edges-distinct es) (order-cut ns es k), edges_length es);
        rows = subst (λ (k : ℕ). take k order ≡ map (λ e. e.row) (edge_order (edge_rows es))) (edges_length es) backward;
      }

  module _ {i : ℕ} (p : Between i) where
    -- the edge of a turn
    pub record Turn : Type 0 where
      pub edge : Edge
      pub rest : List Edge
      pub cut : Cut (edge_rows es) p.before (edge ∷ rest)
      pub left : suc i + length rest ≡ length es / edge_width
      pub row : get_or (take (length es / edge_width) order) i 0 ≡ edge.row
      pub rows : drop (suc i) (take (length es / edge_width) order) ≡ map (λ e. e.row) rest

    pub turn : i < length (take (length es / edge_width) order) → Turn
    turn h = go p.ahead p.cut p.left p.rows
      where
        front : List ℕ
        front = take (length es / edge_width) order

        go : (ahead : List Edge) → Cut (edge_rows es) p.before ahead → i + length ahead ≡ length es / edge_width → drop i front ≡ map (λ e. e.row) ahead → Turn
        go [] c l r = absurd (omega (arith, h, p.size))
        go (e ∷ rest) c l r =
            let w = drop_head 0 front i r in
            record { edge = e; rest = rest; cut = c; left = omega arith; row = w.1; rows = w.2 }

    -- the edge is an edge row, the one in the table at the row that the order has
    pub turn_own : (h : i < length (take (length es / edge_width) order))
        → (get_or (take (length es / edge_width) order) i 0 < length es / edge_width)
        × ((turn h).edge ≡ edge_at es (get_or (take (length es / edge_width) order) i 0))
    turn_own h =
        let t = turn h in
        let own = edge_own es (t.cut.ahead_in t.edge (Memᴰ.head refl)) in
        (subst (λ (k : ℕ). k < length es / edge_width) (sym t.row) own.0, own.1 ∙ ap (edge_at es) (sym t.row))

    -- its ends are nodes
    pub turn_ends : i < length (take (length es / edge_width) order) → Ends ns es (get_or (take (length es / edge_width) order) i 0)
    turn_ends h = edge_ends ns es p.tables (get_or (take (length es / edge_width) order) i 0) (turn_own h).0

    -- the nodes that are read in the table are those of the edge
    pub turn_from : (from : ℕ) (h : i < length (take (length es / edge_width) order))
        → pos from ≡ (edge_at es (get_or (take (length es / edge_width) order) i 0)).from → pos from ≡ (turn h).edge.from
    turn_from from h q = q ∙ ap (λ e. e.from) (sym (turn_own h).1)

    pub turn_to : (to : ℕ) (h : i < length (take (length es / edge_width) order))
        → pos to ≡ (edge_at es (get_or (take (length es / edge_width) order) i 0)).to → pos to ≡ (turn h).edge.to
    turn_to to h r = r ∙ ap (λ e. e.to) (sym (turn_own h).1)

    -- the edge is passed
    abbrev pub between_next : (h : i < length (take (length es / edge_width) order)) → Between (i + 1)
    between_next h =
        record {
          tables = p.tables;
          before = (turn h).edge ∷ p.before;
          ahead = (turn h).rest;
          cut = cut-next (turn h).cut;
          size = p.size;
          left = omega (arith, (turn h).left);
          rows = rw add-one (turn h).rows;
        }

    -- behind the last turn no edge is ahead
    pub between_end : length (take (length es / edge_width) order) ≤ i → Cut (edge_rows es) p.before []
    between_end h = last p.ahead p.cut p.left
      where
        last : (ahead : List Edge) → Cut (edge_rows es) p.before ahead → i + length ahead ≡ length es / edge_width → Cut (edge_rows es) p.before []
        last [] c l = c
        last (a ∷ rest) c l = absurd (omega (arith, h, p.size))
