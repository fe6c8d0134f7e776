-- The edge rows that enter a marked node, stored from the last of the order to the first.
use mathlib.Core.Path.{◌≡◌, refl, sym, ap, subst, ◌∙◌}
use mathlib.Core.Bool.{Bool, true, false, cond}
use mathlib.Core.List.{List, [], ◌∷◌, ◌++◌, reverse, reverse-cons}
use Prim.Native.Nat.{ℕ, suc, ◌+◌, ◌/◌, ◌≤◌, ◌<◌}
use native.Mathlib.Omega.{arith}
use lib.IntN.{ℤ, pos, nat_abs}
use lib.ListN.{length, get_or, set, take, drop, length-take, length-drop, length-map, length-append, length-reverse}
use lib.Seq.{sets, length-sets, drop-cons, drop-length, get_or-take}
use Rattle.lists.specs.Lists.{◌∈◌, keep}
use Rattle.lists.proofs.Kept.{keep_length}
use Rattle.lists.proofs.Membership.{map_out}
use Rattle.lists.proofs.Places.{get_d_in}
use Rattle.model.specs.Limits.{edge_width}
use Rattle.model.specs.Rows.{edge_rows}
use Rattle.model.proofs.Paths.{edges-distinct}
use Rattle.tables.specs.Tables.{edge_at}
use Rattle.tables.proofs.Rows.{nodes_length, edges_length, edge_own}
use Rattle.depth.specs.Order.{edge_order}
use Rattle.depth.proofs.Stores.{sets_more}
use Rattle.reach.proofs.Turns.{order-cut, cut_length}
use Rattle.reach.proofs.Ends.{Ends, edge_ends, to_below}
use Rattle.forward.specs.Forward.{count_at}
use Rattle.forward.specs.Passes.{BackwardRows, enters_marked, leading_rows, plan_with}

-- ---- the rows in front of the order

module _ {es : List ℤ} {order : List ℕ} {count : ℕ} (p : BackwardRows es order count) where
  -- there is one for each edge
  pub front_length : length (take (length (edge_rows es)) order) ≡ length es / edge_width
  front_length =
      ap length p.backward
      ∙ length-map (edge_order (edge_rows es)) (λ e. e.row)
      ∙ cut_length (edges-distinct es) (order-cut p.nodes es p.tables)
      ∙ edges_length es

  -- each is an edge row
  pub front-row : {r : ℕ} → r ∈ take (length (edge_rows es)) order → r < length es / edge_width
  front-row {r} m =
      let w = map_out (λ e. e.row) (edge_order (edge_rows es)) (subst (λ (l : List ℕ). r ∈ l) p.backward m) in
      omega (arith, w.2, (edge_own es ((order-cut p.nodes es p.tables).ahead_in w.0 w.1)).0)

  module _ (i : ℕ) (h : i < length es / edge_width) where
    -- what stands there is what the code reads
    pub front_at : get_or (take (length (edge_rows es)) order) i 0 ≡ get_or order i 0
    front_at = get_or-take (length (edge_rows es)) order i 0 (omega (arith, edges_length es))

    -- within the order
    pub order-within : i < length order
    order-within = omega (arith, front_length, length-take (length (edge_rows es)) order)

    -- the ends of its edge are nodes
    pub order-ends : Ends p.nodes es (get_or order i 0)
    order-ends =
        edge_ends p.nodes es p.tables (get_or order i 0)
        (rw (← front_at) (front-row (get_d_in (take (length (edge_rows es)) order) i 0 (omega (arith, front_length)))))

    -- the node that it enters has a mark
    pub order-marked : (to : ℕ) → pos to ≡ (edge_at es (get_or order i 0)).to → to < count
    order-marked to q = omega (arith, to_below order-ends to q, p.room, nodes_length p.nodes)

-- ---- one pass from the last to the first

module _ (es : List ℤ) (order : List ℕ) (marks : List Bool) where
  -- the leading rows of those from place i on
  abbrev leading_from : ℕ → List ℕ
  leading_from i = reverse (keep (enters_marked es marks) (drop i (take (length (edge_rows es)) order)))

  -- the state between two turns
  pub record Storing (old plan : List ℕ) (leading i : ℕ) : Type 0 where
    pub within : i ≤ length es / edge_width
    pub count : leading ≡ length (leading_from i)
    pub stored : plan ≡ sets old 0 (leading_from i)

  -- the state at a place written otherwise
  pub storing-at : {old plan : List ℕ} {leading i : ℕ} (k : ℕ) → i ≡ k → Storing old plan leading i → Storing old plan leading k
  storing-at {old} {plan} {leading} k e s = subst (λ (j : ℕ). Storing old plan leading j) e s

  -- the plan keeps its length
  pub storing-long : {old plan : List ℕ} {leading i : ℕ} → Storing old plan leading i → length plan ≡ length old
  storing-long {old} {i = i} s = ap length s.stored ∙ length-sets old 0 (leading_from i)

  module _ (p : BackwardRows es order (length marks)) where
    -- before the first turn
    pub store_start : (old : List ℕ) → Storing old old 0 (length es / edge_width)
    unfolding keep
    store_start old =
        let front = take (length (edge_rows es)) order in
        let none : leading_from (length es / edge_width) ≡ [] =
        ap (λ l. reverse (keep (enters_marked es marks) l)) (ap (λ n. drop n front) (sym (front_length p)) ∙ drop-length front) in
        record { within = omega arith; count = sym (ap length none); stored = ap (sets old 0) (sym none) }

    -- the leading rows with those left are no more than the edges
    pub store_few : {old plan : List ℕ} {leading i : ℕ} → Storing old plan leading i → leading + i ≤ length es / edge_width
    store_few {i = i} s =
        let rest = drop i (take (length (edge_rows es)) order) in
        let some = keep (enters_marked es marks) rest in
        omega (
          arith,
          s.count,
          s.within,
          length-reverse some,
          keep_length (enters_marked es marks) rest,
          length-drop i (take (length (edge_rows es)) order),
          front_length p,
        )

    module _ {old plan : List ℕ} {leading k : ℕ} (s : Storing old plan leading (suc k)) (to : ℕ) (q : pos to ≡ (edge_at es (get_or order k 0)).to) where
      -- the row of a turn
      below : k < length es / edge_width
      below = omega (arith, s.within)

      -- the test of the row, by the mark of the node that it enters
      test_at : enters_marked es marks (get_or order k 0) ≡ get_or marks to false
      unfolding enters_marked
      test_at = ap (λ v. get_or marks (nat_abs v) false) (sym q)

      -- the leading rows with one row more, by the test of it
      leading_more : (t : Bool) → get_or marks to false ≡ t
          → leading_from k ≡ cond t (leading_from (suc k) ++ (get_or order k 0 ∷ [])) (leading_from (suc k))
      unfolding keep
      leading_more t e =
          let front = take (length (edge_rows es)) order in
          let ok = enters_marked es marks in
          let row = get_or order k 0 in
          let rest = keep ok (drop (suc k) front) in
          ap (λ l. reverse (keep ok l)) (drop-cons front k 0 (omega (arith, below, front_length p)) ∙ ap (λ r. r ∷ drop (suc k) front) (front_at p k below))
          ∙ ap (λ b. reverse (cond b (row ∷ rest) rest)) (test_at ∙ e)
          ∙ turned t
        where
          turned : (b : Bool) → let rest = keep (enters_marked es marks) (drop (suc k) (take (length (edge_rows es)) order)) in
              reverse (cond b (get_or order k 0 ∷ rest) rest) ≡ cond b (reverse rest ++ (get_or order k 0 ∷ [])) (reverse rest)
          turned true = reverse-cons (get_or order k 0) (keep (enters_marked es marks) (drop (suc k) (take (length (edge_rows es)) order)))
          turned false = refl

      -- a row that enters a marked node is stored
      pub store_marked : get_or marks to false ≡ true → Storing old (set plan leading (get_or order k 0)) (leading + 1) k
      store_marked m =
          let row = get_or order k 0 in
          let more = leading_more true m in
          let place : leading ≡ 0 + length (leading_from (suc k)) = omega (arith, s.count) in
          record {
            within = omega (arith, below);
            count = omega (arith, s.count, ap length more, length-append (leading_from (suc k)) (row ∷ []));
            stored =
                ap (λ l. set l leading row) s.stored
                ∙ ap (λ n. set (sets old 0 (leading_from (suc k))) n row) place
                ∙ sets_more old 0 (leading_from (suc k)) row
                ∙ ap (sets old 0) (sym more);
          }

      -- any other is passed over
      pub store_over : get_or marks to false ≡ false → Storing old plan leading k
      store_over z =
          let same = leading_more false z in
          record { within = omega (arith, below); count = s.count ∙ ap length (sym same); stored = s.stored ∙ ap (sets old 0) (sym same) }

  -- behind the last turn the number of rows is stored
  pub store_end : {old plan : List ℕ} {leading : ℕ} → Storing old plan leading 0 → set plan count_at leading ≡ plan_with (leading_rows es order marks) old
  unfolding leading_rows plan_with
  store_end {old} {leading = leading} s = ap (λ l. set l count_at leading) s.stored ∙ ap (set (sets old 0 (leading_from 0)) count_at) s.count
