-- The plan of a graph, put together from what its passes leave.
use mathlib.Core.Path.{◌≡◌, refl, sym, ap, subst, ◌∙◌}
use mathlib.Core.Bool.{Bool, false}
use mathlib.Core.List.Memᴰ
use mathlib.Core.List.{List, [], ◌∷◌, map, reverse}
use mathlib.Core.Logic.{◌↔◌}
use Prim.Native.Nat.{ℕ, ◌+◌, ◌≤◌, ◌<◌}
use native.Mathlib.Omega.{arith}
use lib.Dec.{T}
use lib.IntN.{ℤ, pos, nat_abs}
use lib.Signed.{yes_non_neg, pos-nat_abs}
use lib.ListN.{length, get_or, take, replicate, length-set, length-replicate, length-reverse}
use lib.Seq.{sets, length-sets, get_or-set_same, get_or-set_other, get_or-take, take-set-le}
use Rattle.integers.proofs.Linear.{ints}
use Rattle.integers.proofs.Tests.{is_true}
use Rattle.lists.specs.Lists.{◌∈◌, keep, Distinct}
use Rattle.lists.proofs.Distinct.{keep-distinct}
use Rattle.lists.proofs.Kept.{keep_length}
use Rattle.lists.proofs.Membership.{keep_in, keep_out}
use Rattle.lists.proofs.Places.{get_d_in}
use Rattle.model.specs.Limits.{max_nodes, max_edges}
use Rattle.model.specs.Rows.{Edge, edge_rows}
use Rattle.model.specs.Graph.{Graph, graph_of, NodeRow}
use Rattle.model.specs.Paths.{over}
use Rattle.model.specs.Taken.{TakenTables}
use Rattle.tables.specs.Tables.{edge_at}
use Rattle.tables.proofs.Rows.{nodes_length, edges_length, edge_own}
use Rattle.depth.specs.Order.{edge_order}
use Rattle.depth.proofs.Keeping.{keep_map}
use Rattle.depth.proofs.Order.{order_members}
use Rattle.depth.proofs.Stores.{sets_past, sets_take}
use Rattle.reach.proofs.Turns.{order-cut}
use Rattle.reach.proofs.Ends.{row_below}
use Rattle.forward.specs.Forward.{Leads, Forward, head_at, next_at, count_at, plan_room, planned_count, planned_of, Planned, LeadingTo, Plannable}
use Rattle.forward.specs.Passes.{Marking, Marked, LeadsTo, Markable, BackwardRows, enters_marked, leading_rows, plan_with, EnteringLinked}
use Rattle.forward.proofs.Marks.{unmarked_at}
use Rattle.forward.proofs.Stored.{front_length, front-row}
use Rattle.forward.proofs.Reversed.{map_reverse, reverse_in, reverse_out, reverse_distinct}
use Rattle.forward.proofs.Order.{forward-kept}

-- edges of a table, by the numbers of their rows, are those edges again
own-edges : (es : List ℤ) (l : List Edge) → ((e : Edge) → e ∈ l → e ∈ edge_rows es) → map (edge_at es) (map (λ e. e.row) l) ≡ l
own-edges es [] h = refl
own-edges es (e ∷ l) h =
    ap (λ d. d ∷ map (edge_at es) (map (λ c. c.row) l)) (sym (edge_own es (h e (Memᴰ.head refl))).1)
    ∙ ap (λ k. e ∷ k) (own-edges es l (λ d m. h d (Memᴰ.tail m)))

-- a node row is an index
row_index : {g : Graph} {v : ℤ} → NodeRow g v → pos (nat_abs v) ≡ v
row_index {v = v} r = pos-nat_abs v (yes_non_neg r.low)

-- marks of the nodes that lead to a marked leaf are those of the nodes that lead to a leaf
pub leading_marks : {g : Graph} {ls : List ℤ} {marks marks' : List Bool} → ((l : ℤ) → l ∈ ls → NodeRow g l) → Marking marks (λ v. v ∈ ls)
    → Marking marks' (LeadsTo g (Marked marks)) → Marking marks' (Leads g ls)
leading_marks {g} {ls} {marks} rows leaves leading = record { each = λ v. (λ h. leaf ((leading.each v).0 h), λ k. (leading.each v).1 (marked k)) }
  where
    leaf : {v : ℤ} → LeadsTo g (Marked marks) v → Leads g ls v
    leaf w = (w.0, subst (λ (l : ℤ). l ∈ ls) w.1.1 ((leaves.each w.1.0).0 w.1.2), w.2)

    marked : {v : ℤ} → Leads g ls v → LeadsTo g (Marked marks) v
    marked w =
        let e = row_index (rows w.0 w.1) in
        (w.0, (nat_abs w.0, e, (leaves.each (nat_abs w.0)).1 (subst (λ (l : ℤ). l ∈ ls) (sym e) w.1)), w.2)

-- ---- what the passes start from

module _ {ns es : List ℤ} {order : List ℕ} {pairs : List ℤ} {side : ℕ} {plan : List ℕ} (c : Plannable ns es order pairs side plan) where
  -- each leaf is one of the most nodes that there can be
  pub plan_markable : Markable pairs side (replicate max_nodes false)
  plan_markable =
      record {
        in_pair = c.in_pair;
        within = λ l m.
            let r = c.rows l m in
            record { low = r.low; high = omega (arith, ints, row_below ns es r, c.tables.nodes.few, length-replicate {A = Bool} max_nodes false) };
        blank = unmarked_at max_nodes;
      }

  -- the edges can be passed in the order that is given
  pub plan_passable : (count : ℕ) → max_nodes ≤ count → BackwardRows es order count
  plan_passable count h =
      record { nodes = ns; tables = c.tables; backward = c.backward; room = omega (arith, h, nodes_length ns, c.tables.nodes.few) }

-- ---- what they leave

module _ {ns es : List ℤ} {order : List ℕ} {count : ℕ} {ls : List ℤ} {marks : List Bool} {plan : List ℕ} (linked : List ℕ) (tables : TakenTables ns es)
    (p : BackwardRows es order count) (m : Marking marks (Leads (graph_of ns es) ls)) (room : length linked ≡ plan_room)
    (made : plan ≡ plan_with (leading_rows es order marks) linked)
  where
    -- the rows that the last pass stores, and those that it goes over
    abbrev rows : List ℕ
    rows = leading_rows es order marks

    abbrev front : List ℕ
    front = take (length (edge_rows es)) order

    -- the test of an edge by its row
    abbrev ok : Edge → Bool
    ok e = enters_marked es marks e.row

    -- ---- what stands in front of the plan

    -- they have room in front of the heads
    rows_few : length rows ≤ max_edges
    unfolding leading_rows
    rows_few =
        omega (
          arith,
          length-reverse (keep (enters_marked es marks) front),
          keep_length (enters_marked es marks) front,
          front_length p,
          tables.edges.few,
        )

    -- their number
    count-read : planned_count plan ≡ length rows
    unfolding plan_with
    count-read =
        ap (λ l. get_or l count_at 0) made
        ∙ get_or-set_same (sets linked 0 rows) count_at (length rows) 0 (omega (arith, length-sets linked 0 rows, room))

    -- the rows themselves
    front_read : take (planned_count plan) plan ≡ rows
    unfolding plan_with
    front_read =
        ap (λ n. take n plan) count-read
        ∙ ap (take (length rows)) made
        ∙ take-set-le (length rows) (sets linked 0 rows) count_at (length rows) (omega (arith, rows_few))
        ∙ sets_take linked rows (omega (arith, rows_few, room))

    -- their edges
    edges-read : planned_of es plan ≡ reverse (keep ok (edge_order (edge_rows es)))
    unfolding leading_rows
    edges-read =
        ap (map (edge_at es)) front_read
        ∙ map_reverse (edge_at es) (keep (enters_marked es marks) front)
        ∙ ap reverse (sym (keep_map ok (edge_at es) front))
        ∙ ap (λ l. reverse (keep ok l))
        (ap (map (edge_at es)) p.backward ∙ own-edges es (edge_order (edge_rows es)) (order-cut ns es tables).ahead_in)

    -- behind the front the plan is as it was, but for the number of rows
    others-read : (i : ℕ) → max_edges ≤ i → i < count_at → get_or plan i 0 ≡ get_or linked i 0
    unfolding plan_with
    others-read i h k =
        ap (λ l. get_or l i 0) made
        ∙ get_or-set_other (sets linked 0 rows) count_at i (length rows) 0 (λ e. omega (arith, e, k))
        ∙ sets_past linked 0 rows i 0 (omega (arith, rows_few, h))

    -- ---- which edges those are

    -- an edge passes the test exactly where the node that it enters leads to a leaf
    ok_leads : (e : Edge) → e ∈ edge_rows es → T (ok e) ↔ Leads (graph_of ns es) ls e.to
    unfolding graph_of enters_marked
    ok_leads e k =
        let own = (edge_own es k).1 in
        let index = row_index (tables.graph.ends e k).1 in
        let test : ok e ≡ get_or marks (nat_abs e.to) false = ap (λ (d : Edge). get_or marks (nat_abs d.to) false) (sym own) in (
          λ t. subst (Leads (graph_of ns es) ls) index ((m.each (nat_abs e.to)).0 (sym test ∙ is_true (ok e) t)),
          λ w. subst T (sym (test ∙ (m.each (nat_abs e.to)).1 (subst (Leads (graph_of ns es) ls) (sym index) w))) tt,
        )

    -- the edges of the plan are those
    passed_out : {e : Edge} → e ∈ planned_of es plan → (e ∈ edge_rows es) × Leads (graph_of ns es) ls e.to
    passed_out {e} k =
        let w = keep_out ok (edge_order (edge_rows es)) (reverse_out (keep ok (edge_order (edge_rows es))) (subst (λ (l : List Edge). e ∈ l) edges-read k)) in
        let own = (order-cut ns es tables).ahead_in e w.0 in
        (own, (ok_leads e own).0 w.1)

    passed_in : {e : Edge} → e ∈ edge_rows es → Leads (graph_of ns es) ls e.to → e ∈ planned_of es plan
    unfolding graph_of
    passed_in {e} k w =
        subst (λ (l : List Edge). e ∈ l) (sym edges-read)
        (reverse_in (keep ok (edge_order (edge_rows es))) (keep_in ok ((ok_leads e k).1 w) ((order_members tables.graph e).1 k)))

    -- the node that an edge leaves leads where the node that it enters does
    leads_back : (e f : Edge) → e ∈ edge_rows es → f ∈ edge_rows es → f.to ≡ e.from → T (ok e) → T (ok f)
    unfolding graph_of
    leads_back e f k j q t =
        let w = (ok_leads e k).0 t in
        (ok_leads f j).1 (w.0, w.1, (e ∷ w.2.0, over e k (sym q) w.2.1))

    -- ---- the plan

    -- each row is one of an edge
    row-there : (i : ℕ) → i < planned_count plan → get_or plan i 0 < length (edge_rows es)
    unfolding leading_rows
    row-there i h =
        let n = planned_count plan in
        let inside : get_or (take n plan) i 0 ∈ take n plan = get_d_in (take n plan) i 0 (omega (arith, h, count-read, ap length front_read)) in
        let kept = reverse_out (keep (enters_marked es marks) front) (subst (λ (l : List ℕ). get_or (take n plan) i 0 ∈ l) front_read inside) in
        omega (arith, front-row p (keep_out (enters_marked es marks) front kept).0, get_or-take n plan i 0 h, edges_length es)

    -- it has exactly the edges that enter a node which leads to a leaf
    pub plan_leading : LeadingTo ns es ls plan
    plan_leading = record { leads = λ e k. (passed_out k).1; all = λ e k w. passed_in k w }

    -- in forward order, and the edges that enter each node are linked
    pub plan-planned : {old : List ℕ} → EnteringLinked ns es old linked → Planned ns es plan
    unfolding plan_with
    plan-planned links =
        record {
          room = ap length made ∙ length-set (sets linked 0 rows) count_at (length rows) ∙ length-sets linked 0 rows ∙ room;
          few = omega (arith, count-read, rows_few);
          there = row-there;
          inside = λ e k. (passed_out k).0;
          forward = subst (Forward (edge_rows es) []) (sym edges-read) (forward-kept (edge_rows es) ok leads_back (order-cut ns es tables));
          distinct = subst Distinct (sym edges-read) (reverse_distinct (keep-distinct ok (order-cut ns es tables).ahead_once));
          whole = λ e f k j q. passed_in j (subst (Leads (graph_of ns es) ls) (sym q) (passed_out k).1);
          heads = λ v h. others-read (head_at + v) (omega arith) (omega (arith, h, nodes_length ns, tables.nodes.few)) ∙ links.heads v h;
          nexts = λ e h. others-read (next_at + e) (omega arith) (omega (arith, h, edges_length es, tables.edges.few)) ∙ links.nexts e h;
        }
