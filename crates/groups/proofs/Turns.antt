-- The banks of a group, one after the other: the rows of those passed are gathered, and behind the last they are those of the whole group.
use mathlib.Core.Path.{◌≡◌, sym, ap, ap₂, ◌∙◌, subst}
use mathlib.Core.List.{List, [], ◌∷◌, ◌++◌, map, map-append, flat_map}
use Prim.Native.Nat.{ℕ, ◌+◌, ◌/◌, ◌≤◌, ◌<◌}
use native.Mathlib.Omega.{arith}
use lib.IntN.{ℤ, pos}
use lib.ListN.{length, length-append, take, drop, take-append-drop}
use Rattle.lists.specs.Lists.{◌∈◌, keep}
use Rattle.lists.proofs.Kept.{keep_append}
use Rattle.model.specs.declared.WalkKind.{WalkKind}
use Rattle.model.specs.Limits.{pair_width}
use Rattle.model.specs.Rows.{Pair, Edge, pair_rows}
use Rattle.model.specs.Graph.{Graph, graph_of}
use Rattle.model.specs.Paths.{Leaf}
use Rattle.model.specs.Runs.{paths}
use Rattle.model.specs.Groups.{Bank, group_paths}
use Rattle.model.specs.Compare.{same_spec, group, bank_of}
use Rattle.model.proofs.Groups.{group-paths_one}
use Rattle.tables.specs.Tables.{pair_at}
use Rattle.tables.proofs.Rows.{pair_member}
use Rattle.extents.specs.Extents.{SmallAddress}
use Rattle.reach.specs.Counting.{path_count}
use Rattle.grouping.specs.Links.{next_row, Passing}
use Rattle.grouping.proofs.Passing.{pass_next, pass_end}
use Rattle.arrivals.specs.declared.ListRows.{ListRows}
use Rattle.arrivals.specs.State.{free_row}
use Rattle.arrivals.specs.Sweep.{Swept, Appendable}
use Rattle.arrivals.proofs.Swept.{swept_room}
use Rattle.groups.specs.Banks.{bank_with, banks_at, Gathering, Joinable, GroupAnswered, GroupAskable}
use Rattle.groups.proofs.Gathering.{gathering-start}

-- ---- paths

-- the paths to banks, and to others, together
group-paths_append : (g : Graph) (r : ℤ) (bs cs : List Bank) → group_paths g r (bs ++ cs) ≡ group_paths g r bs + group_paths g r cs
unfolding group_paths flat_map
group-paths_append g r [] cs = omega arith
group-paths_append g r (b ∷ bs) cs =
    let to : List Bank → List (List Edge) = λ ds. flat_map (paths g r) (map (λ (d : Bank). d.leaf) ds) in
    omega (arith, length-append (paths g r b.leaf) (to (bs ++ cs)), length-append (paths g r b.leaf) (to bs), group-paths_append g r bs cs)

-- those to a part of a group are no more than those to the group
part_few : (g : Graph) (r : ℤ) {pairs : List ℤ} {l : Pair} {done : List Pair} {j : ℕ} → Passing pairs l done j
    → group_paths g r (map bank_of done) ≤ group_paths g r (map bank_of (group (pair_rows pairs) l))
unfolding group
part_few g r {pairs} {l} {done} {j} p =
    let rows = pair_rows pairs in
    let rest = keep (same_spec l) (drop j rows) in
    let split : keep (same_spec l) rows ≡ done ++ rest =
    ap (keep (same_spec l)) (sym (take-append-drop j rows)) ∙ keep_append (same_spec l) (take j rows) (drop j rows) ∙ ap (λ (d : List Pair). d ++ rest) (sym p.before) in
    omega (arith, ap (λ (d : List Pair). group_paths g r (map bank_of d)) split, ap (group_paths g r) (map-append bank_of done rest), group-paths_append g r (map bank_of done) (map bank_of rest))

-- ---- turns

-- the state between two turns: of the group of a row some banks are passed, `row` is the next, and their rows are gathered, whatever root the state at first was
-- swept from, and by whatever kind of walk
pub record Turned (ns es : List ℤ) (plan : List ℕ) (pairs : List ℤ) (lowest : ℕ) (old s : List ℤ) (n row : ℕ) : Type 0 where
  pub done : List Pair
  pub passing : Passing pairs (pair_at pairs lowest) done row
  pub gathering : (kind : WalkKind) (root : ℕ) → Swept kind ns es plan root old → Gathering kind ns es plan root (map bank_of done) s n

module _ {ns es : List ℤ} {plan : List ℕ} {pairs : List ℤ} {links : List ℕ} {lowest : ℕ} {old spare : List ℤ} (o : GroupAskable ns es plan pairs links lowest old spare)
  where
    -- before the first turn
    pub turn_start : {n : ℕ} → n ≡ free_row old → Turned ns es plan pairs lowest old old n lowest
    turn_start at = record { done = []; passing = o.start; gathering = λ kind root w. gathering-start w at }

    module _ {s : List ℤ} {n row : ℕ} (t : Turned ns es plan pairs lowest old s n row) where
      module _ (h : row < length pairs / pair_width) where
        -- the row of the turn is there
        row_in : pair_at pairs row ∈ pair_rows pairs
        row_in = pair_member pairs row h

        -- its implementation leaf is a node
        pub row-leaf : Leaf (graph_of ns es) (pair_at pairs row).impl
        row-leaf = (o.listable (pair_at pairs row) row_in).block

        -- one more row is passed
        passed : Passing pairs (pair_at pairs lowest) (t.done ++ (pair_at pairs row ∷ [])) (next_row links row)
        passed = pass_next o.linked t.passing h

        module _ {leaf : ℕ} {at : ℤ} (is : pos leaf ≡ (pair_at pairs row).impl) (begins : at ≡ (pair_at pairs row).at) where
          -- the rows of its bank can be appended
          pub turn_appendable : Appendable ns es plan leaf s n × SmallAddress at
          unfolding path_count
          turn_appendable =
              let bank = o.listable (pair_at pairs row) row_in in
              let g = graph_of ns es in
              let r = pos o.root in
              let w = t.gathering o.kind o.root o.state in
              let more = ap (group_paths g r) (map-append bank_of t.done (pair_at pairs row ∷ [])) ∙ group-paths_append g r (map bank_of t.done) (bank_of (pair_at pairs row) ∷ []) in
              let one = group-paths_one g r (bank_of (pair_at pairs row)) in (
                record {
                  kind = o.kind;
                  root = o.root;
                  state = w.state;
                  block = rw is bank.block;
                  covered = rw is bank.covered;
                  behind = w.behind;
                  room = rw is (omega (arith, w.few, part_few g r passed, more, one, o.few, swept_room w.state));
                },
                rw begins bank.small,
              )

          -- and then it is passed
          pub turn_next : {u : List ℤ} {m : ℕ}
              → ((kind : WalkKind) (root : ℕ) (banks : List Bank) → Gathering kind ns es plan root banks s n → Gathering kind ns es plan root (banks ++ (bank_with leaf at ∷ [])) u m)
              → Turned ns es plan pairs lowest old u m (next_row links row)
          turn_next {u} {m} more =
              let bank : bank_with leaf at ≡ bank_of (pair_at pairs row) = ap₂ (λ (l a : ℤ). record { leaf = l; at = a }) is begins in
              let all : map bank_of t.done ++ (bank_with leaf at ∷ []) ≡ map bank_of (t.done ++ (pair_at pairs row ∷ [])) =
              ap (λ (b : Bank). map bank_of t.done ++ (b ∷ [])) bank ∙ sym (map-append bank_of t.done (pair_at pairs row ∷ [])) in
              record {
                done = t.done ++ (pair_at pairs row ∷ []);
                passing = passed;
                gathering = λ kind root w. subst (λ (bs : List Bank). Gathering kind ns es plan root bs u m) all (more kind root (map bank_of t.done) (t.gathering kind root w));
              }

      module _ (h : length pairs / pair_width ≤ row) where
        -- behind the last bank the rows of all are gathered
        whole : (kind : WalkKind) (root : ℕ) → Swept kind ns es plan root old → Gathering kind ns es plan root (banks_at pairs lowest) s n
        whole kind root w = subst (λ (d : List Pair). Gathering kind ns es plan root (map bank_of d) s n) (pass_end t.passing h) (t.gathering kind root w)

        -- and can be joined
        pub turn_joinable : Joinable s n spare
        turn_joinable =
            let w = whole o.kind o.root o.state in
            record {
              nodes = ns;
              edges = es;
              plan = plan;
              kind = o.kind;
              root = o.root;
              banks = banks_at pairs lowest;
              gathering = w;
              spare_room = omega (arith, w.few, o.few, o.spare_room);
            }

        -- to the list of the group
        pub turn_answered : {u : List ℤ} {p : ListRows}
            → ((kind : WalkKind) (ns es : List ℤ) (plan : List ℕ) (root : ℕ) (banks : List Bank) → Gathering kind ns es plan root banks s n → GroupAnswered kind ns es plan root banks u p)
            → (kind : WalkKind) (root : ℕ) → Swept kind ns es plan root old → GroupAnswered kind ns es plan root (banks_at pairs lowest) u p
        turn_answered joined kind root w = joined kind ns es plan root (banks_at pairs lowest) (whole kind root w)
