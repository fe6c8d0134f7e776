-- The rows of the banks of a group become its list, and those of one bank that begins at 0 the list of its leaf.
use mathlib.Core.Path.{◌≡◌, refl, ap, ◌∙◌, subst}
use mathlib.Core.List.{List, [], ◌∷◌}
use Prim.Native.Nat.{ℕ, ◌-◌, ◌*◌, ◌≤◌}
use native.Mathlib.Omega.{arith}
use lib.IntN.{ℤ, pos, ◌-ℤ◌}
use lib.ListN.{length, length-map}
use Rattle.integers.proofs.Linear.{ints}
use Rattle.model.specs.declared.WalkKind.{WalkKind}
use Rattle.model.specs.Graph.{graph_of}
use Rattle.model.specs.Bitmapping.{Record}
use Rattle.model.specs.Runs.{normal}
use Rattle.model.specs.Groups.{Bank, group_list}
use Rattle.model.proofs.Groups.{group-list, group_one, group-paths_one}
use Rattle.model.proofs.Normalisation.{normal_unique, normal_length}
use Rattle.model.proofs.Records.{has_at}
use Rattle.model.proofs.Taken.{taken-address, taken-fit}
use Rattle.model.proofs.Walks.{walk_start}
use Rattle.extents.specs.Extents.{SmallAddress}
use Rattle.reach.specs.Counting.{path_count}
use Rattle.sorting.specs.Rows.{row_width, rows_of, rows_from, sorted}
use Rattle.sorting.proofs.Tables.{rows_from_length}
use Rattle.normalisation.specs.Merging.{AllSmallLast, of_displacement, sorted_by_displacement}
use Rattle.references.specs.References.{records_at}
use Rattle.arrivals.specs.declared.ListRows.{ListRows}
use Rattle.arrivals.specs.State.{free_row, Agree}
use Rattle.arrivals.specs.Sweep.{Appendable, Normalisable, Normalised}
use Rattle.arrivals.proofs.Agreeing.{agree_trans, agree_front}
use Rattle.arrivals.proofs.Swept.{swept_tables, swept_root, swept_room, swept_agrees}
use Rattle.groups.specs.Banks.{bank_with, Gathering, Joinable, ListAnswered, GroupAnswered, Answered, Askable}

module _ {kind : WalkKind} {ns es : List ℤ} {plan : List ℕ} {root : ℕ} {banks : List Bank} {s : List ℤ} {n : ℕ} (w : Gathering kind ns es plan root banks s n) where
  -- the records of the banks
  abbrev gathered : List Record
  gathered = records_at s (free_row s) (n - free_row s)

  -- they are small: each has its last bit, which walks from the root
  gathered_small : AllSmallLast gathered
  gathered_small q k =
      let full = w.full q k in
      let (b, m, h) = (w.exact q.last (q.last -ℤ q.displacement)).0 (q, k, has_at q q.last full (omega (arith, ints))) in
      let stands = taken-address (swept_tables w.state).graph (swept_root w.state).row (walk_start h.reached.walk) in
      record { full = full; high = omega (arith, ints, stands.1) }

  -- normalised they are the list of the group
  gathered_list : normal gathered ≡ group_list kind (graph_of ns es) (pos root) banks
  gathered_list = normal_unique w.full w.exact (group-list banks (λ b m. taken-fit (swept_tables w.state).graph (w.leaves b m)))

  -- how many they are
  gathered_count : length gathered ≡ n - free_row s
  gathered_count = length-map (rows_from s (free_row s) n) of_displacement ∙ rows_from_length s (free_row s) n

  module _ {first : ℕ} (at : first ≡ free_row s) where
    -- they can be made a list
    pub gathered_normalisable : {spare : List ℤ} → row_width * (n - free_row s) ≤ length spare → Normalisable s spare first n
    gathered_normalisable room =
        record { order = omega (arith, at, w.behind); within = w.within; spare_room = omega (arith, at, room); small = rw at gathered_small }

    -- and that is the list of the group
    pub group_answered : {u : List ℤ} {p : ListRows} → Normalised s u first n p → GroupAnswered kind ns es plan root banks u p
    group_answered {u} {p} q =
        let count : p.count ≡ length (normal gathered) = rw at at q.count in
        let agrees : Agree (free_row s) s u = rw at at q.agrees in
        let row : p.row ≡ free_row s = q.at ∙ at in
        record {
          free = λ t long front. (swept_agrees w.state (agree_trans agrees (subst (λ (k : ℕ). Agree k u t) row (agree_front p.row long front)))).0;
          within = omega (arith, row, count, normal_length gathered, gathered_count, w.behind, w.within, agrees.long);
          count = count ∙ ap length gathered_list;
          rows = (rw at at q.records) ∙ ap sorted_by_displacement gathered_list;
        }

-- ---- no row

-- no row is the list of none
pub normalised_none : {s : List ℤ} {first n : ℕ} → n ≡ first → Normalised s s first n (record { row = first; count = 0 })
unfolding normal sorted_by_displacement sorted rows_of
normalised_none {s} {first} {n} e =
    let none : n - first ≡ 0 = omega (arith, e) in
    record { at = refl; agrees = record { long = refl; same = λ j h. refl }; count = rw none refl; records = rw none refl }

-- ---- one leaf

-- 0 is where a bank may begin
pub zero_small : {at : ℤ} → at ≡ pos 0 → SmallAddress at
zero_small e = record { low = omega (arith, ints, e); high = omega (arith, ints, e) }

module _ {ns es : List ℤ} {plan : List ℕ} {leaf : ℕ} {s spare : List ℤ} (o : Askable ns es plan leaf s spare) where
  -- its rows can be appended from the free row on
  pub askable_appendable : {first : ℕ} → first ≡ free_row s → Appendable ns es plan leaf s first
  askable_appendable at =
      record {
        kind = o.kind;
        root = o.root;
        state = o.state;
        block = o.block;
        covered = o.covered;
        behind = omega (arith, at);
        room = omega (arith, at, o.few, swept_room o.state);
      }

  -- and joined
  pub askable_joinable : {u : List ℤ} {n : ℕ} {at : ℤ} → Gathering o.kind ns es plan o.root (bank_with leaf at ∷ []) u n → Joinable u n spare
  unfolding path_count
  askable_joinable {at = at} w =
      record {
        nodes = ns;
        edges = es;
        plan = plan;
        kind = o.kind;
        root = o.root;
        banks = bank_with leaf at ∷ [];
        gathering = w;
        spare_room = omega (arith, w.few, group-paths_one (graph_of ns es) (pos o.root) (bank_with leaf at), o.few, o.spare_room);
      }

-- the list of a group of one bank that begins at 0 is the list of its leaf
pub one_answered : {kind : WalkKind} {ns es : List ℤ} {plan : List ℕ} {root : ℕ} (leaf : ℕ) {at : ℤ} {u : List ℤ} {p : ListRows} → at ≡ pos 0
    → GroupAnswered kind ns es plan root (bank_with leaf at ∷ []) u p → Answered kind ns es plan root leaf u p
one_answered {kind} {ns} {es} {plan} {root} leaf {u = u} {p = p} e a =
    let list = ap (λ (at : ℤ). group_list kind (graph_of ns es) (pos root) (bank_with leaf at ∷ [])) e ∙ group_one kind (graph_of ns es) (pos root) (pos leaf) in
    subst (λ (l : List Record). ListAnswered kind ns es plan root l u p) list a
