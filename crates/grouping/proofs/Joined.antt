-- The passes follow one another, and what they leave together are the linked groups.
use mathlib.Core.Path.{◌≡◌, sym, ap, ◌∙◌}
use mathlib.Core.List.{List, map, map-map, map-id}
use Prim.Native.Nat.{ℕ, ◌+◌, ◌*◌, ◌/◌, ◌≤◌}
use native.Mathlib.Omega.{arith}
use lib.IntN.{ℤ}
use lib.ListN.{length, set, take, length-map, length-set}
use lib.Seq.{sets, length-sets, get_or-set_same, get_or-set_other, take-set-le}
use Rattle.lists.proofs.Kept.{keep_length}
use Rattle.lists.proofs.Membership.{keep_out}
use Rattle.lists.proofs.Places.{map_same}
use Rattle.model.specs.Limits.{pair_width, max_pairs, max_nodes}
use Rattle.model.specs.Rows.{pair_rows}
use Rattle.model.specs.Compare.{is_lowest, lowest_rows}
use Rattle.tables.specs.Tables.{pair_at}
use Rattle.tables.proofs.Rows.{pairs_length, pair_own}
use Rattle.depth.proofs.Stores.{sets_past, sets_take}
use Rattle.grouping.specs.Links.{next_at, count_at, link_room, group_count, Linked, Linkable}
use Rattle.grouping.specs.Passes.{HeadsFrom, Headed, RowsLinked, lowest_numbers, links_with}

module _ (pairs : List ℤ) where
  -- ---- what a pass starts from

  -- heads from row k on for all nodes, with the links as long as at the start
  pub links_headed : {old : List ℕ} → Linkable pairs old → {k : ℕ} {head links : List ℕ} → length head ≡ max_nodes → length links ≡ length old
      → HeadsFrom pairs k head → Headed pairs k head links
  links_headed p nodes same heads = record { few = p.few; within = λ l m. rw nodes (p.within l m); heads = heads; room = same ∙ p.room }

  -- ---- what the last pass stores

  -- there are as many lowest rows as groups
  lowest_length : length (lowest_numbers pairs) ≡ length (lowest_rows (pair_rows pairs))
  unfolding lowest_numbers
  lowest_length = length-map (lowest_rows (pair_rows pairs)) (λ p. p.row)

  -- no more than leaf rows
  lowest-few : length (lowest_numbers pairs) ≤ length pairs / pair_width
  unfolding lowest_rows
  lowest-few = omega (arith, lowest_length, keep_length (is_lowest (pair_rows pairs)) (pair_rows pairs), pairs_length pairs)

  -- the rows of these numbers are those that lead
  numbers-rows : map (pair_at pairs) (lowest_numbers pairs) ≡ lowest_rows (pair_rows pairs)
  unfolding lowest_numbers lowest_rows
  numbers-rows =
      let rows = lowest_rows (pair_rows pairs) in
      map-map (pair_at pairs) (λ p. p.row) rows
      ∙ map_same (λ p. pair_at pairs p.row) (λ p. p) rows (λ p m. sym (pair_own pairs (keep_out (is_lowest (pair_rows pairs)) (pair_rows pairs) m).0).1)
      ∙ map-id rows

  module _ {head links : List ℕ} (few : length pairs ≤ pair_width * max_pairs) (room : length links ≡ link_room) (linked : RowsLinked pairs head links) where
    -- the links, with the lowest rows stored in front
    abbrev fronted : List ℕ
    fronted = sets links 0 (lowest_numbers pairs)

    -- the number of groups is stored behind the links
    count_stored : group_count (links_with (lowest_numbers pairs) links) ≡ length (lowest_numbers pairs)
    unfolding links_with
    count_stored = get_or-set_same fronted count_at (length (lowest_numbers pairs)) 0 (omega (arith, room, length-sets links 0 (lowest_numbers pairs)))

    -- what the three passes leave
    pub links-linked : Linked pairs (links_with (lowest_numbers pairs) links)
    unfolding links_with
    links-linked =
        let n = length (lowest_numbers pairs) in
        record {
          room = length-set fronted count_at n ∙ length-sets links 0 (lowest_numbers pairs) ∙ room;
          count = count_stored ∙ lowest_length;
          rows =
              ap (map (pair_at pairs))
              (ap (λ k. take k (set fronted count_at n)) count_stored
              ∙ take-set-le n fronted count_at n (omega (arith, few, lowest-few))
              ∙ sets_take links (lowest_numbers pairs) (omega (arith, few, room, lowest-few)))
              ∙ numbers-rows;
          nexts = λ j h.
              get_or-set_other fronted count_at (next_at + j) n 0 (λ e. omega (arith, e, h, few))
              ∙ sets_past links 0 (lowest_numbers pairs) (next_at + j) 0 (omega (arith, few, lowest-few))
              ∙ linked.nexts j h;
        }
