-- The marked maps P1 to P8, and the read-only block, hold of the definitions: computed.
use mathlib.Core.Path.{refl, ap}
use mathlib.Core.List.Memᴰ
use mathlib.Core.List.{flat_map}
use native.Mathlib.Omega.{arith}
use lib.IntN.{ℤ, pos, nat_abs}
use Rattle.integers.proofs.Linear.{ints}
use Rattle.lists.specs.Lists.{keep, any, all, is_nil}
use Rattle.model.specs.Rows.{nodes_from, edges_from, pairs_from}
use Rattle.model.specs.Graph.{graph_of, node, first_bit, last_bit, bit_offset}
use Rattle.model.specs.Runs.{leaving, paths_within, paths, empty, is_open, last_open, whole, shift, clip, across, along, runs, record_of, touch, hull, joined, before, place, add, normal, list_of}
use Rattle.model.specs.Verdicts.{same_record, same_list, contained, all_contained, verdict, has_bit, bits_within, differs_at, changes, least, least_of, lowest}
use Rattle.model.specs.Groups.{raised_by, bank_records, group_list}
use Rattle.model.specs.Compare.{same_spec, group, is_lowest, lowest_rows, visits, finding_of, findings, kind_verdict, verdict_of, lower_of, lowest_of, count, largest, first_unequal, place_of, result_of}
use Rattle.model.specs.Checks.{when, ◌then◌, first_refusal, check_shape, is_kind, is_unit, is_access, good_extent, good_node, check_node, is_row, good_offset, good_edge, check_edge, each, ending_at, followed, begins, cyclic, deep, check_graph, is_root, is_leaf, many_paths, check_named, check_output, good_at, same_root, same_impl, clashes, check_pair, check_visit, check_pairing, check_single, check_tables}
use Rattle.model.specs.Calls.{answer, check_answer, numbers_of, list_answer, compare_answer}
use Rattle.model.specs.Bytes.{bytes, digits, shown, spaced, same}
use Rattle.model.specs.MapFile.{node_table, edge_table, pair_table, onto, lines, feeds}
use Rattle.model.specs.Reader.{allowed, check_bytes, broken_off, check_text, fields_of, is_digit, numeral, magnitude, negative, value_of, cons_option, values_of, column_of, is_field, layout_of, good_fields, columns, arranged, row_of, check_side_or_role, judged, with_row, stop, with_line, read_values, read_table, rows_with, tables_of, read_third, read_second, read_first, read_map}
use Rattle.model.specs.Report.{line_of, no_record, lengths_of_lists, finding_line, result_line, report, refusal_report}
use Rattle.model.specs.TextCheck.{reported_of, check_read, text_answer, printed_of, printed}
use Rattle.model.specs.declared.WalkKind.TheVariants.{Reading, Writing}
use Rattle.model.specs.Walk.{stand, step, Reached}
use Rattle.model.specs.Marked.{spec_edges, read_only_nodes, AllHold, marked}
use Rattle.model.proofs.Walks.{walk_end}

-- every case of the list holds
pub marked-holds : AllHold marked
unfolding flat_map keep any all is_nil nodes_from edges_from pairs_from graph_of node first_bit last_bit bit_offset leaving paths_within paths empty is_open last_open whole shift clip across along runs record_of touch hull joined before place add normal list_of same_record same_list contained all_contained verdict has_bit bits_within differs_at changes least least_of lowest raised_by bank_records group_list same_spec group is_lowest lowest_rows visits finding_of findings kind_verdict verdict_of lower_of lowest_of count largest first_unequal place_of result_of when ◌then◌ first_refusal check_shape is_kind is_unit is_access good_extent good_node check_node is_row good_offset good_edge check_edge each ending_at followed begins cyclic deep check_graph is_root is_leaf many_paths check_named check_output good_at same_root same_impl clashes check_pair check_visit check_pairing check_single check_tables answer check_answer numbers_of list_answer compare_answer bytes digits shown spaced same node_table edge_table pair_table onto lines feeds allowed check_bytes broken_off check_text fields_of is_digit numeral magnitude negative value_of cons_option values_of column_of is_field layout_of good_fields columns arranged row_of check_side_or_role judged with_row stop with_line read_values read_table rows_with tables_of read_third read_second read_first read_map line_of no_record lengths_of_lists finding_line result_line report refusal_report reported_of check_read text_answer printed_of printed
marked-holds = (refl, (refl, (refl, (refl, (refl, (refl, (refl, (refl, (refl, (refl, (refl, (refl, (refl, (refl, (refl, (refl, (refl, (refl, (refl, (refl, (refl, (refl, (refl, tt)))))))))))))))))))))))

-- the read-only block by walks of single addresses: a reading walk reaches its first bit, no writing walk reaches it
pub read_only_walks : Reached Reading (graph_of read_only_nodes spec_edges) (pos 0) (pos 1) (pos 2048) (pos 0)
    × ((x y : ℤ) → Reached Writing (graph_of read_only_nodes spec_edges) (pos 0) (pos 1) x y → ⊥)
unfolding graph_of nodes_from edges_from node first_bit last_bit bit_offset
read_only_walks = (
  record {
    arrival = pos 2048;
    walk = step {a = pos 2048} (record { row = 0; from = pos 0; to = pos 1; offset = pos 0 }) (Memᴰ.head refl) refl
        (record { access = λ e. omega (arith, ap nat_abs e); above = omega (arith, ints); below = omega (arith, ints) })
        (stand {v = pos 1} {a = pos 2048} (record { access = λ e. omega (arith, ap nat_abs e); above = omega (arith, ints); below = omega (arith, ints) }));
    leaf_bit = refl;
  },
  λ x y h. (walk_end h.walk).access refl,
)
