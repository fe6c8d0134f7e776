-- The readings of documents 01 and 02 hold of the definitions: computed.
use mathlib.Core.Path.{refl}
use mathlib.Core.List.{flat_map}
use Rattle.lists.specs.Lists.{keep, any, all, is_nil}
use Rattle.model.specs.Rows.{nodes_from, edges_from, pairs_from}
use Rattle.model.specs.Graph.{graph_of, node, first_bit, last_bit, bit_offset}
use Rattle.model.specs.Runs.{empty, is_open, last_open, whole, shift, clip, across, along, leaving, paths_within, paths, runs, record_of, touch, hull, joined, before, place, add, normal, list_of}
use Rattle.model.specs.Verdicts.{same_record, same_list, contained, all_contained, verdict, has_bit, bits_within, differs_at, changes, least, least_of, lowest}
use Rattle.model.specs.Groups.{raised_by, bank_records, group_list}
use Rattle.model.specs.Compare.{same_spec, group, is_lowest, lowest_rows, visits, finding_of, findings, kind_verdict, verdict_of, lower_of, lowest_of, count, largest, first_unequal, place_of, result_of}
use Rattle.model.specs.Checks.{when, ◌then◌, first_refusal, check_shape, is_kind, is_unit, is_access, good_extent, good_node, check_node, is_row, good_offset, good_edge, check_edge, each, ending_at, followed, begins, cyclic, deep, check_graph, is_root, is_leaf, many_paths, check_named, check_output, good_at, same_root, same_impl, clashes, check_pair, check_visit, check_pairing, check_single, check_tables}
use Rattle.model.specs.Calls.{answer, length_of, buffer_after, check_answer, stands_on, arrivals, among, ascending, leaf_bits, walk_answer, walk_gives, walk_after, numbers_of, list_answer, numbers_answer, list_gives, list_after, compare_answer}
use Rattle.model.specs.Bytes.{bytes, digits, shown, spaced, same}
use Rattle.model.specs.MapFile.{node_table, edge_table, pair_table, onto, lines, feeds}
use Rattle.model.specs.Reader.{allowed, check_bytes, broken_off, check_text, fields_of, is_digit, numeral, magnitude, negative, value_of, cons_option, values_of, column_of, is_field, layout_of, good_fields, columns, arranged, row_of, check_side_or_role, judged, with_row, stop, with_line, read_values, read_table, rows_with, tables_of, read_third, read_second, read_first, read_map}
use Rattle.model.specs.Report.{line_of, no_record, lengths_of_lists, finding_line, result_line, report, refusal_report}
use Rattle.model.specs.TextCheck.{reported_of, check_read, text_answer, report_of, text_gives, text_after, coded, printed_of, printed}
use Rattle.model.specs.Tally.{caller_of, answer_to, tally_answer, tally_gives, tally_after, ending_of, one_more, counts_after, counts_after_all, checks_of, ended}
use Rattle.readings.specs.Readings.{AllSay, text_readings, graph_readings, call_readings, group_readings, code_readings, tally_readings}

-- map files are read and reported so
pub text_readings_hold : AllSay text_readings
unfolding flat_map keep any all is_nil nodes_from edges_from pairs_from graph_of node first_bit last_bit bit_offset empty is_open last_open whole shift clip across along leaving paths_within paths runs record_of touch hull joined before place add normal list_of same_record same_list contained all_contained verdict has_bit bits_within differs_at changes least least_of lowest raised_by bank_records group_list same_spec group is_lowest lowest_rows visits finding_of findings kind_verdict verdict_of lower_of lowest_of count largest first_unequal place_of result_of when ◌then◌ first_refusal check_shape is_kind is_unit is_access good_extent good_node check_node is_row good_offset good_edge check_edge each ending_at followed begins cyclic deep check_graph is_root is_leaf many_paths check_named check_output good_at same_root same_impl clashes check_pair check_visit check_pairing check_single check_tables answer length_of buffer_after check_answer stands_on arrivals among ascending leaf_bits walk_answer walk_gives walk_after numbers_of list_answer numbers_answer list_gives list_after compare_answer bytes digits shown spaced same node_table edge_table pair_table onto lines feeds allowed check_bytes broken_off check_text fields_of is_digit numeral magnitude negative value_of cons_option values_of column_of is_field layout_of good_fields columns arranged row_of check_side_or_role judged with_row stop with_line read_values read_table rows_with tables_of read_third read_second read_first read_map line_of no_record lengths_of_lists finding_line result_line report refusal_report reported_of check_read text_answer report_of text_gives text_after coded printed_of printed
text_readings_hold = (refl, (refl, (refl, (refl, (refl, (refl, (refl, (refl, (refl, (refl, (refl, (refl, (refl, (refl, (refl, (refl, (refl, (refl, (refl, (refl, (refl, (refl, (refl, (refl, (refl, (refl, (refl, tt)))))))))))))))))))))))))))

-- graphs are checked so
pub graph_readings_hold : AllSay graph_readings
unfolding flat_map keep any all is_nil nodes_from edges_from pairs_from graph_of node first_bit last_bit bit_offset empty is_open last_open whole shift clip across along leaving paths_within paths runs record_of touch hull joined before place add normal list_of same_record same_list contained all_contained verdict has_bit bits_within differs_at changes least least_of lowest raised_by bank_records group_list same_spec group is_lowest lowest_rows visits finding_of findings kind_verdict verdict_of lower_of lowest_of count largest first_unequal place_of result_of when ◌then◌ first_refusal check_shape is_kind is_unit is_access good_extent good_node check_node is_row good_offset good_edge check_edge each ending_at followed begins cyclic deep check_graph is_root is_leaf many_paths check_named check_output good_at same_root same_impl clashes check_pair check_visit check_pairing check_single check_tables answer length_of buffer_after check_answer stands_on arrivals among ascending leaf_bits walk_answer walk_gives walk_after numbers_of list_answer numbers_answer list_gives list_after compare_answer bytes digits shown spaced same node_table edge_table pair_table onto lines feeds allowed check_bytes broken_off check_text fields_of is_digit numeral magnitude negative value_of cons_option values_of column_of is_field layout_of good_fields columns arranged row_of check_side_or_role judged with_row stop with_line read_values read_table rows_with tables_of read_third read_second read_first read_map line_of no_record lengths_of_lists finding_line result_line report refusal_report reported_of check_read text_answer report_of text_gives text_after coded printed_of printed
graph_readings_hold = (refl, (refl, (refl, (refl, (refl, (refl, (refl, (refl, (refl, (refl, (refl, (refl, (refl, (refl, (refl, (refl, (refl, tt)))))))))))))))))

-- walk, list and compare answer so
pub call_readings_hold : AllSay call_readings
unfolding flat_map keep any all is_nil nodes_from edges_from pairs_from graph_of node first_bit last_bit bit_offset empty is_open last_open whole shift clip across along leaving paths_within paths runs record_of touch hull joined before place add normal list_of same_record same_list contained all_contained verdict has_bit bits_within differs_at changes least least_of lowest raised_by bank_records group_list same_spec group is_lowest lowest_rows visits finding_of findings kind_verdict verdict_of lower_of lowest_of count largest first_unequal place_of result_of when ◌then◌ first_refusal check_shape is_kind is_unit is_access good_extent good_node check_node is_row good_offset good_edge check_edge each ending_at followed begins cyclic deep check_graph is_root is_leaf many_paths check_named check_output good_at same_root same_impl clashes check_pair check_visit check_pairing check_single check_tables answer length_of buffer_after check_answer stands_on arrivals among ascending leaf_bits walk_answer walk_gives walk_after numbers_of list_answer numbers_answer list_gives list_after compare_answer bytes digits shown spaced same node_table edge_table pair_table onto lines feeds allowed check_bytes broken_off check_text fields_of is_digit numeral magnitude negative value_of cons_option values_of column_of is_field layout_of good_fields columns arranged row_of check_side_or_role judged with_row stop with_line read_values read_table rows_with tables_of read_third read_second read_first read_map line_of no_record lengths_of_lists finding_line result_line report refusal_report reported_of check_read text_answer report_of text_gives text_after coded printed_of printed
call_readings_hold = ((refl, refl), ((refl, refl), ((refl, refl), ((refl, refl), ((refl, refl), ((refl, refl), ((refl, refl), ((refl, refl), ((refl, refl), ((refl, refl), ((refl, refl), ((refl, refl), ((refl, refl), ((refl, refl), ((refl, refl), ((refl, refl), (refl, (refl, (refl, (refl, (refl, (refl, (refl, (refl, (refl, (refl, (refl, (refl, (refl, tt)))))))))))))))))))))))))))))

-- groups of banks are read and compared so
pub group_readings_hold : AllSay group_readings
unfolding flat_map keep any all is_nil nodes_from edges_from pairs_from graph_of node first_bit last_bit bit_offset empty is_open last_open whole shift clip across along leaving paths_within paths runs record_of touch hull joined before place add normal list_of same_record same_list contained all_contained verdict has_bit bits_within differs_at changes least least_of lowest raised_by bank_records group_list same_spec group is_lowest lowest_rows visits finding_of findings kind_verdict verdict_of lower_of lowest_of count largest first_unequal place_of result_of when ◌then◌ first_refusal check_shape is_kind is_unit is_access good_extent good_node check_node is_row good_offset good_edge check_edge each ending_at followed begins cyclic deep check_graph is_root is_leaf many_paths check_named check_output good_at same_root same_impl clashes check_pair check_visit check_pairing check_single check_tables answer length_of buffer_after check_answer stands_on arrivals among ascending leaf_bits walk_answer walk_gives walk_after numbers_of list_answer numbers_answer list_gives list_after compare_answer bytes digits shown spaced same node_table edge_table pair_table onto lines feeds allowed check_bytes broken_off check_text fields_of is_digit numeral magnitude negative value_of cons_option values_of column_of is_field layout_of good_fields columns arranged row_of check_side_or_role judged with_row stop with_line read_values read_table rows_with tables_of read_third read_second read_first read_map line_of no_record lengths_of_lists finding_line result_line report refusal_report reported_of check_read text_answer report_of text_gives text_after coded printed_of printed
group_readings_hold = (refl, (refl, (refl, (refl, (refl, (refl, (refl, (refl, (refl, (refl, (refl, (refl, (refl, (refl, (refl, (refl, (refl, (refl, (refl, (refl, (refl, (refl, (refl, (refl, (refl, (refl, (refl, (refl, (refl, (refl, (refl, (refl, (refl, (refl, (refl, (refl, (refl, (refl, (refl, (refl, (refl, (refl, (refl, (refl, (refl, (refl, (refl, (refl, (refl, tt)))))))))))))))))))))))))))))))))))))))))))))))))

-- codes are so
pub code_readings_hold : AllSay code_readings
unfolding flat_map keep any all is_nil nodes_from edges_from pairs_from graph_of node first_bit last_bit bit_offset empty is_open last_open whole shift clip across along leaving paths_within paths runs record_of touch hull joined before place add normal list_of same_record same_list contained all_contained verdict has_bit bits_within differs_at changes least least_of lowest raised_by bank_records group_list same_spec group is_lowest lowest_rows visits finding_of findings kind_verdict verdict_of lower_of lowest_of count largest first_unequal place_of result_of when ◌then◌ first_refusal check_shape is_kind is_unit is_access good_extent good_node check_node is_row good_offset good_edge check_edge each ending_at followed begins cyclic deep check_graph is_root is_leaf many_paths check_named check_output good_at same_root same_impl clashes check_pair check_visit check_pairing check_single check_tables answer length_of buffer_after check_answer stands_on arrivals among ascending leaf_bits walk_answer walk_gives walk_after numbers_of list_answer numbers_answer list_gives list_after compare_answer bytes digits shown spaced same node_table edge_table pair_table onto lines feeds allowed check_bytes broken_off check_text fields_of is_digit numeral magnitude negative value_of cons_option values_of column_of is_field layout_of good_fields columns arranged row_of check_side_or_role judged with_row stop with_line read_values read_table rows_with tables_of read_third read_second read_first read_map line_of no_record lengths_of_lists finding_line result_line report refusal_report reported_of check_read text_answer report_of text_gives text_after coded printed_of printed
code_readings_hold = (refl, (refl, (refl, (refl, (refl, (refl, tt))))))

-- and tallies
pub tally_readings_hold : AllSay tally_readings
unfolding flat_map keep any all is_nil nodes_from edges_from pairs_from graph_of node first_bit last_bit bit_offset empty is_open last_open whole shift clip across along leaving paths_within paths runs record_of touch hull joined before place add normal list_of same_record same_list contained all_contained verdict has_bit bits_within differs_at changes least least_of lowest raised_by bank_records group_list same_spec group is_lowest lowest_rows visits finding_of findings kind_verdict verdict_of lower_of lowest_of count largest first_unequal place_of result_of when ◌then◌ first_refusal check_shape is_kind is_unit is_access good_extent good_node check_node is_row good_offset good_edge check_edge each ending_at followed begins cyclic deep check_graph is_root is_leaf many_paths check_named check_output good_at same_root same_impl clashes check_pair check_visit check_pairing check_single check_tables answer length_of buffer_after check_answer stands_on arrivals among ascending leaf_bits walk_answer walk_gives walk_after numbers_of list_answer numbers_answer list_gives list_after compare_answer bytes digits shown spaced same node_table edge_table pair_table onto lines feeds allowed check_bytes broken_off check_text fields_of is_digit numeral magnitude negative value_of cons_option values_of column_of is_field layout_of good_fields columns arranged row_of check_side_or_role judged with_row stop with_line read_values read_table rows_with tables_of read_third read_second read_first read_map line_of no_record lengths_of_lists finding_line result_line report refusal_report reported_of check_read text_answer report_of text_gives text_after coded printed_of printed caller_of answer_to tally_answer tally_gives tally_after ending_of one_more counts_after counts_after_all checks_of ended
tally_readings_hold = ((refl, refl, refl), ((refl, refl, refl), ((refl, refl, refl), ((refl, refl, refl), ((refl, refl, refl), ((refl, refl, refl), ((refl, refl, refl), ((refl, refl, refl), ((refl, refl, refl), ((refl, refl, refl), ((refl, refl, refl), ((refl, refl, refl), ((refl, refl, refl), ((refl, refl, refl), (refl, (refl, (refl, (refl, tt))))))))))))))))))
