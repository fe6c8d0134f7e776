-- The readings of the global address sheet hold of the definitions: computed.
use mathlib.Core.Path.{refl}
use mathlib.Core.List.{flat_map}
use Rattle.lists.specs.Lists.{keep, any, all, is_nil}
use Rattle.model.specs.Rows.{nodes_from, edges_from}
use Rattle.model.specs.Checks.{when, ◌then◌, check_output}
use Rattle.model.specs.Calls.{answer, buffer_after, among, ascending}
use Rattle.model.specs.Bytes.{bytes, digits, shown, spaced, same}
use Rattle.model.specs.MapFile.{onto, lines, feeds}
use Rattle.model.specs.Reader.{allowed, check_bytes, broken_off, check_text, fields_of, is_digit, numeral, magnitude, negative, value_of, cons_option, values_of, column_of, is_field, layout_of, good_fields, columns, arranged, row_of, judged, with_row, stop, with_line, read_values, read_table}
use Rattle.model.specs.Report.{line_of, refusal_report}
use Rattle.model.specs.Sheet.{initiators, blocks, place_among, initiator_row, block_row, size_of, byte_node, sheet_nodes, edge_of, sheet_edges}
use Rattle.model.specs.SheetFile.{sheet_table, line_of_row, is_sheet_number, good_bytes, good_line, clashes_with, check_sheet_line, check_sheet_row, lines_read, read_sheet}
use Rattle.model.specs.SheetCall.{check_made, made, made_of, sheet_answer, lengths_of, table_in, sheet_gives, sheet_nodes_after, sheet_edges_after, node_line, edge_line, graph_lines, sheet_printed_of, sheet_printed}
use Rattle.readings.specs.Sheets.{AllSay, sheet_readings}

-- sheets are read, and refused, so
pub sheet_readings_hold : AllSay sheet_readings
unfolding flat_map keep any all is_nil nodes_from edges_from when ◌then◌ check_output answer buffer_after among ascending bytes digits shown spaced same onto lines feeds allowed check_bytes broken_off check_text fields_of is_digit numeral magnitude negative value_of cons_option values_of column_of is_field layout_of good_fields columns arranged row_of judged with_row stop with_line read_values read_table line_of refusal_report initiators blocks place_among initiator_row block_row size_of byte_node sheet_nodes edge_of sheet_edges sheet_table line_of_row is_sheet_number good_bytes good_line clashes_with check_sheet_line check_sheet_row lines_read read_sheet check_made made made_of sheet_answer lengths_of table_in sheet_gives sheet_nodes_after sheet_edges_after node_line edge_line graph_lines sheet_printed_of sheet_printed
sheet_readings_hold = (refl, (refl, (refl, (refl, (refl, (refl, (refl, (refl, (refl, (refl, (refl, (refl, (refl, (refl, (refl, (refl, (refl, (refl, (refl, (refl, (refl, (refl, (refl, (refl, (refl, (refl, (refl, (refl, (refl, (refl, (refl, (refl, (refl, (refl, (refl, (refl, (refl, (refl, (refl, (refl, (refl, (refl, (refl, (refl, (refl, (refl, (refl, (refl, (refl, (refl, (refl, (refl, (refl, (refl, (refl, (refl, (refl, (refl, (refl, (refl, (refl, (refl, (refl, (refl, (refl, (refl, (refl, (refl, (refl, (refl, (refl, (refl, (refl, (refl, (refl, (refl, (refl, (refl, (refl, (refl, (refl, (refl, (refl, ((refl, refl, refl), ((refl, refl, refl), ((refl, refl, refl), ((refl, refl, refl), ((refl, refl, refl), ((refl, refl, refl), ((refl, refl, refl), ((refl, refl, refl), ((refl, refl, refl), ((refl, refl, refl), ((refl, refl, refl), ((refl, refl, refl), ((refl, refl, refl), ((refl, refl, refl), ((refl, refl, refl), ((refl, refl, refl), ((refl, refl, refl), ((refl, refl, refl), ((refl, refl, refl), ((refl, refl, refl), tt)))))))))))))))))))))))))))))))))))))))))))))))))))))))))))))))))))))))))))))))))))))))))))))))))))))))
