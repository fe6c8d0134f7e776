-- The readings of many addresses together hold of the definitions: computed.
use mathlib.Core.Path.{refl}
use mathlib.Core.List.{flat_map}
use Rattle.lists.specs.Lists.{keep, any, all, is_nil}
use Rattle.model.specs.Rows.{nodes_from, edges_from}
use Rattle.model.specs.Graph.{graph_of, node, first_bit, last_bit, bit_offset}
use Rattle.model.specs.Runs.{empty, is_open, last_open, whole, shift, clip, across, along, leaving, paths_within, paths, runs, record_of, touch, hull, joined, before, place, add, normal, list_of}
use Rattle.model.specs.Verdicts.{has_bit}
use Rattle.model.specs.Checks.{when, ◌then◌, first_refusal, check_shape, is_kind, is_unit, is_access, good_extent, good_node, check_node, is_row, good_offset, good_edge, check_edge, each, ending_at, followed, begins, cyclic, deep, check_graph, is_root, is_leaf, many_paths, check_named, check_output, check_single}
use Rattle.model.specs.Calls.{answer, buffer_after}
use Rattle.batches.specs.Batch.{rows_in, batch_rows, batch_numbers, batch_of, check_batch, batch_answer, counts_of, batch_numbers_of, batch_gives, batch_after}
use Rattle.readings.specs.Batches.{AllSay, batch_readings}

-- batches are answered so
pub batch_readings_hold : AllSay batch_readings
unfolding flat_map keep any all is_nil nodes_from edges_from graph_of node first_bit last_bit bit_offset empty is_open last_open whole shift clip across along leaving paths_within paths runs record_of touch hull joined before place add normal list_of has_bit when ◌then◌ first_refusal check_shape is_kind is_unit is_access good_extent good_node check_node is_row good_offset good_edge check_edge each ending_at followed begins cyclic deep check_graph is_root is_leaf many_paths check_named check_output check_single answer buffer_after rows_in batch_rows batch_numbers batch_of check_batch batch_answer counts_of batch_numbers_of batch_gives batch_after
batch_readings_hold = ((refl, refl), ((refl, refl), ((refl, refl), ((refl, refl), ((refl, refl), ((refl, refl), ((refl, refl), ((refl, refl), ((refl, refl), ((refl, refl), ((refl, refl), ((refl, refl), ((refl, refl), ((refl, refl), ((refl, refl), ((refl, refl), tt))))))))))))))))
