-- The cases of specs/Cases.antt, ListCases.antt, RecordCases.antt and WeightCases.antt hold, by computation. Assumes nothing.
use mathlib.Core.Path.{refl}
use mathlib.Core.List.{map}
use Rattle.bits.specs.Bit.{bit}
use Rattle.bits.specs.Lists.{Hold}
use Rattle.network.specs.Net.{is_gate, excluded, excluded_for, occurs, pattern_order, entry, values}
use Rattle.network.specs.DontCares.{sdc, cdc, values_inverted, odc, full, harms}
use Rattle.network.specs.Compatible.{agree, constant, turns, free_fanins, at_outputs, compatible_from, compatible, compatible_count, delivers, closed, open_table, open_tables}
use Rattle.network.specs.Flat.{gate_at, gates_of, net_of, loaded_net, current_net}
use Rattle.network.specs.Tests.{mark_test, fanin_test, fanins_test, excluded_test}
use Rattle.network.specs.State.{gate_fault, state_fault, state_test}
use Rattle.network.specs.Load.{output_record, read_outputs, gate_record, read_gates, excluded_record, read_body, header_record, read_of, load_of}
use Rattle.network.specs.Write.{header_bytes, excluded_bytes, gate_bytes, output_bytes, bytes_of}
use Rattle.network.specs.Calls.{gate_test, table_test, alters, closed_test, harm_test, exchange_answer, exchange_of, lengths_test, pair_test, verdict_of, tables_of, write_of}
use Rattle.network.specs.Cases.{marked, sizes, refused, read_said, damaged}
use Rattle.network.specs.ListCases.{lists}
use Rattle.network.specs.RecordCases.{wide_refused, wide_records}
use Rattle.network.specs.WeightCases.{weights}

pub cases-hold : Hold marked × Hold sizes × Hold refused × Hold (map read_said damaged) × Hold lists × Hold wide_refused × Hold (map read_said wide_records) × Hold weights
unfolding bit is_gate excluded excluded_for occurs pattern_order entry values sdc cdc values_inverted odc full harms agree constant turns free_fanins at_outputs compatible_from compatible compatible_count delivers closed open_table open_tables gate_at gates_of net_of loaded_net current_net mark_test fanin_test fanins_test excluded_test gate_fault state_fault state_test output_record read_outputs gate_record read_gates excluded_record read_body header_record read_of load_of header_bytes excluded_bytes gate_bytes output_bytes bytes_of gate_test table_test alters closed_test harm_test exchange_answer exchange_of lengths_test pair_test verdict_of tables_of write_of
cases-hold = (refl, refl, refl, refl, refl, refl, refl, refl)
