-- The cases of specs/Cases.antt hold, by computation: a theorem for each part, since one alone would take too many steps. Assumes nothing.
use mathlib.Core.Path.{refl}
use Rattle.bits.specs.Bit.{bit}
use Rattle.bits.specs.Lists.{Hold}
use Rattle.network.specs.Net.{is_gate, excluded, excluded_for, occurs, pattern_order, entry, values}
use Rattle.network.specs.DontCares.{sdc, cdc, values_inverted, odc, full, harms}
use Rattle.network.specs.Compatible.{agree, constant, turns, free_fanins, at_outputs, compatible_from, compatible, compatible_count, delivers, closed, open_table, open_tables}
use Rattle.network.specs.Flat.{gate_at, gates_of, net_of, loaded_net, current_net}
use Rattle.network.specs.Tests.{mark_test, fanin_test, fanins_test, excluded_test}
use Rattle.network.specs.State.{gate_fault, state_fault, state_test}
use Rattle.network.specs.Load.{output_record, read_outputs, gate_record, read_gates, excluded_record, read_body, header_record, read_of, load_of}
use Rattle.network.specs.Write.{header_bytes, excluded_bytes, gate_bytes, output_bytes, bytes_of}
use Rattle.network.specs.Calls.{gate_test, table_test, alters, closed_test, harm_test, exchange_answer, exchange_of, lengths_test, pair_test, verdict_of}
use Rattle.widecases.specs.Cases.{OrSixFile, copies, the_or, OpenOr, or_six_calls, five_fanins, over_six, none_comes, chosen}

pub or-six-file : OrSixFile
unfolding bit is_gate excluded excluded_for occurs pattern_order entry values sdc cdc values_inverted odc full harms agree constant turns free_fanins at_outputs compatible_from compatible compatible_count delivers closed open_table open_tables gate_at gates_of net_of loaded_net current_net mark_test fanin_test fanins_test excluded_test gate_fault state_fault state_test output_record read_outputs gate_record read_gates excluded_record read_body header_record read_of load_of header_bytes excluded_bytes gate_bytes output_bytes bytes_of gate_test table_test alters closed_test harm_test exchange_answer exchange_of lengths_test pair_test verdict_of
or-six-file = (refl, refl)

pub copies-hold : Hold copies
unfolding bit excluded excluded_for occurs entry values sdc cdc values_inverted odc full agree constant turns free_fanins at_outputs compatible_from compatible delivers closed open_table
copies-hold = refl

pub the-or-holds : Hold the_or
unfolding bit excluded excluded_for occurs entry values sdc cdc values_inverted odc full agree constant turns free_fanins at_outputs compatible_from compatible delivers closed open_table
the-or-holds = refl

pub open-or : OpenOr
unfolding bit excluded excluded_for occurs entry values sdc cdc values_inverted odc full agree constant turns free_fanins at_outputs compatible_from compatible delivers closed open_table
open-or = refl

pub calls-hold : Hold or_six_calls
unfolding bit is_gate excluded excluded_for occurs pattern_order entry values sdc cdc values_inverted odc full harms agree constant turns free_fanins at_outputs compatible_from compatible compatible_count delivers closed open_table open_tables gate_at gates_of net_of loaded_net current_net mark_test fanin_test fanins_test excluded_test gate_fault state_fault state_test output_record read_outputs gate_record read_gates excluded_record read_body header_record read_of load_of header_bytes excluded_bytes gate_bytes output_bytes bytes_of gate_test table_test alters closed_test harm_test exchange_answer exchange_of lengths_test pair_test verdict_of
calls-hold = refl

pub five-fanins : Hold five_fanins
unfolding bit excluded excluded_for occurs entry values sdc cdc values_inverted odc full agree constant turns free_fanins at_outputs compatible_from compatible delivers closed open_table gate_at gates_of net_of loaded_net
five-fanins = refl

pub none-comes : Hold none_comes
unfolding bit excluded excluded_for occurs entry values sdc cdc values_inverted odc full agree constant turns free_fanins at_outputs compatible_from compatible delivers closed open_table
none-comes = refl

pub over-six : Hold (over_six 0x8000000000000000 0x7FFFFFFFFFFFFFFF) × Hold (over_six 0xFFFFFFFFFFFFFFFF 0) × Hold (over_six 0xE7E7E7E7E7E7E7E7 0x1818181818181818)
unfolding bit excluded excluded_for occurs entry values sdc cdc values_inverted odc full agree constant turns free_fanins at_outputs compatible_from compatible delivers closed open_table
over-six = (refl, refl, refl)

pub chosen-6 : Hold (chosen 6 0xFFFFFFFFFFFF0000)
unfolding bit excluded excluded_for occurs entry values sdc cdc values_inverted odc full agree constant turns free_fanins at_outputs compatible_from compatible delivers closed open_table
chosen-6 = refl

pub chosen-7 : Hold (chosen 7 0xFFFFFFFF0000FFFF)
unfolding bit excluded excluded_for occurs entry values sdc cdc values_inverted odc full agree constant turns free_fanins at_outputs compatible_from compatible delivers closed open_table
chosen-7 = refl

pub chosen-8 : Hold (chosen 8 0xFFFF0000FFFFFFFF)
unfolding bit excluded excluded_for occurs entry values sdc cdc values_inverted odc full agree constant turns free_fanins at_outputs compatible_from compatible delivers closed open_table
chosen-8 = refl

pub chosen-9 : Hold (chosen 9 0x0000FFFFFFFFFFFF)
unfolding bit excluded excluded_for occurs entry values sdc cdc values_inverted odc full agree constant turns free_fanins at_outputs compatible_from compatible delivers closed open_table
chosen-9 = refl
