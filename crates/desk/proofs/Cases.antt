-- The cases hold, by computation. Assumes nothing.
use mathlib.Core.Path.{refl}
use Rattle.bits.specs.Bit.{bit}
use Rattle.network.specs.Net.{is_gate, excluded, excluded_for, occurs, pattern_order, entry, values}
use Rattle.network.specs.DontCares.{harms}
use Rattle.network.specs.Compatible.{agree, constant, turns, free_fanins, at_outputs, compatible_from, compatible, delivers, closed, open_table, open_tables}
use Rattle.network.specs.Flat.{gate_at, gates_of, net_of, loaded_net, current_net}
use Rattle.network.specs.Tests.{mark_test, fanin_test, fanins_test, excluded_test}
use Rattle.network.specs.State.{gate_fault, state_fault, state_test}
use Rattle.network.specs.Load.{output_record, read_outputs, gate_record, read_gates, excluded_record, read_body, header_record, read_of, load_of}
use Rattle.network.specs.Write.{header_bytes, excluded_bytes, gate_bytes, output_bytes, bytes_of}
use Rattle.network.specs.Calls.{gate_test, table_test, alters, closed_test, harm_test, exchange_answer, lengths_test, pair_test, verdict_of}
use Rattle.bits.specs.Lists.{Hold}
use Rattle.text.specs.Numbers.{hex, decimal}
use Rattle.text.specs.Words.{words}
use Rattle.tabletext.specs.Digits.{digits}
use Rattle.ordertext.specs.Order.{digit_of, is_numeral, numeral, name_length, is_pair, pair_of, signal_named, order_of}
use Rattle.desk.specs.Reply.{all_open, reply_on, reply_of, board_of}
use Rattle.desk.specs.Answer.{open_line, alone_line, line_on, harm_line, refused_line, file_line, pair_refused_line, pair_line, answer_text}
use Rattle.desk.specs.Cases.{loads, answered, refused, written, sizes}

pub loads-hold : Hold loads
unfolding bit is_gate excluded excluded_for occurs pattern_order entry values agree constant turns free_fanins at_outputs compatible_from compatible delivers closed open_table open_tables gate_at gates_of net_of loaded_net current_net mark_test fanin_test fanins_test excluded_test output_record read_outputs gate_record read_gates excluded_record read_body header_record read_of load_of
loads-hold = refl

pub answered-hold : Hold answered
unfolding bit is_gate excluded excluded_for pattern_order entry values harms gate_at gates_of net_of loaded_net current_net fanin_test fanins_test excluded_test gate_fault state_fault state_test gate_test table_test alters closed_test harm_test exchange_answer decimal hex digits words digit_of is_numeral numeral name_length is_pair pair_of signal_named order_of lengths_test pair_test verdict_of all_open reply_on open_line alone_line line_on harm_line pair_line
answered-hold = refl

pub refused-hold : Hold refused
unfolding bit is_gate excluded excluded_for pattern_order entry values harms gate_at gates_of net_of loaded_net current_net mark_test fanin_test fanins_test excluded_test gate_fault state_fault state_test output_record read_outputs gate_record read_gates excluded_record read_body header_record read_of load_of gate_test table_test alters closed_test harm_test exchange_answer decimal hex digits words digit_of is_numeral numeral name_length is_pair pair_of signal_named order_of lengths_test pair_test verdict_of all_open reply_on reply_of open_line alone_line line_on harm_line refused_line file_line pair_refused_line pair_line answer_text
refused-hold = refl

pub written-hold : Hold written
unfolding bit is_gate excluded excluded_for occurs pattern_order entry values agree constant turns free_fanins at_outputs compatible_from compatible delivers closed open_table open_tables gate_at gates_of net_of loaded_net current_net mark_test fanin_test fanins_test excluded_test output_record read_outputs gate_record read_gates excluded_record read_body header_record read_of load_of header_bytes excluded_bytes gate_bytes output_bytes bytes_of words digit_of is_numeral numeral name_length is_pair pair_of signal_named order_of board_of
written-hold = refl

pub sizes-hold : Hold sizes
sizes-hold = refl
