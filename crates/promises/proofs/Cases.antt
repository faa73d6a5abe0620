-- The cases of specs/Cases.antt hold, by computation. Assumes nothing.
use mathlib.Core.Path.{refl}
use Rattle.bits.specs.Bit.{bit}
use Rattle.bits.specs.Cut.{word_count}
use Rattle.bits.specs.Lists.{Hold}
use Rattle.text.specs.Numbers.{decimal}
use Rattle.network.specs.Net.{is_gate, excluded, excluded_for, occurs, pattern_order, entry, values}
use Rattle.network.specs.DontCares.{sdc, cdc, values_inverted, odc, full, harms}
use Rattle.network.specs.Compatible.{agree, constant, turns, free_fanins, at_outputs, compatible_from, compatible, compatible_count, delivers, closed, open_table, open_tables}
use Rattle.network.specs.Flat.{gate_at, gates_of, net_of, loaded_net, current_net, word_of, words_of}
use Rattle.network.specs.Tests.{mark_test, fanin_test, fanins_test, excluded_test}
use Rattle.network.specs.State.{gate_fault, state_fault, state_test}
use Rattle.network.specs.Load.{output_record, read_outputs, gate_record, read_gates, excluded_record, read_body, header_record, read_of, load_of}
use Rattle.network.specs.Write.{header_bytes, excluded_bytes, gate_bytes, output_bytes, bytes_of}
use Rattle.network.specs.Calls.{gate_test, table_test, alters, closed_test, harm_test, exchange_answer, lengths_test, pair_test, verdict_of, pattern_sets_of, write_of}
use Rattle.network.specs.Sessions.{answer_by}
use Rattle.text.specs.Words.{words}
use Rattle.blif.specs.Text.{statement, statements}
use Rattle.blif.specs.Cover.{cover_table}
use Rattle.blif.specs.Read.{read_blocks, read_inputs, read_outputs as read_outputs_line, read_model, read_blif, read_blif_of}
use Rattle.blif.specs.Write.{outgoing, lines_of, blif_text, copies_test}
use Rattle.render.specs.Listing.{refused_line, listing_of, listing_into}
use Rattle.packed.specs.Packed.{packed_of, session_in, bytes_test, words_test}
use Rattle.promises.specs.Boundary.{load_call, read_blif_call, listing_call, tables_call, all_tables_call, pattern_sets_call, hidden_call, verdict_call, exchange_call, write_call, write_blif_call}
use Rattle.promises.specs.Cases.{cases, blif, in_turn}

pub cases-hold : Hold cases
unfolding bit is_gate excluded excluded_for occurs pattern_order entry values sdc cdc values_inverted odc full harms agree constant turns free_fanins at_outputs compatible_from compatible compatible_count delivers closed open_table open_tables gate_at gates_of net_of loaded_net current_net word_of words_of mark_test fanin_test fanins_test excluded_test gate_fault state_fault state_test output_record read_outputs gate_record read_gates excluded_record read_body header_record read_of load_of header_bytes excluded_bytes gate_bytes output_bytes bytes_of gate_test table_test alters closed_test harm_test exchange_answer lengths_test pair_test verdict_of pattern_sets_of write_of word_count packed_of session_in bytes_test words_test decimal refused_line listing_of listing_into load_call listing_call tables_call all_tables_call pattern_sets_call hidden_call verdict_call exchange_call write_call
cases-hold = refl

pub blif-hold : Hold blif
unfolding bit is_gate excluded excluded_for occurs pattern_order entry values agree constant turns free_fanins at_outputs compatible_from compatible delivers closed open_table open_tables gate_at gates_of net_of loaded_net current_net fanin_test fanins_test excluded_test gate_fault state_fault state_test packed_of session_in bytes_test words_test decimal words statement statements cover_table read_blocks read_inputs read_outputs_line read_model read_blif read_blif_of outgoing lines_of blif_text copies_test read_blif_call write_blif_call
blif-hold = refl

pub in-turn-hold : Hold in_turn
unfolding bit is_gate excluded excluded_for occurs pattern_order entry values agree constant turns free_fanins at_outputs compatible_from compatible delivers closed gate_at gates_of net_of loaded_net fanin_test fanins_test excluded_test gate_fault state_fault state_test gate_test table_test alters closed_test exchange_answer answer_by packed_of session_in bytes_test words_test exchange_call
in-turn-hold = refl
