-- The cases of specs/Cases.antt hold, by computation. Assumes nothing.
use mathlib.Core.Path.{refl}
use Rattle.bits.specs.Bit.{bit}
use Rattle.bits.specs.Lists.{Hold}
use Rattle.text.specs.Numbers.{hex, decimal}
use Rattle.network.specs.Net.{is_gate, excluded, excluded_for, occurs, entry, values}
use Rattle.network.specs.DontCares.{cdc, values_inverted, odc, full}
use Rattle.network.specs.Compatible.{agree, constant, turns, free_fanins, at_outputs, compatible_from, compatible, compatible_count, delivers, closed, open_table, open_tables}
use Rattle.network.specs.Flat.{gate_at, gates_of, net_of, loaded_net}
use Rattle.network.specs.Tests.{mark_test, fanin_test, fanins_test, excluded_test}
use Rattle.network.specs.Load.{output_record, read_outputs, gate_record, read_gates, excluded_record, read_body, header_record, read_of, load_of}
use Rattle.tabletext.specs.Digits.{digits}
use Rattle.render.specs.Listing.{header, row, totals, refused_line, listing_of_net, listing_of}
use Rattle.render.specs.Cases.{OrSixListed, listed}

pub listed-hold : Hold listed × OrSixListed
unfolding bit is_gate excluded excluded_for occurs entry values cdc values_inverted odc full agree constant turns free_fanins at_outputs compatible_from compatible compatible_count delivers closed open_table open_tables gate_at gates_of net_of loaded_net mark_test fanin_test fanins_test excluded_test output_record read_outputs gate_record read_gates excluded_record read_body header_record read_of load_of hex decimal digits header row totals refused_line listing_of_net listing_of
listed-hold = (refl, refl)
