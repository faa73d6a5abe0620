-- The cases of specs/Cases.antt hold, by computation. Assumes nothing.
use mathlib.Core.Path.{refl}
use Rattle.bits.specs.Bit.{bit}
use Rattle.bits.specs.Lists.{Hold}
use Rattle.network.specs.Flat.{gate_at, gates_of, net_of, current_net}
use Rattle.text.specs.Numbers.{decimal}
use Rattle.text.specs.Words.{words}
use Rattle.blif.specs.Text.{statement, statements}
use Rattle.blif.specs.Cover.{cover_table}
use Rattle.blif.specs.Read.{read_blocks, read_outputs, read_inputs, read_model, read_blif}
use Rattle.blif.specs.Write.{outgoing, lines_of, blif_text}
use Rattle.blif.specs.Cases.{tables, layouts, refused, written}

pub tables-hold : Hold tables
unfolding bit words statement statements cover_table read_blocks read_outputs read_inputs read_model read_blif
tables-hold = refl

pub layouts-hold : Hold layouts
unfolding bit words statement statements cover_table read_blocks read_outputs read_inputs read_model read_blif
layouts-hold = refl

pub refused-hold : Hold refused
unfolding bit decimal words statement statements cover_table read_blocks read_outputs read_inputs read_model read_blif
refused-hold = refl

pub written-hold : Hold written
unfolding bit gate_at gates_of net_of current_net decimal words statement statements cover_table read_blocks read_outputs read_inputs read_model read_blif outgoing lines_of blif_text
written-hold = refl
