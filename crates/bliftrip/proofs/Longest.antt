-- How near most_blif_bytes a text comes: that of ten inputs, forty gates of six fan-ins, each the constant 1 and fed by the six signals
-- before it, and eight outputs has 31 bytes less. Assumes nothing.
use mathlib.Core.Path.{◌≡◌, refl}
use mathlib.Core.List.{List, [], ◌∷◌}
use Prim.Native.Nat.{ℕ, zero, suc, ◌+◌, ◌-◌}
use lib.ListN.{length, replicate}
use Rattle.bits.specs.Bounds.{most_inputs}
use Rattle.bits.specs.Range.{up_from}
use Rattle.bits.specs.Bit.{bit}
use Rattle.network.specs.Answer.{Done}
use Rattle.network.specs.declared.Session.{Session}
use Rattle.network.specs.Bounds.{most_gates, most_outputs, most_fanins, most_signals}
use Rattle.network.specs.Flat.{gate_at, gates_of, net_of, current_net}
use Rattle.network.specs.Examples.{held}
use Rattle.network.specs.Tests.{fanin_test, fanins_test, excluded_test}
use Rattle.network.specs.State.{gate_fault, state_fault, state_test}
use Rattle.text.specs.Numbers.{decimal}
use Rattle.blif.specs.Write.{outgoing, lines_of, blif_text, copies_test}

abbrev slots : ℕ → ℕ → List ℕ
slots zero g = []
slots (suc c) g = (g + 9) ∷ (g + 8) ∷ (g + 7) ∷ (g + 6) ∷ (g + 5) ∷ (g + 4) ∷ slots c (g + 1)

abbrev pub largest : Session
largest = held most_inputs most_gates most_outputs [] (replicate most_gates most_fanins) (slots most_gates 0) (replicate most_gates 0xFFFFFFFFFFFFFFFF) [] (up_from (most_signals - most_outputs) most_outputs)

pub longest : length (blif_text largest) ≡ 24512
unfolding bit gate_at gates_of net_of current_net decimal outgoing lines_of blif_text
longest = refl

-- it is a state that goes out
pub goes-out : (state_test largest ≡ Done) × (copies_test largest ≡ Done)
unfolding fanin_test fanins_test excluded_test gate_fault state_fault state_test gate_at gates_of net_of current_net outgoing copies_test
goes-out = (refl, refl)
