-- How many digits a gate's table is printed with: request Five of 02. Assumes nothing.
use Rattle.std.specs.Prelude.{cond, ℕ, ltb, length, get_or}
use Rattle.bits.specs.Range.{any}
use Rattle.text.specs.Numbers.{word_digits}
use Rattle.network.specs.Net.{Net, arity, no_gate}
use Rattle.network.specs.Load.{narrow}

-- sixteen for every table where some gate of the network has more than four fan-ins, else four
unfoldable pub digits : Net → ℕ
digits N = cond (any (length N.gates) (λ g. ltb narrow.most (arity (get_or N.gates g no_gate)))) word_digits 4
