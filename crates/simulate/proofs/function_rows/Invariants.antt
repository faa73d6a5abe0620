use mathlib.Core.Path.{◌≡◌}
use lib.ListN.{length}
use Rattle.widelut.specs.Functions.{function_words}
use Rattle.simulate.specs.Simulated.{FunctionRows}
use Rattle.simulate.proofs.function_rows.Given as goal

abbrev pub invariant-loop-w : goal.invariant-loop-w
invariant-loop-w l = (length l.functions ≡ function_words) × FunctionRows l.rows l.functions l.a l.b l.w
