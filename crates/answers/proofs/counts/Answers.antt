-- `answers::counts` meets its contract. Assumes nothing.
use mathlib.Core.Path.{ap, ◌∙◌}
use mathlib.Core.List.{List}
use Prim.Native.Nat.{ℕ}
use Rattle.std.specs.Prelude.{Result, Ok}
use Rattle.network.specs.declared.Refusal.{Refusal}
use Rattle.network.proofs.Valid.{state-i}
use Rattle.answers.proofs.Given.{counts-done}
use Rattle.answers.proofs.counts.Goals as goal

pub returns : goal.returns
returns c =
    ap {B = Result (List ℕ) Refusal} (λ (l : List ℕ). Ok l) c.counts.ensures ∙ counts-done c.args.s (state-i c.args.s c.requires)
