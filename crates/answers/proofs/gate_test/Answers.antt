-- `answers::gate_test` meets its contract. Assumes nothing.
use mathlib.Core.Path.{sym, ◌∙◌}
use Rattle.network.specs.Flat.{loaded_net}
use Rattle.network.specs.Calls.{gate_test}
use Rattle.answers.proofs.Named.{in-valid, gate-fine, gate-refused, bounded}
use Rattle.answers.proofs.gate_test.Goals as goal

pub is_gate-requires : goal.is_gate-requires
is_gate-requires c =
    let b = bounded c.args.s _ _ c.from-n.ensures c.from-m.ensures c.requires in
    (b.0, b.1)

pub returns-then-is_gate : goal.returns-then-is_gate
returns-then-is_gate c =
    let s = c.args.s in
    let g = c.args.gate in
    gate-fine s g (sym (rw (c.from-n.ensures, c.from-m.ensures) at c.is_gate.ensures) ∙ c.if-is_gate.true) ∙ in-valid s c.requires (gate_test (loaded_net s) g)

pub returns : goal.returns
returns c =
    let s = c.args.s in
    let g = c.args.gate in
    gate-refused s g (sym (rw (c.from-n.ensures, c.from-m.ensures) at c.is_gate.ensures) ∙ c.if-is_gate.false) ∙ in-valid s c.requires (gate_test (loaded_net s) g)
