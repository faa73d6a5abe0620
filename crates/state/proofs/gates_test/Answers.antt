use mathlib.Core.Path.{◌≡◌, ◌∙◌}
use native.Mathlib.Omega.{arith}
use lib.ListN.{length}
use borrow.Author.Rules.{rules}
use Rattle.network.specs.Bounds.{fanin_places}
use Rattle.network.specs.State.{gate_fault}
use Rattle.network.proofs.TestLaws.{handed-on}
use Rattle.state.proofs.TestSteps.{row-refused, row-passed, row-ended, gate-room, gate-parts}
use Rattle.state.proofs.gates_test.Goals as goal

pub gate_test-requires : goal.gate_test-requires
gate_test-requires c =
    let s = c.args.s in
    let l : length s.fanins ≡ fanin_places = search rules in
    gate-room s c.loop-g.g l (omega arith)

pub returns-in_err-gate_test : goal.returns-in_err-gate_test
returns-in_err-gate_test c = let s = c.args.s in
    let l : length s.fanins ≡ fanin_places = search rules in
    handed-on c.from_residual.ensures.1 (row-refused (gate_fault s) c.loop-g.g s.m (omega arith) (gate-parts s c.loop-g.g l c.gate_test.ensures) c.in_err-gate_test.was ∙ c.loop-g.invariant)

pub loop-g-preserved : goal.loop-g-preserved
loop-g-preserved c =
    let s = c.args.s in
    let l : length s.fanins ≡ fanin_places = search rules in
    row-passed (gate_fault s) c.loop-g.g s.m (omega arith) (gate-parts s c.loop-g.g l c.gate_test.ensures) c.in_ok-gate_test.was ∙ c.loop-g.invariant

pub returns : goal.returns
returns c = row-ended (gate_fault c.args.s) c.loop-g.g c.args.s.m (omega arith) ∙ c.loop-g.invariant
