-- `opentables::closed_by` meets its contract. Assumes nothing.
use mathlib.Core.Path.{ap, ◌∙◌}
use Prim.Native.Nat.{ℕ, ◌-◌, ◌^◌}
use native.Mathlib.Omega.{arith}
use Rattle.opentables.proofs.ClosedWords.{closed-first, closed-step, closed_all, closed-lt}
use Rattle.opentables.proofs.closed_by.Goals as goal

pub loop-w-init : goal.loop-w-init
loop-w-init c = let a = c.args in closed-first a.arity.now a.fanins.now a.rows.now a.hs.now a.n a.live a.g

pub returns-then-acc-all : goal.returns-then-acc-all
returns-then-acc-all c =
    let a = c.args in
    closed_all a.arity.now a.fanins.now a.rows.now a.hs.now a.n a.live a.g c.loop-w.w a.count c.loop-w.acc (omega arith) c.loop-w.invariant
    (c.if-acc-all.true ∙ c.mask-all.ensures.0 ∙ ap (λ (i : ℕ). 2 ^ i - 1) (c.entry_count.ensures.0 ∙ ap (λ (k : ℕ). 2 ^ k) c.from.ensures))

pub closed_in-acc-requires : goal.closed_in-acc-requires
closed_in-acc-requires c =
    let a = c.args in
    let room = closed-lt a.arity.now a.fanins.now a.rows.now a.hs.now a.n a.live a.g c.loop-w.w c.loop-w.acc c.loop-w.invariant in
    record { n_le_most_inputs = (c.requires.n_le_most_inputs.0, c.requires.n_le_most_inputs.1, omega arith, room); gate_ok = c.requires.gate_ok }

pub loop-w-preserved : goal.loop-w-preserved
loop-w-preserved c =
    let a = c.args in
    closed-step a.arity.now a.fanins.now a.rows.now a.hs.now a.n a.live a.g c.loop-w.w c.loop-w.acc c.closed_in-acc.result c.loop-w.invariant c.closed_in-acc.ensures
