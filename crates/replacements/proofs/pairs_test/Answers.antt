-- `replacements::pairs_test` meets its contract: what is left from pair i on gives the whole answer. Assumes nothing.
use mathlib.Core.Path.{refl, sym, ap, ◌∙◌}
use mathlib.Core.Bool.{Bool}
use mathlib.Core.List.{[], ◌∷◌}
use native.Mathlib.Omega.{arith}
use lib.ListN.{get_or}
use Rattle.bits.specs.Bit.{bit}
use Rattle.bits.proofs.BitLaws.{bit-zero}
use Rattle.replacements.specs.Pair.{pair_by}
use Rattle.replacements.proofs.Pairs.{pair-in, pair-next, seen_next}
use Rattle.replacements.proofs.pairs_test.Goals as goal

pub loop-i-init : goal.loop-i-init
loop-i-init c = ([], (λ k. bit-zero k), (refl, omega arith))

pub power-seen-requires : goal.power-seen-requires
power-seen-requires c =
    let a = c.args in
    let l = c.loop-i in
    let gate = get_or a.gates.now l.i 0 in
    omega (arith, pair-in a.n a.m a.arity.now (bit l.seen gate) gate (get_or a.tables.now l.i 0) (sym c.pair_test.ensures ∙ c.in_default.is), c.requires.bounded.0, c.requires.bounded.1)

pub loop-i-preserved : goal.loop-i-preserved
loop-i-preserved c =
    let a = c.args in
    let l = c.loop-i in
    let named = l.invariant.0 in
    let gate = get_or a.gates.now l.i 0 in
    let table = get_or a.tables.now l.i 0 in
    let e = c.pair_test.ensures ∙ ap (λ (b : Bool). pair_by a.n a.m a.arity.now b gate table) (l.invariant.1 gate) in (
      gate ∷ named,
      seen_next a.gates.now named l.i l.seen c.power-seen.result l.invariant.1 c.power-seen.ensures,
      pair-next a.n a.m a.arity.now a.gates.now a.tables.now named l.i (omega arith) (omega arith) l.invariant.2 c.pair_test.result e c.in_default.is,
    )
