-- `opentables::closed_in` meets its contract. Assumes nothing.
use mathlib.Core.Path.{sym, ap, ◌∙◌, subst}
use mathlib.Core.Bool.{Bool, not, ◌&&◌}
use Prim.Native.Nat.{ℕ, ◌+◌, ◌^◌, ◌<◌}
use native.Mathlib.Omega.{arith}
use lib.Bits.{bit_and}
use Rattle.bits.specs.Bit.{bit}
use Rattle.bits.proofs.BitLaws.{bit-and}
use Rattle.simulate.specs.Simulated.{words_at}
use Rattle.simulate.proofs.RowLaws.{words-at}
use Rattle.opentables.proofs.ClosedWords.{closed-in-is}
use Rattle.opentables.proofs.closed_in.Goals as goal

pub reach-requires : goal.reach-requires
reach-requires c =
    (omega (arith, c.requires.gate_ok.some), omega (arith, c.requires.gate_ok.few), subst (λ (k : ℕ). c.args.found < 2 ^ 2 ^ k) (sym c.from.ensures) c.requires.n_le_most_inputs.3)

pub returns : goal.returns
returns c =
    let a = c.args in
    closed-in-is a.arity.now a.fanins.now (words_at a.rows.now a.w) (words_at a.hs.now a.w) c.gather_at-ins.result c.gather_at-moved.result a.n a.live a.g c.from.result (bit_and a.live c.complement.result) a.found c.reach.result
    c.from.ensures c.gather_at-ins.ensures c.gather_at-moved.ensures
    (λ b h. bit-and a.live c.complement.result b
    ∙ ap (λ (x : Bool). bit a.live b && x) (c.complement.ensures b h ∙ ap (λ (y : ℕ). not (bit y b)) (sym (words-at a.hs.now a.w (a.n + a.g) (omega arith)))))
    c.reach.ensures
