-- `dontcares::delivered` meets its contract. Assumes nothing.
use mathlib.Core.Path.{◌≡◌, ap, ◌∙◌}
use mathlib.Core.List.{[]}
use Prim.Native.Nat.{ℕ, ◌-◌, ◌^◌}
use native.Mathlib.Omega.{arith}
use lib.ListN.{get_or}
use Rattle.bits.specs.Range.{any}
use Rattle.bits.proofs.Cuts.{all_there}
use Rattle.dontcares.proofs.TableLaws.{delivers, up_to, none_yet, word_more, word-delivers, below}
use Rattle.dontcares.proofs.delivered.Goals as goal

pub loop-w-init : goal.loop-w-init
loop-w-init c =
    let a = c.args in
    λ ts. none_yet (delivers a.arity.now a.fanins.now ts a.rows.now a.keep.now a.g) (2 ^ get_or a.arity.now a.g 0)

pub returns-then-acc-all : goal.returns-then-acc-all
returns-then-acc-all c ts =
    let a = c.args in
    all_there (2 ^ get_or a.arity.now a.g 0) (delivers a.arity.now a.fanins.now ts a.rows.now a.keep.now a.g) c.loop-w.w a.count c.loop-w.acc (omega arith) (c.loop-w.invariant ts)
    (c.if-acc-all.true ∙ c.mask-all.ensures.0 ∙ ap (λ (i : ℕ). 2 ^ i - 1) (c.entry_count.ensures.0 ∙ ap (λ (k : ℕ). 2 ^ k) c.from-k.ensures))

pub meets-acc-requires : goal.meets-acc-requires
meets-acc-requires c =
    let a = c.args in
    (omega (arith, c.requires.gate_ok.some), omega (arith, c.requires.gate_ok.few), below (2 ^ get_or a.arity.now a.g 0) (2 ^ c.from-k.result) c.loop-w.acc (λ t. any c.loop-w.w (delivers a.arity.now a.fanins.now [] a.rows.now a.keep.now a.g t)) (ap (λ (k : ℕ). 2 ^ k) c.from-k.ensures) (c.loop-w.invariant []))

pub loop-w-preserved : goal.loop-w-preserved
loop-w-preserved c =
    let a = c.args in
    λ ts. word_more (delivers a.arity.now a.fanins.now ts a.rows.now a.keep.now a.g) (2 ^ get_or a.arity.now a.g 0) c.loop-w.w c.loop-w.acc _ c.meets-acc.result (c.loop-w.invariant ts)
    (word-delivers a.arity.now a.fanins.now ts a.rows.now a.keep.now c.gather_at-ins.result a.g c.from-k.result c.loop-w.w c.from-k.ensures c.gather_at-ins.ensures) c.meets-acc.ensures

pub returns : goal.returns
returns c ts =
    let a = c.args in
    let e : c.loop-w.w ≡ a.count = omega arith in
    c.loop-w.invariant ts ∙ ap (up_to (delivers a.arity.now a.fanins.now ts a.rows.now a.keep.now a.g) (2 ^ get_or a.arity.now a.g 0)) e
