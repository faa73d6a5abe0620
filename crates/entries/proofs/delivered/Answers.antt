-- `entries::delivered` meets its contract. Assumes nothing.
use mathlib.Core.Path.{◌≡◌, ap, ◌∙◌}
use mathlib.Core.Bool.{Bool, ◌&&◌}
use Prim.Native.Nat.{ℕ, ◌^◌, ◌<◌}
use native.Mathlib.Omega.{arith}
use lib.ListN.{get_or}
use Rattle.bits.specs.Range.{any}
use Rattle.bits.specs.Bit.{bit, table_of, gives}
use Rattle.bits.proofs.Ranges.{small-words, table-room, table_step, any-ext}
use Rattle.entries.specs.By.{delivered_by}
use Rattle.entries.proofs.delivered.Goals as goal

pub bounds-words-t : goal.bounds-words-t
bounds-words-t c =
    let e = c.entry_count-n.ensures in
    omega (arith, e.0, small-words c.args.k (omega arith))

pub with_entry-acc-requires : goal.with_entry-acc-requires
with_entry-acc-requires c =
    let e = c.entry_count-n.ensures in
    table-room _ _ _ c.loop-t.invariant (omega (arith, e.1))

pub loop-t-preserved : goal.loop-t-preserved
loop-t-preserved c =
    let s = c.args in
    let m = c.minterms-words in
    let l = c.loop-t in
    let e = c.entry_count-n.ensures in
    let h : l.t < 2 ^ s.k = omega (arith, e.0) in
    let test : ℕ → ℕ → Bool = λ t b. bit s.keep b && gives s.k s.ins.now s.frees.now t b in
    table_step l.t (λ t. any 64 (test t)) l.acc l.invariant c.any_bit-b.result c.with_entry-acc.result
    (c.any_bit-b.ensures ∙ any-ext 64 (bit (get_or m.result l.t 0)) (test l.t) (m.ensures l.t h)) c.with_entry-acc.ensures

pub returns : goal.returns
unfolding delivered_by
returns c =
    let s = c.args in
    let l = c.loop-t in
    let e : l.t ≡ 2 ^ s.k = omega (arith, c.entry_count-n.ensures.0) in
    l.invariant ∙ ap (λ (n : ℕ). table_of n (λ t. any 64 (λ b. bit s.keep b && gives s.k s.ins.now s.frees.now t b))) e
