-- `entries::missing` meets its contract. Assumes nothing.
use mathlib.Core.Path.{sym, subst}
use Prim.Native.Nat.{ℕ, ◌^◌, ◌<◌}
use native.Mathlib.Omega.{arith}
use Rattle.entries.proofs.Parts.{missing-is}
use Rattle.entries.proofs.missing.Goals as goal

pub complement_within-requires : goal.complement_within-requires
complement_within-requires c =
    let e = c.entry_count.ensures in
    (omega (arith, e.1), subst (λ (n : ℕ). c.args.found < 2 ^ n) (sym e.0) c.requires.2)

pub returns : goal.returns
returns c =
    let a = c.args in
    missing-is a.ins a.frees c.minterms-low.result c.high_words-high.result a.keep a.k a.found c.entry_count.result c.complement_within.result c.tested.result
    c.requires.0 c.requires.1 c.requires.2 c.entry_count.ensures.0 c.complement_within.ensures (omega arith) c.minterms-low.ensures c.high_words-high.ensures c.tested.ensures
