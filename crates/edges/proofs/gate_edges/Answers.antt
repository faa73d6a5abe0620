-- `edges::gate_edges` meets its contract. Assumes nothing.
use borrow.Author.Rules.{rules}
use Prim.Native.Nat.{ℕ, ◌-◌, ◌*◌, ◌%◌, ◌^◌}
use native.Mathlib.Omega.{arith}
use mathlib.Core.Path.{◌≡◌, ap, ◌∙◌}
use lib.Pow.{pow_mono}
use Rattle.bits.proofs.Cuts.{one_shl}
use Rattle.bits.proofs.Ranges.{entries-most}
use Rattle.network.specs.Bounds.{most_fanins}
use Rattle.edges.proofs.Turning.{turn-first, turn-next}
use Rattle.edges.proofs.gate_edges.Goals as goal

pub mask-entries-requires : goal.mask-entries-requires
mask-entries-requires g c =
    let k = c.args.k in
    let e : (1 * 2 ^ k) % 2 ^ 32 ≡ 2 ^ k = one_shl k 32 (omega arith) in
    omega (arith, e, entries-most k (omega arith))

pub loop-r-init : goal.loop-r-init
loop-r-init g c =
    let a = c.args in
    turn-first g.row.TURNS a.k a.table a.at _ _ (omega arith) c.requires.k_le_most_fanins.1 c.constants-words.result c.requires.edges_len (c.mask-entries.ensures.0 ∙ ap (λ (n : ℕ). 2 ^ n - 1) (one_shl a.k 32 (omega arith))) (search rules) c.constants-words.ensures

pub halve-requires : goal.halve-requires
halve-requires g c =
    let l = c.loop-r in
    let left = g.row.TURNS - 1 - l.r in
    record { size_bound = omega (arith, one_shl left 64 (omega arith), pow_mono {i = left} {j = most_fanins - 1} (omega arith)); words_len = l.invariant.room }

pub loop-r-preserved : goal.loop-r-preserved
loop-r-preserved g c =
    let a = c.args in
    let l = c.loop-r in
    turn-next g.row.TURNS a.k a.table a.at _ _ (omega arith) c.requires.k_le_most_fanins.1 l.edges l.words c.halve.new.words l.r c.loop-r-test.true l.invariant c.halve.ensures.0 c.halve.ensures.1
