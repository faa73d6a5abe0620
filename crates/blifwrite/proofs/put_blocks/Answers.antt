-- `put_blocks`: the blocks of the gates passed are laid. Assumes nothing.
use mathlib.Core.Path.{refl}
use Prim.Native.Nat.{◌+◌, ◌*◌, ◌≤◌, ◌<◌}
use native.Mathlib.Omega.{arith}
use lib.ListN.{length, get_or}
use Rattle.bits.specs.Bounds.{gate_places}
use Rattle.network.specs.State.{arity_of}
use Rattle.blifwrite.specs.Pieces.{gate_bytes, blocks_bytes}
use Rattle.blifwrite.proofs.Pieces.{part-long, part_small, block-part, laid_next, blocks-within}
use Rattle.blifwrite.proofs.put_blocks.Goals as goal

pub overflow_add-e : goal.overflow_add-e
overflow_add-e c =
    let s = c.args.s in
    let g = c.loop-g.g in
    let l : g < s.m = omega arith in
    let few = c.requires.0.few g l in
    omega arith

pub slice_bounds-put_block-end : goal.slice_bounds-put_block-end
slice_bounds-put_block-end c =
    let s = c.args.s in
    let g = c.loop-g.g in
    let l : g < s.m = omega arith in
    let few = c.requires.0.few g l in
    let n = c.loop-g.invariant.1 in
    omega arith

pub put_block-a-requires : goal.put_block-a-requires
put_block-a-requires c =
    let s = c.args.s in
    let g = c.loop-g.g in
    let l : g < s.m = omega arith in
    let few = c.requires.0.few g l in
    let n = c.loop-g.invariant.1 in
    let most : gate_places * g + arity_of s g ≤ length s.fanins = omega arith in
    let long = part-long s g most in
    let ins = c.requires.0.inputs in
    let gates = c.requires.0.gates in
    let w = blocks-within s g c.requires.0 (omega arith) c.loop-g.invariant.0 in
    rw c.from.ensures (part_small s g most (λ r k. c.requires.0.early g r l k), omega arith, omega arith, omega arith)

pub loop-g-preserved : goal.loop-g-preserved
loop-g-preserved c =
    let s = c.args.s in
    let g = c.loop-g.g in
    let l : g < s.m = omega arith in
    let few = c.requires.0.few g l in
    let n = c.loop-g.invariant.1 in
    let most : gate_places * g + arity_of s g ≤ length s.fanins = omega arith in
    let laid = rw (c.from.ensures, block-part s g (s.n + g) (get_or s.current g 0) most) at c.put_block-a.ensures in
    (laid_next (blocks_bytes s) (gate_bytes s) g refl c.loop-g.invariant.0 laid, c.loop-g.invariant.1)
