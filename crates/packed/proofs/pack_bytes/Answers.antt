-- `pack_bytes`: the stretches one behind the other. Assumes nothing.
use mathlib.Core.Path.{◌≡◌, refl}
use mathlib.Core.List.{[], ◌∷◌}
use native.Mathlib.Omega.{arith}
use lib.ListN.{length}
use borrow.Author.Rules.{rules}
use Rattle.buffer.proofs.Laying.{lay-four}
use Rattle.network.specs.Bounds.{most_gates, fanin_places}
use Rattle.packed.specs.Packed.{arity_start, fanins_start, outputs_start}
use Rattle.packed.proofs.pack_bytes.Goals as goal

pub returns : goal.returns
returns c =
    let s = c.args.s in
    let arities : length s.arity ≡ most_gates = search rules in
    let slots : length s.fanins ≡ fanin_places = search rules in
    lay-four c.args.words.now (s.n ∷ s.m ∷ s.p ∷ []) s.arity s.fanins s.outputs 0 arity_start fanins_start outputs_start
    c.lay_bytes.ensures
    c.lay_bytes-2.ensures
    c.lay_bytes-3.ensures
    c.lay_bytes-4.ensures
    refl (omega arith) (omega arith)
