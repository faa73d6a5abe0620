-- `compatible::sets_from` meets its contract. Assumes nothing.
use native.Mathlib.Omega.{arith}
use Rattle.network.proofs.Valid.{net-ok}
use Rattle.compatible.proofs.Loaded.{sets-are}
use Rattle.compatible.proofs.sets_from.Goals as goal

pub store_word-requires : goal.store_word-requires
store_word-requires c =
    let ok = net-ok c.args.s c.requires.s_value in
    record { n_le_most_inputs = (omega (arith, ok.ins), omega (arith, ok.most), omega (arith, c.requires.loaded_sets.frame.cut.words)); sets_len = c.loop-w.invariant.0 }

pub returns : goal.returns
returns c =
    sets-are c.args.s _ _ c.from-n.ensures c.from-m.ensures c.requires.s_value c.requires.loaded_sets c.loop-w.sets (λ g w hg hw. c.loop-w.invariant.1 g w hg (omega arith))
