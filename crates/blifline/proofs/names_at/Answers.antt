-- `blifline::names_at` meets its contract. Assumes nothing.
use native.Mathlib.Omega.{arith}
use lib.ListN.{drop}
use borrow.Author.Rules.{rules}
use Rattle.blif.specs.Text.{fields}
use Rattle.bliftext.proofs.Spans.{word_next}
use Rattle.blifline.proofs.Holds.{held_word}
use Rattle.blifline.proofs.names_at.Goals as goal

pub loop-i-preserved : goal.loop-i-preserved
loop-i-preserved c =
    let a = c.args in
    let ws = fields (drop a.at a.s.now) in
    let h = c.loop-i in
    let y = c.word_from-x-in-loop-i in
    (search rules, word_next a.s.now a.at h.i ws h.x y.result h.invariant.1 y.ensures, held_word a.s.now h.names a.at h.i ws h.x h.invariant.2 h.invariant.1 (omega arith) (omega arith))
