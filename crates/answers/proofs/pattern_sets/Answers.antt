-- `answers::pattern_sets` meets its contract. Assumes nothing.
use mathlib.Core.Path.{sym}
use Prim.Native.Nat.{◌≤◌, ◌<◌}
use native.Mathlib.Omega.{arith}
use lib.ListN.{length}
use Rattle.network.specs.Calls.{set_words, pattern_sets_of}
use Rattle.answers.proofs.Given.{filling-short, filling-done}
use Rattle.answers.proofs.pattern_sets.Goals as goal

pub returns-then-buf-words_needed : goal.returns-then-buf-words_needed
unfolding pattern_sets_of
returns-then-buf-words_needed c =
    let a = c.args in
    let h : length a.buf.now < length (set_words a.s a.s.m) = omega (arith, c.words_needed.ensures) in
    sym (filling-short a.s (set_words a.s a.s.m) a.buf.now c.requires h)

pub returns : goal.returns
unfolding pattern_sets_of
returns c =
    let a = c.args in
    let h : length (set_words a.s a.s.m) ≤ length a.buf.now = omega (arith, c.words_needed.ensures) in
    rw (filling-done a.s (set_words a.s a.s.m) a.buf.now c.requires h, c.fill.ensures)
