-- `unpack`: the tests in their order. Assumes nothing.
use mathlib.Core.Path.{sym, ◌∙◌}
use native.Mathlib.Omega.{arith}
use borrow.Author.Tests.{ltb-true}
use lib.Dec.{ltb}
use lib.ListN.{get_or}
use Rattle.bits.proofs.Ranges.{every-e}
use Rattle.network.proofs.TestLaws.{handed-on}
use Rattle.packed.specs.Packed.{byte_words}
use Rattle.packed.proofs.Reading.{too_short, no_byte, tested}
use Rattle.packed.proofs.unpack.Goals as goal

pub returns-then-words-lt-SESSION_WORDS : goal.returns-then-words-lt-SESSION_WORDS
returns-then-words-lt-SESSION_WORDS c = too_short c.args.words.now (omega arith)

pub returns-then-not-fit : goal.returns-then-not-fit
returns-then-not-fit c = no_byte c.args.words.now (omega arith) (sym c.fit.ensures ∙ c.if-not-fit.true)

pub session_in-s-requires : goal.session_in-s-requires
session_in-s-requires c =
    let ws = c.args.words.now in
    let e = sym c.fit.ensures ∙ c.if-not-fit.false in
    record { session_words_in_bounds = omega arith; by_index = λ i h. ltb-true (get_or ws i 0) 256 (every-e byte_words (λ j. ltb (get_or ws j 0) 256) e i h) }

pub returns-in_err-state_test : goal.returns-in_err-state_test
returns-in_err-state_test c =
    let ws = c.args.words.now in
    let e = sym c.fit.ensures ∙ c.if-not-fit.false in
    handed-on c.from_residual.ensures.1 (tested ws c.session_in-s.result (omega arith) e c.session_in-s.ensures c.state_test.ensures c.in_err-state_test.was)

pub returns : goal.returns
returns c =
    let ws = c.args.words.now in
    let e = sym c.fit.ensures ∙ c.if-not-fit.false in
    tested ws c.session_in-s.result (omega arith) e c.session_in-s.ensures c.state_test.ensures c.in_ok-state_test.was
