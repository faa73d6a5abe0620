-- `pack_words`: the stretches one behind the other. Assumes nothing.
use mathlib.Core.Path.{◌≡◌}
use native.Mathlib.Omega.{arith}
use lib.ListN.{length}
use borrow.Author.Rules.{rules}
use Rattle.buffer.proofs.Laying.{lay-four}
use Rattle.network.specs.Bounds.{most_gates, excluded_words}
use Rattle.packed.specs.Packed.{excluded_start, loaded_start, current_start, open_start}
use Rattle.packed.proofs.pack_words.Goals as goal

pub returns : goal.returns
returns c =
    let s = c.args.s in
    let words : length s.excluded ≡ excluded_words = search rules in
    let loads : length s.loaded ≡ most_gates = search rules in
    let currents : length s.current ≡ most_gates = search rules in
    lay-four c.args.words.now s.excluded s.loaded s.current s.open_tables excluded_start loaded_start current_start open_start
    c.lay_words.ensures
    c.lay_words-2.ensures
    c.lay_words-3.ensures
    c.lay_words-4.ensures
    (omega arith) (omega arith) (omega arith)
