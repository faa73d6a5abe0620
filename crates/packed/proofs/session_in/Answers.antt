-- `session_in`: array after array. Assumes nothing.
use Prim.Native.Nat.{◌+◌}
use native.Mathlib.Omega.{arith}
use Rattle.packed.specs.Packed.{arity_start, fanins_start, outputs_start}
use Rattle.packed.proofs.Reading.{reads}
use Rattle.packed.proofs.session_in.Goals as goal

pub read_bytes-requires : goal.read_bytes-requires
read_bytes-requires c = record { bytes_in_bounds = omega arith; by_index = λ i h. c.requires.by_index (arity_start + i) (omega arith) }

pub read_bytes-requires-2 : goal.read_bytes-requires-2
read_bytes-requires-2 c = record { bytes_in_bounds = omega arith; by_index = λ i h. c.requires.by_index (fanins_start + i) (omega arith) }

pub read_bytes-requires-3 : goal.read_bytes-requires-3
read_bytes-requires-3 c = record { bytes_in_bounds = omega arith; by_index = λ i h. c.requires.by_index (outputs_start + i) (omega arith) }

pub overflow_cast-result : goal.overflow_cast-result
overflow_cast-result c = let h = c.requires.by_index 0 (omega arith) in omega arith

pub overflow_cast-result-2 : goal.overflow_cast-result-2
overflow_cast-result-2 c = let h = c.requires.by_index 1 (omega arith) in omega arith

pub overflow_cast-result-3 : goal.overflow_cast-result-3
overflow_cast-result-3 c = let h = c.requires.by_index 2 (omega arith) in omega arith

pub returns : goal.returns
returns c =
    reads c.args.words.now
    c.read_bytes.ensures
    c.read_bytes-2.ensures
    c.read_bytes-3.ensures
    c.read_words.ensures
    c.read_words-2.ensures
    c.read_words-3.ensures
    c.read_words-4.ensures
