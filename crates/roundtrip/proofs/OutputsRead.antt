-- An output's bytes read back. Assumes nothing.
use mathlib.Core.Path.{◌≡◌, refl}
use mathlib.Core.List.{List, ◌∷◌, ◌++◌}
use Prim.Native.Nat.{ℕ, suc, ◌+◌}
use native.Mathlib.Omega.{arith}
use lib.ListN.{get_or}
use Rattle.network.specs.Answer.{Done}
use Rattle.network.specs.declared.Session.{Session}
use Rattle.network.specs.Tests.{output_test}
use Rattle.network.specs.State.{output_fault}
use Rattle.network.specs.Load.{output_tests, output_record, read_outputs}
use Rattle.network.specs.Write.{output_bytes}
use Rattle.network.proofs.TestLaws.{clear-i, short-i, mark-i}
use Rattle.roundtrip.proofs.Rebuilt.{rebuild_output}

abbrev rest_of : ℕ → List ℕ → List ℕ
rest_of x tail = 0x4E ∷ 0x4F ∷ x ∷ tail

record-back : (signals x : ℕ) (tail : List ℕ) → output_test signals x ≡ Done → output_record signals (rest_of x tail) ≡ Done
unfolding output_record
record-back signals x tail h =
    clear-i (output_tests signals (rest_of x tail))
    (mark-i 0x4E4F (rest_of x tail) (omega arith) refl, (short-i 3 (rest_of x tail) (omega arith), (h, tt)))

pub output-back : (s t : Session) (i c : ℕ) (tail : List ℕ) → output_fault s i ≡ Done → t.n ≡ s.n → t.m ≡ s.m
    → read_outputs (suc c) i t (output_bytes s i ++ tail) ≡ read_outputs c (i + 1) (rebuild_output s t i) tail
unfolding read_outputs output_bytes
output-back s t i c tail h e f = rw (e, f, record-back (s.n + s.m) (get_or s.outputs i 0) tail h)
