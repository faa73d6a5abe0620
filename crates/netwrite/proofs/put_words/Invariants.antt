use Prim.Native.Nat.{◌*◌, ◌-◌}
use lib.ListN.{take, drop}
use Rattle.buffer.proofs.Laying.{Pending}
use Rattle.network.specs.Write.{word_bytes}
use Rattle.netwrite.proofs.put_words.Given as goal

abbrev pub invariant-loop-w : goal.invariant-loop-w
invariant-loop-w l = Pending l.initial.buf l.at (take l.z (word_bytes l.words)) l.buf l.a (take (l.z - 8 * l.w) (word_bytes (drop l.w l.words)))
