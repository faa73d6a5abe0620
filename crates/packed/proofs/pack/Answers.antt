-- `pack`: the bytes, and the words behind them. Assumes nothing.
use mathlib.Core.Path.{◌≡◌, refl}
use mathlib.Core.List.{List}
use Prim.Native.Nat.{ℕ, ◌+◌, ◌≤◌}
use native.Mathlib.Omega.{arith}
use lib.ListN.{length}
use lib.Seq.{sets}
use borrow.Author.Rules.{rules}
use Rattle.bits.specs.Lists.{overwritten}
use Rattle.buffer.proofs.Laying.{laid-start, lay-two}
use Rattle.network.specs.declared.Session.{Session}
use Rattle.network.specs.Valid.{Sized}
use Rattle.packed.specs.Packed.{bytes_held, words_held, packed_of, excluded_start, session_words}
use Rattle.packed.proofs.Reading.{length-bytes}
use Rattle.packed.proofs.Inverse.{packed-length}
use Rattle.packed.proofs.pack.Goals as goal

-- the two stretches as one, at the start of b

packs : {b₁ b₂ : List ℕ} (b : List ℕ) (s : Session) → Sized s → session_words ≤ length b → b₁ ≡ sets b 0 (bytes_held s) → b₂ ≡ sets b₁ excluded_start (words_held s)
    → b₂ ≡ overwritten (packed_of s) b
unfolding packed_of
packs {b₁} {b₂} b s z h e f =
    let n = packed-length s z in
    let p = length-bytes s z in
    let l = lay-two b (bytes_held s) (words_held s) 0 excluded_start e f (omega arith) in
    (laid-start b (packed_of s) b₂ (0 + length (packed_of s)) (omega arith) (record { buffer = l; behind = refl })).1

pub returns : goal.returns
returns c =
    let s = c.args.s in
    let z : Sized s = search rules in
    packs c.args.words.now s z c.requires c.pack_bytes.ensures c.pack_words.ensures
