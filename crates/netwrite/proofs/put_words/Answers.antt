-- `put_words`: word after word while eight bytes are left, then what is left of one. Assumes nothing.
use mathlib.Core.Path.{◌≡◌, refl, sym, ◌∙◌}
use mathlib.Core.List.{[], append-nil}
use Prim.Native.Nat.{◌+◌, ◌*◌, ◌-◌, ◌/◌, ◌%◌}
use native.Mathlib.Omega.{arith}
use lib.ListN.{length, get_or, take, drop}
use borrow.Author.Rules.{rules}
use Rattle.bits.specs.Lists.{bytes_in}
use Rattle.buffer.proofs.Laying.{pending-step, pending_done}
use Rattle.network.specs.Bounds.{excluded_words}
use Rattle.network.specs.Write.{word_bytes}
use Rattle.netwrite.proofs.RecordBytes.{words-next, words-part}
use Rattle.netwrite.proofs.put_words.Goals as goal

pub loop-w-preserved : goal.loop-w-preserved
loop-w-preserved c =
    let x = c.args in
    let h = c.loop-w in
    let left = x.z - 8 * h.w in
    let n : length c.args.words ≡ excluded_words = search rules in
    let e = words-next x.words left h.w (omega arith) (omega arith) in
    let q : x.z - 8 * (h.w + 1) ≡ left - 8 = omega arith in
    rw q (pending-step (take (left - 8) (word_bytes (drop (h.w + 1) x.words))) h.invariant e c.put_bytes-a.ensures)

pub returns-then-left-gt0 : goal.returns-then-left-gt0
returns-then-left-gt0 c =
    let x = c.args in
    let h = c.loop-w in
    let n : length c.args.words ≡ excluded_words = search rules in
    let p : h.w ≡ x.z / 8 = omega arith in
    let q : x.z - 8 * (x.z / 8) ≡ x.z % 8 = omega arith in
    let e = words-part x.words (x.z % 8) (x.z / 8) (omega arith) (omega arith) ∙ sym (append-nil (bytes_in (x.z % 8) (get_or x.words (x.z / 8) 0))) in
    pending_done (pending-step [] (rw (p, q) at h.invariant) e c.put_bytes.ensures) refl
