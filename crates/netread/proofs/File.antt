-- The ways through the excluded record, what follows the first record, and the whole file. Assumes nothing.
use mathlib.Core.Path.{◌≡◌, sym, ◌∙◌}
use mathlib.Core.Bool.{true, false}
use mathlib.Core.List.{List}
use Prim.Native.Nat.{ℕ, ◌+◌, ◌-◌, ◌≤◌, ◌<◌}
use native.Mathlib.Omega.{arith}
use lib.Dec.{leb, eqb}
use lib.ListN.{length, get_or, take, drop, length-drop}
use lib.Seq.{drop-drop}
use borrow.Author.Tests.{leb-true}
use Rattle.bits.proofs.Ranges.{and_l}
use Rattle.std.specs.Prelude.{Err}
use Rattle.network.specs.Answer.{Answer, Done}
use Rattle.network.specs.declared.Session.{Session}
use Rattle.network.specs.declared.Refusal.{Refusal}
use Rattle.network.specs.declared.Refusal.TheVariants.{Truncated}
use Rattle.network.specs.Bounds.{excluded_words}
use Rattle.network.specs.Tests.{mark, excluded_test}
use Rattle.network.specs.Load.{started, set_bytes, words_from, excluded_in, with_excluded, excluded_record, is_excluded, read_gates, read_body, header_record, read_of}
use Rattle.network.proofs.TestLaws.{short-i}
use Rattle.state.proofs.TestSteps.{or-last}
use Rattle.netread.proofs.Steps.{tail-part, whole_part}
use Rattle.netread.proofs.Records.{short, stop}

module _ (t : Session) (rest : List ℕ) where
  pub no-set : is_excluded rest ≡ false → read_gates t.m 0 t rest ≡ read_body t rest
  unfolding read_body
  no-set e = rw e

  module _ (is : is_excluded rest ≡ true) (z : ℕ) (ez : z ≡ set_bytes t.n) where
    two : 2 ≤ length rest
    two = leb-true 2 (length rest) (and_l (leb 2 (length rest)) (eqb (mark rest) 0x4E58) is)

    pub set-short : length rest < 2 + z → Err Truncated ≡ read_body t rest
    unfolding read_body excluded_record
    set-short h =
        let b = two in
        let q : length (drop 2 rest) < set_bytes t.n = rw (← ez) (simp length-drop (omega arith)) in
        rw (is, short (set_bytes t.n) (drop 2 rest) q)

    module _ (l : 2 + z ≤ length rest) (ws : List ℕ) (ew : ws ≡ words_from excluded_words (take (2 + z - 2) (drop 2 rest))) (a : Answer) (e : a ≡ excluded_test t.n ws) where
      words-there : excluded_in t.n rest ≡ ws
      words-there = rw (← ez) (sym (rw (whole_part rest 2 z) at ew))

      record-there : excluded_record t.n rest ≡ a
      unfolding excluded_record
      record-there =
          let q : set_bytes t.n ≤ length (drop 2 rest) = rw (← ez) (simp length-drop (omega arith)) in
          rw (short-i (set_bytes t.n) (drop 2 rest) q, words-there) (sym (or-last (excluded_test t.n ws) e))

      after : drop (set_bytes t.n) (drop 2 rest) ≡ take (length rest - (2 + z)) (drop (2 + z) rest)
      after = rw (← ez, tail-part rest (2 + z)) (drop-drop z 2 rest)

      pub set_past : (r : Refusal) → a ≡ Err r → Err r ≡ read_body t rest
      unfolding read_body
      set_past r q = rw (is, record-there ∙ q)

      pub set_on : a ≡ Done → read_gates t.m 0 (with_excluded t ws) (take (length rest - (2 + z)) (drop (2 + z) rest)) ≡ read_body t rest
      unfolding read_body
      set_on q = rw (is, record-there ∙ q, words-there, after)

module _ (bytes : List ℕ) (a : Answer) (e : a ≡ header_record bytes) where
  pub read-refused : (r : Refusal) → a ≡ Err r → Err r ≡ read_of bytes
  unfolding read_of
  read-refused r q = stop (header_record bytes) r _ (sym e ∙ q)

  pub read-on : a ≡ Done → read_body (started (get_or bytes 2 0) (get_or bytes 3 0) (get_or bytes 4 0)) (take (length bytes - 5) (drop 5 bytes)) ≡ read_of bytes
  unfolding read_of
  read-on q = rw (sym e ∙ q, tail-part bytes 5)
