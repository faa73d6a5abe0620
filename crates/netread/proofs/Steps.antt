-- The steps of the reader's loops, over plain lists. Assumes nothing.
use mathlib.Core.Path.{◌≡◌}
use mathlib.Core.List.{List, [], ◌∷◌, ◌++◌, append_assoc, append-nil}
use Prim.Native.Nat.{ℕ, suc, ◌+◌, ◌*◌, ◌-◌, ◌^◌, ◌≤◌, ◌<◌}
use native.Mathlib.Numerals.{add-one}
use native.Mathlib.Nat.{pow-suc, pow-le-pow_right}
use native.Mathlib.Omega.{arith}
use lib.ListN.{length, get_or, take, drop, set, length-drop}
use lib.Seq.{sets, drop-cons, drop-drop, take_all, take-suc-set}
use borrow.Rule.Slice.PartMut.{put_mid}
use Rattle.std.proofs.lemmas.List.Edits.{sets-eq}
use Rattle.network.specs.Bounds.{excluded_words}
use Rattle.network.specs.Load.{little_endian, words_from}

-- what is lent from `at` on
pub tail-part : (rest : List ℕ) (at : ℕ) → take (length rest - at) (drop at rest) ≡ drop at rest
tail-part rest at = take_all (length rest - at) (drop at rest) (simp length-drop (omega arith))

-- a part of `size` bytes
pub whole_part : (bs : List ℕ) (at size : ℕ) → take (at + size - at) (drop at bs) ≡ take size (drop at bs)
whole_part bs at size = let n : at + size - at ≡ size = omega arith in rw n

-- ## A run of bytes stored in place

pub sets-there : (a fs : List ℕ) (at : ℕ) → at + length fs ≤ length a → put_mid at (at + length fs - at) a fs ≡ sets a at fs
sets-there a fs at h =
    let n : at + length fs - at ≡ length fs = omega arith in
    rw (sets-eq fs a at h, append_assoc (take at a) fs (drop (at + length fs) a), n, drop-drop (length fs) at a)

-- ## The bytes of a word, from the last to the first

pub word-step : (bs : List ℕ) (j w b : ℕ) → j < length bs → w ≡ little_endian (drop (suc j) bs) → b ≡ get_or bs j 0
    → b + 256 * w ≡ little_endian (drop j bs)
word-step bs j w b l e q = rw (drop-cons bs j 0 l, e, q)

pub word_room : (w d : ℕ) → w < 256 ^ d → d < 8 → 256 * w + 255 < 2 ^ 64
word_room w d h l =
    let p : 256 ^ d ≤ 72057594037927936 = pow-le-pow_right {n = 256} (omega arith) {i = d} {j = 7} (omega arith) in
    omega arith

pub word_more : (w b d : ℕ) → w < 256 ^ d → b < 256 → b + 256 * w < 256 ^ (d + 1)
word_more w b d h l = rw (add-one, pow-suc) (omega arith)

-- ## The words of the excluded set

pub words_step : (ws bs : List ℕ) (i x : ℕ) → i < excluded_words → length ws ≡ excluded_words → x ≡ little_endian (take 8 (drop (8 * i) bs))
    → take (i + 1) (set ws i x) ++ words_from (excluded_words - (i + 1)) (drop (8 * (i + 1)) bs) ≡ take i ws ++ words_from (excluded_words - i) (drop (8 * i) bs)
words_step ws bs i x h l e =
    let n : 8 * (i + 1) ≡ 8 * i + 8 = omega arith in
    let q : excluded_words - i ≡ suc (excluded_words - (i + 1)) = omega arith in
    let s : take (i + 1) (set ws i x) ≡ take i ws ++ (x ∷ []) = rw add-one (take-suc-set ws i x (omega arith)) in
    rw (s, append_assoc (take i ws) (x ∷ []) (words_from (excluded_words - (i + 1)) (drop (8 * (i + 1)) bs)), q, n, ← drop-drop 8 (8 * i) bs, e)

pub words-done : (ws bs : List ℕ) (i : ℕ) → excluded_words ≤ i → length ws ≡ excluded_words → take i ws ++ words_from (excluded_words - i) (drop (8 * i) bs) ≡ ws
words-done ws bs i h l =
    let q : excluded_words - i ≡ 0 = omega arith in
    rw (q, take_all i ws (omega arith), append-nil)
