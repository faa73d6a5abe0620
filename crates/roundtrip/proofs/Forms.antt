-- The form of a gate's record by k, as the writer takes it, and by the mark, as the reader does. Assumes nothing.
use mathlib.Core.Path.{◌≡◌, refl}
use mathlib.Core.Bool.{cond, ◌&&◌}
use mathlib.Core.List.{List}
use Prim.Native.Nat.{ℕ, ◌+◌, ◌*◌, ◌%◌, ◌^◌, ◌≤◌, ◌<◌}
use native.Mathlib.Omega.{arith}
use native.Mathlib.Nat.{lt_of_lt_of_le, pow-le-pow_right}
use lib.Dec.{leb, eqb}
use lib.ListN.{length}
use borrow.Author.Tests.{le-leb, leb-true, leb-false}
use Rattle.bits.proofs.Ranges.{by_cases}
use Rattle.network.specs.Answer.{Done}
use Rattle.network.specs.Bounds.{most_fanins, most_gate_bytes}
use Rattle.network.specs.Tests.{mark, count_test, range_test}
use Rattle.network.specs.Load.{GateForm, narrow, wide, form_of}
use Rattle.network.specs.Write.{form_for}
use Rattle.network.proofs.TestLaws.{count-e, range-i}
use Rattle.network.proofs.Reached.{form-fine}

pub form-cases : (P : GateForm → Type 0) (k : ℕ) → (k ≤ narrow.most → P narrow) → (narrow.most < k → P wide) → P (form_for k)
form-cases P k f g = by_cases (leb k narrow.most) (λ e. rw e (f (leb-true k narrow.most e))) (λ e. rw e (g (leb-false k narrow.most e)))

pub bytes_most : (k : ℕ) → (form_for k).bytes ≤ wide.bytes
bytes_most k = form-cases (λ f. f.bytes ≤ wide.bytes) k (λ h. omega arith) (λ h. omega arith)

-- k is within the bounds of its form
pub in-form : (k : ℕ) → count_test most_fanins k ≡ Done → range_test (form_for k).least (form_for k).most k ≡ Done
in-form k h =
    let c = count-e most_fanins k h in
    form-cases (λ f. range_test f.least f.most k ≡ Done) k
    (λ l. range-i narrow.least narrow.most k c.0 l)
    (λ l. range-i wide.least wide.most k l c.1)

-- a table of k fan-ins has the bytes that it takes
pub table_fits : (k x : ℕ) → k ≤ most_fanins → x < 2 ^ (2 ^ k) → x < 256 ^ (form_for k).bytes
table_fits k x h l =
    form-cases (λ f. x < 256 ^ f.bytes) k (λ a. within narrow.most a) (λ a. within wide.most h)
  where
    within : (most : ℕ) → k ≤ most → x < 2 ^ (2 ^ most)
    within most a = lt_of_lt_of_le l (pow-le-pow_right (omega arith) (pow-le-pow_right (omega arith) a))

-- the mark of two bytes
pub opening-bytes : (k : ℕ) → 0x4E * 256 + (form_for k).opening % 256 ≡ (form_for k).opening
opening-bytes k = form-cases (λ f. 0x4E * 256 + f.opening % 256 ≡ f.opening) k (λ h. refl) (λ h. refl)

pub form-back : (k : ℕ) (rest : List ℕ) → 2 ≤ length rest → mark rest ≡ (form_for k).opening → form_of rest ≡ form_for k
form-back k rest h e = rw (le-leb 2 (length rest) h, e) (form-cases (λ f. cond (eqb f.opening wide.opening) wide narrow ≡ f) k (λ l. refl) (λ l. refl))

-- ## A record that is read

pub gate-most : (rest : List ℕ) (k : ℕ) → range_test (form_of rest).least (form_of rest).most k ≡ Done → 3 + k + (form_of rest).bytes ≤ most_gate_bytes
gate-most rest k h =
    let few = (count-e most_fanins k (form-fine rest k h)).1 in
    by_cases (leb 2 (length rest) && eqb (mark rest) wide.opening) (λ e. rw e (omega arith)) (λ e. rw e (omega arith))
