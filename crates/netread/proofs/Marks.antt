-- A mark is the one that is due exactly where it opens the kind of record that is due. The laws go over the list of marks. Assumes nothing.
use mathlib.Core.Path.{◌≡◌, refl, sym, ap, ◌∙◌}
use mathlib.Core.Bool.{Bool, true, false, not, cond, ◌&&◌}
use mathlib.Core.List.{List, [], ◌∷◌}
use Prim.Native.Nat.{ℕ, ◌≤◌, ◌<◌}
use native.Mathlib.Omega.{arith}
use native.Mathlib.Decide.{dec_lt}
use lib.Dec.{leb, ltb, eqb}
use lib.ListN.{length}
use borrow.Author.Tests.{lt-ltb, le-ltb, le-leb, lt-leb, eq-eqb, ne_eqb, eqb-true}
use denote.Enum.Declared.{tag_of}
use Rattle.bits.proofs.Ranges.{and_l, and_r, by_cases}
use Rattle.std.specs.Prelude.{Result, Ok, Err}
use Rattle.network.specs.Answer.{Done}
use Rattle.network.specs.declared.Refusal.{Refusal}
use Rattle.network.specs.declared.Refusal.TheVariants.{Truncated, UnexpectedMark}
use Rattle.network.specs.Tests.{refuse_if, mark, mark_test}
use Rattle.network.proofs.TestLaws.{mark-i}
use Rattle.netread.specs.declared.Kind.{Kind}
use Rattle.netread.specs.contracts.Kind.{the_type}
use Rattle.netread.specs.declared.Kind.TheVariants.{Header, Excluded, Gate, WideGate, Output}
use Rattle.netread.specs.Kind.{marks, kind_in, kind_of, kind_at, not_due}

-- ## The list of marks

abbrev tag : Kind → ℕ
tag k = tag_of the_type k

-- the mark of the kind with tag t
abbrev mark_in : List (ℕ × Kind) → ℕ → ℕ
mark_in [] t = 0
mark_in (m ∷ ms) t = cond (eqb (tag m.1) t) m.0 (mark_in ms t)

abbrev pub mark_of : Kind → ℕ
mark_of k = mark_in marks (tag k)

-- each mark is the one of the kind that it opens
abbrev all_fit : List (ℕ × Kind) → Bool
all_fit [] = true
all_fit (m ∷ ms) = eqb (mark_of m.1) m.0 && all_fit ms

-- each kind has a mark, which opens it
own : (d : Kind) → kind_of (mark_of d) ≡ Ok d
unfolding kind_of
own Header = refl
own Excluded = refl
own Gate = refl
own WideGate = refl
own Output = refl

same-kind : (k d : Kind) → ◌≡◌ {A = Result Kind Refusal} (Ok k) (Ok d) → k ≡ d
same-kind k d h = cc

pub no-kind : {d : Kind} {r : Refusal} {k : Result Kind Refusal} → k ≡ Err r → k ≡ Ok d → ⊥
no-kind e q = cc

pub other-kind : {d x : Kind} {k : Result Kind Refusal} → k ≡ Ok x → (x ≡ d → ⊥) → k ≡ Ok d → ⊥
other-kind {d} {x} q n s = n (same-kind x d (sym q ∙ s))

module _ (x : ℕ) where
  marked : (ms : List (ℕ × Kind)) → all_fit ms ≡ true → (d : Kind) → kind_in ms x ≡ Ok d → x ≡ mark_of d
  marked [] s d h = absurd (no-kind refl h)
  marked (m ∷ ms) s d h =
      let fit = eqb (mark_of m.1) m.0 in
      by_cases (eqb x m.0)
      (λ e. rw (← same-kind m.1 d (rw e at h)) (eqb-true x m.0 e ∙ sym (eqb-true (mark_of m.1) m.0 (and_l fit (all_fit ms) s))))
      (λ e. marked ms (and_r fit (all_fit ms) s) d (rw e at h))

  mark-of : (d : Kind) → kind_of x ≡ Ok d → x ≡ mark_of d
  unfolding kind_of
  mark-of d h = marked marks refl d h

  refuse : (ms : List (ℕ × Kind)) → UnexpectedMark ≡ not_due (kind_in ms x)
  refuse [] = refl
  refuse (m ∷ ms) = by_cases (eqb x m.0) (λ e. rw e) (λ e. rw e (refuse ms))

  other : UnexpectedMark ≡ not_due (kind_of x)
  unfolding kind_of
  other = refuse marks

  -- x is none of the marks, as a match on it says
  abbrev Missed : Type 0 → List (ℕ × Kind) → Type 0
  Missed N [] = N
  Missed N (m ∷ ms) = Missed (N × (x ≡ m.0 → ⊥)) ms

  earlier : (N : Type 0) (ms : List (ℕ × Kind)) → Missed N ms → N
  earlier N [] h = h
  earlier N (m ∷ ms) h = (earlier (N × (x ≡ m.0 → ⊥)) ms h).0

  no-mark : (N : Type 0) (ms : List (ℕ × Kind)) → Missed N ms → Err UnexpectedMark ≡ kind_in ms x
  no-mark N [] h = refl
  no-mark N (m ∷ ms) h =
      let M = N × (x ≡ m.0 → ⊥) in
      rw (ne_eqb x m.0 (earlier M ms h).1) (no-mark M ms h)

  -- a mark that opens no record
  pub none : (N : Type 0) → Missed N marks → Err UnexpectedMark ≡ kind_of x
  unfolding kind_of
  none N h = no-mark N marks h

-- ## What is left

module _ (rest : List ℕ) where
  pub short : length rest < 2 → Err Truncated ≡ kind_at rest
  unfolding kind_at
  short h = rw (lt-ltb (length rest) 2 h)

  pub long : 2 ≤ length rest → kind_of (mark rest) ≡ kind_at rest
  unfolding kind_at
  long h = rw (le-ltb (length rest) 2 h)

  -- the mark is x, by a key of the match
  pub by_key : (x r : ℕ) → r ≡ x → r ≡ mark rest → 2 ≤ length rest → kind_of x ≡ kind_at rest
  by_key x r k e h = ap kind_of (sym k ∙ e) ∙ long h

  -- a kind has its mark
  opens : (d : Kind) → kind_at rest ≡ Ok d → (2 ≤ length rest) × (mark rest ≡ mark_of d)
  opens d h = go (dec_lt (length rest) 2)
    where
      go : Dec (length rest < 2) → (2 ≤ length rest) × (mark rest ≡ mark_of d)
      go (yes l) = absurd (no-kind (sym (short l)) h)
      go (no l) = (omega arith, mark-of (mark rest) d (long (omega arith) ∙ h))

  module _ (k : Result Kind Refusal) (d : Kind) (e : k ≡ kind_at rest) where
    there : {x : Kind} → k ≡ Ok x → x ≡ d → (2 ≤ length rest) × (mark rest ≡ mark_of d)
    there q s = opens d (sym e ∙ q ∙ ap (λ (x : Kind). Ok x) s)

    -- the kind that is due
    pub is-due : {x : Kind} → k ≡ Ok x → x ≡ d → mark_test (mark_of d) rest ≡ Done
    is-due q s = let o = there q s in mark-i (mark_of d) rest o.0 o.1

    pub is-marked : {x : Kind} → k ≡ Ok x → x ≡ d → (leb 2 (length rest) && eqb (mark rest) (mark_of d)) ≡ true
    is-marked q s = let o = there q s in rw (le-leb 2 (length rest) o.0, eq-eqb (mark rest) (mark_of d) o.1)

    -- another kind than the one that is due, or none
    module _ (h : k ≡ Ok d → ⊥) where
      differs : 2 ≤ length rest → mark rest ≡ mark_of d → ⊥
      differs l s = h (e ∙ sym (long l) ∙ ap kind_of s ∙ own d)

      pub not-due : {r : Refusal} → not_due k ≡ r → mark_test (mark_of d) rest ≡ Err r
      unfolding mark_test
      not-due q = rw (← q) (go (dec_lt (length rest) 2))
        where
          go : Dec (length rest < 2) → cond (ltb (length rest) 2) (Err Truncated) (refuse_if (not (eqb (mark rest) (mark_of d))) UnexpectedMark) ≡ Err (not_due k)
          go (yes l) = rw (e, ← short l, lt-ltb (length rest) 2 l)
          go (no l) =
              let q : k ≡ kind_of (mark rest) = e ∙ sym (long (omega arith)) in
              rw (q, ← other (mark rest), le-ltb (length rest) 2 (omega arith), ne_eqb (mark rest) (mark_of d) (differs (omega arith)))

      pub not-marked : (leb 2 (length rest) && eqb (mark rest) (mark_of d)) ≡ false
      not-marked = go (dec_lt (length rest) 2)
        where
          go : Dec (length rest < 2) → (leb 2 (length rest) && eqb (mark rest) (mark_of d)) ≡ false
          go (yes l) = rw (lt-leb 2 (length rest) l)
          go (no l) = rw (le-leb 2 (length rest) (omega arith), ne_eqb (mark rest) (mark_of d) (differs (omega arith)))

    -- what the record is refused with
    pub refused-due : {r : Refusal} → k ≡ Err r → mark_test (mark_of d) rest ≡ Err r
    refused-due q = not-due (no-kind q) (ap not_due q)

    pub other-due : {x : Kind} → k ≡ Ok x → (x ≡ d → ⊥) → mark_test (mark_of d) rest ≡ Err UnexpectedMark
    other-due q n = not-due (other-kind q n) (ap not_due q)
