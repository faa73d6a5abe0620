-- Lists of pairs that name no gate twice: joined, and in part. Assumes nothing.
use mathlib.Core.Path.{◌≡◌, refl}
use mathlib.Core.Bool.{Bool, true, false, ◌||◌}
use mathlib.Core.List.{List, [], ◌∷◌, ◌++◌}
use Prim.Native.Nat.{ℕ}
use lib.Dec.{eqb}
use borrow.Author.Tests.{eq-eqb}
use Rattle.bits.proofs.Ranges.{by_cases, or_r, or-false}
use Rattle.bits.proofs.Logic.{clash}
use Rattle.network.specs.Net.{Net, Replacement, signals}
use Rattle.network.specs.Tests.{member}
use Rattle.network.specs.Lists.{Sound}
use Rattle.ordertext.specs.Order.{Pair, signal_of}
use Rattle.desk.specs.Promises.{replacements, Apart, kept}

-- ## Members

or-none : (a b : Bool) → a ≡ false → b ≡ false → (a || b) ≡ false
or-none a b p q = rw (p, q)

pub apart-sym : (ps qs : List Pair) → Apart ps qs → Apart qs ps
apart-sym ps qs f k h = by_cases (member k (signals (replacements ps))) (λ e. clash h (f k e)) (λ e. e)

-- what is named in `more` is named in `named` or in `extra`
abbrev Within : (named extra more : List ℕ) → Type 0
Within named extra more = (k : ℕ) → member k named ≡ false → member k extra ≡ false → member k more ≡ false

within-next : (named extra more : List ℕ) (x : ℕ) → Within named extra more → Within (x ∷ named) extra (x ∷ more)
within-next named extra more x f k a b =
    let o = or-false (eqb x k) (member k named) a in
    or-none (eqb x k) (member k more) o.0 (f k o.1 b)

-- ## Sound lists

module _ (N : Net) where
  -- pairs whose gates are not in `extra` stay sound behind those of `extra`
  sound-behind : (named extra more : List ℕ) (qs : List Pair) → Within named extra more → ((k : ℕ) → member k (signals (replacements qs)) ≡ true → member k extra ≡ false)
      → Sound N named (replacements qs) → Sound N more (replacements qs)
  sound-behind named extra more [] f g a = tt
  sound-behind named extra more (q ∷ qs) f g a =
      let x = signal_of q in
      let here : member x (signals (replacements (q ∷ qs))) ≡ true = rw (eq-eqb x x refl) in (
        a.0,
        f x a.1 (g x here),
        a.2,
        sound-behind (x ∷ named) extra (x ∷ more) qs (within-next named extra more x f) (λ k h. g k (or_r (eqb x k) (member k (signals (replacements qs))) h)) a.3,
      )

  append-from : (named extra : List ℕ) (ps qs : List Pair) → ((k : ℕ) → member k extra ≡ false → (member k named ≡ false) × (member k (signals (replacements ps)) ≡ false))
      → ((k : ℕ) → member k (signals (replacements qs)) ≡ true → member k extra ≡ false)
      → Sound N named (replacements ps) → Sound N [] (replacements qs) → Sound N named (replacements ps ++ replacements qs)
  append-from named extra [] qs f g a b = sound-behind [] extra named qs (λ k _ e. (f k e).0) g b
  append-from named extra (p ∷ ps) qs f g a b =
      let x = signal_of p in (
        a.0,
        a.1,
        a.2,
        append-from (x ∷ named) extra ps qs
            (λ k e. let o = or-false (eqb x k) (member k (signals (replacements ps))) (f k e).1 in (or-none (eqb x k) (member k named) o.0 (f k e).0, o.1))
            g a.3 b,
      )

  pub sound-append : (ps qs : List Pair) → Apart ps qs → Sound N [] (replacements ps) → Sound N [] (replacements qs) → Sound N [] (replacements ps ++ replacements qs)
  sound-append ps qs f a b = append-from [] (signals (replacements ps)) ps qs (λ k e. (refl, e)) (apart-sym ps qs f) a b

  -- a part of a sound list is sound
  pub sound-kept : (named more : List ℕ) (p : Replacement → Bool) (rs : List Replacement) → ((k : ℕ) → member k more ≡ false → member k named ≡ false)
      → Sound N more rs → Sound N named (kept p rs)
  sound-kept named more p [] f a = tt
  sound-kept named more p (r ∷ rs) f a =
      by_cases (p r)
      (λ e. rw e (
        a.0,
        f r.signal a.1,
        a.2,
        sound-kept (r.signal ∷ named) (r.signal ∷ more) p rs
            (λ k h. let o = or-false (eqb r.signal k) (member k more) h in or-none (eqb r.signal k) (member k named) o.0 (f k o.1)) a.3,
      ))
      (λ e. rw e (sound-kept named (r.signal ∷ more) p rs (λ k h. f k (or-false (eqb r.signal k) (member k more) h).1) a.3))
