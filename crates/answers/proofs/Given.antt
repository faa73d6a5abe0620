-- What the tables, the counts and a call that fills a buffer give by the answer of their tests. Assumes nothing.
use mathlib.Core.Path.{◌≡◌}
use mathlib.Core.List.{List, [], ◌∷◌}
use Prim.Native.Nat.{ℕ, ◌+◌, ◌-◌, ◌≤◌, ◌<◌}
use native.Mathlib.Omega.{arith}
use lib.ListN.{length, get_or}
use borrow.Author.Tests.{le-ltb, lt-ltb}
use Rattle.bits.specs.Lists.{overwritten}
use Rattle.std.specs.Prelude.{Ok, Err}
use Rattle.network.specs.Answer.{Done}
use Rattle.network.specs.declared.Session.{Session}
use Rattle.network.specs.declared.Sdc.{Sdc}
use Rattle.network.specs.declared.Refusal.{Refusal}
use Rattle.network.specs.declared.Refusal.TheVariants.{BufferTooShort}
use Rattle.network.specs.DontCares.{sdc, cdc, full}
use Rattle.network.specs.Flat.{loaded_net, current_net}
use Rattle.network.specs.Tests.{first}
use Rattle.network.specs.State.{state_fault, state_test}
use Rattle.network.specs.Calls.{gate_test, sdc_words, tables_of, Filled, room_test, filled, pattern_counts, counts_of}
use Rattle.network.proofs.Valid.{state-i}

-- ## Tables

module _ (s : Session) (k : ℕ) where
  pub tables-refused : {r : Refusal} → first (state_test s ∷ gate_test (loaded_net s) k ∷ []) ≡ Err r → Err r ≡ tables_of s k
  unfolding tables_of
  tables-refused e = rw e

  -- the tables of the gate's place
  pub tables-done : first (state_test s ∷ gate_test (loaded_net s) k ∷ []) ≡ Done → s.n ≤ k → {d : Sdc} {c f : ℕ}
      → d ≡ sdc_words (sdc (current_net s) (s.n + (k - s.n))) → c ≡ cdc (current_net s) (s.n + (k - s.n)) → f ≡ full (current_net s) (s.n + (k - s.n))
      → Ok (record { sdc = d; cdc = c; full = f; open_table = get_or s.open_tables (k - s.n) 0 }) ≡ tables_of s k
  unfolding tables_of
  tables-done e h p q r =
      let back : s.n + (k - s.n) ≡ k = omega arith in
      rw (e, p, q, r, back)

-- ## Counts

pub counts-done : (s : Session) → state_test s ≡ Done → Ok (pattern_counts s) ≡ counts_of s
unfolding counts_of
counts-done s e = rw e

-- ## A call that fills a lent buffer with `new`: 10, then 9

abbrev pub filling : Session → List ℕ → List ℕ → Filled
filling s new buffer = filled (first (state_test s ∷ room_test (length new) buffer ∷ [])) new buffer

module _ (s : Session) (new buffer : List ℕ) (v : state_fault s ≡ Done) where
  pub filling-short : length buffer < length new → filling s new buffer ≡ record { answer = Err BufferTooShort; buffer = buffer }
  filling-short h = rw (state-i s v, lt-ltb (length buffer) (length new) h)

  pub filling-done : length new ≤ length buffer → filling s new buffer ≡ record { answer = Done; buffer = overwritten new buffer }
  filling-done h = rw (state-i s v, le-ltb (length buffer) (length new) h)
