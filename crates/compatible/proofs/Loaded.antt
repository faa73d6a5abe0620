-- The sets of the network that a valid session has loaded. Assumes nothing.
use mathlib.Core.Path.{◌≡◌, ap, ◌∙◌}
use mathlib.Core.List.{List}
use Prim.Native.Nat.{ℕ, ◌+◌, ◌*◌, ◌<◌}
use native.Mathlib.Omega.{arith}
use lib.Bits.{bit_and}
use lib.ListN.{get_or}
use Rattle.bits.specs.Bounds.{row_words}
use Rattle.bits.specs.Cut.{Framed}
use Rattle.network.specs.Answer.{Done}
use Rattle.network.specs.declared.Session.{Session}
use Rattle.network.specs.Bounds.{most_signals}
use Rattle.network.specs.Compatible.{compatible, compatible_count, per_gate}
use Rattle.network.specs.Flat.{net_of, loaded_net}
use Rattle.network.specs.State.{state_fault}
use Rattle.network.specs.Valid.{NetOk, OutputsOk}
use Rattle.network.proofs.Valid.{net-ok, outputs-ok}
use Rattle.simulate.specs.Simulated.{words_at, Rows}
use Rattle.compatible.specs.Words.{SetRows, LoadedSets, LoadedRows, SetWords, ones_in}
use Rattle.compatible.proofs.Stores.{counts-by}
use Rattle.compatible.proofs.SetLaws.{set_words}

module _ (s : Session) (n m p : ℕ) (en : n ≡ s.n) (em : m ≡ s.m) (ep : p ≡ s.p) where
  pub net-fine : state_fault s ≡ Done → NetOk s.arity s.fanins n m × OutputsOk s.outputs p most_signals
  net-fine e =
      let N = net-ok s e in
      let o = outputs-ok s e in
      rw (en, em, ep) (N, record { most = o.most; each = λ i h. omega (arith, o.each i h, N.ins, N.most) })

  pub rows_are : {rows hs : List ℕ} {count live : ℕ} → Framed n count live → Rows s.arity s.fanins s.loaded rows n m count
      → SetRows (net_of s.arity s.fanins s.loaded n m s.excluded s.outputs p) hs (n + m) count → LoadedRows s rows hs count live
  unfolding loaded_net
  rows_are f v r = record { values = rw (en, em) at v; sets = record { frame = rw en at f; rows = rw (en, em, ep) at r } }

module _ (s : Session) (n m : ℕ) (en : n ≡ s.n) (em : m ≡ s.m) where
  -- H of each gate, by the rows
  pub sets-are : {hs : List ℕ} {count live : ℕ} → state_fault s ≡ Done → LoadedSets s hs count live
      → (l : List ℕ) → ((g w : ℕ) → g < m → w < count → get_or l (row_words * g + w) 0 ≡ bit_and live (get_or (words_at hs w) (n + g) 0)) → SetWords s l
  unfolding loaded_net
  sets-are {hs} e r l words g w hg hw =
      set_words s.arity s.fanins s.loaded s.excluded s.outputs s.n s.m s.p (net-ok s e) hs r.frame r.rows l
      (rw (en, em) at words) g w hg (omega (arith, r.frame.words))

  -- and how many patterns it has
  pub counts-are : {count live : ℕ} (l : List ℕ) → Framed n count live → SetWords s l
      → per_gate m (λ g. ones_in l (row_words * g) count) ≡ per_gate s.m (λ g. compatible_count (loaded_net s) (s.n + g))
  unfolding compatible_count loaded_net net_of
  counts-are {count} {live} l f words =
      let F : Framed s.n count live = rw en at f in
      ap (λ (k : ℕ). per_gate k (λ g. ones_in l (row_words * g) count)) em
      ∙ counts-by F s.m l (λ g. compatible (loaded_net s) (s.n + g)) (λ g w h hw. words g w h (omega (arith, F.words)))
