-- What a valid session gives the functions on its arrays. Assumes nothing.
use mathlib.Core.Path.{◌≡◌}
use Prim.Native.Nat.{ℕ, ◌+◌}
use Rattle.network.specs.Answer.{Done}
use Rattle.network.specs.declared.Session.{Session}
use Rattle.network.specs.State.{state_fault}
use Rattle.network.specs.Valid.{NetOk, OutputsOk}
use Rattle.network.proofs.Valid.{net-ok, outputs-ok}

-- n, m and p are the session's counts
pub record Ready (s : Session) (n m p : ℕ) : Type 0 where
  pub net : NetOk s.arity s.fanins n m
  pub outs : OutputsOk s.outputs p (n + m)

pub ready : (s : Session) (n m p : ℕ) → state_fault s ≡ Done → n ≡ s.n → m ≡ s.m → p ≡ s.p → Ready s n m p
ready s n m p valid en em ep = rw (en, em, ep) (record { net = net-ok s valid; outs = outputs-ok s valid })
