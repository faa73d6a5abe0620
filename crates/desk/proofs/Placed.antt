-- All tables of an order in place: the session stays valid, and its network is the one with the gates replaced. Assumes nothing.
use mathlib.Core.Path.{◌≡◌, sym, ap, ◌∙◌}
use mathlib.Core.List.{List, [], ◌∷◌}
use Prim.Native.Nat.{ℕ, ◌-◌}
use native.Mathlib.Omega.{arith}
use lib.ListN.{length, set}
use Rattle.network.specs.Answer.{Done}
use Rattle.network.specs.declared.Session.{Session}
use Rattle.network.specs.Net.{Replacement, replaced}
use Rattle.network.specs.Flat.{net_with, loaded_net, current_net, stored_all}
use Rattle.network.specs.State.{state_fault}
use Rattle.network.specs.Valid.{Shaped}
use Rattle.network.specs.Lists.{Sound}
use Rattle.network.proofs.Fresh.{Fresh}
use Rattle.network.proofs.Slots.{sized-current}
use Rattle.network.proofs.Exchanges.{ValidTables, gates-most, stored-valid}
use Rattle.network.proofs.Replaced.{replaced-all}
use Rattle.replacements.proofs.Pairs.{stored-length}
use Rattle.desk.specs.Reply.{placed}

-- ## The session stays valid

module _ (s : Session) (fresh : Fresh s) where
  all_valid : (named : List ℕ) (rs : List Replacement) (ts : List ℕ) → ValidTables s ts → Sound (loaded_net s) named rs → ValidTables s (stored_all s.n rs ts)
  all_valid named [] ts fine a = fine
  all_valid named (r ∷ rs) ts fine a = all_valid (r.signal ∷ named) rs (set ts (r.signal - s.n) r.table) (stored-valid s fresh ts r a.0 a.2 fine) a.3

  as-loaded : ValidTables s s.current
  as-loaded = record { sized = ap length fresh.same ∙ fresh.tables; valid = fresh.valid }

  -- of the session with all tables of the order current
  module _ (rs : List Replacement) (a : Sound (loaded_net s) [] rs) where
    pub placed-valid : state_fault (placed s rs) ≡ Done
    placed-valid = (all_valid [] rs s.current as-loaded a).valid

    pub placed-net : current_net (placed s rs) ≡ replaced (current_net s) rs
    unfolding current_net
    placed-net = sym (replaced-all s [] rs s.current (omega (arith, gates-most s fresh, as-loaded.sized)) a)

pub placed-shaped : (s : Session) (rs : List Replacement) → Shaped s → Shaped (placed s rs)
placed-shaped s rs h = record {
  sized = sized-current s (stored_all s.n rs s.current) (stored-length s.n rs s.current ∙ h.sized.currents) h.sized;
  wide = h.wide;
}

-- a board as it loads: both networks are one
pub fresh-net : (s : Session) → Fresh s → current_net s ≡ loaded_net s
unfolding current_net loaded_net
fresh-net s fresh = ap (net_with s) fresh.same
