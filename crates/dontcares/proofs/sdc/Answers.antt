-- `dontcares::sdc` meets its contract. Assumes nothing.
use mathlib.Core.Path.{refl, sym, ap, ◌∙◌, subst}
use Prim.Native.Nat.{ℕ, ◌^◌, ◌<◌}
use native.Mathlib.Omega.{arith}
use lib.ListN.{get_or}
use Rattle.network.specs.Flat.{current_net}
use Rattle.network.specs.Calls.{sdc_words}
use Rattle.dontcares.specs.Tabled.{sdc_table}
use Rattle.network.proofs.TestLaws.{width-e}
use Rattle.network.proofs.Valid.{valid-e, net-ok}
use Rattle.dontcares.proofs.SdcLaws.{sdc-is}
use Rattle.dontcares.proofs.sdc.Goals as goal

pub bounds-arity-g : goal.bounds-arity-g
bounds-arity-g c =
    omega (arith, (net-ok c.args.s c.requires.s_value).most)

pub bounds-tables-g : goal.bounds-tables-g
bounds-tables-g c =
    omega (arith, (net-ok c.args.s c.requires.s_value).most)

pub sdc_of-requires : goal.sdc_of-requires
sdc_of-requires c =
    let a = c.args in (
      omega (arith, ((net-ok a.s c.requires.s_value).gate a.g c.requires.g_lt_m).few),
      subst (λ (k : ℕ). get_or a.s.current a.g 0 < 2 ^ 2 ^ k) (sym c.from-k.ensures) (width-e _ _ ((valid-e a.s c.requires.s_value).gate a.g c.requires.g_lt_m).current-fine),
    )

pub returns : goal.returns
unfolding current_net
returns c =
    let a = c.args in
    c.sdc_of.ensures ∙ ap sdc_words
    (sdc-is a.s.arity a.s.fanins a.s.current a.s.excluded a.s.outputs a.s.n a.s.m a.s.p a.g c.from-k.result (sdc_table c.from-k.result (get_or a.s.current a.g 0)) c.requires.g_lt_m c.from-k.ensures refl)
