-- `dontcares::tables_of` meets its contract. Assumes nothing.
use mathlib.Core.Path.{refl}
use native.Mathlib.Omega.{arith}
use lib.ListN.{length-set}
use Rattle.network.specs.Flat.{net_of}
use Rattle.dontcares.proofs.TableLaws.{no-tables, tables_more}
use Rattle.dontcares.proofs.tables_of.Goals as goal

pub loop-g-init : goal.loop-g-init
loop-g-init c =
    let a = c.args in
    (refl, refl, λ ts outs n m p most ok sim framed at. no-tables (net_of a.arity.now a.fanins.now ts n m a.excluded.now outs p) n a.a)

pub loop-g-preserved : goal.loop-g-preserved
loop-g-preserved c =
    let a = c.args in (
      simp length-set c.loop-g.invariant.0,
      simp length-set c.loop-g.invariant.1,
      λ ts outs n m p most ok sim framed at.
          let t = c.tables_at-t.ensures ts a.excluded.now outs n m p a.live (omega arith) ok sim framed c.come_row-come.ensures (at c.loop-g.g (omega arith) (omega arith)) in
          tables_more (net_of a.arity.now a.fanins.now ts n m a.excluded.now outs p) c.loop-g.cdc c.loop-g.full n a.a c.loop-g.g c.tables_at-t.result.cdc c.tables_at-t.result.full
          c.loop-g.invariant.0 c.loop-g.invariant.1 (omega arith) (c.loop-g.invariant.2 ts outs n m p most ok sim framed at) t.0 t.1,
    )
