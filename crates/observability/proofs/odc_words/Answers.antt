-- `observability::odc_words` meets its contract. Assumes nothing.
use mathlib.Core.Path.{◌∙◌}
use Prim.Native.Nat.{◌+◌, ◌*◌}
use native.Mathlib.Omega.{arith}
use Rattle.bits.specs.Range.{places}
use Rattle.bits.specs.Bit.{bit}
use Rattle.network.specs.Flat.{gates_of, net_of}
use Rattle.simulate.proofs.RowLaws.{words_long}
use Rattle.observability.proofs.OdcLaws.{observed-odc, taken_back}
use Rattle.observability.proofs.Words.{odc-more}
use Rattle.observability.proofs.odc_words.Goals as goal

pub loop-g-preserved : goal.loop-g-preserved
loop-g-preserved c =
    let a = c.args in
    let g = c.loop-g.g in
    let plain = c.requires.rows_len.1 in (
      c.store_odc.ensures.0,
      λ ex.
          odc-more c.requires.framed.0 (net_of a.arity.now a.fanins.now a.tables.now a.n a.m ex a.outs.now a.p) c.loop-g.odc _ c.observed-seen.result g
          c.store_odc.ensures.1
          (λ w b hw hb. c.observed-seen.ensures w b hw hb
          ∙ observed-odc a.outs.now a.rows.now _ w b a.arity.now a.fanins.now a.tables.now ex a.n a.m a.p g
          (omega (arith, c.requires.net_ok.ins, c.requires.net_ok.most)) c.requires.outputs_ok.each ((plain w hw).each b hb) (c.invert.ensures.1 w b hw hb))
          a.a c.store_odc.ensures.2 (c.loop-g.invariant.1 ex),
      c.restore.ensures.0,
      λ w hw. record {
        long = words_long _ w;
        each = λ b hb.
            taken_back a.rows.now _ _ (a.n + g) (a.n + a.m) w b (omega (arith, c.requires.net_ok.ins, c.requires.net_ok.most)) (omega (arith, c.requires.framed.0.cut.words)) c.restore.ensures
            (places a.n (bit (w * 64 + b))) (gates_of a.arity.now a.fanins.now a.tables.now a.m)
            ((plain w hw).each b hb) (c.invert.ensures.1 w b hw hb);
      },
    )
