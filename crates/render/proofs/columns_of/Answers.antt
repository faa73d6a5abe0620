-- `columns_of`: the columns show the loaded network. Assumes nothing.
use mathlib.Core.Path.{refl}
use native.Mathlib.Omega.{arith}
use Rattle.network.specs.Flat.{loaded_net}
use Rattle.network.proofs.Valid.{net-ok}
use Rattle.render.specs.declared.Columns.{Columns}
use Rattle.render.proofs.Shown.{shown, shows-ready, shows-text}
use Rattle.render.proofs.columns_of.Goals as goal

pub digits_of-digits-requires : goal.digits_of-digits-requires
digits_of-digits-requires c = (net-ok c.args.s c.requires.s_value.0).most

pub returns : goal.returns
returns c =
    let a = c.args in
    let s = a.s in
    let t : Columns = record {
      n = c.from.result;
      m = c.from-2.result;
      digits = c.digits_of-digits.result;
      cdc = c.all_tables-t.result.cdc;
      full = c.all_tables-t.result.full;
      opens = s.open_tables;
      hidden = a.hidden;
    } in
    let p = c.requires.s_value in
    let v = net-ok s p.0 in
    let few = v.most in
    let m = c.from-2.ensures in
    let w = shown s t p.0 p.1 p.2 few c.from.ensures m c.digits_of-digits.ensures c.all_tables-t.ensures refl c.requires.hidden_value in
    (shows-ready (loaded_net s) t w (rw c.from.ensures v.ins) (omega arith), shows-text (loaded_net s) t w)
