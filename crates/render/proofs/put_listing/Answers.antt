-- `put_listing`: the line of a refusal, or the text of the loaded network. Assumes nothing.
use mathlib.Core.Path.{sym, ap, ◌∙◌}
use Rattle.render.specs.Listing.{refused_line}
use Rattle.render.proofs.Shown.{fresh, listing-loaded, listing-refused, counted-load, counted-refused}
use Rattle.render.proofs.put_listing.Goals as goal

pub columns_of-t-requires : goal.columns_of-t-requires
columns_of-t-requires c =
    let k = counted-load c.args.bytes.now c.in-Ok.ensures in
    let f = fresh c.args.bytes.now k.0 in
    record { s_value = (f.valid, f.same, f.held); hidden_value = k.1 }

pub returns-in-Ok : goal.returns-in-Ok
returns-in-Ok c =
    let k = counted-load c.args.bytes.now c.in-Ok.ensures in
    rw (listing-loaded c.args.bytes.now k.0 ∙ sym c.columns_of-t.ensures.1) c.put_text.ensures

pub returns-in-Err : goal.returns-in-Err
returns-in-Err c =
    let e = listing-refused c.args.bytes.now (counted-refused c.args.bytes.now c.in-Err.ensures) in
    rw (e ∙ ap refused_line (sym c.number_of.ensures.0)) c.put_refusal.ensures
