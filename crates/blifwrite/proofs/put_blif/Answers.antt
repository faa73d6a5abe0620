-- `put_blif`: the network that goes out, then its text. Assumes nothing.
use Rattle.blifwrite.proofs.Shown.{blif-laid}
use Rattle.blifwrite.proofs.put_blif.Goals as goal

pub returns : goal.returns
returns c =
    let e = c.outgoing-t.ensures in
    blif-laid c.args.s c.outgoing-t.result e.0 e.1 c.put_text.ensures
