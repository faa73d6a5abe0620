-- The rows of both networks are simulated, and the session's counts are theirs. Assumes nothing.
use mathlib.Core.Path.{◌∙◌}
use Prim.Native.Nat.{◌+◌}
use Rattle.network.specs.Valid.{NetOk, OutputsOk}
use Rattle.verdict.proofs.HarmWords.{outputs-fit, session-ok, rows-session}
use Rattle.verdict.proofs.harm.Goals as goal
use Rattle.verdict.proofs.harm.Goals.{After-from-p}

-- what holds of the counts and arrays once they are copied
fine : (c : After-from-p) →
    let s = c.args.s in
    NetOk s.arity s.fanins c.from-n.result c.from-m.result × OutputsOk s.outputs c.from-p.result (c.from-n.result + c.from-m.result)
fine c = session-ok c.args.s _ _ _ c.from-n.ensures c.from-m.ensures c.from-p.ensures c.requires

pub frame_of-f-requires : goal.frame_of-f-requires
frame_of-f-requires c = (fine (goal.at.frame_of-f-requires c).After-from-p).0.ins

pub rows-requires-clause-net_ok : goal.rows-requires-clause-net_ok
rows-requires-clause-net_ok c = (fine (goal.at.rows-requires-clause-net_ok c).After-from-p).0

pub update-requires-clause-net_ok : goal.update-requires-clause-net_ok
update-requires-clause-net_ok c = (fine (goal.at.update-requires-clause-net_ok c).After-from-p).0

pub rows_harm-requires : goal.rows_harm-requires
rows_harm-requires c =
    let ok = fine (goal.at.rows_harm-requires c).After-from-p in
    record { outputs_ok = outputs-fit ok.0 ok.1; framed = (ok.0.ins, c.frame_of-f.ensures) }

pub returns : goal.returns
returns c =
    c.rows_harm.ensures
    ∙ rows-session c.args.s _ _ _ c.from-n.ensures c.from-m.ensures c.from-p.ensures c.requires _ _ _ c.frame_of-f.ensures c.rows.ensures.1 c.update.ensures.1
