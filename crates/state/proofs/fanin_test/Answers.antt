use mathlib.Core.Path.{sym, ◌∙◌}
use Rattle.state.proofs.TestSteps.{fanin-late, fanin-twice, fanin-fine}
use Rattle.state.proofs.fanin_test.Goals as goal

pub returns-then-f-limit : goal.returns-then-f-limit
returns-then-f-limit c = fanin-late _ _ _ c.if-f-limit.true

pub returns-then-member : goal.returns-then-member
returns-then-member c =
    let a = c.args in
    fanin-twice a.limit a.fs.now a.j c.if-f-limit.false (sym c.member.ensures ∙ c.if-member.true)

pub returns : goal.returns
returns c =
    let a = c.args in
    fanin-fine a.limit a.fs.now a.j c.if-f-limit.false (sym c.member.ensures ∙ c.if-member.false)
