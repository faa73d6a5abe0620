-- `judge`: by what the load answers. Assumes nothing.
use Rattle.judging.specs.Judged.{replacements_in}
use Rattle.judging.proofs.Judging.{loaded-valid, judged-refused, judged-done}
use Rattle.judging.proofs.judge.Goals as goal

pub reply_on-reply-requires-clause-s_value : goal.reply_on-reply-requires-clause-s_value
reply_on-reply-requires-clause-s_value c = loaded-valid c.args.file.now c.in-Ok.ensures

pub returns-in-Ok : goal.returns-in-Ok
returns-in-Ok c =
    let x = c.args in
    judged-done x.file.now x.o c.count-n.result c.reply_on-reply.result c.in-Ok.ensures c.count-n.ensures c.reply_on-reply.ensures

pub returns-in-Err : goal.returns-in-Err
returns-in-Err c = judged-refused c.args.file.now (replacements_in c.args.o) c.in-Err.ensures c.started.ensures
