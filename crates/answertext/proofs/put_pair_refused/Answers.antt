-- `put_pair_refused`: by the refusal. Assumes nothing.
use Rattle.answertext.proofs.Printed.{no-gate-line, wide-line, twice-line}
use Rattle.answertext.proofs.put_pair_refused.Goals as goal

pub put_around-requires : goal.put_around-requires
put_around-requires c = rw (c.in-NotAGate.is, no-gate-line c.args.name.now) at c.requires

pub put_around-requires-in-TableTooWide : goal.put_around-requires-in-TableTooWide
put_around-requires-in-TableTooWide c = rw (c.in-TableTooWide.is, wide-line c.args.name.now) at c.requires

pub put_around-requires-in_default : goal.put_around-requires-in_default
put_around-requires-in_default c = rw (twice-line c.args.r c.args.name.now c.in_default.not-NotAGate c.in_default.not-TableTooWide) at c.requires

pub returns-in-NotAGate : goal.returns-in-NotAGate
returns-in-NotAGate c = rw (c.in-NotAGate.is, no-gate-line c.args.name.now) c.put_around.ensures

pub returns-in-TableTooWide : goal.returns-in-TableTooWide
returns-in-TableTooWide c = rw (c.in-TableTooWide.is, wide-line c.args.name.now) c.put_around-in-TableTooWide.ensures

pub returns-in_default : goal.returns-in_default
returns-in_default c = rw (twice-line c.args.r c.args.name.now c.in_default.not-NotAGate c.in_default.not-TableTooWide) c.put_around-in_default.ensures
