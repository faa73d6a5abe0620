-- `put_decimal`: the digits, by how many there are. Assumes nothing.
use Rattle.text.proofs.Digits.{one, two, three, four}
use Rattle.text.proofs.put_decimal.Goals as goal

pub copy-requires : goal.copy-requires
copy-requires c =
    rw (one c.args.x _ c.if-x-lt10.true c.digit.ensures) at c.requires.1

pub returns-then-x-lt10 : goal.returns-then-x-lt10
returns-then-x-lt10 c = rw (one c.args.x _ c.if-x-lt10.true c.digit.ensures) c.copy.ensures

pub copy-requires-then-x-lt100 : goal.copy-requires-then-x-lt100
copy-requires-then-x-lt100 c =
    rw (two c.args.x _ _ c.if-x-lt10.false c.if-x-lt100.true c.digit-then-x-lt100.ensures c.digit-then-x-lt100-2.ensures) at c.requires.1

pub returns-then-x-lt100 : goal.returns-then-x-lt100
returns-then-x-lt100 c =
    rw (two c.args.x _ _ c.if-x-lt10.false c.if-x-lt100.true c.digit-then-x-lt100.ensures c.digit-then-x-lt100-2.ensures) c.copy-then-x-lt100.ensures

pub copy-requires-then-x-lt1000 : goal.copy-requires-then-x-lt1000
copy-requires-then-x-lt1000 c =
    rw (three c.args.x _ _ _ c.if-x-lt10.false c.if-x-lt100.false c.if-x-lt1000.true c.digit-then-x-lt1000.ensures c.digit-then-x-lt1000-2.ensures c.digit-then-x-lt1000-3.ensures) at c.requires.1

pub returns-then-x-lt1000 : goal.returns-then-x-lt1000
returns-then-x-lt1000 c =
    rw (three c.args.x _ _ _ c.if-x-lt10.false c.if-x-lt100.false c.if-x-lt1000.true c.digit-then-x-lt1000.ensures c.digit-then-x-lt1000-2.ensures c.digit-then-x-lt1000-3.ensures) c.copy-then-x-lt1000.ensures

pub copy-requires-2 : goal.copy-requires-2
copy-requires-2 c =
    rw (four c.args.x _ _ _ _ c.if-x-lt10.false c.if-x-lt100.false c.if-x-lt1000.false c.digit-2.ensures c.digit-3.ensures c.digit-4.ensures c.digit-5.ensures) at c.requires.1

pub returns : goal.returns
returns c =
    rw (four c.args.x _ _ _ _ c.if-x-lt10.false c.if-x-lt100.false c.if-x-lt1000.false c.digit-2.ensures c.digit-3.ensures c.digit-4.ensures c.digit-5.ensures) c.copy-2.ensures
