-- `answer`: what was judged, printed. Assumes nothing.
use Rattle.ordertext.proofs.Given.{given-few}
use Rattle.answertext.proofs.Asked.{ready, answered}
use Rattle.answertext.proofs.answer.Goals as goal

pub judge-j-requires : goal.judge-j-requires
judge-j-requires c = given-few c.args.text.now c.args.o c.requires.0.reads

pub put_answer-n-requires : goal.put_answer-n-requires
put_answer-n-requires c =
    ready c.args.file.now c.args.text.now c.args.o c.requires.0 c.judge-j.result c.judge-j.ensures c.args.buf.now c.requires.1

pub returns : goal.returns
returns c =
    answered c.args.file.now c.args.text.now c.args.o c.requires.0 c.judge-j.result c.judge-j.ensures c.requires.1 c.put_answer-n.ensures
