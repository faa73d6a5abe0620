-- `blifread::rows` meets its contract. Assumes nothing.
use native.Mathlib.Omega.{arith}
use Rattle.bliftext.specs.Lines.{words_at}
use Rattle.blifline.specs.Rows.{RowRead}
use Rattle.blifread.proofs.Steps.{part-line}
use Rattle.blifread.proofs.Rowwise.{rows_start, rows_on}
use Rattle.blifread.proofs.rows.Goals as goal

pub loop-l-init : goal.loop-l-init
loop-l-init c = let a = c.args in rows_start a.text.now a.at a.k c.requires.0 c.requires.1

pub loop-l-preserved : goal.loop-l-preserved
loop-l-preserved c =
    let a = c.args in
    let text = a.text.now in
    let h = c.loop-l in
    let n = c.line_from in
    let l = c.in-Some.l in
    let lo = c.in-Some.ensures in
    let x = c.row-x in
    let R : RowRead a.k h.digit h.table (words_at text l) x.result = rw (part-line text l) at x.ensures in
    rows_on text a.at a.k h.digit h.table h.i l.next (words_at text l) lo.reads h.invariant x.result R c.if-x-eq0.false (omega (arith, lo.from, lo.some, lo.within)) lo.inside
