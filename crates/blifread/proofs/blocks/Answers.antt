-- `blifread::blocks` meets its contract. Assumes nothing.
use mathlib.Core.Path.{sym, ◌∙◌}
use mathlib.Core.List.{[]}
use lib.ListN.{drop}
use Rattle.network.proofs.TestLaws.{handed-on}
use Rattle.blif.specs.Text.{statements}
use Rattle.blif.specs.Read.{read_blocks}
use Rattle.bliftext.specs.Named.{names_at}
use Rattle.blifread.specs.Drafts.{draft_of, signals_at}
use Rattle.blifread.proofs.Blockwise.{turn-stop, turn_end, turn-other, turn-refused, turn-block}
use Rattle.blifread.proofs.blocks.Goals as goal

pub returns-then-opens : goal.returns-then-opens
returns-then-opens c =
    let a = c.args in
    let text = a.text.now in
    let os = names_at text a.outputs.now in
    let due = read_blocks (draft_of (signals_at text a.t a.ins) os a.t [] 0) (statements (drop a.at text)) in
    let h = c.loop-l in
    let n = c.line_from in
    let l = c.in-Some.l in
    let lo = c.in-Some.ensures in
    c.end.ensures ∙ turn_end text os h.u h.ns h.i due h.invariant l lo.reads (sym c.opens.ensures ∙ c.if-opens.true)

pub returns-then-not-opens : goal.returns-then-not-opens
returns-then-not-opens c =
    let a = c.args in
    let text = a.text.now in
    let os = names_at text a.outputs.now in
    let due = read_blocks (draft_of (signals_at text a.t a.ins) os a.t [] 0) (statements (drop a.at text)) in
    let h = c.loop-l in
    let n = c.line_from in
    let l = c.in-Some.l in
    let lo = c.in-Some.ensures in
    turn-other text os h.u h.ns h.i due h.invariant l lo.reads (sym c.opens.ensures ∙ c.if-opens.false)
    (sym c.opens-in-Some.ensures ∙ c.if-not-opens.true)

pub returns-in_err-b : goal.returns-in_err-b
returns-in_err-b c =
    let a = c.args in
    let text = a.text.now in
    let os = names_at text a.outputs.now in
    let due = read_blocks (draft_of (signals_at text a.t a.ins) os a.t [] 0) (statements (drop a.at text)) in
    let h = c.loop-l in
    let n = c.line_from in
    let l = c.in-Some.l in
    let lo = c.in-Some.ensures in
    let b = c.block in
    handed-on c.from_residual.ensures.1 (turn-refused text os h.u h.ns h.i due h.invariant l lo.reads (sym c.opens.ensures ∙ c.if-opens.false)
    (sym c.opens-in-Some.ensures ∙ c.if-not-opens.false) b.result b.ensures _ c.in_err-b.was)

pub loop-l-preserved : goal.loop-l-preserved
loop-l-preserved c =
    let a = c.args in
    let text = a.text.now in
    let os = names_at text a.outputs.now in
    let due = read_blocks (draft_of (signals_at text a.t a.ins) os a.t [] 0) (statements (drop a.at text)) in
    let h = c.loop-l in
    let n = c.line_from in
    let l = c.in-Some.l in
    let lo = c.in-Some.ensures in
    let b = c.block in
    turn-block text os h.u h.ns h.i due h.invariant l lo.reads (sym c.opens.ensures ∙ c.if-opens.false)
    (sym c.opens-in-Some.ensures ∙ c.if-not-opens.false) b.result b.ensures _ c.in_ok-b.was

pub returns : goal.returns
returns c =
    let a = c.args in
    let text = a.text.now in
    let os = names_at text a.outputs.now in
    let due = read_blocks (draft_of (signals_at text a.t a.ins) os a.t [] 0) (statements (drop a.at text)) in
    let h = c.loop-l in
    turn-stop text os h.u h.ns h.i due h.invariant c.in_default.ensures
