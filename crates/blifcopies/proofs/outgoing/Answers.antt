-- `outgoing`: the copies for the outputs passed are laid in. Assumes nothing.
use mathlib.Core.Path.{sym, ap, ◌∙◌}
use Prim.Native.Nat.{◌<◌}
use native.Mathlib.Omega.{arith}
use borrow.Author.Rules.{rules}
use Rattle.bits.specs.Range.{num}
use Rattle.network.specs.Bounds.{most_outputs}
use Rattle.blifcopies.proofs.Growth.{copied-due, copied-not, copy-fits, grown-next, grown-out}
use Rattle.blifcopies.proofs.outgoing.Goals as goal
use Rattle.blifcopies.proofs.outgoing.Goals.{then-copy_due, else-copy_due}

pub copy_due-requires : goal.copy_due-requires
copy_due-requires c =
    let z = rw c.freed-t.ensures.0 at c.freed-t.ensures.1 in
    (copy-fits c.args.s z c.requires.0 c.requires.1 c.freed-t.result c.loop-i.t c.loop-i.i c.freed-t.ensures.0 c.loop-i.invariant (omega arith)).2

pub bounds-outs-i : goal.bounds-outs-i
bounds-outs-i c =
    let z = rw c.freed-t.ensures.0 at c.freed-t.ensures.1 in
    let low : c.loop-i.i < most_outputs = (copy-fits c.args.s z c.requires.0 c.requires.1 c.freed-t.result c.loop-i.t c.loop-i.i c.freed-t.ensures.0 c.loop-i.invariant (omega arith)).2 in
    search rules

pub with_copy-t-requires : goal.with_copy-t-requires
with_copy-t-requires c =
    let z = rw c.freed-t.ensures.0 at c.freed-t.ensures.1 in
    let fits = copy-fits c.args.s z c.requires.0 c.requires.1 c.freed-t.result c.loop-i.t c.loop-i.i c.freed-t.ensures.0 c.loop-i.invariant (omega arith) in
    let due = ap num (sym c.copy_due.ensures ∙ c.if-copy_due.true) in
    (omega arith, fits.1, fits.2)

-- the output gets a copy, or keeps its signal
pub loop-i-preserved : goal.loop-i-preserved
loop-i-preserved c =
    let s = c.args.s in
    let h = c.loop-i in
    elim c.if-copy_due.branch [
      | then-copy_due w ↦
          let due = sym c.copy_due.ensures ∙ w.if-copy_due.true in
          grown-next s c.freed-t.result h.t c.if-copy_due.t h.i c.freed-t.ensures.0 h.invariant (w.t-is ∙ w.with_copy-t.ensures ∙ sym (copied-due h.t s.outputs h.i due))
      | else-copy_due w ↦
          let not-due = sym c.copy_due.ensures ∙ w.if-copy_due.false in
          grown-next s c.freed-t.result h.t c.if-copy_due.t h.i c.freed-t.ensures.0 h.invariant (w.t-is ∙ sym (copied-not h.t s.outputs h.i not-due))
    ]

pub returns : goal.returns
returns c =
    let z = rw c.freed-t.ensures.0 at c.freed-t.ensures.1 in
    grown-out c.args.s z c.requires.0 c.requires.1 c.freed-t.result c.loop-i.t c.loop-i.i c.freed-t.ensures.0 c.loop-i.invariant (omega arith)
