-- `bliftext::line_at` meets its contract. Assumes nothing.
use mathlib.Core.Path.{refl}
use Prim.Native.Nat.{◌+◌}
use native.Mathlib.Omega.{arith}
use Rattle.blif.specs.Text.{is_newline, is_hash}
use borrow.Author.Rules.{rules}
use Rattle.bliftext.specs.Lines.{is_filled}
use Rattle.bliftext.proofs.Lines.{past_end, line-found}
use Rattle.bliftext.proofs.line_at.Goals as goal

pub returns-then-e-text : goal.returns-then-e-text
returns-then-e-text c =
    let a = c.args in
    let e = c.find-e in
    let h = c.find-h in
    let w = c.find-w in
    line-found a.text.now a.i e.result h.result w.result (e.result + 1)
    (e.ensures.first is_newline (λ b l r p. search rules), e.ensures.within.1)
    (h.ensures.first is_hash (λ b l r p. search rules), h.ensures.within.1)
    (w.ensures.first is_filled (λ b l r p. search rules), w.ensures.within.1)
    refl (omega arith) (omega (arith, e.ensures.within)) (omega (arith, e.ensures.within))

pub returns : goal.returns
returns c =
    let a = c.args in
    let e = c.find-e in
    let h = c.find-h in
    let w = c.find-w in
    line-found a.text.now a.i e.result h.result w.result e.result
    (e.ensures.first is_newline (λ b l r p. search rules), e.ensures.within.1)
    (h.ensures.first is_hash (λ b l r p. search rules), h.ensures.within.1)
    (w.ensures.first is_filled (λ b l r p. search rules), w.ensures.within.1)
    (past_end a.text.now e.result (omega arith)) (omega arith) (omega (arith, e.ensures.within)) (omega (arith, e.ensures.within))
