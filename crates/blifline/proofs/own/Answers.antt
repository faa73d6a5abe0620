-- `blifline::own` meets its contract. Assumes nothing.
use mathlib.Core.Path.{◌≡◌, sym, ap, ◌∙◌}
use mathlib.Core.List.{[]}
use Prim.Native.Nat.{ℕ, ◌-◌, ◌≤◌}
use native.Mathlib.Omega.{arith}
use lib.ListN.{length, drop, length-drop}
use Rattle.blif.specs.Text.{fields}
use Rattle.blif.specs.Read.{known, names}
use Rattle.bliftext.proofs.Spans.{none_left}
use Rattle.blifline.proofs.Lists.{last-is}
use Rattle.blifline.proofs.Tests.{own_is}
use Rattle.blifline.proofs.own.Goals as goal

pub returns : goal.returns
returns c =
    let a = c.args in
    let line = fields (drop a.at a.s.now) in
    let w = c.word_from-w in
    let n = c.count in
    let k = c.less_one-k in
    let fs = fields (drop w.result.end a.s.now) in
    let behind = w.ensures.behind in
    let x = c.word_at in
    let e : k.result ≡ length fs - 1 = k.ensures ∙ ap (λ (m : ℕ). m - 1) n.ensures in
    let long : 1 ≤ length fs = (rw (← behind) at c.requires.1) in
    let some : (x.result.start ≡ x.result.end → ⊥) = λ z.
    (let none : drop k.result fs ≡ [] = x.ensures.reads ∙ none_left a.s.now x.result (omega arith) in
    let m : length fs - k.result ≡ 0 = sym (length-drop k.result fs) ∙ ap length none in
    omega arith) in
    record {
      own = sym (own_is k.result n.result fs (names line) k.ensures n.ensures behind) ∙ last-is (known []) a.s.now w.result.end k.result fs x.result e x.ensures some;
      upto = x.ensures.upto;
      inside = x.ensures.inside;
    }
