use mathlib.Core.Path.{◌≡◌}
use Prim.Native.Nat.{◌+◌, ◌-◌}
use Rattle.bits.specs.Range.{up_from, first_in}
use Rattle.network.specs.Answer.{Done}
use Rattle.network.specs.Tests.{or_else}
use Rattle.network.specs.Calls.{output_found, first_harm}
use Rattle.simulate.specs.Simulated.{words_at}
use Rattle.verdict.specs.Changed.{changed_at, word_harm}
use Rattle.verdict.proofs.search.Given as goal

abbrev pub invariant-loop-i : goal.invariant-loop-i
invariant-loop-i l =
    let h = changed_at l.outs (words_at l.xs l.w) (words_at l.ys l.w) l.keep l.w in
    (l.found ≡ Done) × (or_else (output_found l.x (first_in (h l.x) (up_from l.i (l.p - l.i)))) (first_harm h l.p (up_from (l.x + 1) (l.end - (l.x + 1)))) ≡ word_harm h l.p l.w)

abbrev pub invariant-search : goal.invariant-search
invariant-search l =
    let h = changed_at l.outs (words_at l.xs l.w) (words_at l.ys l.w) l.keep l.w in
    (l.found ≡ Done) × (first_harm h l.p (up_from l.x (l.end - l.x)) ≡ word_harm h l.p l.w)
