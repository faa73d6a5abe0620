-- `answers::exchange` meets its contract. Assumes nothing.
use mathlib.Core.Path.{◌≡◌, sym, ◌∙◌}
use mathlib.Core.List.{[], ◌∷◌}
use Prim.Native.Nat.{ℕ}
use native.Mathlib.Omega.{arith}
use Rattle.network.specs.Answer.{Answer, Done}
use Rattle.network.specs.declared.Session.{Session}
use Rattle.network.specs.Tests.{first}
use Rattle.network.specs.Flat.{loaded_net}
use Rattle.network.specs.Calls.{gate_test, table_test, closed_test, held_closed, exchange_answer}
use Rattle.network.specs.State.{state_test}
use Rattle.network.specs.Net.{Replacement}
use Rattle.network.proofs.TestLaws.{alone, stopped, went_on, handed-on}
use Rattle.answers.proofs.Named.{Named, named, closed_is}
use Rattle.answers.proofs.exchange.Goals as goal

pub returns-in_err-replacement_test : goal.returns-in_err-replacement_test
unfolding exchange_answer
returns-in_err-replacement_test c =
    let s = c.args.s in
    let r : Replacement = record { signal = c.args.gate; table = c.args.table } in
    handed-on c.from_residual.ensures.1 (sym c.in_err-replacement_test.was
    ∙ stopped (state_test s ∷ gate_test (loaded_net s) r.signal ∷ table_test (loaded_net s) r ∷ []) (closed_test (loaded_net s) (held_closed s r.signal) r ∷ []) c.replacement_test.ensures c.in_err-replacement_test.was)

-- what the tests before 13 tell of the gate
gate-named : (s : Session) (g t : ℕ) {a : Answer} → a ≡ first (state_test s ∷ gate_test (loaded_net s) g ∷ table_test (loaded_net s) (record { signal = g; table = t }) ∷ []) → a ≡ Done → Named s g
gate-named s g t e k = named s g (table_test (loaded_net s) (record { signal = g; table = t }) ∷ []) (sym e ∙ k)

pub overflow_sub-g : goal.overflow_sub-g
overflow_sub-g c = let v = gate-named c.args.s c.args.gate c.args.table c.replacement_test.ensures c.in_ok-replacement_test.was in omega (arith, v.low, v.high, v.most, v.few)

pub bounds-s-g : goal.bounds-s-g
bounds-s-g c = let v = gate-named c.args.s c.args.gate c.args.table c.replacement_test.ensures c.in_ok-replacement_test.was in omega (arith, v.low, v.high, v.most, v.few)

pub offset_bounds-s-g : goal.offset_bounds-s-g
offset_bounds-s-g c = let v = gate-named c.args.s c.args.gate c.args.table c.replacement_test.ensures c.in_ok-replacement_test.was in omega (arith, v.low, v.high, v.most, v.few)

pub bounds-s-g-2 : goal.bounds-s-g-2
bounds-s-g-2 c = let v = gate-named c.args.s c.args.gate c.args.table c.replacement_test.ensures c.in_ok-replacement_test.was in omega (arith, v.low, v.high, v.most, v.few)

pub offset_bounds-s-g-2 : goal.offset_bounds-s-g-2
offset_bounds-s-g-2 c = let v = gate-named c.args.s c.args.gate c.args.table c.replacement_test.ensures c.in_ok-replacement_test.was in omega (arith, v.low, v.high, v.most, v.few)

pub bounds-s-g-3 : goal.bounds-s-g-3
bounds-s-g-3 c = let v = gate-named c.args.s c.args.gate c.args.table c.replacement_test.ensures c.in_ok-replacement_test.was in omega (arith, v.low, v.high, v.most, v.few)

pub first_closed-requires : goal.first_closed-requires
first_closed-requires c = let v = gate-named c.args.s c.args.gate c.args.table c.replacement_test.ensures c.in_ok-replacement_test.was in rw c.from-n.ensures v.few

pub returns : goal.returns
unfolding exchange_answer
returns c =
    let s = c.args.s in
    let r : Replacement = record { signal = c.args.gate; table = c.args.table } in
    let v = gate-named s r.signal r.table c.replacement_test.ensures c.in_ok-replacement_test.was in
    rw c.from-n.ensures at c.first_closed.ensures ∙ closed_is s r v.low v.high ∙ alone (closed_test (loaded_net s) (held_closed s r.signal) r)
    ∙ went_on (state_test s ∷ gate_test (loaded_net s) r.signal ∷ table_test (loaded_net s) r ∷ []) (closed_test (loaded_net s) (held_closed s r.signal) r ∷ []) c.replacement_test.ensures c.in_ok-replacement_test.was
