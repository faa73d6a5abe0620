-- `changecalls::exchange` meets its contract. Assumes nothing.
use mathlib.Core.Path.{◌≡◌, refl, sym, ap, ◌∙◌}
use mathlib.Core.List.{[], ◌∷◌}
use Prim.Native.Nat.{ℕ, ◌-◌}
use lib.ListN.{set}
use native.Mathlib.Omega.{arith}
use Rattle.bits.specs.Lists.{overwritten}
use Rattle.network.specs.Answer.{Done}
use Rattle.network.specs.Net.{Replacement}
use Rattle.network.specs.Tests.{first}
use Rattle.network.specs.Calls.{room_test, exchange_answer, stored, with_current}
use Rattle.network.proofs.TestLaws.{clear-e}
use Rattle.answers.proofs.Named.{exchange-named}
use Rattle.packed.specs.Packed.{packed_of, session_in, words_test}
use Rattle.promises.specs.Boundary.{exchange_call}
use Rattle.promises.proofs.Tested.{words_long}
use Rattle.promises.proofs.Leaves.{refused-with, done}
use Rattle.changecalls.proofs.Judged.{names-exchange, named-fit, giving-ok, giving-refused}
use Rattle.changecalls.proofs.exchange.Goals as goal
use Rattle.changecalls.proofs.exchange.Goals.{In-Ok}

-- the answer where the gate gets the table, and which gate it is
accepted : (c : In-Ok) →
    let ws = c.args.session.now in
    let r : Replacement = record { signal = c.args.gate; table = c.args.table } in
    (first (words_test ws ∷ room_test 1 c.args.out.now ∷ exchange_answer (session_in ws) r ∷ []) ≡ Done) × (c.in-Ok.g ≡ c.args.gate - (session_in ws).n)
accepted c = giving-ok _ _ _ c.in-Ok.ensures

pub set_current-requires : goal.set_current-requires
set_current-requires c =
    let ws = c.args.session.now in
    let r : Replacement = record { signal = c.args.gate; table = c.args.table } in
    let w = accepted (goal.at.set_current-requires c).In-Ok in
    let t = clear-e (words_test ws ∷ room_test 1 c.args.out.now ∷ exchange_answer (session_in ws) r ∷ []) w.0 in
    let v = exchange-named (session_in ws) r refl t.1.1.0 in
    (words_long ws t.0, omega (arith, w.1, v.low, v.high, v.most))

pub returns-in-Ok : goal.returns-in-Ok
unfolding exchange_call
returns-in-Ok c =
    let ws = c.args.session.now in
    let s = session_in ws in
    let r : Replacement = record { signal = c.args.gate; table = c.args.table } in
    let w = accepted (goal.at.returns-in-Ok c).In-Ok in
    done [] (packed_of (stored s r)) ws c.args.out.now w.0
    (c.set_current.ensures ∙ ap (λ (g : ℕ). overwritten (packed_of (with_current s (set s.current g c.args.table))) ws) w.1) refl

pub tell_refusal-requires : goal.tell_refusal-requires
tell_refusal-requires c =
    let a = c.args in
    let r : Replacement = record { signal = a.gate; table = a.table } in
    named-fit a.session.now a.out.now 1 _ (names-exchange (session_in a.session.now) r) (giving-refused _ _ c.in-Err.ensures)

pub returns-in-Err : goal.returns-in-Err
unfolding exchange_call
returns-in-Err c =
    let a = c.args in
    let r : Replacement = record { signal = a.gate; table = a.table } in
    refused-with [] (packed_of (stored (session_in a.session.now) r)) a.session.now a.out.now (sym (giving-refused _ _ c.in-Err.ensures)) c.tell_refusal.ensures.0 c.tell_refusal.ensures.1
