-- `engine::write` meets its contract. Assumes nothing.
use mathlib.Core.Path.{◌≡◌, refl, sym, ◌∙◌}
use Rattle.std.specs.Prelude.{Err}
use Rattle.network.specs.Write.{bytes_of}
use Rattle.network.specs.Calls.{write_of, written_of}
use Rattle.network.proofs.Valid.{state-e}
use Rattle.engine.proofs.ByAnswer.{filling-invalid}
use Rattle.network.proofs.TestLaws.{handed-on}
use Rattle.engine.proofs.write.Goals as goal

pub returns-in_err-state_test : goal.returns-in_err-state_test
unfolding written_of write_of
returns-in_err-state_test c =
    let a = c.args in
    let e = filling-invalid a.s (bytes_of a.s) a.buf.now (sym c.state_test.ensures ∙ c.in_err-state_test.was) in
    let h : c.from_residual.result ≡ Err c.in_err-state_test.field-0.0 = handed-on c.from_residual.ensures.1 refl in
    rw (h, e)

pub write-requires : goal.write-requires
write-requires c =
    state-e c.args.s (sym c.state_test.ensures ∙ c.in_ok-state_test.was)
