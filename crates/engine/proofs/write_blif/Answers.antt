-- `engine::write_blif` meets its contract. Assumes nothing.
use mathlib.Core.Path.{◌≡◌, refl, sym, ◌∙◌}
use Rattle.std.specs.Prelude.{Err}
use Rattle.network.proofs.Valid.{state-e}
use Rattle.blif.specs.Write.{write_blif_of}
use Rattle.network.proofs.TestLaws.{handed-on}
use Rattle.engine.proofs.write_blif.Goals as goal

pub returns-in_err-state_test : goal.returns-in_err-state_test
unfolding write_blif_of
returns-in_err-state_test c =
    let h : c.from_residual.result ≡ Err c.in_err-state_test.field-0.0 = handed-on c.from_residual.ensures.1 refl in
    rw (h, sym c.state_test.ensures ∙ c.in_err-state_test.was)

pub write-requires : goal.write-requires
write-requires c =
    state-e c.args.s (sym c.state_test.ensures ∙ c.in_ok-state_test.was)
