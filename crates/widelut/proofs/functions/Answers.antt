-- `widelut::functions` meets its contract. Assumes nothing.
use mathlib.Core.Path.{◌≡◌}
use mathlib.Core.List.{[], ◌∷◌}
use Prim.Native.Nat.{ℕ, ◌<◌}
use Rattle.bits.specs.Bit.{bit, number}
use Rattle.widelut.proofs.Columns.{more, none, listed}
use Rattle.widelut.proofs.functions.Goals as goal

pub returns : goal.returns
returns c =
    let a = c.args in
    listed (λ t v. (i : ℕ) → i < 64 → bit v i ≡ bit t (number (bit a.a i ∷ bit a.b i ∷ [])))
    (more c.lut2.ensures
    (more c.lut2-2.ensures
    (more c.lut2-3.ensures
    (more c.lut2-4.ensures
    (more c.lut2-5.ensures
    (more c.lut2-6.ensures
    (more c.lut2-7.ensures
    (more c.lut2-8.ensures
    (more c.lut2-9.ensures
    (more c.lut2-10.ensures
    (more c.lut2-11.ensures
    (more c.lut2-12.ensures
    (more c.lut2-13.ensures
    (more c.lut2-14.ensures
    (more c.lut2-15.ensures
    (more c.lut2-16.ensures
    none))))))))))))))))
