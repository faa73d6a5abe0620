use mathlib.Core.Path.{◌∙◌}
use native.Mathlib.Omega.{arith}
use Rattle.netread.specs.declared.Kind.TheVariants.{Excluded}
use Rattle.netread.proofs.Marks.{no-kind, other-kind, is-marked, not-marked}
use Rattle.netread.proofs.File.{no-set}
use Rattle.netread.proofs.body.Goals as goal
use Rattle.netread.proofs.body.Goals.{in_default-via-in-Ok+in_default, in_default-via-in_default}

pub excluded-requires : goal.excluded-requires
excluded-requires c =
    let p = c.requires in
    let h = c.in-Ok-Excluded in
    (p.0, p.1, p.2, is-marked _ _ Excluded c.kind_at.ensures h.is h.field-0-is)

pub returns-in_default : goal.returns-in_default
returns-in_default c =
    c.gates.ensures ∙ no-set _ _ (not-marked _ c.kind_at.result Excluded c.kind_at.ensures
    (elim c.in_default.branch [ in_default-via-in-Ok+in_default w ↦ (let q = w.in_default.is in other-kind q (λ z. grind arith)) | in_default-via-in_default w ↦ no-kind w.in_default.is ]))
