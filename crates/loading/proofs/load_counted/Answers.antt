-- `loading::load_counted` meets its contract. Assumes nothing.
use mathlib.Core.Path.{sym, ap, ◌∙◌}
use mathlib.Core.List.{List}
use Prim.Native.Nat.{ℕ}
use Rattle.std.specs.Prelude.{Ok}
use Rattle.network.specs.Load.{opened}
use Rattle.network.proofs.TestLaws.{handed-on}
use Rattle.loading.specs.declared.Counted.{Counted}
use Rattle.loading.proofs.ByAnswer.{read-valid, counted-is, opened-counts}
use Rattle.loading.proofs.load_counted.Goals as goal

pub returns-in_err-s : goal.returns-in_err-s
returns-in_err-s c = handed-on c.from_residual.ensures.1 (counted-is c.args.bytes.now c.in_err-s.ensures)

pub with_counts-requires : goal.with_counts-requires
with_counts-requires c = read-valid c.args.bytes.now c.in_ok-s.ensures

pub returns : goal.returns
returns c =
    let s = c.in_ok-s.s in
    ap Ok (c.with_counts.ensures ∙ ap {B = Counted} (λ (l : List ℕ). record { session = opened s; counts = l }) (sym (opened-counts s)))
    ∙ counted-is c.args.bytes.now c.in_ok-s.ensures
