-- `dontcares::tables_at` meets its contract. Assumes nothing.
use mathlib.Core.Path.{◌≡◌, ap, ◌∙◌}
use mathlib.Core.List.{[]}
use Prim.Native.Nat.{ℕ, ◌-◌, ◌^◌}
use native.Mathlib.Omega.{arith}
use lib.ListN.{get_or}
use Rattle.dontcares.proofs.TableLaws.{below, cdc-is, full_is}
use Rattle.dontcares.proofs.tables_at.Goals as goal
use Rattle.dontcares.proofs.tables_at.Goals.{After-entry_count-c}

-- how many entries the gate has

size : (c : After-entry_count-c) → let a = c.args in
    c.entry_count-c.result ≡ 2 ^ get_or a.arity.now a.g 0
size c = c.entry_count-c.ensures.0 ∙ ap (λ (k : ℕ). 2 ^ k) c.from.ensures

pub complement_within-cdc-requires : goal.complement_within-cdc-requires
complement_within-cdc-requires c =
    (omega (arith, c.entry_count-c.ensures.1), below _ _ _ _ (size (goal.at.complement_within-cdc-requires c).After-entry_count-c) (c.delivered-came.ensures []))

pub complement_within-full-requires : goal.complement_within-full-requires
complement_within-full-requires c =
    (omega (arith, c.entry_count-c.ensures.1), below _ _ _ _ (size (goal.at.complement_within-full-requires c).After-entry_count-c) (c.delivered-seen.ensures []))

pub returns : goal.returns
returns c ts excluded outs n m p live hg ok sim framed comes at =
    let a = c.args in (
      c.complement_within-cdc.ensures ∙ ap (λ (i : ℕ). 2 ^ i - 1 - c.delivered-came.result) (size (goal.at.returns c).After-entry_count-c)
          ∙ cdc-is a.arity.now a.fanins.now ts excluded outs n m p a.g hg a.rows.now a.count live ok sim framed a.come.now c.delivered-came.result
          comes (c.delivered-came.ensures ts),
      c.complement_within-full.ensures ∙ ap (λ (i : ℕ). 2 ^ i - 1 - c.delivered-seen.result) (size (goal.at.returns c).After-entry_count-c)
          ∙ full_is a.arity.now a.fanins.now ts excluded outs n m p a.g hg a.rows.now a.count live ok sim framed a.come.now c.keep_row-keep.result a.odc.now c.delivered-seen.result
          comes at c.keep_row-keep.ensures (c.delivered-seen.ensures ts),
    )
