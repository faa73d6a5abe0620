-- `opentables::open_from` meets its contract. Assumes nothing.
use mathlib.Core.Path.{◌≡◌, refl, sym, ap, ◌∙◌, subst}
use Prim.Native.Nat.{ℕ, ◌-◌, ◌^◌, ◌<◌}
use native.Mathlib.Omega.{arith}
use lib.ListN.{replicate, length-set}
use Rattle.bits.proofs.Ranges.{Changed, changed-step}
use Rattle.network.specs.Bounds.{most_gates, most_signals}
use Rattle.network.specs.Valid.{GateOk, NetOk}
use Rattle.network.proofs.Valid.{net-ok}
use Rattle.simulate.proofs.SimulationSteps.{later}
use Rattle.compatible.proofs.Stores.{per-gate}
use Rattle.compatible.proofs.Loaded.{net-fine}
use Rattle.opentables.specs.Closed.{open_by}
use Rattle.opentables.proofs.ClosedWords.{closed-lt, open-by-is}
use Rattle.opentables.proofs.Opened.{opens-are}
use Rattle.opentables.proofs.open_from.Goals as goal
use Rattle.opentables.proofs.open_from.Goals.{In-loop-g}

-- the network, by the counts that were read
net : (c : In-loop-g) → NetOk c.args.s.arity c.args.s.fanins c.from-n.result c.from-m.result
net c = (net-fine c.args.s _ _ _ c.from-n.ensures c.from-m.ensures refl c.requires.s_value).0

gate-ok : (c : In-loop-g) → GateOk c.args.s.arity c.args.s.fanins c.loop-g.g most_signals
gate-ok c = later (omega (arith, (net c).ins, (net c).most)) ((net c).gate c.loop-g.g (omega arith))

pub bounds-arity-g : goal.bounds-arity-g
bounds-arity-g c = omega (arith, (net-ok c.args.s c.requires.s_value).most)

pub entry_count-c-requires : goal.entry_count-c-requires
entry_count-c-requires c = omega (arith, (gate-ok (goal.at.entry_count-c-requires c).In-loop-g).few)

pub closed_by-requires : goal.closed_by-requires
closed_by-requires c =
    let ok = net (goal.at.closed_by-requires c).In-loop-g in
    record { n_le_most_inputs = (ok.ins, omega (arith, ok.most), c.requires.loaded_rows.sets.frame.cut.words); gate_ok = gate-ok (goal.at.closed_by-requires c).In-loop-g }

pub complement_within-v-requires : goal.complement_within-v-requires
complement_within-v-requires c =
    let a = c.args in (
      omega (arith, c.entry_count-c.ensures.1),
      subst (λ (k : ℕ). c.closed_by.result < 2 ^ k) (sym (c.entry_count-c.ensures.0 ∙ ap (λ (k : ℕ). 2 ^ k) c.from.ensures))
          (closed-lt a.s.arity a.s.fanins a.rows.now a.hs.now c.from-n.result a.live c.loop-g.g a.count c.closed_by.result c.closed_by.ensures),
    )

pub bounds-opens-g : goal.bounds-opens-g
bounds-opens-g c = omega (arith, (net (goal.at.bounds-opens-g c).In-loop-g).most)

pub loop-g-preserved : goal.loop-g-preserved
loop-g-preserved c =
    let a = c.args in (
      simp length-set c.loop-g.invariant.0,
      changed-step (λ q v. open_by a.s.arity a.s.fanins a.rows.now a.hs.now c.from-n.result a.live a.count q) (replicate most_gates 0) c.loop-g.opens c.loop-g.g c.complement_within-v.result (omega (arith, (net (goal.at.loop-g-preserved c).In-loop-g).most)) c.loop-g.invariant.1
          (c.complement_within-v.ensures ∙ ap (λ (k : ℕ). 2 ^ k - 1 - c.closed_by.result) (c.entry_count-c.ensures.0 ∙ ap (λ (k : ℕ). 2 ^ k) c.from.ensures)
          ∙ open-by-is a.s.arity a.s.fanins a.rows.now a.hs.now c.from-n.result a.live c.loop-g.g a.count c.closed_by.result c.closed_by.ensures),
    )

pub returns : goal.returns
returns c =
    let a = c.args in
    let l = c.loop-g in
    let table = open_by a.s.arity a.s.fanins a.rows.now a.hs.now c.from-n.result a.live a.count in
    let e : l.g ≡ c.from-m.result = omega arith in
    per-gate l.opens table c.from-m.result l.invariant.0 (subst (λ (k : ℕ). Changed (λ q v. table q) (replicate most_gates 0) l.opens k) e l.invariant.1)
    ∙ opens-are c.args.s _ _ c.from-n.ensures c.from-m.ensures c.requires.s_value c.requires.loaded_rows
