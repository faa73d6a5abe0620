-- `dontcares::sets_between` meets its contract. Assumes nothing.
use mathlib.Core.Path.{refl}
use Prim.Native.Nat.{◌≤◌}
use native.Mathlib.Omega.{arith}
use Rattle.network.specs.Flat.{current_net}
use Rattle.simulate.proofs.SimulationSteps.{later}
use Rattle.dontcares.proofs.Ready.{Ready, ready}
use Rattle.dontcares.proofs.sets_between.Goals as goal
use Rattle.dontcares.proofs.sets_between.Goals.{After-from-p}

fine : (c : After-from-p) → Ready c.args.s c.from-n.result c.from-m.result c.from-p.result
fine c =
    ready c.args.s c.from-n.result c.from-m.result c.from-p.result c.requires.s_value c.from-n.ensures c.from-m.ensures c.from-p.ensures

most : (c : After-from-p) → c.args.e ≤ c.from-m.result
most c = omega (arith, c.requires.a_le_t)

pub frame_of-f-requires : goal.frame_of-f-requires
frame_of-f-requires c = (fine (goal.at.frame_of-f-requires c).After-from-p).net.ins

pub rows-requires : goal.rows-requires
rows-requires c =
    record { net_ok = (fine (goal.at.rows-requires c).After-from-p).net; count_le_row_words = (c.frame_of-f.ensures.cut.words, refl) }

pub odc_words-requires : goal.odc_words-requires
odc_words-requires c =
    let f = fine (goal.at.odc_words-requires c).After-from-p in
    record { net_ok = f.net; outputs_ok = f.outs; rows_len = c.rows.ensures; framed = (c.frame_of-f.ensures, most (goal.at.odc_words-requires c).After-from-p, c.requires.a_le_t.3) }

pub tables_of-requires : goal.tables_of-requires
tables_of-requires c =
    let p = (goal.at.tables_of-requires c).After-from-p in
    let f = (fine p).net in
    let few = c.requires.a_le_t in
    record {
      a_le_e = (few.0, omega (arith, few.1, most p, f.most), c.frame_of-f.ensures.cut.words);
      by_index = λ g h. later (omega (arith, f.ins, f.most, few.1, most p)) (f.gate g (omega (arith, few.1, most p)));
    }

pub returns : goal.returns
unfolding current_net
returns c =
    let s = c.args.s in
    let odc-at = c.odc_words.ensures s.excluded in (
      λ g f l. rw (c.frame_of-f.ensures.words, c.from-n.ensures, c.from-m.ensures, c.from-p.ensures) at (odc-at g f l),
      rw (c.from-n.ensures, c.from-m.ensures, c.from-p.ensures) at
          (c.tables_of.ensures s.current s.outputs c.from-n.result c.from-m.result c.from-p.result (omega (arith, c.requires.a_le_t.1, most (goal.at.returns c).After-from-p)) (fine (goal.at.returns c).After-from-p).net c.rows.ensures.1 c.frame_of-f.ensures
          (λ g f l. odc-at g f (omega (arith, c.requires.a_le_t.1)))),
    )
