-- `incremental::invert` meets its contract. Assumes nothing.
use mathlib.Core.Path.{◌≡◌, sym, ap, ◌∙◌}
use mathlib.Core.Bool.{not}
use mathlib.Core.List.{List}
use Prim.Native.Nat.{ℕ, ◌+◌, ◌*◌, ◌^◌, ◌≤◌, ◌<◌}
use native.Mathlib.Omega.{arith}
use lib.ListN.{length, get_or, set}
use lib.Pow.{pow_mono}
use lib.Seq.{get_or-set_same, get_or-set_other}
use Rattle.bits.specs.Bit.{bit}
use Rattle.network.specs.Bounds.{most_gates, most_signals, most_fanins, most_entries}
use Rattle.simulate.proofs.RowLaws.{words-at}
use Rattle.incremental.specs.Updated.{Begun}
use Rattle.incremental.proofs.Updates.{complemented, update-first, update-stored, inverted-words}
use borrow.Author.Rules.{rules}
use Rattle.incremental.proofs.invert.Goals as goal
use Rattle.incremental.proofs.invert.Goals.{After-store_row}

-- the tables are the same but for gate g's, which is complemented
same : (ts : List ℕ) (g v q : ℕ) → (q ≡ g → ⊥) → get_or (set ts g v) q 0 ≡ get_or ts q 0
same ts g v q d = get_or-set_other ts g q v 0 d

flipped : (ts : List ℕ) (g k v : ℕ) → g < length ts → k ≤ most_fanins → ((e : ℕ) → e < 64 → bit v e ≡ not (bit (get_or ts g 0) e))
    → (e : ℕ) → e < 2 ^ k → bit (get_or (set ts g v) g 0) e ≡ not (bit (get_or ts g 0) e)
flipped ts g k v h few turned e l =
    let small : 2 ^ k ≤ most_entries = pow_mono {j = most_fanins} few in
    ap (λ (t : ℕ). bit t e) (get_or-set_same ts g v 0 h) ∙ turned e (omega arith)

-- gate g's words are complemented, and the rows are done up to the next gate
begun : (i : After-store_row) → let a = i.args in
    Begun a.arity.now a.fanins.now a.tables (set a.tables a.g i.complement.result) i.store_row.new.rows a.n a.m a.count (a.g + 1) (2 ^ (a.n + a.g))
begun i =
    let a = i.args in
    let hg = i.requires.g_lt_m.0 in
    let ok = i.requires.net_ok.gate a.g hg in
    let long : length a.tables ≡ most_gates = search rules in
    let fits : a.n + a.g < most_signals = omega (arith, i.requires.net_ok.ins, i.requires.net_ok.most) in
    let sim = i.requires.rows in
    let v = i.complement.result in
    let ts = set a.tables a.g v in
    let first = update-first a.arity.now a.fanins.now a.tables ts a.rows.now a.n a.m a.count sim a.g (omega arith) i.requires.g_lt_m.2 (λ q h. sym (same a.tables a.g v q (λ e. absurd (omega arith)))) in
    record {
      old = a.rows.now;
      sim = sim;
      so_far = update-stored a.arity.now a.fanins.now a.tables ts a.rows.now a.n a.m a.count sim a.rows.now a.g 0 hg fits ok first
          (λ w. get_or i.complement_row-row.result w 0)
          (λ w b hw hb. inverted-words a.arity.now a.fanins.now a.tables ts a.rows.now a.n a.m a.count sim a.g w b (get_or i.complement_row-row.result w 0) hg ok hw hb
          (i.complement_row-row.ensures w b (omega arith) hb ∙ ap (λ (x : ℕ). not (bit x b)) (sym (words-at a.rows.now w (a.n + a.g) fits)))
          (flipped a.tables a.g (get_or a.arity.now a.g 0) v (omega (arith, i.requires.net_ok.most)) ok.few i.complement.ensures))
          i.store_row.new.rows i.store_row.ensures.0 (λ w h. i.store_row.ensures.1 w (omega arith));
    }

pub update_from-requires : goal.update_from-requires
update_from-requires c = record {
  net_ok = c.requires.net_ok;
  count_le_row_words = (c.requires.g_lt_m.1, omega (arith, c.requires.g_lt_m.0));
  begun = rw c.power.ensures (begun (goal.at.update_from-requires c).After-store_row);
  masked = c.requires.masked;
}

pub returns : goal.returns
returns c =
    let a = c.args in
    let v = c.complement.result in
    let long : length a.tables ≡ most_gates = search rules in
    let lt : a.g < length a.tables = omega (arith, c.requires.net_ok.most, c.requires.g_lt_m.0) in (
      c.update_from.ensures.0,
      λ w b hw hb. (c.update_from.ensures.1 w hw).each b hb
          ∙ complemented a.arity.now a.fanins.now a.tables (set a.tables a.g v) a.n (w * 64 + b) a.g (same a.tables a.g v)
          (flipped a.tables a.g (get_or a.arity.now a.g 0) v lt (c.requires.net_ok.gate a.g c.requires.g_lt_m.0).few c.complement.ensures) a.m,
    )
