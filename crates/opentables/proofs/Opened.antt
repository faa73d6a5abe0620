-- From the words to the open tables of 01: rule 7. Assumes nothing.
use mathlib.Core.Path.{◌≡◌, refl, sym, ap, ap₂, ◌∙◌}
use mathlib.Core.Bool.{Bool, false, not, ◌&&◌}
use mathlib.Core.List.{List, map}
use Prim.Native.Nat.{ℕ, ◌+◌, ◌*◌, ◌/◌, ◌%◌, ◌^◌, ◌<◌}
use native.Mathlib.Omega.{arith}
use lib.ListN.{get_or}
use Rattle.bits.specs.Bounds.{gate_places}
use Rattle.bits.specs.Range.{any}
use Rattle.bits.specs.Bit.{bit, number, table_of}
use Rattle.bits.specs.Cut.{Framed}
use Rattle.bits.proofs.Ranges.{any-ext, table-ext, map-places}
use Rattle.network.specs.Answer.{Done}
use Rattle.network.specs.declared.Session.{Session}
use Rattle.network.specs.Net.{Gate, Net, arity, entry, values}
use Rattle.network.specs.Compatible.{agree, compatible, delivers, closed, open_table, open_tables, per_gate}
use Rattle.network.specs.Flat.{gate_at, net_of, loaded_net}
use Rattle.network.specs.State.{state_fault}
use Rattle.network.specs.Valid.{NetOk}
use Rattle.network.proofs.FlatGates.{arity-at, entry-at, length-gates}
use Rattle.network.proofs.Earlier.{gate-is}
use Rattle.network.proofs.Valid.{net-ok}
use Rattle.simulate.specs.Simulated.{Simulated, words_at, Rows}
use Rattle.entries.proofs.By.{by-rest}
use Rattle.compatible.specs.Words.{SetRows, LoadedRows}
use Rattle.compatible.proofs.SetLaws.{value-at}
use Rattle.compatible.proofs.Stores.{per-gate-ext}
use Rattle.opentables.specs.Closed.{closes, closes_at, closed_by, open_by}

module _ (ks fs ts ex outs : List ℕ) (n m p : ℕ) where
  abbrev N : Net
  N = net_of ks fs ts n m ex outs p

  inputs-is : n ≡ N.inputs
  unfolding net_of
  inputs-is = refl

  -- the pattern x, outside H of gate g, delivers the entry t to it
  abbrev comes : ℕ → ℕ → ℕ → Bool
  comes g t x = not (compatible N (n + g) x) && delivers N (n + g) x t

  module _ (ok : NetOk ks fs n m) where
    module _ (ws : List ℕ) (w : ℕ) (sim : Simulated ks fs ts ws n m w) (b : ℕ) (hb : b < 64) where
      abbrev x : ℕ
      x = w * 64 + b

      entry-is : (g : ℕ) → g < m → entry (values N x) (gate_at ks fs ts g) ≡ table_of (get_or ks g 0) (λ r. bit (get_or ws (get_or fs (gate_places * g + r) 0) 0) b)
      entry-is g h =
          entry-at ks fs ts (values N x) g
          ∙ table-ext (get_or ks g 0) (λ r. get_or (values N x) (get_or fs (gate_places * g + r) 0) false) (λ r. bit (get_or ws (get_or fs (gate_places * g + r) 0) 0) b)
          (λ r l. value-at ks fs ts ex outs n m p ok ws w sim b hb (get_or fs (gate_places * g + r) 0) (omega (arith, (ok.gate g h).early r l)))

      module _ (hs : List ℕ) (set_at : (s : ℕ) → s < n + m → bit (get_or hs s 0) b ≡ compatible N s x) (g : ℕ) (hg : g < m) where
        moved_at : ℕ
        moved_at = table_of (get_or ks g 0) (λ r. bit (get_or hs (get_or fs (gate_places * g + r) 0) 0) b)

        moved-is : moved_at ≡ number (map (λ f. compatible N f x) (gate_at ks fs ts g).fanins)
        unfolding moved_at gate_at
        moved-is =
            table-ext (get_or ks g 0) (λ r. bit (get_or hs (get_or fs (gate_places * g + r) 0) 0) b) (λ r. compatible N (get_or fs (gate_places * g + r) 0) x)
            (λ r l. set_at (get_or fs (gate_places * g + r) 0) (omega (arith, (ok.gate g hg).early r l)))
            ∙ ap number (sym (map-places (λ f. compatible N f x) (get_or ks g 0) (λ r. get_or fs (gate_places * g + r) 0)))

        delivers-is : (t : ℕ) → agree (get_or ks g 0) moved_at (table_of (get_or ks g 0) (λ r. bit (get_or ws (get_or fs (gate_places * g + r) 0) 0) b)) t ≡ delivers N (n + g) x t
        unfolding delivers
        delivers-is t =
            ap₂ (λ (f e : ℕ). agree (get_or ks g 0) f e t) moved-is (sym (entry-is g hg))
            ∙ ap (λ (k : ℕ). agree k (number (map (λ f. compatible N f x) (gate_at ks fs ts g).fanins)) (entry (values N x) (gate_at ks fs ts g)) t) (sym (arity-at ks fs ts g))
            ∙ ap (λ (G : Gate). agree (arity G) (number (map (λ f. compatible N f x) G.fanins)) (entry (values N x) G) t) (sym (gate-is ks fs ts ex outs n m p g hg))

        closes-is : (t : ℕ) → closes ks fs ws hs n g t b ≡ comes g t x
        unfolding moved_at
        closes-is t = ap₂ (λ (u v : Bool). not u && v) (set_at (n + g) (omega arith)) (delivers-is t)

    -- ## All words

    module _ (rows hs : List ℕ) {W live : ℕ} (f : Framed n W live) (values : Rows ks fs ts rows n m W) (sets : SetRows N hs (n + m) W) where
      open_is : (g : ℕ) → g < m → open_by ks fs rows hs n live W g ≡ open_table N (n + g)
      unfolding open_by closed_by open_table closed
      open_is g hg =
          by-rest (2 ^ get_or ks g 0) live (closes_at ks fs rows hs n g) f (closed_by ks fs rows hs n live W g) refl
          ∙ table-ext (2 ^ get_or ks g 0) (λ t. not (any (2 ^ n) (closes_at ks fs rows hs n g t))) (λ t. not (any (2 ^ n) (comes g t)))
          (λ t ht. ap not (any-ext (2 ^ n) (closes_at ks fs rows hs n g t) (comes g t)
          (λ y hy.
          let w = y / 64 in
          let b = y % 64 in
          let hw = f.cut.word y hy in
          let q : w * 64 + b ≡ y = omega arith in
          closes-is (words_at rows w) w (values w hw) b (omega arith) (words_at hs w) (sets w hw b (omega arith)) g hg t
          ∙ ap (comes g t) q)))
          ∙ ap₂ (λ (k j : ℕ). table_of (2 ^ k) (λ t. not (any (2 ^ j) (comes g t)))) (sym (ap arity (gate-is ks fs ts ex outs n m p g hg) ∙ arity-at ks fs ts g)) inputs-is

      opened : per_gate m (open_by ks fs rows hs n live W) ≡ per_gate m (λ g. open_table N (n + g))
      opened = per-gate-ext m (open_by ks fs rows hs n live W) (λ g. open_table N (n + g)) open_is

-- rule 7 of a session's loaded network, by the rows
pub opens-are : (s : Session) (n m : ℕ) → n ≡ s.n → m ≡ s.m → state_fault s ≡ Done → {rows hs : List ℕ} {count live : ℕ} → LoadedRows s rows hs count live
    → per_gate m (open_by s.arity s.fanins rows hs n live count) ≡ open_tables (loaded_net s)
unfolding open_tables loaded_net net_of
opens-are s n m en em e {rows} {hs} {count} {live} r =
    ap₂ (λ (i k : ℕ). per_gate k (open_by s.arity s.fanins rows hs i live count)) en em
    ∙ opened s.arity s.fanins s.loaded s.excluded s.outputs s.n s.m s.p (net-ok s e) rows hs r.sets.frame r.values r.sets.rows
    ∙ ap (λ (k : ℕ). per_gate k (λ g. open_table (loaded_net s) (s.n + g))) (sym (length-gates s.arity s.fanins s.loaded s.m))
