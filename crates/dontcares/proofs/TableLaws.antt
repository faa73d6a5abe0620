-- CDC and full table of a gate by words. Assumes nothing.
use mathlib.Core.Path.{◌≡◌, refl, sym, ap, ap₂, ◌∙◌}
use mathlib.Core.Bool.{Bool, true, false, not, ◌&&◌, ◌||◌}
use mathlib.Core.List.{List}
use Prim.Native.Nat.{ℕ, zero, suc, ◌+◌, ◌-◌, ◌*◌, ◌^◌, ◌≤◌, ◌<◌}
use native.Mathlib.Decide.{ℕ_discrete}
use native.Mathlib.Numerals.{add-one}
use native.Mathlib.Omega.{arith}
use lib.Bits.{bit_or}
use lib.Dec.{eqb, ltb}
use lib.ListN.{length, get_or, set, replicate}
use lib.Seq.{get_or-take, get_or-set_same, get_or-set_other}
use Rattle.bits.specs.Bounds.{row_words, gate_places}
use Rattle.bits.specs.Range.{◌⇒◌, every, any}
use Rattle.bits.specs.Bit.{bit, table_of, column, entry_at}
use Rattle.bits.specs.Cut.{Framed}
use Rattle.bits.proofs.Ranges.{and_assoc, any-ext, every-ext, bit-table, table-lt, table-ext}
use Rattle.bits.proofs.Cuts.{live_at, every-not, table-or, table_none}
use Rattle.network.specs.Bounds.{most_gates}
use Rattle.network.specs.Net.{Gate, Net, arity, gate, entry, values, entry_of, occurs, excluded}
use Rattle.network.specs.DontCares.{odc, cdc, full}
use Rattle.network.specs.Flat.{gate_at, net_of, word_of}
use Rattle.network.specs.Valid.{NetOk}
use Rattle.network.proofs.FlatGates.{arity-at, entry-words, entry-ext}
use Rattle.network.proofs.Earlier.{gate-is}
use Rattle.entries.proofs.By.{by-rest}
use Rattle.simulate.specs.Simulated.{words_at, Rows}
use Rattle.observability.specs.Odc.{OdcAt}
use Rattle.dontcares.specs.Tabled.{Comes, Tabled}

-- ## Entries, word after word

module _ (q : ℕ → ℕ → Bool) (K : ℕ) where
  -- the entries at which the test holds of some of the first w words
  abbrev pub up_to : ℕ → ℕ
  up_to w = table_of K (λ t. any w (q t))

  pub none_yet : 0 ≡ up_to 0
  none_yet = table_none K

  pub word_more : (w acc r next : ℕ) → acc ≡ up_to w → r ≡ table_of K (λ t. q t w) → next ≡ bit_or acc r → next ≡ up_to (w + 1)
  word_more w acc r next ea er en =
      en ∙ ap₂ bit_or ea er ∙ table-or K (λ t. any w (q t)) (λ t. q t w) ∙ ap up_to (sym (add-one w))

-- a table of K entries fits in as many bits
pub below : (K c x : ℕ) (p : ℕ → Bool) → c ≡ K → x ≡ table_of K p → x < 2 ^ c
below K c x p ec e = rw (ec, e) (table-lt K p)

-- the test that some place of keep in word w delivers entry t of gate g
abbrev pub delivers : (ks fs ts rows keep : List ℕ) (g t w : ℕ) → Bool
delivers ks fs ts rows keep g t w = any 64 (λ b. bit (get_or keep w 0) b && eqb (entry (column (words_at rows w) b) (gate_at ks fs ts g)) t)

pub word-delivers : (ks fs ts rows keep ins : List ℕ) (g k w : ℕ) → k ≡ get_or ks g 0
    → ((r : ℕ) → r < get_or ks g 0 → get_or ins r 0 ≡ get_or (words_at rows w) (get_or fs (gate_places * g + r) 0) 0)
    → table_of (2 ^ k) (λ t. any 64 (λ b. bit (get_or keep w 0) b && eqb (entry_at k ins b) t)) ≡ table_of (2 ^ get_or ks g 0) (λ t. delivers ks fs ts rows keep g t w)
word-delivers ks fs ts rows keep ins g k w e has =
    ap (λ (i : ℕ). table_of (2 ^ i) (λ t. any 64 (λ b. bit (get_or keep w 0) b && eqb (entry_at i ins b) t))) e
    ∙ table-ext (2 ^ get_or ks g 0) (λ t. any 64 (λ b. bit (get_or keep w 0) b && eqb (entry_at (get_or ks g 0) ins b) t)) (λ t. delivers ks fs ts rows keep g t w)
    (λ t ht. any-ext 64 (λ b. bit (get_or keep w 0) b && eqb (entry_at (get_or ks g 0) ins b) t) (λ b. bit (get_or keep w 0) b && eqb (entry (column (words_at rows w) b) (gate_at ks fs ts g)) t)
    (λ b hb. ap (λ (i : ℕ). bit (get_or keep w 0) b && eqb i t) (entry-words ks fs ts ins (words_at rows w) g (get_or ks g 0) b refl has)))

-- ## The gate of a flat network

module _ (ks fs ts ex outs : List ℕ) (n m p g : ℕ) (hg : g < m) where
  abbrev N : Net
  N = net_of ks fs ts n m ex outs p

  pub entries-is : 2 ^ arity (gate N (n + g)) ≡ 2 ^ get_or ks g 0
  entries-is = ap (λ (G : Gate). 2 ^ arity G) (gate-is ks fs ts ex outs n m p g hg) ∙ ap (λ (k : ℕ). 2 ^ k) (arity-at ks fs ts g)

  module _ (rows : List ℕ) (count live : ℕ) (ok : NetOk ks fs n m) (sim : Rows ks fs ts rows n m count) (framed : Framed n count live) where
    entry-now : (w b : ℕ) → w < count → b < 64 → entry (column (words_at rows w) b) (gate_at ks fs ts g) ≡ entry_of N (n + g) (w * 64 + b)
    unfolding values net_of
    entry-now w b hw hb =
        entry-ext ks fs ts (column (words_at rows w) b) (values N (w * 64 + b)) g
        (λ r l. sym (get_or-take (n + m) (column (words_at rows w) b) (get_or fs (gate_places * g + r) 0) false (omega (arith, (ok.gate g hg).early r l)))
        ∙ ap (λ (q : List Bool). get_or q (get_or fs (gate_places * g + r) 0) false) ((sim w hw).each b hb))
        ∙ ap (entry (values N (w * 64 + b))) (sym (gate-is ks fs ts ex outs n m p g hg))

    -- those that no pattern delivers at which the test holds
    left_out : (keep : List ℕ) (test : ℕ → Bool) (x : ℕ)
        → ((w b : ℕ) → w < count → b < 64 → bit (get_or keep w 0) b ≡ (bit live b && test (w * 64 + b)))
        → x ≡ table_of (2 ^ get_or ks g 0) (λ t. any count (delivers ks fs ts rows keep g t))
        → 2 ^ 2 ^ get_or ks g 0 - 1 - x ≡ table_of (2 ^ get_or ks g 0) (λ t. not (any (2 ^ n) (λ y. test y && eqb (entry_of N (n + g) y) t)))
    left_out keep test x h e =
        by-rest (2 ^ get_or ks g 0) live (λ t y. test y && eqb (entry_of N (n + g) y) t) framed x
        (e ∙ table-ext (2 ^ get_or ks g 0) (λ t. any count (delivers ks fs ts rows keep g t)) (λ t. any count (λ w. any 64 (λ b. here t w b)))
        (λ t ht. any-ext count (delivers ks fs ts rows keep g t) (λ w. any 64 (λ b. here t w b))
        (λ w hw. any-ext 64 (λ b. bit (get_or keep w 0) b && eqb (entry (column (words_at rows w) b) (gate_at ks fs ts g)) t) (λ b. here t w b)
        (λ b hb. ap₂ (λ (c : Bool) (i : ℕ). c && eqb i t) (h w b hw hb) (entry-now w b hw hb) ∙ and_assoc (bit live b) (test (w * 64 + b)) (eqb (entry_of N (n + g) (w * 64 + b)) t)))))
      where
        here : ℕ → ℕ → ℕ → Bool
        here t w b = bit live b && (test (w * 64 + b) && eqb (entry_of N (n + g) (w * 64 + b)) t)

    come-at : (come : List ℕ) → Comes ex come count live → (w b : ℕ) → w < count → b < 64 → bit (get_or come w 0) b ≡ (bit live b && not (excluded N (w * 64 + b)))
    unfolding excluded net_of
    come-at come c w b hw hb =
        c w b hw hb ∙ ap₂ (λ (i j : ℕ). bit live b && not (bit (get_or ex i 0) j)) (omega arith) (omega arith)

    pub cdc-is : (come : List ℕ) (x : ℕ) → Comes ex come count live → x ≡ table_of (2 ^ get_or ks g 0) (λ t. any count (delivers ks fs ts rows come g t))
        → 2 ^ 2 ^ get_or ks g 0 - 1 - x ≡ cdc N (n + g)
    unfolding cdc occurs net_of
    cdc-is come x c e =
        left_out come (λ y. not (excluded N y)) x (come-at come c) e
        ∙ ap (λ (k : ℕ). table_of k (λ t. not (any (2 ^ n) (λ y. not (excluded N y) && eqb (entry_of N (n + g) y) t)))) (sym entries-is)

    -- a bit of a word of a set
    set-bit : (p : ℕ → Bool) (w x b : ℕ) → w < count → b < 64 → x ≡ word_of n p w → bit x b ≡ (bit live b && p (w * 64 + b))
    unfolding word_of
    set-bit p w x b hw hb e =
        ap (λ (y : ℕ). bit y b) e ∙ bit-table 64 (λ b. ltb (w * 64 + b) (2 ^ n) && p (w * 64 + b)) b hb
        ∙ ap (λ (c : Bool). c && p (w * 64 + b)) (sym (live_at framed w b hw hb))

    imp-not : (a c : Bool) → not (not c && a) ≡ (a ⇒ c)
    imp-not true true = refl
    imp-not true false = refl
    imp-not false true = refl
    imp-not false false = refl

    pub full_is : (come keep l : List ℕ) (x : ℕ) → Comes ex come count live → OdcAt N l n g count
        → ((w b : ℕ) → w < count → b < 64 → bit (get_or keep w 0) b ≡ (bit (get_or come w 0) b && not (bit (get_or l (row_words * g + w) 0) b)))
        → x ≡ table_of (2 ^ get_or ks g 0) (λ t. any count (delivers ks fs ts rows keep g t))
        → 2 ^ 2 ^ get_or ks g 0 - 1 - x ≡ full N (n + g)
    unfolding full net_of OdcAt
    full_is come keep l x c at h e =
        left_out keep free x (λ w b hw hb. h w b hw hb ∙ ap₂ (λ (i q : Bool). i && not q) (come-at come c w b hw hb) (set-bit (odc N (n + g)) w (get_or l (row_words * g + w) 0) b hw hb (at w hw))
        ∙ inside (bit live b) (excluded N (w * 64 + b)) (odc N (n + g) (w * 64 + b))) e
        ∙ table-ext (2 ^ get_or ks g 0) (λ t. not (any (2 ^ n) (λ y. free y && eqb (entry_of N (n + g) y) t))) rule
        (λ t ht. sym (every-not (2 ^ n) (λ y. free y && eqb (entry_of N (n + g) y) t))
        ∙ every-ext (2 ^ n) (λ y. not (free y && eqb (entry_of N (n + g) y) t)) (λ y. eqb (entry_of N (n + g) y) t ⇒ (excluded N y || odc N (n + g) y))
        (λ y hy. imp-not (eqb (entry_of N (n + g) y) t) (excluded N y || odc N (n + g) y)))
        ∙ ap (λ (k : ℕ). table_of k rule) (sym entries-is)
      where
        free : ℕ → Bool
        free y = not (excluded N y || odc N (n + g) y)

        rule : ℕ → Bool
        rule t = every (2 ^ n) (λ y. eqb (entry_of N (n + g) y) t ⇒ (excluded N y || odc N (n + g) y))

        inside : (l e q : Bool) → ((l && not e) && not (l && q)) ≡ (l && not (e || q))
        inside true true q = refl
        inside true false q = refl
        inside false e q = refl

-- ## The tables of the gates from a on

pub no-tables : (N : Net) (n a : ℕ) → Tabled N (replicate {A = ℕ} most_gates 0) (replicate {A = ℕ} most_gates 0) n a a
no-tables N n a = record { at = λ g l h. absurd (omega arith); past = λ g h. (zeros most_gates g, zeros most_gates g) }
  where
    zeros : (k g : ℕ) → get_or (replicate {A = ℕ} k 0) g 0 ≡ 0
    zeros zero g = refl
    zeros (suc k) zero = refl
    zeros (suc k) (suc g) = zeros k g

pub tables_more : (N : Net) (cdcs fulls : List ℕ) (n a g x y : ℕ) → length cdcs ≡ most_gates → length fulls ≡ most_gates → g < most_gates → Tabled N cdcs fulls n a g
    → x ≡ cdc N (n + g) → y ≡ full N (n + g) → Tabled N (set cdcs g x) (set fulls g y) n a (g + 1)
tables_more N cdcs fulls n a g x y lc lf h t ex ey = record {
  at = λ q l u. here q l u (ℕ_discrete q g);
  past = λ q l. (
    get_or-set_other cdcs g q x 0 (λ e. absurd (omega arith)) ∙ (t.past q (omega arith)).0,
    get_or-set_other fulls g q y 0 (λ e. absurd (omega arith)) ∙ (t.past q (omega arith)).1,
  );
}
  where
    here : (q : ℕ) → a ≤ q → q < g + 1 → Dec (q ≡ g) → (get_or (set cdcs g x) q 0 ≡ cdc N (n + q)) × (get_or (set fulls g y) q 0 ≡ full N (n + q))
    here q l u (yes e) = rw e (get_or-set_same cdcs g x 0 (omega arith) ∙ ex, get_or-set_same fulls g y 0 (omega arith) ∙ ey)
    here q l u (no d) =
        let old = t.at q l (omega arith) in
        (get_or-set_other cdcs g q x 0 (λ e. d (omega arith)) ∙ old.0, get_or-set_other fulls g q y 0 (λ e. d (omega arith)) ∙ old.1)
