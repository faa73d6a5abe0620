-- The SDC: a table, then its complement. Assumes nothing.
use mathlib.Core.Path.{◌≡◌, refl, sym, ap, ap₂, ◌∙◌, subst}
use mathlib.Core.Bool.{Bool, true, not}
use mathlib.Core.List.{List}
use Prim.Native.Nat.{ℕ, ◌+◌, ◌-◌, ◌*◌, ◌/◌, ◌%◌, ◌^◌, ◌<◌, ◌≤◌}
use native.Mathlib.Nat.{mod-eq_of_lt, div-eq_of_lt, zero-add, add-mul-mod_self_left, add-mul-div_left, add-mod_left, mul_comm, lt_of_lt_of_le}
use native.Mathlib.Numerals.{add-one}
use native.Mathlib.Omega.{arith}
use lib.ListN.{get_or}
use lib.Pow.{pow_mono, pow_pos, shl_exact}
use Rattle.bits.specs.Bit.{bit, differs, table_of}
use Rattle.bits.proofs.BitLaws.{bit-above, bit-ext, bit_high}
use Rattle.bits.proofs.Ranges.{bit-table, table-lt, table-ext}
use Rattle.bits.proofs.Cuts.{table-not}
use Rattle.network.specs.Net.{Gate, arity}
use Rattle.network.specs.DontCares.{sdc}
use Rattle.network.specs.Flat.{net_of}
use Rattle.network.specs.Calls.{sdc_words}
use Rattle.network.proofs.FlatGates.{arity-at, table_at}
use Rattle.network.proofs.Earlier.{gate-is}
use Rattle.entries.proofs.Halves.{table-append, doubled}
use Rattle.dontcares.specs.Tabled.{sdc_table}

module _ (k table : ℕ) (fits : table < 2 ^ 2 ^ k) where
  -- entry t + 2^k·o is set when o differs from the table's entry t
  abbrev rule : ℕ → Bool
  rule e = differs (bit e k) (bit table (e % 2 ^ k))

  low : (t : ℕ) → t < 2 ^ k → rule t ≡ bit table t
  low t h = ap₂ (λ (c : Bool) (i : ℕ). differs c (bit table i)) (bit-above t k k h (omega arith)) (mod-eq_of_lt h)

  one : bit 1 0 ≡ true
  unfolding bit
  one = refl

  high : (t : ℕ) → t < 2 ^ k → rule (2 ^ k + t) ≡ not (bit table t)
  high t h =
      let e : 2 ^ k + t ≡ 1 * 2 ^ k + t = omega arith in
      let i : k ≡ k + 0 = omega arith in
      ap₂ (λ (c : Bool) (i : ℕ). differs c (bit table i)) (ap₂ bit e i ∙ bit_high 1 k t 0 h ∙ one) (add-mod_left (2 ^ k) t ∙ mod-eq_of_lt h)

  whole : table_of (2 ^ k) (bit table) ≡ table
  whole = bit-ext (2 ^ k) (table_of (2 ^ k) (bit table)) table (table-lt (2 ^ k) (bit table)) fits (bit-table (2 ^ k) (bit table))

  pub sdc-table : table + 2 ^ 2 ^ k * (2 ^ 2 ^ k - 1 - table) ≡ sdc_table k table
  unfolding sdc_table
  sdc-table =
      ap₂ (λ (x y : ℕ). x + 2 ^ 2 ^ k * y)
      (sym (table-ext (2 ^ k) rule (bit table) low ∙ whole))
      (ap (λ (x : ℕ). 2 ^ 2 ^ k - 1 - x) (sym whole) ∙ table-not (2 ^ k) (bit table) ∙ sym (table-ext (2 ^ k) (λ t. rule (2 ^ k + t)) (λ t. not (bit table t)) high))
      ∙ table-append (2 ^ k) (2 ^ k) rule
      ∙ ap (λ (i : ℕ). table_of i rule) (doubled k ∙ ap (λ (i : ℕ). 2 ^ i) (sym (add-one k)))

  -- up to five fan-ins: the complement, shifted past the table in 64 bits
  module _ (few : k ≤ 5) where
    sdc-sum : (c other : ℕ) → c ≡ 2 ^ k → other ≡ 2 ^ c - 1 - table → table + (other * 2 ^ c) % 2 ^ 64 ≡ sdc_table k table
    sdc-sum c other ec eo =
        let small : c ≤ 32 = omega (arith, pow_mono {i = k} {j = 5} few) in
        let below : other < 2 ^ c = omega (arith, pow_pos c) in
        ap (λ (x : ℕ). table + x)
        (shl_exact c c 64 below (omega arith) ∙ mul_comm other (2 ^ c) ∙ ap (λ (x : ℕ). 2 ^ c * x) eo ∙ ap (λ (i : ℕ). 2 ^ i * (2 ^ i - 1 - table)) ec)
        ∙ sdc-table

    sdc-fits : sdc_table k table < 2 ^ 64
    unfolding sdc_table
    sdc-fits =
        let wide : 2 ^ (k + 1) ≤ 64 = pow_mono {j = 6} (omega arith) in
        lt_of_lt_of_le (table-lt (2 ^ (k + 1)) rule) (pow_mono wide)

    pub sum_fits : (c other : ℕ) → c ≡ 2 ^ k → other ≡ 2 ^ c - 1 - table → table + (other * 2 ^ c) % 2 ^ 64 < 2 ^ 64
    sum_fits c other ec eo = subst (λ (x : ℕ). x < 2 ^ 64) (sym (sdc-sum c other ec eo)) sdc-fits

    pub sdc-one : (c other : ℕ) → c ≡ 2 ^ k → other ≡ 2 ^ c - 1 - table → record { low = table + (other * 2 ^ c) % 2 ^ 64; high = 0 } ≡ sdc_words (sdc_table k table)
    sdc-one c other ec eo =
        ap₂ (λ (l h : ℕ). record { low = l; high = h }) (sdc-sum c other ec eo ∙ sym (mod-eq_of_lt sdc-fits)) (sym (div-eq_of_lt sdc-fits))

  -- six fan-ins: a word each
  pub sdc-two : (c other : ℕ) → c ≡ 2 ^ k → c ≡ 64 → other ≡ 2 ^ c - 1 - table → record { low = table; high = other } ≡ sdc_words (sdc_table k table)
  sdc-two c other ec e eo =
      let w : sdc_table k table ≡ table + 2 ^ 64 * other = sym sdc-table ∙ ap₂ (λ (i x : ℕ). table + 2 ^ i * x) (sym ec ∙ e) (ap (λ (i : ℕ). 2 ^ i - 1 - table) (sym ec) ∙ sym eo) in
      let t : table < 2 ^ 64 = subst (λ (i : ℕ). table < 2 ^ i) (sym ec ∙ e) fits in
      ap₂ (λ (l h : ℕ). record { low = l; high = h })
      (sym (ap (λ (x : ℕ). x % 2 ^ 64) w ∙ add-mul-mod_self_left table (2 ^ 64) other ∙ mod-eq_of_lt t))
      (sym (ap (λ (x : ℕ). x / 2 ^ 64) w ∙ add-mul-div_left table other (omega arith) ∙ ap (λ (x : ℕ). x + other) (div-eq_of_lt t) ∙ zero-add other))

-- the rule of a gate of a flat network
pub sdc-is : (ks fs ts ex outs : List ℕ) (n m p g k x : ℕ) → g < m → k ≡ get_or ks g 0
    → x ≡ sdc_table k (get_or ts g 0) → x ≡ sdc (net_of ks fs ts n m ex outs p) (n + g)
unfolding sdc sdc_table
sdc-is ks fs ts ex outs n m p g k x hg ek e =
    e
    ∙ ap₂ (λ (i t : ℕ). table_of (2 ^ (i + 1)) (λ e. differs (bit e i) (bit t (e % 2 ^ i)))) (ek ∙ sym (arity-at ks fs ts g)) (sym (table_at ks fs ts g))
    ∙ ap (λ (G : Gate). table_of (2 ^ (arity G + 1)) (λ e. differs (bit e (arity G)) (bit G.table (e % 2 ^ arity G)))) (sym (gate-is ks fs ts ex outs n m p g hg))
    ∙ rw add-one
