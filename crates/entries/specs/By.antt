-- Tables of the entries that words of patterns deliver. Assumes nothing.
use Rattle.std.specs.Prelude.{Bool, ◌&&◌, List, ℕ, ◌+◌, ◌*◌, ◌/◌, ◌%◌, ◌^◌, get_or}
use Rattle.std.specs.Int.Bits.{bit_and}
use Rattle.bits.specs.Range.{any}
use Rattle.bits.specs.Bit.{bit, table_of, gives}

-- the entries t below K at which the test q t holds of some live pattern of the first w words
abbrev pub table_by : (K live w : ℕ) (q : ℕ → ℕ → Bool) → ℕ
table_by K live w q = table_of K (λ t. any w (λ v. any 64 (λ b. bit live b && q t (v * 64 + b))))

-- the entries of k fan-ins whose minterm word has a place of keep
unfoldable pub delivered_by : (k : ℕ) (ins frees : List ℕ) (keep : ℕ) → ℕ
delivered_by k ins frees keep = table_of (2 ^ k) (λ t. any 64 (λ b. bit keep b && gives k ins frees t b))

-- entry t's words share a place: the low word is of its first three fan-ins, the high one of the others
unfoldable pub shares : (low high : List ℕ) (t : ℕ) → Bool
shares low high t = any 64 (bit (bit_and (get_or low (t % 8) 0) (get_or high (t / 8) 0)))
