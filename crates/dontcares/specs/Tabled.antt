-- Arrays that hold the CDC and the full table of each gate, and the SDC by its table. Assumes nothing.
use Rattle.std.specs.Prelude.{◌≡◌, ◌&&◌, not, List, ℕ, ◌+◌, ◌%◌, ◌^◌, ◌≤◌, ◌<◌, get_or}
use Rattle.bits.specs.Bit.{bit, differs, table_of}
use Rattle.bits.specs.Cut.{Framed}
use Rattle.network.specs.Net.{Net}
use Rattle.network.specs.DontCares.{cdc, full}
use Rattle.network.specs.Flat.{net_of}
use Rattle.network.specs.Valid.{NetOk}
use Rattle.simulate.specs.Simulated.{Rows}
use Rattle.observability.specs.Odc.{OdcAt}

-- the tables of the gates from a to e, zero past them
pub record Tabled (N : Net) (cdcs fulls : List ℕ) (n a e : ℕ) : Type 0 where
  pub at : (g : ℕ) → a ≤ g → g < e → (get_or cdcs g 0 ≡ cdc N (n + g)) × (get_or fulls g 0 ≡ full N (n + g))
  pub past : (g : ℕ) → e ≤ g → (get_or cdcs g 0 ≡ 0) × (get_or fulls g 0 ≡ 0)

-- come has, of count words, the live places that the excluded words do not have
abbrev pub Comes : (excluded come : List ℕ) (count live : ℕ) → Type 0
Comes excluded come count live = (w b : ℕ) → w < count → b < 64 → bit (get_or come w 0) b ≡ (bit live b && not (bit (get_or excluded w 0) b))

-- Of every network that has these rows of values and these words of the ODC:

-- c and f are the tables of gate g, where these are the patterns that come
abbrev pub GateTabled : (ks fs rows come odcs : List ℕ) (count g c f : ℕ) → Type 0
GateTabled ks fs rows come odcs count g c f =
    (ts excluded outs : List ℕ) (n m p live : ℕ) → g < m → NetOk ks fs n m → Rows ks fs ts rows n m count → Framed n count live → Comes excluded come count live
    → OdcAt (net_of ks fs ts n m excluded outs p) odcs n g count
    → (c ≡ cdc (net_of ks fs ts n m excluded outs p) (n + g)) × (f ≡ full (net_of ks fs ts n m excluded outs p) (n + g))

-- the arrays hold the tables of the gates from a to k, where the words are there of those from a to e
abbrev pub GatesTabled : (ks fs excluded rows odcs : List ℕ) (count live a e : ℕ) (cdcs fulls : List ℕ) (k : ℕ) → Type 0
GatesTabled ks fs excluded rows odcs count live a e cdcs fulls k =
    (ts outs : List ℕ) (n m p : ℕ) → e ≤ m → NetOk ks fs n m → Rows ks fs ts rows n m count → Framed n count live
    → ((g : ℕ) → a ≤ g → g < e → OdcAt (net_of ks fs ts n m excluded outs p) odcs n g count)
    → Tabled (net_of ks fs ts n m excluded outs p) cdcs fulls n a k

-- rule 1 of a table of k fan-ins
unfoldable pub sdc_table : (k table : ℕ) → ℕ
sdc_table k table = table_of (2 ^ (k + 1)) (λ e. differs (bit e k) (bit table (e % 2 ^ k)))
