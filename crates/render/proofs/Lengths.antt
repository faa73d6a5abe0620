-- The most bytes that a listing takes. Assumes nothing.
use mathlib.Core.Path.{◌≡◌, refl, ap}
use mathlib.Core.List.{List, ◌++◌}
use Prim.Native.Nat.{ℕ, zero, suc, ◌+◌, ◌*◌, ◌≤◌}
use native.Mathlib.Omega.{arith}
use lib.ListN.{length, length-append}
use Rattle.buffer.specs.Laid.{Laid}
use Rattle.text.specs.Fields.{number}
use Rattle.text.proofs.Digits.{length-number}
use Rattle.std.specs.Prelude.{Result, Ok, Err}
use Rattle.network.specs.declared.Refusal.{Refusal}
use Rattle.network.specs.declared.Session.{Session}
use Rattle.network.specs.Bounds.{most_gates}
use Rattle.network.specs.Net.{Net}
use Rattle.network.specs.DontCares.{cdc, full}
use Rattle.network.specs.Compatible.{compatible_count, open_table}
use Rattle.network.specs.Flat.{loaded_net}
use Rattle.network.specs.Refusals.{number_of}
use Rattle.network.specs.Load.{load_of}
use Rattle.network.specs.Calls.{Filled}
use Rattle.network.proofs.Valid.{net-ok}
use Rattle.network.proofs.Exchanges.{loaded-length}
use Rattle.tabletext.specs.Digits.{digits}
use Rattle.tabletext.proofs.DigitLaws.{digits-few}
use Rattle.render.specs.Listing.{header, totals, refused_line, gate_row, rows, set_entries, listing_of_net, listing_of, ListingLength, ListingRoom, most_row_bytes, most_listing_bytes}
use Rattle.render.proofs.Pieces.{length-row, length-totals}
use Rattle.render.proofs.Shown.{fresh, listing-loaded, listing-refused, into-done}

length-refused : (r : ℕ) → length (refused_line r) ≤ most_listing_bytes
unfolding refused_line number
length-refused r = let n = length-number r 0x0A in omega arith

module _ (N : Net) where
  length-gate-rows : (g : ℕ) → length (rows N g) ≤ most_row_bytes * g
  length-gate-rows zero = omega arith
  length-gate-rows (suc g) =
      let s = N.inputs + g in
      let n = length-append (rows N g) (gate_row N s) in
      let k = length-gate-rows g in
      let r = length-row (digits N) s (cdc N s) (full N s) (open_table N s) (compatible_count N s) (digits-few N) in
      omega arith

  length-net : length N.gates ≤ most_gates → length (listing_of_net N) ≤ most_listing_bytes
  unfolding listing_of_net header
  length-net few =
      let m = length N.gates in
      let f = set_entries (λ g. full N (N.inputs + g)) m in
      let o = set_entries (λ g. open_table N (N.inputs + g)) m in
      let n = length-append (header ++ rows N m) (totals f o) in
      let k = length-append header (rows N m) in
      let p = length-gate-rows m in
      let q = length-totals f o in
      omega arith

length-for : (bytes : List ℕ) (l : Result Session Refusal) → l ≡ load_of bytes → length (listing_of bytes) ≤ most_listing_bytes
length-for bytes (Ok s) e =
    let v = net-ok s (fresh bytes e).valid in
    let few = v.most in
    let m = loaded-length s in
    rw (listing-loaded bytes e) (length-net (loaded_net s) (omega arith))
length-for bytes (Err r) e = rw (listing-refused bytes e) (length-refused (number_of r))

pub listing-length : ListingLength
listing-length bytes = length-for bytes (load_of bytes) refl

pub listing-room : ListingRoom
listing-room bytes buffer h =
    let n = listing-length bytes in
    ap (λ (f : Filled). f.answer) (into-done bytes buffer (omega arith))

-- a listing laid at the start of such a buffer ends in it
pub listing-ends : (bytes : List ℕ) {b b₁ : List ℕ} {r : ℕ} → Laid b 0 (listing_of bytes) b₁ r → most_listing_bytes ≤ length b₁ → r ≤ length b₁
listing-ends bytes l h = let n = l.behind in let most = listing-length bytes in omega arith
