-- A session that a text gives is, word for word, the one that a load of its file gives; so what holds of every load holds of it.
-- Assumes nothing.
use mathlib.Core.Path.{◌≡◌, refl, sym, ap, ◌∙◌}
use mathlib.Core.List.{List}
use Prim.Native.Nat.{ℕ, zero, suc, ◌+◌, ◌*◌, ◌/◌, ◌%◌, ◌≤◌, ◌<◌}
use native.Mathlib.Omega.{arith}
use native.Mathlib.Decide.{dec_lt}
use lib.Dec.{leb}
use lib.ListN.{length, get_or, drop, replicate}
use lib.Seq.{length-take-le, ext_get_or}
use Rattle.bits.specs.Bounds.{gate_places}
use Rattle.bits.specs.Range.{places}
use Rattle.bits.proofs.Ranges.{by_cases, length-places, places-at}
use Rattle.std.specs.Prelude.{Ok}
use Rattle.network.specs.declared.Session.{Session}
use Rattle.network.specs.declared.Refusal.TheVariants.{TrailingBytes}
use Rattle.network.specs.Bounds.{most_gates, most_fanins, excluded_words}
use Rattle.network.specs.Net.{Gate, Net, arity, no_gate}
use Rattle.network.specs.Compatible.{open_tables}
use Rattle.network.specs.Flat.{gate_at, gates_of, net_of, loaded_net, current_net}
use Rattle.network.specs.Tests.{refuse_if}
use Rattle.network.specs.Load as load
use Rattle.network.specs.Load.{started, with_output, output_record, read_outputs, fanins_in, table_in, after_fanins, with_gate, form_of, gate_record, read_gates, set_bytes, excluded_in, with_excluded, is_excluded, excluded_record, read_body, header_tests, header_record, read_of, opened, load_of}
use Rattle.network.specs.Write.{bytes_of}
use Rattle.network.specs.Valid.{Sized}
use Rattle.network.proofs.Fresh.{Fresh}
use Rattle.network.proofs.TestLaws.{clear-e, short-e, count-e, went, given-same}
use Rattle.network.proofs.FlatGates.{arity-at, table_at, fanin-at, length-gates}
use Rattle.network.proofs.Earlier.{gates-at}
use Rattle.network.proofs.Slots.{sized-started, sized-gate}
use Rattle.network.proofs.Reached.{form-fine, load_read, loaded-fresh, loaded-sized}
use Rattle.network.proofs.Valid.{state-i}
use Rattle.network.proofs.Demand3.{demand3-of, rule4-of}
use Rattle.network.proofs.Inside.{inside_of}
use Rattle.network.proofs.Together.{together-of}
use Rattle.roundtrip.proofs.RoundTrip.{round_trip}
use Rattle.roundtrip.proofs.WrittenBytes.{written-bytes}
use Rattle.text.specs.Words.{Text}
use Rattle.blif.specs.Read.{read_blif_of}
use Rattle.bliftrip.specs.Trip.{BlifWords, BlifFile, BlifFresh}
use Rattle.bliftrip.proofs.Tidy.{Tidy, tidy-gate, tidy-output, tidy-started}
use Rattle.bliftrip.proofs.Gives.{text-read, given, text-fresh, text-shaped, text-free}

-- ## A load leaves the places that it does not fill

module _ (u : Session) where
  outputs-tidy : (c j : ℕ) (t : Session) (rest : List ℕ) → j + c ≡ t.p → Tidy t t.m j → read_outputs c j t rest ≡ Ok u → Tidy u u.m u.p
  unfolding read_outputs
  outputs-tidy zero j t rest e tidy h =
      let w = went (refuse_if (leb 1 (length rest)) TrailingBytes) (Ok t) u h in
      let same : t ≡ u = given-same w.1 in
      let q : j ≡ t.p = omega arith in
      rw (← same) (rw q at tidy)
  outputs-tidy (suc c) j t rest e tidy h =
      let x = get_or rest 2 0 in
      let w = went (output_record (t.n + t.m) rest) (read_outputs c (j + 1) (with_output t j x) (drop 3 rest)) u h in
      outputs-tidy c (j + 1) (with_output t j x) (drop 3 rest) (omega arith) (tidy-output t t.m j x tidy) w.1

  gates-tidy : (c g : ℕ) (t : Session) (rest : List ℕ) → g + c ≡ t.m → t.m ≤ most_gates → Sized t → Tidy t g 0
      → read_gates c g t rest ≡ Ok u → Tidy u u.m u.p
  unfolding read_gates gate_record
  gates-tidy zero g t rest e most sized tidy h = let q : g ≡ t.m = omega arith in outputs-tidy t.p 0 t rest (omega arith) (rw q at tidy) h
  gates-tidy (suc c) g t rest e most sized tidy h =
      let k = get_or rest 2 0 in
      let f = form_of rest in
      let fs = fanins_in rest in
      let t' = with_gate t g k fs (table_in rest) in
      let w = went (gate_record (t.n + g) rest) (read_gates c (g + 1) t' (drop f.bytes (after_fanins rest))) u h in
      let q = clear-e (load.gate_tests f (t.n + g) rest) w.0 in
      let kb = count-e most_fanins k (form-fine rest k q.1.1.0) in
      let l = short-e (k + f.bytes) (drop 3 rest) q.1.1.1.0 in
      let len = length-take-le k (drop 3 rest) (omega arith) in
      gates-tidy c (g + 1) t' (drop f.bytes (after_fanins rest)) (omega arith) most (sized-gate t g k fs (table_in rest) sized)
      (tidy-gate t g k fs (table_in rest) sized (omega arith) len (omega arith) tidy) w.1

  words-tidy : (n m p : ℕ) (ws rest : List ℕ) → m ≤ most_gates → length ws ≡ excluded_words
      → read_gates m 0 (with_excluded (started n m p) ws) rest ≡ Ok u → Tidy u u.m u.p
  words-tidy n m p ws rest most len h =
      let z = tidy-started n m p in
      gates-tidy m 0 (with_excluded (started n m p) ws) rest (omega arith) most (sized-started n m p ws len)
      (record { arities = z.arities; slots = z.slots; tables = z.tables; outs = z.outs }) h

read-tidy : (bytes : List ℕ) (u : Session) → read_of bytes ≡ Ok u → Tidy u u.m u.p
unfolding read_of header_record read_body
read-tidy bytes u h =
    let n = get_or bytes 2 0 in
    let m = get_or bytes 3 0 in
    let p = get_or bytes 4 0 in
    let rest = drop 5 bytes in
    let w = went (header_record bytes) (read_body (started n m p) rest) u h in
    let most = (count-e most_gates m (clear-e (header_tests bytes) w.0).1.1.1.0).1 in
    by_cases (is_excluded rest)
    (λ e.
    let x = went (excluded_record n rest) (read_gates m 0 (with_excluded (started n m p) (excluded_in n rest)) (drop (set_bytes n) (drop 2 rest))) u (rw e at w.1) in
    words-tidy u n m p (excluded_in n rest) (drop (set_bytes n) (drop 2 rest)) most refl x.1)
    (λ e. words-tidy u n m p (replicate excluded_words 0) rest most refl (rw e at w.1))

-- ## A fresh session, of due lengths and tidy, is fixed by its network

abbrev Neat : Session → Type 0
Neat s = Sized s × Tidy s s.m s.p

abbrev made : ℕ → ℕ → ℕ → List ℕ → List ℕ → List ℕ → List ℕ → List ℕ → List ℕ → List ℕ → Session
made n m p ex ks fs lt ct ot os = record {
  n = n;
  m = m;
  p = p;
  excluded = ex;
  arity = ks;
  fanins = fs;
  loaded = lt;
  current = ct;
  open_tables = ot;
  outputs = os;
}

module _ (s t : Session) (fs : Fresh s) (ft : Fresh t) (ns : Neat s) (nt : Neat t) (e : loaded_net s ≡ loaded_net t) where
  n-same : s.n ≡ t.n
  unfolding loaded_net net_of
  n-same = ap (λ (N : Net). N.inputs) e

  excluded-same : s.excluded ≡ t.excluded
  unfolding loaded_net net_of
  excluded-same = ap (λ (N : Net). N.excluded) e

  gates-same : gates_of s.arity s.fanins s.loaded s.m ≡ gates_of t.arity t.fanins t.loaded t.m
  unfolding loaded_net net_of
  gates-same = ap (λ (N : Net). N.gates) e

  m-same : s.m ≡ t.m
  m-same = sym (length-gates s.arity s.fanins s.loaded s.m) ∙ ap length gates-same ∙ length-gates t.arity t.fanins t.loaded t.m

  gate_same : (i : ℕ) → i < s.m → gate_at s.arity s.fanins s.loaded i ≡ gate_at t.arity t.fanins t.loaded i
  gate_same i h =
      let q = m-same in
      sym (gates-at s.arity s.fanins s.loaded s.m i h)
      ∙ ap (λ (l : List Gate). get_or l i no_gate) gates-same
      ∙ gates-at t.arity t.fanins t.loaded t.m i (omega arith)

  arity-same : (i : ℕ) → get_or s.arity i 0 ≡ get_or t.arity i 0
  arity-same i = by (dec_lt i s.m)
    where
      by : Dec (i < s.m) → get_or s.arity i 0 ≡ get_or t.arity i 0
      by (yes h) = sym (arity-at s.arity s.fanins s.loaded i) ∙ ap arity (gate_same i h) ∙ arity-at t.arity t.fanins t.loaded i
      by (no h) = let q = m-same in ns.1.arities i (omega arith) ∙ sym (nt.1.arities i (omega arith))

  table_same : (i : ℕ) → get_or s.loaded i 0 ≡ get_or t.loaded i 0
  table_same i = by (dec_lt i s.m)
    where
      by : Dec (i < s.m) → get_or s.loaded i 0 ≡ get_or t.loaded i 0
      by (yes h) = sym (table_at s.arity s.fanins s.loaded i) ∙ ap (λ (g : Gate). g.table) (gate_same i h) ∙ table_at t.arity t.fanins t.loaded i
      by (no h) = let q = m-same in ns.1.tables i (omega arith) ∙ sym (nt.1.tables i (omega arith))

  slot_same : (i r : ℕ) → r < gate_places → get_or s.fanins (gate_places * i + r) 0 ≡ get_or t.fanins (gate_places * i + r) 0
  slot_same i r h = by (dec_lt r (get_or s.arity i 0)) (dec_lt i s.m)
    where
      by : Dec (r < get_or s.arity i 0) → Dec (i < s.m) → get_or s.fanins (gate_places * i + r) 0 ≡ get_or t.fanins (gate_places * i + r) 0
      by (yes l) (yes k) =
          let a = arity-same i in
          sym (fanin-at s.arity s.fanins s.loaded i r l)
          ∙ ap (λ (g : Gate). get_or g.fanins r 0) (gate_same i k)
          ∙ fanin-at t.arity t.fanins t.loaded i r (omega arith)
      by (yes l) (no k) = let a = ns.1.arities i (omega arith) in let z : ⊥ = omega arith in absurd z
      by (no l) k = let a = arity-same i in ns.1.slots i r h (omega arith) ∙ sym (nt.1.slots i r h (omega arith))

  outs-same : places s.p (λ i. get_or s.outputs i 0) ≡ places t.p (λ i. get_or t.outputs i 0)
  unfolding loaded_net net_of
  outs-same = ap (λ (N : Net). N.outputs) e

  p-same : s.p ≡ t.p
  p-same = sym (length-places s.p (λ i. get_or s.outputs i 0)) ∙ ap length outs-same ∙ length-places t.p (λ i. get_or t.outputs i 0)

  out-same : (i : ℕ) → get_or s.outputs i 0 ≡ get_or t.outputs i 0
  out-same i = by (dec_lt i s.p)
    where
      by : Dec (i < s.p) → get_or s.outputs i 0 ≡ get_or t.outputs i 0
      by (yes h) =
          let q = p-same in
          sym (places-at 0 s.p (λ i. get_or s.outputs i 0) i h) ∙ ap (λ (l : List ℕ). get_or l i 0) outs-same ∙ places-at 0 t.p (λ i. get_or t.outputs i 0) i (omega arith)
      by (no h) = let q = p-same in ns.1.outs i (omega arith) ∙ sym (nt.1.outs i (omega arith))

  same-session : s ≡ t
  same-session =
      let ks = ext_get_or 0 s.arity t.arity (ns.0.arities ∙ sym nt.0.arities) (λ i h. arity-same i) in
      let lt = ext_get_or 0 s.loaded t.loaded (ns.0.loads ∙ sym nt.0.loads) (λ i h. table_same i) in
      let sl = ext_get_or 0 s.fanins t.fanins (ns.0.slots ∙ sym nt.0.slots) (λ x h.
      let q : x ≡ gate_places * (x / gate_places) + x % gate_places = omega arith in
      let l : x % gate_places < gate_places = omega arith in
      ap (λ (y : ℕ). get_or s.fanins y 0) q ∙ slot_same (x / gate_places) (x % gate_places) l ∙ ap (λ (y : ℕ). get_or t.fanins y 0) (sym q)) in
      let os = ext_get_or 0 s.outputs t.outputs (ns.0.outs ∙ sym nt.0.outs) (λ i h. out-same i) in
      let ct : s.current ≡ t.current = fs.same ∙ lt ∙ sym ft.same in
      let ot : s.open_tables ≡ t.open_tables = fs.held ∙ ap open_tables e ∙ sym ft.held in
      let z : made s.n s.m s.p s.excluded s.arity s.fanins s.loaded s.current s.open_tables s.outputs
      ≡ made t.n t.m t.p t.excluded t.arity t.fanins t.loaded t.current t.open_tables t.outputs =
      rw (n-same, m-same, p-same, excluded-same, ks, sl, lt, ct, ot, os) in
      z

-- ## Together

tidy-opened : (t : Session) → Tidy t t.m t.p → Tidy (opened t) t.m t.p
tidy-opened t z = record { arities = z.arities; slots = z.slots; tables = z.tables; outs = z.outs }

load-neat : (bytes : List ℕ) (s : Session) → load_of bytes ≡ Ok s → Neat s
load-neat bytes s h = let l = load_read bytes s h in (loaded-sized bytes s h, rw (← l.2) (tidy-opened l.0 (read-tidy bytes l.0 l.1)))

text-neat : (text : Text) (s : Session) → read_blif_of text ≡ Ok s → Neat s
text-neat text s h = let l = text-read text s h in ((text-shaped text s h).sized, rw (← l.2) (tidy-opened l.0 (given text l.0 l.1).tidy))

current-loaded : (s : Session) → s.current ≡ s.loaded → current_net s ≡ loaded_net s
unfolding current_net loaded_net
current-loaded s h = rw h

pub blif-words : BlifWords
blif-words text s h =
    let fresh = text-fresh text s h in
    let r = (round_trip s (text-shaped text s h) fresh.valid).1 in
    let t = r.session in
    let e : loaded_net s ≡ loaded_net t = sym (r.loaded ∙ current-loaded s fresh.same) in
    let q = same-session s t fresh (loaded-fresh (bytes_of s) t r.reads) (text-neat text s h) (load-neat (bytes_of s) t r.reads) e in
    r.reads ∙ ap Ok (sym q)

pub blif-file : BlifFile
blif-file text s h = written-bytes s (text-fresh text s h).valid

-- so it has what every load has
pub blif-fresh : BlifFresh
blif-fresh text s h =
    let fresh = text-fresh text s h in
    let loads = blif-words text s h in
    record {
      valid = state-i s fresh.valid;
      shaped = text-shaped text s h;
      free = text-free text s h;
      same = fresh.same;
      held = fresh.held;
      demand3 = λ rs. demand3-of (bytes_of s) s rs loads;
      rule4 = λ rs r. rule4-of (bytes_of s) s rs r loads;
      inside = λ rs. inside_of (bytes_of s) s rs loads;
      together = λ es. together-of (bytes_of s) s es loads;
    }
