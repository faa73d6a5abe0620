-- The three demands, proved. Assumes nothing.
use mathlib.Core.Path.{◌≡◌, refl, sym, ap, ◌∙◌}
use mathlib.Core.Logic.{inl, ⊎_elim, ◌↔◌}
use mathlib.Core.Bool.{true}
use mathlib.Core.List.{List, [], ◌∷◌}
use Prim.Native.Nat.{ℕ, ◌≤◌}
use lib.ListN.{length}
use borrow.Author.Tests.{le-ltb}
use Rattle.bits.specs.Lists.{overwritten}
use Rattle.bits.proofs.Logic.{clash}
use Rattle.std.specs.Prelude.{Result, Ok, Err}
use Rattle.network.specs.Answer.{Answer, Done, answer_of, giving, onward, given_or}
use Rattle.network.specs.declared.Refusal.{Refusal}
use Rattle.network.specs.declared.Session.{Session}
use Rattle.network.specs.Net.{Net, is_gate, patterns, Replacement}
use Rattle.network.specs.Flat.{loaded_net}
use Rattle.network.specs.Valid.{Shaped}
use Rattle.network.specs.Refusals.{said}
use Rattle.network.specs.Tests.{first}
use Rattle.network.specs.State.{state_test}
use Rattle.network.specs.Load.{started, session_of, read_of, opened, opening, load_of}
use Rattle.network.specs.Write.{bytes_of}
use Rattle.network.specs.Calls.{gate_test, harm_test, exchange_tests, held_closed, exchange_answer, exchanged, exchange_of, lengths_test, pairs, pairs_test, verdict_of, verdict_on, gate_tables, tables_of, Filled, room_test, filled, set_words, pattern_sets_of, write_of, pattern_counts, counts_of, with_length, written_of}
use Rattle.network.specs.Sessions.{after, NoHarm, FirstHarm}
use Rattle.network.proofs.Valid.{state-e, state-i}
use Rattle.network.proofs.Fresh.{Fresh}
use Rattle.network.proofs.Exchanges.{after-valid, after-loaded, after-shaped, after_open}
use Rattle.network.proofs.Reached.{loaded-fresh, loaded-shaped}
use Rattle.network.proofs.Harm.{harm-only, harm-done, harm-none, harm-at}
use Rattle.network.proofs.Lists.{verdict-is, pair-exact-of, judged-of, faulted-of, few-of, listed_of, unequal-of, lone_of}
use Rattle.network.proofs.ByTest.{room_by, state-by, gate-by, table-by, closed-by, harm-by, lengths-by, pairs-by}
use Rattle.network.proofs.Demand3.{demand3-of, rule4-of}
use Rattle.network.proofs.Together.{together-of}
use Rattle.network.proofs.Cdc.{cdc-exact, cdc-full, cdc-plain}
use Rattle.network.proofs.CountLaws.{counts-at, counts-fit}
use Rattle.network.proofs.Inside.{inside_of}
use Rattle.roundtrip.proofs.RoundTrip.{round_trip}
use Rattle.roundtrip.proofs.Kept.{old-record, old-files, old-bytes, old-written}
use Rattle.blif.specs.Read.{read_blif, read_blif_of}
use Rattle.blif.specs.Write.{blif_text, copies_test, write_blif_of}
use Rattle.bliftrip.proofs.Trip.{blif-trip}
use Rattle.bliftrip.proofs.Length.{blif-length, blif-room}
use Rattle.bliftrip.proofs.Covers.{blif-cover}
use Rattle.bliftrip.proofs.Gives.{text-fresh, text-shaped}
use Rattle.bliftrip.proofs.SameWords.{blif-words, blif-file, blif-fresh}
use Rattle.bliftrip.proofs.Ends.{read_by, copies-by}
use Rattle.demands.specs.Demands.{Ends, Demand1, all_in_place, Changes, Judged, Reached, Demand2, Demand3}
use Rattle.demands.proofs.SdcWords.{sdc-entries, sdc-one-word}
use Rattle.demands.proofs.Outcomes.{file, Among, ends, tests-end, read-among}

-- ## Calls that fill a buffer with new words or bytes

module _ (s : Session) (new buffer : List ℕ) where
  abbrev fill_tests : List Answer
  fill_tests = state_test s ∷ room_test (length new) buffer ∷ []

  abbrev full-buffer : Filled
  full-buffer = record { answer = Done; buffer = overwritten new buffer }

  -- seen in some way, as with the length
  fills-end : {A : Type 0} (seen : Filled → A)
      → Ends (seen (filled (first fill_tests) new buffer)) (seen full-buffer) (9 ∷ 10 ∷ []) (λ r. seen (record { answer = Err r; buffer = buffer }))
  fills-end seen =
      let ns : List ℕ = 9 ∷ 10 ∷ [] in
      tests-end ns (λ a. seen (filled a new buffer)) fill_tests (state-by (Among ns) s refl (λ v. tt), (room_by (Among ns) (length new) buffer refl (λ l. tt), tt))

  fills-done : state_test s ≡ Done → length new ≤ length buffer → filled (first fill_tests) new buffer ≡ full-buffer
  fills-done v l = rw (v, le-ltb (length buffer) (length new) l)

-- ## Demand 1

opening-ends : (ns : List ℕ) (l : Result Session Refusal) → Among ns (answer_of l) → Ends (opening l) (Ok (opened (session_of l))) ns Err
opening-ends ns (Ok s) h = inl refl
opening-ends ns (Err r) h = ends ns (λ a. onward a (Ok (opened (started 0 0 0)))) (Err r) h

pub demand1 : Demand1
unfolding load_of tables_of pattern_sets_of exchange_of exchange_answer verdict_of write_of written_of counts_of read_blif_of write_blif_of
demand1 = record {
  load = λ bytes. opening-ends file (read_of bytes) (read-among bytes);
  tables = λ s g. let ns : List ℕ = 10 ∷ 11 ∷ [] in
      tests-end ns (λ a. giving a (gate_tables s g)) (state_test s ∷ gate_test (loaded_net s) g ∷ [])
      (state-by (Among ns) s refl (λ v. tt), (gate-by (Among ns) (loaded_net s) g refl (λ w. tt), tt));
  pattern_sets = λ s buffer. fills-end s (set_words s s.m) buffer (λ f. f);
  exchange = λ s r. let ns : List ℕ = 10 ∷ 11 ∷ 12 ∷ 13 ∷ [] in
      let Q = Among ns in
      let N = loaded_net s in
      let shut = held_closed s r.signal in
      tests-end ns (λ a. exchanged a s r) (state_test s ∷ exchange_tests N shut r)
      (state-by Q s refl (λ v. tt), (gate-by Q N r.signal refl (λ w. tt), (table-by Q N r refl (λ f. tt), (closed-by Q N shut r (λ t. refl) tt, tt))));
  exchange_stays = λ s r f e. ap (given_or s) e;
  verdict = λ s gs ts. let ns : List ℕ = 10 ∷ 11 ∷ 12 ∷ 14 ∷ 15 ∷ 16 ∷ [] in
      let Q = Among ns in
      let N = loaded_net s in
      let rs = pairs gs ts in
      let M = all_in_place s rs in
      tests-end ns (λ a. a) (state_test s ∷ lengths_test gs ts ∷ pairs_test N [] rs ∷ harm_test N M ∷ [])
      (state-by Q s refl (λ v. tt), (lengths-by Q gs ts refl (λ e. tt), (pairs-by Q N [] rs refl refl refl tt, (harm-by Q N M (λ x i. refl) tt, tt))));
  write = λ s buffer. fills-end s (bytes_of s) buffer (with_length (length (bytes_of s)));
  read_blif = λ text. let ns : List ℕ = 3 ∷ 17 ∷ 18 ∷ [] in opening-ends ns (read_blif text) (read_by (Among ns) tt refl refl refl text);
  write_blif = λ s buffer. let ns : List ℕ = 3 ∷ 9 ∷ 10 ∷ [] in
      let new = blif_text s in
      tests-end ns (λ a. with_length (length new) (filled a new buffer)) (state_test s ∷ copies_test s ∷ room_test (length new) buffer ∷ [])
      (state-by (Among ns) s refl (λ v. tt), (copies-by (Among ns) tt refl s, (room_by (Among ns) (length new) buffer refl (λ l. tt), tt)));
  counts = λ s. ends (10 ∷ []) (λ a. giving a (pattern_counts s)) (state_test s) (state-by (Among (10 ∷ [])) s refl (λ v. tt));
}

-- ## Demand 2: in every state that 10 does not refuse

tables-are : (s : Session) (g : ℕ) → state_test s ≡ Done → is_gate (loaded_net s) g ≡ true → tables_of s g ≡ Ok (gate_tables s g)
unfolding tables_of gate_test
tables-are s g v w = rw (v, w)

-- what an answer says exactly where P holds, one that equals it says too
same-said : {P : Type 0} (a b : Answer) (l : List ℕ) → a ≡ b → (said b ≡ l) ↔ P → (said a ≡ l) ↔ P
same-said a b l e h = (λ k. h.0 (ap said (sym e) ∙ k), λ p. ap said e ∙ h.1 p)

module _ (s : Session) (rs : List Replacement) (j : Judged s rs) where
  abbrev L : Net
  L = loaded_net s

  abbrev M : Net
  M = all_in_place s rs

  is : verdict_on s rs ≡ harm_test L M
  is = verdict-is s rs j.0 j.1

  shown-at : (x i : ℕ) → (said (verdict_on s rs) ≡ 14 ∷ x ∷ i ∷ []) ↔ FirstHarm L M x i
  shown-at x i = same-said _ _ _ is (harm-at L M x i)

  harmless-is : (said (verdict_on s rs) ≡ []) ↔ NoHarm L M (patterns L)
  harmless-is = same-said _ _ _ is (harm-none L M)

  harmful-is : ((x : ℕ) × (i : ℕ) × (said (verdict_on s rs) ≡ 14 ∷ x ∷ i ∷ [])) ↔ ((x : ℕ) × (i : ℕ) × Changes s rs x i)
  harmful-is = (
    λ f. let h = (shown-at f.0 f.1).0 f.2 in
        (f.0, f.1, (h.pattern, h.output, h.harm)),
    λ f. ⊎_elim (λ e. clash f.2.2 ((harm-done L M).0 e f.0 f.1 f.2.0 f.2.1))
        (λ h. (h.0, h.1, ap said (is ∙ h.2))) (harm-only L M),
  )

-- ## In every session that a load and exchanges give

module _ (s : Session) (fresh : Fresh s) (rs : List Replacement) where
  after-reached : Shaped s → Reached s (after s rs)
  after-reached shape = record {
    valid = state-i (after s rs) (after-valid s fresh rs);
    shaped = after-shaped s fresh rs shape;
    loaded = after-loaded s fresh rs;
    opens = after_open s fresh rs;
  }

pub demand2 : Demand2
unfolding pattern_sets_of write_of written_of counts_of
demand2 = record {
  tables = tables-are;
  sdc_entries = λ N g e. sdc-entries N g e [];
  sdc_one_word = sdc-one-word;
  cdc_exact = cdc-exact;
  cdc_full = cdc-full;
  cdc_plain = cdc-plain;
  pattern_sets = λ s buffer. fills-done s (set_words s s.m) buffer;
  counts = λ s g v h. rw v (counts-at s v g h);
  counts_fit = counts-fit;
  harmful = harmful-is;
  shown = λ s rs x i j. shown-at s rs j x i;
  harmless = harmless-is;
  judged = judged-of;
  few = few-of;
  faulted = faulted-of;
  pair_exact = pair-exact-of;
  listed = listed_of;
  unequal = unequal-of;
  lone = lone_of;
  written = λ s buffer v l. ap (with_length (length (bytes_of s))) (fills-done s (bytes_of s) buffer v l);
  round_trip = λ s shape v. let w = (round_trip s shape (state-e s v)).1 in
      (w.session, w.reads, w.loaded, w.current);
  old_record = old-record;
  old_files = old-files;
  old_bytes = old-bytes;
  old_written = old-written;
  reached = λ bytes s rs b loads. after-reached s (loaded-fresh bytes s loads) rs (loaded-shaped bytes s b loads);
  rule4 = rule4-of;
  inside = inside_of;
  together = together-of;
  blif_written = blif-room;
  blif_length = blif-length;
  blif_trip = blif-trip;
  blif_cover = blif-cover;
  blif_loads = blif-words;
  blif_file = blif-file;
  blif_fresh = blif-fresh;
  blif_reached = λ text s rs reads. after-reached s (text-fresh text s reads) rs (text-shaped text s reads);
}

-- ## Demand 3

pub demand3 : Demand3
demand3 = record { load = demand3-of; read_blif = λ text s rs reads. (blif-fresh text s reads).demand3 rs }
