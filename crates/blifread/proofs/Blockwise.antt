-- Blocks, one after the other. Assumes nothing.
use mathlib.Core.Path.{◌≡◌, refl, sym, ap, ◌∙◌}
use mathlib.Core.Bool.{true, false}
use mathlib.Core.List.{List, [], ◌∷◌, ◌++◌, map}
use Prim.Native.Nat.{ℕ, ◌+◌, ◌-◌, ◌≤◌, ◌<◌}
use native.Mathlib.Nat.{sub-zero}
use native.Mathlib.Omega.{arith}
use lib.ListN.{length, get_or, take, drop, set, length-map, length-set}
use lib.Seq.{set-set, length-take-le, get_or-set_same}
use borrow.Author.Tests.{le-leb, lt-leb}
use Rattle.bits.specs.Bounds.{gate_places}
use Rattle.std.specs.Prelude.{Result, Ok, Err}
use Rattle.network.specs.Answer.{Answer, Done, answer_of, giving}
use Rattle.network.specs.declared.Refusal.{Refusal}
use Rattle.network.specs.declared.Refusal.TheVariants.{OutsideSubset}
use Rattle.network.specs.declared.Session.{Session}
use Rattle.network.specs.Bounds.{most_gates, most_fanins, most_signals}
use Rattle.network.specs.Tests.{first}
use Rattle.network.proofs.TestLaws.{refused-done, given-same, clear-e, count-e}
use Rattle.text.specs.Ascii.{ascii}
use Rattle.text.specs.Words.{Text}
use Rattle.blif.specs.Text.{fields, statements}
use Rattle.blif.specs.Read.{place_in, opens, names, fanin_names, own_names, is_row, with_table, with_block, read_blocks}
use Rattle.bliftext.specs.declared.Line.{Line}
use Rattle.bliftext.specs.declared.Span.{Span}
use Rattle.bliftext.specs.Lines.{words_at}
use Rattle.bliftext.specs.Spans.{span_of}
use Rattle.bliftext.specs.Named.{names_at}
use Rattle.bliftext.proofs.Names.{many}
use Rattle.blifline.specs.Lines.{Held, OwnAt, block_tests_of}
use Rattle.blifline.proofs.Holds.{held_more, span-wide}
use Rattle.blifread.specs.declared.Scanned.{Scanned}
use Rattle.blifread.specs.declared.Drafted.{Drafted}
use Rattle.blifread.specs.Drafts.{LineIn, draft_of, RowsRead, with_fanins, gate_of, signals_at, Fits, Left, BlockRead, end_of}
use Rattle.blifread.proofs.Steps.{part-line}

-- ## One line of the definition, of which the last block has no row

module _ (signals outputs : List Text) (t : Session) (rows : List Text) (digit : ℕ) (line : List Text) (rest : List (List Text)) where
  abbrev due : Result Session Refusal
  due = read_blocks (draft_of signals outputs t rows digit) (line ∷ rest)

  at-end : opens (ascii ".end") line ≡ true → end_of signals outputs t line rest ≡ due
  unfolding read_blocks end_of
  at-end e = rw e

  module _ (no_end : opens (ascii ".end") line ≡ false) where
    at_other : opens (ascii ".names") line ≡ false → is_row (draft_of signals outputs t rows digit) line ≡ false → Err OutsideSubset ≡ due
    unfolding read_blocks
    at_other e f = rw (no_end, e, f)

    module _ (named : opens (ascii ".names") line ≡ true) where
      at-refused : (r : Refusal) → first (block_tests_of signals t.m line) ≡ Err r → Err r ≡ due
      unfolding read_blocks
      at-refused r e = rw (no_end, named, e)

      at_block : first (block_tests_of signals t.m line) ≡ Done → read_blocks (with_block (draft_of signals outputs t [] 0) line) rest ≡ due
      unfolding read_blocks
      at_block e = rw (no_end, named, e)

-- ## One line of the loop

pub left-start : (text : Text) (outputs : List Text) (t : Session) (ns : List Span) (at : ℕ) → at ≤ length text → t.m ≡ 0 → Fits text t ns
    → Left text outputs t ns at (read_blocks (draft_of (signals_at text t ns) outputs t [] 0) (statements (drop at text)))
left-start text outputs t ns at l e f = record {
  rows = [];
  digit = 0;
  place = l;
  fits = f;
  other = rw (lt-leb 1 t.m (omega arith));
  reads = refl;
}

module _ (text : Text) (outputs : List Text) (t : Session) (ns : List Span) (i : ℕ) (answer : Result Session Refusal) (H : Left text outputs t ns i answer) where
  abbrev signals : List Text
  signals = signals_at text t ns

  -- no line is left
  pub turn-stop : statements (drop i text) ≡ [] → Err OutsideSubset ≡ answer
  unfolding read_blocks
  turn-stop e = sym (ap (read_blocks (draft_of signals outputs t H.rows H.digit)) e) ∙ H.reads

  module _ (l : Line) (e : statements (drop i text) ≡ words_at text l ∷ statements (drop l.next text)) where
    abbrev rest : List (List Text)
    rest = statements (drop l.next text)

    left_is : read_blocks (draft_of (signals_at text t ns) outputs t H.rows H.digit) (words_at text l ∷ statements (drop l.next text)) ≡ answer
    left_is = sym (ap (read_blocks (draft_of signals outputs t H.rows H.digit)) e) ∙ H.reads

    pub turn_end : opens (ascii ".end") (words_at text l) ≡ true → end_of (signals_at text t ns) outputs t (words_at text l) (statements (drop l.next text)) ≡ answer
    turn_end o = at-end signals outputs t H.rows H.digit (words_at text l) rest o ∙ left_is

    module _ (no_end : opens (ascii ".end") (words_at text l) ≡ false) where
      pub turn-other : opens (ascii ".names") (words_at text l) ≡ false → Err OutsideSubset ≡ answer
      turn-other o =
          at_other signals outputs t H.rows H.digit (words_at text l) rest no_end o
          (sym (ap (λ (ss : List (List Text)). is_row (draft_of signals outputs t H.rows H.digit) (get_or ss 0 [])) e) ∙ H.other)
          ∙ left_is

      module _ (named : opens (ascii ".names") (words_at text l) ≡ true) (b : Result Drafted Refusal) (B : BlockRead text l t ns b) where
        pub turn-refused : (r : Refusal) → b ≡ Err r → Err r ≡ answer
        turn-refused r z = at-refused signals outputs t H.rows H.digit (words_at text l) rest no_end named r (sym B.answer-is ∙ ap answer_of z) ∙ left_is

        -- one block more
        pub turn-block : (d : Drafted) → b ≡ Ok d → Left text outputs d.session d.signals d.next answer
        turn-block d z = rw (at_block signals outputs t H.rows H.digit (words_at text l) rest no_end named (sym B.answer-is ∙ ap answer_of z) ∙ left_is) at (B.left d z outputs)

-- ## A block

-- what a `.names` line that passes tells
pub block-facts : (signals : List Text) (m : ℕ) (line : List Text) → first (block_tests_of signals m line) ≡ Done
    → (2 ≤ length (names line)) × (length (names line) ≤ most_fanins + 1) × (m < most_gates)
block-facts signals m line e =
    let c = clear-e (block_tests_of signals m line) e in
    let k = count-e most_fanins (length (names line) - 1) c.1.1.0 in
    let g = count-e most_gates (m + 1) c.1.1.1.0 in
    (omega arith, omega arith, omega arith)

module _ (signals : List Text) (t : Session) (line : List Text) (a : Answer) (e : a ≡ first (block_tests_of signals t.m line)) where
  pub gate-refused : (r : Refusal) → a ≡ Err r → Err r ≡ gate_of signals t line
  gate-refused r z = rw (sym e ∙ z)

  pub gate-done : (u : Session) → a ≡ Done → u ≡ with_fanins t (map (place_in signals) (fanin_names (names line))) → Ok u ≡ gate_of signals t line
  gate-done u z q = rw (sym e ∙ z, q)

gate-answer : (a : Answer) (u : Session) → answer_of (giving a u) ≡ a
gate-answer (Ok _) u = refl
gate-answer (Err r) u = refl

gate-session : (a : Answer) (u v : Session) → a ≡ Done → Ok v ≡ giving a u → v ≡ u
gate-session a u v e q = given-same (rw e at q)

read-same : {a b : Drafted} → ◌≡◌ {A = Result Drafted Refusal} (Ok a) (Ok b) → a ≡ b
read-same e = cc

module _ (text : Text) (l : Line) (t : Session) (ns : List Span) (F : Fits text t ns) (L : LineIn text l) where
  abbrev c : ℕ
  c = t.n + t.m

  abbrev line : List Text
  line = words_at text l

  abbrev held : List Text
  held = signals_at text t ns

  abbrev fs : List ℕ
  fs = map (place_in (signals_at text t ns)) (fanin_names (names (words_at text l)))

  abbrev tests : Answer
  tests = first (block_tests_of (signals_at text t ns) t.m (words_at text l))

  -- as the code lends them: parts from the start on
  abbrev lent : Result Session Refusal
  lent = gate_of (names_at text (take (t.n + t.m - 0) ns)) t (fields (drop l.at (take (l.end - 0) text)))

  lent_is : lent ≡ gate_of (signals_at text t ns) t (words_at text l)
  lent_is = rw (sub-zero (t.n + t.m), sub-zero l.end)

  module _ (x : Result Session Refusal) (e : x ≡ gate_of (names_at text (take (t.n + t.m - 0) ns)) t (fields (drop l.at (take (l.end - 0) text)))) where
    pub answer-of : answer_of x ≡ first (block_tests_of (signals_at text t ns) t.m (words_at text l))
    answer-of = ap answer_of (e ∙ lent_is) ∙ gate-answer tests (with_fanins t fs)

    pub block_refused : (r : Refusal) → x ≡ Err r → {b : Result Drafted Refusal} → b ≡ Err r → BlockRead text l t ns b
    block_refused r z w = record {
      answer-is = ap answer_of w ∙ sym (ap answer_of z) ∙ answer-of;
      further = λ d q. refused-done r (ap answer_of (sym w ∙ q));
      left = λ d q. refused-done r (ap answer_of (sym w ∙ q));
    }

    session-of : {u : Session} → x ≡ Ok u → u ≡ with_fanins t (map (place_in (signals_at text t ns)) (fanin_names (names (words_at text l))))
    session-of {u} z = gate-session tests (with_fanins t fs) u (sym answer-of ∙ ap answer_of z) (sym z ∙ e ∙ lent_is)

  -- the session behind the line
  abbrev new : Session
  new = with_fanins t fs

  abbrev named : List Span → Span → List Span
  named ms o = set ms (t.n + t.m) o

  table_none : with_table (with_fanins t (map (place_in (signals_at text t ns)) (fanin_names (names (words_at text l))))) t.m 0 ≡ with_fanins t (map (place_in (signals_at text t ns)) (fanin_names (names (words_at text l))))
  table_none = rw (set-set t.loaded t.m 0 0, set-set t.current t.m 0 0)

  last : t.m + 1 - 1 ≡ t.m
  last = omega arith

  module _ (s : length ns ≡ most_signals) (passes : first (block_tests_of (signals_at text t ns) t.m (words_at text l)) ≡ Done) where
    gates-few : t.m < most_gates
    gates-few = (block-facts held t.m line passes).2

    -- the names with the gate's own
    module _ (o : Span) (O : OwnAt (take (l.end - 0) text) (names (words_at text l)) o) where
      more : Held text (set ns (t.n + t.m) o) (t.n + t.m + 1) (signals_at text t ns ++ span_of text o ∷ [])
      more =
          let n : length (take (l.end - 0) text) ≡ l.end = rw sub-zero (length-take-le l.end text (omega (arith, L.within, L.inside))) in
          let g = gates-few in
          let f : t.n + t.m < most_signals = omega (arith, F.inputs) in
          let h : Held text ns (t.n + t.m) held = record {
            many = many text (take c ns) ∙ length-take-le c ns (omega arith);
            names-are = refl;
            inside = F.inside;
          } in
          held_more text ns c held h o (omega arith) (record { upto = O.upto; inside = omega (arith, O.inside, L.within, L.inside) })

      own_is : span_of text o ∷ [] ≡ own_names (names (words_at text l))
      own_is =
          let n : length (take (l.end - 0) text) ≡ l.end = rw sub-zero (length-take-le l.end text (omega (arith, L.within, L.inside))) in
          sym (O.own ∙ ap (λ (w : Text). w ∷ []) (ap (λ (k : ℕ). span_of (take k text) o) (sub-zero l.end) ∙ span-wide text l.end o O.upto (omega (arith, O.inside))))

      one_more : t.n + (t.m + 1) ≡ t.n + t.m + 1
      one_more = omega arith

      signals-are : (u : Session) → u.n ≡ t.n → u.m ≡ t.m + 1 → signals_at text u (named ns o) ≡ signals_at text t ns ++ own_names (names (words_at text l))
      signals-are u p q =
          ap (λ (k : ℕ). names_at text (take k (named ns o))) (ap (λ (k : ℕ). k + u.m) p ∙ ap (λ (k : ℕ). t.n + k) q ∙ one_more)
          ∙ more.names-are ∙ ap (λ (ws : List Text). held ++ ws) own_is

      module _ (y : Scanned) (Y : RowsRead text l.next (get_or (with_fanins t (map (place_in (signals_at text t ns)) (fanin_names (names (words_at text l))))).arity t.m 0) y) where
        block-left : (outputs : List Text)
            → Left text outputs (with_table (with_fanins t (map (place_in (signals_at text t ns)) (fanin_names (names (words_at text l))))) t.m y.table) (named ns o) y.next
            (read_blocks (with_block (draft_of (signals_at text t ns) outputs t [] 0) (words_at text l)) (statements (drop l.next text)))
        block-left outputs =
            let rows = Y.so_far.rows in
            let d = Y.digit in
            let u = with_table new t.m y.table in
            let own = held ++ own_names (names line) in
            record {
              rows = rows;
              digit = d;
              place = Y.so_far.place;
              fits = record { inputs = F.inputs; gates = (let g = gates-few in omega arith); inside = rw one_more more.inside };
              other = rw (le-leb 1 (t.m + 1) (omega arith), last) Y.other;
              reads = ap (λ (ws : List Text). read_blocks (draft_of ws outputs u rows d) (statements (drop y.next text))) (signals-are u refl refl)
                  ∙ ap (λ (g : ℕ). read_blocks (draft_of own outputs (with_table new g y.table) rows d) (statements (drop y.next text))) (sym last)
                  ∙ Y.so_far.reads own outputs new (omega arith) (ap (λ (g : ℕ). get_or new.arity g 0) last)
                  ∙ ap (λ (g : ℕ). read_blocks (draft_of own outputs (with_table new g 0) [] 0) (statements (drop l.next text))) last
                  ∙ ap (λ (w : Session). read_blocks (draft_of own outputs w [] 0) (statements (drop l.next text))) table_none;
            }

  -- the block that the code has read
  module _ (x : Result Session Refusal) (q : x ≡ gate_of (names_at text (take (t.n + t.m - 0) ns)) t (fields (drop l.at (take (l.end - 0) text)))) {u : Session} (z : x ≡ Ok u) where
    passes_of : first (block_tests_of (signals_at text t ns) t.m (words_at text l)) ≡ Done
    passes_of = sym (answer-of x q) ∙ ap answer_of z

    pub facts : (2 ≤ length (names (fields (drop l.at (take (l.end - 0) text))))) × (t.m < most_gates)
    facts = let f = block-facts held t.m line passes_of in (rw (sub-zero l.end) f.0, f.2)

    pub arity-long : length t.arity ≡ most_gates → length u.arity ≡ most_gates
    arity-long a = ap (λ (u : Session). length u.arity) (session-of x q z) ∙ length-set t.arity t.m (length fs) ∙ a

    pub arity-few : length t.arity ≡ most_gates → get_or u.arity t.m 0 ≤ gate_places
    arity-few a =
        let f = block-facts held t.m line passes_of in
        let k : length fs ≡ length (names line) - 1 = length-map (fanin_names (names line)) (place_in held) ∙ length-take-le (length (names line) - 1) (names line) (omega arith) in
        let g : get_or u.arity t.m 0 ≡ length fs = ap (λ (u : Session). get_or u.arity t.m 0) (session-of x q z) ∙ get_or-set_same t.arity t.m (length fs) 0 (omega arith) in
        omega arith

    pub block-done : length ns ≡ most_signals → (o : Span) (m : List Span) (y : Scanned)
        → OwnAt (take (l.end - 0) text) (names (fields (drop l.at (take (l.end - 0) text)))) o
        → m ≡ set ns (t.n + t.m) o
        → RowsRead text l.next (get_or u.arity t.m 0) y
        → BlockRead text l t ns (Ok (record { session = with_table u t.m y.table; signals = m; next = y.next }))
    block-done s o m y O i Y =
        let W : OwnAt (take (l.end - 0) text) (names line) o = rw (part-line text l) at O in
        let Z : RowsRead text l.next (get_or new.arity t.m 0) y = rw (session-of x q z) at Y in
        record {
          answer-is = sym passes_of;
          further = λ d w. rw (← read-same w) Y.so_far.from;
          left = λ d w outputs. rw (← read-same w, session-of x q z, i) (block-left s passes_of o W y Z outputs);
        }
