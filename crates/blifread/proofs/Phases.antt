-- The phases before the blocks: `.model`, `.inputs`, `.outputs`. Assumes nothing.
use mathlib.Core.Path.{◌≡◌, refl, sym, ap, ◌∙◌}
use mathlib.Core.List.{List, [], ◌∷◌}
use Prim.Native.Nat.{ℕ, ◌-◌, ◌≤◌}
use native.Mathlib.Nat.{sub-zero, add-zero}
use native.Mathlib.Omega.{arith}
use lib.ListN.{length, take, drop}
use Rattle.bits.specs.Bounds.{most_inputs}
use Rattle.std.specs.Prelude.{Result, Err}
use Rattle.std.specs.Prelude.{Ok}
use Rattle.network.specs.Answer.{Answer, Done, answer_of, onward}
use Rattle.network.specs.declared.Refusal.{Refusal}
use Rattle.network.specs.declared.Refusal.TheVariants.{OutsideSubset}
use Rattle.network.specs.declared.Session.{Session}
use Rattle.network.specs.Bounds.{most_outputs}
use Rattle.network.specs.Tests.{first}
use Rattle.network.specs.Load.{started}
use Rattle.network.proofs.TestLaws.{refused-done, clear-e, count-e}
use Rattle.text.specs.Ascii.{ascii}
use Rattle.text.specs.Words.{Text}
use Rattle.blif.specs.Text.{statements}
use Rattle.blif.specs.Read.{names, names_tests, model_test, begun, read_blocks, read_outputs, read_inputs, read_model, read_blif}
use Rattle.bliftext.specs.Named.{names_at, Inside}
use Rattle.bliftext.specs.declared.Span.{Span}
use Rattle.blifline.specs.Lines.{Held}
use Rattle.blifline.proofs.Holds.{held-wide}
use Rattle.blifread.specs.declared.Listed.{Listed}
use Rattle.blifread.specs.Drafts.{draft_of, signals_at, Fits, names_line, ListedAt}
use Rattle.blifread.proofs.Steps.{part-zero, part_length}

-- ## A line of names

-- it has so many where it passes
pub names-few : (word : Text) (most : ℕ) (line : List Text) (a : Answer) → a ≡ first (names_tests word most line) → a ≡ Done
    → (1 ≤ length (names line)) × (length (names line) ≤ most)
names-few word most line a e d =
    let c = clear-e (names_tests word most line) (sym e ∙ d) in
    count-e most (length (names line)) c.1.1.0

-- its names, as places in the text
pub held-names : (text : Text) (h : ℕ) (S : List Span) (p : ℕ) (fs ws : List Text) → h ≤ length text → Held (take (h - 0) text) S p fs → fs ≡ ws → Held text S p ws
held-names text h S p fs ws l g e = rw e at (held-wide text h S p fs l (rw (sub-zero h) at g))

module _ (word : Text) (most : ℕ) (more : List Text → List (List Text) → Result Session Refusal) (ss : List (List Text)) where
  pub line-none : ss ≡ [] → Err OutsideSubset ≡ names_line word most more ss
  line-none e = rw e

  module _ (line : List Text) (rest : List (List Text)) (e : ss ≡ line ∷ rest) (a : Answer) (q : a ≡ first (names_tests word most line)) where
    pub line_refused : (r : Refusal) → a ≡ Err r → Err r ≡ names_line word most more ss
    line_refused r z = rw (e, sym q ∙ z)

    pub line-done : a ≡ Done → more (names line) rest ≡ names_line word most more ss
    line-done z = rw (e, sym q ∙ z)

pub none-listed : (text : Text) (at : ℕ) (word : Text) (most : ℕ) {x : Result Listed Refusal} (r : Refusal) → x ≡ Err r
    → ((more : List Text → List (List Text) → Result Session Refusal) → Err r ≡ names_line word most more (statements (drop at text))) → ListedAt text at word most x
none-listed text at word most r z f = record {
  refused = λ q w more. ap (λ (a : Answer). onward a (Err r)) (ap answer_of (sym w ∙ z)) ∙ f more;
  given = λ x d. refused-done r (ap answer_of (sym z ∙ d));
}

pub listed-same : {a b : Listed} → ◌≡◌ {A = Result Listed Refusal} (Ok a) (Ok b) → a ≡ b
listed-same e = cc

inputs-line : (ss : List (List Text)) → names_line (ascii ".inputs") most_inputs read_outputs ss ≡ read_inputs ss
unfolding read_inputs
inputs-line [] = refl
inputs-line (line ∷ rest) = refl

outputs-line : (ins : List Text) (ss : List (List Text)) → names_line (ascii ".outputs") most_outputs (λ outs. read_blocks (begun ins outs)) ss ≡ read_outputs ins ss
unfolding read_outputs
outputs-line ins [] = refl
outputs-line ins (line ∷ rest) = refl

-- ## `.outputs`

module _ (text : Text) (at : ℕ) (l : Result Listed Refusal) (X : ListedAt text at (ascii ".outputs") most_outputs l) where
  pub outputs-refused : (ins : List Text) (r : Refusal) → l ≡ Err r → Err r ≡ read_outputs ins (statements (drop at text))
  outputs-refused ins r z = X.refused r z (λ outs. read_blocks (begun ins outs)) ∙ outputs-line ins (statements (drop at text))

  -- the names of the outputs, as the code lends them
  pub outputs-inside : (x : Listed) → l ≡ Ok x → x.count ≤ length x.names → Inside text (take (x.count - 0) x.names) × (length (take (x.count - 0) x.names) ≤ most_outputs)
  outputs-inside x z s =
      let g = X.given x z in
      let f = g.few in
      let p = part_length x.count (length x.names) x.names refl s in
      (rw (part-zero x.count x.names) g.held.inside, omega arith)

  pub outputs-done : (ins : List Text) (ns : List Span) (n : ℕ) (t : Session) (r : Result Session Refusal) (x : Listed) → l ≡ Ok x → Held text ns n ins → t ≡ started n 0 x.count
      → r ≡ read_blocks (draft_of (signals_at text t ns) (names_at text (take (x.count - 0) x.names)) t [] 0) (statements (drop x.next text))
      → r ≡ read_outputs ins (statements (drop at text))
  outputs-done ins ns n t r x z h e q =
      let g = X.given x z in
      let rest = statements (drop x.next text) in
      let p = x.count in
      let os = names_at text (take (p - 0) x.names) in
      q ∙ ap (λ (u : Session). read_blocks (draft_of (signals_at text u ns) os u [] 0) rest) e
      ∙ ap (λ (k : ℕ). read_blocks (draft_of (names_at text (take k ns)) os (started n 0 p) [] 0) rest) (add-zero n)
      ∙ ap (λ (ws : List Text). read_blocks (draft_of ws os (started n 0 p) [] 0) rest) h.names-are
      ∙ ap (λ (k : ℕ). read_blocks (draft_of ins (names_at text (take k x.names)) (started n 0 p) [] 0) rest) (sub-zero p)
      ∙ ap (λ (ws : List Text). read_blocks (draft_of ins ws (started n 0 p) [] 0) rest) g.held.names-are
      ∙ ap (λ (k : ℕ). read_blocks (draft_of ins g.listed (started k 0 p) [] 0) rest) (sym h.many)
      ∙ ap (λ (k : ℕ). read_blocks (draft_of ins g.listed (started (length ins) 0 k) [] 0) rest) (sym g.held.many)
      ∙ g.reads (λ outs. read_blocks (begun ins outs)) ∙ outputs-line ins (statements (drop at text))

pub started-fits : (text : Text) (t : Session) (ns : List Span) (n p : ℕ) → t ≡ started n 0 p → n ≤ most_inputs → Inside text (take n ns)
    → (t.m ≡ 0) × Fits text t ns
started-fits text t ns n p e l i = rw e (refl, record { inputs = l; gates = omega arith; inside = rw (add-zero n) i })

-- ## `.inputs`

module _ (text : Text) (at : ℕ) (l : Result Listed Refusal) (X : ListedAt text at (ascii ".inputs") most_inputs l) where
  pub inputs-refused : (r : Refusal) → l ≡ Err r → Err r ≡ read_inputs (statements (drop at text))
  inputs-refused r z = X.refused r z read_outputs ∙ inputs-line (statements (drop at text))

  pub inputs-done : (r : Result Session Refusal) (x : Listed) → l ≡ Ok x
      → ((ws : List Text) → Held text x.names x.count ws → r ≡ read_outputs ws (statements (drop x.next text)))
      → r ≡ read_inputs (statements (drop at text))
  inputs-done r x z f = let g = X.given x z in f g.listed g.held ∙ g.reads read_outputs ∙ inputs-line (statements (drop at text))

-- ## `.model`

module _ (text : Text) where
  pub read-stop : statements text ≡ [] → Err OutsideSubset ≡ read_blif text
  unfolding read_blif read_model
  read-stop e = rw e

  module _ (line : List Text) (rest : List (List Text)) (e : statements text ≡ line ∷ rest) (a : Answer) (q : a ≡ model_test line) where
    pub read-refused : (r : Refusal) → a ≡ Err r → Err r ≡ read_blif text
    unfolding read_blif read_model
    read-refused r z = rw (e, sym q ∙ z)

    pub read_done : a ≡ Done → read_inputs rest ≡ read_blif text
    unfolding read_blif read_model
    read_done z = rw (e, sym q ∙ z)
