-- The lines of a text in turn, as the code meets them. Assumes nothing.
use mathlib.Core.Path.{◌≡◌, refl, sym, ◌∙◌}
use mathlib.Core.List.{List, [], ◌∷◌, map}
use Prim.Native.Nat.{ℕ, ◌+◌, ◌*◌, ◌-◌, ◌≤◌}
use native.Mathlib.Nat.{sub-zero}
use native.Mathlib.Omega.{arith}
use lib.ListN.{length, take, drop, set}
use lib.Seq.{sets, length-take-le}
use Rattle.bits.specs.Bounds.{gate_places}
use Rattle.std.specs.Prelude.{Ok, Err}
use Rattle.network.specs.Answer.{Answer, Done}
use Rattle.network.specs.declared.Refusal.{Refusal}
use Rattle.network.specs.declared.Session.{Session}
use Rattle.network.specs.Bounds.{most_signals}
use Rattle.network.specs.Tests.{first}
use Rattle.network.specs.declared.Refusal.TheVariants.{OutsideSubset}
use Rattle.text.specs.Words.{Text}
use Rattle.blif.specs.Text.{fields}
use Rattle.blif.specs.Read.{place_in, read_rest}
use Rattle.bliftext.specs.Named.{names_at, Inside}
use Rattle.bliftext.specs.declared.Line.{Line}
use Rattle.bliftext.specs.Lines.{words_at, LineOf}
use Rattle.bliftext.specs.declared.Span.{Span}
use Rattle.blifline.specs.Lines.{end_tests_of}
use Rattle.blifread.specs.Drafts.{LineIn, with_fanins, signals_at, Fits, end_of}

-- ## Parts that are lent from their start

pub part-zero : {A : Type 0} (c : ℕ) (l : List A) → take (c - 0) l ≡ take c l
part-zero c l = rw sub-zero

pub part_length : {A : Type 0} (c n : ℕ) (l : List A) → length l ≡ n → c ≤ n → length (take (c - 0) l) ≡ c
part_length c n l e h = rw sub-zero (length-take-le c l (omega arith))

pub line-in : (text : Text) (at : ℕ) (l : Line) → LineOf text at l → LineIn text l
line-in text at l o = record { upto = omega (arith, o.some); within = o.within; inside = o.inside }

module _ (text : Text) (l : Line) where
  pub part-line : fields (drop l.at (take (l.end - 0) text)) ≡ words_at text l
  part-line = rw sub-zero

  pub part-long : LineIn text l → l.at ≤ length (take (l.end - 0) text)
  part-long o =
      let i = o.inside in
      let w = o.within in
      let q = part_length l.end (length text) text refl (omega arith) in
      omega (arith, o.upto)

-- the names of the signals, as the code lends them
module _ (text : Text) (t : Session) (ns : List Span) (F : Fits text t ns) (s : length ns ≡ most_signals) where
  few : t.n + t.m ≤ most_signals
  few = omega (arith, F.inputs, F.gates)

  pub lent-few : length (take (t.n + t.m - 0) ns) ≤ most_signals
  lent-few = let q = part_length (t.n + t.m) most_signals ns s few in omega (arith, few)

  pub lent-inside : Inside text (take (t.n + t.m - 0) ns)
  lent-inside = rw (part-zero (t.n + t.m) ns) F.inside

-- ## `.end`

-- the outputs put in place
abbrev pub finished_with : Session → List ℕ → Session
finished_with t o = record {
  n = t.n;
  m = t.m;
  p = t.p;
  excluded = t.excluded;
  arity = t.arity;
  fanins = t.fanins;
  loaded = t.loaded;
  current = t.current;
  open_tables = t.open_tables;
  outputs = o;
}

module _ (signals outputs : List Text) (t : Session) (line : List Text) (rest : List (List Text)) (a : Answer) (e : a ≡ first (end_tests_of signals outputs t.m line)) where
  pub end_refused : (r : Refusal) → a ≡ Err r → Err r ≡ end_of signals outputs t line rest
  unfolding end_of
  end_refused r z = rw (sym e ∙ z)

  pub end-done : (o : List ℕ) → a ≡ Done → o ≡ sets t.outputs 0 (map (place_in signals) outputs)
      → read_rest (finished_with t o) rest ≡ end_of signals outputs t line rest
  unfolding end_of
  end-done o z q = rw (sym e ∙ z, q)

-- by the places of the signals' names, as the code lends them
pub end-lent : (text : Text) (l : Line) (t : Session) (ns : List Span) (outputs : List Text) (rest : List (List Text))
    → end_of (names_at text (take (t.n + t.m - 0) ns)) outputs t (fields (drop l.at (take (l.end - 0) text))) rest
    ≡ end_of (signals_at text t ns) outputs t (words_at text l) rest
end-lent text l t ns outputs rest = rw (sub-zero (t.n + t.m), sub-zero l.end)

pub rest_some : (t : Session) (line : List Text) (rest ss : List (List Text)) → ss ≡ line ∷ rest → Err OutsideSubset ≡ read_rest t ss
rest_some t line rest ss e = rw e

pub rest-none : (t : Session) (ss : List (List Text)) → ss ≡ [] → Ok t ≡ read_rest t ss
rest-none t ss e = rw e

-- ## A gate put in place

abbrev pub placed : Session → ℕ → List ℕ → Session
placed t k g = record {
  n = t.n;
  m = t.m + 1;
  p = t.p;
  excluded = t.excluded;
  arity = set t.arity t.m k;
  fanins = g;
  loaded = set t.loaded t.m 0;
  current = set t.current t.m 0;
  open_tables = t.open_tables;
  outputs = t.outputs;
}

pub block-is : (t : Session) (k : ℕ) (g fs : List ℕ) → g ≡ sets t.fanins (gate_places * t.m) fs → k ≡ length fs → placed t k g ≡ with_fanins t fs
block-is t k g fs e q = rw (e, q)
