-- Names held as places in the text. Assumes nothing.
use mathlib.Core.Path.{◌≡◌, refl, sym, ap, ap₂, ◌∙◌}
use mathlib.Core.List.{List, [], ◌∷◌, ◌++◌}
use Prim.Native.Nat.{ℕ, ◌+◌, ◌-◌, ◌≤◌, ◌<◌}
use native.Mathlib.Numerals.{add-one}
use native.Mathlib.Omega.{arith}
use lib.ListN.{length, get_or, take, drop, set, length-append}
use lib.Seq.{drop-cons, take-suc, take-suc-set, take-take, length-take-le}
use Rattle.std.proofs.lemmas.List.{map-append}
use Rattle.std.proofs.lemmas.List.Elements.{All-head, All-tail, All-push, All-weaker}
use Rattle.text.specs.Words.{Text}
use Rattle.bliftext.specs.declared.Span.{Span}
use Rattle.bliftext.specs.Spans.{span_of, WordAt}
use Rattle.bliftext.specs.Named.{names_at, Lies, Inside}
use Rattle.bliftext.proofs.Lines.{drop-take}
use Rattle.blifline.specs.Lines.{Held}
use Rattle.blifline.proofs.Lists.{word-i}

-- ## One name more

module _ (text : Text) (names : List Span) (c : ℕ) (ws : List Text) (h : Held text names c ws) (w : Span) (room : c < length names) (l : Lies text w) where
  more-are : take (c + 1) (set names c w) ≡ take c names ++ w ∷ []
  more-are = rw add-one (take-suc-set names c w room)

  pub held_more : Held text (set names c w) (c + 1) (ws ++ span_of text w ∷ [])
  held_more = record {
    many = length-append ws (span_of text w ∷ []) ∙ ap (λ (n : ℕ). n + 1) h.many;
    names-are = rw more-are (map-append (span_of text) (take c names) (w ∷ []) ∙ ap (λ (v : List Text). v ++ span_of text w ∷ []) h.names-are);
    inside = rw more-are (All-push (Lies text) (take c names) w h.inside l);
  }

-- the words of a line, one after the other
pub held_word : (s : Text) (names : List Span) (at i : ℕ) (ws : List Text) (x : Span) → Held s names i (take i ws) → WordAt s at (drop i ws) x
    → i < length ws → i < length names → Held s (set names i x) (i + 1) (take (i + 1) ws)
held_word s names at i ws x h g l m =
    let t : take (i + 1) ws ≡ take i ws ++ get_or ws i [] ∷ [] = rw add-one (take-suc ws i [] l) in
    let q : get_or ws i [] ≡ span_of s x = ap (λ (v : List Text). get_or v 0 []) (sym (drop-cons ws i [] l) ∙ word-i s at i ws x l g) in
    rw (t, q) (held_more s names i (take i ws) h x m (record { upto = g.upto; inside = g.inside }))

-- ## Places in a line are places in the text

part_of : (h a e : ℕ) (l : Text) → a ≤ e → e ≤ h → take (e - a) (drop a (take h l)) ≡ take (e - a) (drop a l)
part_of h a e l o m =
    let q : h ≡ a + (h - a) = omega arith in
    ap (λ (n : ℕ). take (e - a) (drop a (take n l))) q ∙ ap (take (e - a)) (drop-take a (h - a) l) ∙ take-take (e - a) (h - a) (drop a l) (omega arith)

pub span-wide : (text : Text) (h : ℕ) (w : Span) → w.start ≤ w.end → w.end ≤ h → span_of (take h text) w ≡ span_of text w
span-wide text h w l m = part_of h w.start w.end text l m

names-wide : (text : Text) (h : ℕ) (names : List Span) → length (take h text) ≡ h → Inside (take h text) names → names_at text names ≡ names_at (take h text) names
names-wide text h [] n g = refl
names-wide text h (w ∷ names) n g =
    let l = All-head (Lies (take h text)) w names g in
    ap₂ (λ (v : Text) (vs : List Text). v ∷ vs) (sym (span-wide text h w l.upto (rw n at l.inside))) (names-wide text h names n (All-tail (Lies (take h text)) w names g))

pub held-wide : (text : Text) (h : ℕ) (names : List Span) (c : ℕ) (ws : List Text) → h ≤ length text → Held (take h text) names c ws → Held text names c ws
held-wide text h names c ws l g =
    let n : length (take h text) ≡ h = length-take-le h text l in
    record {
      many = g.many;
      names-are = names-wide text h (take c names) n g.inside ∙ g.names-are;
      inside = All-weaker (Lies (take h text)) (Lies text) (λ w o. record { upto = o.upto; inside = omega (arith, o.inside) }) (take c names) g.inside;
    }
