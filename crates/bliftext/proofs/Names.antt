-- A name among names. Assumes nothing.
use mathlib.Core.Path.{◌≡◌, refl, sym}
use mathlib.Core.Bool.{cond}
use mathlib.Core.List.{List, []}
use Prim.Native.Nat.{ℕ, ◌<◌}
use lib.Dec.{ltb}
use lib.ListN.{length, get_or}
use Rattle.std.specs.Prelude.{Some, None}
use Rattle.std.specs.List.{position_or_len}
use native.Mathlib.Numerals.{one-add}
use Rattle.std.proofs.lemmas.List.{get_or-map, length-map}
use Rattle.std.proofs.lemmas.List.Recursion.{is_position_or_len}
use Rattle.text.specs.Words.{Text}
use Rattle.blif.specs.Read.{same, place_in}
use Rattle.bliftext.specs.declared.Span.{Span}
use Rattle.bliftext.specs.Spans.{span_of}
use Rattle.bliftext.specs.Named.{names_at, place_among}

-- the name at place i is what stands there
pub name-is : (text : Text) (names : List Span) (i : ℕ) (d : Span) → i < length names → get_or (names_at text names) i [] ≡ span_of text (get_or names i d)
name-is text names i d h = get_or-map (span_of text) names i d [] h

pub many : (text : Text) (names : List Span) → length (names_at text names) ≡ length names
many text names = length-map names (span_of text)

-- the place of a name is the first one where it stands
first-place : (text w : Text) (names : List Span) → position_or_len (λ n. same (span_of text n) w) names ≡ place_in (names_at text names) w
first-place text w names = sym (is_position_or_len (λ ns. place_in (names_at text ns) w) (λ n. same (span_of text n) w) refl (λ n ns. rw one-add) names)

pub first-among : (text w : Text) (names : List Span)
    → cond (ltb (position_or_len (λ n. same (span_of text n) w) names) (length names)) (Some (position_or_len (λ n. same (span_of text n) w) names)) None ≡ place_among (names_at text names) w
first-among text w names = rw (first-place text w names, many text names)
