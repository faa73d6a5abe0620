-- A call that reads a file or a BLIF text: what it leaves by its answer, whose refusals name nothing. Assumes nothing.
use mathlib.Core.Path.{◌≡◌, refl, sym, ap, ◌∙◌}
use mathlib.Core.Logic.{⊎_elim}
use mathlib.Core.Bool.{false}
use mathlib.Core.List.{List, [], ◌∷◌}
use Prim.Native.Nat.{ℕ, ◌≤◌}
use native.Mathlib.Omega.{arith}
use lib.ListN.{length}
use Rattle.bits.specs.Lists.{overwritten}
use Rattle.std.specs.Prelude.{Result, Ok, Err}
use Rattle.network.specs.Answer.{Answer, Done, answer_of}
use Rattle.network.specs.declared.Session.{Session}
use Rattle.network.specs.declared.Refusal.{Refusal}
use Rattle.network.specs.Refusals.{number_of}
use Rattle.network.specs.Tests.{member}
use Rattle.network.specs.Valid.{Sized}
use Rattle.network.specs.Load.{session_of, load_of}
use Rattle.network.specs.Calls.{room_test}
use Rattle.network.proofs.Reached.{done-whole, loaded-sized}
use Rattle.blif.specs.Read.{read_blif_of}
use Rattle.bliftrip.proofs.Gives.{text-shaped}
use Rattle.demands.specs.Demands as demands
use Rattle.demands.proofs.Demands.{demand1}
use Rattle.demands.proofs.Outcomes.{file}
use Rattle.packed.specs.Packed.{packed_of, session_words}
use Rattle.packed.proofs.Inverse.{packed-length}
use Rattle.promises.specs.Boundary.{values_for, read_answer, read_call}
use Rattle.promises.proofs.Names.{names-first, names-room, nameless}
use Rattle.promises.proofs.Leaves.{Leaves, refused, done}

module _ (l : Result Session Refusal) (session : List ℕ) {a : Answer} (e : a ≡ read_answer l session) where
  pub read-refused : {r : Refusal} {k : ℕ} → values_for (answer_of l) [] ≡ [] → a ≡ Err r → k ≡ number_of r → Leaves (read_call l session) k session []
  read-refused none h p =
      let n = names-first 0 (answer_of l ∷ room_test session_words session ∷ []) (omega (arith, ap length none), (names-room 0 session_words session, tt)) in
      refused [] (packed_of (session_of l)) session [] (sym e ∙ h) n p

  pub read_done : {b : List ℕ} → a ≡ Done → b ≡ overwritten (packed_of (session_of l)) session → Leaves (read_call l session) 0 b []
  read_done h p = done [] (packed_of (session_of l)) session [] (sym e ∙ h) p refl

-- there is room for a session that has its lengths
pub read-room : (l : Result Session Refusal) (session : List ℕ) → Sized (session_of l) → session_words ≤ length session → length (packed_of (session_of l)) ≤ length session
read-room l session z h = let n = packed-length (session_of l) z in omega arith

-- ## The two readers

-- what one of them reads: its refusals, and the lengths of its session
pub record Reader (l : Result Session Refusal) (ns : List ℕ) : Type 0 where
  pub session : Session
  pub ends : demands.Ends l (Ok session) ns Err
  pub none : values_for (answer_of l) [] ≡ []
  pub sized : answer_of l ≡ Done → Sized (session_of l)

reader : (l : Result Session Refusal) (ns : List ℕ) (s : Session) → demands.Ends l (Ok s) ns Err → member 13 ns ≡ false → member 14 ns ≡ false
    → (l ≡ Ok (session_of l) → Sized (session_of l)) → Reader l ns
reader l ns s ends no13 no14 sized = record {
  session = s;
  ends = ends;
  none = ⊎_elim (ap (λ (x : Result Session Refusal). values_for (answer_of x) []))
      (λ f. ap (λ (x : Result Session Refusal). values_for (answer_of x) []) f.2 ∙ nameless ns no13 no14 f.0 f.1) ends;
  sized = λ e. sized (done-whole l e);
}

-- 17, 18 and 3, of a BLIF text
abbrev pub blif : List ℕ
blif = 3 ∷ 17 ∷ 18 ∷ []

pub load-reader : (bytes : List ℕ) → Reader (load_of bytes) file
load-reader bytes = reader (load_of bytes) file _ (demand1.load bytes) refl refl (loaded-sized bytes (session_of (load_of bytes)))

pub blif-reader : (text : List ℕ) → Reader (read_blif_of text) blif
blif-reader text = reader (read_blif_of text) blif _ (demand1.read_blif text) refl refl (λ h. (text-shaped text (session_of (read_blif_of text)) h).sized)
