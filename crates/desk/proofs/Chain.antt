-- Orders in a row, each on the board that the last granted one gave. Assumes nothing.
use mathlib.Core.Path.{◌≡◌, refl, sym, ap, ◌∙◌, subst}
use mathlib.Core.Bool.{true, false, beq}
use mathlib.Core.List.{List, [], ◌∷◌}
use Prim.Native.Nat.{ℕ, ◌<◌}
use lib.ListN.{length}
use borrow.Author.Tests.{not-false}
use Rattle.bits.proofs.Ranges.{by_cases}
use Rattle.bits.proofs.Logic.{beq-e}
use Rattle.std.specs.Prelude.{Ok}
use Rattle.network.specs.declared.Session.{Session}
use Rattle.network.specs.Net.{Gate, Net, patterns, excluded, excluded_for, output, Replacement, with_gates, replace_one, replaced}
use Rattle.network.specs.DontCares.{harms}
use Rattle.network.specs.Flat.{loaded_net}
use Rattle.network.specs.Load.{load_of}
use Rattle.network.specs.Lists.{Sound}
use Rattle.network.specs.Sessions.{NoHarm}
use Rattle.network.proofs.Lists.{sound-i}
use Rattle.network.proofs.Reached.{loaded-fresh}
use Rattle.bits.specs.Lists.{Bytes}
use Rattle.roundtrip.proofs.WrittenBytes.{written-bytes}
use Rattle.ordertext.specs.Order.{Pair}
use Rattle.desk.specs.Reply.{reply_of, grants, placed, board_of}
use Rattle.desk.specs.Promises.{replacements, changed, ChainOf}
use Rattle.desk.proofs.Placed.{placed-valid}
use Rattle.desk.proofs.Replies.{granted-verdict, reply-loaded, verdict-sound}
use Rattle.desk.proofs.Promises.{exact, board}

-- replacing keeps all but the gates
replaced-keeps : (rs : List Replacement) (N : Net) → (gs : List Gate) × (replaced N rs ≡ with_gates N gs)
replaced-keeps [] N = (N.gates, refl)
replaced-keeps (r ∷ rs) N = let h = replaced-keeps rs (replace_one N r) in (h.0, h.1)

-- no harm, said of the outputs
unharmed : (L M : Net) → NoHarm L M (patterns L) → (x i : ℕ) → x < patterns L → i < length L.outputs → excluded_for L i x ≡ false → output M x i ≡ output L x i
unfolding harms
unharmed L M h x i hx hi e =
    let k = not-false (beq (output L x i) (output M x i)) (rw e at (h x i hx hi)) in
    sym (beq-e (output L x i) (output M x i) k)

-- a granted order's board
module _ (file : List ℕ) (s : Session) (ps : List Pair) (bytes : Bytes file) (loads : load_of file ≡ Ok s) (h : grants (reply_of file ps) ≡ true) where
  abbrev rs : List Replacement
  rs = replacements ps

  sound : Sound (loaded_net s) [] rs
  sound = verdict-sound s rs (granted-verdict s rs (ap grants (sym (reply-loaded file s ps loads)) ∙ h))

  board-bytes : Bytes (board_of file ps)
  unfolding board_of
  board-bytes = rw loads (written-bytes (placed s rs) (placed-valid s (loaded-fresh file s loads) rs sound))

  board-outputs : (x i : ℕ) → x < patterns (loaded_net s) → i < length (loaded_net s).outputs → excluded_for (loaded_net s) i x ≡ false
      → output (changed s ps) x i ≡ output (loaded_net s) x i
  board-outputs = unharmed (loaded_net s) (changed s ps) ((exact file s ps (record { loads = loads; sound = sound-i (loaded_net s) [] rs sound })).granted.0 h)

-- a board K behind M, which is L with gates changed: where K keeps M's outputs and M those of L, K keeps those of L
step : (L M K : Net) (gs : List Gate) → M ≡ with_gates L gs
    → ((x i : ℕ) → x < patterns L → i < length L.outputs → excluded_for L i x ≡ false → output M x i ≡ output L x i)
    → ((x i : ℕ) → x < patterns M → i < length M.outputs → excluded_for M i x ≡ false → output K x i ≡ output M x i)
    → (x i : ℕ) → x < patterns L → i < length L.outputs → excluded_for L i x ≡ false → output K x i ≡ output L x i
unfolding excluded_for excluded
step L M K gs e f g x i hx hi k =
    g x i (subst (λ (N : Net). x < patterns N) (sym e) hx) (subst (λ (N : Net). i < length N.outputs) (sym e) hi) (subst (λ (N : Net). excluded_for N i x ≡ false) (sym e) k)
    ∙ f x i hx hi k

-- ## 6

pub chained : ChainOf
chained file s [] bytes loads = record { session = s; loads = loads; stays = refl; same = λ x i _ _ _. refl }
chained file s (ps ∷ orders) bytes loads =
    by_cases (grants (reply_of file ps))
    (λ h.
    let b = board file s ps bytes loads h in
    let c = chained (board_of file ps) b.session orders (board-bytes file s ps bytes loads h) b.loads in
    let k = replaced-keeps (replacements ps) (loaded_net s) in
    let m : loaded_net b.session ≡ with_gates (loaded_net s) k.0 = b.loaded ∙ k.1 in
    record {
      session = c.session;
      loads = rw h c.loads;
      stays = c.stays ∙ ap (λ (N : Net). with_gates N (loaded_net c.session).gates) m;
      same = step (loaded_net s) (loaded_net b.session) (loaded_net c.session) k.0 m
          (λ x i hx hi e. ap (λ (N : Net). output N x i) b.loaded ∙ board-outputs file s ps bytes loads h x i hx hi e) c.same;
    })
    (λ h.
    let c = chained file s orders bytes loads in
    record { session = c.session; loads = rw h c.loads; stays = c.stays; same = c.same })
