-- The turns of a gate's fan-ins, for any number of turns. Assumes nothing.
use mathlib.Core.Logic.{◌⊎◌, ⊎_elim}
use mathlib.Core.Path.{◌≡◌, refl, ap, ◌∙◌}
use mathlib.Core.List.{List}
use Prim.Native.Nat.{ℕ, ◌+◌, ◌-◌, ◌*◌, ◌%◌, ◌^◌, ◌≤◌, ◌<◌}
use native.Mathlib.Omega.{arith}
use lib.Bits.{bit_and}
use lib.ListN.{length, get_or, set, length-set}
use lib.Seq.{get_or-set_other}
use Rattle.bits.specs.Bounds.{gate_places}
use Rattle.network.specs.Bounds.{most_fanins, most_entries, fanin_places}
use Rattle.edges.specs.Edges.{edge_table, Constants, Halved}
use Rattle.edges.proofs.EdgeWords.{AtTurn, at-turn-start, at-turn-edge, at-turn-next, half_room, filled-from}

-- r of n turns are taken: the edge tables of the first r fan-ins stand at place `at` and on, and the words are those of the next turn
pub record Turning (n k table at : ℕ) (edges₀ : List ℕ) (entries : ℕ) (edges words : List ℕ) (r : ℕ) : Type 0 where
  pub size : length edges ≡ fanin_places
  pub own : k ≤ n → (q : ℕ) → q < r → q < k → get_or edges (at + q) 0 ≡ edge_table k table q
  pub others : (q : ℕ) → (q < at) ⊎ (at + gate_places ≤ q) → get_or edges q 0 ≡ get_or edges₀ q 0
  pub mask : entries ≡ 2 ^ (2 ^ k) - 1
  pub room : length words ≡ most_entries
  pub left : k ≤ n → r ≤ k → AtTurn k table words r

module _ (n k table at : ℕ) (edges₀ : List ℕ) (entries : ℕ) (most : n ≤ most_fanins) (fits : at + gate_places ≤ fanin_places) where
  pub turn-first : (words : List ℕ) → length edges₀ ≡ fanin_places → entries ≡ 2 ^ (2 ^ k) - 1 → length words ≡ most_entries → Constants table words (2 ^ n)
      → Turning n k table at edges₀ entries edges₀ words 0
  turn-first words size mask room known = record {
    size = size;
    own = λ few q h l. absurd (omega arith);
    others = λ q h. refl;
    mask = mask;
    room = room;
    left = λ few h. at-turn-start n k table words few most known;
  }

  pub turn-next : (edges words new : List ℕ) (r : ℕ) → r < n → Turning n k table at edges₀ entries edges words r → length new ≡ most_entries
      → Halved words new (get_or words 1 0) ((1 * 2 ^ (n - 1 - r)) % 2 ^ 64) → Turning n k table at edges₀ entries (set edges (at + r) (bit_and (get_or words 1 0) entries)) new (r + 1)
  turn-next edges words new r more t room halved =
      let free = bit_and (get_or words 1 0) entries in
      let h : at + r < length edges = omega (arith, t.size) in
      record {
        size = simp length-set t.size;
        own = λ few. filled-from edges (edge_table k table) at r k free h (t.own few) (λ lr. ap (bit_and (get_or words 1 0)) t.mask ∙ at-turn-edge k table words r lr (t.left few (omega arith)));
        others = λ q lq. get_or-set_other edges (at + r) q free 0 (λ e. ⊎_elim (λ b. omega arith) (λ b. omega arith) lq) ∙ t.others q lq;
        mask = t.mask;
        room = room;
        left = λ few lr. at-turn-next k table words new r _ (omega arith) (half_room n k r most (omega arith) few) halved (t.left few (omega arith));
      }
