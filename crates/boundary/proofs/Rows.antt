-- The tables of all gates: the rows of the first g are laid. Assumes nothing.
use mathlib.Core.Path.{◌≡◌, ◌∙◌}
use mathlib.Core.List.{List, [], ◌∷◌}
use Prim.Native.Nat.{ℕ, ◌+◌, ◌*◌, ◌-◌, ◌≤◌, ◌<◌}
use native.Mathlib.Numerals.{add-one}
use native.Mathlib.Omega.{arith}
use lib.ListN.{length, get_or}
use lib.Seq.{sets}
use Rattle.bits.specs.Lists.{overwritten}
use Rattle.buffer.specs.Laid.{Laid}
use Rattle.buffer.proofs.Laying.{laid-append, laid-length, laid-start}
use Rattle.network.specs.declared.Session.{Session}
use Rattle.network.specs.declared.Sdc.{Sdc}
use Rattle.network.specs.DontCares.{sdc}
use Rattle.network.specs.Flat.{current_net}
use Rattle.network.specs.Calls.{sdc_words}
use Rattle.dontcares.specs.Tabled.{Tabled}
use Rattle.promises.specs.Boundary.{all_table_words, tables_room}

module _ (s : Session) (g : ℕ) {b b₁ : List ℕ} (l : Laid b 0 (all_table_words s g) b₁ (tables_room * g)) where
  pub row_room : g < s.m → tables_room * s.m ≤ length b → tables_room * g + tables_room ≤ length b₁
  row_room h r = let n = laid-length l in omega arith

  pub row_next : {cdcs fulls b₂ : List ℕ} {d : Sdc} → Tabled (current_net s) cdcs fulls s.n 0 s.m → g < s.m → d ≡ sdc_words (sdc (current_net s) (s.n + g))
      → b₂ ≡ sets b₁ (tables_room * g) (d.low ∷ d.high ∷ get_or cdcs g 0 ∷ get_or fulls g 0 ∷ get_or s.open_tables g 0 ∷ [])
      → Laid b 0 (all_table_words s (g + 1)) b₂ (tables_room * (g + 1))
  row_next t h e q =
      let p : s.n + g - s.n ≡ g = omega arith in
      let at = t.at g (omega arith) h in
      rw add-one (laid-append l (record {
        buffer = q ∙ rw (e, at.0, at.1, p);
        behind = omega arith;
      }))

  pub rows-done : g ≡ s.m → tables_room * s.m ≤ length b → b₁ ≡ overwritten (all_table_words s s.m) b
  rows-done e r =
      let k : Laid b 0 (all_table_words s s.m) b₁ (tables_room * s.m) = rw e at l in
      let n = k.behind in
      (laid-start b (all_table_words s s.m) b₁ (tables_room * s.m) (omega arith) k).1
