-- The rows of a block, line after line. Assumes nothing.
use mathlib.Core.Path.{◌≡◌, refl, sym, ap, ◌∙◌}
use mathlib.Core.Bool.{true}
use mathlib.Core.List.{List, [], ◌∷◌, ◌++◌}
use Prim.Native.Nat.{ℕ, ◌-◌, ◌≤◌}
use native.Mathlib.Omega.{arith}
use lib.ListN.{length, get_or, drop}
use lib.Seq.{set-set}
use borrow.Author.Tests.{le-leb}
use Rattle.bits.specs.Bounds.{gate_places}
use Rattle.network.specs.declared.Session.{Session}
use Rattle.text.specs.Ascii.{ascii}
use Rattle.text.specs.Words.{Text}
use Rattle.blif.specs.Text.{statements}
use Rattle.blif.specs.Cover.{cover_table}
use Rattle.blif.specs.Read.{last_arity, with_table, read_blocks}
use Rattle.blifline.specs.declared.Cover.{Cover}
use Rattle.blifline.specs.Rows.{is_row_of, RowRead}
use Rattle.blifline.proofs.Covers.{cover-empty}
use Rattle.blifline.proofs.Tests.{row-closed, row-given, row-digit-is}
use Rattle.blifread.specs.Drafts.{draft_of, RowsTo}

pub table-twice : (t : Session) (g x y : ℕ) → with_table (with_table t g x) g y ≡ with_table t g y
table-twice t g x y = rw (set-set t.loaded g x y, set-set t.current g x y)

-- one line of the definition: a row of the last block
row_read : (signals outputs : List Text) (t : Session) (rows : List Text) (digit : ℕ) (line : List Text) (rest : List (List Text)) → 1 ≤ t.m
    → is_row_of (last_arity t) digit line ≡ true
    → read_blocks (draft_of signals outputs (with_table t (t.m - 1) (cover_table (last_arity t) (rows ++ get_or line 0 [] ∷ []) (get_or (get_or line 1 []) 0 0))) (rows ++ get_or line 0 [] ∷ []) (get_or (get_or line 1 []) 0 0)) rest
    ≡ read_blocks (draft_of signals outputs t rows digit) (line ∷ rest)
unfolding read_blocks
row_read signals outputs t rows digit line rest some e =
    rw (row-closed (last_arity t) digit line e (ascii "end"), row-closed (last_arity t) digit line e (ascii "names"), le-leb 1 t.m some, e)

module _ (text : Text) (at k : ℕ) where
  pub rows_start : at ≤ length text → k ≤ gate_places → RowsTo text at k 0 0 at
  rows_start l m = record {
    rows = [];
    from = omega arith;
    place = l;
    running = record { table_is = cover-empty k m; fresh = λ z. refl };
    reads = λ signals outputs t some e. refl;
  }

  module _ (digit table i next : ℕ) (line : List Text) (e : statements (drop i text) ≡ line ∷ statements (drop next text)) (H : RowsTo text at k digit table i)
      (x : Cover) (row : RowRead k digit table line x) where
    -- one row more
    pub rows_on : (x.digit ≡ 0 → ⊥) → i ≤ next → next ≤ length text → RowsTo text at k x.digit x.table next
    rows_on n l m =
        let t = row-given k digit line (λ z. n (row.digit-is ∙ z)) in
        let d : x.digit ≡ get_or (get_or line 1 []) 0 0 = row.digit-is ∙ row-digit-is k digit line t in
        let R = row.goes_on H.rows H.running n in
        let more = H.rows ++ get_or line 0 [] ∷ [] in
        let rest = statements (drop next text) in
        record {
          rows = more;
          from = omega (arith, H.from);
          place = m;
          running = R;
          reads = λ signals outputs u some a.
              let g = u.m - 1 in
              let v = with_table u g table in
              ap (λ (y : ℕ). read_blocks (draft_of signals outputs (with_table u g y) more x.digit) rest) R.table_is
              ∙ ap (λ (y : ℕ). read_blocks (draft_of signals outputs (with_table u g (cover_table k more y)) more y) rest) d
              ∙ ap (λ (y : ℕ). read_blocks (draft_of signals outputs (with_table u g (cover_table y more (get_or (get_or line 1 []) 0 0))) more (get_or (get_or line 1 []) 0 0)) rest) (sym a)
              ∙ ap (λ (w : Session). read_blocks (draft_of signals outputs w more (get_or (get_or line 1 []) 0 0)) rest) (sym (table-twice u g table (cover_table (last_arity u) more (get_or (get_or line 1 []) 0 0))))
              ∙ row_read signals outputs v H.rows digit line rest some (ap (λ (y : ℕ). is_row_of y digit line) a ∙ t)
              ∙ sym (ap (read_blocks (draft_of signals outputs v H.rows digit)) e)
              ∙ H.reads signals outputs u some a;
        }
