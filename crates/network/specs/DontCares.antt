-- Rules 1 to 4 of 01, 'The sets', rule 2 as request Two of 02 has it, and the harm that a verdict looks for. They are of the current network. Assumes nothing.
use Rattle.std.specs.Prelude.{◌≡◌, ◌≢◌, ◌↔◌, Bool, true, false, not, ◌&&◌, ◌||◌, List, [], ◌∷◌, ◌++◌, ℕ, suc, ◌%◌, ◌^◌, ◌<◌, eqb, length, get_or}
use Rattle.std.specs.Bool.{beq}
use Rattle.bits.specs.Range.{◌⇒◌, places, every, any}
use Rattle.bits.specs.Bit.{bit, differs, table_of}
use Rattle.network.specs.Net.{Gate, Net, arity, gate, entries, patterns, excluded, excluded_for, occurs, entry, output, entry_of}

-- 1. SDC, satisfiability don't cares: over 2^(k+1) entries, entry t + 2^k·o is set when o differs from the table's entry t
unfoldable pub sdc : Net → ℕ → ℕ
sdc N s =
    let g = gate N s in
    table_of (2 ^ suc (arity g)) (λ e. differs (bit e (arity g)) (bit g.table (e % 2 ^ arity g)))

-- 2, and request Two of 02. CDC, controllability don't cares: entry t is set when no pattern outside E gives the fan-ins the values of t
unfoldable pub cdc : Net → ℕ → ℕ
cdc N s = table_of (entries N s) (λ t. not (any (patterns N) (λ x. occurs N x && eqb (entry_of N s x) t)))

-- c has, of the entries of gate s, exactly those that no pattern outside E gives
abbrev pub NeverGiven : Net → ℕ → ℕ → Type 0
NeverGiven N s c = (t : ℕ) → t < entries N s → (bit c t ≡ true) ↔ ((x : ℕ) → x < patterns N → excluded N x ≡ false → entry_of N s x ≢ t)

-- the values where that of signal s is inverted
abbrev pub run_inverted : ℕ → List Bool → List Gate → List Bool
run_inverted s vs [] = vs
run_inverted s vs (g ∷ gs) = run_inverted s (vs ++ differs (eqb (length vs) s) (bit g.table (entry vs g)) ∷ []) gs

unfoldable pub values_inverted : Net → ℕ → ℕ → List Bool
values_inverted N s x = run_inverted s (places N.inputs (bit x)) N.gates

-- output i keeps its value at the pattern x when gate s is inverted
abbrev pub output_kept : Net → ℕ → ℕ → ℕ → Bool
output_kept N s x i = beq (get_or (values_inverted N s x) (get_or N.outputs i 0) false) (output N x i)

-- 3. ODC, observability don't cares: the patterns at which inverting the gate's value changes no output
unfoldable pub odc : Net → ℕ → ℕ → Bool
odc N s x = every (length N.outputs) (output_kept N s x)

-- 4. Full table: entry t is set when every pattern that gives t lies in E or in the ODC
unfoldable pub full : Net → ℕ → ℕ
full N s = table_of (entries N s) (λ t. every (patterns N) (λ x. eqb (entry_of N s x) t ⇒ (excluded N x || odc N s x)))

-- output i of the network M differs from that of L at the pattern x, which is not excluded for it
unfoldable pub harms : Net → Net → ℕ → ℕ → Bool
harms L M x i = not (excluded_for L i x) && not (beq (output L x i) (output M x i))
