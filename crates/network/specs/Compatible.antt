-- Rules 5 to 7 of 01, 'The sets'. They are of the loaded network and stay for the session. Assumes nothing.
-- 01's compatible set H of a signal is the field's set of compatible observability don't cares: patterns at which the gates may
-- use their freedom together. 01's open table of a gate has the entries that no pattern outside its H can deliver.
use Rattle.std.specs.Prelude.{Bool, not, cond, ◌&&◌, ◌||◌, List, [], ◌∷◌, map, ℕ, zero, suc, ◌+◌, ◌^◌, eqb, leb, ltb, length, get_or}
use Rattle.std.specs.Bool.{beq}
use Rattle.bits.specs.Range.{◌⇒◌, places, every, any, count}
use Rattle.bits.specs.Bit.{bit, number, table_of}
use Rattle.network.specs.Bounds.{most_gates}
use Rattle.network.specs.Net.{Gate, Net, arity, gate, entries, patterns, excluded_for, entry, values, entry_of}

-- ## 6. Edge sets. A set of fan-ins has fan-in r at bit r

-- t and u have the same value at each of the k fan-ins that is not free
unfoldable pub agree : ℕ → ℕ → ℕ → ℕ → Bool
agree k free t u = every k (λ r. bit free r || beq (bit t r) (bit u r))

-- the table is constant over all values of the free fan-ins, the rest held as in t
unfoldable pub constant : ℕ → ℕ → ℕ → ℕ → Bool
constant k table free t = every (2 ^ k) (λ u. agree k free t u ⇒ beq (bit table t) (bit table u))

-- the fan-ins already free once the first r, in file order, have had their turn at entry t
unfoldable pub turns : ℕ → ℕ → ℕ → ℕ → ℕ
turns k table t zero = 0
turns k table t (suc r) =
    let free = turns k table t r in
    cond (constant k table (free + 2 ^ r) t) (free + 2 ^ r) free

-- the fan-ins that are free at entry t, where the gate's own value counts
unfoldable pub free_fanins : Gate → ℕ → ℕ
free_fanins g t = turns (arity g) g.table t (arity g)

-- fan-in r's edge set holds a pattern: it lies in H of the gate, so that all edges are free, or fan-in r is free at the entry t that it gives
abbrev pub edge_set : Gate → Bool → ℕ → ℕ → Bool
edge_set g inH t r = inH || bit (free_fanins g t) r

-- ## 5. Compatible set H

-- the pattern x is excluded for each output that names the signal s
unfoldable pub at_outputs : Net → ℕ → ℕ → Bool
at_outputs N x s = every (length N.outputs) (λ i. eqb (get_or N.outputs i 0) s ⇒ excluded_for N i x)

-- of one pattern: start tells what the outputs leave of each signal's H, vs has the values, and gs are the gates from signal j on.
-- The intersection of what the outputs leave of s and of its edge sets at each of these gates that it feeds
unfoldable pub compatible_from : (ℕ → Bool) → List Bool → ℕ → List Gate → ℕ → Bool
compatible_from start vs j [] s = start s
compatible_from start vs j (g ∷ gs) s =
    let inH = compatible_from start vs (suc j) gs j in
    compatible_from start vs (suc j) gs s && every (arity g) (λ r. eqb (get_or g.fanins r 0) s ⇒ edge_set g inH (entry vs g) r)

-- H of the signal s holds the pattern x; H of an input counts as empty
unfoldable pub compatible : Net → ℕ → ℕ → Bool
compatible N s x = leb N.inputs s && compatible_from (at_outputs N x) (values N x) N.inputs N.gates s

-- the number of patterns in H of the signal s
unfoldable pub compatible_count : Net → ℕ → ℕ
compatible_count N s = count (patterns N) (compatible N s)

-- the counts of the first g gates, added
abbrev pub compatible_total : Net → ℕ → ℕ
compatible_total N zero = 0
compatible_total N (suc g) = compatible_total N g + compatible_count N (N.inputs + g)

-- ## 7. Open table

-- t agrees with the values of gate s's fan-ins at the pattern x, except at gates whose H holds x
unfoldable pub delivers : Net → ℕ → ℕ → ℕ → Bool
delivers N s x t =
    let g = gate N s in
    agree (arity g) (number (map (λ f. compatible N f x) g.fanins)) (entry_of N s x) t

-- some pattern outside H of gate s can deliver entry t
unfoldable pub closed : Net → ℕ → ℕ → Bool
closed N s t = any (patterns N) (λ x. not (compatible N s x) && delivers N s x t)

unfoldable pub open_table : Net → ℕ → ℕ
open_table N s = table_of (entries N s) (λ t. not (closed N s t))

-- as many places as there can be gates: what p says of each of m gates, and 0 past the last
abbrev pub per_gate : (m : ℕ) (p : ℕ → ℕ) → List ℕ
per_gate m p = places most_gates (λ g. cond (ltb g m) (p g) 0)

-- the open tables of all gates
unfoldable pub open_tables : Net → List ℕ
open_tables N = per_gate (length N.gates) (λ g. open_table N (N.inputs + g))
