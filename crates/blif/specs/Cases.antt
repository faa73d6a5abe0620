-- Cases, each computed and held against what is stated: texts read, sessions written. Assumes nothing.
use Rattle.std.specs.Prelude.{List, [], ◌∷◌, ◌++◌, ℕ, zero, suc, length, take, drop, replicate, Result, Ok, Err}
use Prim.Native.String.{String}
use Rattle.network.specs.declared.Refusal.{Refusal}
use Rattle.network.specs.declared.Session.{Session}
use Rattle.network.specs.Bounds.{most_entries, excluded_words}
use Rattle.network.specs.Net.{Net, gate}
use Rattle.network.specs.Flat.{current_net}
use Rattle.network.specs.Refusals.{number_of, values_of}
use Rattle.network.specs.Load.{started, with_gate}
use Rattle.network.specs.Examples.{twin_session, or_six_session}
use Rattle.network.specs.Calls.{stored}
use Rattle.text.specs.Ascii.{ascii}
use Rattle.text.specs.Numbers.{decimal}
use Rattle.text.specs.Words.{Text}
use Rattle.blif.specs.Text.{text}
use Rattle.blif.specs.Read.{counted, with_outputs, read_blif}
use Rattle.blif.specs.Write.{outgoing, rows_in, lines_of, blif_text, most_block_bytes, most_blif_bytes}

-- ## A text read: the number of its refusal; else n, the outputs' signals and the tables

abbrev outcome : Result Session Refusal → List ℕ
outcome (Ok s) = s.n ∷ take s.p s.outputs ++ take s.m s.current
outcome (Err r) = number_of r ∷ values_of r

abbrev reads : Text → List ℕ
reads bytes = outcome (read_blif bytes)

-- behind the lines of two inputs and an output
abbrev header : Text
header = ascii ".model t\n.inputs a b\n.outputs f\n"

abbrev body : String → List ℕ
body s = reads (header ++ ascii s)

-- behind those of seven inputs
abbrev seven : String → List ℕ
seven s = reads (ascii ".model t\n.inputs a b c d e f g\n.outputs x\n" ++ ascii s)

-- with c blocks g0, g1, .., each a copy of the input a
abbrev copies_of_a : ℕ → Text
copies_of_a zero = []
copies_of_a (suc c) = copies_of_a c ++ (ascii ".names a g" ++ (decimal c ++ ascii "\n1 1\n"))

abbrev pub tables : List (List ℕ × List ℕ)
tables =
    -- the first fan-in leftmost
    (body ".names a b f\n10 1\n.end\n", 2 ∷ 2 ∷ 0x2 ∷ [])
    -- a cover of zeros; an empty one is the constant 0; all entries
    ∷ (body ".names a b f\n1- 0\n.end\n", 2 ∷ 2 ∷ 0x5 ∷ [])
    ∷ (body ".names a b f\n.end\n", 2 ∷ 2 ∷ 0x0 ∷ [])
    ∷ (body ".names a b f\n-- 0\n.end\n", 2 ∷ 2 ∷ 0x0 ∷ [])
    ∷ (body ".names a b f\n-- 1\n.end\n", 2 ∷ 2 ∷ 0xF ∷ [])
    -- rows may overlap and repeat
    ∷ (reads (ascii ".model vote\n.inputs s1 s2 s3 s4\n.outputs maj\n.names s1 s2 s3 s4 maj\n11-- 1\n1-1- 1\n1--1 1\n-11- 1\n-1-1 1\n--11 1\n11-- 1\n.end\n"), 4 ∷ 4 ∷ 0xFEE8 ∷ [])
    ∷ (reads (ascii ".model t\n.inputs a b c\n.outputs x\n.names a b c nor3\n1-- 0\n-1- 0\n--1 0\n.names a b nand2\n11 0\n.names nor3 nand2 x\n00 0\n11 0\n.end\n"), 3 ∷ 5 ∷ 0x1 ∷ 0x7 ∷ 0x6 ∷ [])
    -- five fan-ins, and six, whose table has all 64 bits
    ∷ (seven ".names a b c d e x\n11111 1\n.end\n", 7 ∷ 7 ∷ 0x80000000 ∷ [])
    ∷ (seven ".names a b c d e f x\n111111 1\n.end\n", 7 ∷ 7 ∷ 0x8000000000000000 ∷ [])
    ∷ (seven ".names a b c d e f x\n-----1 1\n.end\n", 7 ∷ 7 ∷ 0xFFFFFFFF00000000 ∷ [])
    ∷ (seven ".names a b c d e f x\n000000 0\n.end\n", 7 ∷ 7 ∷ 0xFFFFFFFFFFFFFFFE ∷ [])
    ∷ (seven ".names a b c d e f x\n------ 1\n.end\n", 7 ∷ 7 ∷ 0xFFFFFFFFFFFFFFFF ∷ [])
    ∷ []

abbrev pub layouts : List (List ℕ × List ℕ)
layouts =
    -- only the first word of a line is a keyword
    (reads (ascii ".model .model\n.inputs .inputs .outputs .names .end\n.outputs .end .model\n.names .inputs .end .model\n10 1\n.end\n"), 4 ∷ 3 ∷ 4 ∷ 0x2 ∷ [])
    -- carriage returns, tabs, comments, blank lines, no newline at the end
    ∷ (reads (ascii "# a\r\n.model t\r\n\n.inputs\ta b#c\r\n  .outputs f \r\n.names a b f# x\n# 1\n10\t1\n\t\n.end # y"), 2 ∷ 2 ∷ 0x2 ∷ [])
    -- what follows `.end`: a comment of any bytes, else nothing but blanks
    ∷ (reads (header ++ (ascii ".names a b f\n10 1\n.end\n \n# " ++ 0x1A ∷ [])), 2 ∷ 2 ∷ 0x2 ∷ [])
    ∷ (reads (header ++ (ascii ".names a b f\n10 1\n.end\n" ++ 0x1A ∷ [])), 17 ∷ [])
    -- an output may be an input, and may share its signal with no other output of the line
    ∷ (reads (ascii ".model t\n.inputs a b\n.outputs a f b\n.names b a f\n10 1\n-1 1\n.end\n"), 2 ∷ 0 ∷ 2 ∷ 1 ∷ 0xE ∷ [])
    ∷ []

abbrev pub refused : List (List ℕ × List ℕ)
refused =
    -- a text that stops before `.end`
    (reads [], 17 ∷ [])
    ∷ (body "", 17 ∷ [])
    ∷ (body ".names a b f\n11 1\n", 17 ∷ [])
    -- `.inputs`: a name twice comes before the count
    ∷ (reads (ascii ".model t\n.inputs a a\n"), 18 ∷ [])
    ∷ (reads (ascii ".model t\n.inputs a b c d e f g h i j k\n"), 3 ∷ [])
    ∷ (reads (ascii ".model t\n.inputs a b c d e f g h i j j\n"), 18 ∷ [])
    -- the first line at fault decides
    ∷ (reads (ascii ".model t\n.inputs\nrubbish\n"), 3 ∷ [])
    -- `.names`: 17 before 18 before 3
    ∷ (body ".names\n", 3 ∷ [])
    ∷ (body ".names f\n", 3 ∷ [])
    ∷ (body ".names a\n", 18 ∷ [])
    ∷ (body ".names f f\n", 18 ∷ [])
    ∷ (body ".names a q f\n", 18 ∷ [])
    ∷ (reads (header ++ (ascii ".names a q f" ++ 0x1F ∷ 0x0A ∷ [])), 17 ∷ [])
    ∷ (seven ".names a b c d e f g x\n", 3 ∷ [])
    ∷ (seven ".names a b c d e f g g x\n", 18 ∷ [])
    -- a name is known from its block on
    ∷ (body ".names g f\n1 1\n.names a g\n1 1\n.end\n", 18 ∷ [])
    -- a forty-first block
    ∷ (reads (header ++ (copies_of_a 40 ++ ascii ".names a h\n")), 3 ∷ [])
    ∷ (reads (header ++ (copies_of_a 40 ++ ascii ".names a g0\n")), 18 ∷ [])
    -- no row: another digit than before, another width, a word too many; lines of other kinds
    ∷ (body ".names a b f\n11 1\n00 0\n", 17 ∷ [])
    ∷ (body ".names a b f\n1 1\n", 17 ∷ [])
    ∷ (body ".names a b f\n11 -\n", 17 ∷ [])
    ∷ (body ".names a b f\n1 1 1\n", 17 ∷ [])
    ∷ (body ".latch a q\n", 17 ∷ [])
    ∷ (body ".inputs c\n", 17 ∷ [])
    -- no continuation of lines
    ∷ (body ".names a b \\\nf\n", 17 ∷ [])
    -- `.end`: one word, then the outputs' names, then the number of gates
    ∷ (body ".end x\n", 17 ∷ [])
    ∷ (body ".end\n", 18 ∷ [])
    ∷ (reads (ascii ".model t\n.inputs a\n.outputs a\n.end\n"), 3 ∷ [])
    ∷ []

-- ## A session written

-- two inputs, an AND, and its inverter
abbrev pair : Session
pair = with_outputs (counted (with_gate (with_gate (started 2 0 6) 0 2 (0 ∷ 1 ∷ []) 0x8) 1 1 (2 ∷ []) 0x1) 2) (0 ∷ 2 ∷ 0 ∷ 2 ∷ 3 ∷ 2 ∷ [])

-- c copies of one input, of which the first drives both outputs
abbrev row : ℕ → Net
row c = record {
  inputs = 1;
  excluded = replicate excluded_words 0;
  gates = replicate c (record { fanins = 0 ∷ []; table = 2 });
  outputs = 1 ∷ 1 ∷ [];
}

-- the rows of the last gate of or_six
abbrev or_rows : List (List Text)
or_rows = rows_in (gate (current_net or_six_session) 7) most_entries

abbrev pub written : List (Text × Text)
written =
    (blif_text twin_session, ascii ".model s\n.inputs s0\n.outputs s3\n.names s0 s1\n1 1\n.names s0 s2\n1 1\n.names s1 s2 s3\n10 1\n01 1\n11 1\n.end\n")
    -- the current table goes out; the constant 0 has no row
    ∷ (blif_text (stored twin_session (record { signal = 1; table = 0 })), ascii ".model s\n.inputs s0\n.outputs s3\n.names s0 s1\n.names s0 s2\n1 1\n.names s1 s2 s3\n10 1\n01 1\n11 1\n.end\n")
    -- an output that an input drives or that repeats an earlier one gets a gate of its own, behind all others, in output order
    ∷ (blif_text pair, ascii ".model s\n.inputs s0 s1\n.outputs s4 s2 s5 s6 s3 s7\n.names s0 s1 s2\n11 1\n.names s2 s3\n0 1\n.names s0 s4\n1 1\n.names s0 s5\n1 1\n.names s2 s6\n1 1\n.names s2 s7\n1 1\n.end\n")
    -- the shortest text, and the length of one with forty gates
    ∷ (text (lines_of (record { inputs = 1; excluded = []; gates = record { fanins = 0 ∷ []; table = 0 } ∷ []; outputs = 1 ∷ [] })), ascii ".model s\n.inputs s0\n.outputs s1\n.names s0 s1\n.end\n")
    ∷ (length (text (lines_of (outgoing (row 39)))) ∷ [], 752 ∷ [])
    -- which a copy may exceed
    ∷ (length (outgoing (row 39)).gates ∷ length (outgoing (row 40)).gates ∷ [], 40 ∷ 41 ∷ [])
    -- and back
    ∷ (reads (blif_text pair), 2 ∷ 4 ∷ 2 ∷ 5 ∷ 6 ∷ 3 ∷ 7 ∷ 0x8 ∷ 0x1 ∷ 0x2 ∷ 0x2 ∷ 0x2 ∷ 0x2 ∷ [])
    -- six fan-ins: a row for each of the 63 ones; and back
    ∷ (length or_rows ∷ [], 63 ∷ [])
    ∷ (text (take 2 or_rows ++ drop 62 or_rows), ascii "100000 1\n010000 1\n111111 1\n")
    ∷ (reads (blif_text or_six_session), 1 ∷ 7 ∷ 0x2 ∷ 0x2 ∷ 0x2 ∷ 0x2 ∷ 0x2 ∷ 0x2 ∷ 0xFFFFFFFFFFFFFFFE ∷ [])
    -- the most bytes of a block, and of a text
    ∷ (most_block_bytes ∷ most_blif_bytes ∷ [], 611 ∷ 24543 ∷ [])
    ∷ []
