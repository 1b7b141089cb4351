-- The first error in a text.
use Rattle.std.specs.Prelude.{◌≡◌, ◌≢◌, ◌+◌, ◌-◌, ◌∷◌, ◌++◌, ◌||◌, ◌&&◌, ◌==◌, [], ℕ, List, length, map, get_or, Bool, false, not, if◌then◌else◌, nat_le, nat_lt, Option, Some, None, Result, Ok, Err, option_map, codes}
use Rattle.std.specs.List.{list_all, list_any, flat_map, enumerate_from}
use Rattle.std.specs.Option.{option_or}
use Rattle.std.specs.Str.{bytes_eq}
use Rattle.mq_base.specs.Text.{lines_of, words_of}
use Rattle.mq_model.specs.NetworkOf.{nodes_of, said_of, saids_of, without_mark}
use Rattle.mq_model.specs.Form.{Word, read, whole}
use Rattle.mq_model.specs.Head.{is_head, is_skipped, version_in}
use Rattle.mq_graph.specs.Rank.{left_node}
use Rattle.mq_model.specs.Lines.{line}
use Rattle.mq_model.specs.Said.{columns_of, declared, gives, is_among, is_same_input, is_source, names_of, reads_of}
use Rattle.mq_model.specs.declared.fault.ModelFault.{ModelFault}
use Rattle.mq_model.specs.declared.fault.ModelFault.TheVariants.{TooLong, BadByte, BadHead, BadLine, NameTwice, TooMany, UnknownInput, OutputTaken, NoSource, Cycle, Memory}
use Rattle.mq_model.specs.declared.said.SaidInput.{SaidInput}
use Rattle.mq_model.specs.declared.said.Said.{Said}

-- Lines.
abbrev pub is_allowed : ℕ → Bool
is_allowed b = (b == 9) || (nat_le 32 b && nat_le b 126)

abbrev pub begins_bound : List Word → Bool
begins_bound [] = false
begins_bound (w ∷ ws) = bytes_eq w (codes "bound")

-- a line that version 1 doesn't have
abbrev pub begins_later : List Word → Bool
begins_later [] = false
begins_later (w ∷ ws) = bytes_eq w (codes "fork") || (bytes_eq w (codes "join") || bytes_eq w (codes "trunk"))

-- a line whose first word is barred: a second `bound`, or a word of version 2 in a text of version 1
abbrev pub is_barred : Bool → ℕ → List Word → Bool
is_barred has_bound version ws = (has_bound && begins_bound ws) || (nat_lt version 2 && begins_later ws)

-- a line that declares the 65th node, or names a 17th column
abbrev pub is_too_many : List Said → Said → Bool
is_too_many before said = (nat_le 64 (length (names_of before)) && not (length (declared said) == 0)) || nat_lt 16 (length (columns_of (before ++ said ∷ [])))

-- the error in line n, which says this after lines without an error
abbrev pub said_fault : ℕ → List Said → Said → Option ModelFault
said_fault n before said =
    if list_any (is_among (names_of before)) (declared said) then Some (NameTwice n)
    else if is_too_many before said then Some (TooMany n)
    else None

-- the error in a line's words, as the table reads them, after these lines
abbrev pub read_fault : List (List ℕ) → List Word → Result Said (List Word) → Option ModelFault
read_fault before ws (Err left) = Some (BadLine (length before + 1) (length ws - length left + 1))
read_fault before ws (Ok said) = said_fault (length before + 1) (saids_of before) said

abbrev pub words_fault : List (List ℕ) → List Word → Option ModelFault
words_fault before ws =
    if is_barred (list_any (λ l. begins_bound (words_of l)) before) (version_in before) ws then Some (BadLine (length before + 1) 1)
    else read_fault before ws (whole (read line ws))

-- the error in a line after these lines, which have none
unfoldable pub line_fault : List (List ℕ) → List ℕ → Option ModelFault
line_fault before l =
    if is_skipped l then None
    else if not (list_all is_allowed l) then Some (BadByte (length before + 1))
    else if list_all is_skipped before then (if is_head (words_of l) then None else Some (BadHead (length before + 1)))
    else words_fault before (words_of l)

unfoldable pub lines_fault : List (List ℕ) → List (List ℕ) → Option ModelFault
lines_fault before [] = if list_all is_skipped before then Some (BadHead (length before + 1)) else None
lines_fault before (l ∷ ls) = option_or (line_fault before l) (lines_fault (before ++ l ∷ []) ls)

-- Inputs, each with the number of its line and its port.
abbrev pub PlacedInput : Type 0
PlacedInput = ℕ × ℕ × SaidInput

abbrev pub reads_of_line : ℕ × List ℕ → List PlacedInput
reads_of_line (i, l) = elim (said_of l) [ None ↦ [] | Some said ↦ map (λ (port, input). (i, port, input)) (enumerate_from 0 (reads_of said)) ]

abbrev pub reads_of_text : List (List ℕ) → List PlacedInput
reads_of_text lines = flat_map reads_of_line (enumerate_from 1 lines)

-- the first error in these inputs, if these outputs are taken already
unfoldable pub inputs_fault : List Said → List SaidInput → List PlacedInput → Option ModelFault
inputs_fault saids taken [] = None
inputs_fault saids taken (read ∷ more) =
    if not (list_any (gives read.2) saids) then Some (UnknownInput read.0 read.1)
    else if list_any (is_same_input read.2) taken then Some (OutputTaken read.0 read.1)
    else inputs_fault saids (taken ++ read.2 ∷ []) more

-- Sources and cycles.
abbrev pub source_fault : List Said → Option ModelFault
source_fault saids = if list_any is_source saids then None else Some NoSource

-- the numbers of the lines that declare nodes, by node
abbrev pub node_line_at : ℕ × List ℕ → List ℕ
node_line_at (i, l) = elim (said_of l) [ None ↦ [] | Some said ↦ map (λ name. i) (declared said) ]

abbrev pub node_lines : List (List ℕ) → List ℕ
node_lines lines = flat_map node_line_at (enumerate_from 1 lines)

abbrev pub cycle_fault : List (List ℕ) → Option ModelFault
cycle_fault lines = option_map (λ node. Cycle (get_or (node_lines lines) node 0) node) (left_node (nodes_of (saids_of lines)))

-- The whole text.
abbrev pub text_fault : List (List ℕ) → Option ModelFault
text_fault lines =
    option_or (lines_fault [] lines)
    (option_or (inputs_fault (saids_of lines) [] (reads_of_text lines))
    (option_or (source_fault (saids_of lines)) (cycle_fault lines)))

abbrev pub model_fault : List ℕ → Option ModelFault
model_fault text = if nat_lt 65536 (length text) then Some TooLong else text_fault (lines_of (without_mark text))

-- Unless memory ran out, this is the error.
abbrev pub Tells : ModelFault → Option ModelFault → Type 0
Tells e fault = e ≢ Memory → fault ≡ Some e
