-- What a text of edits says: its first fault, if it has one, and the edits that it declares.
use Rattle.std.specs.Prelude.{◌≡◌, ◌≢◌, ◌+◌, ◌-◌, ◌^◌, ◌∷◌, ◌&&◌, ◌==◌, [], ℕ, Bool, List, codes, drop, get_or, if◌then◌else◌, is_none, length, map, min, nat_lt, Option, Some, None, unwrap_or}
use Rattle.std.specs.List.{flat_map}
use Rattle.std.specs.Option.{option_or}
use Rattle.std.specs.Str.{bytes_eq}
use Rattle.std.specs.Str.Parse.{digits_value}
use Rattle.mq_base.specs.Text.{is_number, lines_of, words_of}
use Rattle.mq_core.specs.declared.model.Network.{Network}
use Rattle.mq_model.specs.Form.{Word}
use Rattle.mq_model.specs.NetworkOf.{without_mark}
use Rattle.mq_trace.specs.Trace.{source_named}
use Rattle.mq_edits.specs.declared.edit.Edit.{Edit}
use Rattle.mq_edits.specs.declared.edit.Edit.TheVariants.{Set, Add}
use Rattle.mq_edits.specs.declared.fault.EditFault.{EditFault}
use Rattle.mq_edits.specs.declared.fault.EditFault.TheVariants.{TooLong, BadLine, TooManyRows, UnknownRow, UnknownSource, BadNumber, Memory}

-- the word at an index, from 0
abbrev pub word_at : List Word → ℕ → Word
word_at words index = get_or words index []

-- the first words of lines
abbrev pub is_set : Word → Bool
is_set word = bytes_eq word (codes "set")

abbrev pub is_add : Word → Bool
is_add word = bytes_eq word (codes "add")

-- the fault of a line whose number of words isn't the wanted one: at the first word too many, or after the last word
abbrev pub count_fault : ℕ → ℕ → ℕ → Option EditFault
count_fault line wanted count = if count == wanted then None else Some (BadLine line (min wanted count + 1))

-- the first fault of words that should be values; `number` is the number of the first of them in its line
unfoldable pub value_fault : ℕ → ℕ → List Word → Option EditFault
value_fault line number [] = None
value_fault line number (word ∷ words) = if is_number word (2 ^ 36) then value_fault line (number + 1) words else Some (BadNumber line number)

-- the first fault of the words of a row, which are its source, its time and its values; `number` is the number of the first of
-- them in its line
abbrev pub row_fault : Network → ℕ → ℕ → List Word → Option EditFault
row_fault net line number words =
    if is_none (source_named net (word_at words 0)) then Some (UnknownSource line)
    else if is_number (word_at words 1) (2 ^ 60) then value_fault line (number + 2) (drop 2 words)
    else Some (BadNumber line (number + 1))

-- a word is the number of a data record, from 1, if there are this many
abbrev pub is_record : ℕ → Word → Bool
is_record rows word = is_number word rows && nat_lt 0 (digits_value 10 word)

-- the row, from 0, of the data record whose number a word is
abbrev pub record_named : ℕ → Word → Option ℕ
record_named rows word = if is_record rows word then Some (digits_value 10 word - 1) else None

-- the first fault of the words after `set` in a line, if there are this many data records so far
abbrev pub set_fault : Network → ℕ → ℕ → List Word → Option EditFault
set_fault net rows line words =
    option_or (count_fault line (length net.columns + 4) (length words + 1))
    (if is_record rows (word_at words 0) then row_fault net line 3 (drop 1 words) else Some (UnknownRow line))

-- the first fault of the words after `add` in a line
abbrev pub add_fault : Network → ℕ → ℕ → List Word → Option EditFault
add_fault net rows line words =
    option_or (count_fault line (length net.columns + 3) (length words + 1))
    (if nat_lt rows 1048576 then row_fault net line 2 words else Some (TooManyRows line))

-- the first fault of the words of a line; an empty line has no words
abbrev pub words_fault : Network → ℕ → ℕ → List Word → Option EditFault
words_fault net rows line [] = None
words_fault net rows line (word ∷ words) =
    if is_set word then set_fault net rows line words
    else if is_add word then add_fault net rows line words
    else Some (BadLine line 1)

-- the number of data records that a line adds
abbrev pub rows_added : List Word → ℕ
rows_added [] = 0
rows_added (word ∷ words) = if is_add word then 1 else 0

-- the first fault of lines, given the number of the first line and the number of data records before it
unfoldable pub lines_fault : Network → ℕ → ℕ → List (List ℕ) → Option EditFault
lines_fault net rows number [] = None
lines_fault net rows number (line ∷ lines) =
    option_or (words_fault net rows number (words_of line)) (lines_fault net (rows + rows_added (words_of line)) (number + 1) lines)

-- the first fault of a text, if it has one, for a network and a trace of this many data records
abbrev pub edits_fault : Network → ℕ → List ℕ → Option EditFault
edits_fault net rows text = if nat_lt 16777216 (length text) then Some TooLong else lines_fault net rows 1 (lines_of (without_mark text))

-- What lines without a fault say. The words of a row are its source, its time and its values.
abbrev pub source_in : Network → List Word → ℕ
source_in net words = unwrap_or (source_named net (word_at words 0)) 0

abbrev pub time_in : List Word → ℕ
time_in words = digits_value 10 (word_at words 1)

abbrev pub values_in : List Word → List ℕ
values_in words = map (digits_value 10) (drop 2 words)

abbrev pub set_in : Network → List Word → Edit
set_in net words = Set (digits_value 10 (word_at words 0) - 1) (source_in net (drop 1 words)) (time_in (drop 1 words)) (values_in (drop 1 words))

abbrev pub add_in : Network → List Word → Edit
add_in net words = Add (source_in net words) (time_in words) (values_in words)

-- the edit of a line, if it isn't empty
abbrev pub edits_of_words : Network → List Word → List Edit
edits_of_words net [] = []
edits_of_words net (word ∷ words) = (if is_set word then set_in net words else add_in net words) ∷ []

abbrev pub edits_of_lines : Network → List (List ℕ) → List Edit
edits_of_lines net lines = flat_map (λ line. edits_of_words net (words_of line)) lines

-- the edits that a text declares, if it has no fault
abbrev pub edits_in : Network → List ℕ → List Edit
edits_in net text = edits_of_lines net (lines_of (without_mark text))

-- unless memory ran out, this error is this fault
abbrev pub Tells : EditFault → Option EditFault → Type 0
Tells e fault = e ≢ Memory → fault ≡ Some e
