-- The words after the program's name: the names of three files.
use Rattle.std.specs.Prelude.{◌==◌, ◌||◌, ℕ, Bool, List, get_or, length, not, [], if◌then◌else◌}
use Rattle.std.specs.List.{list_any}
use Rattle.mq_base.specs.Text.{begins_with_dash}

-- there aren't exactly three words, or one begins with a dash
abbrev pub refuses_words : List (List ℕ) → Bool
refuses_words words = not (length words == 3) || list_any begins_with_dash words

-- the name of a file: of the model (0), the trace (1) or the edits (2)
abbrev pub name_at : List (List ℕ) → ℕ → List ℕ
name_at words file = get_or words file []

-- the names of the files that are read: the three words, or none if the words are refused
abbrev pub names_read : List (List ℕ) → List (List ℕ)
names_read words = if refuses_words words then [] else words
