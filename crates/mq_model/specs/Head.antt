-- Lines that are skipped, and the head, which gives the version of the language that a text is written in.
use Rattle.std.specs.Prelude.{◌∷◌, ◌||◌, ◌&&◌, ◌==◌, [], ℕ, List, Bool, true, false, if◌then◌else◌, codes}
use Rattle.std.specs.Str.{bytes_eq}
use Rattle.mq_base.specs.Text.{words_of}
use Rattle.mq_model.specs.Form.{Word}

-- the words of an empty line or of a comment
abbrev pub begins_comment : List Word → Bool
begins_comment [] = true
begins_comment ([] ∷ ws) = false
begins_comment ((b ∷ more) ∷ ws) = b == 35

-- an empty line, or a comment
abbrev pub is_skipped : List ℕ → Bool
is_skipped l = begins_comment (words_of l)

-- the number of a version
abbrev pub is_version : Word → Bool
is_version w = bytes_eq w (codes "1") || bytes_eq w (codes "2")

-- the words of a head: `model`, and the number of a version
abbrev pub is_head : List Word → Bool
is_head [] = false
is_head (w ∷ []) = false
is_head (w ∷ v ∷ []) = bytes_eq w (codes "model") && is_version v
is_head (w ∷ v ∷ u ∷ ws) = false

-- the version that the words of a head give
abbrev pub version_said : List Word → ℕ
version_said [] = 1
version_said (w ∷ []) = 1
version_said (w ∷ v ∷ ws) = if bytes_eq v (codes "2") then 2 else 1

-- the version of a text: the one in its first line that isn't skipped, which is the head if the text has no error
abbrev pub version_in : List (List ℕ) → ℕ
version_in [] = 1
version_in (l ∷ ls) = if is_skipped l then version_in ls else version_said (words_of l)
