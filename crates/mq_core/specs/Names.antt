-- The names of nodes and columns.
use Rattle.std.specs.Prelude.{◌∷◌, ◌||◌, ◌&&◌, ◌==◌, [], ℕ, List, length, Bool, false, not, nat_lt, codes}
use Rattle.std.specs.Char.{is_ascii_digit, is_ascii_lowercase}
use Rattle.std.specs.List.{list_all}
use Rattle.std.specs.Str.{bytes_eq}

-- a small letter, a digit or an underscore
abbrev pub is_name_byte : ℕ → Bool
is_name_byte b = is_ascii_lowercase b || is_ascii_digit b || (b == 95)

-- a small letter, then small letters, digits and underscores: 1 to 32 bytes, other than the word `from`
abbrev pub is_name : List ℕ → Bool
is_name [] = false
is_name (b ∷ more) = is_ascii_lowercase b && list_all is_name_byte more && nat_lt (length more) 32 && not (bytes_eq (b ∷ more) (codes "from"))
