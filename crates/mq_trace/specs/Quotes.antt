-- The point that csv has reached in a text, as far as quotes matter.
use Rattle.std.specs.Prelude.{◌∷◌, ◌==◌, [], ℕ, List, Bool, true, false}
use Rattle.std.specs.List.{list_any}
use Rattle.csv.specs.Machine.{step}
use Rattle.csv.specs.Reading.{default_config, strip_bom}
use Rattle.csv.specs.declared.parser.State.{State}
use Rattle.csv.specs.declared.parser.State.TheVariants as st
use Rattle.mq_trace.specs.declared.quotes.Place.{Place}
use Rattle.mq_trace.specs.declared.quotes.Place.TheVariants.{Start, Field, Quoted}

-- the text contains a quote
abbrev pub has_quote : List ℕ → Bool
has_quote text = list_any (λ c. c == 34) text

-- csv's state after a text, starting from a state
unfoldable pub state_after : State → List ℕ → State
state_after s [] = s
state_after s (c ∷ rest) = state_after (step default_config s c).0 rest

-- the place of a state
abbrev pub place_of : State → Place
place_of st.StartRecord = Start
place_of st.AfterCr = Start
place_of st.StartField = Start
place_of st.AfterQuote = Start
place_of st.InField = Field
place_of st.InComment = Field
place_of st.InQuoted = Quoted
place_of st.InEscape = Quoted

-- the place after a text
abbrev pub place_after : List ℕ → Place
place_after text = place_of (state_after st.StartRecord text)

abbrev pub is_outside : Place → Bool
is_outside Start = true
is_outside Field = true
is_outside Quoted = false

-- the state in which a piece begins: between two records, or within quotes
abbrev pub begins : Bool → State
begins true = st.StartRecord
begins false = st.InQuoted

-- a piece, without its byte order mark, ends outside quotes
abbrev pub is_closed : Bool → List ℕ → Bool
is_closed outside piece = is_outside (place_of (state_after (begins outside) (strip_bom piece)))
