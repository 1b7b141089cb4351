-- Lists of words, each with its fault or what it asks for, by computing the definitions.
use Rattle.std.proofs.Common.{◌≡◌, ℕ, List, [], ◌∷◌, Some, None, true, false, refl}
use Rattle.std.specs.Prelude.{codes}
use Rattle.mq_words.specs.Words.{block_asked, form_asked, jobs_asked, made_asked, usage_fault, workers_asked, words_left}
use Rattle.mq_words.specs.declared.fault.UsageFault.TheVariants.{Words, Form, Workers, Block, Made, Report}

-- unknown options, and one that lacks its value or stands twice
help-row : usage_fault (codes "--help" ∷ []) ≡ Some Words
help-row = refl

version-row : usage_fault (codes "--version" ∷ []) ≡ Some Words
version-row = refl

dashes-row : usage_fault (codes "--" ∷ codes "m" ∷ codes "t" ∷ []) ≡ Some Words
dashes-row = refl

no-value-row : usage_fault (codes "--workers" ∷ []) ≡ Some Words
no-value-row = refl

dash-value-row : usage_fault (codes "--workers" ∷ codes "-1" ∷ codes "m" ∷ codes "t" ∷ []) ≡ Some Words
dash-value-row = refl

equals-row : usage_fault (codes "--workers=8" ∷ codes "m" ∷ codes "t" ∷ []) ≡ Some Words
equals-row = refl

twice-row : usage_fault (codes "--jobs" ∷ codes "--jobs" ∷ codes "m" ∷ codes "t" ∷ []) ≡ Some Words
twice-row = refl

value-twice-row : usage_fault (codes "--block" ∷ codes "1" ∷ codes "m" ∷ codes "t" ∷ codes "--block" ∷ codes "1" ∷ []) ≡ Some Words
value-twice-row = refl

report-no-value-row : usage_fault (codes "m" ∷ codes "t" ∷ codes "--report" ∷ []) ≡ Some Words
report-no-value-row = refl

report-twice-row : usage_fault (codes "--report" ∷ codes "1" ∷ codes "m" ∷ codes "t" ∷ codes "--report" ∷ codes "1" ∷ []) ≡ Some Words
report-twice-row = refl

-- three names, an empty word, no words, one name
three-row : usage_fault (codes "m" ∷ codes "t" ∷ codes "u" ∷ []) ≡ Some Words
three-row = refl

empty-word-row : usage_fault (codes "m" ∷ [] ∷ []) ≡ Some Words
empty-word-row = refl

no-words-row : usage_fault [] ≡ Some Form
no-words-row = refl

one-name-row : usage_fault (codes "--workers" ∷ codes "8" ∷ codes "m" ∷ []) ≡ Some Form
one-name-row = refl

-- a made input with no number, twice, with two names, with one
made-no-value-row : usage_fault (codes "--made" ∷ []) ≡ Some Words
made-no-value-row = refl

made-twice-row : usage_fault (codes "--made" ∷ codes "7" ∷ codes "--made" ∷ codes "7" ∷ []) ≡ Some Words
made-twice-row = refl

made-names-row : usage_fault (codes "m" ∷ codes "t" ∷ codes "--made" ∷ codes "7" ∷ []) ≡ Some Form
made-names-row = refl

made-name-row : usage_fault (codes "--made" ∷ codes "7" ∷ codes "m" ∷ []) ≡ Some Form
made-name-row = refl

-- numbers out of range; the first fault counts
workers-row : usage_fault (codes "--workers" ∷ codes "65" ∷ codes "m" ∷ codes "t" ∷ []) ≡ Some Workers
workers-row = refl

no-workers-row : usage_fault (codes "m" ∷ codes "t" ∷ codes "--block" ∷ codes "x" ∷ codes "--workers" ∷ codes "0" ∷ []) ≡ Some Workers
no-workers-row = refl

block-row : usage_fault (codes "--block" ∷ codes "0" ∷ codes "m" ∷ codes "t" ∷ []) ≡ Some Block
block-row = refl

long-block-row : usage_fault (codes "--block" ∷ codes "65537" ∷ codes "m" ∷ codes "t" ∷ []) ≡ Some Block
long-block-row = refl

made-row : usage_fault (codes "--made" ∷ codes "18446744073709551616" ∷ []) ≡ Some Made
made-row = refl

made-block-row : usage_fault (codes "--made" ∷ codes "x" ∷ codes "--block" ∷ codes "0" ∷ []) ≡ Some Block
made-block-row = refl

report-row : usage_fault (codes "m" ∷ codes "t" ∷ codes "--report" ∷ codes "3" ∷ []) ≡ Some Report
report-row = refl

no-report-row : usage_fault (codes "--report" ∷ codes "0" ∷ codes "--made" ∷ codes "7" ∷ []) ≡ Some Report
no-report-row = refl

report-made-row : usage_fault (codes "--report" ∷ codes "3" ∷ codes "--made" ∷ codes "x" ∷ []) ≡ Some Made
report-made-row = refl

-- accepted words, with the defaults and with options among the names
plain-row : (usage_fault (codes "m" ∷ codes "t" ∷ []) ≡ None) × (words_left (codes "m" ∷ codes "t" ∷ []) ≡ codes "m" ∷ codes "t" ∷ [])
    × (workers_asked (codes "m" ∷ codes "t" ∷ []) ≡ Some 4) × (block_asked (codes "m" ∷ codes "t" ∷ []) ≡ Some 4096)
    × (form_asked (codes "m" ∷ codes "t" ∷ []) ≡ Some 2) × (jobs_asked (codes "m" ∷ codes "t" ∷ []) ≡ false)
plain-row = (refl, refl, refl, refl, refl, refl)

abbrev all : List (List ℕ)
all = codes "--block" ∷ codes "65536" ∷ codes "m" ∷ codes "--jobs" ∷ codes "--workers" ∷ codes "064" ∷ codes "--report" ∷ codes "1" ∷ codes "t" ∷ []

all-row : (usage_fault all ≡ None) × (words_left all ≡ codes "m" ∷ codes "t" ∷ []) × (workers_asked all ≡ Some 64) × (block_asked all ≡ Some 65536)
    × (form_asked all ≡ Some 1) × (jobs_asked all ≡ true)
all-row = (refl, refl, refl, refl, refl, refl)

abbrev most : List (List ℕ)
most = codes "--block" ∷ codes "65536" ∷ codes "m" ∷ codes "--workers" ∷ codes "064" ∷ codes "--jobs" ∷ codes "t" ∷ []

most-row : (usage_fault most ≡ None) × (words_left most ≡ codes "m" ∷ codes "t" ∷ []) × (workers_asked most ≡ Some 64) × (block_asked most ≡ Some 65536)
    × (form_asked most ≡ Some 2) × (jobs_asked most ≡ true)
most-row = (refl, refl, refl, refl, refl, refl)

abbrev made : List (List ℕ)
made = codes "--jobs" ∷ codes "--made" ∷ codes "18446744073709551615" ∷ []

made-all-row : (usage_fault made ≡ None) × (words_left made ≡ []) × (made_asked made ≡ Some 18446744073709551615) × (workers_asked made ≡ Some 4)
    × (jobs_asked made ≡ true)
made-all-row = (refl, refl, refl, refl, refl)
