-- What the first word of a line tells.
use Rattle.std.proofs.Common.{◌≡◌, refl, ◌<◌, ◌≤◌, ℕ, List, [], ◌∷◌, length, true, false, Bor, arith}
use Rattle.std.specs.Prelude.{◌||◌, ◌==◌, codes, get_or}
use Rattle.std.specs.Str.{bytes_eq}
use Rattle.mq_base.specs.Text.{texts}
use Rattle.mq_model.specs.Head.{begins_comment}
use Rattle.mq_model.specs.Model.{begins_later}
use Rattle.mq_model.specs.Form.{Word}
use Rattle.mq_model.proofs.ReadFacts.{first_of}

pub comment_none : (words : List (Bor (List ℕ))) → length words < 1 → begins_comment (texts words) ≡ true
comment_none [] h = refl
comment_none (w ∷ words) h = absurd (omega arith)

no_byte : (w : Word) (ws : List Word) → length w < 1 → begins_comment (w ∷ ws) ≡ false
no_byte [] ws h = refl
no_byte (b ∷ more) ws h = absurd (omega arith)

a_byte : (w : Word) (ws : List Word) → 1 ≤ length w → begins_comment (w ∷ ws) ≡ (get_or w 0 0 == 35)
a_byte [] ws h = absurd (omega arith)
a_byte (b ∷ more) ws h = refl

pub comment_empty : (words : List (Bor (List ℕ))) → 1 ≤ length words → length (first_of words) < 1 → begins_comment (texts words) ≡ false
comment_empty [] some none = absurd (omega arith)
comment_empty (w ∷ words) some none = no_byte w.now (texts words) none

pub comment_first : (words : List (Bor (List ℕ))) → 1 ≤ length words → 1 ≤ length (first_of words) → begins_comment (texts words) ≡ (get_or (first_of words) 0 0 == 35)
comment_first [] some more = absurd (omega arith)
comment_first (w ∷ words) some more = a_byte w.now (texts words) more

pub later_none : (words : List (Bor (List ℕ))) → length words < 1 → begins_later (texts words) ≡ false
later_none [] h = refl
later_none (w ∷ words) h = absurd (omega arith)

pub later_first : (words : List (Bor (List ℕ))) → 1 ≤ length words
    → begins_later (texts words) ≡ (bytes_eq (first_of words) (codes "fork") || (bytes_eq (first_of words) (codes "join") || bytes_eq (first_of words) (codes "trunk")))
later_first [] h = absurd (omega arith)
later_first (w ∷ words) h = refl
