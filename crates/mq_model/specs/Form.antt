-- The form of a line, word by word.
use Rattle.std.specs.Prelude.{◌≡◌, ◌∷◌, ◌++◌, [], ℕ, zero, suc, List, Bool, true, false, Result, Ok, Err}

abbrev pub Word : Type 0
Word = List ℕ

-- A form ends with a value (`stop`), needs a word that passes a test (`word`), or depends on whether the next word passes a test (`maybe`).
pub data Form (A : Type 0) : Type 0 where
  stop : A → Form A
  word : (Word → Bool) → (Word → Form A) → Form A
  maybe : (Word → Bool) → (Word → Form A) → Form A → Form A

-- one form, and after it another
infixl 10 ◌>>=◌
unfoldable pub ◌>>=◌ : {A B : Type 0} → Form A → (A → Form B) → Form B
(stop a) >>= more = more a
(word p f) >>= more = word p (λ w. f w >>= more)
(maybe p f g) >>= more = maybe p (λ w. f w >>= more) (g >>= more)

-- What words say: the value, and the words after it; or an error, the words from the first one that doesn't fit.
unfoldable pub read : {A : Type 0} → Form A → List Word → Result (A × List Word) (List Word)
read (stop a) ws = Ok (a, ws)
read (word p f) [] = Err []
read (word p f) (w ∷ ws) = elim (p w) [ true ↦ read (f w) ws | false ↦ Err (w ∷ ws) ]
read (maybe p f g) [] = read g []
read (maybe p f g) (w ∷ ws) = elim (p w) [ true ↦ read (f w) ws | false ↦ read g (w ∷ ws) ]

-- for a whole line, which has no words after the value
abbrev pub whole : {A : Type 0} → Result (A × List Word) (List Word) → Result A (List Word)
whole (Ok (a, [])) = Ok a
whole (Ok (a, w ∷ ws)) = Err (w ∷ ws)
whole (Err left) = Err left

-- parts of forms
abbrev pub one : {A : Type 0} → (Word → Bool) → (Word → A) → Form A
one p value = word p (λ w. stop (value w))

-- at most n words for which the test holds
unfoldable pub up_to : {A : Type 0} → ℕ → (Word → Bool) → (Word → A) → Form (List A)
up_to zero p value = stop []
up_to (suc n) p value = maybe p (λ w. up_to n p value >>= λ more. stop (value w ∷ more)) (stop [])

-- a form reads a line that begins with these words
abbrev pub Begins : {A : Type 0} → Form A → List Word → Type 0
Begins {A} f ws = (more : List Word) × (a : A) × (whole (read f (ws ++ more)) ≡ Ok a)

-- The words before the error begin a line; with the word at the error, if there is one, they don't.
pub record IsFirstFault {A : Type 0} (f : Form A) (ws left : List Word) : Type 0 where
  pub front : List Word
  pub is : ws ≡ front ++ left
  pub begins : Begins f front
  pub ends : (w : Word) (rest : List Word) → left ≡ w ∷ rest → Begins f (front ++ w ∷ []) → ⊥
