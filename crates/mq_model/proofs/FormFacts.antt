-- What holds of every form.
use Rattle.std.proofs.Common.{◌≡◌, sym, ap, refl, ◌<◌, List, [], ◌∷◌, ◌++◌, length, Bool, true, false, Result, Ok, Err, arith, inl, inr, append_assoc}
use Rattle.std.specs.Bool.{MatchBool}
use Rattle.std.proofs.lemmas.Bool.{cases_Bool}
use Rattle.mq_model.specs.Form.{◌>>=◌, Begins, Form, IsFirstFault, Word, stop, word, maybe, read, whole}

-- reading goes on behind the first of two forms
abbrev pub go_on : {A B : Type 0} → Result (A × List Word) (List Word) → (A → Form B) → Result (B × List Word) (List Word)
go_on (Ok (a, rest)) more = read (more a) rest
go_on (Err left) more = Err left

pub read_then : {A B : Type 0} (f : Form A) (more : A → Form B) (ws : List Word) → read (f >>= more) ws ≡ go_on (read f ws) more
unfolding read ◌>>=◌
read_then (stop a) more ws = refl
read_then (word p f) more [] = refl
read_then (word p f) more (w ∷ ws) = elim (p w) as (λ b. elim b [ true ↦ read (f w >>= more) ws | false ↦ Err (w ∷ ws) ] ≡ go_on (elim b [ true ↦ read (f w) ws | false ↦ Err (w ∷ ws) ]) more) [ true ↦ read_then (f w) more ws | false ↦ refl ]
read_then (maybe p f g) more [] = read_then g more []
read_then (maybe p f g) more (w ∷ ws) = elim (p w) as (λ b. elim b [ true ↦ read (f w >>= more) ws | false ↦ read (g >>= more) (w ∷ ws) ] ≡ go_on (elim b [ true ↦ read (f w) ws | false ↦ read g (w ∷ ws) ]) more) [ true ↦ read_then (f w) more ws | false ↦ read_then g more (w ∷ ws) ]

-- Every word that a form can go on with can be followed by words to its end; and where it must, so can the form itself begin.
unfoldable pub IsLive : {A : Type 0} → Bool → Form A → Type 0
IsLive must (stop a) = Unit {0}
IsLive must (word p f) = MatchBool must ((w : Word) × (p w ≡ true)) (Unit {0}) × ((w : Word) → p w ≡ true → IsLive true (f w))
IsLive must (maybe p f g) = MatchBool must ((w : Word) × (p w ≡ true)) (Unit {0}) × ((w : Word) → p w ≡ true → IsLive true (f w)) × IsLive false g

-- a form that can begin
pub can_begin : {A : Type 0} (f : Form A) → IsLive true f → Begins f []
unfolding IsLive read
can_begin (stop a) live = ([], a, refl)
can_begin (word p f) live =
    let (w, passes) = live.0 in
    let (more, a, e) = can_begin (f w) (live.1 w passes) in
    (w ∷ more, a, rw passes e)
can_begin (maybe p f g) live =
    let (w, passes) = live.0 in
    let (more, a, e) = can_begin (f w) (live.1 w passes) in
    (w ∷ more, a, rw passes e)

-- the same as `IsFirstFault`, but for a fault at the first word
record Splits {A : Type 0} (f : Form A) (ws left : List Word) : Type 0 where
  front : List Word
  is : ws ≡ front ++ left
  begins : 0 < length front → Begins f front
  ends : (w : Word) (rest : List Word) → left ≡ w ∷ rest → (more : List Word) (a : A) → whole (read f (front ++ w ∷ more)) ≡ Ok a → ⊥

begin_from : {A : Type 0} (f : Form A) (front : List Word) → Begins f [] → (0 < length front → Begins f front) → Begins f front
begin_from f [] start more = start
begin_from f (x ∷ xs) start more = more (omega arith)

-- a word that goes the first way
first_way : {A : Type 0} (p : Word → Bool) (f : Word → Form A) (w : Word) (ws left : List Word) → p w ≡ true → Begins (f w) [] → Splits (f w) ws left → Splits (word p f) (w ∷ ws) left
unfolding read
first_way p f w ws left passes start s =
    record {
      front = w ∷ s.front;
      is = ap (λ more. w ∷ more) s.is;
      begins = λ _. let (more, a, e) = begin_from (f w) s.front start s.begins in (more, a, rw passes e);
      ends = λ v rest e more a h. s.ends v rest e more a (rw passes at h);
    }

first_of_two : {A : Type 0} (p : Word → Bool) (f : Word → Form A) (g : Form A) (w : Word) (ws left : List Word) → p w ≡ true → Begins (f w) [] → Splits (f w) ws left → Splits (maybe p f g) (w ∷ ws) left
unfolding read
first_of_two p f g w ws left passes start s =
    record {
      front = w ∷ s.front;
      is = ap (λ more. w ∷ more) s.is;
      begins = λ _. let (more, a, e) = begin_from (f w) s.front start s.begins in (more, a, rw passes e);
      ends = λ v rest e more a h. s.ends v rest e more a (rw passes at h);
    }

-- a word that goes the second way
second_way : {A : Type 0} (p : Word → Bool) (f : Word → Form A) (g : Form A) (w : Word) (ws left front : List Word) → p w ≡ false → w ∷ ws ≡ front ++ left
    → (0 < length front → Begins g front) → ((v : Word) (rest : List Word) → left ≡ v ∷ rest → (more : List Word) (a : A) → whole (read g (front ++ v ∷ more)) ≡ Ok a → ⊥)
    → Splits (maybe p f g) (w ∷ ws) left
unfolding read
second_way p f g w ws left [] fails is begins ends =
    record {
      front = [];
      is = is;
      begins = λ h. absurd (omega arith);
      ends = λ v rest e more a h. let same : w ≡ v = cc in let no_way : p v ≡ false = rw (← same) fails in ends v rest e more a (rw no_way at h);
    }
second_way p f g w ws left (x ∷ front) fails is begins ends =
    let same : w ≡ x = cc in
    let no_way : p x ≡ false = rw (← same) fails in
    record {
      front = x ∷ front;
      is = is;
      begins = λ h. let (more, a, e) = begins h in (more, a, rw no_way e);
      ends = λ v rest e more a h. ends v rest e more a (rw no_way at h);
    }

-- a fault at the first word that is there, or behind all words
at_once : {A : Type 0} (f : Form A) (ws left : List Word) → ws ≡ left → ((v : Word) (rest : List Word) → left ≡ v ∷ rest → (more : List Word) (a : A) → whole (read f (v ∷ more)) ≡ Ok a → ⊥) → Splits f ws left
at_once f ws left same ends = record { front = []; is = same; begins = λ h. absurd (omega arith); ends = ends }

-- nothing is left of nothing
left_of_none : (front left : List Word) → [] ≡ front ++ left → left ≡ []
left_of_none [] left e = sym e
left_of_none (x ∷ front) left e = absurd (cc)

splits : {A : Type 0} (must : Bool) (f : Form A) (ws left : List Word) → IsLive must f → whole (read f ws) ≡ Err left → Splits f ws left
unfolding IsLive read
splits must (stop a) [] left live e = absurd (cc)
splits must (stop a) (w ∷ ws) left live e = at_once (stop a) (w ∷ ws) left (cc) (λ v rest e more b h. cc)
splits must (word p f) [] left live e = at_once (word p f) [] left (cc) (λ v rest h more b k. cc)
splits must (word p f) (w ∷ ws) left live e =
    elim (cases_Bool (p w)) [
      | inl passes ↦ first_way p f w ws left passes (can_begin (f w) (live.1 w passes)) (splits true (f w) ws left (live.1 w passes) (rw passes at e))
      | inr fails ↦
          let same : w ∷ ws ≡ left = (let h = rw fails at e in cc) in
          at_once (word p f) (w ∷ ws) left same (λ v rest g more b h. let head : w ≡ v = cc in let no_way : p v ≡ false = rw (← head) fails in let k = rw no_way at h in cc)
    ]
splits must (maybe p f g) [] left live e =
    let s = splits false g [] left live.2 e in
    let none = left_of_none s.front left s.is in
    at_once (maybe p f g) [] left (sym none) (λ v rest h more b k. cc)
splits must (maybe p f g) (w ∷ ws) left live e =
    elim (cases_Bool (p w)) [
      | inl passes ↦ first_of_two p f g w ws left passes (can_begin (f w) (live.1 w passes)) (splits true (f w) ws left (live.1 w passes) (rw passes at e))
      | inr fails ↦ let s = splits false g (w ∷ ws) left live.2 (rw fails at e) in second_way p f g w ws left s.front fails s.is s.begins s.ends
    ]

-- Where words are no line of a live form, the fault is where it is said to be.
pub first_fault : {A : Type 0} (f : Form A) (ws left : List Word) → IsLive true f → whole (read f ws) ≡ Err left → IsFirstFault f ws left
first_fault f ws left live e =
    let s = splits true f ws left live e in
    record {
      front = s.front;
      is = s.is;
      begins = begin_from f s.front (can_begin f live) s.begins;
      ends = λ w rest g b. let (more, a, h) = b in s.ends w rest g more a (rw (sym (append_assoc s.front (w ∷ []) more)) h);
    }
