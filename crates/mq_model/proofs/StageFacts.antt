-- How the stages of a tandem are read.
use Rattle.std.proofs.Common.{◌≡◌, refl, ℕ, zero, suc, ◌-◌, ◌<◌, List, [], ◌∷◌, true, false, Ok, Err, arith, Result, ◌∙◌, inl, inr}
use Rattle.std.specs.Prelude.{codes}
use Rattle.std.proofs.lemmas.Bool.{cases_Bool}
use Rattle.mq_model.specs.Form.{◌>>=◌, Word, read, stop}
use Rattle.mq_model.specs.Lines.{a_stage, is_key, key, stages, stages_behind}
use Rattle.mq_model.specs.declared.said.SaidDemand.{SaidDemand}
use Rattle.mq_model.specs.declared.said.SaidStage.{SaidStage}
use Rattle.mq_model.proofs.FormFacts.{go_on, read_then}
use Rattle.mq_model.specs.Reading.{with_front}
use Rattle.mq_model.proofs.ReadFacts.{front_of, front_of_second, one_or_more, read_word_no, read_word_yes}

pub stages_zero : (ws : List Word) → read (stages 0) ws ≡ Ok ([], ws)
unfolding read stages
stages_zero ws = refl

pub stages_none : (n : ℕ) (all : List Word) → all ≡ [] → read (stages n) all ≡ Ok ([], all)
unfolding read stages
stages_none zero all h = refl
stages_none (suc n) all h = rw h refl

pub stages_no : (n : ℕ) (all ws : List Word) (w : Word) → all ≡ w ∷ ws → is_key (47 ∷ []) w ≡ false → read (stages n) all ≡ Ok ([], all)
unfolding read stages
stages_no zero all ws w e h = refl
stages_no (suc n) all ws w e h = rw (e, h) refl

pub stages_yes : (n : ℕ) (all ws rest : List Word) (w : Word) (stage : SaidStage) → 0 < n → all ≡ w ∷ ws → is_key (47 ∷ []) w ≡ true → read a_stage ws ≡ Ok (stage, rest)
    → read (stages n) all ≡ with_front (stage ∷ []) (read (stages (n - 1)) rest)
unfolding read stages
stages_yes zero all ws rest w stage some e h own = absurd (omega arith)
stages_yes (suc n) all ws rest w stage some e h own =
    let back : suc n - 1 ≡ n = omega arith in
    rw (back, e, h, read_then a_stage (λ s. stages n >>= λ more. stop (s ∷ more)) ws, own, read_then (stages n) (λ more. stop (stage ∷ more)) rest) (front_of stage (read (stages n) rest))

pub stages_fault : (n : ℕ) (all ws left : List Word) (w : Word) → 0 < n → all ≡ w ∷ ws → is_key (47 ∷ []) w ≡ true → read a_stage ws ≡ Err left → read (stages n) all ≡ Err left
unfolding read stages
stages_fault zero all ws left w some e h own = absurd (omega arith)
stages_fault (suc n) all ws left w some e h own = rw (e, h, read_then a_stage (λ s. stages n >>= λ more. stop (s ∷ more)) ws, own) refl

pub front_of_two : {A : Type 0} (first second : A) (r : Result (List A × List Word) (List Word)) → go_on r (λ more. stop (first ∷ second ∷ more)) ≡ with_front (first ∷ second ∷ []) r
unfolding read
front_of_two first second (Ok (more, rest)) = refl
front_of_two first second (Err left) = refl

pub behind_two : (first : SaidDemand) (all ws rest : List Word) (second : SaidStage) → read (key (codes "/")) all ≡ Ok (tt, ws) → read a_stage ws ≡ Ok (second, rest)
    → read (stages_behind first) all ≡ with_front (record { places = 0; demand = first } ∷ second ∷ []) (read (stages 2) rest)
unfolding read stages_behind
behind_two first all ws rest second slash own = rw (read_then, slash, read_then, own, read_then) (front_of_two (record { places = 0; demand = first }) second (read (stages 2) rest))

pub behind_no_slash : (first : SaidDemand) (all left : List Word) → read (key (codes "/")) all ≡ Err left → read (stages_behind first) all ≡ Err left
unfolding read stages_behind
behind_no_slash first all left slash = rw (read_then, slash) refl

pub behind_no_stage : (first : SaidDemand) (all ws left : List Word) → read (key (codes "/")) all ≡ Ok (tt, ws) → read a_stage ws ≡ Err left → read (stages_behind first) all ≡ Err left
unfolding read stages_behind
behind_no_stage first all ws left slash own = rw (read_then, slash, read_then, own) refl

behind_slash : (first : SaidDemand) (ws vs : List Word) (w : Word) → ws ≡ w ∷ vs → is_key (47 ∷ []) w ≡ true → (own : Result (SaidStage × List Word) (List Word)) → read a_stage vs ≡ own
    → read (stages_behind first) ws ≡ with_front (record { places = 0; demand = first } ∷ []) (one_or_more (read (stages 3) ws))
unfolding read
behind_slash first ws vs w e slash (Ok (second, rest)) h =
    behind_two first ws vs rest second (read_word_yes (is_key (47 ∷ [])) (λ _. stop tt) ws vs w e slash) h
    ∙ rw (stages_yes 3 ws vs rest w second (omega arith) e slash h) (front_of_second (record { places = 0; demand = first }) second (read (stages 2) rest))
behind_slash first ws vs w e slash (Err left) h =
    behind_no_stage first ws vs left (read_word_yes (is_key (47 ∷ [])) (λ _. stop tt) ws vs w e slash) h ∙ rw (stages_fault 3 ws vs left w (omega arith) e slash h) refl

-- the stages behind the first are one or more
pub behind_by : (first : SaidDemand) (ws : List Word) → read (stages_behind first) ws ≡ with_front (record { places = 0; demand = first } ∷ []) (one_or_more (read (stages 3) ws))
unfolding read
behind_by first [] = behind_no_slash first [] [] refl ∙ rw (stages_none 3 [] refl) refl
behind_by first (w ∷ vs) =
    elim (cases_Bool (is_key (47 ∷ []) w)) [
      | inl good ↦ behind_slash first (w ∷ vs) vs w refl good (read a_stage vs) refl
      | inr bad ↦ behind_no_slash first (w ∷ vs) (w ∷ vs) (read_word_no (is_key (47 ∷ [])) (λ _. stop tt) (w ∷ vs) vs w refl bad) ∙ rw (stages_no 3 (w ∷ vs) vs w refl bad) refl
    ]
