-- The words of a line and the lines of a text, taken off one by one.
use Rattle.std.proofs.Common.{◌≡◌, ◌∙◌, sym, refl, ℕ, ◌+◌, ◌<◌, ◌≤◌, List, [], ◌∷◌, ◌++◌, length, drop, true, false, Some, None, Bor, arith, append_assoc, append-nil, length-append}
use Rattle.std.specs.List.{slice_range}
use Rattle.std.proofs.lemmas.Grind.{common_steps}
use Rattle.mq_base.specs.Text.{lines_of, words_of, texts}
use Rattle.mq_model.specs.Form.{Word}
use Rattle.mq_model.specs.Front.{IsFront}
use Rattle.mq_model.specs.Model.{line_fault, lines_fault}
use Rattle.mq_model.specs.declared.fault.ModelFault.{ModelFault}
use Rattle.mq_model.specs.declared.fault.ModelFault.TheVariants.{BadHead}
use Rattle.mq_model.specs.declared.front.Front.{Front}
use Rattle.mq_model.proofs.FrontFacts.{has_head_is, head_is_none}

pub all_words : (line : List ℕ) → words_of line ≡ words_of (slice_range line 0 (length line))
all_words line = let same : slice_range line 0 (length line) ≡ line = grind (arith, common_steps) in rw same refl

pub more_words : (words : List (Bor (List ℕ))) (word : Bor (List ℕ)) (all rest more : List Word)
    → all ≡ texts words ++ rest → rest ≡ word.now ∷ more → all ≡ texts (words ++ word ∷ []) ++ more
more_words words word all rest more e h = grind (arith, common_steps, e, h)

pub last_words : (words : List (Bor (List ℕ))) (all rest : List Word) → all ≡ texts words ++ rest → rest ≡ [] → texts words ≡ all
last_words words all rest e h = rw (e, h) (sym (append-nil (texts words)))

-- the lines up to an index are read
pub record Lined (text : List ℕ) (from number : ℕ) (kept : Front) : Type 0 where
  pub done : List (List ℕ)
  pub all : lines_of text ≡ done ++ lines_of (drop from text)
  pub fault : lines_fault [] (lines_of text) ≡ lines_fault done (lines_of (drop from text))
  pub count : number ≡ length done + 1
  pub front : IsFront done kept
  pub within : from ≤ length text
  pub short : length done ≤ from

step : (done ls : List (List ℕ)) (l : List ℕ) → line_fault done l ≡ None → lines_fault done (l ∷ ls) ≡ lines_fault (done ++ l ∷ []) ls
unfolding lines_fault
step done ls l none = rw none refl

pub lined_more : (text : List ℕ) (from next number : ℕ) (old new : Front) (line : List ℕ) (lined : Lined text from number old) → lines_of (drop from text) ≡ line ∷ lines_of (drop next text)
    → from < next → next ≤ length text → (line_fault lined.done line ≡ None) × IsFront (lined.done ++ line ∷ []) new → Lined text next (number + 1) new
lined_more text from next number old new line lined first less within added =
    record {
      done = lined.done ++ line ∷ [];
      all = lined.all ∙ rw first (sym (append_assoc lined.done (line ∷ []) (lines_of (drop next text))));
      fault = lined.fault ∙ rw first (step lined.done (lines_of (drop next text)) line added.0);
      count = rw (length-append lined.done (line ∷ [])) (omega (arith, lined.count));
      front = added.1;
      within = within;
      short = rw (length-append lined.done (line ∷ [])) (omega (arith, lined.short));
    }

faulty : (done ls : List (List ℕ)) (l : List ℕ) (e : ModelFault) → line_fault done l ≡ Some e → lines_fault done (l ∷ ls) ≡ Some e
unfolding lines_fault
faulty done ls l e h = rw h refl

pub lined_fault : (text : List ℕ) (from next number : ℕ) (old : Front) (line : List ℕ) (e : ModelFault) (lined : Lined text from number old) → lines_of (drop from text) ≡ line ∷ lines_of (drop next text)
    → line_fault lined.done line ≡ Some e → lines_fault [] (lines_of text) ≡ Some e
lined_fault text from next number old line e lined first h = lined.fault ∙ rw first (faulty lined.done (lines_of (drop next text)) line e h)

all_done : (text : List ℕ) (from number : ℕ) (front : Front) (lined : Lined text from number front) → lines_of (drop from text) ≡ [] → lines_of text ≡ lined.done
all_done text from number front lined none = lined.all ∙ rw none (append-nil lined.done)

pub lined_no_head : (text : List ℕ) (from number : ℕ) (front : Front) → Lined text from number front → lines_of (drop from text) ≡ [] → front.has_head ≡ false → lines_fault [] (lines_of text) ≡ Some (BadHead number)
unfolding lines_fault
lined_no_head text from number front lined none no_head = lined.fault ∙ rw (none, lined.count, head_is_none lined.done front lined.front no_head) refl

pub lined_all : (text : List ℕ) (from number : ℕ) (front : Front) → Lined text from number front → lines_of (drop from text) ≡ [] → front.has_head ≡ true
    → (lines_fault [] (lines_of text) ≡ None) × IsFront (lines_of text) front
unfolding lines_fault
lined_all text from number front lined none head =
    (lined.fault ∙ rw (none, has_head_is lined.done front lined.front head) refl, rw (all_done text from number front lined none) lined.front)
