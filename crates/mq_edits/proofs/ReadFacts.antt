-- The lines of a text of edits, taken off one by one.
use Rattle.std.proofs.Common.{◌≡◌, ◌∙◌, sym, refl, ℕ, ◌+◌, ◌<◌, ◌≤◌, List, [], ◌∷◌, ◌++◌, length, drop, Some, None, arith, append_assoc}
use Rattle.mq_base.specs.Text.{lines_of, words_of}
use Rattle.mq_core.specs.declared.model.Network.{Network}
use Rattle.mq_edits.specs.Edits.{edits_of_lines, edits_of_words, lines_fault, rows_added, words_fault}
use Rattle.mq_edits.specs.declared.edit.Edit.{Edit}
use Rattle.mq_edits.specs.declared.fault.EditFault.{EditFault}

-- the lines up to an index are read: these are their edits, and there are so many data records behind them
pub record Lined (net : Network) (first : ℕ) (text : List ℕ) (from number : ℕ) (edits : List Edit) (rows : ℕ) : Type 0 where
  pub all : edits_of_lines net (lines_of text) ≡ edits ++ edits_of_lines net (lines_of (drop from text))
  pub fault : lines_fault net first 1 (lines_of text) ≡ lines_fault net rows number (lines_of (drop from text))
  pub within : from ≤ length text
  pub short : number ≤ from + 1

step : (net : Network) (rows number : ℕ) (line : List ℕ) (lines : List (List ℕ)) → words_fault net rows number (words_of line) ≡ None
    → lines_fault net rows number (line ∷ lines) ≡ lines_fault net (rows + rows_added (words_of line)) (number + 1) lines
unfolding lines_fault
step net rows number line lines none = rw none refl

faulty : (net : Network) (rows number : ℕ) (line : List ℕ) (lines : List (List ℕ)) (e : EditFault) → words_fault net rows number (words_of line) ≡ Some e
    → lines_fault net rows number (line ∷ lines) ≡ Some e
unfolding lines_fault
faulty net rows number line lines e is = rw is refl

no_lines : (net : Network) (rows number : ℕ) → lines_fault net rows number [] ≡ None
unfolding lines_fault
no_lines net rows number = refl

pub lined_more : (net : Network) (first : ℕ) (text line : List ℕ) (from next number : ℕ) (edits edits' : List Edit) (rows rows' : ℕ) → Lined net first text from number edits rows
    → lines_of (drop from text) ≡ line ∷ lines_of (drop next text) → from < next → next ≤ length text
    → words_fault net rows number (words_of line) ≡ None → edits' ≡ edits ++ edits_of_words net (words_of line) → rows' ≡ rows + rows_added (words_of line)
    → Lined net first text next (number + 1) edits' rows'
lined_more net first text line from next number edits edits' rows rows' lined is less within none more added = record {
  all = lined.all ∙ rw (is, more) (sym (append_assoc edits (edits_of_words net (words_of line)) (edits_of_lines net (lines_of (drop next text)))));
  fault = lined.fault ∙ rw (is, added) (step net rows number line (lines_of (drop next text)) none);
  within = within;
  short = omega (arith, lined.short);
}

pub lined_fault : (net : Network) (first : ℕ) (text line : List ℕ) (from next number : ℕ) (edits : List Edit) (rows : ℕ) (e : EditFault) → Lined net first text from number edits rows
    → lines_of (drop from text) ≡ line ∷ lines_of (drop next text) → words_fault net rows number (words_of line) ≡ Some e → lines_fault net first 1 (lines_of text) ≡ Some e
lined_fault net first text line from next number edits rows e lined is told = lined.fault ∙ rw is (faulty net rows number line (lines_of (drop next text)) e told)

pub lined_clean : (net : Network) (first : ℕ) (text : List ℕ) (from number : ℕ) (edits : List Edit) (rows : ℕ) → Lined net first text from number edits rows → lines_of (drop from text) ≡ []
    → lines_fault net first 1 (lines_of text) ≡ None
lined_clean net first text from number edits rows lined none = lined.fault ∙ rw none (no_lines net rows number)
