-- What the code keeps of the lines that it has read.
use Rattle.std.specs.Prelude.{◌≡◌, ◌+◌, ◌-◌, ◌≤◌, ◌∷◌, ◌++◌, ◌&&◌, ◌==◌, [], ℕ, suc, List, length, Bool, not, nat_le, nat_lt, if◌then◌else◌, Option, Some, None, Result, Ok, Err}
use Rattle.std.specs.List.{list_all, list_any}
use Rattle.std.specs.Option.{option_or}
use Rattle.mq_base.specs.Text.{words_of}
use Rattle.mq_model.specs.Form.{Word, read, whole}
use Rattle.mq_model.specs.Head.{is_skipped, version_in}
use Rattle.mq_model.specs.Lines.{line}
use Rattle.mq_model.specs.Model.{Tells, begins_bound, is_barred, line_fault}
use Rattle.mq_model.specs.NetworkOf.{said_of, saids_of}
use Rattle.mq_model.specs.Said.{columns_after, columns_of, declared, is_among, mentioned, names_of}
use Rattle.mq_model.specs.declared.fault.ModelFault.{ModelFault}
use Rattle.mq_model.specs.declared.fault.ModelFault.TheVariants.{BadLine, NameTwice, TooMany}
use Rattle.mq_model.specs.declared.front.Front.{Front}
use Rattle.mq_model.specs.declared.said.Said.{Said}

-- the numbers of the lines that say something, if the first line has number n
abbrev pub numbers_from : ℕ → List (List ℕ) → List ℕ
numbers_from n [] = []
numbers_from n (l ∷ ls) = elim (said_of l) [ None ↦ numbers_from (suc n) ls | Some said ↦ n ∷ numbers_from (suc n) ls ]

-- what is kept of these lines
pub record IsFront (before : List (List ℕ)) (front : Front) : Type 0 where
  pub head : front.has_head ≡ not (list_all is_skipped before)
  pub version : front.version ≡ version_in before
  pub bound : front.has_bound ≡ list_any (λ l. begins_bound (words_of l)) before
  pub saids : front.saids ≡ saids_of before
  pub lines : front.lines ≡ numbers_from 1 before
  pub names : front.names ≡ names_of (saids_of before)
  pub columns : front.columns ≡ columns_of (saids_of before)
  pub few_names : length front.names ≤ 64
  pub few_columns : length front.columns ≤ 16

-- the error in the name of line n, after lines that declare these names
abbrev pub name_fault : ℕ → List Word → Said → Option ModelFault
name_fault n names said =
    if list_any (is_among names) (declared said) then Some (NameTwice n)
    else if nat_le 64 (length names) && not (length (declared said) == 0) then Some (TooMany n)
    else None

-- the error in the columns of line n
abbrev pub columns_fault : ℕ → List Word → Option ModelFault
columns_fault n columns = if nat_lt 16 (length columns) then Some (TooMany n) else None

-- the error in the words of a line that isn't in the grammar; in `grammar_fault` also of a barred line
abbrev pub unread_fault : ℕ → List Word → Result Said (List Word) → Option ModelFault
unread_fault n ws (Err left) = Some (BadLine n (length ws - length left + 1))
unread_fault n ws (Ok said) = None

abbrev pub grammar_fault : ℕ → Bool → ℕ → List Word → Option ModelFault
grammar_fault n has_bound version ws = if is_barred has_bound version ws then Some (BadLine n 1) else unread_fault n ws (whole (read line ws))

-- with the names that a line declares and mentions
abbrev pub with_names : Front → Said → Front
with_names old said = record {
  has_head = old.has_head;
  version = old.version;
  has_bound = old.has_bound;
  saids = old.saids;
  lines = old.lines;
  names = old.names ++ declared said;
  columns = columns_after old.columns (mentioned said);
}

-- with all that a line says
abbrev pub with_said : Front → ℕ → Said → Front
with_said old number said = record {
  has_head = old.has_head;
  version = old.version;
  has_bound = old.has_bound;
  saids = old.saids ++ said ∷ [];
  lines = old.lines ++ number ∷ [];
  names = old.names ++ declared said;
  columns = columns_after old.columns (mentioned said);
}

abbrev pub added_fault : Front → ℕ → Said → Option ModelFault
added_fault old number said = option_or (name_fault number old.names said) (columns_fault number (columns_after old.columns (mentioned said)))

-- either the line is added to those before it, or the result is its error
abbrev pub TakesLine : Result (Unit {0}) ModelFault → Option ModelFault → List (List ℕ) → Front → Type 0
TakesLine (Ok _) fault lines new = (fault ≡ None) × IsFront lines new
TakesLine (Err e) fault lines new = Tells e fault

abbrev pub AddsLine : Result (Unit {0}) ModelFault → ℕ → List ℕ → Front → Front → Type 0
AddsLine result number line old new =
    (before : List (List ℕ)) → IsFront before old → number ≡ length before + 1 → TakesLine result (line_fault before line) (before ++ line ∷ []) new
