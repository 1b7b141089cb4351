-- How the code's readers of words follow a form.
use Rattle.std.specs.Prelude.{◌≡◌, ◌+◌, ◌++◌, List, length, Result, Ok, Err}
use Rattle.mq_model.specs.Form.{Form, Word}
use Rattle.mq_model.specs.Lines.{delay_kind, fork_kind, forkjoin_kind, loss_kind, server_kind, split_kind, tandem_kind, trunk_kind}
use Rattle.mq_model.specs.declared.said.SaidKind.{SaidKind}
use Rattle.mq_model.specs.declared.line.KindWord.{KindWord}
use Rattle.mq_model.specs.declared.line.KindWord.TheVariants as first
use Rattle.mq_model.specs.declared.parts.Stop.{Stop}
use Rattle.mq_model.specs.declared.parts.Stop.TheVariants as why
use Rattle.mq_model.specs.declared.line.LineFault.{LineFault}
use Rattle.mq_model.specs.declared.line.LineFault.TheVariants as fault

-- the words that may follow the name, by a line's first word
abbrev pub form_of : KindWord → Form SaidKind
form_of first.Server = server_kind
form_of first.Delay = delay_kind
form_of first.Loss = loss_kind
form_of first.Tandem = tandem_kind
form_of first.ForkJoin = forkjoin_kind
form_of first.Split = split_kind
form_of first.Fork = fork_kind
form_of first.Trunk = trunk_kind

-- The value and the words left are what the form gives. Unless memory ran out, an error leaves the words from the first that doesn't
-- fit.
abbrev pub Reads : {X : Type 0} → Result X Stop → List Word → Result (X × List Word) (List Word) → Type 0
Reads (Ok x) left said = said ≡ Ok (x, left)
Reads (Err why.Word) left said = said ≡ Err left
Reads (Err why.Memory) left said = Unit {0}

-- what is said, after these
abbrev pub with_front : {X : Type 0} → List X → Result (List X × List Word) (List Word) → Result (List X × List Word) (List Word)
with_front front (Ok (more, rest)) = Ok (front ++ more, rest)
with_front front (Err left) = Err left

-- as `Reads`, for a list to which what is read is added: it contained `before` and then contains `all`
abbrev pub ReadsMore : {X Y : Type 0} → Result Y Stop → List X → List X → List Word → Result (List X × List Word) (List Word) → Type 0
ReadsMore (Ok y) before all left said = with_front before said ≡ Ok (all, left)
ReadsMore (Err why.Word) before all left said = said ≡ Err left
ReadsMore (Err why.Memory) before all left said = Unit {0}

-- as `Reads`, for a whole line; an error gives the number of its word
abbrev pub ReadsLine : {X : Type 0} → Result X LineFault → List Word → Result X (List Word) → Type 0
ReadsLine (Ok x) words said = said ≡ Ok x
ReadsLine (Err fault.Memory) words said = Unit {0}
ReadsLine (Err (fault.Word n)) words said = (left : List Word) × (said ≡ Err left) × (n + length left ≡ length words + 1)
