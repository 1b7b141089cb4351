-- Texts of edits, each for a trace of the given number of data records, with its first fault; and edits that texts declare.
use Rattle.std.specs.Prelude.{◌≡◌, ◌^◌, ◌∷◌, [], ℕ, List, Option, Some, None, codes}
use Rattle.mq_core.specs.declared.model.Demand.TheVariants.{Column}
use Rattle.mq_core.specs.declared.model.Kind.TheVariants.{Server, Source}
use Rattle.mq_core.specs.declared.model.Network.{Network}
use Rattle.mq_core.specs.declared.model.Rows.{Rows}
use Rattle.mq_edits.specs.Edited.{edited_rows}
use Rattle.mq_edits.specs.Edits.{edits_fault, edits_in}
use Rattle.mq_edits.specs.declared.edit.Edit.TheVariants.{Set, Add}
use Rattle.mq_edits.specs.declared.fault.EditFault.{EditFault}
use Rattle.mq_edits.specs.declared.fault.EditFault.TheVariants.{BadLine, TooManyRows, UnknownRow, UnknownSource, BadNumber}

-- a source, and after it a server whose demand is a column
abbrev pub desk : Network
desk = record {
  nodes = record { name = codes "src"; kind = Source; inputs = [] } ∷ record { name = codes "desk"; kind = Server (Column 0); inputs = record { node = 0; out = 0 } ∷ [] } ∷ [];
  columns = codes "d" ∷ [];
  bound = 2 ^ 60;
  version = 1;
}

abbrev pub Example : Type 0
Example = ℕ × List ℕ × Option EditFault

abbrev pub AllAnswered : List Example → Type 0
AllAnswered [] = Unit {0}
AllAnswered ((rows, text, fault) ∷ examples) = (edits_fault desk rows text ≡ fault) × AllAnswered examples

abbrev pub examples : List Example
examples =
    (3, [], None)
    ∷ (3, codes "add src 3 2\n", None)
    ∷ (3, 0xEF ∷ 0xBB ∷ 0xBF ∷ codes "add src 3 2\r\n\n \t\nset 4 src 05 006", None)
    ∷ (3, codes "set 3 src 1152921504606846976 68719476736\n", None)
    ∷ (3, codes "set 00000000000000000003 src 0 1\n", None)
    ∷ (1048575, codes "add src 0 1\nset 1048576 src 0 1\n", None)
    ∷ (3, codes "\n\nadd src 3\n", Some (BadLine 3 4))
    ∷ (3, codes "add\n", Some (BadLine 1 2))
    ∷ (3, codes "set 9 nobody\n", Some (BadLine 1 4))
    ∷ (3, codes "set 1 src 3\n", Some (BadLine 1 5))
    ∷ (3, codes "add src 3 2 9\n", Some (BadLine 1 5))
    ∷ (3, codes "set 1 src 3 2 9 9\n", Some (BadLine 1 6))
    ∷ (3, codes "# x\n", Some (BadLine 1 1))
    ∷ (3, codes "sets 1 src 3 2\n", Some (BadLine 1 1))
    ∷ (200, codes "set 201 src 0 1\n", Some (UnknownRow 1))
    ∷ (3, codes "set 0 src 0 1\n", Some (UnknownRow 1))
    ∷ (3, codes "set 000000000000000000003 src 0 1\n", Some (UnknownRow 1))
    ∷ (3, codes "set 5 src 0 1\nadd nobody x y\n", Some (UnknownRow 1))
    ∷ (3, codes "add src 0 1\nset 5 src 0 1\n", Some (UnknownRow 2))
    ∷ (3, codes "set 4 nobody x y\n", Some (UnknownRow 1))
    ∷ (3, codes "add desk x y\n", Some (UnknownSource 1))
    ∷ (3, codes "add src x y\n", Some (BadNumber 1 3))
    ∷ (3, codes "add src 0 y\n", Some (BadNumber 1 4))
    ∷ (3, codes "set 3 src 1152921504606846977 y\n", Some (BadNumber 1 4))
    ∷ (3, codes "set 3 src 0 68719476737\n", Some (BadNumber 1 5))
    ∷ (1048576, codes "set 1048576 src 0 1\nadd nobody x 1\n", Some (TooManyRows 2))
    ∷ (1048575, codes "add src 0 1\nadd src 0 1\n", Some (TooManyRows 2))
    ∷ []

-- a record that an earlier line added may be set
abbrev pub two_edits : List ℕ
two_edits = codes "add src 3 2\nset 4 src 5 6\n"

-- what these edits make from three rows
abbrev pub three_rows : Rows
three_rows = record { source = 0 ∷ 0 ∷ 0 ∷ []; time = 0 ∷ 1 ∷ 2 ∷ []; demands = (4 ∷ 1 ∷ 3 ∷ []) ∷ [] }

abbrev pub edited_three : Rows
edited_three = record { source = 0 ∷ 0 ∷ 0 ∷ 0 ∷ []; time = 0 ∷ 1 ∷ 2 ∷ 5 ∷ []; demands = (4 ∷ 1 ∷ 3 ∷ 6 ∷ []) ∷ [] }

pub record AreAnswered : Type 0 where
  pub faults : AllAnswered examples
  pub edits : edits_in desk two_edits ≡ Add 0 3 (2 ∷ []) ∷ Set 3 0 5 (6 ∷ []) ∷ []
  pub rows : edited_rows three_rows (edits_in desk two_edits) ≡ edited_three
