use Rattle.std.proofs.Common.{◌≡◌, ◌+◌, drop, map, take}
use Rattle.std.specs.Str.Parse.{digits_value}
use Rattle.mq_base.specs.Text.{texts}
use Rattle.mq_edits.specs.Edits.{value_fault}
use Rattle.mq_edits.proofs.line.read_values.Given as goal

abbrev pub invariant-loop-index : goal.invariant-loop-index
invariant-loop-index l = record {
  left : value_fault l.line l.number (texts l.words) ≡ value_fault l.line (l.number + l.index) (drop l.index (texts l.words));
  held : l.values ≡ map (digits_value 10) (take l.index (texts l.words));
}
