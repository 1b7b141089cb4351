use Rattle.std.proofs.Common.{◌≡◌, ◌-◌, ◌*◌, ◌≤◌, ◌++◌}
use Rattle.std.specs.Prelude.{map}
use Rattle.std.specs.List.{flat_map}
use Rattle.mq_gen.specs.Made.{fields_of, record_text, records_after, records_from, trace_text}
use Rattle.mq_gen.proofs.trace.made_records.Given as goal

-- what is still to come, behind what stands there, is the trace
abbrev pub invariant-loop : goal.invariant-loop
invariant-loop l = record {
  text : l.text.items ++ flat_map record_text (map fields_of (records_after (l.count - l.counter) l.last l.generator)) ≡ trace_text (records_from l.fn.generator);
  last : l.last ≤ 11 * l.counter;
  within : l.counter ≤ l.count;
  few : l.count ≤ 40000;
}
