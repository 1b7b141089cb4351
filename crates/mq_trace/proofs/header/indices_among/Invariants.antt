use Rattle.std.proofs.Common.{◌≡◌, ◌<◌, ℕ, map, take, get_or, [], true}
use Rattle.std.specs.List.{position_or_len}
use Rattle.std.specs.Str.{bytes_eq}
use Rattle.mq_trace.specs.Header.{is_among}
use Rattle.mq_trace.proofs.header.indices_among.Given as goal

abbrev pub invariant-loop-name : goal.invariant-loop-name
invariant-loop-name l = record {
  count : l.column ≡ l.name-index;
  indices : l.indices.items ≡ map (λ name. position_or_len (λ other. bytes_eq other name) (map (λ s. s.now) l.names)) (take l.name-index l.net.columns);
  there : (k : ℕ) → k < l.name-index → is_among (map (λ s. s.now) l.names) (get_or l.net.columns k []) ≡ true;
}
