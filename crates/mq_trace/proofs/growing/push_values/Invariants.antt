use Rattle.std.proofs.Common.{◌≡◌, ◌<◌, ◌≤◌, ◌++◌, ◌∷◌, [], ℕ, get_or}
use Rattle.mq_trace.proofs.growing.push_values.Given as goal

abbrev pub invariant-loop-k : goal.invariant-loop-k
invariant-loop-k l = record {
  before : (j : ℕ) → j < l.k → get_or l.lists j [] ≡ get_or l.fn.lists j [] ++ get_or l.values (get_or l.indices j 0) 0 ∷ [];
  behind : (j : ℕ) → l.k ≤ j → get_or l.lists j [] ≡ get_or l.fn.lists j [];
}
