-- What leaves a fork by each output.
use Rattle.std.proofs.Common.{◌≡◌, ℕ, ◌<◌, true, List, length, replicate, Some, sym, ap, arith, ◌∙◌}
use Rattle.std.proofs.lemmas.Bool.Decides.{nat_tests}
use Rattle.std.specs.Prelude.{nat_lt, slice_get}
use Rattle.mq_core.specs.Came.{came_in}
use Rattle.mq_core.specs.Kinds.Fork.{copies_by}
use Rattle.mq_core.specs.declared.model.Stream.{Stream}
use Rattle.mq_join.specs.Copies.{AreForked}
use Rattle.mq_join.proofs.Steps.{replicate-at, replicate-many}

is-output : (out outputs : ℕ) → out < outputs → nat_lt out outputs ≡ true
is-output out outputs l = grind (arith, nat_tests)

-- copies of a stream are what its fork lets out
pub forked : (stream : Stream) (outputs : ℕ) (streams : List Stream) → streams ≡ replicate outputs stream → AreForked (came_in stream) outputs streams
forked stream outputs streams e =
    record {
      count = ap length e ∙ replicate-many outputs stream;
      each = λ rows out l. ap (λ all. slice_get all out) e ∙ (replicate-at outputs out stream l ∙ ap (λ b. Some (copies_by b (came_in stream))) (sym (is-output out outputs l)));
    }
