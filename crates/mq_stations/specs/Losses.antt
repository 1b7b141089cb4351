-- What becomes of the arrivals at a loss station.
use Rattle.std.specs.Prelude.{◌≡◌, ℕ, Bool, true, false, List, [], ◌∷◌, map}
use Rattle.mq_core.specs.Streams.{picked}
use Rattle.mq_core.specs.declared.model.Stream.{Stream}

-- the output by which an arrival leaves that is admitted or not
abbrev pub out_of_admission : Bool → ℕ
out_of_admission true = 0
out_of_admission false = 1

-- the streams are those of the arrivals that are admitted, at these departures, and of the others as they came
abbrev pub AreAdmittedAndLost : Stream → List Bool → List ℕ → List Stream → Type 0
AreAdmittedAndLost arrivals admitted departs streams =
    let outs = map out_of_admission admitted in
    streams
    ≡ record { job = picked 0 outs arrivals.job; time = departs }
    ∷ record { job = picked 1 outs arrivals.job; time = picked 1 outs arrivals.time }
    ∷ []
