-- What is gathered, where it is the arrivals of visits, is what came to the node in sequences.
use Rattle.std.proofs.Common.{◌≡◌, ℕ, List, [], ◌∷◌, length, map, refl, sym, ap, arith, ◌∙◌}
use Rattle.mq_core.specs.Alone.{came}
use Rattle.mq_core.specs.Machine.{Visit}
use Rattle.mq_join.specs.Gathers.{GatheredCame}
use Rattle.mq_join.proofs.Gathering.{triples}

abbrev Triple : Type 0
Triple = ℕ × ℕ × ℕ

-- the columns of triples
firsts : (ts ps js : List ℕ) → length ps ≡ length ts → length js ≡ length ts → map (λ (t : Triple). t.0) (triples ts ps js) ≡ ts
firsts [] ps js a b = refl
firsts (t ∷ ts) [] js a b = absurd (omega arith)
firsts (t ∷ ts) (p ∷ ps) [] a b = absurd (omega arith)
firsts (t ∷ ts) (p ∷ ps) (j ∷ js) a b = ap (λ l. t ∷ l) (firsts ts ps js (omega arith) (omega arith))

seconds : (ts ps js : List ℕ) → length ps ≡ length ts → length js ≡ length ts → map (λ (t : Triple). t.1) (triples ts ps js) ≡ ps
seconds [] [] js a b = refl
seconds [] (p ∷ ps) js a b = absurd (omega arith)
seconds (t ∷ ts) [] js a b = absurd (omega arith)
seconds (t ∷ ts) (p ∷ ps) [] a b = absurd (omega arith)
seconds (t ∷ ts) (p ∷ ps) (j ∷ js) a b = ap (λ l. p ∷ l) (seconds ts ps js (omega arith) (omega arith))

thirds : (ts ps js : List ℕ) → length ps ≡ length ts → length js ≡ length ts → map (λ (t : Triple). t.2) (triples ts ps js) ≡ js
thirds [] ps [] a b = refl
thirds [] ps (j ∷ js) a b = absurd (omega arith)
thirds (t ∷ ts) [] js a b = absurd (omega arith)
thirds (t ∷ ts) (p ∷ ps) [] a b = absurd (omega arith)
thirds (t ∷ ts) (p ∷ ps) (j ∷ js) a b = ap (λ l. j ∷ l) (thirds ts ps js (omega arith) (omega arith))

-- and those of visits
came-times : (visits : List Visit) → map (λ (t : Triple). t.0) (came visits) ≡ map (λ (x : Visit). x.arrive) visits
came-times [] = refl
came-times (x ∷ visits) = ap (λ l. x.arrive ∷ l) (came-times visits)

came-ports : (visits : List Visit) → map (λ (t : Triple). t.1) (came visits) ≡ map (λ (x : Visit). x.port) visits
came-ports [] = refl
came-ports (x ∷ visits) = ap (λ l. x.port ∷ l) (came-ports visits)

came-jobs : (visits : List Visit) → map (λ (t : Triple). t.2) (came visits) ≡ map (λ (x : Visit). x.job) visits
came-jobs [] = refl
came-jobs (x ∷ visits) = ap (λ l. x.job ∷ l) (came-jobs visits)

pub gathered-came : GatheredCame
gathered-came gathered visits e =
    let ts = gathered.stream.time in
    let ps = gathered.port in
    let js = gathered.stream.job in
    let ports = sym gathered.times in
    let jobs = gathered.jobs ∙ sym gathered.times in
    let times : ts ≡ map (λ (x : Visit). x.arrive) visits = sym (firsts ts ps js ports jobs) ∙ (ap (map (λ (t : Triple). t.0)) e ∙ came-times visits) in
    let port : ps ≡ map (λ (x : Visit). x.port) visits = sym (seconds ts ps js ports jobs) ∙ (ap (map (λ (t : Triple). t.1)) e ∙ came-ports visits) in
    let job : js ≡ map (λ (x : Visit). x.job) visits = sym (thirds ts ps js ports jobs) ∙ (ap (map (λ (t : Triple). t.2)) e ∙ came-jobs visits) in
    λ k. record { ports = gathered.ports; port = port k; job = job k; arrive = times k }
