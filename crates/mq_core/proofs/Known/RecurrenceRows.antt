-- The recurrences of the stations, computed on cases worked by hand.
use Rattle.std.proofs.Common.{◌≡◌, [], ◌∷◌, refl}
use Rattle.mq_core.specs.Recurrences.{lindley, delayed, loss_fates, trunk_fates, forkjoin_departs, tandem_departs}
use Rattle.mq_core.specs.declared.model.Fate.TheVariants.{Departs, Lost}

server-row : lindley 0 (0 ∷ 1 ∷ 2 ∷ []) (4 ∷ 1 ∷ 3 ∷ []) ≡ 4 ∷ 5 ∷ 8 ∷ []
server-row = refl

delay-row : delayed (0 ∷ 1 ∷ []) (5 ∷ 1 ∷ []) ≡ 5 ∷ 2 ∷ []
delay-row = refl

-- every other arrival is lost, and one that comes when its place is left is admitted
loss-row : loss_fates 1 [] (0 ∷ 1 ∷ 2 ∷ 3 ∷ []) (2 ∷ 2 ∷ 2 ∷ 2 ∷ []) ≡ Departs 2 ∷ Lost ∷ Departs 4 ∷ Lost ∷ []
loss-row = refl

-- the calls at an expert with two places
expert-row : loss_fates 2 [] (2 ∷ 3 ∷ 6 ∷ 7 ∷ 9 ∷ 10 ∷ []) (6 ∷ 5 ∷ 4 ∷ 3 ∷ 2 ∷ 1 ∷ []) ≡ Departs 8 ∷ Departs 13 ∷ Lost ∷ Lost ∷ Departs 15 ∷ Lost ∷ []
expert-row = refl

-- the third finds both servers busy, and the fourth comes as the first leaves
trunk-row : trunk_fates 2 [] (0 ∷ 1 ∷ 2 ∷ 3 ∷ 4 ∷ []) (3 ∷ 3 ∷ 3 ∷ 3 ∷ 3 ∷ []) ≡ Departs 3 ∷ Departs 4 ∷ Lost ∷ Departs 6 ∷ Departs 7 ∷ []
trunk-row = refl

-- the second leaves before the first, so the third finds its server
overtaken-row : trunk_fates 2 [] (0 ∷ 1 ∷ 2 ∷ 3 ∷ []) (5 ∷ 1 ∷ 2 ∷ 1 ∷ []) ≡ Departs 5 ∷ Departs 2 ∷ Departs 4 ∷ Lost ∷ []
overtaken-row = refl

forkjoin-row : forkjoin_departs (0 ∷ 1 ∷ []) (((2 ∷ 2 ∷ []) ∷ []) ∷ ((3 ∷ 3 ∷ []) ∷ []) ∷ []) ≡ 3 ∷ 6 ∷ []
forkjoin-row = refl

-- a branch of two servers beside one of a single server
series-row : forkjoin_departs (0 ∷ 1 ∷ []) (((1 ∷ 1 ∷ []) ∷ (2 ∷ 2 ∷ []) ∷ []) ∷ ((4 ∷ 4 ∷ []) ∷ []) ∷ []) ≡ 4 ∷ 8 ∷ []
series-row = refl

tandem-row : tandem_departs (0 ∷ 1 ∷ []) ([] ∷ [] ∷ []) (0 ∷ 0 ∷ 0 ∷ []) ((1 ∷ 1 ∷ 1 ∷ []) ∷ (3 ∷ 3 ∷ 3 ∷ []) ∷ []) ≡ 4 ∷ 7 ∷ 10 ∷ []
tandem-row = refl

-- the second job is done early at the first stage and stays there, so the third begins late
blocked-row : tandem_departs (0 ∷ 1 ∷ []) ([] ∷ [] ∷ []) (0 ∷ 0 ∷ 0 ∷ []) ((1 ∷ 1 ∷ 5 ∷ []) ∷ (3 ∷ 1 ∷ 1 ∷ []) ∷ []) ≡ 4 ∷ 5 ∷ 10 ∷ []
blocked-row = refl
