-- The flow of a loss station: its fates, its outputs and its times, and that neither output goes back in time.
use Rattle.std.proofs.Common.{◌≡◌, inl, inr, ℕ, suc, ◌+◌, ◌≤◌, max, Bool, true, false, cond, eqb, List, [], ◌∷◌, map, length, sym, refl, ap, ◌∙◌, arith, eqb-true, ◌*◌, ◌^◌}
use Rattle.std.specs.Prelude.{slice_get}
use Rattle.std.specs.List.{AllByRecursion as Each}
use Rattle.mq_base.proofs.lemmas.Each.{Each-weaker, Each-filter_if, Each-any}
use Rattle.mq_core.proofs.Loss.LossFlow.{leaves_at}
use Rattle.mq_core.specs.SequenceLaws.{arrives_of, jobs_of, FatesInTime}
use Rattle.mq_core.specs.OnceOut.{faring_from, out_of_fate}
use Rattle.mq_core.specs.Fates.{fate_by}
use Rattle.mq_core.specs.Handling.{demand_of_job}
use Rattle.mq_core.specs.Laws.{Rises, in_order_of, stream_of}
use Rattle.mq_core.specs.Machine.{Visit, Emission}
use Rattle.mq_core.specs.Recurrences.{is_admitted, loss_fates, time_or_none}
use Rattle.mq_core.specs.declared.model.Demand.{Demand}
use Rattle.mq_core.specs.declared.model.Fate.{Fate}
use Rattle.mq_core.specs.declared.model.Fate.TheVariants.{Departs, Held, Lost}
use Rattle.mq_core.specs.declared.model.Kind.TheVariants.{Loss}
use Rattle.mq_core.specs.declared.model.Rows.{Rows}
use Rattle.mq_core.proofs.Counting.SequenceNumbers.{EachLeaves, Numbered}
use Rattle.mq_core.proofs.lemmas.Rising.{Rises-filter, Rises-in_order_of, filter-in_order_of, same_by_key}
use Rattle.mq_core.proofs.Counting.Stays.{FatesStay, cons}
use Rattle.mq_core.proofs.Bounded.BoundedStations.{AreBy, AreSmall, LeaveBy}
use Rattle.mq_core.proofs.lemmas.Over.{IsOver}

-- a loss station has a fate for each visit
pub loss-even : (places : ℕ) (left : List ℕ) (arrive demand : Visit → ℕ) (visits : List Visit) → length (loss_fates places left (map arrive visits) (map demand visits)) ≡ length visits
loss-even places left arrive demand [] = refl
loss-even places left arrive demand (x ∷ xs) = go (is_admitted places left (arrive x)) (λ l. loss-even places l arrive demand xs)
  where
    time : ℕ
    time = max (arrive x) (time_or_none (slice_get left 0)) + demand x

    go : (b : Bool) → ((l : List ℕ) → length (loss_fates places l (map arrive xs) (map demand xs)) ≡ length xs) → length (cond b (Departs time ∷ loss_fates places (time ∷ left) (map arrive xs) (map demand xs)) (Lost ∷ loss_fates places left (map arrive xs) (map demand xs))) ≡ suc (length xs)
    go true ih = ap suc (ih (time ∷ left))
    go false ih = ap suc (ih left)

pub faring-numbered : (k : ℕ) (fates : List Fate) (visits : List Visit) → length fates ≡ length visits → Numbered k (faring_from k fates visits) visits
faring-numbered k [] [] e = tt
faring-numbered k [] (x ∷ xs) e = absurd (omega arith)
faring-numbered k (fate ∷ fates) [] e = absurd (omega arith)
faring-numbered k (Departs time ∷ fates) (x ∷ xs) e = (refl, refl, faring-numbered (suc k) fates xs (omega arith))
faring-numbered k (Lost ∷ fates) (x ∷ xs) e = (refl, refl, faring-numbered (suc k) fates xs (omega arith))
faring-numbered k (Held ∷ fates) (x ∷ xs) e = (refl, refl, faring-numbered (suc k) fates xs (omega arith))

-- each visit fares as it is let out
pub faring-fates : (places : ℕ) (demand : Demand) (k : ℕ) (fates : List Fate) (visits : List Visit) → length fates ≡ length visits → Each IsOver fates → map (fate_by (Loss places demand)) (faring_from k fates visits) ≡ fates
faring-fates places demand k [] visits e o = refl
faring-fates places demand k (fate ∷ fates) [] e o = absurd (omega arith)
faring-fates places demand k (Departs time ∷ fates) (x ∷ xs) e o = ap (λ l. Departs time ∷ l) (faring-fates places demand (suc k) fates xs (omega arith) o.1)
faring-fates places demand k (Lost ∷ fates) (x ∷ xs) e o = ap (λ l. Lost ∷ l) (faring-fates places demand (suc k) fates xs (omega arith) o.1)
faring-fates places demand k (Held ∷ fates) (x ∷ xs) e o = absurd o.0

pub faring-leaves : (places : ℕ) (demand : Demand) (k : ℕ) (fates : List Fate) (visits : List Visit) → EachLeaves (Loss places demand) (faring_from k fates visits) visits
faring-leaves places demand k [] visits = tt
faring-leaves places demand k (fate ∷ fates) [] = tt
faring-leaves places demand k (Departs time ∷ fates) (x ∷ xs) = (inl refl, faring-leaves places demand (suc k) fates xs)
faring-leaves places demand k (Lost ∷ fates) (x ∷ xs) = (inr (refl, refl), faring-leaves places demand (suc k) fates xs)
faring-leaves places demand k (Held ∷ fates) (x ∷ xs) = (inl refl, faring-leaves places demand (suc k) fates xs)

pub faring-outs : (k : ℕ) (fates : List Fate) (visits : List Visit) → length fates ≡ length visits → map (λ (m : Emission). m.out) (faring_from k fates visits) ≡ map out_of_fate fates
faring-outs k [] visits e = refl
faring-outs k (fate ∷ fates) [] e = absurd (omega arith)
faring-outs k (Departs time ∷ fates) (x ∷ xs) e = ap (λ l. 0 ∷ l) (faring-outs (suc k) fates xs (omega arith))
faring-outs k (Lost ∷ fates) (x ∷ xs) e = ap (λ l. 1 ∷ l) (faring-outs (suc k) fates xs (omega arith))
faring-outs k (Held ∷ fates) (x ∷ xs) e = ap (λ l. 0 ∷ l) (faring-outs (suc k) fates xs (omega arith))

-- what these visits let out, where these departures were before them
abbrev loss_flow : Rows → ℕ → Demand → ℕ → List ℕ → List Visit → List Emission
loss_flow rows places demand k left xs = faring_from k (loss_fates places left (map (λ (x : Visit). x.arrive) xs) (map (λ (x : Visit). demand_of_job rows demand x.job) xs)) xs

-- the same where the first of them is admitted, or isn't
abbrev flow_if : Rows → ℕ → Demand → ℕ → List ℕ → Visit → List Visit → Bool → List Emission
flow_if rows places demand k left x xs b =
    faring_from k
    (cond b (Departs (leaves_at rows demand left x) ∷ loss_fates places (leaves_at rows demand left x ∷ left) (map (λ (y : Visit). y.arrive) xs) (map (λ (y : Visit). demand_of_job rows demand y.job) xs)) (Lost ∷ loss_fates places left (map (λ (y : Visit). y.arrive) xs) (map (λ (y : Visit). demand_of_job rows demand y.job) xs)))
    (x ∷ xs)

-- who is admitted leaves no earlier than this one before, and who is lost no earlier than this arrival before
abbrev IsBehind : ℕ → ℕ → Emission → Type 0
IsBehind last low n = (n.out ≡ 0 → last ≤ n.time) × (n.out ≡ 1 → low ≤ n.time)

loss-behind : (rows : Rows) (places : ℕ) (demand : Demand) (last low k : ℕ) (left : List ℕ) (visits : List Visit) → last ≤ time_or_none (slice_get left 0) → Each (λ a. low ≤ a) (arrives_of visits) → Each (IsBehind last low) (loss_flow rows places demand k left visits)
loss-behind rows places demand last low k left [] h r = tt
loss-behind rows places demand last low k left (x ∷ xs) h r = go (is_admitted places left x.arrive) (λ l e. loss-behind rows places demand last low (suc k) l xs e r.1)
  where
    go : (b : Bool) → ((l : List ℕ) → last ≤ time_or_none (slice_get l 0) → Each (IsBehind last low) (loss_flow rows places demand (suc k) l xs)) → Each (IsBehind last low) (flow_if rows places demand k left x xs b)
    go true ih = ((λ e. omega arith, λ e. absurd (omega arith)), ih (leaves_at rows demand left x ∷ left) (omega arith))
    go false ih = ((λ e. absurd (omega arith), λ e. r.0), ih left h)

-- of two that leave by one output the later in position leaves no earlier
abbrev ByPosition : Emission → Emission → Type 0
ByPosition m n = m.out ≡ n.out → m.time ≤ n.time

loss-by_position : (rows : Rows) (places : ℕ) (demand : Demand) (k : ℕ) (left : List ℕ) (visits : List Visit) → Rises (λ a b. a ≤ b) (arrives_of visits) → Rises ByPosition (loss_flow rows places demand k left visits)
loss-by_position rows places demand k left [] r = tt
loss-by_position rows places demand k left (x ∷ xs) r = go (is_admitted places left x.arrive) (λ l. loss-by_position rows places demand (suc k) l xs r.1)
  where
    go : (b : Bool) → ((l : List ℕ) → Rises ByPosition (loss_flow rows places demand (suc k) l xs)) → Rises ByPosition (flow_if rows places demand k left x xs b)
    go true ih = (
      Each-weaker _ _ (λ n h e. h.0 (sym e)) (loss_flow rows places demand (suc k) (leaves_at rows demand left x ∷ left) xs) (loss-behind rows places demand (leaves_at rows demand left x) x.arrive (suc k) (leaves_at rows demand left x ∷ left) xs (omega arith) r.0),
      ih (leaves_at rows demand left x ∷ left),
    )
    go false ih = (
      Each-weaker _ _ (λ n h e. h.1 (sym e)) (loss_flow rows places demand (suc k) left xs) (loss-behind rows places demand 0 x.arrive (suc k) left xs (omega arith) r.0),
      ih left,
    )

-- those of one output
position-rises : (out : ℕ) (ms : List Emission) → Each (λ (m : Emission). m.out ≡ out) ms → Rises ByPosition ms → Rises (λ (a b : Emission). a.time ≤ b.time) ms
position-rises out [] h r = tt
position-rises out (m ∷ ms) h r = (both ms h.1 r.0, position-rises out ms h.1 r.1)
  where
    both : (ns : List Emission) → Each (λ (n : Emission). n.out ≡ out) ns → Each (ByPosition m) ns → Each (λ (n : Emission). m.time ≤ n.time) ns
    both [] p q = tt
    both (n ∷ ns) p q = (q.0 (h.0 ∙ sym p.0), both ns p.1 q.1)

-- what is in order stays where it is put in order
in-order-already : {X : Type 0} (key : X → ℕ) (xs : List X) → Rises (λ a b. key a ≤ key b) xs → in_order_of key xs ≡ xs
in-order-already key xs r = same_by_key key (in_order_of key xs) xs (Rises-in_order_of key xs) r (λ k. filter-in_order_of key k xs)

-- each output lets out by position
pub loss-stream : (rows : Rows) (places : ℕ) (demand : Demand) (visits : List Visit) (out : ℕ) → Rises (λ a b. a ≤ b) (arrives_of visits) → in_order_of (λ (m : Emission). m.time) (stream_of out (loss_flow rows places demand 0 [] visits)) ≡ stream_of out (loss_flow rows places demand 0 [] visits)
loss-stream rows places demand visits out r =
    in-order-already (λ (m : Emission). m.time) _
    (position-rises out _ (Each-filter_if (λ (m : Emission). m.out ≡ out) (λ (m : Emission). eqb m.out out) (loss_flow rows places demand 0 [] visits) (Each-any _ (λ m. eqb-true m.out out) (loss_flow rows places demand 0 [] visits)))
    (Rises-filter ByPosition (λ (m : Emission). eqb m.out out) (loss_flow rows places demand 0 [] visits) (loss-by_position rows places demand 0 [] visits r)))

pub demands-of : (rows : Rows) (demand : Demand) (visits : List Visit) → map (λ (x : Visit). demand_of_job rows demand x.job) visits ≡ map (demand_of_job rows demand) (jobs_of visits)
demands-of rows demand [] = refl
demands-of rows demand (x ∷ xs) = ap (λ l. demand_of_job rows demand x.job ∷ l) (demands-of rows demand xs)

pub even-fates : (rows : Rows) (places : ℕ) (demand : Demand) (visits : List Visit) → length (loss_fates places [] (map (λ (x : Visit). x.arrive) visits) (map (λ (x : Visit). demand_of_job rows demand x.job) visits)) ≡ length visits
even-fates rows places demand visits = loss-even places [] (λ x. x.arrive) (λ x. demand_of_job rows demand x.job) visits

pub stay-admitted : (places : ℕ) (demand : ℕ → ℕ) (left job arrive : List ℕ) → FatesStay demand job arrive (loss_fates places left arrive (map demand job))
stay-admitted places demand left job [] = tt
stay-admitted places demand left [] (a ∷ later) = tt
stay-admitted places demand left (j ∷ js) (a ∷ later) = go (is_admitted places left a) (λ l. stay-admitted places demand l js later)
  where
    time : ℕ
    time = max a (time_or_none (slice_get left 0)) + demand j

    go : (b : Bool) → ((l : List ℕ) → FatesStay demand js later (loss_fates places l later (map demand js))) → FatesStay demand (j ∷ js) (a ∷ later) (cond b (Departs time ∷ loss_fates places (time ∷ left) later (map demand js)) (Lost ∷ loss_fates places left later (map demand js)))
    go true ih = (omega arith, ih (time ∷ left))
    go false ih = (tt, ih left)

pub when-lost : (places : ℕ) (demand : ℕ → ℕ) (left job arrive : List ℕ) → length job ≡ length arrive → FatesInTime arrive (loss_fates places left arrive (map demand job))
when-lost places demand left [] [] e = record { even = omega arith; each = tt }
when-lost places demand left [] (a ∷ later) e = absurd (omega arith)
when-lost places demand left (j ∷ js) [] e = absurd (omega arith)
when-lost places demand left (j ∷ js) (a ∷ later) e = go (is_admitted places left a) (λ l. when-lost places demand l js later (omega arith))
  where
    time : ℕ
    time = max a (time_or_none (slice_get left 0)) + demand j

    go : (b : Bool) → ((l : List ℕ) → FatesInTime later (loss_fates places l later (map demand js))) → FatesInTime (a ∷ later) (cond b (Departs time ∷ loss_fates places (time ∷ left) later (map demand js)) (Lost ∷ loss_fates places left later (map demand js)))
    go true ih = cons a time later _ (omega arith) (ih (time ∷ left))
    go false ih = record { even = ap suc (ih left).even; each = (tt, (ih left).each) }

-- from a loss station: as from a server, for those that are admitted
pub loss-by : (limit top high places : ℕ) (left times demands : List ℕ) → top ≤ high → time_or_none (slice_get left 0) ≤ high → high + length times * 2 ^ 36 ≤ limit → AreBy top times → AreSmall demands → LeaveBy limit (loss_fates places left times demands)
loss-by limit top high places left [] demands t l room ts ds = tt
loss-by limit top high places left (time ∷ times) [] t l room ts ds = tt
loss-by limit top high places left (time ∷ times) (demand ∷ demands) t l room ts ds =
    go (is_admitted places left time)
    (loss-by limit top (high + 2 ^ 36) places (departure ∷ left) times demands (omega arith) next (omega arith) ts.1 ds.1)
    (loss-by limit top high places left times demands t l (omega arith) ts.1 ds.1)
  where
    departure : ℕ
    departure = max time (time_or_none (slice_get left 0)) + demand

    next : departure ≤ high + 2 ^ 36
    next = let a = ts.0 in let b = ds.0 in omega arith

    go : (b : Bool) → LeaveBy limit (loss_fates places (departure ∷ left) times demands) → LeaveBy limit (loss_fates places left times demands) → LeaveBy limit (cond b (Departs departure ∷ loss_fates places (departure ∷ left) times demands) (Lost ∷ loss_fates places left times demands))
    go true admitted lost = (let n = next in omega arith, admitted)
    go false admitted lost = (tt, lost)
