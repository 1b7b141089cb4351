-- Which jobs leave by which output, as loops over the arrivals find them.
use Rattle.std.proofs.Common.{◌≡◌, ℕ, suc, ◌+◌, ◌<◌, ◌≤◌, Bool, true, false, List, [], ◌∷◌, ◌++◌, length, drop, Some, sym, refl, ap, ◌∙◌, arith, append_assoc, length-append}
use Rattle.std.specs.Prelude.{slice_get}
use Rattle.std.proofs.lemmas.List.{append-nil, drop_all, drop_more}
use Rattle.mq_base.proofs.lemmas.Lists.{drop_at}
use Rattle.mq_trunk.specs.Parts.{of_admitted, of_lost}
use Rattle.mq_rounds.specs.Rounds.{departures_from}
use Rattle.mq_trunk.specs.Rounds.{departure_at_once}

-- an arrival that is admitted
pub admitted-next : (done done' all : List ℕ) (admitted : List Bool) (items : List ℕ) (at item : ℕ) → slice_get admitted at ≡ Some true → slice_get items at ≡ Some item → done' ≡ done ++ item ∷ [] →
    done ++ of_admitted (drop at admitted) (drop at items) ≡ all → done' ++ of_admitted (drop (at + 1) admitted) (drop (at + 1) items) ≡ all
admitted-next done done' all admitted items at item a i p h =
    ap (λ xs. xs ++ of_admitted (drop (at + 1) admitted) (drop (at + 1) items)) p
    ∙ (append_assoc done (item ∷ []) (of_admitted (drop (at + 1) admitted) (drop (at + 1) items))
    ∙ (sym (λ k. done ++ of_admitted (drop_at admitted at true a k) (drop_at items at item i k)) ∙ h))

pub lost-past : (done all : List ℕ) (admitted : List Bool) (items : List ℕ) (at : ℕ) → slice_get admitted at ≡ Some true → at < length items →
    done ++ of_lost (drop at admitted) (drop at items) ≡ all → done ++ of_lost (drop (at + 1) admitted) (drop (at + 1) items) ≡ all
lost-past done all admitted items at a i h = sym (λ k. done ++ of_lost (drop_at admitted at true a k) (drop_more items at 0 i k)) ∙ h

-- one that is lost
pub lost-next : (done done' all : List ℕ) (admitted : List Bool) (items : List ℕ) (at item : ℕ) → slice_get admitted at ≡ Some false → slice_get items at ≡ Some item → done' ≡ done ++ item ∷ [] →
    done ++ of_lost (drop at admitted) (drop at items) ≡ all → done' ++ of_lost (drop (at + 1) admitted) (drop (at + 1) items) ≡ all
lost-next done done' all admitted items at item a i p h =
    ap (λ xs. xs ++ of_lost (drop (at + 1) admitted) (drop (at + 1) items)) p
    ∙ (append_assoc done (item ∷ []) (of_lost (drop (at + 1) admitted) (drop (at + 1) items))
    ∙ (sym (λ k. done ++ of_lost (drop_at admitted at false a k) (drop_at items at item i k)) ∙ h))

pub admitted-past : (done all : List ℕ) (admitted : List Bool) (items : List ℕ) (at : ℕ) → slice_get admitted at ≡ Some false → at < length items →
    done ++ of_admitted (drop at admitted) (drop at items) ≡ all → done ++ of_admitted (drop (at + 1) admitted) (drop (at + 1) items) ≡ all
admitted-past done all admitted items at a i h = sym (λ k. done ++ of_admitted (drop_at admitted at false a k) (drop_more items at 0 i k)) ∙ h

-- at the end nothing is left
pub admitted-end : (done all : List ℕ) (admitted : List Bool) (items : List ℕ) (at : ℕ) → length admitted ≤ at → done ++ of_admitted (drop at admitted) (drop at items) ≡ all → done ≡ all
admitted-end done all admitted items at l h = sym (append-nil done) ∙ (ap (λ (xs : List Bool). done ++ of_admitted xs (drop at items)) (sym (drop_all at admitted l)) ∙ h)

pub lost-end : (done all : List ℕ) (admitted : List Bool) (items : List ℕ) (at : ℕ) → length admitted ≤ at → done ++ of_lost (drop at admitted) (drop at items) ≡ all → done ≡ all
lost-end done all admitted items at l h = sym (append-nil done) ∙ (ap (λ (xs : List Bool). done ++ of_lost xs (drop at items)) (sym (drop_all at admitted l)) ∙ h)

-- each job that is admitted has its departure
pub departures-each : (left times demands : List ℕ) (admitted : List Bool) (jobs : List ℕ) → length demands ≡ length times → length jobs ≡ length times →
    length (departures_from departure_at_once left times demands admitted) ≡ length (of_admitted admitted jobs)
departures-each left [] demands [] jobs d j = refl
departures-each left [] demands (admit ∷ admitted) [] d j = refl
departures-each left [] demands (admit ∷ admitted) (job ∷ jobs) d j = absurd (omega arith)
departures-each left (arrive ∷ times) [] admitted jobs d j = absurd (omega arith)
departures-each left (arrive ∷ times) (demand ∷ demands) [] jobs d j = refl
departures-each left (arrive ∷ times) (demand ∷ demands) (admit ∷ admitted) [] d j = absurd (omega arith)
departures-each left (arrive ∷ times) (demand ∷ demands) (true ∷ admitted) (job ∷ jobs) d j = ap suc (departures-each ((arrive + demand) ∷ left) times demands admitted jobs (omega arith) (omega arith))
departures-each left (arrive ∷ times) (demand ∷ demands) (false ∷ admitted) (job ∷ jobs) d j = departures-each left times demands admitted jobs (omega arith) (omega arith)

-- there is one more to come
pub admitted-room : (done all : List ℕ) (admitted : List Bool) (items : List ℕ) (at item : ℕ) → slice_get admitted at ≡ Some true → slice_get items at ≡ Some item →
    done ++ of_admitted (drop at admitted) (drop at items) ≡ all → length done < length all
admitted-room done all admitted items at item a i h =
    let more : done ++ item ∷ of_admitted (drop (at + 1) admitted) (drop (at + 1) items) ≡ all = sym (λ k. done ++ of_admitted (drop_at admitted at true a k) (drop_at items at item i k)) ∙ h in
    let whole = sym (length-append done (item ∷ of_admitted (drop (at + 1) admitted) (drop (at + 1) items))) ∙ ap length more in
    omega arith

pub lost-room : (done all : List ℕ) (admitted : List Bool) (items : List ℕ) (at item : ℕ) → slice_get admitted at ≡ Some false → slice_get items at ≡ Some item →
    done ++ of_lost (drop at admitted) (drop at items) ≡ all → length done < length all
lost-room done all admitted items at item a i h =
    let more : done ++ item ∷ of_lost (drop (at + 1) admitted) (drop (at + 1) items) ≡ all = sym (λ k. done ++ of_lost (drop_at admitted at false a k) (drop_at items at item i k)) ∙ h in
    let whole = sym (length-append done (item ∷ of_lost (drop (at + 1) admitted) (drop (at + 1) items))) ∙ ap length more in
    omega arith

-- each goes by one of the two
pub both : (admitted : List Bool) (items : List ℕ) → length items ≡ length admitted → length (of_admitted admitted items) + length (of_lost admitted items) ≡ length admitted
both [] items e = refl
both (admit ∷ admitted) [] e = absurd (omega arith)
both (true ∷ admitted) (item ∷ items) e = let h = both admitted items (omega arith) in omega arith
both (false ∷ admitted) (item ∷ items) e = let h = both admitted items (omega arith) in omega arith
