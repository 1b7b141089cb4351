-- The stations of a wave as they are put in their places, from the back.
use Rattle.std.proofs.Common.{◌≡◌, ℕ, suc, ◌+◌, ◌≤◌, List, [], ◌∷◌, ◌++◌, length, refl, sym, ap, ◌∙◌, subst, arith, length-append}
use Rattle.std.specs.List.{AllByRecursion}
use Rattle.mq_base.proofs.lemmas.Lists.{only}
use Rattle.mq_base.proofs.lemmas.Each.{Each-append, Each-back, Each-front}
use Rattle.std.specs.Prelude.{Contains}
use Rattle.mq_core.specs.Theorems.{IsReadFor}
use Rattle.mq_core.specs.declared.model.Plan.{Plan}
use Rattle.mq_core.specs.declared.model.Rows.{Rows}
use Rattle.mq_crew.specs.Crew.{AreAll}
use Rattle.mq_crew.proofs.lemmas.Groups.{all-last, append-at, append-before}
use Rattle.mq_arrivals.specs.declared.nodes.Arrived.{Arrived}
use Rattle.mq_arrivals.specs.declared.nodes.Arriving.{Arriving}
use Rattle.mq_kinds.specs.declared.table.Serving.{Serving}
use Rattle.mq_exits.proofs.OfWave.{Keeps}
use Rattle.mq_exits.specs.Loads.{IsLoadOf}
use Rattle.mq_exits.specs.Keeping.{Whose, whose}
use Rattle.mq_exits.specs.Results.{IsResultOf, IsWorkedOut}
use Rattle.mq_exits.specs.Turns.{IsGiven}
use Rattle.mq_exits.specs.declared.keeping.Keep.{Keep}
use Rattle.mq_exits.specs.declared.keeping.Keep.TheVariants.{Lists}
use Rattle.mq_exits.specs.declared.load.Held.{Held}
use Rattle.mq_exits.specs.declared.turns.Given.{Given}
use Rattle.mq_exits.specs.declared.turns.Given.TheVariants.{Ended as GivenEnd}
use Rattle.mq_exits.specs.declared.working.NodeResult.{NodeResult}
use Rattle.mq_engine.specs.Places.{IsArrivedAt, IsPlace, IsServingFor}
use Rattle.mq_engine.specs.declared.places.Place.{Place}
use Rattle.mq_engine.specs.declared.places.Work.TheVariants.{Serving as Serves}

abbrev pub IsPlaceAt : Arriving → Place → Type 0
IsPlaceAt s place = ((keep : Keep) → IsPlace keep place) × IsLoadOf s.plan.now s.rows.now s.ready.now place.held

-- those that are left, and what is made of the others
pub record ArePlacing (s : Arriving) (all left : List Arrived) (servings : List Serving) (done : List Place) : Type 0 where
  pub fits : AllByRecursion (IsArrivedAt s) left
  pub servings_are : AreAll (IsServingFor s.plan.now s.rows.now left) (length left) servings
  pub len : length done + length left ≡ length all
  pub made : AllByRecursion (IsPlaceAt s) done

-- the last is that of the last node
placing-last : (s : Arriving) (rest : List Arrived) (one : Arrived) (servings others : List Serving) (serving : Serving) → AreAll (IsServingFor s.plan.now s.rows.now (rest ++ one ∷ [])) (length (rest ++ one ∷ [])) servings → servings ≡ others ++ serving ∷ [] →
    IsServingFor s.plan.now s.rows.now (one ∷ []) 0 serving × AreAll (IsServingFor s.plan.now s.rows.now rest) (length rest) others
placing-last s rest one servings others serving all e =
    let is = IsServingFor s.plan.now s.rows.now in
    let more = length-append rest (one ∷ []) in
    let last = all-last (is (rest ++ one ∷ [])) (length rest) servings others serving e (subst (λ n. AreAll (is (rest ++ one ∷ [])) n servings) (let n : length (rest ++ one ∷ []) ≡ suc (length rest) = omega arith in n) all) in (
      λ arrived there. last.0 arrived (append-at rest one (length rest) refl ∙ there),
      record {
        len = last.1.len;
        each = λ b d l arrived there. last.1.each b d l arrived (append-before rest one arrived b there);
      },
    )

pub placing-more : (s : Arriving) (all left rest : List Arrived) (one : Arrived) (servings others : List Serving) (serving : Serving) (done done' : List Place) (place : Place) → ArePlacing s all left servings done → left ≡ rest ++ one ∷ [] → servings ≡ others ++ serving ∷ [] → done' ≡ done ++ place ∷ [] →
    IsReadFor s.plan.now.net s.rows.now → 1 ≤ s.block → place ≡ record { held = record { plan = s.plan; rows = s.rows; number = one.number; arrivals = one.arrivals; block = s.block }; work = Serves serving } → ArePlacing s all rest others done'
placing-more s all left rest one servings others serving done done' place was a b e read block is =
    let fits : AllByRecursion (IsArrivedAt s) (rest ++ one ∷ []) = subst (AllByRecursion (IsArrivedAt s)) a was.fits in
    let here = (Each-back (IsArrivedAt s) rest (one ∷ []) fits).0 in
    let last = placing-last s rest one servings others serving (subst (λ (l : List Arrived). AreAll (IsServingFor s.plan.now s.rows.now l) (length l) servings) a was.servings_are) b in
    let own = last.0 one refl in
    record {
      fits = Each-front (IsArrivedAt s) rest (one ∷ []) fits;
      servings_are = last.1;
      len =
          let count = was.len in
          let more = ap length e in
          let grown = length-append done (place ∷ []) in
          let less = ap length a in
          let gone = length-append rest (one ∷ []) in
          omega arith;
      made =
          subst (AllByRecursion (IsPlaceAt s)) (sym e)
          (Each-append (IsPlaceAt s) done (place ∷ []) was.made (subst (IsPlaceAt s) (sym is) (λ keep. ((read, here.0, block), own), (refl, refl, here.1)), tt));
    }

-- a place of a wave, in a run that keeps this
abbrev pub IsPlaceIn : Keeps → Place → Type 0
IsPlaceIn k place = IsPlace k.0 place × IsLoadOf k.1.0 k.1.1 k.1.2 place.held

pub both-each : {X : Type 0} (P Q : X → Type 0) (xs : List X) → AllByRecursion P xs → AllByRecursion Q xs → AllByRecursion (λ x. P x × Q x) xs
both-each P Q [] p q = tt
both-each P Q (x ∷ xs) p q = ((p.0, q.0), both-each P Q xs p.1 q.1)

-- a place alone, in a run that keeps lists: what it gives is how its node ends
pub alone : (held : Held) (place : Place) (given : Given) → whose place.held ≡ whose held → IsPlace Lists place →
    ((keep : Keep) (plan : Plan) (rows : Rows) (ready : List ℕ) → IsPlace keep place → IsLoadOf plan rows ready place.held → IsGiven keep plan rows ready given) → IsGiven Lists held.plan.now held.rows.now (held.number ∷ []) given
alone held place given same fit gives =
    gives Lists held.plan.now held.rows.now (held.number ∷ []) fit
    (subst (λ (w : Whose). (w.0 ≡ held.plan.now) × (w.1 ≡ held.rows.now) × Contains (held.number ∷ []) w.2) (sym same) (refl, refl, (0, omega arith, refl)))

pub alone-known : (held : Held) (given : Given) (r : NodeResult) → IsGiven Lists held.plan.now held.rows.now (held.number ∷ []) given → given ≡ GivenEnd r → IsWorkedOut held.plan.now held.rows.now (record { number = held.number; ending = r.ending })
alone-known held given r h e =
    let is : IsResultOf held.plan.now held.rows.now (held.number ∷ []) r = subst (IsGiven Lists held.plan.now held.rows.now (held.number ∷ [])) e h in
    subst (λ (n : ℕ). IsWorkedOut held.plan.now held.rows.now (record { number = n; ending = r.ending })) (only held.number r.number is.0) is.1
