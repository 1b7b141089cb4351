-- The words of a tandem's stages say them again, and their bytes and number.
use Rattle.std.proofs.Common.{◌≡◌, ◌∙◌, sym, ap, refl, ℕ, ◌-◌, ◌<◌, ◌≤◌, List, [], ◌∷◌, ◌++◌, length, true, Ok, arith}
use Rattle.std.specs.Prelude.{codes, decimal}
use Rattle.std.specs.List.{flat_map}
use Rattle.std.proofs.lemmas.Bool.{and_parts, leb-true}
use Rattle.mq_core.specs.Ranges.{is_within}
use Rattle.mq_model.specs.Form.{Word, read}
use Rattle.mq_model.specs.Lines.{a_stage, key, stages, stages_behind, tandem_kind}
use Rattle.mq_model.specs.Printed.{demand_word, stage_words, stages_words}
use Rattle.mq_model.specs.declared.said.SaidKind.TheVariants.{Tandem}
use Rattle.mq_model.specs.declared.said.SaidStage.{SaidStage}
use Rattle.mq_model.proofs.FormFacts.{read_then}
use Rattle.mq_model.proofs.Lists.{AreAll}
use Rattle.mq_model.proofs.PrintedParts.{a_demand_again, within_again}
use Rattle.mq_model.specs.Reading.{with_front}
use Rattle.mq_model.proofs.SoundLines.{AreSoundStages, IsSoundStage}
use Rattle.mq_model.proofs.StageFacts.{behind_two, stages_no, stages_yes}

stage_again : (stage : SaidStage) (more : List Word) → IsSoundStage 1 4 stage → read a_stage (decimal stage.places ∷ demand_word stage.demand ∷ more) ≡ Ok (stage, more)
unfolding a_stage read
stage_again stage more sound = rw (read_then, within_again 1 4 stage.places (demand_word stage.demand ∷ more) (omega arith) sound.0, read_then, a_demand_again stage.demand more sound.1) refl

further_again : (n : ℕ) (all : List SaidStage) (rest : List Word) → length all ≤ n → AreAll (IsSoundStage 1 4) all → read (stages n) (flat_map stage_words all ++ codes "from" ∷ rest) ≡ Ok (all, codes "from" ∷ rest)
further_again n [] rest few sound = stages_no n (codes "from" ∷ rest) rest (codes "from") refl refl
further_again n (stage ∷ all) rest few sound =
    let some : 0 < n = omega arith in
    let fits : length all ≤ n - 1 = omega arith in
    let behind : List Word = flat_map stage_words all ++ codes "from" ∷ rest in
    stages_yes n (codes "/" ∷ decimal stage.places ∷ demand_word stage.demand ∷ behind) (decimal stage.places ∷ demand_word stage.demand ∷ behind) behind (codes "/") stage some refl refl (stage_again stage behind sound.0)
    ∙ ap (with_front (stage ∷ [])) (further_again (n - 1) all rest fits sound.1)

slash_again : (ws : List Word) → read (key (codes "/")) (codes "/" ∷ ws) ≡ Ok (tt, ws)
unfolding read
slash_again ws = refl

behind_again : (first : SaidStage) (all : List SaidStage) (rest : List Word) → first.places ≡ 0 → is_within 1 3 (length all) ≡ true → AreAll (IsSoundStage 1 4) all
    → read (stages_behind first.demand) (flat_map stage_words all ++ codes "from" ∷ rest) ≡ Ok (first ∷ all, codes "from" ∷ rest)
behind_again first [] rest none count sound = absurd (cc)
behind_again first (second ∷ all) rest none count sound =
    let most : length (second ∷ all) ≤ 3 = leb-true _ _ (and_parts _ _ count).1 in
    let fits : length all ≤ 2 = omega arith in
    let behind : List Word = flat_map stage_words all ++ codes "from" ∷ rest in
    let ws : List Word = decimal second.places ∷ demand_word second.demand ∷ behind in
    let slash : read (key (codes "/")) (codes "/" ∷ ws) ≡ Ok (tt, ws) = slash_again ws in
    behind_two first.demand (codes "/" ∷ ws) ws behind second slash (stage_again second behind sound.0)
    ∙ ap (with_front (record { places = 0; demand = first.demand } ∷ second ∷ [])) (further_again 2 all rest fits sound.1)
    ∙ ap (λ n. Ok (record { places = n; demand = first.demand } ∷ second ∷ all, codes "from" ∷ rest)) (sym none)

pub tandem_again : (all : List SaidStage) (rest : List Word) → AreSoundStages all → read tandem_kind (stages_words all ++ codes "from" ∷ rest) ≡ Ok (Tandem all, codes "from" ∷ rest)
unfolding tandem_kind read
tandem_again [] rest sound = absurd sound
tandem_again (first ∷ all) rest sound =
    let low : first.places ≤ 0 = leb-true _ _ (and_parts _ _ sound.0.0).1 in
    let none : first.places ≡ 0 = omega arith in
    rw (read_then, a_demand_again first.demand (flat_map stage_words all ++ codes "from" ∷ rest) sound.0.1, read_then, behind_again first all rest none sound.1 sound.2) refl
