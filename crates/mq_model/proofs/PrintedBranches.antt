-- The words of a fork-join's branches say them again.
use Rattle.std.proofs.Common.{◌≡◌, ◌∙◌, ap, refl, ℕ, ◌+◌, ◌-◌, ◌<◌, ◌≤◌, List, [], ◌∷◌, ◌++◌, length, false, Ok, arith, append_assoc, length-append, inl, inr}
use Rattle.std.specs.Prelude.{codes, map, nat_lt}
use Rattle.std.specs.List.{flat_map}
use Rattle.std.proofs.lemmas.Bool.{and_parts, cases_Bool, leb-true}
use Rattle.mq_model.specs.Form.{Word, read, up_to}
use Rattle.mq_model.specs.Lines.{a_branch, all_branches, branches, demand_of, forkjoin_kind, is_demand, key, room_of}
use Rattle.mq_model.specs.Printed.{barred_words, branches_words, demand_word}
use Rattle.mq_model.specs.declared.said.SaidDemand.{SaidDemand}
use Rattle.mq_model.specs.declared.said.SaidKind.TheVariants.{ForkJoin}
use Rattle.mq_model.proofs.BranchFacts.{all_two, branch_first, branches_no, branches_yes}
use Rattle.mq_model.proofs.FormFacts.{read_then}
use Rattle.mq_model.proofs.Lists.{AreAll}
use Rattle.mq_model.proofs.PrintedParts.{a_demand_again, demand_again}
use Rattle.mq_model.specs.Reading.{with_front}
use Rattle.mq_model.proofs.ReadFacts.{up_to_no, up_to_yes}
use Rattle.mq_model.proofs.SoundLines.{AreSoundBranches, IsSoundBranch, IsSoundDemand}

-- words that begin with one that is no demand
record IsBehind (ws : List Word) : Type 0 where
  first : Word
  more : List Word
  is : ws ≡ first ∷ more
  other : is_demand first ≡ false

demands_again : (n : ℕ) (demands : List SaidDemand) (ws : List Word) → length demands ≤ n → AreAll IsSoundDemand demands → IsBehind ws → read (up_to n is_demand demand_of) (map demand_word demands ++ ws) ≡ Ok (demands, ws)
demands_again n [] ws few sound behind = up_to_no n is_demand demand_of ws behind.more behind.first behind.is behind.other
demands_again n (d ∷ demands) ws few sound behind =
    let some : 0 < n = omega arith in
    let fits : length demands ≤ n - 1 = omega arith in
    let again = demand_again d sound.0 in
    up_to_yes n is_demand demand_of (demand_word d ∷ (map demand_word demands ++ ws)) (map demand_word demands ++ ws) (demand_word d) some refl again.0
    ∙ ap (with_front (demand_of (demand_word d) ∷ [])) (demands_again (n - 1) demands ws fits sound.1 behind) ∙ ap (λ first. Ok (first ∷ demands, ws)) again.1

has_room : (left n : ℕ) → n + 1 ≤ left → n ≤ 3 → n ≤ room_of left
has_room left n some few =
    elim (cases_Bool (nat_lt 3 left)) [
      | inl wide ↦ rw wide few
      | inr narrow ↦ rw narrow (omega arith)
    ]

branch_again : (left : ℕ) (demands : List SaidDemand) (ws : List Word) → length demands ≤ left → IsSoundBranch demands → IsBehind ws → read (a_branch left) (map demand_word demands ++ ws) ≡ Ok (demands, ws)
branch_again left [] ws few sound behind = let none = sound.0 in absurd (cc)
branch_again left (d ∷ demands) ws few sound behind =
    let most : length (d ∷ demands) ≤ 4 = leb-true _ _ (and_parts _ _ sound.0).1 in
    let room : length demands ≤ room_of left = has_room left (length demands) (omega arith) (omega arith) in
    branch_first left (demand_word d ∷ (map demand_word demands ++ ws)) (map demand_word demands ++ ws) d (a_demand_again d (map demand_word demands ++ ws) sound.1.0)
    ∙ ap (with_front (d ∷ [])) (demands_again (room_of left) demands ws room sound.1.1 behind)

is_behind : (all : List (List SaidDemand)) (rest : List Word) → IsBehind (flat_map barred_words all ++ codes "from" ∷ rest)
is_behind [] rest = record { first = codes "from"; more = rest; is = refl; other = refl }
is_behind (demands ∷ all) rest = record { first = codes "|"; more = (map demand_word demands ++ flat_map barred_words all) ++ codes "from" ∷ rest; is = refl; other = refl }

further_again : (n left : ℕ) (all : List (List SaidDemand)) (rest : List Word) → length all ≤ n → length (flat_map (λ demands. demands) all) ≤ left → AreAll IsSoundBranch all
    → read (branches n left) (flat_map barred_words all ++ codes "from" ∷ rest) ≡ Ok (all, codes "from" ∷ rest)
further_again n left [] rest few fits sound = branches_no n left (codes "from" ∷ rest) rest (codes "from") refl refl
further_again n left (demands ∷ all) rest few fits sound =
    let some : 0 < n = omega arith in
    let short : length all ≤ n - 1 = omega arith in
    let size : length (demands ++ flat_map (λ demands. demands) all) ≡ length demands + length (flat_map (λ demands. demands) all) = length-append demands (flat_map (λ demands. demands) all) in
    let least : 1 ≤ length demands = leb-true _ _ (and_parts _ _ sound.0.0).0 in
    let room : 0 < left = omega arith in
    let within : length demands ≤ left = omega arith in
    let later : length (flat_map (λ demands. demands) all) ≤ left - length demands = omega arith in
    let behind : List Word = flat_map barred_words all ++ codes "from" ∷ rest in
    ap (λ ws. read (branches n left) (codes "|" ∷ ws)) (append_assoc (map demand_word demands) (flat_map barred_words all) (codes "from" ∷ rest))
    ∙ branches_yes n left (codes "|" ∷ (map demand_word demands ++ behind)) (map demand_word demands ++ behind) behind (codes "|") demands some room refl refl (branch_again left demands behind within sound.0 (is_behind all rest))
    ∙ ap (with_front (demands ∷ [])) (further_again (n - 1) (left - length demands) all rest short later sound.1)

bar_again : (ws : List Word) → read (key (codes "|")) (codes "|" ∷ ws) ≡ Ok (tt, ws)
unfolding read
bar_again ws = refl

all_again : (first second : List SaidDemand) (all : List (List SaidDemand)) (rest : List Word) → length all ≤ 6 → length (first ++ (second ++ flat_map (λ demands. demands) all)) ≤ 8 → IsSoundBranch first → IsSoundBranch second → AreAll IsSoundBranch all
    → read all_branches ((map demand_word first ++ flat_map barred_words (second ∷ all)) ++ codes "from" ∷ rest) ≡ Ok (first ∷ second ∷ all, codes "from" ∷ rest)
all_again first second all rest few fits one two more =
    let behind : List Word = flat_map barred_words all ++ codes "from" ∷ rest in
    let ws : List Word = map demand_word second ++ behind in
    let first_size : length (first ++ (second ++ flat_map (λ demands. demands) all)) ≡ length first + length (second ++ flat_map (λ demands. demands) all) = length-append first (second ++ flat_map (λ demands. demands) all) in
    let second_size : length (second ++ flat_map (λ demands. demands) all) ≡ length second + length (flat_map (λ demands. demands) all) = length-append second (flat_map (λ demands. demands) all) in
    let first_fits : length first ≤ 8 = omega arith in
    let second_fits : length second ≤ 8 - length first = omega arith in
    let later : length (flat_map (λ demands. demands) all) ≤ 8 - length first - length second = omega arith in
    ap (λ vs. read all_branches vs) (append_assoc (map demand_word first) (flat_map barred_words (second ∷ all)) (codes "from" ∷ rest)
    ∙ ap (λ vs. map demand_word first ++ codes "|" ∷ vs) (append_assoc (map demand_word second) (flat_map barred_words all) (codes "from" ∷ rest)))
    ∙ all_two (map demand_word first ++ codes "|" ∷ ws) (codes "|" ∷ ws) ws behind first second
    (branch_again 8 first (codes "|" ∷ ws) first_fits one (record { first = codes "|"; more = ws; is = refl; other = refl })) (bar_again ws) (branch_again (8 - length first) second behind second_fits two (is_behind all rest))
    ∙ ap (with_front (first ∷ second ∷ [])) (further_again 6 (8 - length first - length second) all rest few later more)

pub forkjoin_again : (all : List (List SaidDemand)) (rest : List Word) → AreSoundBranches all → read forkjoin_kind (branches_words all ++ codes "from" ∷ rest) ≡ Ok (ForkJoin all, codes "from" ∷ rest)
unfolding forkjoin_kind read
forkjoin_again [] rest sound = let none = sound.0 in absurd (cc)
forkjoin_again (first ∷ []) rest sound = let none = sound.0 in absurd (cc)
forkjoin_again (first ∷ second ∷ all) rest sound =
    let most : length (first ∷ second ∷ all) ≤ 8 = leb-true _ _ (and_parts _ _ sound.0).1 in
    let few : length all ≤ 6 = omega arith in
    let fits : length (first ++ (second ++ flat_map (λ demands. demands) all)) ≤ 8 = leb-true _ _ sound.2 in
    rw (read_then all_branches, all_again first second all rest few fits sound.1.0 sound.1.1.0 sound.1.1.1) refl
