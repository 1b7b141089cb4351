-- What a line in the grammar says is in its ranges.
use Rattle.std.proofs.Common.{◌≡◌, ◌∙◌, sym, ap, refl, subst, ℕ, zero, suc, ◌+◌, ◌-◌, ◌≤◌, ◌^◌, List, [], ◌∷◌, ◌++◌, length, length-append, Bool, true, false, Result, Ok, Err, arith, inl, inr}
use Rattle.std.specs.Prelude.{◌==◌, nat_lt, nat_le, codes}
use Rattle.std.specs.List.{flat_map, list_all}
use Rattle.std.proofs.lemmas.Bool.{cases_Bool, and_parts, and_from, le-leb, leb-true, ltb-true, ltb-false}
use Rattle.mq_core.specs.Names.{is_name}
use Rattle.mq_core.specs.Ranges.{is_within, rises, rises_from}
use Rattle.mq_model.specs.Form.{◌>>=◌, Form, Word, stop, word, maybe, one, up_to, read, whole}
use Rattle.mq_base.specs.Text.{is_number}
use Rattle.mq_model.specs.Lines.{key, is_input, input_of, is_demand, demand_of, is_from_to, is_up_to, a_name, a_demand, inputs, rising, cut_route, counted_route, server_kind, delay_kind, loss_kind, a_stage, stages, stages_behind, tandem_kind, a_branch, branches, all_branches, forkjoin_kind, room_of, split_kind, a_route, thresholds, way_of, modulo_route, node_line, bound_line, source_line, kind_line, line, is_key, is_above, greatest_demand, value_of, first_line, fork_kind, trunk_kind, join_line, joined_inputs}
use Rattle.mq_model.specs.declared.said.SaidDemand.{SaidDemand}
use Rattle.mq_model.specs.declared.said.SaidDemand.TheVariants.{Column, Fixed}
use Rattle.mq_model.specs.declared.said.SaidRoute.{SaidRoute}
use Rattle.mq_model.specs.declared.said.SaidRoute.TheVariants.{Modulo, Turn, Cut}
use Rattle.mq_model.specs.declared.said.SaidStage.{SaidStage}
use Rattle.mq_model.specs.declared.said.SaidKind.{SaidKind}
use Rattle.mq_model.specs.declared.said.SaidKind.TheVariants.{Source, Server, Delay, Loss, Tandem, ForkJoin, Split, Fork, Join, Trunk}
use Rattle.mq_model.specs.declared.said.Said.{Said}
use Rattle.mq_model.specs.declared.said.Said.TheVariants.{Bound, Node}
use Rattle.mq_model.proofs.Lists.{AreAll}

-- The ranges of what is said.
abbrev pub IsSoundDemand : SaidDemand → Type 0
IsSoundDemand (Column name) = is_name name ≡ true
IsSoundDemand (Fixed n) = nat_le n (2 ^ 36) ≡ true

abbrev pub AreSoundThresholds : List ℕ → Type 0
AreSoundThresholds thresholds = (is_within 1 7 (length thresholds) ≡ true) × (rises thresholds ≡ true) × (list_all (λ threshold. nat_le threshold (2 ^ 36)) thresholds ≡ true)

abbrev pub IsSoundRoute : SaidRoute → Type 0
IsSoundRoute (Modulo outputs column) = (is_within 2 8 outputs ≡ true) × (is_name column ≡ true)
IsSoundRoute (Turn outputs) = is_within 2 8 outputs ≡ true
IsSoundRoute (Cut column thresholds) = (is_name column ≡ true) × AreSoundThresholds thresholds

abbrev pub IsSoundStage : ℕ → ℕ → SaidStage → Type 0
IsSoundStage low high stage = (is_within low high stage.places ≡ true) × IsSoundDemand stage.demand

abbrev pub AreSoundStages : List SaidStage → Type 0
AreSoundStages [] = ⊥
AreSoundStages (stage ∷ stages) = IsSoundStage 0 0 stage × (is_within 1 3 (length stages) ≡ true) × AreAll (IsSoundStage 1 4) stages

abbrev pub IsSoundBranch : List SaidDemand → Type 0
IsSoundBranch demands = (is_within 1 4 (length demands) ≡ true) × AreAll IsSoundDemand demands

abbrev pub AreSoundBranches : List (List SaidDemand) → Type 0
AreSoundBranches branches = (is_within 2 8 (length branches) ≡ true) × AreAll IsSoundBranch branches × (nat_le (length (flat_map (λ demands. demands) branches)) 8 ≡ true)

abbrev pub IsSoundKind : SaidKind → Type 0
IsSoundKind Source = Unit {0}
IsSoundKind (Server demand) = IsSoundDemand demand
IsSoundKind (Delay demand) = IsSoundDemand demand
IsSoundKind (Loss places demand) = (is_within 1 1048576 places ≡ true) × IsSoundDemand demand
IsSoundKind (Tandem stages) = AreSoundStages stages
IsSoundKind (ForkJoin branches) = AreSoundBranches branches
IsSoundKind (Split route) = IsSoundRoute route
IsSoundKind (Fork outputs) = is_within 2 4 outputs ≡ true
IsSoundKind Join = Unit {0}
IsSoundKind (Trunk servers demand) = (is_within 1 255 servers ≡ true) × IsSoundDemand demand

-- a source reads nothing, a join at 2 to 8 ports, and each other node at 1 to 8
abbrev pub is_sound_reads : SaidKind → ℕ → Bool
is_sound_reads Source reads = reads == 0
is_sound_reads (Server demand) reads = is_within 1 8 reads
is_sound_reads (Delay demand) reads = is_within 1 8 reads
is_sound_reads (Loss places demand) reads = is_within 1 8 reads
is_sound_reads (Tandem stages) reads = is_within 1 8 reads
is_sound_reads (ForkJoin branches) reads = is_within 1 8 reads
is_sound_reads (Split route) reads = is_within 1 8 reads
is_sound_reads (Fork outputs) reads = is_within 1 8 reads
is_sound_reads Join reads = is_within 2 8 reads
is_sound_reads (Trunk servers demand) reads = is_within 1 8 reads

-- a kind that version 1 has, and a line
abbrev pub is_first_kind : SaidKind → Bool
is_first_kind Source = true
is_first_kind (Server demand) = true
is_first_kind (Delay demand) = true
is_first_kind (Loss places demand) = true
is_first_kind (Tandem stages) = true
is_first_kind (ForkJoin branches) = true
is_first_kind (Split route) = true
is_first_kind (Fork outputs) = false
is_first_kind Join = false
is_first_kind (Trunk servers demand) = false

abbrev pub is_first : Said → Bool
is_first (Bound n) = true
is_first (Node name kind reads) = is_first_kind kind

abbrev pub IsSoundSaid : Said → Type 0
IsSoundSaid (Bound n) = nat_le n (2 ^ 60) ≡ true
IsSoundSaid (Node name kind reads) = (is_name name ≡ true) × IsSoundKind kind × (is_sound_reads kind (length reads) ≡ true)

-- in its ranges, and a line that version 1 has or not
abbrev pub IsSaidOf : Bool → Said → Type 0
IsSaidOf first said = IsSoundSaid said × (is_first said ≡ first)

-- Each value that a form gives has a property.
unfoldable pub Keeps : {A : Type 0} → (A → Type 0) → Form A → Type 0
Keeps P (stop a) = P a
Keeps P (word p f) = (w : Word) → p w ≡ true → Keeps P (f w)
Keeps P (maybe p f g) = ((w : Word) → p w ≡ true → Keeps P (f w)) × Keeps P g

pub keeps_then : {A B : Type 0} (P : A → Type 0) (Q : B → Type 0) (f : Form A) (more : A → Form B) → Keeps P f → ((a : A) → P a → Keeps Q (more a)) → Keeps Q (f >>= more)
unfolding Keeps ◌>>=◌
keeps_then P Q (stop a) more h next = next a h
keeps_then P Q (word p f) more h next = λ w passes. keeps_then P Q (f w) more (h w passes) next
keeps_then P Q (maybe p f g) more h next = (λ w passes. keeps_then P Q (f w) more (h.0 w passes) next, keeps_then P Q g more h.1 next)

keeps_weaker : {A : Type 0} (P Q : A → Type 0) (f : Form A) → ((a : A) → P a → Q a) → Keeps P f → Keeps Q f
unfolding Keeps
keeps_weaker P Q (stop a) weaker h = weaker a h
keeps_weaker P Q (word p f) weaker h = λ w passes. keeps_weaker P Q (f w) weaker (h w passes)
keeps_weaker P Q (maybe p f g) weaker h = (λ w passes. keeps_weaker P Q (f w) weaker (h.0 w passes), keeps_weaker P Q g weaker h.1)

keeps_stop : {A : Type 0} (P : A → Type 0) (a : A) → P a → Keeps P (stop a)
unfolding Keeps
keeps_stop P a h = h

keeps_one : {A : Type 0} (P : A → Type 0) (p : Word → Bool) (value : Word → A) → ((w : Word) → p w ≡ true → P (value w)) → Keeps P (one p value)
unfolding Keeps
keeps_one P p value h = h

keeps_word : {A : Type 0} (P : A → Type 0) (p : Word → Bool) (f : Word → Form A) → ((w : Word) → p w ≡ true → Keeps P (f w)) → Keeps P (word p f)
unfolding Keeps
keeps_word P p f h = h

keeps_maybe : {A : Type 0} (P : A → Type 0) (p : Word → Bool) (f : Word → Form A) (g : Form A) → ((w : Word) → p w ≡ true → Keeps P (f w)) → Keeps P g → Keeps P (maybe p f g)
unfolding Keeps
keeps_maybe P p f g h other = (h, other)

-- the value, or another
value_or : {A : Type 0} → A → Result (A × List Word) (List Word) → A
value_or b (Ok (a, rest)) = a
value_or b (Err left) = b

value_read : {A : Type 0} (a b : A) (ws rest : List Word) (r : Result (A × List Word) (List Word)) → r ≡ Ok (a, ws) → r ≡ Ok (b, rest) → a ≡ b
unfolding value_or
value_read a b ws rest r e k = ap (value_or b) (sym e ∙ k)

-- what is read has the property
pub keeps_read : {A : Type 0} (P : A → Type 0) (f : Form A) (ws : List Word) (a : A) (rest : List Word) → Keeps P f → read f ws ≡ Ok (a, rest) → P a
unfolding Keeps read
keeps_read P (stop b) ws a rest h e = subst P (value_read b a ws rest _ refl e) h
keeps_read P (word p f) [] a rest h e = absurd (cc)
keeps_read P (word p f) (w ∷ ws) a rest h e =
    elim (cases_Bool (p w)) [
      | inl passes ↦ keeps_read P (f w) ws a rest (h w passes) (rw passes at e)
      | inr fails ↦ let k = rw fails at e in absurd (cc)
    ]
keeps_read P (maybe p f g) [] a rest h e = keeps_read P g [] a rest h.1 e
keeps_read P (maybe p f g) (w ∷ ws) a rest h e =
    elim (cases_Bool (p w)) [
      | inl passes ↦ keeps_read P (f w) ws a rest (h.0 w passes) (rw passes at e)
      | inr fails ↦ keeps_read P g (w ∷ ws) a rest h.1 (rw fails at e)
    ]

whole_read : {A : Type 0} (r : Result (A × List Word) (List Word)) (a : A) → whole r ≡ Ok a → r ≡ Ok (a, [])
whole_read (Ok (b, [])) a e = cc
whole_read (Ok (b, w ∷ ws)) a e = absurd (cc)
whole_read (Err left) a e = absurd (cc)

pub keeps_whole : {A : Type 0} (P : A → Type 0) (f : Form A) (ws : List Word) (a : A) → Keeps P f → whole (read f ws) ≡ Ok a → P a
keeps_whole P f ws a h e = keeps_read P f ws a [] h (whole_read (read f ws) a e)

-- Words.
number_within : (w : Word) (limit : ℕ) → is_number w limit ≡ true → nat_le (value_of w) limit ≡ true
number_within w limit h = (and_parts _ _ h).1

within_from_to : (least most : ℕ) (w : Word) → is_from_to least most w ≡ true → is_within least most (value_of w) ≡ true
within_from_to least most w h = let (number, enough) = and_parts _ _ h in and_from _ _ enough (number_within w most number)

demand_sound : (w : Word) → is_demand w ≡ true → IsSoundDemand (demand_of w)
demand_sound [] h = absurd (cc)
demand_sound (b ∷ more) h =
    elim (cases_Bool (b == 61)) [
      | inl fixed ↦ let number : is_number more greatest_demand ≡ true = rw fixed at h in rw fixed (number_within more greatest_demand number)
      | inr column ↦ rw column (rw column at h)
    ]

-- Forms.
keeps_name : Keeps (λ name. is_name name ≡ true) a_name
keeps_name = keeps_one (λ name. is_name name ≡ true) is_name (λ w. w) (λ w h. h)

keeps_demand : Keeps IsSoundDemand a_demand
keeps_demand = keeps_one IsSoundDemand is_demand demand_of demand_sound

abbrev IsAny : {A : Type 0} → A → Type 0
IsAny a = Unit {0}

keeps_key : (k : Word) → Keeps IsAny (key k)
keeps_key k = keeps_word IsAny (is_key k) (λ _. stop tt) (λ w h. keeps_stop IsAny tt tt)

keeps_up_to : {A : Type 0} (n : ℕ) (p : Word → Bool) (value : Word → A) → Keeps (λ values. length values ≤ n) (up_to n p value)
unfolding up_to
keeps_up_to zero p value = keeps_stop _ [] (omega arith)
keeps_up_to (suc n) p value =
    keeps_maybe _ p _ (stop []) (λ w h. keeps_then (λ values. length values ≤ n) _ (up_to n p value) (λ more. stop (value w ∷ more)) (keeps_up_to n p value) (λ more few. keeps_stop _ (value w ∷ more) (omega arith)))
    (keeps_stop _ [] (omega arith))

abbrev IsCount : {A : Type 0} → List A → Type 0
IsCount xs = is_within 1 8 (length xs) ≡ true

count_is : {A : Type 0} (x : A) (xs : List A) → length xs ≤ 7 → IsCount (x ∷ xs)
count_is x xs h = and_from _ _ (le-leb 1 (length (x ∷ xs)) (omega arith)) (le-leb (length (x ∷ xs)) 8 (omega arith))

keeps_inputs : Keeps IsCount inputs
unfolding inputs
keeps_inputs =
    keeps_then IsAny IsCount (key (codes "from")) _ (keeps_key (codes "from"))
    (λ _ _. keeps_then IsAny IsCount (one is_input input_of) _ (keeps_one IsAny is_input input_of (λ w h. tt))
    (λ first _. keeps_then (λ more. length more ≤ 7) IsCount (up_to 7 is_input input_of) _ (keeps_up_to 7 is_input input_of)
    (λ more few. keeps_stop IsCount (first ∷ more) (count_is first more few))))

-- at least two
abbrev IsSeveral : {A : Type 0} → List A → Type 0
IsSeveral xs = is_within 2 8 (length xs) ≡ true

several_is : {A : Type 0} (x y : A) (xs : List A) → length xs ≤ 6 → IsSeveral (x ∷ y ∷ xs)
several_is x y xs h = and_from _ _ (le-leb 2 (length (x ∷ y ∷ xs)) (omega arith)) (le-leb (length (x ∷ y ∷ xs)) 8 (omega arith))

keeps_joined : Keeps IsSeveral joined_inputs
unfolding joined_inputs
keeps_joined =
    keeps_then IsAny IsSeveral (key (codes "from")) _ (keeps_key (codes "from"))
    (λ _ _. keeps_then IsAny IsSeveral (one is_input input_of) _ (keeps_one IsAny is_input input_of (λ w h. tt))
    (λ first _. keeps_then IsAny IsSeveral (one is_input input_of) _ (keeps_one IsAny is_input input_of (λ w h. tt))
    (λ second _. keeps_then (λ more. length more ≤ 6) IsSeveral (up_to 6 is_input input_of) _ (keeps_up_to 6 is_input input_of)
    (λ more few. keeps_stop IsSeveral (first ∷ second ∷ more) (several_is first second more few)))))

-- thresholds above this
record AreAbove (n last : ℕ) (thresholds : List ℕ) : Type 0 where
  few : length thresholds ≤ n
  rise : rises_from last thresholds ≡ true
  small : list_all (λ threshold. nat_le threshold (2 ^ 36)) thresholds ≡ true

keeps_rising : (n last : ℕ) → Keeps (AreAbove n last) (rising n last)
unfolding rising
keeps_rising zero last = keeps_stop (AreAbove zero last) [] (record { few = omega arith; rise = refl; small = refl })
keeps_rising (suc n) last =
    let none = keeps_stop (AreAbove (suc n) last) [] (record { few = omega arith; rise = refl; small = refl }) in
    elim (cases_Bool (nat_lt last greatest_demand)) [
      | inl room ↦
          rw room (keeps_maybe (AreAbove (suc n) last) (is_above last) (λ w. rising n (value_of w) >>= λ more. stop (value_of w ∷ more)) (stop [])
          (λ w h. let above = and_parts _ _ h in
          keeps_then (AreAbove n (value_of w)) (AreAbove (suc n) last) (rising n (value_of w)) (λ more. stop (value_of w ∷ more)) (keeps_rising n (value_of w))
          (λ more are. keeps_stop (AreAbove (suc n) last) (value_of w ∷ more) (record {
            few = let few : length more ≤ n = are.few in omega arith;
            rise = and_from _ _ above.1 are.rise;
            small = and_from _ _ (number_within w greatest_demand above.0) are.small;
          })))
          none)
      | inr full ↦ rw full none
    ]

keeps_thresholds : Keeps AreSoundThresholds thresholds
unfolding thresholds
keeps_thresholds =
    keeps_then (λ n. nat_le n (2 ^ 36) ≡ true) AreSoundThresholds (one (is_up_to greatest_demand) value_of) _ (keeps_one _ (is_up_to greatest_demand) value_of (λ w h. number_within w greatest_demand h))
    (λ first small. keeps_then (AreAbove 6 first) AreSoundThresholds (rising 6 first) _ (keeps_rising 6 first)
    (λ more are. keeps_stop AreSoundThresholds (first ∷ more)
    (let few : length more ≤ 6 = are.few in
    (and_from _ _ (le-leb 1 (length (first ∷ more)) (omega arith)) (le-leb (length (first ∷ more)) 7 (omega arith)), are.rise, and_from _ _ small are.small))))

keeps_cut : Keeps IsSoundRoute cut_route
unfolding cut_route
keeps_cut =
    keeps_then (λ name. is_name name ≡ true) IsSoundRoute a_name _ keeps_name
    (λ column named. keeps_then AreSoundThresholds IsSoundRoute thresholds _ keeps_thresholds (λ cuts sound. keeps_stop IsSoundRoute (Cut column cuts) (named, sound)))

keeps_way : (outputs : ℕ) → is_within 2 8 outputs ≡ true → Keeps IsSoundRoute (way_of outputs)
unfolding way_of modulo_route
keeps_way outputs within =
    keeps_maybe IsSoundRoute (is_key (codes "mod")) _ _
    (λ _ _. keeps_then (λ name. is_name name ≡ true) IsSoundRoute a_name _ keeps_name (λ column named. keeps_stop IsSoundRoute (Modulo outputs column) (within, named)))
    (keeps_then IsAny IsSoundRoute (key (codes "turn")) _ (keeps_key (codes "turn")) (λ _ _. keeps_stop IsSoundRoute (Turn outputs) within))

keeps_counted : Keeps IsSoundRoute counted_route
unfolding counted_route
keeps_counted =
    keeps_then (λ outputs. is_within 2 8 outputs ≡ true) IsSoundRoute (one (is_from_to 2 8) value_of) way_of (keeps_one _ (is_from_to 2 8) value_of (λ w h. within_from_to 2 8 w h)) keeps_way

-- a kind that reads at 1 to 8 ports, and that version 1 has or not
abbrev ReadsAny : Bool → SaidKind → Type 0
ReadsAny first kind = IsSoundKind kind × ((reads : ℕ) → is_within 1 8 reads ≡ true → is_sound_reads kind reads ≡ true) × (is_first_kind kind ≡ first)

abbrev ReadsSome : SaidKind → Type 0
ReadsSome kind = ReadsAny true kind

keeps_server : Keeps ReadsSome server_kind
keeps_server = keeps_then IsSoundDemand ReadsSome a_demand _ keeps_demand (λ demand sound. keeps_stop ReadsSome (Server demand) (sound, (λ reads h. h), refl))

keeps_delay : Keeps ReadsSome delay_kind
keeps_delay = keeps_then IsSoundDemand ReadsSome a_demand _ keeps_demand (λ demand sound. keeps_stop ReadsSome (Delay demand) (sound, (λ reads h. h), refl))

keeps_loss : Keeps ReadsSome loss_kind
unfolding loss_kind
keeps_loss =
    keeps_then (λ places. is_within 1 1048576 places ≡ true) ReadsSome (one (is_from_to 1 1048576) value_of) _ (keeps_one _ (is_from_to 1 1048576) value_of (λ w h. within_from_to 1 1048576 w h))
    (λ places within. keeps_then IsSoundDemand ReadsSome a_demand _ keeps_demand (λ demand sound. keeps_stop ReadsSome (Loss places demand) ((within, sound), (λ reads h. h), refl)))

keeps_stage : Keeps (IsSoundStage 1 4) a_stage
unfolding a_stage
keeps_stage =
    keeps_then (λ places. is_within 1 4 places ≡ true) (IsSoundStage 1 4) (one (is_from_to 1 4) value_of) _ (keeps_one _ (is_from_to 1 4) value_of (λ w h. within_from_to 1 4 w h))
    (λ places within. keeps_then IsSoundDemand (IsSoundStage 1 4) a_demand _ keeps_demand (λ demand sound. keeps_stop (IsSoundStage 1 4) (record { places = places; demand = demand }) (within, sound)))

record AreFewStages (n : ℕ) (all : List SaidStage) : Type 0 where
  few : length all ≤ n
  sound : AreAll (IsSoundStage 1 4) all

keeps_stages : (n : ℕ) → Keeps (AreFewStages n) (stages n)
unfolding stages
keeps_stages zero = keeps_stop (AreFewStages zero) [] (record { few = omega arith; sound = tt })
keeps_stages (suc n) =
    keeps_maybe (AreFewStages (suc n)) (is_key (codes "/")) _ (stop [])
    (λ w h. keeps_then (IsSoundStage 1 4) (AreFewStages (suc n)) a_stage _ keeps_stage
    (λ stage own. keeps_then (AreFewStages n) (AreFewStages (suc n)) (stages n) _ (keeps_stages n)
    (λ more are. keeps_stop (AreFewStages (suc n)) (stage ∷ more) (record { few = let few : length more ≤ n = are.few in omega arith; sound = (own, are.sound) }))))
    (keeps_stop (AreFewStages (suc n)) [] (record { few = omega arith; sound = tt }))

keeps_behind : (first : SaidDemand) → IsSoundDemand first → Keeps AreSoundStages (stages_behind first)
unfolding stages_behind
keeps_behind first sound =
    keeps_then IsAny AreSoundStages (key (codes "/")) _ (keeps_key (codes "/"))
    (λ _ _. keeps_then (IsSoundStage 1 4) AreSoundStages a_stage _ keeps_stage
    (λ second own. keeps_then (AreFewStages 2) AreSoundStages (stages 2) _ (keeps_stages 2)
    (λ more are. keeps_stop AreSoundStages (record { places = 0; demand = first } ∷ second ∷ more)
    (let few : length more ≤ 2 = are.few in
    ((refl, sound), and_from _ _ (le-leb 1 (length (second ∷ more)) (omega arith)) (le-leb (length (second ∷ more)) 3 (omega arith)), (own, are.sound))))))

keeps_tandem : Keeps ReadsSome tandem_kind
unfolding tandem_kind
keeps_tandem =
    keeps_then IsSoundDemand ReadsSome a_demand _ keeps_demand
    (λ first sound. keeps_then AreSoundStages ReadsSome (stages_behind first) _ (keeps_behind first sound) (λ all are. keeps_stop ReadsSome (Tandem all) (are, (λ reads h. h), refl)))

-- at most so many demands
record AreFewDemands (n : ℕ) (demands : List SaidDemand) : Type 0 where
  few : length demands ≤ n
  sound : AreAll IsSoundDemand demands

keeps_demands : (n : ℕ) → Keeps (AreFewDemands n) (up_to n is_demand demand_of)
unfolding up_to
keeps_demands zero = keeps_stop (AreFewDemands zero) [] (record { few = omega arith; sound = tt })
keeps_demands (suc n) =
    keeps_maybe (AreFewDemands (suc n)) is_demand _ (stop [])
    (λ w h. keeps_then (AreFewDemands n) (AreFewDemands (suc n)) (up_to n is_demand demand_of) (λ more. stop (demand_of w ∷ more)) (keeps_demands n)
    (λ more are. keeps_stop (AreFewDemands (suc n)) (demand_of w ∷ more) (record { few = let few : length more ≤ n = are.few in omega arith; sound = (demand_sound w h, are.sound) })))
    (keeps_stop (AreFewDemands (suc n)) [] (record { few = omega arith; sound = tt }))

room_small : (left : ℕ) → room_of left ≤ 3
room_small left = elim (cases_Bool (nat_lt 3 left)) [ inl wide ↦ rw wide (omega arith) | inr narrow ↦ let least = ltb-false _ _ narrow in rw narrow (omega arith) ]

room_within : (left : ℕ) → room_of left ≤ left - 1
room_within left = elim (cases_Bool (nat_lt 3 left)) [ inl wide ↦ let more = ltb-true _ _ wide in rw wide (omega arith) | inr narrow ↦ rw narrow (omega arith) ]

record IsBranchWithin (left : ℕ) (demands : List SaidDemand) : Type 0 where
  few : length demands ≤ left
  sound : IsSoundBranch demands

keeps_branch : (left : ℕ) → 1 ≤ left → Keeps (IsBranchWithin left) (a_branch left)
unfolding a_branch
keeps_branch left some =
    keeps_then IsSoundDemand (IsBranchWithin left) a_demand _ keeps_demand
    (λ first own. keeps_then (AreFewDemands (room_of left)) (IsBranchWithin left) (up_to (room_of left) is_demand demand_of) _ (keeps_demands (room_of left))
    (λ more are. keeps_stop (IsBranchWithin left) (first ∷ more)
    (let few : length more ≤ room_of left = are.few in
    let small = room_small left in
    let within = room_within left in
    record { few = omega arith; sound = (and_from _ _ (le-leb 1 (length (first ∷ more)) (omega arith)) (le-leb (length (first ∷ more)) 4 (omega arith)), (own, are.sound)) })))

-- at most so many branches, and at most so many demands in all
record AreBranchesWithin (n left : ℕ) (branches : List (List SaidDemand)) : Type 0 where
  few : length branches ≤ n
  within : length (flat_map (λ demands. demands) branches) ≤ left
  sound : AreAll IsSoundBranch branches

keeps_branches : (n left : ℕ) → Keeps (AreBranchesWithin n left) (branches n left)
unfolding branches
keeps_branches zero left = keeps_stop (AreBranchesWithin zero left) [] (record { few = omega arith; within = omega arith; sound = tt })
keeps_branches (suc n) left =
    let none = keeps_stop (AreBranchesWithin (suc n) left) [] (record { few = omega arith; within = omega arith; sound = tt }) in
    elim (cases_Bool (nat_lt 0 left)) [
      | inl room ↦
          rw room (keeps_maybe (AreBranchesWithin (suc n) left) (is_key (codes "|")) _ (stop [])
          (λ w h. keeps_then (IsBranchWithin left) (AreBranchesWithin (suc n) left) (a_branch left) _ (keeps_branch left (ltb-true _ _ room))
          (λ demands own. keeps_then (AreBranchesWithin n (left - length demands)) (AreBranchesWithin (suc n) left) (branches n (left - length demands)) _ (keeps_branches n (left - length demands))
          (λ more are. keeps_stop (AreBranchesWithin (suc n) left) (demands ∷ more)
          (let short : length more ≤ n = are.few in
          let own_few : length demands ≤ left = own.few in
          let later : length (flat_map (λ demands. demands) more) ≤ left - length demands = are.within in
          let size : length (demands ++ flat_map (λ demands. demands) more) ≡ length demands + length (flat_map (λ demands. demands) more) = length-append demands (flat_map (λ demands. demands) more) in
          record { few = omega arith; within = omega arith; sound = (own.sound, are.sound) }))))
          none)
      | inr full ↦ rw full none
    ]

keeps_all : Keeps AreSoundBranches all_branches
unfolding all_branches
keeps_all =
    keeps_then (IsBranchWithin 8) AreSoundBranches (a_branch 8) _ (keeps_branch 8 (omega arith))
    (λ first one. let most : length first ≤ 4 = leb-true _ _ (and_parts _ _ one.sound.0).1 in
    keeps_then IsAny AreSoundBranches (key (codes "|")) _ (keeps_key (codes "|"))
    (λ _ _. keeps_then (IsBranchWithin (8 - length first)) AreSoundBranches (a_branch (8 - length first)) _ (keeps_branch (8 - length first) (omega arith))
    (λ second two. keeps_then (AreBranchesWithin 6 (8 - length first - length second)) AreSoundBranches (branches 6 (8 - length first - length second)) _ (keeps_branches 6 (8 - length first - length second))
    (λ more are. keeps_stop AreSoundBranches (first ∷ second ∷ more) (all_sound first second more most two.few are.few are.within one.sound two.sound are.sound)))))
  where
    all_sound : (first second : List SaidDemand) (more : List (List SaidDemand)) → length first ≤ 4 → length second ≤ 8 - length first → length more ≤ 6 → length (flat_map (λ demands. demands) more) ≤ 8 - length first - length second
        → IsSoundBranch first → IsSoundBranch second → AreAll IsSoundBranch more → AreSoundBranches (first ∷ second ∷ more)
    all_sound first second more most fits few later one two others =
        let first_size : length (first ++ (second ++ flat_map (λ demands. demands) more)) ≡ length first + length (second ++ flat_map (λ demands. demands) more) = length-append first (second ++ flat_map (λ demands. demands) more) in
        let second_size : length (second ++ flat_map (λ demands. demands) more) ≡ length second + length (flat_map (λ demands. demands) more) = length-append second (flat_map (λ demands. demands) more) in
        (and_from _ _ (le-leb 2 (length (first ∷ second ∷ more)) (omega arith)) (le-leb (length (first ∷ second ∷ more)) 8 (omega arith)), (one, (two, others)), le-leb (length (first ++ (second ++ flat_map (λ demands. demands) more))) 8 (omega arith))

keeps_forkjoin : Keeps ReadsSome forkjoin_kind
unfolding forkjoin_kind
keeps_forkjoin = keeps_then AreSoundBranches ReadsSome all_branches _ keeps_all (λ all are. keeps_stop ReadsSome (ForkJoin all) (are, (λ reads h. h), refl))

keeps_route : Keeps IsSoundRoute a_route
unfolding a_route
keeps_route = keeps_maybe IsSoundRoute (is_key (codes "cut")) _ _ (λ _ _. keeps_cut) keeps_counted

keeps_split : Keeps ReadsSome split_kind
keeps_split = keeps_then IsSoundRoute ReadsSome a_route _ keeps_route (λ route sound. keeps_stop ReadsSome (Split route) (sound, (λ reads h. h), refl))

keeps_fork_kind : Keeps (ReadsAny false) fork_kind
keeps_fork_kind = keeps_one (ReadsAny false) (is_from_to 2 4) (λ w. Fork (value_of w)) (λ w h. (within_from_to 2 4 w h, (λ reads h. h), refl))

keeps_trunk_kind : Keeps (ReadsAny false) trunk_kind
unfolding trunk_kind
keeps_trunk_kind =
    keeps_then (λ servers. is_within 1 255 servers ≡ true) (ReadsAny false) (one (is_from_to 1 255) value_of) _ (keeps_one _ (is_from_to 1 255) value_of (λ w h. within_from_to 1 255 w h))
    (λ servers within. keeps_then IsSoundDemand (ReadsAny false) a_demand _ keeps_demand (λ demand sound. keeps_stop (ReadsAny false) (Trunk servers demand) ((within, sound), (λ reads h. h), refl)))

keeps_node : (first : Bool) (kind : Form SaidKind) → Keeps (ReadsAny first) kind → Keeps (IsSaidOf first) (node_line kind)
unfolding node_line
keeps_node first kind keeps =
    keeps_then (λ name. is_name name ≡ true) (IsSaidOf first) a_name _ keeps_name
    (λ name named. keeps_then (ReadsAny first) (IsSaidOf first) kind _ keeps
    (λ said sound. keeps_then IsCount (IsSaidOf first) inputs _ keeps_inputs
    (λ reads count. keeps_stop (IsSaidOf first) (Node name said reads) ((named, sound.0, sound.1 (length reads) count), sound.2))))

pub keeps_fork : Keeps (IsSaidOf false) (node_line fork_kind)
keeps_fork = keeps_node false fork_kind keeps_fork_kind

pub keeps_trunk : Keeps (IsSaidOf false) (node_line trunk_kind)
keeps_trunk = keeps_node false trunk_kind keeps_trunk_kind

pub keeps_join : Keeps (IsSaidOf false) join_line
unfolding join_line
keeps_join =
    keeps_then (λ name. is_name name ≡ true) (IsSaidOf false) a_name _ keeps_name
    (λ name named. keeps_then IsSeveral (IsSaidOf false) joined_inputs _ keeps_joined
    (λ reads count. keeps_stop (IsSaidOf false) (Node name Join reads) ((named, tt, count), refl)))

keeps_bound : Keeps (IsSaidOf true) bound_line
keeps_bound = keeps_one (IsSaidOf true) (is_up_to (2 ^ 60)) (λ w. Bound (value_of w)) (λ w h. (number_within w (2 ^ 60) h, refl))

keeps_source : Keeps (IsSaidOf true) source_line
keeps_source = keeps_then (λ name. is_name name ≡ true) (IsSaidOf true) a_name _ keeps_name (λ name named. keeps_stop (IsSaidOf true) (Node name Source []) ((named, tt, refl), refl))

keeps_kinds : Keeps (IsSaidOf true) kind_line
unfolding kind_line
keeps_kinds =
    keeps_maybe (IsSaidOf true) (is_key (codes "server")) _ _ (λ _ _. keeps_node true server_kind keeps_server)
    (keeps_maybe (IsSaidOf true) (is_key (codes "delay")) _ _ (λ _ _. keeps_node true delay_kind keeps_delay)
    (keeps_maybe (IsSaidOf true) (is_key (codes "loss")) _ _ (λ _ _. keeps_node true loss_kind keeps_loss)
    (keeps_maybe (IsSaidOf true) (is_key (codes "tandem")) _ _ (λ _ _. keeps_node true tandem_kind keeps_tandem)
    (keeps_maybe (IsSaidOf true) (is_key (codes "forkjoin")) _ _ (λ _ _. keeps_node true forkjoin_kind keeps_forkjoin)
    (keeps_word (IsSaidOf true) (is_key (codes "split")) _ (λ _ _. keeps_node true split_kind keeps_split))))))

-- what the lines of version 1 say
pub keeps_first : Keeps (IsSaidOf true) first_line
unfolding first_line
keeps_first =
    keeps_maybe (IsSaidOf true) (is_key (codes "bound")) _ _ (λ _ _. keeps_bound)
    (keeps_maybe (IsSaidOf true) (is_key (codes "source")) _ _ (λ _ _. keeps_source) keeps_kinds)

-- what the table says is in its ranges
pub keeps_line : Keeps IsSoundSaid line
unfolding line
keeps_line =
    keeps_maybe IsSoundSaid (is_key (codes "fork")) _ _ (λ _ _. keeps_weaker (IsSaidOf false) IsSoundSaid (node_line fork_kind) (λ said is. is.0) keeps_fork)
    (keeps_maybe IsSoundSaid (is_key (codes "join")) _ _ (λ _ _. keeps_weaker (IsSaidOf false) IsSoundSaid join_line (λ said is. is.0) keeps_join)
    (keeps_maybe IsSoundSaid (is_key (codes "trunk")) _ _ (λ _ _. keeps_weaker (IsSaidOf false) IsSoundSaid (node_line trunk_kind) (λ said is. is.0) keeps_trunk)
    (keeps_weaker (IsSaidOf true) IsSoundSaid first_line (λ said is. is.0) keeps_first)))
