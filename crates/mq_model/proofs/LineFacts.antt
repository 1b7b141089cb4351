-- Every line of the table can be completed from wherever it stands.
use Rattle.std.proofs.Common.{◌≡◌, refl, ℕ, zero, suc, ◌-◌, ◌∷◌, length, Bool, true, false, inl, inr}
use Rattle.std.specs.Prelude.{codes, nat_lt}
use Rattle.std.proofs.lemmas.Bool.{cases_Bool}
use Rattle.std.proofs.lemmas.Slice.Eq.{bytes_eq-Decides}
use Rattle.mq_model.specs.Form.{◌>>=◌, Form, Word, stop, word, maybe, one, up_to}
use Rattle.mq_model.specs.declared.said.SaidDemand.{SaidDemand}
use Rattle.mq_model.specs.declared.said.SaidKind.{SaidKind}
use Rattle.mq_model.specs.declared.said.SaidKind.TheVariants.{Server, Delay}
use Rattle.mq_model.specs.Lines.{key, is_input, input_of, is_up_to, a_name, a_demand, inputs, rising, thresholds, a_route, cut_route, counted_route, modulo_route, way_of, loss_kind, a_stage, stages, stages_behind, tandem_kind, a_branch, branches, all_branches, forkjoin_kind, room_of, is_demand, demand_of, split_kind, fork_kind, trunk_kind, join_line, joined_inputs, node_line, first_line, kind_line, line, is_key, is_from_to, greatest_demand, value_of}
use Rattle.mq_model.proofs.FormFacts.{IsLive}

live_weak : {A : Type 0} (must : Bool) (f : Form A) → IsLive true f → IsLive must f
unfolding IsLive
live_weak true f live = live
live_weak false (stop a) live = tt
live_weak false (word p f) live = (tt, live.1)
live_weak false (maybe p f g) live = (tt, live.1, live.2)

live_then : {A B : Type 0} (must : Bool) (f : Form A) (more : A → Form B) → IsLive must f → ((a : A) → IsLive true (more a)) → IsLive must (f >>= more)
unfolding IsLive ◌>>=◌
live_then must (stop a) more live next = live_weak must (more a) (next a)
live_then must (word p f) more live next = (live.0, λ w h. live_then true (f w) more (live.1 w h) next)
live_then must (maybe p f g) more live next = (live.0, λ w h. live_then true (f w) more (live.1 w h) next, live_then false g more live.2 next)

live_one : {A : Type 0} (p : Word → Bool) (value : Word → A) (w : Word) → p w ≡ true → IsLive true (one p value)
unfolding IsLive
live_one p value w h = ((w, h), λ v k. tt)

live_up_to : {A : Type 0} (n : ℕ) (p : Word → Bool) (value : Word → A) (w : Word) → p w ≡ true → IsLive true (up_to n p value)
unfolding IsLive up_to
live_up_to zero p value w h = tt
live_up_to (suc n) p value w h = ((w, h), λ v k. live_then true (up_to n p value) (λ more. stop (value v ∷ more)) (live_up_to n p value w h) (λ more. tt), tt)

live_maybe : {A : Type 0} (must : Bool) (p : Word → Bool) (f : Word → Form A) (g : Form A) (w : Word) → p w ≡ true → ((v : Word) → p v ≡ true → IsLive true (f v)) → IsLive false g → IsLive must (maybe p f g)
unfolding IsLive
live_maybe true p f g w h next other = ((w, h), next, other)
live_maybe false p f g w h next other = (tt, next, other)

live_word : {A : Type 0} (must : Bool) (p : Word → Bool) (f : Word → Form A) (w : Word) → p w ≡ true → ((v : Word) → p v ≡ true → IsLive true (f v)) → IsLive must (word p f)
unfolding IsLive
live_word true p f w h next = ((w, h), next)
live_word false p f w h next = (tt, next)

live_stop : {A : Type 0} (a : A) → IsLive true (stop a)
unfolding IsLive
live_stop a = tt

same_key : (k : Word) → is_key k k ≡ true
same_key k = (bytes_eq-Decides k k).1 refl

-- a key word, and more
live_behind : {A : Type 0} (k : Word) (more : Unit {0} → Form A) → ((u : Unit {0}) → IsLive true (more u)) → IsLive true (key k >>= more)
live_behind k more next = live_then true (key k) more (live_word true (is_key k) (λ _. stop tt) k (same_key k) (λ v h. live_stop tt)) next

live_name : IsLive true a_name
live_name = live_one _ _ (codes "a") refl

live_demand : IsLive true a_demand
live_demand = live_one _ _ (codes "=0") refl

live_inputs : IsLive true inputs
unfolding inputs
live_inputs = live_behind (codes "from") _ (λ _. live_then true (one is_input input_of) _ (live_one _ _ (codes "a") refl) (λ first. live_then true (up_to 7 is_input input_of) _ (live_up_to 7 _ _ (codes "a") refl) (λ more. live_stop _)))

live_joined : IsLive true joined_inputs
unfolding joined_inputs
live_joined =
    live_behind (codes "from") _ (λ _. live_then true (one is_input input_of) _ (live_one _ _ (codes "a") refl)
    (λ first. live_then true (one is_input input_of) _ (live_one _ _ (codes "a") refl)
    (λ second. live_then true (up_to 6 is_input input_of) _ (live_up_to 6 _ _ (codes "a") refl) (λ more. live_stop _))))

live_rising : (n last : ℕ) → IsLive true (rising n last)
unfolding rising
live_rising zero last = live_stop _
live_rising (suc n) last =
    elim (cases_Bool (nat_lt last greatest_demand)) [
      | inl room ↦ rw room (live_maybe true _ _ _ (codes "68719476736") room (λ w h. live_then true (rising n (value_of w)) _ (live_rising n (value_of w)) (λ more. live_stop _)) (live_weak false (stop _) (live_stop _)))
      | inr full ↦ rw full (live_stop _)
    ]

live_thresholds : IsLive true thresholds
unfolding thresholds
live_thresholds = live_then true (one (is_up_to greatest_demand) value_of) _ (live_one _ _ (codes "0") refl) (λ first. live_then true (rising 6 first) _ (live_rising 6 first) (λ more. live_stop _))

live_cut : IsLive true cut_route
unfolding cut_route
live_cut = live_then true a_name _ live_name (λ column. live_then true thresholds _ live_thresholds (λ cuts. live_stop _))

live_modulo : (outputs : ℕ) → IsLive true (modulo_route outputs)
unfolding modulo_route
live_modulo outputs = live_then true a_name _ live_name (λ column. live_stop _)

live_way : (outputs : ℕ) → IsLive true (way_of outputs)
unfolding way_of
live_way outputs = live_maybe true _ _ _ (codes "mod") refl (λ _ _. live_modulo outputs) (live_weak false _ (live_behind (codes "turn") _ (λ _. live_stop _)))

live_counted : IsLive true counted_route
unfolding counted_route
live_counted = live_then true (one (is_from_to 2 8) value_of) _ (live_one _ _ (codes "2") refl) live_way

live_node : (kind : Form SaidKind) → IsLive true kind → IsLive true (node_line kind)
unfolding node_line
live_node kind live = live_then true a_name _ live_name (λ name. live_then true kind _ live (λ said. live_then true inputs _ live_inputs (λ reads. live_stop _)))

live_route : IsLive true a_route
unfolding a_route
live_route = live_maybe true _ _ _ (codes "cut") refl (λ _ _. live_cut) (live_weak false _ live_counted)

live_split : IsLive true split_kind
live_split = live_then true a_route _ live_route (λ route. live_stop _)

live_plain : (k : SaidDemand → SaidKind) → IsLive true (node_line (a_demand >>= λ d. stop (k d)))
live_plain k = live_node _ (live_then true a_demand _ live_demand (λ d. live_stop _))

live_loss : IsLive true loss_kind
unfolding loss_kind
live_loss = live_then true (one (is_from_to 1 1048576) value_of) _ (live_one _ _ (codes "1") refl) (λ places. live_then true a_demand _ live_demand (λ d. live_stop _))

live_stage : IsLive true a_stage
unfolding a_stage
live_stage = live_then true (one (is_from_to 1 4) value_of) _ (live_one _ _ (codes "1") refl) (λ places. live_then true a_demand _ live_demand (λ d. live_stop _))

live_stages : (n : ℕ) → IsLive true (stages n)
unfolding stages
live_stages zero = live_stop _
live_stages (suc n) =
    live_maybe true _ _ _ (codes "/") refl (λ _ _. live_then true a_stage _ live_stage (λ stage. live_then true (stages n) _ (live_stages n) (λ more. live_stop _))) (live_weak false (stop _) (live_stop _))

live_stages_behind : (first : SaidDemand) → IsLive true (stages_behind first)
unfolding stages_behind
live_stages_behind first =
    live_behind (codes "/") _ (λ _. live_then true a_stage _ live_stage (λ second. live_then true (stages 2) _ (live_stages 2) (λ more. live_stop _)))

live_tandem : IsLive true tandem_kind
unfolding tandem_kind
live_tandem = live_then true a_demand _ live_demand (λ first. live_then true (stages_behind first) _ (live_stages_behind first) (λ all. live_stop _))

live_branch : (left : ℕ) → IsLive true (a_branch left)
unfolding a_branch
live_branch left =
    live_then true a_demand _ live_demand (λ first. live_then true (up_to (room_of left) is_demand demand_of) _ (live_up_to (room_of left) is_demand demand_of (codes "=0") refl) (λ more. live_stop _))

live_branches : (n left : ℕ) → IsLive true (branches n left)
unfolding branches
live_branches zero left = live_stop _
live_branches (suc n) left =
    elim (cases_Bool (nat_lt 0 left)) [
      | inl room ↦
          rw room (live_maybe true _ _ _ (codes "|") refl (λ _ _. live_then true (a_branch left) _ (live_branch left) (λ demands. live_then true (branches n (left - length demands)) _ (live_branches n (left - length demands)) (λ more. live_stop _)))
          (live_weak false (stop _) (live_stop _)))
      | inr full ↦ rw full (live_stop _)
    ]

live_all : IsLive true all_branches
unfolding all_branches
live_all =
    live_then true (a_branch 8) _ (live_branch 8)
    (λ first. live_behind (codes "|") _ (λ _. live_then true (a_branch (8 - length first)) _ (live_branch (8 - length first))
    (λ second. live_then true (branches 6 (8 - length first - length second)) _ (live_branches 6 (8 - length first - length second)) (λ more. live_stop _))))

live_forkjoin : IsLive true forkjoin_kind
unfolding forkjoin_kind
live_forkjoin = live_then true all_branches _ live_all (λ all. live_stop _)

live_fork : IsLive true fork_kind
live_fork = live_one _ _ (codes "2") refl

live_trunk : IsLive true trunk_kind
unfolding trunk_kind
live_trunk = live_then true (one (is_from_to 1 255) value_of) _ (live_one _ _ (codes "1") refl) (λ servers. live_then true a_demand _ live_demand (λ d. live_stop _))

live_join : IsLive true join_line
unfolding join_line
live_join = live_then true a_name _ live_name (λ name. live_then true joined_inputs _ live_joined (λ reads. live_stop _))

live_kinds : IsLive false kind_line
unfolding kind_line
live_kinds =
    live_maybe false _ _ _ (codes "server") refl (λ _ _. live_plain Server)
    (live_maybe false _ _ _ (codes "delay") refl (λ _ _. live_plain Delay)
    (live_maybe false _ _ _ (codes "loss") refl (λ _ _. live_node _ live_loss)
    (live_maybe false _ _ _ (codes "tandem") refl (λ _ _. live_node _ live_tandem)
    (live_maybe false _ _ _ (codes "forkjoin") refl (λ _ _. live_node _ live_forkjoin)
    (live_word false _ _ (codes "split") refl (λ _ _. live_node _ live_split))))))

live_first : IsLive false first_line
unfolding first_line
live_first =
    live_maybe false _ _ _ (codes "bound") refl (λ _ _. live_one _ _ (codes "0") refl)
    (live_maybe false _ _ _ (codes "source") refl (λ _ _. live_then true a_name _ live_name (λ name. live_stop _)) live_kinds)

-- the whole table can be completed
pub live_line : IsLive true line
unfolding line
live_line =
    live_maybe true _ _ _ (codes "fork") refl (λ _ _. live_node _ live_fork)
    (live_maybe false _ _ _ (codes "join") refl (λ _ _. live_join)
    (live_maybe false _ _ _ (codes "trunk") refl (λ _ _. live_node _ live_trunk) live_first))
