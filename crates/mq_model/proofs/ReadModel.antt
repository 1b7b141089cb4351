-- What the lines of a text say, and the whole text.
use Rattle.std.proofs.Common.{◌≡◌, ◌∙◌, sym, ap, refl, subst, ℕ, ◌≤◌, List, [], ◌∷◌, length, true, false, Option, Some, None, Result, Ok, Err, IsTrue, arith, inl, inr}
use Rattle.std.specs.Prelude.{◌==◌, nat_le, nat_lt, get_or, option_map, IfErr, IfOk}
use Rattle.std.specs.List.{list_any}
use Rattle.std.specs.Option.{option_or}
use Rattle.std.proofs.lemmas.Bool.{and_parts, cases_Bool}
use Rattle.std.proofs.lemmas.Grind.{common_steps}
use Rattle.mq_base.specs.Text.{lines_of}
use Rattle.mq_core.specs.Sound.{is_sound}
use Rattle.mq_core.specs.Ranges.{is_within}
use Rattle.mq_core.specs.declared.model.Network.{Network}
use Rattle.mq_core.specs.declared.model.Plan.{Plan}
use Rattle.mq_graph.specs.Rank.{AreWired, left_node}
use Rattle.mq_model.specs.Front.{IsFront}
use Rattle.mq_model.specs.Head.{version_in}
use Rattle.mq_model.specs.Model.{Tells, cycle_fault, inputs_fault, lines_fault, model_fault, reads_of_text, source_fault}
use Rattle.mq_model.specs.NetworkOf.{network_in, network_of, nodes_of, saids_of, without_mark}
use Rattle.mq_model.specs.Placed.{AreNarrow, cycle_of, placed_inputs}
use Rattle.mq_model.specs.Said.{is_source}
use Rattle.mq_model.specs.declared.fault.ModelFault.{ModelFault}
use Rattle.mq_model.specs.declared.fault.ModelFault.TheVariants.{Cycle}
use Rattle.mq_model.specs.declared.front.Front.{Front}
use Rattle.mq_model.specs.declared.said.SaidKind.{SaidKind}
use Rattle.mq_model.specs.declared.said.SaidKind.TheVariants.{Source, Server, Delay, Loss, Tandem, ForkJoin, Split, Fork, Join, Trunk}
use Rattle.mq_model.specs.declared.said.Said.{Said}
use Rattle.mq_model.specs.declared.said.Said.TheVariants.{Bound, Node}
use Rattle.mq_model.proofs.InputFacts.{beside_are, declaring_are, placed_are}
use Rattle.mq_model.proofs.NetworkBack.{sound_is_wired}
use Rattle.mq_model.proofs.SoundLines.{is_sound_reads}
use Rattle.mq_model.proofs.SoundNetwork.{unranked_is_small, unranked_is_sound}
use Rattle.mq_model.proofs.SoundText.{AreSound, or_none, told_are_sound}

-- the lines of a text, without a fault of theirs
pub record Kept (bytes : List ℕ) (front : Front) : Type 0 where
  pub short : nat_lt 65536 (length bytes) ≡ false
  pub lines : lines_fault [] (lines_of (without_mark bytes)) ≡ None
  pub is : IsFront (lines_of (without_mark bytes)) front

pub kept : (bytes text : List ℕ) (front : Front) → length bytes ≤ 65536 → text ≡ without_mark bytes → (lines_fault [] (lines_of text) ≡ None) × IsFront (lines_of text) front → Kept bytes front
kept bytes text front short same told =
    let told : (lines_fault [] (lines_of (without_mark bytes)) ≡ None) × IsFront (lines_of (without_mark bytes)) front = subst (λ t. (lines_fault [] (lines_of t) ≡ None) × IsFront (lines_of t) front) same told in
    record { short = grind (arith, common_steps, short); lines = told.0; is = told.1 }

pub too_long : (bytes : List ℕ) (e : ModelFault) → length bytes ≤ 65536 → lines_fault [] (lines_of (without_mark bytes)) ≡ Some e → model_fault bytes ≡ Some e
too_long bytes e short h = let less : nat_lt 65536 (length bytes) ≡ false = grind (arith, common_steps, short) in rw (less, h) refl

none_few : (n : ℕ) → (n == 0) ≡ true → n ≤ 8
none_few n h = grind (arith, common_steps, h)

some_few : (least n : ℕ) → is_within least 8 n ≡ true → n ≤ 8
some_few least n h = let most : nat_le n 8 ≡ true = (and_parts _ _ h).1 in grind (arith, common_steps, most)

few_reads : (kind : SaidKind) (n : ℕ) → is_sound_reads kind n ≡ true → n ≤ 8
few_reads Source n h = none_few n h
few_reads (Server d) n h = some_few 1 n h
few_reads (Delay d) n h = some_few 1 n h
few_reads (Loss places d) n h = some_few 1 n h
few_reads (Tandem stages) n h = some_few 1 n h
few_reads (ForkJoin branches) n h = some_few 1 n h
few_reads (Split route) n h = some_few 1 n h
few_reads (Fork outputs) n h = some_few 1 n h
few_reads Join n h = some_few 2 n h
few_reads (Trunk servers d) n h = some_few 1 n h

narrow : (saids : List Said) → AreSound saids → AreNarrow saids
narrow [] sound = tt
narrow (Bound n ∷ saids) sound = (omega arith, narrow saids sound.1)
narrow (Node name kind reads ∷ saids) sound = (few_reads kind (length reads) sound.0.2, narrow saids sound.1)

pub kept_beside : (bytes : List ℕ) (front : Front) → Kept bytes front → length front.lines ≡ length front.saids
kept_beside bytes front k = rw (k.is.lines, k.is.saids) (beside_are 1 (lines_of (without_mark bytes)))

pub kept_narrow : (bytes : List ℕ) (front : Front) → Kept bytes front → AreNarrow front.saids
kept_narrow bytes front k = rw (k.is.saids) (narrow (saids_of (lines_of (without_mark bytes))) (told_are_sound (lines_of (without_mark bytes)) k.lines))

model_is : (bytes : List ℕ) (front : Front) → Kept bytes front
    → model_fault bytes ≡ option_or (inputs_fault front.saids [] (placed_inputs front.lines front.saids)) (option_or (source_fault front.saids) (cycle_fault (lines_of (without_mark bytes))))
model_is bytes front k = rw (k.short, k.lines, k.is.saids, k.is.lines, placed_are 1 (lines_of (without_mark bytes))) refl

-- a fault of inputs or sources
or_some : {A : Type 0} (x y z : Option A) (e : A) → Some e ≡ option_or x y → option_or x (option_or y z) ≡ Some e
or_some None None z e h = absurd (cc)
or_some None (Some b) z e h = sym h
or_some (Some a) y z e h = sym h

pub kept_fault : (bytes : List ℕ) (front : Front) (e : ModelFault) → Kept bytes front
    → Some e ≡ option_or (inputs_fault front.saids [] (placed_inputs front.lines front.saids)) (source_fault front.saids) → model_fault bytes ≡ Some e
kept_fault bytes front e k h = model_is bytes front k ∙ or_some (inputs_fault front.saids [] (placed_inputs front.lines front.saids)) (source_fault front.saids) (cycle_fault (lines_of (without_mark bytes))) e h

-- the network of lines without a fault, before its nodes are ranked
pub record Unranked (bytes : List ℕ) (front : Front) (net : Network) : Type 0 where
  pub few : length net.nodes ≤ 64
  pub wired : AreWired net.nodes
  pub beside : length front.lines ≡ length front.saids
  pub sound : IsTrue (is_sound net)
  pub declared : net ≡ network_in bytes
  pub fault : model_fault bytes ≡ cycle_of front.lines front.saids net.nodes

unranked : (bytes : List ℕ) (front : Front) (net : Network) → Kept bytes front → None ≡ inputs_fault front.saids [] (placed_inputs front.lines front.saids) → list_any is_source front.saids ≡ true
    → net ≡ network_of front.version front.saids → Unranked bytes front net
unranked bytes front net k none source is =
    let ls : List (List ℕ) = lines_of (without_mark bytes) in
    let here : net ≡ network_in bytes = is ∙ ap (λ version. network_of version front.saids) k.is.version ∙ ap (network_of (version_in ls)) k.is.saids in
    let inputs : inputs_fault (saids_of ls) [] (reads_of_text ls) ≡ None = sym (none ∙ rw (k.is.saids, k.is.lines) (ap (λ placed. inputs_fault (saids_of ls) [] placed) (placed_are 1 ls))) in
    let some : list_any is_source (saids_of ls) ≡ true = subst (λ saids. list_any is_source saids ≡ true) k.is.saids source in
    let sound : is_sound (network_of (version_in ls) (saids_of ls)) ≡ true = unranked_is_sound ls k.lines inputs some in
    let cycles : cycle_of front.lines front.saids net.nodes ≡ cycle_fault ls =
    rw (here, k.is.saids, k.is.lines) (ap (λ lines. option_map (λ node. Cycle (get_or lines node 0) node) (left_node (nodes_of (saids_of ls)))) (declaring_are 1 ls)) in
    record {
      few = rw here (unranked_is_small ls k.lines inputs some);
      wired = rw here (sound_is_wired (network_of (version_in ls) (saids_of ls)) sound);
      beside = kept_beside bytes front k;
      sound = rw here sound;
      declared = here;
      fault = model_is bytes front k ∙ rw (← none, source) (sym cycles);
    }

some_source : (saids : List Said) → source_fault saids ≡ None → list_any is_source saids ≡ true
some_source saids h = elim (cases_Bool (list_any is_source saids)) [ inl some ↦ some | inr none ↦ absurd (let k = rw none at h in cc) ]

pub unfaulty : (bytes : List ℕ) (front : Front) → Kept bytes front → None ≡ option_or (inputs_fault front.saids [] (placed_inputs front.lines front.saids)) (source_fault front.saids)
    → Unranked bytes front (network_of front.version front.saids)
unfaulty bytes front k h =
    let none = or_none (inputs_fault front.saids [] (placed_inputs front.lines front.saids)) (source_fault front.saids) (sym h) in
    unranked bytes front (network_of front.version front.saids) k (sym none.0) (some_source front.saids none.1) refl

-- what comes of the plan's nodes, said of the text
pub planned : (bytes : List ℕ) (front : Front) (r : Result Plan ModelFault) → Unranked bytes front (network_of front.version front.saids)
    → IfOk r (λ plan. (cycle_of front.lines front.saids (nodes_of front.saids) ≡ None) × (plan.net ≡ network_of front.version front.saids)) → IfOk r (λ plan. (model_fault bytes ≡ None) × (plan.net ≡ network_in bytes))
planned bytes front (Ok plan) u h = (u.fault ∙ h.0, h.1 ∙ u.declared)
planned bytes front (Err e) u h = h

pub unplanned : (bytes : List ℕ) (front : Front) (r : Result Plan ModelFault) → Unranked bytes front (network_of front.version front.saids)
    → IfErr r (λ e. Tells e (cycle_of front.lines front.saids (nodes_of front.saids))) → IfErr r (λ e. Tells e (model_fault bytes))
unplanned bytes front (Ok plan) u h = h
unplanned bytes front (Err e) u h = λ some. u.fault ∙ h some
