-- What stays of a list of nodes when one more stands behind it.
use Rattle.std.proofs.Common.{◌≡◌, ◌∙◌, refl, sym, subst, ℕ, zero, suc, ◌<◌, ◌≤◌, List, [], ◌∷◌, ◌++◌, length, Bool, true, false, arith, inl, inr}
use Rattle.std.specs.Prelude.{◌&&◌, ◌==◌, nat_lt, slice_get}
use Rattle.std.specs.List.{list_all, list_any}
use Rattle.std.proofs.lemmas.Bool.{and_from, and_left, and_parts, eqb-true, lt-ltb, ltb-true, ne_eqb, not-true, not_from_false, or_cases, or_from, or_left, or_right}
use Rattle.std.proofs.lemmas.List.Folds.{list_any-append}
use Rattle.mq_base.proofs.lemmas.Tests.{list_all_wider}
use Rattle.mq_core.specs.Sound.{are_distinct, is_output, is_sound_kind, is_sound_node, mentions_from, same_input}
use Rattle.mq_core.specs.Ranges.{is_sound_demand, is_within}
use Rattle.mq_core.specs.Kinds.Tandem.{is_sound_stage}
use Rattle.mq_core.specs.declared.model.Demand.{Demand}
use Rattle.mq_core.specs.declared.model.Demand.TheVariants.{Column, Fixed}
use Rattle.mq_core.specs.declared.model.Input.{Input}
use Rattle.mq_core.specs.declared.model.Kind.{Kind}
use Rattle.mq_core.specs.declared.model.Kind.TheVariants.{Source, Server, Delay, Loss, Tandem, ForkJoin, Split, Fork, Join, Trunk}
use Rattle.mq_core.specs.declared.model.Node.{Node}
use Rattle.mq_core.specs.declared.model.Route.TheVariants.{Modulo, Turn, Cut}
use Rattle.mq_core.specs.declared.model.Stage.{Stage}

pub below_wider : (n m : ℕ) → n ≤ m → (k : ℕ) → nat_lt k n ≡ true → nat_lt k m ≡ true
below_wider n m wide k h = let low : k < n = ltb-true k n h in lt-ltb k m (omega arith)

-- Outputs of the nodes before are outputs still.
pub output_stays : (nodes more : List Node) (n out : ℕ) → is_output (slice_get nodes n) out ≡ true → is_output (slice_get (nodes ++ more) n) out ≡ true
output_stays [] more n out h = absurd (cc)
output_stays (node ∷ nodes) more zero out h = h
output_stays (node ∷ nodes) more (suc n) out h = output_stays nodes more n out h

-- Kinds are sound over more columns.
demand_stays : (c d : ℕ) → c ≤ d → (demand : Demand) → is_sound_demand c demand ≡ true → is_sound_demand d demand ≡ true
demand_stays c d wide (Column column) h = below_wider c d wide column h
demand_stays c d wide (Fixed demand) h = h

stage_stays : (c d low high : ℕ) → c ≤ d → (stage : Stage) → is_sound_stage c low high stage ≡ true → is_sound_stage d low high stage ≡ true
stage_stays c d low high wide stage h = let both = and_parts _ _ h in and_from _ _ both.0 (demand_stays c d wide stage.demand both.1)

branch_stays : (c d : ℕ) → c ≤ d → (demands : List Demand) → (is_within 1 4 (length demands) && list_all (is_sound_demand c) demands) ≡ true
    → (is_within 1 4 (length demands) && list_all (is_sound_demand d) demands) ≡ true
branch_stays c d wide demands h =
    let both = and_parts _ _ h in
    and_from _ _ both.0 (list_all_wider (is_sound_demand c) (is_sound_demand d) demands (demand_stays c d wide) both.1)

pub kind_stays : (c d : ℕ) → c ≤ d → (kind : Kind) → is_sound_kind c kind ≡ true → is_sound_kind d kind ≡ true
kind_stays c d wide Source h = refl
kind_stays c d wide (Server demand) h = demand_stays c d wide demand h
kind_stays c d wide (Delay demand) h = demand_stays c d wide demand h
kind_stays c d wide (Loss places demand) h = let both = and_parts _ _ h in and_from _ _ both.0 (demand_stays c d wide demand both.1)
kind_stays c d wide (Tandem []) h = h
kind_stays c d wide (Tandem (stage ∷ stages)) h =
    let all = and_parts _ _ h in
    let both = and_parts _ _ all.0 in
    and_from _ _ (and_from _ _ (stage_stays c d 0 0 wide stage both.0) both.1)
    (list_all_wider (is_sound_stage c 1 4) (is_sound_stage d 1 4) stages (stage_stays c d 1 4 wide) all.1)
kind_stays c d wide (ForkJoin branches) h =
    let all = and_parts _ _ h in
    let both = and_parts _ _ all.0 in
    and_from _ _
    (and_from _ _ both.0 (list_all_wider (λ demands. is_within 1 4 (length demands) && list_all (is_sound_demand c) demands) (λ demands. is_within 1 4 (length demands) && list_all (is_sound_demand d) demands) branches (branch_stays c d wide) both.1))
    all.1
kind_stays c d wide (Split (Modulo outputs column)) h = let both = and_parts _ _ h in and_from _ _ both.0 (below_wider c d wide column both.1)
kind_stays c d wide (Split (Turn outputs)) h = h
kind_stays c d wide (Split (Cut column thresholds)) h =
    let all = and_parts _ _ h in
    let some = and_parts _ _ all.0 in
    let both = and_parts _ _ some.0 in
    and_from _ _ (and_from _ _ (and_from _ _ (below_wider c d wide column both.0) both.1) some.1) all.1
kind_stays c d wide (Fork outputs) h = h
kind_stays c d wide Join h = h
kind_stays c d wide (Trunk servers demand) h = let both = and_parts _ _ h in and_from _ _ both.0 (demand_stays c d wide demand both.1)

-- Nodes are sound over more columns and beside more nodes.
pub nodes_stay : (c d : ℕ) → c ≤ d → (nodes more xs : List Node) → list_all (is_sound_node c nodes) xs ≡ true → list_all (is_sound_node d (nodes ++ more)) xs ≡ true
nodes_stay c d wide nodes more xs h = list_all_wider (is_sound_node c nodes) (is_sound_node d (nodes ++ more)) xs stays h
  where
    stays : (node : Node) → is_sound_node c nodes node ≡ true → is_sound_node d (nodes ++ more) node ≡ true
    stays node k =
        let named = and_parts _ _ k in
        let given = and_parts _ _ named.0 in
        let both = and_parts _ _ given.0 in
        let outputs =
        list_all_wider (λ (i : Input). is_output (slice_get nodes i.node) i.out) (λ (i : Input). is_output (slice_get (nodes ++ more) i.node) i.out) node.inputs
        (λ i. output_stays nodes more i.node i.out) given.1
        in
        and_from _ _ (and_from _ _ (and_from _ _ (kind_stays c d wide node.kind both.0) both.1) outputs) named.1

-- Columns are first mentioned in order, and then some more are.
pub mentions_on : (next mid last : ℕ) (xs ys : List ℕ) → mentions_from next mid xs ≡ true → mentions_from mid last ys ≡ true → mentions_from next last (xs ++ ys) ≡ true
mentions_on next mid last [] ys h k = subst (λ n. mentions_from n last ys ≡ true) (sym (eqb-true next mid h)) k
mentions_on next mid last (x ∷ xs) ys h k =
    let more : ℕ → Bool = λ n. mentions_from n last (xs ++ ys) in
    elim (or_cases ((x == next) && mentions_from (suc next) mid xs) (nat_lt x next && mentions_from next mid xs) h) [
      | inl new ↦
          let both = and_parts (x == next) (mentions_from (suc next) mid xs) new in
          or_left ((x == next) && more (suc next)) (nat_lt x next && more next) (and_from (x == next) (more (suc next)) both.0 (mentions_on (suc next) mid last xs ys both.1 k))
      | inr old ↦
          let both = and_parts (nat_lt x next) (mentions_from next mid xs) old in
          or_right ((x == next) && more (suc next)) (nat_lt x next && more next) (and_from (nat_lt x next) (more next) both.0 (mentions_on next mid last xs ys both.1 k))
    ]

-- Inputs from nodes below one are distinct from inputs from that one.
apart : (n : ℕ) (x : Input) (ys : List Input) → x.node < n → list_all (λ (i : Input). i.node == n) ys ≡ true → list_any (same_input x) ys ≡ false
apart n x [] low h = refl
apart n x (y ∷ ys) low h =
    let both = and_parts _ _ h in
    let at : y.node ≡ n = eqb-true y.node n both.0 in
    or_from _ _ (and_left _ _ (ne_eqb x.node y.node (λ e. omega arith))) (apart n x ys low both.1)

pub distinct_on : (n : ℕ) (xs ys : List Input) → are_distinct same_input xs ≡ true → list_all (λ (i : Input). nat_lt i.node n) xs ≡ true
    → are_distinct same_input ys ≡ true → list_all (λ (i : Input). i.node == n) ys ≡ true → are_distinct same_input (xs ++ ys) ≡ true
distinct_on n [] ys h low k at = k
distinct_on n (x ∷ xs) ys h low k at =
    let first = and_parts _ _ h in
    let below = and_parts _ _ low in
    let none : list_any (same_input x) (xs ++ ys) ≡ false =
    list_any-append (same_input x) xs ys ∙ or_from _ _ (not-true _ first.0) (apart n x ys (ltb-true x.node n below.0) at)
    in
    and_from _ _ (not_from_false _ none) (distinct_on n xs ys first.1 below.1 k at)
