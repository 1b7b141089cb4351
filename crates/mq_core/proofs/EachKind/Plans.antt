-- That a plan's nodes are in their limits, and that its order ranks them.
use Rattle.std.proofs.Common.{Bool, List, None, Option, Some, [], add-zero, append_assoc, arith, cond, false, length, refl, subst, suc, sym, take, true, zero, zero-add, ℕ, ◌++◌, ◌+◌, ◌<◌, ◌∙◌, ◌∷◌, ◌≡◌, ◌≤◌}
use Rattle.std.proofs.lemmas.Bool.{and_parts}
use Rattle.std.proofs.lemmas.Bool.Decides.{nat_tests}
use Rattle.std.proofs.lemmas.List.{append-nil}
use Rattle.std.specs.List.{list_all}
use Rattle.std.specs.Option.{option_to_list}
use Rattle.std.specs.Prelude.{codes, nat_lt, not, slice_get, ◌&&◌}
use Rattle.std.specs.Str.{bytes_eq}
use Rattle.mq_core.specs.Names.{is_name}
use Rattle.mq_core.specs.PlanLaws.{IsRankedBehind, NamesOutput, NodesAreInLimits, OrdersRank, RowsTellDemands}
use Rattle.mq_core.specs.Results.{servers_in}
use Rattle.mq_core.specs.Sound.{is_output, is_sound_count, is_sound_kind, outputs_in}
use Rattle.mq_core.specs.Wiring.{first_ready, has, inputs_of, ranked_after}
use Rattle.mq_core.specs.declared.model.Demand.{Demand}
use Rattle.mq_core.specs.declared.model.Input.{Input}
use Rattle.mq_core.specs.declared.model.Kind.{Kind}
use Rattle.mq_core.specs.declared.model.Kind.TheVariants.{Delay, Fork, ForkJoin, Join, Loss, Server, Source, Split, Tandem, Trunk}
use Rattle.mq_core.specs.declared.model.Network.{Network}
use Rattle.mq_core.specs.declared.model.Node.{Node}
use Rattle.mq_base.proofs.lemmas.Lists.{some_inj}
use Rattle.mq_core.proofs.EachKind.LawTable.{limits_of}
use Rattle.mq_core.proofs.ForkJoin.ForkJoinShapes.{all-servers, branches-shaped}
use Rattle.mq_core.proofs.Tandem.TandemShapes.{sound-stages}
use Rattle.mq_core.proofs.Networks.Soundness.{sound-node}
use Rattle.mq_core.proofs.Networks.Wired.{all-inputs}

-- each item has this with those before it
abbrev Before : (List ℕ → ℕ → Type 0) → List ℕ → List ℕ → Type 0
Before P seen [] = Unit {0}
Before P seen (x ∷ xs) = P seen x × Before P (seen ++ x ∷ []) xs

before-push : (P : List ℕ → ℕ → Type 0) (seen xs : List ℕ) (x : ℕ) → Before P seen xs → P (seen ++ xs) x → Before P seen (xs ++ x ∷ [])
before-push P seen [] x h k = (subst (λ l. P l x) (append-nil seen) k, tt)
before-push P seen (y ∷ ys) x h k = (h.0, before-push P (seen ++ y ∷ []) ys x h.1 (subst (λ l. P l x) (sym (append_assoc seen (y ∷ []) ys)) k))

before-at : (P : List ℕ → ℕ → Type 0) (seen xs : List ℕ) (rank v : ℕ) → Before P seen xs → slice_get xs rank ≡ Some v → P (seen ++ take rank xs) v
before-at P seen [] rank v h e = absurd cc
before-at P seen (x ∷ xs) zero v h e = subst (P (seen ++ [])) (some_inj x v e) (subst (λ l. P l x) (sym (append-nil seen)) h.0)
before-at P seen (x ∷ xs) (suc rank) v h e = subst (λ l. P l v) (append_assoc seen (x ∷ []) (take rank xs)) (before-at P (seen ++ x ∷ []) xs rank v h.1 e)

-- the node that is ready, of those from w on
record Ready (ranked : List ℕ) (nodes : List Node) (w n : ℕ) : Type 0 where
  index : ℕ
  at : n ≡ w + index
  inside : index < length nodes
  once : has ranked n ≡ false
  reads : (port : ℕ) (i : ℕ × ℕ) → slice_get (inputs_of nodes index) port ≡ Some i → has ranked i.0 ≡ true

first_ready-ready : (ranked : List ℕ) (w : ℕ) (nodes : List Node) (n : ℕ) → first_ready ranked w nodes ≡ Some n → Ready ranked nodes w n
unfolding first_ready
first_ready-ready ranked w [] n h = absurd cc
first_ready-ready ranked w (node ∷ nodes) n h =
    go (has ranked w) (list_all (λ (i : Input). has ranked i.node) node.inputs) refl refl h (first_ready-ready ranked (suc w) nodes n)
  where
    later : Ready ranked nodes (suc w) n → Ready ranked (node ∷ nodes) w n
    later r =
        record {
          index = suc r.index;
          at = let e : n ≡ suc w + r.index = r.at in omega arith;
          inside = let l : r.index < length nodes = r.inside in omega arith;
          once = r.once;
          reads = r.reads;
        }

    go : (a b : Bool) → has ranked w ≡ a → list_all (λ (i : Input). has ranked i.node) node.inputs ≡ b → cond (not a && b) (Some w) (first_ready ranked (suc w) nodes) ≡ Some n → (first_ready ranked (suc w) nodes ≡ Some n → Ready ranked nodes (suc w) n) → Ready ranked (node ∷ nodes) w n
    go false true x y k ih =
        record {
          index = 0;
          at = sym (some_inj w n k) ∙ sym (add-zero w);
          inside = omega arith;
          once = subst (λ m. has ranked m ≡ false) (some_inj w n k) x;
          reads = all-inputs ranked node.inputs y;
        }
    go false false x y k ih = later (ih k)
    go true b x y k ih = later (ih k)

ranked_after-before : (count : ℕ) (nodes : List Node) (ranked : List ℕ) → Before (IsRankedBehind nodes) [] ranked → Before (IsRankedBehind nodes) [] (ranked_after count nodes ranked)
unfolding ranked_after
ranked_after-before zero nodes ranked h = h
ranked_after-before (suc count) nodes ranked h = go (first_ready ranked 0 nodes) refl (ranked_after-before count nodes)
  where
    go : (r : Option ℕ) → first_ready ranked 0 nodes ≡ r → ((xs : List ℕ) → Before (IsRankedBehind nodes) [] xs → Before (IsRankedBehind nodes) [] (ranked_after count nodes xs)) → Before (IsRankedBehind nodes) [] (ranked_after count nodes (ranked ++ option_to_list r))
    go None e ih = ih (ranked ++ []) (subst (Before (IsRankedBehind nodes) []) (sym (append-nil ranked)) h)
    go (Some n) e ih =
        let r = first_ready-ready ranked 0 nodes n e in
        let same : r.index ≡ n = sym (r.at ∙ zero-add r.index) in
        ih (ranked ++ n ∷ [])
        (before-push (IsRankedBehind nodes) [] ranked n h
        (record {
          inside = subst (λ m. m < length nodes) same r.inside;
          once = r.once;
          reads = subst (λ m. (port : ℕ) (i : ℕ × ℕ) → slice_get (inputs_of nodes m) port ≡ Some i → has ranked i.0 ≡ true) same r.reads;
        }))

pub orders-rank : OrdersRank
orders-rank plan rank v e =
    before-at (IsRankedBehind plan.net.nodes) [] plan.order rank v
    (subst (Before (IsRankedBehind plan.net.nodes) []) (sym plan.ranked) (ranked_after-before (length plan.net.nodes) plan.net.nodes [] tt)) e

-- what all inputs have, one has
input-at : (net : Network) (is : List Input) → list_all (λ (i : Input). is_output (slice_get net.nodes i.node) i.out) is ≡ true → (port : ℕ) (input : Input) → slice_get is port ≡ Some input → NamesOutput net input
input-at net [] h port input e = absurd cc
input-at net (i ∷ is) h zero input e = subst (NamesOutput net) (some_inj i input e) (go (slice_get net.nodes i.node) refl (and_parts _ (list_all (λ (i : Input). is_output (slice_get net.nodes i.node) i.out) is) h).0)
  where
    go : (o : Option Node) → slice_get net.nodes i.node ≡ o → is_output o i.out ≡ true → NamesOutput net i
    go None s k = absurd cc
    go (Some node) s k = record { node = node; there = s; out = let t : nat_lt i.out (outputs_in node.kind) ≡ true = k in grind (arith, nat_tests) }
input-at net (i ∷ is) h (suc port) input e = input-at net is (and_parts (is_output (slice_get net.nodes i.node) i.out) _ h).1 port input e

-- all kinds but a trunk group have at most 8 servers
servers-few : (columns : ℕ) (kind : Kind) → is_sound_kind columns kind ≡ true → ((servers : ℕ) (demand : Demand) → kind ≡ Trunk servers demand → ⊥) → servers_in kind ≤ 8
servers-few columns Source h other = omega arith
servers-few columns (Server demand) h other = omega arith
servers-few columns (Delay demand) h other = omega arith
servers-few columns (Loss places demand) h other = omega arith
servers-few columns (Tandem stages) h other = let l = (sound-stages columns stages h).few in omega arith
servers-few columns (ForkJoin branches) h other = let l = (branches-shaped columns branches h).few in let e = all-servers branches in omega arith
servers-few columns (Split route) h other = omega arith
servers-few columns (Fork outputs) h other = omega arith
servers-few columns Join h other = omega arith
servers-few columns (Trunk servers demand) h other = absurd (other servers demand refl)

name-short : (name : List ℕ) → is_name name ≡ true → length name ≤ 32
name-short [] h = absurd cc
name-short (b ∷ more) h =
    let parts = (and_parts _ (not (bytes_eq (b ∷ more) (codes "from"))) h).0 in
    let short : nat_lt (length more) 32 ≡ true = (and_parts _ (nat_lt (length more) 32) parts).1 in
    grind (arith, nat_tests)

pub nodes-are-in-limits : NodesAreInLimits
nodes-are-in-limits plan v node e =
    let whole = sound-node plan.net plan.sound v node e in
    let a = and_parts _ (is_name node.name) whole in
    let b = and_parts _ (list_all (λ (i : Input). is_output (slice_get plan.net.nodes i.node) i.out) node.inputs) a.0 in
    let c = and_parts _ (is_sound_count node.kind (length node.inputs)) b.0 in
    record {
      kind = c.0;
      outputs = (limits_of node.kind).outputs (length plan.net.columns) c.0;
      servers = (limits_of node.kind).servers (length plan.net.columns) c.0;
      few = servers-few (length plan.net.columns) node.kind c.0;
      name = name-short node.name a.1;
      ports = (limits_of node.kind).ports (length node.inputs) c.1;
      reads = input-at plan.net node.inputs b.1;
    }

pub rows-tell-demands : RowsTellDemands
rows-tell-demands net rows read job below kind sound = (limits_of kind).told net rows read job below sound
