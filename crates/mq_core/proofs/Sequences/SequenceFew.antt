-- That no node has more visits than there are rows, where none copies, as in networks of the first version.
use Rattle.std.proofs.Common.{Bool, List, None, Option, Some, [], ap, arith, cond, eq-eqb, eqb, eqb-true, false, length, length-append, ltb, ltb-true, refl, subst, suc, true, zero, ℕ, ◌*◌, ◌++◌, ◌+◌, ◌<◌, ◌∷◌, ◌≡◌, ◌≤◌}
use Rattle.std.proofs.lemmas.Bool.Decides.{nat_tests}
use Rattle.std.proofs.lemmas.Bool.{and_parts}
use Rattle.std.proofs.lemmas.Option.{slice_get_within}
use Rattle.std.specs.List.{list_all}
use Rattle.std.specs.Prelude.{IfSome, nat_le, slice_get}
use Rattle.std.proofs.Math.Arith.{lt_of_le-ne}
use Rattle.mq_base.proofs.lemmas.Lists.{some_inj}
use Rattle.mq_core.specs.Sound.{version_of}
use Rattle.mq_core.specs.SequenceLaws.{FirstVersionCopiesNothing, NoNodeCopies, VisitsAreFew, copies_of}
use Rattle.mq_core.specs.Event.{Event, earliest}
use Rattle.mq_core.specs.Event.Event.{Arrive, Finish}
use Rattle.mq_core.specs.Local.{Local}
use Rattle.mq_core.specs.Machine.{Station, Visit, emissions_of}
use Rattle.mq_core.specs.OnTime.{standard-on_time}
use Rattle.mq_core.specs.Run.{run_length, starts}
use Rattle.mq_core.specs.Standard.{node_jobs, node_on, node_opening, standard_handle, standard_jobs, standard_opening}
use Rattle.mq_core.specs.StandardTable.{run_of, standard}
use Rattle.mq_core.specs.Tallies.{sum_below}
use Rattle.mq_core.specs.Theorems.{IsReadFor}
use Rattle.mq_core.specs.Wiring.{rank_in, reader_from}
use Rattle.mq_core.specs.declared.model.Node.{Node}
use Rattle.mq_core.specs.declared.model.Plan.{Plan}
use Rattle.mq_core.specs.declared.model.Rows.{Rows}
use Rattle.mq_core.proofs.Sequences.SequenceMerges.{visits-nowhere}
use Rattle.mq_core.proofs.EachKind.Ends.{source-inside, starts-inside, starts-weight}
use Rattle.mq_core.proofs.EachKind.Facts.{node_fact, standard-keeps}
use Rattle.mq_core.proofs.EachKind.LawTable.{laws_of, limits_of}
use Rattle.mq_core.proofs.Events.Areas.{sum-none}
use Rattle.mq_core.proofs.Events.Falls.{Falls, never-grows-from_start}
use Rattle.mq_core.proofs.Events.Kept.{Fact}
use Rattle.mq_core.proofs.Networks.Soundness.{parts}
use Rattle.mq_core.proofs.Networks.Whole.{starts-begin}
use Rattle.mq_core.proofs.Networks.Wired.{feeds_forward, has_inputs, reads-from}

-- an arrival brings one job in, which stays or is let out
node-arrives-few : (rows : Rows) (o : Option Node) → IfSome o (λ node. copies_of node.kind ≤ 1) → (s : Station Local) (fs : List Event) (x : Visit) (now port v : ℕ) → x.arrive ≡ now → node_fact rows o v s fs now →
    node_jobs o (s.visits ++ x ∷ []) (node_on rows o (s.visits ++ x ∷ []) s.local now (Arrive now v port x.job)).local + length (emissions_of now (s.visits ++ x ∷ []) (node_on rows o (s.visits ++ x ∷ []) s.local now (Arrive now v port x.job)).releases) ≤ node_jobs o s.visits s.local + 1
node-arrives-few rows None single s fs x now port v at fact = omega arith
node-arrives-few rows (Some node) single s fs x now port v at fact = let l = (laws_of rows (length node.inputs) node.kind).enters v port s fs now x at fact in omega arith

-- a finish lets out no more jobs than it takes from those inside
node-ends-few : (rows : Rows) (o : Option Node) (rank : ℕ → ℕ) (v server position : ℕ) (s : Station Local) (fs rest : List Event) (now : ℕ) → node_fact rows o v s fs now → earliest rank fs ≡ Some (Finish now v server position, rest) →
    node_jobs o s.visits (node_on rows o s.visits s.local now (Finish now v server position)).local + length (emissions_of now s.visits (node_on rows o s.visits s.local now (Finish now v server position)).releases) ≤ node_jobs o s.visits s.local
node-ends-few rows None rank v server position s fs rest now h first = omega arith
node-ends-few rows (Some node) rank v server position s fs rest now h first = (laws_of rows (length node.inputs) node.kind).leaves rank v server position s fs rest now first h

-- one where a test passes
abbrev one_if : Bool → ℕ
one_if b = cond b 1 0

-- an arrival, and a finish, at a node before this one, at this one, or elsewhere
arrive-few : (b c w : Bool) → (b ≡ true → w ≡ true) → (c ≡ true → w ≡ true) → (after before out came more : ℕ) → after + out ≤ before + 1 → more ≤ came + 1 → cond b after (cond c more 0) + out * one_if b + 0 ≤ cond b before (cond c came 0) + one_if w
arrive-few true c true h k after before out came more l m = omega arith
arrive-few true c false h k after before out came more l m = let e = h refl in absurd cc
arrive-few false true true h k after before out came more l m = omega arith
arrive-few false true false h k after before out came more l m = let e = k refl in absurd cc
arrive-few false false w h k after before out came more l m = omega arith

end-few : (b c : Bool) (after before out came : ℕ) → after + out ≤ before → cond b after (cond c came 0) + out * one_if b + 0 ≤ cond b before (cond c came 0)
end-few true c after before out came l = omega arith
end-few false c after before out came l = omega arith

-- who reads a node of this rank has a higher rank
later-less : (to from last : ℕ) → from < to → one_if (ltb to (suc last)) ≤ one_if (ltb from last)
later-less to from last h = go (ltb to (suc last)) refl (ltb from last) refl
  where
    go : (a : Bool) → ltb to (suc last) ≡ a → (b : Bool) → ltb from last ≡ b → one_if a ≤ one_if b
    go false d b e = omega arith
    go true d true e = omega arith
    go true d false e = absurd (let l = ltb-true to (suc last) d in grind (arith, nat_tests))

sum_below-least : (n k : ℕ) (f : ℕ → ℕ) → k < n → f k ≤ sum_below n f
sum_below-least zero k f l = absurd (omega arith)
sum_below-least (suc n) k f l = go (eqb k n) refl (sum_below-least n k f)
  where
    go : (b : Bool) → eqb k n ≡ b → (k < n → f k ≤ sum_below n f) → f k ≤ f n + sum_below n f
    go true e ih = let same = ap f (eqb-true k n e) in omega arith
    go false e ih = let other : k ≡ n → ⊥ = λ q. let c = eq-eqb k n q in absurd cc in let l = ih (lt_of_le-ne (omega arith) other) in omega arith

module _ (plan : Plan) (rows : Rows) (read : IsReadFor plan.net rows) (single : NoNodeCopies plan.net) (v : ℕ) where
  abbrev size : ℕ
  size = length plan.net.nodes

  abbrev rank : ℕ → ℕ
  rank u = rank_in plan.order u

  -- a node from which jobs may still come
  abbrev before : ℕ → Bool
  before u = ltb (rank u) (rank v)

  abbrev weight : ℕ → ℕ
  weight u = one_if (ltb (rank u) (suc (rank v)))

  abbrev onward : ℕ → ℕ
  onward u = one_if (before u)

  -- the jobs in the nodes before, and the visits of the node itself
  abbrev load : ℕ → Station Local → ℕ
  load u s = cond (before u) (node_jobs (slice_get plan.net.nodes u) s.visits s.local) (cond (eqb u v) (length s.visits) 0)

  abbrev fact : Fact Local
  fact u = node_fact rows (slice_get plan.net.nodes u) u

  few : Falls (standard plan rows) fact 0 size weight onward load
  unfolding standard_opening standard_handle
  few =
      record {
        follows = λ n out l. follow n out (reader_from 0 plan.net.nodes n out) refl (feeds_forward plan (standard plan rows) refl refl n out);
        waits = λ u elapsed s. refl;
        arrives = λ u port job s fs now l f.
            let x : Visit = record { job = job; arrive = now; port = port; found = standard_jobs plan rows u s.visits s.local } in
            arrive-few (before u) (eqb u v) (ltb (rank u) (suc (rank v))) (lower (rank u) (rank v)) (λ c. same (rank u) (rank v) (ap rank (eqb-true u v c))) _ _ _ (length s.visits) _
            (node-arrives-few rows (slice_get plan.net.nodes u) (one u) s fs x now port u refl f) (push s.visits x);
        ends = λ u server position s fs rest now l f first.
            end-few (before u) (eqb u v) _ _ _ (length s.visits) (node-ends-few rows (slice_get plan.net.nodes u) _ u server position s fs rest now f first);
      }
    where
      one : (u : ℕ) → IfSome (slice_get plan.net.nodes u) (λ node. copies_of node.kind ≤ 1)
      one u = go (slice_get plan.net.nodes u) refl
        where
          go : (o : Option Node) → slice_get plan.net.nodes u ≡ o → IfSome o (λ node. copies_of node.kind ≤ 1)
          go None e = tt
          go (Some node) e = single u node e

      follow : (n out : ℕ) (r : Option (ℕ × ℕ)) → reader_from 0 plan.net.nodes n out ≡ r → IfSome r (λ to. rank_in plan.order n < rank_in plan.order to.0) → IfSome r (λ to. (to.0 < size) × (weight to.0 ≤ onward n))
      follow n out None e h = tt
      follow n out (Some to) e h = (has_inputs plan.net.nodes to.0 to.1 (n, out) (reads-from plan.net.nodes n out to.0 to.1 e), later-less (rank to.0) (rank n) (rank v) h)

      lower : (a b : ℕ) → ltb a b ≡ true → ltb a (suc b) ≡ true
      lower a b h = grind (arith, nat_tests)

      same : (a b : ℕ) → a ≡ b → ltb a (suc b) ≡ true
      same a b h = grind (arith, nat_tests)

      push : (visits : List Visit) (x : Visit) → length (visits ++ x ∷ []) ≤ length visits + 1
      push visits x = omega (arith, length-append visits (x ∷ []))

  visits-inside : v < size → length ((run_of plan rows).stations v).visits ≤ length rows.time
  unfolding standard_opening
  visits-inside l =
      let end = run_of plan rows in
      let grown =
      never-grows-from_start (standard plan rows) fact (standard-keeps plan rows (reader_from 0 plan.net.nodes) refl) (standard-on_time plan rows) (feeds_forward plan (standard plan rows) refl refl) 0 size weight onward load few
      (starts rows) (starts-begin (standard plan rows) 0 rows.source rows.time)
      (starts-inside size 0 rows.source rows.time (λ k source e. source-inside plan.net.nodes source (read.sources k source e)))
      (run_length plan.net.nodes rows) in
      let a = starts-weight weight 1 (λ u. at-most (ltb (rank u) (suc (rank v)))) 0 rows.source rows.time in
      let b = sum-none size (λ u. load u (record { local = node_opening (slice_get plan.net.nodes u); visits = []; emitted = []; area = 0; busy = 0 })) (λ u l. opening (before u) (eqb u v) (slice_get plan.net.nodes u)) in
      let c = sum_below-least size v (λ u. load u (end.stations u)) l in
      let d : load v (end.stations v) ≡ length (end.stations v).visits = own (rank v) v (node_jobs (slice_get plan.net.nodes v) (end.stations v).visits (end.stations v).local) (length (end.stations v).visits) in
      omega arith
    where
      at-most : (b : Bool) → one_if b ≤ 1
      at-most true = omega arith
      at-most false = omega arith

      opening : (b c : Bool) (o : Option Node) → cond b (node_jobs o [] (node_opening o)) (cond c (length {A = Visit} []) 0) ≡ 0
      opening false true o = omega arith
      opening false false o = refl
      opening true c None = refl
      opening true c (Some node) = (laws_of rows (length node.inputs) node.kind).vacant

      own : (r u jobs number : ℕ) → cond (ltb r r) jobs (cond (eqb u u) number 0) ≡ number
      own r u jobs number = rw (eq-eqb u u refl, not-below r) refl
        where
          not-below : (n : ℕ) → ltb n n ≡ false
          not-below n = grind (arith, nat_tests)

-- each node of a sound network is of a kind of its version
kinds-of_version : (version : ℕ) (nodes : List Node) → list_all (λ (node : Node). nat_le (version_of node.kind) version) nodes ≡ true → (v : ℕ) (node : Node) → slice_get nodes v ≡ Some node → nat_le (version_of node.kind) version ≡ true
kinds-of_version version [] h v node e = absurd cc
kinds-of_version version (n ∷ nodes) h zero node e = subst (λ (m : Node). nat_le (version_of m.kind) version ≡ true) (some_inj n node e) (and_parts (nat_le (version_of n.kind) version) (list_all (λ (m : Node). nat_le (version_of m.kind) version) nodes) h).0
kinds-of_version version (n ∷ nodes) h (suc v) node e = kinds-of_version version nodes (and_parts (nat_le (version_of n.kind) version) (list_all (λ (m : Node). nat_le (version_of m.kind) version) nodes) h).1 v node e

pub first-version_copies_nothing : FirstVersionCopiesNothing
first-version_copies_nothing net sound first v node e =
    let own = kinds-of_version net.version net.nodes (parts net sound).kinds v node e in
    (limits_of node.kind).first (below (version_of node.kind) net.version own first)
  where
    below : (a b : ℕ) → nat_le a b ≡ true → b ≡ 1 → a ≤ 1
    below a b m n = grind (arith, nat_tests)

pub visits-are-few : VisitsAreFew
visits-are-few plan rows read single v = go (slice_get plan.net.nodes v) refl
  where
    visits : List Visit
    visits = ((run_of plan rows).stations v).visits

    go : (o : Option Node) → slice_get plan.net.nodes v ≡ o → length visits ≤ length rows.time
    go (Some node) e = visits-inside plan rows read single v (slice_get_within plan.net.nodes v node e)
    go None e = let none = visits-nowhere plan rows read v e in omega arith
