-- A run that goes node after node by rank: those of lower rank are done, and the others wait.
use Rattle.std.proofs.Common.{◌≡◌, ◌≢◌, ℕ, zero, suc, ◌+◌, ◌<◌, ◌≤◌, ◌⊎◌, inl, inr, Bool, true, false, List, [], ◌∷◌, length, replicate, set, take, Some, None, refl, sym, ap, ◌∙◌, subst, arith}
use Rattle.std.specs.Prelude.{◌==◌, ◌&&◌, ◌||◌, slice_get, sum_by}
use Rattle.std.specs.Option.{option_map}
use Rattle.std.specs.List.{list_all}
use Rattle.std.proofs.lemmas.Bool.{cases_eq, cases_lt}
use Rattle.std.proofs.lemmas.Bool.Decides.{nat_tests}
use Rattle.std.proofs.lemmas.List.{get_or-replicate, length-replicate, length-set}
use Rattle.std.proofs.lemmas.List.Sums.{sum_by_more, sum_by-take-le}
use Rattle.std.proofs.lemmas.Option.{get_or_from_slice_get, slice_get-get_or, slice_get-map, slice_get_within}
use Rattle.mq_base.proofs.lemmas.Lists.{get-set_other, get-set_same, get-some, get-take, some_inj}
use Rattle.mq_core.specs.Results.{Refusal, refusal_of, visits_of}
use Rattle.mq_core.specs.Sequences.{IsRunOf, sequence_refusal}
use Rattle.mq_core.specs.StandardTable.{run_of}
use Rattle.mq_core.specs.Theorems.{IsReadFor}
use Rattle.mq_core.specs.Wiring.{has, outputs_read}
use Rattle.mq_core.specs.declared.model.Input.{Input}
use Rattle.mq_core.specs.declared.model.Node.{Node}
use Rattle.mq_core.specs.declared.model.Plan.{Plan}
use Rattle.mq_core.specs.declared.model.Rows.{Rows}
use Rattle.mq_core.specs.declared.model.Stream.{Stream}
use Rattle.mq_core.specs.declared.model.Visits.{Visits}
use Rattle.mq_arrivals.specs.declared.nodes.Arriving.{Arriving}
use Rattle.mq_exits.specs.Results.{IsKnown}
use Rattle.mq_exits.specs.declared.working.Ending.TheVariants.{OnTime}
use Rattle.mq_engine.specs.CoreLaws.{CoreLaws}
use Rattle.mq_engine.specs.Progress.{AreEarly, HasAll, IsReached, Tells, is_done, is_read, is_ready, is_waiting, reads_done, stands_at}
use Rattle.mq_engine.specs.Waves.{IsWave}
use Rattle.mq_engine.specs.declared.progress.Stand.{Stand}
use Rattle.mq_engine.specs.declared.progress.Stand.TheVariants.{Waiting, Done, Crowded, Late}
use Rattle.mq_engine.proofs.Endings.{all-pass, each-done, none-refused, reached-stands, run-done}
use Rattle.mq_engine.proofs.Lists.{has-index}
use Rattle.mq_engine.proofs.Waves.{has-all, put-keeps}
use Rattle.mq_stations.specs.Leaving.{IsEarlyStream}

-- what is worked out so far is what the run has at the nodes below a rank, and nothing stands at the others yet
pub record IsDoneTo (plan : Plan) (rows : Rows) (visits : List Visits) (outputs : List (List Stream)) (rank : ℕ) : Type 0 where
  pub stands : List Stand
  pub reached : IsReached plan rows visits outputs stands
  pub done : (q v : ℕ) → q < rank → slice_get plan.order q ≡ Some v → slice_get stands v ≡ Some Done
  pub waits : (q v : ℕ) → rank ≤ q → slice_get plan.order q ≡ Some v → slice_get stands v ≡ Some Waiting

get-replicate : {X : Type 0} (n k : ℕ) (x : X) → k < n → slice_get (replicate n x) k ≡ Some x
get-replicate n k x l =
    let long = length-replicate n x in
    let inside : k < length (replicate n x) = omega arith in
    slice_get-get_or (replicate n x) k x inside ∙ ap Some (get_or-replicate n k x x l)

-- before the first rank none is
pub done-begins : (laws : CoreLaws) (plan : Plan) (rows : Rows) (visits : List Visits) (outputs : List (List Stream)) → length visits ≡ length plan.net.nodes → length outputs ≡ length plan.net.nodes → AreEarly outputs → IsDoneTo plan rows visits outputs 0
done-begins laws plan rows visits outputs came left early =
    let stands = replicate (length plan.net.nodes) Waiting in
    record {
      stands = stands;
      reached = record {
        came = came;
        left = left;
        stand = length-replicate (length plan.net.nodes) Waiting;
        told = λ v node at there e.
            let waiting : at ≡ Waiting = some_inj at Waiting (sym e ∙ get-replicate (length plan.net.nodes) v Waiting (slice_get_within plan.net.nodes v node there)) in
            subst (Tells plan rows visits outputs v node) (sym waiting) tt;
        early = early;
      };
      done = λ q v l e. absurd (omega arith);
      waits = λ q v l e. get-replicate (length plan.net.nodes) v Waiting (laws.ranks plan q v e).inside;
    }

-- a front of a list has what stands in it
has-front : (xs : List ℕ) (q k n : ℕ) → k < q → slice_get xs k ≡ Some n → has (take q xs) n ≡ true
has-front [] q k n l e = absurd cc
has-front (x ∷ xs) zero k n l e = absurd (omega arith)
has-front (x ∷ xs) (suc q) zero n l e =
    let same : x ≡ n = some_inj x n e in
    let test : (x == n) ≡ true = grind (arith, nat_tests) in
    ap (λ b. b || has (take q xs) n) test
has-front (x ∷ xs) (suc q) (suc k) n l e = go (x == n) (has-front xs q k n (omega arith) e)
  where
    go : (b : Bool) → has (take q xs) n ≡ true → (b || has (take q xs) n) ≡ true
    go true h = refl
    go false h = h

-- of the nodes below the next rank, another than the one at this stands below it
pub rank-below : (plan : Plan) (rank q v w : ℕ) → q < rank + 1 → slice_get plan.order rank ≡ Some v → slice_get plan.order q ≡ Some w → w ≢ v → q < rank
rank-below plan rank q v w l here e apart = go (cases_lt q rank)
  where
    go : (q < rank) ⊎ (rank ≤ q) → q < rank
    go (inl less) = less
    go (inr last) =
        let same : q ≡ rank = omega arith in
        absurd (apart (some_inj w v (sym e ∙ (ap (slice_get plan.order) same ∙ here))))

module _ (laws : CoreLaws) (plan : Plan) (rows : Rows) (visits : List Visits) (outputs : List (List Stream)) (rank v : ℕ) (d : IsDoneTo plan rows visits outputs rank) (here : slice_get plan.order rank ≡ Some v) where
  pub inside : v < length plan.net.nodes
  inside = (laws.ranks plan rank v here).inside

  -- what it reads stands below it
  pub read-before : (node : Node) → slice_get plan.net.nodes v ≡ Some node → (port : ℕ) (input : Input) → slice_get node.inputs port ≡ Some input → (q : ℕ) × (q < rank) × (slice_get plan.order q ≡ Some input.node)
  read-before node there port input g =
      let before = (laws.ranks plan rank v here).reads port (input.node, input.out) (ap (λ o. slice_get (outputs_read o) port) there ∙ (slice_get-map _ node.inputs port ∙ ap (option_map (λ (i : Input). (i.node, i.out))) g)) in
      let index = has-index (take rank plan.order) input.node before in
      let front = get-take plan.order rank index.0 input.node index.1 in
      (index.0, front.0, front.1)

  -- the next node can be worked out: all that it reads is done
  ready : is_ready plan.net.nodes d.stands v ≡ true
  ready =
      let node = get-some plan.net.nodes v inside in
      let reads : list_all (is_read d.stands) node.0.inputs ≡ true = all-pass (is_read d.stands) node.0.inputs (λ port input g.
      let front = read-before node.0 node.1 port input g in
      ap (stands_at is_done) (d.done front.0 input.node front.1 front.2)) in
      (λ k. stands_at is_waiting (d.waits rank v (omega arith) here k) && reads_done d.stands (node.1 k)) ∙ reads

  pub comes : IsReadFor plan.net rows → HasAll plan rows outputs v
  comes read = has-all laws plan rows visits outputs d.stands v read d.reached ready

  -- where it is refused the run is, for the same cause
  pub refuses : IsReadFor plan.net rows → (node : Node) (refusal : Refusal) → slice_get plan.net.nodes v ≡ Some node → sequence_refusal plan.net.bound v (visits_of node.kind ((run_of plan rows).stations v)) ≡ Some refusal → refusal_of plan rows ≡ Some refusal
  refuses read node refusal there h = laws.first plan rows read rank v node refusal here there (λ q w n l g t. (d.reached.told w n Done t (d.done q w l g)).1) h

  -- no later one is the same
  pub later-apart : (q w : ℕ) → rank + 1 ≤ q → slice_get plan.order q ≡ Some w → w ≢ v
  later-apart q w l g same =
      let once = (laws.ranks plan q w g).once in
      let twice = has-front plan.order q rank w (omega arith) (here ∙ ap Some (sym same)) in
      absurd cc

  -- while its lists are taken the others are done so far
  pub taken-done : (came : Visits) → IsDoneTo plan rows (set visits v came) (set outputs v []) rank
  taken-done came =
      record {
        stands = d.stands;
        reached = record {
          came = length-set visits v came ∙ d.reached.came;
          left = length-set outputs v [] ∙ d.reached.left;
          stand = d.reached.stand;
          told = λ w node at there e. told w node at there e (cases_eq w v);
          early = λ u out streams stream a b. early u out streams stream a b (cases_eq u v);
        };
        done = d.done;
        waits = d.waits;
      }
    where
      others : (w : ℕ) (node : Node) → w ≢ v → (at : Stand) → Tells plan rows visits outputs w node at → Tells plan rows (set visits v came) (set outputs v []) w node at
      others w node apart Waiting h = tt
      others w node apart Done h = (record { visits = get-set_other visits v w came apart ∙ h.0.visits; outputs = get-set_other outputs v w [] apart ∙ h.0.outputs }, h.1)
      others w node apart (Crowded fault) h = h
      others w node apart (Late fault) h = h

      told : (w : ℕ) (node : Node) (at : Stand) → slice_get plan.net.nodes w ≡ Some node → slice_get d.stands w ≡ Some at → (w ≡ v) ⊎ (w ≢ v) → Tells plan rows (set visits v came) (set outputs v []) w node at
      told w node at there e (inl same) =
          let waiting : at ≡ Waiting = some_inj at Waiting (sym e ∙ (ap (slice_get d.stands) same ∙ d.waits rank v (omega arith) here)) in
          subst (Tells plan rows (set visits v came) (set outputs v []) w node) (sym waiting) tt
      told w node at there e (inr apart) = others w node apart at (d.reached.told w node at there e)

      early : (u out : ℕ) (streams : List Stream) (stream : Stream) → slice_get (set outputs v []) u ≡ Some streams → slice_get streams out ≡ Some stream → (u ≡ v) ⊎ (u ≢ v) → IsEarlyStream stream
      early u out streams stream a b (inl same) =
          let none : [] ≡ streams = some_inj [] streams (sym (get-set_same outputs v [] (subst (λ m. v < m) (sym d.reached.left) inside)) ∙ (ap (slice_get (set outputs v [])) (sym same) ∙ a)) in
          let gone = ap (λ (l : List Stream). slice_get l out) none ∙ b in
          absurd cc
      early u out streams stream a b (inr apart) = d.reached.early u out streams stream (sym (get-set_other outputs v u [] apart) ∙ a) b

  -- where it is on time one node more is done
  pub more : (node : Node) (came : Visits) (left : List Stream) → slice_get plan.net.nodes v ≡ Some node → IsKnown plan rows v node (OnTime came left) → IsDoneTo plan rows (set visits v came) (set outputs v left) (rank + 1)
  more node came left there known =
      record {
        stands = set d.stands v Done;
        reached = put-keeps plan rows (record { number = v; ending = OnTime came left }) visits (set visits v came) outputs (set outputs v left) d.stands (set d.stands v Done) d.reached (node, there, known) (refl, refl, refl);
        done = λ q w l g. done w (cases_eq w v) (λ apart. d.done q w (rank-below plan rank q v w l here g apart) g);
        waits = λ q w l g. get-set_other d.stands v w Done (later-apart q w l g) ∙ d.waits q w (omega arith) g;
      }
    where
      in_stands : v < length d.stands
      in_stands = subst (λ m. v < m) (sym d.reached.stand) inside

      done : (w : ℕ) → (w ≡ v) ⊎ (w ≢ v) → (w ≢ v → slice_get d.stands w ≡ Some Done) → slice_get (set d.stands v Done) w ≡ Some Done
      done w (inl same) was = ap (slice_get (set d.stands v Done)) same ∙ get-set_same d.stands v Done in_stands
      done w (inr apart) was = get-set_other d.stands v w Done apart ∙ was apart

-- so the one node that is ready makes a wave
pub rank-wave : (laws : CoreLaws) (s : Arriving) (visits : List Visits) (rank v : ℕ) → IsReadFor s.plan.now.net s.rows.now → IsDoneTo s.plan.now s.rows.now visits s.outputs.now rank → slice_get s.plan.now.order rank ≡ Some v → s.ready.now ≡ v ∷ [] → 1 ≤ s.block → IsWave s
rank-wave laws s visits rank v read d here one block =
    record {
      read = read;
      early = d.reached.early;
      all = λ k w e. all k w (ap (λ (l : List ℕ). slice_get l k) (sym one) ∙ e);
      block = block;
    }
  where
    all : (k w : ℕ) → slice_get (v ∷ []) k ≡ Some w → HasAll s.plan.now s.rows.now s.outputs.now w
    all zero w e = subst (HasAll s.plan.now s.rows.now s.outputs.now) (some_inj v w e) (comes laws s.plan.now s.rows.now visits s.outputs.now rank v d here read)
    all (suc k) w e = absurd cc

-- behind the last rank it is the run, which isn't refused
module _ (laws : CoreLaws) (plan : Plan) (rows : Rows) (read : IsReadFor plan.net rows) (visits : List Visits) (outputs : List (List Stream)) (rank : ℕ) (whole : length plan.order ≤ rank) (d : IsDoneTo plan rows visits outputs rank) where
  all-done : (q v : ℕ) → q < length plan.order → slice_get plan.order q ≡ Some v → slice_get d.stands v ≡ Some Done
  all-done q v l e = d.done q v (omega arith) e

  pub is-run : IsRunOf plan rows (record { visits = visits; outputs = outputs })
  is-run = run-done laws plan rows visits outputs d.stands d.reached (each-done laws plan rows read d.stands (reached-stands plan rows visits outputs d.stands d.reached) all-done)

  pub is-fine : refusal_of plan rows ≡ None
  is-fine = none-refused laws plan rows read d.stands (reached-stands plan rows visits outputs d.stands d.reached) all-done

-- each node has a rank
pub has-rank : (plan : Plan) (v : ℕ) (node : Node) → slice_get plan.net.nodes v ≡ Some node → (q : ℕ) × (q < length plan.order) × (slice_get plan.order q ≡ Some v)
has-rank plan v node e =
    let index = has-index plan.order v (plan.whole v (slice_get_within plan.net.nodes v node e)) in
    (index.0, slice_get_within plan.order index.0 v index.1, index.1)

-- Sums by rank: one node more.
pub sum-more : (f : ℕ → ℕ) (xs : List ℕ) (i x : ℕ) → slice_get xs i ≡ Some x → sum_by f (take (i + 1) xs) ≡ sum_by f (take i xs) + f x
sum-more f xs i x e = sum_by_more f xs i x (slice_get_within xs i x e) ∙ ap (λ y. sum_by f (take i xs) + f y) (get_or_from_slice_get xs i x x e)

-- no more than that of all
pub sum-within : (f : ℕ → ℕ) (xs : List ℕ) (i x : ℕ) → slice_get xs i ≡ Some x → sum_by f (take i xs) + f x ≤ sum_by f xs
sum-within f xs i x e = subst (λ n. n ≤ sum_by f xs) (sum-more f xs i x e) (sum_by-take-le f xs (i + 1))
