-- A run that is counted as it goes: what is told and kept so far, while nodes are put down and streams are let go.
use Rattle.std.proofs.Common.{◌≡◌, ◌≢◌, ℕ, ◌<◌, ◌⊎◌, inl, inr, All, true, false, List, [], ◌∷◌, ◌++◌, length, set, Some, refl, sym, ap, ◌∙◌, subst, arith}
use Rattle.std.specs.Prelude.{Contains, count_by, filter, slice_get}
use Rattle.std.specs.List.{AllByRecursion as Each}
use Rattle.std.proofs.lemmas.Bool.{and_parts, cases_eq}
use Rattle.std.proofs.lemmas.List.{length-set}
use Rattle.std.proofs.lemmas.Option.{get_or_from_slice_get, slice_get-get_or, slice_get_within}
use Rattle.mq_base.proofs.lemmas.Each.{Each-back, Each-front, Each-weaker}
use Rattle.mq_base.proofs.lemmas.Lists.{get-set_other, get-set_same, some_inj}
use Rattle.mq_core.specs.Sequences.{streams_below}
use Rattle.mq_core.specs.Sound.{outputs_in}
use Rattle.mq_core.specs.StandardTable.{run_of}
use Rattle.mq_core.specs.Theorems.{IsReadFor}
use Rattle.mq_core.specs.declared.model.Input.{Input}
use Rattle.mq_core.specs.declared.model.Node.{Node}
use Rattle.mq_core.specs.declared.model.Plan.{Plan}
use Rattle.mq_core.specs.declared.model.Rows.{Rows}
use Rattle.mq_core.specs.declared.model.Stream.{Stream}
use Rattle.mq_counts.specs.Counts.{IsCountAt}
use Rattle.mq_counts.specs.declared.counts.NodeCount.{NodeCount}
use Rattle.mq_stations.specs.Leaving.{IsEarlyStream}
use Rattle.mq_engine.specs.Counting.{AreKept, AreUntold, IsCounting, IsToldAmong, IsToldAt, IsToldEndPut, IsToldNode, IsToldPut, IsUnread, TellsOf}
use Rattle.mq_engine.specs.CoreLaws.{CoreLaws}
use Rattle.mq_engine.specs.Progress.{HasAll, is_done, is_ready, is_waiting, reads_done, stands_at}
use Rattle.mq_engine.specs.declared.progress.Stand.{Stand}
use Rattle.mq_engine.specs.declared.progress.Stand.TheVariants.{Waiting, Done, Crowded, Late}
use Rattle.mq_engine.specs.declared.told.ToldEnding.{ToldEnding}
use Rattle.mq_engine.specs.declared.told.ToldEnding.TheVariants.{Told, TooMany as ManyTold, TooLate as LateTold}
use Rattle.mq_engine.specs.declared.told.ToldNode.{ToldNode}
use Rattle.mq_engine.proofs.Lists.{filter-passes}
use Rattle.mq_engine.proofs.Endings.{HaveStands, StandsAt}
use Rattle.mq_engine.proofs.Settling.{IsFewer, set-fewer, waiting-inside}
use Rattle.mq_engine.proofs.Waves.{fed-all, ready-at, one-node}

-- where no node is told of and all wait, what is told is what the run has
pub counting-begins : (plan : Plan) (rows : Rows) (form : ℕ) (counts : List NodeCount) (outputs : List (List Stream)) (stands : List Stand) → length counts ≡ length plan.net.nodes → length outputs ≡ length plan.net.nodes → All (λ streams. streams ≡ []) outputs →
    length stands ≡ length plan.net.nodes → All (λ stand. is_waiting stand ≡ true) stands → IsCounting plan rows form counts outputs stands
counting-begins plan rows form counts outputs stands came left none stand waits =
    record {
      came = came;
      left = left;
      stand = stand;
      told = λ v node at there e. tells v node at (waits-at v at e);
      kept = λ v port node named input a b e g done. absurd (let no = waits-at input.node Done done in cc);
      early = λ u out streams stream a b.
          let empty : streams ≡ [] = sym (get_or_from_slice_get outputs u streams streams a) ∙ none u streams (slice_get_within outputs u streams a) in
          let inside = slice_get_within streams out stream b in
          let no = ap length empty in
          absurd (omega arith);
    }
  where
    waits-at : (v : ℕ) (at : Stand) → slice_get stands v ≡ Some at → is_waiting at ≡ true
    waits-at v at e = ap is_waiting (sym (get_or_from_slice_get stands v at at e)) ∙ waits v at (slice_get_within stands v at e)

    tells : (v : ℕ) (node : Node) (at : Stand) → is_waiting at ≡ true → TellsOf plan rows form counts v node at
    tells v node Waiting h = tt
    tells v node Done h = absurd cc
    tells v node (Crowded fault) h = absurd cc
    tells v node (Late fault) h = absurd cc

-- it has the stands of the run
pub counting-stands : (plan : Plan) (rows : Rows) (form : ℕ) (counts : List NodeCount) (outputs : List (List Stream)) (stands : List Stand) → IsCounting plan rows form counts outputs stands → HaveStands plan rows stands
counting-stands plan rows form counts outputs stands r = record { stand = r.stand; told = λ v node at there e. stands-told v node at (r.told v node at there e) }
  where
    stands-told : (v : ℕ) (node : Node) (at : Stand) → TellsOf plan rows form counts v node at → StandsAt plan rows v node at
    stands-told v node Waiting h = tt
    stands-told v node Done h = h.1
    stands-told v node (Crowded fault) h = h
    stands-told v node (Late fault) h = h

-- to a node that is ready all has come
pub counting-has : (laws : CoreLaws) (plan : Plan) (rows : Rows) (form : ℕ) (counts : List NodeCount) (outputs : List (List Stream)) (stands : List Stand) (v : ℕ) → IsReadFor plan.net rows → IsCounting plan rows form counts outputs stands → is_ready plan.net.nodes stands v ≡ true → HasAll plan rows outputs v
counting-has laws plan rows form counts outputs stands v read r ready =
    let at = ready-at plan stands v ready in
    fed-all laws plan rows outputs v read (subst (λ m. v < m) r.stand (slice_get_within stands v Waiting at.waits)) (λ node there. record {
      there = there;
      feeds = λ port input named e here.
          let done = at.reads node port input there e in
          (r.kept v port node named input there at.waits e here done, (r.told input.node named Done here done).1);
    })

-- what stands at another node, and what is set at one
module _ (plan : Plan) (stands : List Stand) (v : ℕ) (node : Node) (stand : Stand) (there : slice_get plan.net.nodes v ≡ Some node) (len : length stands ≡ length plan.net.nodes) where
  set-here : (w : ℕ) (at : Stand) → w ≡ v → slice_get (set stands v stand) w ≡ Some at → stand ≡ at
  set-here w at same g =
      let inside : v < length stands = subst (λ m. v < m) (sym len) (slice_get_within plan.net.nodes v node there) in
      some_inj _ _ (sym (get-set_same stands v stand inside) ∙ (ap (slice_get (set stands v stand)) (sym same) ∙ g))

  set-away : (w : ℕ) (at : Stand) → w ≢ v → slice_get (set stands v stand) w ≡ Some at → slice_get stands w ≡ Some at
  set-away w at apart g = sym (get-set_other stands v w stand apart) ∙ g

  -- a node that waits when it is set is another one, where what is set doesn't wait, and waited before
  waits-away : is_waiting stand ≡ false → (w : ℕ) → slice_get (set stands v stand) w ≡ Some Waiting → slice_get stands w ≡ Some Waiting
  waits-away quiet w g = go (cases_eq w v)
    where
      go : (w ≡ v) ⊎ (w ≢ v) → slice_get stands w ≡ Some Waiting
      go (inl same) = let is = ap is_waiting (set-here w Waiting same g) in absurd cc
      go (inr apart) = set-away w Waiting apart g

  -- the same of one that is done
  done-away : is_done stand ≡ false → (w : ℕ) → slice_get (set stands v stand) w ≡ Some Done → slice_get stands w ≡ Some Done
  done-away undone w g = go (cases_eq w v)
    where
      go : (w ≡ v) ⊎ (w ≢ v) → slice_get stands w ≡ Some Done
      go (inl same) = let is = ap is_done (set-here w Done same g) in absurd cc
      go (inr apart) = set-away w Done apart g

-- what is told of a node that was worked out
module _ (plan : Plan) (rows : Rows) (form : ℕ) (counts : List NodeCount) (outputs : List (List Stream)) (stands : List Stand) (v : ℕ) (node : Node) (there : slice_get plan.net.nodes v ≡ Some node) (r : IsCounting plan rows form counts outputs stands) where
  inside : v < length plan.net.nodes
  inside = slice_get_within plan.net.nodes v node there

  module _ (left : List Stream) (count : NodeCount) (k : IsToldAt plan rows form v node (Told left count)) where
    elsewhere : (w : ℕ) (other : Node) (at : Stand) → w ≢ v → TellsOf plan rows form counts w other at → TellsOf plan rows form (set counts v count) w other at
    elsewhere w other Waiting d h = tt
    elsewhere w other Done d h = (λ c e. h.0 c (sym (get-set_other counts v w count d) ∙ e), h.1)
    elsewhere w other (Crowded fault) d h = h
    elsewhere w other (Late fault) d h = h

    in_counts : v < length counts
    in_counts = subst (λ m. v < m) (sym r.came) inside

    in_outputs : v < length outputs
    in_outputs = subst (λ m. v < m) (sym r.left) inside

    told : (w : ℕ) (other : Node) (at : Stand) → slice_get plan.net.nodes w ≡ Some other → slice_get (set stands v Done) w ≡ Some at → (w ≡ v) ⊎ (w ≢ v) → TellsOf plan rows form (set counts v count) w other at
    told w other at e g (inl same) =
        subst (λ (p : ℕ × Node × Stand). TellsOf plan rows form (set counts v count) p.0 p.1 p.2)
        (λ i. (sym same i, one-node plan v w node other there same e i, set-here plan stands v node Done there r.stand w at same g i))
        (λ c h. subst (IsCountAt plan rows form v node) (some_inj count c (sym (get-set_same counts v count in_counts) ∙ h)) k.3, k.2)
    told w other at e g (inr apart) = elsewhere w other at apart (r.told w other at e (set-away plan stands v node Done there r.stand w at apart g))

    kept : AreKept plan rows (set outputs v left) (set stands v Done)
    kept w port reader named input a waits e b done = go (cases_eq input.node v)
      where
        waited : slice_get stands w ≡ Some Waiting
        waited = waits-away plan stands v node Done there r.stand refl w waits

        go : (input.node ≡ v) ⊎ (input.node ≢ v) → slice_get (set outputs v left) input.node ≡ Some (streams_below (run_of plan rows) input.node (outputs_in named.kind))
        go (inl same) =
            ap (slice_get (set outputs v left)) same ∙ (get-set_same outputs v left in_outputs
            ∙ (ap Some (k.0 (record { reader = w; port = port; node = reader; input = input; there = a; reads = e; same = same })) ∙ (λ i. Some (streams_below (run_of plan rows) (sym same i) (outputs_in (one-node plan v input.node node named there same b i).kind)))))
        go (inr apart) = get-set_other outputs v input.node left apart ∙ r.kept w port reader named input a waited e b (set-away plan stands v node Done there r.stand input.node Done apart done)

    early : (u out : ℕ) (streams : List Stream) (stream : Stream) → slice_get (set outputs v left) u ≡ Some streams → slice_get streams out ≡ Some stream → (u ≡ v) ⊎ (u ≢ v) → IsEarlyStream stream
    early u out streams stream a b (inl same) =
        let is-left : left ≡ streams = some_inj _ _ (sym (get-set_same outputs v left in_outputs) ∙ (ap (slice_get (set outputs v left)) (sym same) ∙ a)) in
        k.1 out stream (ap (λ (l : List Stream). slice_get l out) is-left ∙ b)
    early u out streams stream a b (inr apart) = r.early u out streams stream (sym (get-set_other outputs v u left apart) ∙ a) b

    on-time : IsCounting plan rows form (set counts v count) (set outputs v left) (set stands v Done)
    on-time = record {
      came = length-set counts v count ∙ r.came;
      left = length-set outputs v left ∙ r.left;
      stand = length-set stands v Done ∙ r.stand;
      told = λ w other at e g. told w other at e g (cases_eq w v);
      kept = kept;
      early = λ u out streams stream a b. early u out streams stream a b (cases_eq u v);
    }

  -- where a fault is put
  refused : (stand : Stand) → is_waiting stand ≡ false → is_done stand ≡ false → TellsOf plan rows form counts v node stand → IsCounting plan rows form counts outputs (set stands v stand)
  refused stand quiet undone k =
      record {
        came = r.came;
        left = r.left;
        stand = length-set stands v stand ∙ r.stand;
        told = λ w other at e g. at_fault w other at e g (cases_eq w v);
        kept = λ w port reader named input a waits e b done.
            r.kept w port reader named input a (waits-away plan stands v node stand there r.stand quiet w waits) e b (done-away plan stands v node stand there r.stand undone input.node done);
        early = r.early;
      }
    where
      at_fault : (w : ℕ) (other : Node) (at : Stand) → slice_get plan.net.nodes w ≡ Some other → slice_get (set stands v stand) w ≡ Some at → (w ≡ v) ⊎ (w ≢ v) → TellsOf plan rows form counts w other at
      at_fault w other at e g (inl same) =
          subst (λ (p : ℕ × Node × Stand). TellsOf plan rows form counts p.0 p.1 p.2)
          (λ i. (sym same i, one-node plan v w node other there same e i, set-here plan stands v node stand there r.stand w at same g i)) k
      at_fault w other at e g (inr apart) = r.told w other at e (set-away plan stands v node stand there r.stand w at apart g)

-- a node that is put down keeps what is told
put-told : (plan : Plan) (rows : Rows) (form v : ℕ) (node : Node) (ending : ToldEnding) (counts counts' : List NodeCount) (outputs outputs' : List (List Stream)) (stands stands' : List Stand) → slice_get plan.net.nodes v ≡ Some node → IsCounting plan rows form counts outputs stands → IsToldAt plan rows form v node ending →
    IsToldEndPut v ending counts outputs stands counts' outputs' stands' → IsCounting plan rows form counts' outputs' stands'
put-told plan rows form v node (Told left count) counts counts' outputs outputs' stands stands' there r k h =
    subst (λ (p : List NodeCount × List (List Stream) × List Stand). IsCounting plan rows form p.0 p.1 p.2) (λ i. (sym h.0 i, sym h.1 i, sym h.2 i)) (on-time plan rows form counts outputs stands v node there r left count k)
put-told plan rows form v node (ManyTold fault) counts counts' outputs outputs' stands stands' there r k h =
    subst (λ (p : List NodeCount × List (List Stream) × List Stand). IsCounting plan rows form p.0 p.1 p.2) (λ i. (sym h.0 i, sym h.1 i, sym h.2 i)) (refused plan rows form counts outputs stands v node there r (Crowded fault) refl refl k)
put-told plan rows form v node (LateTold fault) counts counts' outputs outputs' stands stands' there r k h =
    subst (λ (p : List NodeCount × List (List Stream) × List Stand). IsCounting plan rows form p.0 p.1 p.2) (λ i. (sym h.0 i, sym h.1 i, sym h.2 i)) (refused plan rows form counts outputs stands v node there r (Late fault) refl refl k)

told-fewer : (v : ℕ) (ending : ToldEnding) (counts counts' : List NodeCount) (outputs outputs' : List (List Stream)) (stands stands' : List Stand) → v < length stands → IsToldEndPut v ending counts outputs stands counts' outputs' stands' → IsFewer stands stands' v
told-fewer v (Told streams count) counts counts' outputs outputs' stands stands' l h = set-fewer stands stands' v Done l refl h.2
told-fewer v (ManyTold fault) counts counts' outputs outputs' stands stands' l h = set-fewer stands stands' v (Crowded fault) l refl h.2
told-fewer v (LateTold fault) counts counts' outputs outputs' stands stands' l h = set-fewer stands stands' v (Late fault) l refl h.2

told-lengths : (v : ℕ) (ending : ToldEnding) (counts counts' : List NodeCount) (outputs outputs' : List (List Stream)) (stands stands' : List Stand) → IsToldEndPut v ending counts outputs stands counts' outputs' stands' → (length counts' ≡ length counts) × (length outputs' ≡ length outputs)
told-lengths v (Told streams count) counts counts' outputs outputs' stands stands' h = (ap length h.0 ∙ length-set counts v count, ap length h.1 ∙ length-set outputs v streams)
told-lengths v (ManyTold fault) counts counts' outputs outputs' stands stands' h = (ap length h.0, ap length h.1)
told-lengths v (LateTold fault) counts counts' outputs outputs' stands stands' h = (ap length h.0, ap length h.1)

-- what is kept while nodes are put down: those left, of all of them
pub record IsPutting (counts0 : List NodeCount) (outputs0 : List (List Stream)) (stands0 : List Stand) (told0 : List ToldNode) (counts : List NodeCount) (outputs : List (List Stream)) (stands : List Stand) (told : List ToldNode) : Type 0 where
  pub stand : length stands ≡ length stands0
  pub came : length counts ≡ length stands0
  pub left : length outputs ≡ length stands0
  pub waits : AreUntold stands0 told
  pub counting : (plan : Plan) (rows : Rows) (form : ℕ) → IsCounting plan rows form counts0 outputs0 stands0 → Each (IsToldNode plan rows form) told0 → IsCounting plan rows form counts outputs stands × Each (IsToldNode plan rows form) told
  pub fewer : ((stands ≡ stands0) × (told ≡ told0)) ⊎ (count_by is_waiting stands < count_by is_waiting stands0)

module _ (counts0 counts : List NodeCount) (outputs0 outputs : List (List Stream)) (stands0 stands : List Stand) (told0 told rest : List ToldNode) (one : ToldNode) (s : IsPutting counts0 outputs0 stands0 told0 counts outputs stands told) (e : told ≡ rest ++ one ∷ []) where
  waits : AreUntold stands0 (rest ++ one ∷ [])
  waits = subst (AreUntold stands0) e s.waits

  here : stands_at is_waiting (slice_get stands0 one.number) ≡ true
  here = (Each-back _ rest (one ∷ []) waits).0

  -- the last of them is a node that is there
  pub putting-inside : (one.number < length counts) × (one.number < length outputs) × (one.number < length stands)
  putting-inside =
      let inside = waiting-inside stands0 one.number here in
      let below = λ (n : ℕ) (same : n ≡ length stands0). subst (λ m. one.number < m) (sym same) inside in
      (below (length counts) s.came, below (length outputs) s.left, below (length stands) s.stand)

  pub putting-more : (counts' : List NodeCount) (outputs' : List (List Stream)) (stands' : List Stand) → IsToldPut one counts outputs stands counts' outputs' stands' → IsPutting counts0 outputs0 stands0 told0 counts' outputs' stands' rest
  putting-more counts' outputs' stands' put =
      record {
        stand = gone.same ∙ s.stand;
        came = lengths.0 ∙ s.came;
        left = lengths.1 ∙ s.left;
        waits = Each-front _ rest (one ∷ []) waits;
        counting = λ plan rows form r w.
            let now = s.counting plan rows form r w in
            let known = subst (Each (IsToldNode plan rows form)) e now.1 in
            let own = (Each-back _ rest (one ∷ []) known).0 in (
              put-told plan rows form one.number own.0 one.ending counts counts' outputs outputs' stands stands' own.1 now.0 own.2 put,
              Each-front _ rest (one ∷ []) known,
            );
        fewer = inr (fewer s.fewer);
      }
    where
      gone : IsFewer stands stands' one.number
      gone = told-fewer one.number one.ending counts counts' outputs outputs' stands stands' putting-inside.2 put

      lengths : (length counts' ≡ length counts) × (length outputs' ≡ length outputs)
      lengths = told-lengths one.number one.ending counts counts' outputs outputs' stands stands' put

      fewer : ((stands ≡ stands0) × (told ≡ told0)) ⊎ (count_by is_waiting stands < count_by is_waiting stands0) → count_by is_waiting stands' < count_by is_waiting stands0
      fewer (inl same) =
          let less = gone.less (ap (λ (l : List Stand). stands_at is_waiting (slice_get l one.number)) same.0 ∙ here) in
          let equal : count_by is_waiting stands ≡ count_by is_waiting stands0 = ap (count_by is_waiting) same.0 in
          omega arith
      fewer (inr less) = let most = gone.most in omega arith

-- those that are ready wait
pub told-wait : (plan : Plan) (rows : Rows) (form : ℕ) (stands : List Stand) (ready : List ℕ) (told : List ToldNode) → ready ≡ filter (is_ready plan.net.nodes stands) plan.order → Each (IsToldAmong plan rows form ready) told → AreUntold stands told
told-wait plan rows form stands ready told e = Each-weaker (IsToldAmong plan rows form ready) _ (λ one h.
    let passes = filter-passes (is_ready plan.net.nodes stands) plan.order h.0.0 one.number (ap (λ (l : List ℕ). slice_get l h.0.0) (sym e) ∙ (slice_get-get_or ready h.0.0 one.number h.0.1 ∙ ap Some h.0.2)) in
    (and_parts _ (reads_done stands (slice_get plan.net.nodes one.number)) passes).0) told

pub told-nodes : (plan : Plan) (rows : Rows) (form : ℕ) (ready : List ℕ) (told : List ToldNode) → Each (IsToldAmong plan rows form ready) told → Each (IsToldNode plan rows form) told
told-nodes plan rows form ready told = Each-weaker (IsToldAmong plan rows form ready) _ (λ one h. h.1) told

-- nodes among these are among those
pub told-among : (plan : Plan) (rows : Rows) (form : ℕ) (some all : List ℕ) (told : List ToldNode) → ((v : ℕ) → Contains some v → Contains all v) → Each (IsToldAmong plan rows form some) told → Each (IsToldAmong plan rows form all) told
told-among plan rows form some all told among = Each-weaker (IsToldAmong plan rows form some) _ (λ one h. (among one.number h.0, h.1)) told

-- Streams that no node that waits reads are let go.
pub gone-keeps : (plan : Plan) (rows : Rows) (form : ℕ) (counts : List NodeCount) (outputs outputs' : List (List Stream)) (stands : List Stand) (u : ℕ) → u < length outputs → IsUnread plan.net.nodes stands u → outputs' ≡ set outputs u [] → IsCounting plan rows form counts outputs stands → IsCounting plan rows form counts outputs' stands
gone-keeps plan rows form counts outputs outputs' stands u l unread e r = subst (λ o. IsCounting plan rows form counts o stands) (sym e) (record {
  came = r.came;
  left = length-set outputs u [] ∙ r.left;
  stand = r.stand;
  told = r.told;
  kept = λ v port node named input a waits b g done. kept v port node named input a waits b g done (cases_eq input.node u);
  early = λ v out streams stream a b. early v out streams stream a b (cases_eq v u);
})
  where
    kept : (v port : ℕ) (node named : Node) (input : Input) → slice_get plan.net.nodes v ≡ Some node → slice_get stands v ≡ Some Waiting → slice_get node.inputs port ≡ Some input →
        slice_get plan.net.nodes input.node ≡ Some named → slice_get stands input.node ≡ Some Done → (input.node ≡ u) ⊎ (input.node ≢ u) →
        slice_get (set outputs u []) input.node ≡ Some (streams_below (run_of plan rows) input.node (outputs_in named.kind))
    kept v port node named input a waits b g done (inl same) = absurd (unread v port node input a waits b same)
    kept v port node named input a waits b g done (inr apart) = get-set_other outputs u input.node [] apart ∙ r.kept v port node named input a waits b g done

    early : (v out : ℕ) (streams : List Stream) (stream : Stream) → slice_get (set outputs u []) v ≡ Some streams → slice_get streams out ≡ Some stream → (v ≡ u) ⊎ (v ≢ u) → IsEarlyStream stream
    early v out streams stream a b (inl same) =
        let none : [] ≡ streams = some_inj _ _ (sym (get-set_same outputs u [] l) ∙ (ap (slice_get (set outputs u [])) (sym same) ∙ a)) in
        let inside = slice_get_within streams out stream b in
        let no = ap length none in
        absurd (omega arith)
    early v out streams stream a b (inr apart) = r.early v out streams stream (sym (get-set_other outputs u v [] apart) ∙ a) b
