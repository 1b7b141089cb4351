-- What comes to a node by its ports, one after another, and the blocks of which it is put in order.
use Rattle.std.proofs.Common.{◌≡◌, ℕ, ◌+◌, ◌^◌, ◌<◌, ◌≤◌, Bool, true, false, cond, List, [], ◌++◌, length, get_or, map, take, Some, sym, refl, ap, ◌∙◌, subst, arith, length-append}
use Rattle.std.specs.Prelude.{◌&&◌, Contains, nat_lt, not, slice_get}
use Rattle.std.specs.List.{AllByRecursion as Each, flat_map, zip}
use Rattle.std.proofs.lemmas.List.{append-nil}
use Rattle.std.proofs.lemmas.Bool.Decides.{nat_tests}
use Rattle.std.proofs.lemmas.Option.{slice_get-get_or}
use Rattle.mq_base.proofs.lemmas.Each.{Each-weaker}
use Rattle.mq_base.proofs.lemmas.FlatMaps.{flat_map-less, flat_map-more}
use Rattle.mq_base.proofs.lemmas.Lists.{some_inj, take-all}
use Rattle.mq_base.proofs.lemmas.Zips.{zip-append, zip-first}
use Rattle.mq_base.specs.Lists.{between}
use Rattle.mq_core.proofs.lemmas.Orders.{in_order_of-length}
use Rattle.mq_core.proofs.lemmas.Rising.{Rises-in_order_of, in_order_of-append_left}
use Rattle.mq_core.specs.Laws.{Rises}
use Rattle.mq_core.specs.PlanLaws.{NodesAreInLimits}
use Rattle.mq_core.specs.Sequences.{IsStream, rows_at}
use Rattle.mq_core.specs.Streams.{by_first, pairs_of}
use Rattle.mq_core.specs.Wiring.{is_source_kind}
use Rattle.mq_core.specs.declared.model.Input.{Input}
use Rattle.mq_core.specs.declared.model.Node.{Node}
use Rattle.mq_core.specs.declared.model.Rows.{Rows}
use Rattle.mq_core.specs.declared.model.Stream.{Stream}
use Rattle.mq_crew.specs.Crew.{AreAll, total_size}
use Rattle.mq_crew.proofs.lemmas.Groups.{ArePassing}
use Rattle.mq_crew.proofs.lemmas.Sizes.{total-most}
use Rattle.mq_scan.specs.declared.blocks.Blocks.{Blocks}
use Rattle.mq_scan.proofs.lemmas.Blocks.{behind-begin, behind-end, behind-more, blocks-few, end_of}
use Rattle.mq_merge.proofs.Merging.{Rises-times, by_first-rises, length-pairs}
use Rattle.mq_merge.specs.Borrowed.{stream_in}
use Rattle.mq_merge.specs.declared.arrivals.Arrivals.{Arrivals}
use Rattle.mq_arrivals.specs.Arrivals.{CanCome, HasArrived, IsArriving, Pairs, arriving, pairs_read}
use Rattle.mq_arrivals.specs.Merges.{ArePairsOf, HasCome, IsBlockOf, IsComing, IsPair, IsReadyOrigin, IsSortedPiece, arriving_by, has_port, pairs_from, pieces_of}
use Rattle.mq_arrivals.specs.declared.merges.Coming.{Coming}
use Rattle.mq_arrivals.specs.declared.merges.Origin.{Origin}
use Rattle.mq_arrivals.specs.declared.merges.Origin.TheVariants.{Ended, Ports, Unsorted}
use Rattle.mq_arrivals.specs.declared.nodes.Arrived.{Arrived}
use Rattle.mq_arrivals.specs.declared.nodes.Arriving.{Arriving}

-- Pairs in order of time.
by_first-length : (ps : Pairs) → length (by_first ps) ≡ length ps
by_first-length ps = in_order_of-length (λ (p : ℕ × ℕ). p.0) ps

pub by_first-twice : (ps : Pairs) → by_first (by_first ps) ≡ by_first ps
by_first-twice ps =
    ap by_first (sym (append-nil (by_first ps)))
    ∙ (in_order_of-append_left (λ (p : ℕ × ℕ). p.0) ps [] ∙ ap by_first (append-nil ps))

-- a stream whose items are in order
pub in-order : (pairs : Pairs) (stream : Stream) → length stream.job ≡ length stream.time → pairs_of stream ≡ by_first pairs → ArePairsOf pairs stream
in-order pairs stream even e =
    let times : map (λ (p : ℕ × ℕ). p.0) (by_first pairs) ≡ stream.time = ap (map (λ (p : ℕ × ℕ). p.0)) (sym e) ∙ zip-first stream.time stream.job even in
    record {
      ordered = record {
        even = even;
        rising = subst (Rises (λ a b. a ≤ b)) times (Rises-times (by_first pairs) (Rises-in_order_of (λ (p : ℕ × ℕ). p.0) pairs));
      };
      items = e;
    }

-- The blocks of a stream so far, one behind the other.
pub record AreBehind (pairs : Pairs) (blocks : Blocks) (b : ℕ) (times jobs : List ℕ) : Type 0 where
  pub even : length jobs ≡ length times
  pub items : zip times jobs ≡ between 0 (end_of blocks b) (by_first pairs)

pub stream-begins : (pairs : Pairs) (blocks : Blocks) → AreBehind pairs blocks 0 [] []
stream-begins pairs blocks = record { even = refl; items = behind-begin (by_first pairs) blocks }

pub stream-more : (pairs : Pairs) (blocks : Blocks) (b : ℕ) (times jobs times' jobs' : List ℕ) (block : Stream) → b < blocks.blocks → IsBlockOf pairs blocks b block → times' ≡ times ++ block.time → jobs' ≡ jobs ++ block.job → AreBehind pairs blocks b times jobs → AreBehind pairs blocks (b + 1) times' jobs'
stream-more pairs blocks b times jobs times' jobs' block l own t j was =
    record {
      even =
          let a = length-append jobs block.job in
          let c = length-append times block.time in
          let d = ap length t in
          let e = ap length j in
          let f = was.even in
          let g = own.0.even in
          omega arith;
      items =
          (λ k. zip (t k) (j k))
          ∙ (zip-append times block.time jobs block.job was.even ∙ behind-more (by_first pairs) blocks b (zip times jobs) (pairs_of block) l own.1 was.items);
    }

pub stream-ends : (pairs : Pairs) (blocks : Blocks) (b : ℕ) (stream : Stream) → blocks.blocks ≤ b → blocks.n ≡ length pairs → AreBehind pairs blocks b stream.time stream.job → ArePairsOf pairs stream
stream-ends pairs blocks b stream l n was = in-order pairs stream was.even (behind-end (by_first pairs) blocks b (pairs_of stream) l (n ∙ sym (by_first-length pairs)) was.items)

-- a single block is all
pub single-block : (pairs : Pairs) (blocks : Blocks) (stream : Stream) → blocks.blocks ≡ 1 → blocks.n ≡ length pairs → IsBlockOf pairs blocks 0 stream → ArePairsOf pairs stream
single-block pairs blocks stream one n own =
    stream-ends pairs blocks 1 stream (omega arith) n (stream-more pairs blocks 0 [] [] stream.time stream.job stream (omega arith) own refl refl (stream-begins pairs blocks))

-- Ports.
read-more : (outputs : List (List Stream)) (inputs : List Input) (p : ℕ) (input : Input) → slice_get inputs p ≡ Some input → flat_map (pairs_read outputs) (take (p + 1) inputs) ≡ flat_map (pairs_read outputs) (take p inputs) ++ pairs_read outputs input
read-more outputs inputs p input there = flat_map-more (pairs_read outputs) inputs p input there

-- what comes by the first ports is no more than all that comes
arriving-less : (rows : Rows) (v : ℕ) (node : Node) (outputs : List (List Stream)) (ports : ℕ) → length (arriving_by rows v node outputs ports) ≤ length (arriving rows v node outputs)
arriving-less rows v node outputs ports = go (is_source_kind node.kind)
  where
    go : (b : Bool) → length (cond b (rows_at v 0 rows.source rows.time) (flat_map (pairs_read outputs) (take ports node.inputs))) ≤ length (cond b (rows_at v 0 rows.source rows.time) (flat_map (pairs_read outputs) node.inputs))
    go true = omega arith
    go false = flat_map-less (pairs_read outputs) node.inputs ports

pub can-at : (s : Arriving) (v : ℕ) → IsArriving s → Contains s.ready.now v → CanCome s v
can-at s v h ready = h.can ready.0 v (slice_get-get_or s.ready.now ready.0 v ready.1 ∙ ap Some ready.2)

pub arriving-few : (s : Arriving) (v : ℕ) (node : Node) (ports : ℕ) → IsArriving s → Contains s.ready.now v → slice_get s.plan.now.net.nodes v ≡ Some node → length (arriving_by s.rows.now v node s.outputs.now ports) ≤ 1048576
arriving-few s v node ports h ready there =
    let few = (can-at s v h ready).few node there in
    let less = arriving-less s.rows.now v node s.outputs.now ports in
    omega arith

-- what comes to a node by its first ports
pub coming-is : (s : Arriving) (ports v : ℕ) (node : Node) (origin : Origin) → IsArriving s → Contains s.ready.now v → slice_get s.plan.now.net.nodes v ≡ Some node → IsReadyOrigin origin →
    by_first (pairs_from v origin) ≡ by_first (arriving_by s.rows.now v node s.outputs.now ports) → IsComing s ports (record { number = v; origin = origin })
coming-is s ports v node origin h ready there fit e =
    record {
      ready = ready;
      origin = fit;
      few =
          let few = arriving-few s v node ports h ready there in
          let same = ap length e in
          let a = by_first-length (pairs_from v origin) in
          let b = by_first-length (arriving_by s.rows.now v node s.outputs.now ports) in
          omega arith;
      items = λ other at. e ∙ ap (λ (n : Node). by_first (arriving_by s.rows.now v n s.outputs.now ports)) (some_inj node other (sym there ∙ at));
    }

arriving-source : (rows : Rows) (v : ℕ) (node : Node) (outputs : List (List Stream)) (ports : ℕ) → is_source_kind node.kind ≡ true → arriving_by rows v node outputs ports ≡ rows_at v 0 rows.source rows.time
arriving-source rows v node outputs ports e = ap (λ b. cond b (rows_at v 0 rows.source rows.time) (flat_map (pairs_read outputs) (take ports node.inputs))) e

arriving-other : (rows : Rows) (v : ℕ) (node : Node) (outputs : List (List Stream)) (ports : ℕ) → is_source_kind node.kind ≡ false → arriving_by rows v node outputs ports ≡ flat_map (pairs_read outputs) (take ports node.inputs)
arriving-other rows v node outputs ports e = ap (λ b. cond b (rows_at v 0 rows.source rows.time) (flat_map (pairs_read outputs) (take ports node.inputs))) e

pub opens-source : (s : Arriving) (v : ℕ) (node : Node) → is_source_kind node.kind ≡ true → by_first (rows_at v 0 s.rows.now.source s.rows.now.time) ≡ by_first (arriving_by s.rows.now v node s.outputs.now 2)
opens-source s v node e = ap by_first (sym (arriving-source s.rows.now v node s.outputs.now 2 e))

-- what its first port reads has come to a node
pub opens-port : (s : Arriving) (v : ℕ) (node : Node) (stream : Stream) → is_source_kind node.kind ≡ false → IsStream stream → pairs_of stream ≡ flat_map (pairs_read s.outputs.now) (take 1 node.inputs) → pairs_of stream ≡ by_first (arriving_by s.rows.now v node s.outputs.now 1)
opens-port s v node stream e ordered items =
    sym (by_first-rises stream.time stream.job ordered.rising) ∙ ap by_first (items ∙ sym (arriving-other s.rows.now v node s.outputs.now 1 e))

-- what has come to a node of these is the same by any name of the node
pub has-come-at : (s : Arriving) (v ports : ℕ) (node : Node) (stream : Stream) → Contains s.ready.now v → slice_get s.plan.now.net.nodes v ≡ Some node → IsStream stream → pairs_of stream ≡ by_first (arriving_by s.rows.now v node s.outputs.now ports) → HasCome s v ports stream
has-come-at s v ports node stream ready there ordered e =
    record {
      ready = ready;
      ordered = ordered;
      items = λ other at. e ∙ ap (λ (n : Node). by_first (arriving_by s.rows.now v n s.outputs.now ports)) (some_inj node other (sym there ∙ at));
    }

-- where there is no such port
pub no-port : (rows : Rows) (v : ℕ) (node : Node) (outputs : List (List Stream)) (port : ℕ) → has_port node port ≡ false → arriving_by rows v node outputs port ≡ arriving_by rows v node outputs (port + 1)
no-port rows v node outputs port = go (is_source_kind node.kind)
  where
    go : (b : Bool) → (not b && nat_lt port (length node.inputs)) ≡ false → cond b (rows_at v 0 rows.source rows.time) (flat_map (pairs_read outputs) (take port node.inputs)) ≡ cond b (rows_at v 0 rows.source rows.time) (flat_map (pairs_read outputs) (take (port + 1) node.inputs))
    go true h = refl
    go false h =
        let ended : length node.inputs ≤ port = grind (arith, nat_tests) in
        ap (flat_map (pairs_read outputs)) (take-all node.inputs port ended ∙ sym (take-all node.inputs (port + 1) (omega arith)))

-- two streams together are no more
pub both-few : (pairs : Pairs) (one other : Stream) → IsStream one → IsStream other → by_first (pairs_of one ++ pairs_of other) ≡ by_first pairs → length pairs ≤ 1048576 → length one.time + length other.time ≤ 1048576
both-few pairs one other so st e few =
    let a = length-pairs one so.even in
    let b = length-pairs other st.even in
    let c = length-append (pairs_of one) (pairs_of other) in
    let d = ap length e in
    let f = by_first-length (pairs_of one ++ pairs_of other) in
    let g = by_first-length pairs in
    omega arith

-- one port more, where there is one
pub further-port : (rows : Rows) (v : ℕ) (node : Node) (outputs : List (List Stream)) (port : ℕ) (input : Input) (before next : Stream) → is_source_kind node.kind ≡ false → slice_get node.inputs port ≡ Some input → pairs_of before ≡ by_first (arriving_by rows v node outputs port) → pairs_of next ≡ pairs_read outputs input →
    by_first (pairs_of before ++ pairs_of next) ≡ by_first (arriving_by rows v node outputs (port + 1))
further-port rows v node outputs port input before next e there a b =
    let front = flat_map (pairs_read outputs) (take port node.inputs) in
    (λ k. by_first ((a ∙ ap by_first (arriving-other rows v node outputs port e)) k ++ b k))
    ∙ (in_order_of-append_left (λ (p : ℕ × ℕ). p.0) front (pairs_read outputs input)
    ∙ ap by_first (sym (read-more outputs node.inputs port input there) ∙ sym (arriving-other rows v node outputs (port + 1) e)))

pub ended-port : (rows : Rows) (v : ℕ) (node : Node) (outputs : List (List Stream)) (port : ℕ) (before : Stream) → has_port node port ≡ false → pairs_of before ≡ by_first (arriving_by rows v node outputs port) → by_first (pairs_of before) ≡ by_first (arriving_by rows v node outputs (port + 1))
ended-port rows v node outputs port before h e = ap by_first e ∙ (by_first-twice (arriving_by rows v node outputs port) ∙ ap by_first (no-port rows v node outputs port h))

-- all ports
all-ports : (rows : Rows) (v : ℕ) (node : Node) (outputs : List (List Stream)) (ports : ℕ) → length node.inputs ≤ ports → arriving_by rows v node outputs ports ≡ arriving rows v node outputs
all-ports rows v node outputs ports few = go (is_source_kind node.kind)
  where
    go : (b : Bool) → cond b (rows_at v 0 rows.source rows.time) (flat_map (pairs_read outputs) (take ports node.inputs)) ≡ cond b (rows_at v 0 rows.source rows.time) (flat_map (pairs_read outputs) node.inputs)
    go true = refl
    go false = ap (flat_map (pairs_read outputs)) (take-all node.inputs ports few)

pub has-come : (s : Arriving) (ports : ℕ) (coming : Coming) (stream : Stream) → IsComing s ports coming → ArePairsOf (pairs_from coming.number coming.origin) stream → HasCome s coming.number ports stream
has-come s ports coming stream h p = record { ready = h.ready; ordered = p.ordered; items = λ node there. p.items ∙ h.items node there }

-- a node to which all has come by eight ports
pub all-come : NodesAreInLimits → (s : Arriving) (v : ℕ) (arrivals : Arrivals) → HasCome s v 8 (stream_in arrivals) → HasArrived s (record { number = v; arrivals = arrivals })
all-come limits s v arrivals come =
    record {
      ready = come.ready;
      ordered = come.ordered;
      items = λ node there. come.items node there ∙ ap by_first (all-ports s.rows.now v node s.outputs.now 8 (limits s.plan.now v node there).ports);
    }

-- a port that a node has
pub port-there : (node : Node) (port : ℕ) → has_port node port ≡ true → (is_source_kind node.kind ≡ false) × (port < length node.inputs)
port-there node port = go (is_source_kind node.kind) refl
  where
    go : (b : Bool) → is_source_kind node.kind ≡ b → (not b && nat_lt port (length node.inputs)) ≡ true → (is_source_kind node.kind ≡ false) × (port < length node.inputs)
    go true e h = absurd cc
    go false e h = (e, grind (arith, nat_tests))

-- The pieces of an origin, put together: the rows of a source, blocks, or all that came.
abbrev pub AreRows : Origin → Type 0
AreRows (Unsorted rows) = Unit {0}
AreRows _ = ⊥

abbrev pub AreCut : Blocks → Origin → Type 0
AreCut blocks (Ports before next own) = own ≡ blocks
AreCut _ _ = ⊥

abbrev pub HaveAllCome : Arrivals → Origin → Type 0
HaveAllCome arrivals (Ended own) = own ≡ arrivals
HaveAllCome _ _ = ⊥

pub rows-alone : (v : ℕ) (origin : Origin) (group : List Stream) → AreRows origin → AreAll (IsSortedPiece v origin) (pieces_of origin) group → length group ≡ 1
rows-alone v (Unsorted rows) group h all = all.len
rows-alone v _ group h all = absurd h

pub of-rows : (v : ℕ) (origin : Origin) (group : List Stream) (stream : Stream) → AreRows origin → AreAll (IsSortedPiece v origin) (pieces_of origin) group → ((d : Stream) → get_or group 0 d ≡ stream) → ArePairsOf (pairs_from v origin) stream
of-rows v (Unsorted rows) group stream h all alone = subst (ArePairsOf (rows_at v 0 rows.now.source rows.now.time)) (alone stream) (all.each 0 stream (omega arith))
of-rows v _ group stream h all alone = absurd h

pub blocks-all-there : (v : ℕ) (origin : Origin) (blocks : Blocks) (group : List Stream) → AreCut blocks origin → AreAll (IsSortedPiece v origin) (pieces_of origin) group → length group ≡ blocks.blocks
blocks-all-there v (Ports before next own) blocks group h all = all.len ∙ ap (λ (b : Blocks). b.blocks) h
blocks-all-there v _ blocks group h all = absurd h

abbrev pub Joins : Blocks → List Stream → Stream → Type 0
Joins blocks group stream = (pairs : Pairs) → blocks.n ≡ length pairs → AreAll (IsBlockOf pairs blocks) blocks.blocks group → ArePairsOf pairs stream

pair-length : (one other : Stream) (blocks : Blocks) → IsPair one other blocks → blocks.n ≡ length (pairs_of one ++ pairs_of other)
pair-length one other blocks h =
    let a = length-pairs one h.first.even in
    let b = length-pairs other h.second.even in
    let both = length-append (pairs_of one) (pairs_of other) in
    let n = h.all in
    omega arith

pub of-blocks : (v : ℕ) (origin : Origin) (blocks : Blocks) (group : List Stream) (stream : Stream) → AreCut blocks origin → IsReadyOrigin origin → AreAll (IsSortedPiece v origin) (pieces_of origin) group → Joins blocks group stream → ArePairsOf (pairs_from v origin) stream
of-blocks v (Ports before next own) blocks group stream h fit all joins =
    let joined : Joins own group stream = subst (λ (b : Blocks). Joins b group stream) (sym h) joins in
    joined (pairs_of (stream_in before) ++ pairs_of next.now) (pair-length (stream_in before) next.now own fit) all
of-blocks v _ blocks group stream h fit all joins = absurd h

pub of-all : (v : ℕ) (origin : Origin) (arrivals : Arrivals) → HaveAllCome arrivals origin → IsReadyOrigin origin → ArePairsOf (pairs_from v origin) (stream_in arrivals)
of-all v (Ended own) arrivals h fit =
    subst (λ (a : Arrivals). ArePairsOf (pairs_of (stream_in own)) (stream_in a)) h (record { ordered = fit; items = sym (by_first-rises (stream_in own).time (stream_in own).job fit.rising) })
of-all v _ arrivals h fit = absurd h

-- the nodes of a wave, tier by tier
abbrev pub coming_size : Coming → ℕ
coming_size coming = pieces_of coming.origin

abbrev pub coming_piece : Coming → ℕ → Stream → Type 0
coming_piece coming b stream = IsSortedPiece coming.number coming.origin b stream

abbrev pub IsComingBy : Arriving × ℕ → Coming → Type 0
IsComingBy k coming = IsComing k.0 k.1 coming

abbrev pub HasComeBy : Arriving × ℕ → Arrived → Type 0
HasComeBy k arrived = HasCome k.0 arrived.number k.1 (stream_in arrived.arrivals)

abbrev pub AreMerging : List Coming → List Coming → List (List Stream) → List Arrived → Type 0
AreMerging = ArePassing coming_size coming_piece (λ coming. IsReadyOrigin coming.origin) (λ arrived. Unit {0}) IsComingBy HasComeBy

pub comings-few : (s : Arriving) (ports : ℕ) (comings : List Coming) → length comings ≤ 64 → Each (IsComing s ports) comings → total_size coming_size comings < 2 ^ 32
comings-few s ports comings few each =
    let most = total-most 1048576 coming_size comings (Each-weaker (IsComing s ports) _ (λ c h. one c.number c.origin h.origin h.few) comings each) in
    omega arith
  where
    pair-few : (a b : Stream) (blocks : Blocks) → IsPair a b blocks → length (pairs_of a ++ pairs_of b) ≤ 1048576 → blocks.blocks ≤ 1048576
    pair-few a b blocks h few =
        let most = blocks-few blocks in
        let n = h.all in
        let one = length-pairs a h.first.even in
        let other = length-pairs b h.second.even in
        let both = length-append (pairs_of a) (pairs_of b) in
        omega arith

    one : (v : ℕ) (origin : Origin) → IsReadyOrigin origin → length (pairs_from v origin) ≤ 1048576 → pieces_of origin ≤ 1048576
    one v (Unsorted rows) h few = omega arith
    one v (Ports a b blocks) h few = pair-few (stream_in a) b.now blocks h few
    one v (Ended arrivals) h few = omega arith
