-- A station of a known kind: what came to it, and what leaves it.
use Rattle.std.proofs.Common.{◌≡◌, ℕ, List, [], inl, inr, length, map, refl, sym, ◌∙◌, subst, arith}
use Rattle.std.proofs.lemmas.Bool.{and_parts}
use Rattle.std.proofs.lemmas.Bool.Decides.{nat_tests}
use Rattle.std.proofs.lemmas.List.{length-map}
use Rattle.std.specs.Prelude.{◌≤◌, IsTrue, nat_le}
use Rattle.mq_core.specs.Came.{came_in}
use Rattle.mq_core.specs.Handling.{demand_of_job}
use Rattle.mq_core.specs.Kinds.Split.{route_value}
use Rattle.mq_core.specs.Ranges.{is_sound_demand, is_within}
use Rattle.mq_core.specs.Recurrences.{loss_fates}
use Rattle.mq_core.specs.Sound.{is_sound_kind}
use Rattle.mq_core.specs.declared.model.Demand.{Demand}
use Rattle.mq_core.specs.declared.model.Kind.{Kind}
use Rattle.mq_core.specs.declared.model.Kind.TheVariants.{Fork, Loss, Split as TheSplit, Trunk}
use Rattle.mq_core.specs.declared.model.Route.{Route}
use Rattle.mq_core.specs.declared.model.Rows.{Rows}
use Rattle.mq_core.specs.declared.model.Stream.{Stream}
use Rattle.mq_core.proofs.lemmas.Over.{loss-over}
use Rattle.mq_crew.specs.Crew.{AreAll}
use Rattle.mq_join.specs.Copies.{AreForked}
use Rattle.mq_loss.specs.Rounds.{IsSettled}
use Rattle.mq_rounds.specs.Rounds.{fates_by}
use Rattle.mq_rounds.proofs.lemmas.Fates.{fates-back}
use Rattle.mq_rounds.specs.declared.settled.Settled.{Settled}
use Rattle.mq_split.specs.Outs.{AreParts}
use Rattle.mq_scan.specs.declared.blocks.Blocks.{Blocks}
use Rattle.mq_stations.specs.Leaving.{AreServed, AreSettled, IsLoad}
use Rattle.mq_kinds.specs.Servers.{AreSplitBlocks, AreSplitParts}
use Rattle.mq_stations.proofs.lemmas.Leaves.{splits}
use Rattle.mq_trunk.specs.Parts.{AreAdmitted}
use Rattle.mq_kinds.specs.Lefts.{LeaveInTurn, PassThrough}

-- a load of an equal kind
pub load-as : (rows : Rows) (kind kind' : Kind) (arrivals : Stream) → kind ≡ kind' → IsLoad rows kind arrivals → IsLoad rows kind' arrivals
load-as rows kind kind' arrivals is load = subst (λ (k : Kind). IsLoad rows k arrivals) is load

-- Jobs that keep their order leave in turn.
pub in-turn : (rows : Rows) (kind kind' : Kind) (arrivals : Stream) (departs : List ℕ) → kind ≡ kind' → AreServed rows kind' arrivals departs → LeaveInTurn rows kind arrivals departs
in-turn rows kind kind' arrivals departs is served = subst (λ (k : Kind). LeaveInTurn rows k arrivals departs) (sym is) (served.0, served.1 (record { job = arrivals.job; time = departs }))

-- A loss station.
pub some-places : (columns places : ℕ) (demand : Demand) → IsTrue (is_sound_kind columns (Loss places demand)) → 1 ≤ places
some-places columns places demand h =
    let a = and_parts (is_within 1 1048576 places) (is_sound_demand columns demand) h in
    let b = (and_parts (nat_le 1 places) (nat_le places 1048576) a.0).0 in
    grind (arith, nat_tests)

pub loss-settled : (rows : Rows) (kind : Kind) (places : ℕ) (demand : Demand) (arrivals : Stream) (settled : Settled) → kind ≡ Loss places demand → IsSettled places arrivals.time (map (demand_of_job rows demand) arrivals.job) settled → AreSettled rows kind arrivals settled
loss-settled rows kind places demand arrivals settled is s =
    let demands = map (demand_of_job rows demand) arrivals.job in
    subst (λ (k : Kind). AreSettled rows k arrivals settled) (sym is)
    (record {
      loses = inl (places, demand, refl);
      admitted = s.admitted;
      departs = s.departs;
      fates = (λ k. fates_by (s.admitted k) (s.departs k)) ∙ fates-back (loss_fates places [] arrivals.time demands) (loss-over places [] arrivals.time demands);
    })

-- A trunk group.
pub trunk-settled : (rows : Rows) (kind : Kind) (servers : ℕ) (demand : Demand) (arrivals : Stream) (settled : Settled) → kind ≡ Trunk servers demand → AreAdmitted servers arrivals (map (demand_of_job rows demand) arrivals.job) settled.admitted settled.departs → AreSettled rows kind arrivals settled
trunk-settled rows kind servers demand arrivals settled is a =
    subst (λ (k : Kind). AreSettled rows k arrivals settled) (sym is) (record { loses = inr (servers, demand, refl); admitted = a.admission; departs = a.departures; fates = a.fates })

-- A fork.
pub forks : (rows : Rows) (kind : Kind) (outputs : ℕ) (arrivals : Stream) (streams : List Stream) → kind ≡ Fork outputs → AreForked (came_in arrivals) outputs streams → PassThrough rows kind arrivals streams
forks rows kind outputs arrivals streams is forked =
    subst (λ (k : Kind). PassThrough rows k arrivals streams) (sym is) (record { fates = refl; streams_are = record { count = forked.count; each = λ out l. forked.each rows out l } })

-- A split.
pub routes : (rows : Rows) (kind : Kind) (route : Route) (arrivals : Stream) (values : List ℕ) (streams : List Stream) → kind ≡ TheSplit route → IsLoad rows kind arrivals → values ≡ map (route_value rows route) arrivals.job → AreParts route arrivals values streams → PassThrough rows kind arrivals streams
routes rows kind route arrivals values streams is load v h =
    subst (λ (k : Kind). PassThrough rows k arrivals streams) (sym is) (record { fates = refl; streams_are = (splits rows route arrivals _ values streams load.ordered.ordered v refl h).outflow })

-- what leaves all its blocks
pub blocks-split : (rows : Rows) (kind : Kind) (route : Route) (arrivals : Stream) (blocks : Blocks) (group : List (List Stream)) → IsLoad rows kind arrivals → blocks.n ≡ length arrivals.time → AreAll (AreSplitParts route arrivals (map (route_value rows route) arrivals.job) blocks) blocks.blocks group →
    AreSplitBlocks route arrivals (map (route_value rows route) arrivals.job) blocks group
blocks-split rows kind route arrivals blocks group load cut all =
    let values = map (route_value rows route) arrivals.job in
    let many : length values ≡ length arrivals.job = length-map arrivals.job (route_value rows route) in
    let even : length arrivals.job ≡ length arrivals.time = load.ordered.ordered.even in
    let few = load.few in
    let count = all.len in
    record {
      valued = record { jobs = sym many; times = sym even ∙ sym many };
      few = omega arith;
      all = omega arith;
      len = count;
      each = λ b d k. all.each b d (omega arith);
    }
