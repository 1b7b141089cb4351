use Rattle.std.proofs.Common.{Some, ◌+◌, ◌++◌, ◌∷◌, ◌∙◌, [], ap, arith, drop, length, sym, take}
use Rattle.std.proofs.lemmas.Option.{slice_get-get_or}
use Rattle.mq_base.proofs.lemmas.Zips.{zip-length}
use Rattle.mq_base.proofs.lemmas.Lists.{get-some}
use Rattle.mq_core.specs.Kinds.Join.{matches_from}
use Rattle.mq_join.specs.Items.{items_of}
use Rattle.mq_join.proofs.Rows.{place-at}
use Rattle.mq_join.proofs.Steps.{index-many, matches-end, matches-next, zip-at}
use Rattle.mq_join.proofs.matches.places_of.Goals as goal

pub bounds-indices-at : goal.bounds-indices-at
bounds-indices-at c =
    let g = c.args.gathered.now in
    let many = zip-length g.port g.stream.job g.jobs in
    let a = ap length c.requires.indices in
    let b = index-many (items_of g) in
    omega arith

pub loop-at-preserved : goal.loop-at-preserved
loop-at-preserved c =
    let g = c.args.gathered.now in
    let items = items_of g in
    let job = c.get.result.now in
    let many = zip-length g.port g.stream.job g.jobs in
    let a = ap length c.requires.indices in
    let b = index-many items in
    let port = get-some g.port c.loop-at.at (omega arith) in
    let here = zip-at g.port g.stream.job c.loop-at.at port.0 job port.1 c.get.ensures in
    let some = g.below c.loop-at.at port.0 port.1 in
    let inside = c.requires.inside c.loop-at.at job c.get.ensures in
    let place =
    place-at g.ports c.loop-at.at items c.args.rows.now port.0 job _ c.index-rows-get.result c.args.indices.now c.requires.rows here (slice_get-get_or c.args.rows.now job c.index-rows-get.result (omega arith) ∙ ap Some (sym c.index-rows-get.is)) (omega arith) c.requires.indices
    (slice_get-get_or c.args.indices.now c.loop-at.at 0 (omega arith)) in
    record {
      so_far =
          ap (λ l. l ++ matches_from g.ports items (take (c.loop-at.at + 1) items) (drop (c.loop-at.at + 1) items)) (c.push_reserved.ensures.items ∙ ap (λ o. c.loop-at.matches.items ++ o ∷ []) (c.place.ensures ∙ place))
          ∙ matches-next g.ports items c.loop-at.at (port.0, job) here c.loop-at.matches.items _ c.loop-at.invariant.so_far;
      len = omega arith;
      room = omega arith;
    }

pub returns : goal.returns
returns c =
    let g = c.args.gathered.now in
    let many = zip-length g.port g.stream.job g.jobs in
    c.from_vec.ensures
    ∙ matches-end g.ports (items_of g) c.loop-at.at (omega arith) c.loop-at.matches.items _ c.loop-at.invariant.so_far
