use Rattle.std.proofs.Common.{◌+◌, ◌++◌, ◌∷◌, ◌∙◌, [], ap, arith, drop, get_or, refl, set, subst, sym, take}
use Rattle.std.proofs.lemmas.List.{length-take-le}
use Rattle.std.proofs.lemmas.Option.{slice_get-get_or}
use Rattle.mq_base.proofs.lemmas.Lists.{take-all, take-at}
use Rattle.mq_base.proofs.lemmas.Zips.{zip-length}
use Rattle.mq_join.specs.Items.{AreCounted, indices_from, items_of}
use Rattle.mq_join.proofs.Rows.{row-few, rows-next}
use Rattle.mq_join.proofs.Steps.{indices-end, indices-next, zip-at}
use Rattle.mq_join.proofs.matches.count_items.Goals as goal

pub take-requires-clause-few : goal.take-requires-clause-few
take-requires-clause-few c =
    let g = c.args.gathered.now in
    let inside = c.requires.inside c.loop-at.at c.get.result.now c.get.ensures in
    let many = zip-length g.port g.stream.job g.jobs in
    let few = row-few g.ports c.loop-at.at (items_of g) c.loop-at.rows c.get-in-loop-at.result.now c.get.result.now (get_or c.loop-at.rows c.get.result.now c.index-rows-get.result) c.loop-at.invariant.rows
    (slice_get-get_or c.loop-at.rows c.get.result.now c.index-rows-get.result (omega arith)) (g.below c.loop-at.at _ c.get-in-loop-at.ensures) (omega arith) in
    let most = g.few in
    omega arith

pub loop-at-preserved : goal.loop-at-preserved
loop-at-preserved c =
    let g = c.args.gathered.now in
    let items = items_of g in
    let port = c.get-in-loop-at.result.now in
    let job = c.get.result.now in
    let many = zip-length g.port g.stream.job g.jobs in
    let inside = c.requires.inside c.loop-at.at job c.get.ensures in
    let here = zip-at g.port g.stream.job c.loop-at.at port job c.get-in-loop-at.ensures c.get.ensures in
    let own = slice_get-get_or c.loop-at.rows job c.index-rows-get.result (omega arith) in
    let taken = c.in_ok-take.ensures job (take c.loop-at.at items) (sym (length-take-le c.loop-at.at items (omega arith))) (c.loop-at.invariant.rows job _ own) in
    record {
      rows =
          subst (λ xs. AreCounted g.ports xs (set c.loop-at.rows job c.take.new.self)) (sym (take-at items c.loop-at.at (port, job) here))
          (rows-next g.ports (take c.loop-at.at items) port job c.loop-at.rows (set c.loop-at.rows job c.take.new.self) c.take.new.self refl (omega arith) c.loop-at.invariant.rows taken.0);
      so_far =
          ap (λ l. l ++ indices_from (take (c.loop-at.at + 1) items) (drop (c.loop-at.at + 1) items)) (c.push_reserved.ensures.items ∙ ap (λ n. c.loop-at.indices.items ++ n ∷ []) taken.1)
          ∙ indices-next items c.loop-at.at (port, job) here c.loop-at.indices.items _ c.loop-at.invariant.so_far;
      len = omega arith;
      room = omega arith;
    }

pub returns-clause-rows : goal.returns-clause-rows
returns-clause-rows c =
    let g = c.args.gathered.now in
    let many = zip-length g.port g.stream.job g.jobs in
    subst (λ xs. AreCounted g.ports xs c.loop-at.rows) (take-all (items_of g) c.loop-at.at (omega arith)) c.loop-at.invariant.rows

pub returns-clause-indices : goal.returns-clause-indices
returns-clause-indices c =
    let g = c.args.gathered.now in
    let many = zip-length g.port g.stream.job g.jobs in
    indices-end (items_of g) c.loop-at.at (omega arith) c.loop-at.indices.items _ c.loop-at.invariant.so_far
