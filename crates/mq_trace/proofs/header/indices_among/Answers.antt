use Rattle.std.proofs.Common.{rules, ◌≡◌, ◌∙◌, ◌<◌, arith, refl, ap, ℕ, List, Bor, length, [], true, get_or, map, below_more}
use Rattle.std.specs.Result.{is_ok}
use Rattle.std.proofs.lemmas.List.{take_all}
use Rattle.std.specs.List.{position_or_len}
use Rattle.std.specs.Str.{bytes_eq}
use Rattle.mq_trace.proofs.RowFacts.{item_at, map_more, missing_at, none_is_missing, index_absent, index_found}
use Rattle.mq_trace.proofs.header.indices_among.Goals as goal

pub returns-in_default-clause-err : goal.returns-in_default-clause-err
returns-in_default-clause-err c = λ _.
    let i = c.loop-name.invariant in
    let C = map (λ (s : Bor (List ℕ)). s.now) c.args.names.now in
    let less : c.loop-name.name-index < length c.args.net.now.columns = omega (arith, c.loop-name-test.true, ap length c.as_slice-name-items.ensures) in
    let item : get_or c.args.net.now.columns c.loop-name.name-index [] ≡ c.name-item.result = item_at c.args.net.now.columns c.loop-name.name-index c.name-item.result less (rw c.as_slice-name-items.ensures at c.name-item.is) in
    let absent = index_absent c.args.names.now C c.name-item.result refl (rw c.as_slice.ensures at c.in_default.ensures) in
    rw (missing_at c.args.net.now.columns C c.loop-name.name-index less i.there (rw item absent), i.count) refl

pub overflow_add-column : goal.overflow_add-column
overflow_add-column c = omega (arith, c.loop-name.invariant.count, c.loop-name-test.true, ap length c.as_slice-name-items.ensures, c.requires)

pub loop-name-preserved : goal.loop-name-preserved
loop-name-preserved c =
    let i = c.loop-name.invariant in
    let C = map (λ (s : Bor (List ℕ)). s.now) c.args.names.now in
    let less : c.loop-name.name-index < length c.args.net.now.columns = omega (arith, c.loop-name-test.true, ap length c.as_slice-name-items.ensures) in
    let is = rw c.as_slice-name-items.ensures at c.name-item.is in
    let item : get_or c.args.net.now.columns c.loop-name.name-index [] ≡ c.name-item.result = item_at c.args.net.now.columns c.loop-name.name-index c.name-item.result less is in
    let found = index_found c.args.names.now C c.name-item.result c.in-Some.index refl (rw c.as_slice.ensures at c.in-Some.ensures) in
    let good : is_ok c.push.result ≡ true = search rules in
    let items = rw good at c.push.ensures.items in
    let more = map_more (λ (name : List ℕ). position_or_len (λ other. bytes_eq other name) C) c.args.net.now.columns c.loop-name.name-index c.name-item.result less is in
    record {
      count = omega (arith, i.count);
      indices = rw (items, i.indices, more, found.0) refl;
      there = below_more _ _ i.there (rw item found.1);
    }

pub returns-clause-none : goal.returns-clause-none
returns-clause-none c =
    let end : c.loop-name.name-index ≡ length c.args.net.now.columns = omega (arith, c.loop-name-test.false, c.loop-name.auto.name-index-end, ap length c.as_slice-name-items.ensures) in
    none_is_missing c.args.net.now.columns (map (λ (s : Bor (List ℕ)). s.now) c.args.names.now) (rw end at c.loop-name.invariant.there)

pub returns-clause-indices : goal.returns-clause-indices
returns-clause-indices c =
    let end : c.loop-name.name-index ≡ length c.args.net.now.columns = omega (arith, c.loop-name-test.false, c.loop-name.auto.name-index-end, ap length c.as_slice-name-items.ensures) in
    c.loop-name.invariant.indices ∙ rw (end, take_all (length c.args.net.now.columns) c.args.net.now.columns (omega arith)) refl
