use Rattle.std.proofs.Common.{refl, sym}
use Rattle.mq_trace.proofs.PlainRows.{field_cut}
use Rattle.mq_trace.proofs.plain_source.new_source.Goals as goal

pub returns : goal.returns
returns c =
    let cut = field_cut c.args.text.now _ c.in-Some.name.now c.in-Some.behind.now c.in-Some-behind_byte.rest.now c.in-Some.ensures c.in-Some-behind_byte.ensures refl in
    record {
      source_is = record { name = c.in-Some.name.now; stands = cut.0; named = sym c.in-Some-find_source.ensures };
      begins = cut.1;
    }
