use Rattle.std.proofs.Common.{◌^◌, inl, inr}
use Rattle.mq_trace.proofs.PlainRows.{number_field}
use Rattle.mq_trace.proofs.plain.column_field.Goals as goal

pub returns-then-not-reads : goal.returns-then-not-reads
returns-then-not-reads c = record {
  from = c.in-Some.field.now;
  field = c.in-Some-split_field.split.0.now;
  comma = c.in-Some.ensures;
  follows = c.in-Some-split_field.ensures;
  noted = inl c.if-not-reads.true;
}

pub returns : goal.returns
returns c =
    let (digits, split, number) = c.in-Some-split_number.ensures in
    record {
      from = c.in-Some.field.now;
      field = digits;
      comma = c.in-Some.ensures;
      follows = number_field c.in-Some.field.now digits c.in-Some-split_number.rest.now (2 ^ 36) c.in-Some-split_number.number split number;
      noted = inr number;
    }
