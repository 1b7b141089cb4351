use Rattle.std.proofs.Common.{◌∙◌, sym, ap, Some}
use Rattle.mq_split.proofs.Pieces.{pieces-join}
use Rattle.mq_split.proofs.split.Goals as goal
use Rattle.mq_split.specs.Outs.{piece_of}

pub returns : goal.returns
returns c =
    let all = c.in_ok-streams.ensures in
    let stream = c.args.stream.now in
    let values = c.args.values.now in
    record {
      count = all.count;
      parts = λ out l.
          all.parts out l
          ∙ (ap (λ n. Some (piece_of c.args.route.now stream values 0 n out)) c.len.ensures
          ∙ ap Some (pieces-join.whole c.args.route.now stream values (record { jobs = sym c.requires.values; times = sym c.requires.stream.even ∙ sym c.requires.values }) out));
    }
